-- Sites and words, which are told by their numbers. Assumes nothing.
use Rattle.tuples.specs.declared.numbered.Numbered.{Numbered}

-- one of 32 sites
abbrev pub Site : Type 0
Site = Numbered 32

-- one of 128 words
abbrev pub Word : Type 0
Word = Numbered 128
