-- How refusals are told, by number and in words.
use Rattle.std.specs.Prelude.{ℕ, List, codes}
use Rattle.lex.specs.declared.refusal.Refusal.{Refusal}
use Rattle.lex.specs.declared.refusal.Refusal.TheVariants.{TooLong, NotAllowed, TooDeep, TooLarge}

-- 1 for more than 16,384 bytes, 2 for a token that the grammar does not allow, 3 for a 17th open bracket, 4 for a number outside 32 bits
abbrev pub number_of : Refusal → ℕ
number_of TooLong = 1
number_of NotAllowed = 2
number_of TooDeep = 3
number_of TooLarge = 4

-- a refusal and its place, by number
abbrev pub told : (Refusal × ℕ) → ℕ × ℕ
told p = (number_of p.0, p.1)

-- a refusal in words
abbrev pub words : Refusal → List ℕ
words TooLong = codes "the text is too long"
words NotAllowed = codes "the grammar does not allow this token"
words TooDeep = codes "too many brackets are open"
words TooLarge = codes "the number has more than 32 bits"
