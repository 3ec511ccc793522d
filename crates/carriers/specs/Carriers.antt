-- A carrier as a bag: the copies of each letter in the mail. Assumes nothing.
use Rattle.std.specs.Prelude.{ℕ, ◌≤◌, Bool, List, length, ◌==◌}
use Rattle.rows.specs.Bags.{many}
use Rattle.carriers.specs.declared.letter.Letter.{Letter}
use Rattle.carriers.specs.Letters.{same_letter}

-- whether a letter goes to the site
abbrev pub is_for : ℕ → Letter → Bool
is_for s l = l.to.number == s

-- the number of copies of a letter
abbrev pub copies : List Letter → Letter → ℕ
copies ls l = many (same_letter l) ls

-- a limit of at most 1024 that is kept
pub record Limited (ls : List Letter) (limit : ℕ) : Type 0 where
  pub fits : length ls ≤ limit
  pub most : limit ≤ 1024
