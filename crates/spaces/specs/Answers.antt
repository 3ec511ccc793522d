-- What a space answers to a put. Assumes nothing.
use Rattle.std.specs.Prelude.{ℕ, cond, List, codes, Ok, Err, Result, nat_lt}
use Rattle.spaces.specs.declared.space.PutRefusal.{PutRefusal}
use Rattle.spaces.specs.declared.space.PutRefusal.TheVariants.{NoSuchSite, Full}

-- a site is one of 32, and below the limit there is room
abbrev pub put_answer : ℕ → ℕ → ℕ → Result (Unit {0}) PutRefusal
put_answer size limit site = cond (nat_lt site 32) (cond (nat_lt size limit) (Ok tt) (Err Full)) (Err NoSuchSite)

-- a refusal in words
abbrev pub words : PutRefusal → List ℕ
words NoSuchSite = codes "there is no such site"
words Full = codes "the space is full"
