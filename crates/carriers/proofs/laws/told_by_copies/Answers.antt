use Rattle.carriers.specs.Letters.{same_letter}
use Rattle.carriers.proofs.Telling.{told_by_copies_lem}
use Rattle.carriers.proofs.laws.told_by_copies.Goals as goal

pub returns : goal.returns
returns c = λ xs ys. (told_by_copies_lem xs ys, λ same l. same (same_letter l))
