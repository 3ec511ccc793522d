use Rattle.spaces.specs.Spaces.{is}
use Rattle.spaces.proofs.Bagging.{told_by_copies_lem}
use Rattle.spaces.proofs.laws.told_by_copies.Goals as goal

pub returns : goal.returns
returns c = λ xs ys. (told_by_copies_lem xs ys, λ same s t. same (is s t))
