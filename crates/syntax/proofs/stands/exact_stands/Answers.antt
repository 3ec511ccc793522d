use Rattle.syntax.proofs.Exact.{exact}
use Rattle.syntax.proofs.stands.exact_stands.Goals as goal

pub returns : goal.returns
returns c = exact
