use Rattle.syntax.proofs.Converse.{refused}
use Rattle.syntax.proofs.stands.refused_stands.Goals as goal

pub returns : goal.returns
returns c = refused
