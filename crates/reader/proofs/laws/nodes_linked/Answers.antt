use Rattle.reader.proofs.Nodes.{nodes_numbered, begins_inside, nodes_closed}
use Rattle.reader.proofs.laws.nodes_linked.Goals as goal

pub returns : goal.returns
returns c = record { numbered = nodes_numbered; begins = begins_inside; closed = nodes_closed }
