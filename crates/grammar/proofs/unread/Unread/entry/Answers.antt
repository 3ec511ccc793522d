use Rattle.std.proofs.Common.{[], ◌∷◌}
use Rattle.syntax.specs.Machine.{entry, leaf, sign}
use Rattle.syntax.specs.declared.Entries.TheVariants.{Params}
use Rattle.syntax.specs.declared.Terminal.TheVariants.{Variable, TypeWord}
use Rattle.grammar.proofs.Walk.{along, stays, param_goes}
use Rattle.grammar.proofs.unread.Unread.entry.Goals as goal

pub returns-in-Params : goal.returns-in-Params
returns-in-Params c = rw c.in-Params.is (along (entry Params ∷ []) (leaf Variable ∷ sign 58 ∷ leaf TypeWord ∷ []) _ (stays c.args.self) (λ k. param_goes k _) c.param.ensures)
