use Rattle.std.proofs.Common.{◌≡◌, ap, ◌∙◌, rules, of_calls, take}
use Rattle.std.specs.List.{prefix_len}
use Rattle.std.proofs.lemmas.Iterator.{YieldsList-from_slice}
use Rattle.std.proofs.lemmas.Iterator.Consumers.{count_from_yields_List}
use Rattle.std.proofs.lemmas.Iterator.Search.{YieldsList-from_take_while}
use Rattle.std.proofs.lemmas.List.Folds.{length-prefix_len}
use Rattle.lex.proofs.bytes.leading.Goals as goal

pub returns-clause-run : goal.returns-clause-run
returns-clause-run g c = λ p h.
    let bs = c.args.bytes.now in
    let e : c.count-n.result ≡ prefix_len p bs = count_from_yields_List _ _ c.count-n.ensures.ran (YieldsList-from_take_while _ p (YieldsList-from_slice bs cc) c.take_while.ensures.closure c.take_while.ensures.done (λ x b q k. search (rules, of_calls, h))) ∙ length-prefix_len p bs in
    ap (λ n. take n bs) e
