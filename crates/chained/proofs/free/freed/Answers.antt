use Rattle.std.proofs.Common.{◌≡◌, rules, min, sym, refl, ap, ◌∙◌}
use Rattle.chained.proofs.Freeing.{none, fresh}
use Rattle.chained.proofs.free.freed.Goals as goal

pub returns-clause-fresh : goal.returns-clause-fresh
returns-clause-fresh c =
    let linked = c.link_all.ensures in
    let e : c.default-ends.result ≡ none = search rules in
    rw e (fresh c.link_all.new.rows (record { first = 0; last = c.saturating_sub.result; many = c.min-many.result }) (c.min-many.ensures ∙ ap (λ n. min n 4096) (sym c.link_all.auto.rows)) refl c.saturating_sub.ensures linked.nexts linked.prevs)
