use Rattle.std.proofs.Common.{◌+◌, ◌-◌, ◌<◌, length, refl, arith}
use Rattle.chained.specs.Links.{next_in, prev_in}
use Rattle.chained.proofs.Writing.{set_keeps, kept_twice}
use Rattle.chained.proofs.Freeing.{linked_more}
use Rattle.chained.proofs.free.link_all.Goals as goal

pub loop-i-preserved : goal.loop-i-preserved
loop-i-preserved c =
    let inv = c.loop-i.invariant in
    let within : c.loop-i.i < length c.loop-i.rows = omega (arith, c.loop-i.auto.rows) in
    record {
      nexts = linked_more next_in (λ k. k + 1) c.loop-i.rows c.loop-i.i _ within inv.nexts refl;
      prevs = linked_more prev_in (λ k. k - 1) c.loop-i.rows c.loop-i.i _ within inv.prevs c.saturating_sub-row.ensures;
      kept = kept_twice inv.kept (set_keeps c.loop-i.rows c.loop-i.i _ c.index-rows-i.result (omega (arith, c.loop-i.auto.rows)) refl);
    }
