use Rattle.std.proofs.Common.{◌∙◌, arith}
use Rattle.chained.proofs.Writing.{kept_twice}
use Rattle.chained.proofs.Moving.{sound_chain, chain_inside, to_chain, to_alone, to_few, moved}
use Rattle.chained.proofs.links.transfer.Goals as goal

pub detach-left-requires : goal.detach-left-requires
detach-left-requires c = record { chain = sound_chain c.args.rows.now c.args.ends.now c.requires.sound c.args.from c.requires.from; here = c.requires.here }

pub attach-joined-requires : goal.attach-joined-requires
attach-joined-requires c =
    let rows = c.args.rows.now in
    let ends = c.args.ends.now in
    let r = c.requires in
    let mid = c.detach-left.new.rows in
    let out = c.detach-left.ensures.rest in
    record {
      chain = to_chain rows ends r.sound c.args.from c.args.at c.args.to r.from r.to r.apart r.here mid out c.detach-left.auto.rows;
      alone = to_alone rows ends r.sound c.args.from c.args.at c.args.to r.from r.to r.apart r.here mid out;
      within = omega (arith, chain_inside rows ends r.sound c.args.from r.from c.args.at r.here, c.detach-left.auto.rows);
      few = to_few rows ends r.sound c.args.from c.args.at c.args.to r.from r.to r.apart r.here mid out;
    }

pub returns : goal.returns
returns c =
    let r = c.requires in
    let out = c.detach-left.ensures in
    let on = c.attach-joined.ensures in
    moved c.args.rows.now c.args.ends.now r.sound c.args.from c.args.at c.args.to r.from r.to r.apart r.here c.detach-left.new.rows out.rest c.attach-joined.new.rows c.detach-left.result c.attach-joined.result out.gone out.both out.fewer on.come on.both on.more on.rest (c.attach-joined.auto.rows ∙ c.detach-left.auto.rows) (kept_twice out.kept on.kept)
