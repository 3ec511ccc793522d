use Rattle.std.proofs.Common.{refl}
use Rattle.carriers.proofs.Mailing.{fetched, fetched_nowhere}
use Rattle.carriers.proofs.mailbag.AnyCarrier.fetch.Goals as goal

pub returns-in_err-to : goal.returns-in_err-to
returns-in_err-to g c =
    let old = g.met.S.Mailbag.all c.args.self.now in
    let none = fetched_nowhere c.args.site c.from_residual.result (g.S.Store.listed c.args.self.now) c.from_residual.ensures c.in_err-to.ensures in
    record { after = rw old none.after; fixed = refl; oldest = none.is_found; order = none.is-out }

pub returns : goal.returns
returns g c =
    let old = g.met.S.Mailbag.all c.args.self.now in
    let new = g.met.S.Mailbag.all c.take.new.self in
    let out = c.take.ensures in
    let one = fetched c.in_ok-to.to c.args.site c.take.result _ _ c.in_ok-to.ensures out.got out.after in
    record {
      after = rw (old, new) one.after;
      fixed = rw (g.met.S.Mailbag.whole c.args.self.now, g.met.S.Mailbag.whole c.take.new.self) out.fixed;
      oldest = one.is_found;
      order = one.is-out;
    }
