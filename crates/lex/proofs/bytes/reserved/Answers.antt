use Rattle.std.proofs.Common.{sym, ap, codes, rules, arith}
use Rattle.std.proofs.lemmas.Slice.Eq.{text_from_reads}
use Rattle.lex.specs.Bytes.{reserved}
use Rattle.lex.proofs.bytes.reserved.Goals as goal

pub returns-in-newloc : goal.returns-in-newloc
returns-in-newloc c = sym (ap reserved (text_from_reads c.args.w.now (codes "newloc") (omega arith) (search rules)))
