use Rattle.std.proofs.Common.{refl, arith, rules}
use Rattle.grammar.proofs.Walk.{strays}
use Rattle.grammar.proofs.unread.Unread.token.Goals as goal

pub returns-in_err-token : goal.returns-in_err-token
returns-in_err-token c = search (rules, strays)

pub returns : goal.returns
returns c = let f = c.in_ok-token.ensures in record { same = refl; moves = λ on. omega (arith, f.moves on, f.ahead); first = f.first }
