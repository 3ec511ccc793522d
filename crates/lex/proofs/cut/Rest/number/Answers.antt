use Rattle.std.proofs.Common.{◌≡◌, rules, arith}
use Rattle.std.specs.Char.{is_ascii_digit}
use Rattle.std.proofs.lemmas.Bool.Decides.{nat_tests}
use Rattle.lex.specs.Tokens.{signs}
use Rattle.lex.proofs.Runs.{digits_at}
use Rattle.lex.proofs.cut.Rest.number.Goals as goal

pub returns-then-is_empty : goal.returns-then-is_empty
returns-then-is_empty c =
    let bs = c.args.self.bytes.now in
    let s : c.from-signs.result ≡ signs c.args.minus = search rules in
    let d = digits_at bs c.leading-digits.result.now _ _ s (search rules) (c.leading-digits.ensures.run is_ascii_digit (search rules)) in
    grind (arith, nat_tests)

pub returns : goal.returns
returns c =
    let bs = c.args.self.bytes.now in
    let s : c.from-signs.result ≡ signs c.args.minus = search rules in
    let d = digits_at bs c.leading-digits.result.now _ _ s (search rules) (c.leading-digits.ensures.run is_ascii_digit (search rules)) in
    (grind (arith, nat_tests), rw (← d.0, ← c.number.ensures, ← s) c.token.ensures)
