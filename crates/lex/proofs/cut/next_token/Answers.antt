use Rattle.std.proofs.Common.{◌+◌, refl, length, arith}
use Rattle.lex.specs.Bytes.{is_blank}
use Rattle.lex.proofs.Cutting.{behind, found-end, next_cut, whole-rest}
use Rattle.lex.proofs.cut.next_token.Goals as goal

pub returns-then-start-text : goal.returns-then-start-text
returns-then-start-text c =
    let text = c.args.text.now in
    found-end _ _ _ (behind text _ c.args.at _ c.min-from.ensures (c.leading.ensures.run is_blank (λ _ _ h. h))) c.if-start-text.true refl

pub returns : goal.returns
returns c =
    let text = c.args.text.now in
    let start = c.min-from.result + length c.leading.result.now in
    rw c.ok_or.ensures.value
    (next_cut text c.args.at start (behind text _ c.args.at _ c.min-from.ensures (c.leading.ensures.run is_blank (λ _ _ h. h))) (omega arith) _ (whole-rest text start _ c.first_token.ensures))
