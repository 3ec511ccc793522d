use Rattle.std.proofs.Common.{◌≡◌, true, false, sym, rules}
use Rattle.lex.specs.Next.{is_end}
use Rattle.grammar.proofs.Walk.{ends, no_more}
use Rattle.grammar.proofs.unread.Unread.end.Goals as goal

pub returns-then-eq : goal.returns-then-eq
returns-then-eq c =
    let is : is_end c.in_ok-token.token.kind ≡ true = search rules in
    sym (ends c.in_ok-token.ensures is)

pub returns-else-eq : goal.returns-else-eq
returns-else-eq c =
    let is : is_end c.in_ok-token.token.kind ≡ false = search rules in
    sym (no_more c.in_ok-token.ensures is)
