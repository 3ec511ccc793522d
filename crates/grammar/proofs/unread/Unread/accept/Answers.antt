use Rattle.std.proofs.Common.{◌≡◌, ◌≢◌, Bool, true, false, refl, rules}
use Rattle.std.specs.Bool.{then_some}
use Rattle.std.specs.Option.{MatchOption}
use Rattle.lex.specs.declared.Kind.{Kind}
use Rattle.lex.specs.declared.Token.{Token}
use Rattle.grammar.specs.Reads.{Taken, Accepted, Other}
use Rattle.grammar.specs.declared.unread.Unread.{Unread}
use Rattle.grammar.proofs.unread.Unread.accept.Goals as goal

chosen : (kind : Kind) (u v : Unread) (token : Token) (b : Bool) → Taken u token v → (b ≡ true → token.kind ≡ kind) → (b ≡ false → token.kind ≢ kind) → MatchOption (then_some b v) (Other kind u) (λ after. Accepted kind u after)
chosen kind u v token true next is differs = record { t = token; taken = next; is = is refl }
chosen kind u v token false next is differs = record { t = token; after = v; taken = next; differs = differs refl }

pub returns : goal.returns
returns c = rw c.then_some.ensures (chosen c.args.kind c.args.self c.in_ok-token.rest c.in_ok-token.token c.eq.result c.in_ok-token.ensures (λ e. search rules) (λ e. search rules))
