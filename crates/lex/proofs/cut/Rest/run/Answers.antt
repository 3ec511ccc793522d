use Rattle.std.proofs.Common.{refl, rules}
use Rattle.std.proofs.Common.{tests}
use Rattle.std.specs.Char.{is_ascii_alphanumeric}
use Rattle.lex.proofs.Runs.{run_starts}
use Rattle.lex.proofs.cut.Rest.run.Goals as goal

pub token-requires-clause-moves : goal.token-requires-clause-moves
token-requires-clause-moves c =
    rw (c.leading-text.ensures.run is_ascii_alphanumeric (search rules)) ((run_starts is_ascii_alphanumeric refl c.args.self.bytes.now).0 (search (tests, rules)))
