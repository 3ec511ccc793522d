-- The machine's answer for a whole text, in the words of the grammar.
use Rattle.std.proofs.Common.{◌≡◌, ℕ, ◌≤◌, ltb, List, length, sym, ap, ◌∙◌}
use Rattle.std.proofs.lemmas.Bool.{cond-true, cond-false, lt-ltb, le-ltb}
use Rattle.lex.proofs.Ends.{tokens-end}
use Rattle.grammar.specs.Judged.{Judged, tokens}
use Rattle.syntax.specs.Machine.{net, run}
use Rattle.grammar.specs.Reads.{verdict}
use Rattle.syntax.proofs.Converse.{refused}
use Rattle.syntax.proofs.Exact.{exact}

short : (text : List ℕ) → length text ≤ 16384 → verdict text ≡ run net (tokens text)
short text h = cond-false (ltb 16384 (length text)) (1, 0) (run net (tokens text)) (le-ltb 16384 (length text) h)

pub judged : (text : List ℕ) → Judged text (verdict text)
judged text =
    let ends = tokens-end text 0 in
    let fine = exact (tokens text) (length text) ends in
    record {
      long = λ h. cond-true (ltb 16384 (length text)) (1, 0) (run net (tokens text)) (lt-ltb 16384 (length text) h);
      accepted = λ h. (λ e. fine.0 (sym (ap (λ (x : ℕ × ℕ). x.0) (short text h)) ∙ e), λ w. short text h ∙ fine.1 w);
      refused = λ h w place. let f = refused (tokens text) (length text) ends w place in (λ e. f.0 (sym (short text h) ∙ e), λ x. short text h ∙ f.1 x);
    }
