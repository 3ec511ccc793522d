-- What a byte is, and what a run of letters and digits is.
use Rattle.std.specs.Prelude.{◌≡◌, ℕ, Bool, false, cond, not, ◌&&◌, ◌||◌, List, length, Some, None, codes, Option, ◌==◌, nat_le}
use Rattle.std.specs.Str.{bytes_eq}
use Rattle.lex.specs.declared.Keyword.{Keyword}
use Rattle.lex.specs.declared.Keyword.TheVariants.{Site, Def, Put, Run, Nil, Out, In, Read, Eval, Newloc, Num, Word}
use Rattle.lex.specs.declared.Kind.{Kind}
use Rattle.lex.specs.declared.Kind.TheVariants.{Reserved, Name}

-- blanks are space, tab, CR and LF
abbrev pub is_blank : ℕ → Bool
is_blank b = b == 32 || (b == 9 || (b == 13 || b == 10))

-- the bytes that may stand in a word
abbrev pub is_plain : ℕ → Bool
is_plain b = nat_le 32 b && (nat_le b 126 && not (b == 34))

-- the grammar's signs: ! ( ) , . : ; = @ { | }
abbrev pub is_mark : ℕ → Bool
is_mark b =
    b == 33 || (b == 40 || (b == 41 || (b == 44 || (b == 46 || (b == 58 || (b == 59 || (b == 61 || (b == 64 || (b == 123 || (b == 124 || b == 125))))))))))

-- the reserved word that the bytes spell
abbrev pub reserved : List ℕ → Option Keyword
reserved w =
    cond (bytes_eq w (codes "site")) (Some Site)
    (cond (bytes_eq w (codes "def")) (Some Def)
    (cond (bytes_eq w (codes "put")) (Some Put)
    (cond (bytes_eq w (codes "run")) (Some Run)
    (cond (bytes_eq w (codes "nil")) (Some Nil)
    (cond (bytes_eq w (codes "out")) (Some Out)
    (cond (bytes_eq w (codes "in")) (Some In)
    (cond (bytes_eq w (codes "read")) (Some Read)
    (cond (bytes_eq w (codes "eval")) (Some Eval)
    (cond (bytes_eq w (codes "newloc")) (Some Newloc)
    (cond (bytes_eq w (codes "num")) (Some Num)
    (cond (bytes_eq w (codes "word")) (Some Word)
    None)))))))))))

-- a run of letters and digits is a reserved word, a name, or too long for either
abbrev pub run_kind : List ℕ → Option Kind
run_kind w = elim (reserved w) [ Some k ↦ Some (Reserved k) | None ↦ cond (nat_le (length w) 16) (Some Name) None ]

-- a name is no reserved word and has at most 16 bytes
abbrev pub is_name : List ℕ → Bool
is_name w = elim (reserved w) [ Some k ↦ false | None ↦ nat_le (length w) 16 ]

-- each result that post tells is that of the test p
abbrev pub Computes : (ℕ → Bool → Type 0) → (ℕ → Bool) → Type 0
Computes post p = (b : ℕ) (r : Bool) → post b r → r ≡ p b
