-- The names, words and aliases of a text, and what each name stands for. Assumes nothing.
use Rattle.std.specs.Prelude.{ℕ, zero, suc, Bool, cond, List, [], ◌∷◌, ◌++◌, map, is_some, Some, None, codes, Option}
use Rattle.std.specs.Option.{option_map}
use Rattle.std.specs.Str.{bytes_eq}
use Rattle.syntax.specs.Tree.{Named, Field, number, word, name, variable, Place, field, formal, More, OneToFour, UpToFour, Proc, one, par, Item, nil, call, act, group, Action, out, inp, read, eval, newloc, Net}

-- the place of the first element that passes
abbrev pub place_of : {A : Type 0} → (A → Bool) → List A → Option ℕ
place_of p [] = None
place_of p (x ∷ xs) = cond (p x) (Some 0) (option_map suc (place_of p xs))

-- whether two names are the same
abbrev pub same : List ℕ → Named → Bool
same w n = bytes_eq n.text w

-- the different ones among names, each at its first place, but for those that were seen before
abbrev pub differing : List Named → List Named → List Named
differing seen [] = []
differing seen (n ∷ ns) = cond (is_some (place_of (same n.text) seen)) (differing seen ns) (n ∷ differing (n ∷ seen) ns)

-- the entries of a list of up to four
abbrev pub more_of : {A : Type 0} → (n : ℕ) → More A n → List A
more_of zero m = []
more_of (suc n) None = []
more_of (suc n) (Some am) = am.0 ∷ more_of n am.1

-- the entries of a list of one to four
abbrev pub some_of : {A : Type 0} → OneToFour A → List A
some_of am = am.0 ∷ more_of 3 am.1

-- the entries of a list that may be empty
abbrev pub upto_of : {A : Type 0} → UpToFour A → List A
upto_of None = []
upto_of (Some am) = some_of am

-- what stands in each of some lists, one behind the other
abbrev pub gathered : {A B : Type 0} → (A → List B) → List A → List B
gathered f [] = []
gathered f (x ∷ xs) = f x ++ gathered f xs

-- the words of a text, in its order

-- the word that a field is, if it is one
abbrev pub field_words : Field → List Named
field_words (number v s) = []
field_words (word w) = w ∷ []
field_words (name w) = []
field_words (variable w) = []

-- the word that a place is, if it is one
abbrev pub place_words : Place → List Named
place_words (field f) = field_words f
place_words (formal v) = []

abbrev mutual
  pub proc_words : Proc → List Named
  proc_words (one i) = item_words i
  proc_words (par p b i) = proc_words p ++ item_words i

  pub item_words : Item → List Named
  item_words (nil s) = []
  item_words (call w fs) = gathered field_words (upto_of fs)
  item_words (act a i) = action_words a ++ item_words i
  item_words (group p) = proc_words p

  pub action_words : Action → List Named
  action_words (out s fs t) = gathered field_words (some_of fs)
  action_words (inp s ps t) = gathered place_words (some_of ps)
  action_words (read s ps t) = gathered place_words (some_of ps)
  action_words (eval s p t) = proc_words p
  action_words (newloc s v) = []

-- all words of a text: of definitions, opening tuples and agents
abbrev pub words_of : Net → List Named
words_of n = gathered (λ d. proc_words d.body) n.defs ++ (gathered (λ p. gathered field_words (some_of p.fields)) n.puts ++ gathered (λ r. proc_words r.body) n.runs)

-- the different words, in the order of the text: a word's number is its place here
abbrev pub words : Net → List Named
words n = differing [] (words_of n)

-- the different aliases, in the order of the text: an alias' number is its place here and one
abbrev pub aliases : Net → List Named
aliases n = differing [] (gathered (λ l. map (λ a. a.alias) l.aliases) n.sites)

-- the name of the site itself, an alias that nobody declares
abbrev pub self : List ℕ
self = codes "self"

-- the number of a site, by the first line that declares it
abbrev pub site_number : Net → List ℕ → Option ℕ
site_number n w = place_of (λ l. same w l.site) n.sites

-- the number of an alias
abbrev pub alias_number : Net → List ℕ → Option ℕ
alias_number n w = cond (bytes_eq w self) (Some 0) (option_map suc (place_of (same w) (aliases n)))

-- the number of a definition, by the first line that declares it
abbrev pub def_number : Net → List ℕ → Option ℕ
def_number n w = place_of (λ d. same w d.def) n.defs

-- the number of a word
abbrev pub word_number : Net → List ℕ → Option ℕ
word_number n w = place_of (same w) (words n)
