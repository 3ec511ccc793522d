-- A letter is its destination, its kind, its row and its places. Assumes nothing.
use Rattle.std.proofs.Common.{◌≡◌, ℕ, List, [], ◌∷◌, map, Decides, refl, ap, arith}
use Rattle.std.proofs.lemmas.Bool.Decides.{Decides-and, Decides-like, Decides-eqb}
use Rattle.tuples.specs.declared.field.Field.{Field}
use Rattle.tuples.specs.declared.place.Place.TheVariants.{Actual}
use Rattle.tuples.specs.Tuples.{Tuple, fields_of}
use Rattle.tuples.specs.Values.{same_place}
use Rattle.tuples.proofs.Sameness.{numbered-told, same_place-decides}
use Rattle.tuples.proofs.Padding.{tuple_told, template_told, same_all-decides}
use Rattle.rows.specs.Bags.{Same}
use Rattle.rows.proofs.Counting.{same-from-copies}
use Rattle.carriers.specs.declared.letter.Letter.{Letter}
use Rattle.carriers.specs.declared.letter.Body.{Body}
use Rattle.carriers.specs.declared.letter.Body.TheVariants.{Goods, Mover, InRequest, ReadRequest, Reply}
use Rattle.carriers.specs.Letters.{kind_of, row_of, actuals, places_in, same_letter}
use Rattle.carriers.specs.Carriers.{copies}

actual-told : (fs gs : List Field) → map Actual fs ≡ map Actual gs → fs ≡ gs
actual-told [] [] e = refl
actual-told [] (g ∷ gs) e = absurd (let z : ◌≡◌ {A = ℕ} 0 1 = cc in omega arith)
actual-told (f ∷ fs) [] e = absurd (let z : ◌≡◌ {A = ℕ} 0 1 = cc in omega arith)
actual-told (f ∷ fs) (g ∷ gs) e =
    let head : f ≡ g = cc in
    let tail : map Actual fs ≡ map Actual gs = cc in
    λ i. head i ∷ actual-told fs gs tail i

actuals-told : (s t : Tuple) → actuals s ≡ actuals t → s ≡ t
actuals-told s t e = tuple_told s t (actual-told (fields_of s) (fields_of t) e)

pub body-told : (a b : Body) → kind_of a ≡ kind_of b → row_of a ≡ row_of b → places_in a ≡ places_in b → a ≡ b
body-told (Goods t) (Goods u) k r e = ap Goods (actuals-told t u e)
body-told (Goods t) (Mover s) k r e = absurd (omega arith)
body-told (Goods t) (InRequest s n) k r e = absurd (omega arith)
body-told (Goods t) (ReadRequest s n) k r e = absurd (omega arith)
body-told (Goods t) (Reply s u) k r e = absurd (omega arith)
body-told (Mover q) (Goods u) k r e = absurd (omega arith)
body-told (Mover q) (Mover s) k r e = ap Mover (numbered-told q s r)
body-told (Mover q) (InRequest s n) k r e = absurd (omega arith)
body-told (Mover q) (ReadRequest s n) k r e = absurd (omega arith)
body-told (Mover q) (Reply s u) k r e = absurd (omega arith)
body-told (InRequest q m) (Goods u) k r e = absurd (omega arith)
body-told (InRequest q m) (Mover s) k r e = absurd (omega arith)
body-told (InRequest q m) (InRequest s n) k r e = λ i. InRequest (numbered-told q s r i) (template_told m n e i)
body-told (InRequest q m) (ReadRequest s n) k r e = absurd (omega arith)
body-told (InRequest q m) (Reply s u) k r e = absurd (omega arith)
body-told (ReadRequest q m) (Goods u) k r e = absurd (omega arith)
body-told (ReadRequest q m) (Mover s) k r e = absurd (omega arith)
body-told (ReadRequest q m) (InRequest s n) k r e = absurd (omega arith)
body-told (ReadRequest q m) (ReadRequest s n) k r e = λ i. ReadRequest (numbered-told q s r i) (template_told m n e i)
body-told (ReadRequest q m) (Reply s u) k r e = absurd (omega arith)
body-told (Reply q t) (Goods u) k r e = absurd (omega arith)
body-told (Reply q t) (Mover s) k r e = absurd (omega arith)
body-told (Reply q t) (InRequest s n) k r e = absurd (omega arith)
body-told (Reply q t) (ReadRequest s n) k r e = absurd (omega arith)
body-told (Reply q t) (Reply s u) k r e = λ i. Reply (numbered-told q s r i) (actuals-told t u e i)

letter_told : (a b : Letter) → a.to ≡ b.to → a.body ≡ b.body → a ≡ b
letter_told a b e f i = record { to = e i; body = f i }

pub letter_decides : (a b : Letter) → Decides (same_letter a b) (a ≡ b)
letter_decides a b =
    let places = same_all-decides same_place same_place-decides (places_in a.body) (places_in b.body) in
    let rows = Decides-and _ _ (Decides-eqb (row_of a.body) (row_of b.body)) places in
    let kinds = Decides-and _ _ (Decides-eqb (kind_of a.body) (kind_of b.body)) rows in
    let all = Decides-and _ _ (Decides-eqb a.to.number b.to.number) kinds in
    Decides-like _
    (λ e. letter_told a b (numbered-told a.to b.to e.0) (body-told a.body b.body e.1.0 e.1.1.0 e.1.1.1))
    (λ e. (ap (λ l. l.to.number) e, (ap (λ l. kind_of l.body) e, (ap (λ l. row_of l.body) e, ap (λ l. places_in l.body) e))))
    all

pub told_by_copies_lem : (xs ys : List Letter) → ((l : Letter) → copies ys l ≡ copies xs l) → Same xs ys
told_by_copies_lem = same-from-copies same_letter letter_decides
