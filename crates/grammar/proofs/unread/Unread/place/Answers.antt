use Rattle.std.proofs.Common.{[], ◌∷◌, refl}
use Rattle.std.proofs.lemmas.Bool.{cond-false}
use Rattle.syntax.specs.Machine.{entry, leaf, sign}
use Rattle.syntax.specs.declared.Entries.TheVariants.{Fields, Places}
use Rattle.syntax.specs.declared.Terminal.TheVariants.{Variable, TypeWord}
use Rattle.grammar.proofs.Walk.{along, stays, onwards, passes, alike, not_sign}
use Rattle.grammar.proofs.unread.Unread.place.Goals as goal

pub returns-in-Some : goal.returns-in-Some
returns-in-Some c =
    let took = rw c.in-Some.is at c.in_ok-rest.ensures in
    along (entry Places ∷ []) (leaf Variable ∷ sign 58 ∷ leaf TypeWord ∷ []) _ (onwards took refl) (λ k. passes took (entry Places ∷ k) _ refl) c.param.ensures

pub returns-in-None : goal.returns-in-None
returns-in-None c =
    let other = rw c.in-None.is at c.in_ok-rest.ensures in
    along (entry Places ∷ []) (entry Fields ∷ []) _ (stays c.args.self) (λ k. alike other.taken (entry Places ∷ k) (entry Fields ∷ k) (cond-false _ _ _ (not_sign 33 _ other.differs))) c.field.ensures
