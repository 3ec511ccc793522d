use Rattle.std.proofs.Common.{true, false, sym, ◌∙◌, arith}
use Rattle.tuples.specs.Matching.{accepts_all}
use Rattle.tuples.proofs.Places.{accepts_all-lengths, accepts_all-more, accepts_all-end}
use Rattle.tuples.proofs.template.Few+Place.matches.Goals as goal

pub returns-then-places-fields : goal.returns-then-places-fields
returns-then-places-fields c = sym (accepts_all-lengths _ _ c.if-places-fields.true) ∙ (λ i. accepts_all (c.items-places.ensures i) (c.items-fields.ensures i))

pub loop-i-preserved : goal.loop-i-preserved
loop-i-preserved c = sym (accepts_all-more _ _ c.loop-i.i _ _ true (omega arith) (omega arith) c.index-places-i.is c.index-fields-i.is (sym c.if-not-accepts.ensures)) ∙ c.loop-i.invariant

pub returns-then-not-accepts : goal.returns-then-not-accepts
returns-then-not-accepts c = sym (accepts_all-more _ _ c.loop-i.i _ _ false (omega arith) (omega arith) c.index-places-i.is c.index-fields-i.is (sym c.if-not-accepts.ensures)) ∙ c.loop-i.invariant ∙ (λ i. accepts_all (c.items-places.ensures i) (c.items-fields.ensures i))

pub returns : goal.returns
returns c = sym (accepts_all-end _ _ c.loop-i.i (omega arith) (omega arith)) ∙ c.loop-i.invariant ∙ (λ i. accepts_all (c.items-places.ensures i) (c.items-fields.ensures i))
