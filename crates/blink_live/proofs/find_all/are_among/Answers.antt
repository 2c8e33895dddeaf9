use Rattle.std.proofs.Common.{◌≡◌, ◌<◌, ℕ, List, inl, inr, ◌∙◌, subst, arith}
use Rattle.std.specs.Prelude.{Contains, slice_index}
use Rattle.std.proofs.lemmas.Bool.{cases_lt}
use Rattle.std.proofs.lemmas.List.{get_or_default}
use Rattle.blink_live.proofs.find_all.are_among.Goals as goal

pub loop-place-preserved : goal.loop-place-preserved
loop-place-preserved c n less =
    let own : List ℕ = c.args.own.now in
    let keys : List ℕ = c.args.keys.now in
    let place : ℕ = c.loop-place.place in
    let has : Contains own (slice_index keys place) = c.is_among_near.ensures.0 c.if-not-is_among_near.false in
    elim (cases_lt n place) [
      | inl before ↦ c.loop-place.invariant n before
      | inr behind ↦ let last : place ≡ n = omega (arith, behind, less) in subst (λ (k : ℕ). Contains own (slice_index keys k)) last has
    ]

pub returns-clause-all : goal.returns-clause-all
returns-clause-all c told key has =
    let inside = has.1 in
    let before : has.0 < c.loop-place.place = omega (arith, inside, c.loop-place-test.false) in
    subst (Contains c.args.own.now) (get_or_default c.args.keys.now has.0 0 key has.1 ∙ has.2) (c.loop-place.invariant has.0 before)
