use Rattle.std.proofs.Common.{◌≡◌, ◌<◌, ℕ, List, sym, inl, inr, ◌∙◌, subst, arith}
use Rattle.std.specs.Prelude.{Contains, slice_index}
use Rattle.std.proofs.lemmas.Bool.{cases_lt}
use Rattle.std.proofs.lemmas.List.{get_or_default}
use Rattle.blink_live.proofs.keys.has_all.Goals as goal

pub loop-place-preserved : goal.loop-place-preserved
loop-place-preserved c =
    let own : List ℕ = c.args.own.now in
    let keys : List ℕ = c.args.keys.now in
    let place : ℕ = c.loop-place.place in
    let key : ℕ = slice_index keys place in
    let at : ℕ = c.reach-next.result in
    let here = c.stands_at.ensures.0 c.if-not-stands_at.false in
    let has : Contains own key = (at, here.0, sym (get_or_default own at 0 key here.0) ∙ here.1) in record {
      found = λ n less. elim (cases_lt n place) [
        | inl before ↦ c.loop-place.invariant.found n before
        | inr behind ↦ let last : place ≡ n = omega (arith, behind, less) in subst (λ (k : ℕ). Contains own (slice_index keys k)) last has
      ];
      inside = c.reach-next.ensures.in_range.1;
    }

pub returns : goal.returns
returns c told key has =
    let inside = has.1 in
    let before : has.0 < c.loop-place.place = omega (arith, inside, c.loop-place-test.false) in
    subst (Contains c.args.own.now) (get_or_default c.args.keys.now has.0 0 key has.1 ∙ has.2) (c.loop-place.invariant.found has.0 before)
