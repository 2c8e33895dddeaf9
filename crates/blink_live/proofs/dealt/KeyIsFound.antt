-- A search among ascending keys leaves fewer of them by each step, and ends at the key if it is there.
use Rattle.std.proofs.Common.{◌≡◌, ◌⊎◌, ◌↔◌, ℕ, ◌+◌, ◌-◌, ◌*◌, ◌<◌, ◌≤◌, List, length, get_or, refl, sym, ap, ◌∙◌, subst, inl, inr, arith}
use native.Mathlib.Decide.{dec_le}
use Rattle.std.proofs.lemmas.List.{get_or_default}
use Rattle.std.proofs.lemmas.List.Sorted.{IsNonDecreasingBy-from_sort}
use Rattle.std.proofs.lemmas.Bool.Decides.{nat_tests}
use Rattle.std.specs.Prelude.{IsSorted, IsTrue, Contains, slice_index, ◌==◌}
use Rattle.std.specs.Ordering.{nat_cmp}
use Rattle.blink_live.specs.KeyTest.{HasReached, IsWindow}

pub whole : (keys : List ℕ) (key : ℕ) → IsWindow keys key 0 (length keys)
whole keys key = record { inside = omega arith; reached = inl refl; above = λ n low high. absurd (omega (arith, low, high)) }

module _ (keys : List ℕ) (key : ℕ) (ascending : IsSorted nat_cmp keys) where
  in_order : (i j : ℕ) → i ≤ j → j < length keys → get_or keys i 0 ≤ get_or keys j 0
  in_order i j le inside = IsNonDecreasingBy-from_sort (λ x. x) keys ascending i j 0 le inside

  -- the keys from one that is at most `key` on
  later : (first size next : ℕ) → IsWindow keys key first size → first ≤ next → next ≤ first + size → get_or keys next 0 ≤ key → IsWindow keys key next (first + size - next)
  later first size next window low high reached = record {
    inside = let inside = window.inside in omega (arith, inside, low, high);
    reached = inr reached;
    above = λ n beyond within. window.above n (omega (arith, beyond, low, high)) within;
  }

  -- the keys before one that is above `key`
  earlier : (first size less end : ℕ) → IsWindow keys key first size → end ≤ first + less → less ≤ size → end < length keys → key < get_or keys end 0 → IsWindow keys key first less
  earlier first size less end window within fewer inside above = record {
    inside = let whole_inside = window.inside in omega (arith, whole_inside, fewer);
    reached = window.reached;
    above = λ n beyond there. let ordered = in_order end n (omega (arith, beyond, within)) there in omega (arith, ordered, above);
  }

  -- a window from a key that is at most `key` to before one that is above it
  between : (first size next less end : ℕ) → IsWindow keys key first size → first ≤ next → next + less ≤ first + size → get_or keys next 0 ≤ key → end ≤ next + less → end < length keys → key < get_or keys end 0 → IsWindow keys key next less
  between first size next less end window low high reached within inside above =
      earlier next (first + size - next) less end (later first size next window low (omega (arith, high)) reached) within (omega (arith, low, high)) inside above

  -- one step over quarters
  module _ (first size quarter : ℕ) (window : IsWindow keys key first size) (few : 4 * quarter ≤ size) (some : 1 ≤ quarter) where
    to : (count passed : ℕ) → passed ≡ count → IsWindow keys key (first + quarter * count) (size - 3 * quarter) → IsWindow keys key (first + quarter * passed) (size - 3 * quarter)
    to count passed same is = subst (λ (n : ℕ). IsWindow keys key (first + quarter * n) (size - 3 * quarter)) (sym same) is

    places : (first + quarter < length keys) × (first + 2 * quarter < length keys) × (first + 3 * quarter < length keys)
    places = let inside = window.inside in (omega (arith, inside, few, some), omega (arith, inside, few, some), omega (arith, inside, few, some))

    at_place : (place other : ℕ) (less : ℕ) → place ≡ other → IsWindow keys key place less → IsWindow keys key other less
    at_place place other less same is = subst (λ (n : ℕ). IsWindow keys key n less) same is

    pub narrowed : (a b c : ℕ) → HasReached keys key (first + quarter) a → HasReached keys key (first + 2 * quarter) b → HasReached keys key (first + 3 * quarter) c
        → IsWindow keys key (first + quarter * (a + b + c)) (size - 3 * quarter)
    narrowed a b c (inl (is_a, one_a)) (inl (is_b, one_b)) (inl (is_c, one_c)) =
        to 3 (a + b + c) (omega (arith, one_a, one_b, one_c)) (at_place (first + 3 * quarter) (first + quarter * 3) (size - 3 * quarter) (omega arith)
        (subst (IsWindow keys key (first + 3 * quarter)) (let e : first + size - (first + 3 * quarter) ≡ size - 3 * quarter = omega (arith, few) in e)
        (later first size (first + 3 * quarter) window (omega arith) (omega (arith, few)) is_c)))
    narrowed a b c (inl (is_a, one_a)) (inl (is_b, one_b)) (inr (is_c, none_c)) =
        to 2 (a + b + c) (omega (arith, one_a, one_b, none_c)) (at_place (first + 2 * quarter) (first + quarter * 2) (size - 3 * quarter) (omega arith)
        (between first size (first + 2 * quarter) (size - 3 * quarter) (first + 3 * quarter) window (omega arith) (omega (arith, few)) is_b (omega (arith, few)) places.2 is_c))
    narrowed a b c (inl (is_a, one_a)) (inr (is_b, none_b)) (inr (is_c, none_c)) =
        to 1 (a + b + c) (omega (arith, one_a, none_b, none_c)) (at_place (first + quarter) (first + quarter * 1) (size - 3 * quarter) (omega arith)
        (between first size (first + quarter) (size - 3 * quarter) (first + 2 * quarter) window (omega arith) (omega (arith, few)) is_a (omega (arith, few)) places.1 is_b))
    narrowed a b c (inr (is_a, none_a)) (inr (is_b, none_b)) (inr (is_c, none_c)) =
        to 0 (a + b + c) (omega (arith, none_a, none_b, none_c)) (at_place first (first + quarter * 0) (size - 3 * quarter) (omega arith)
        (earlier first size (size - 3 * quarter) (first + quarter) window (omega (arith, few)) (omega arith) places.0 is_a))
    narrowed a b c (inr (is_a, none_a)) (inl (is_b, one_b)) reached_c =
        let ordered = in_order (first + quarter) (first + 2 * quarter) (omega arith) places.1 in absurd (omega (arith, ordered, is_a, is_b))
    narrowed a b c (inr (is_a, none_a)) (inr (is_b, none_b)) (inl (is_c, one_c)) =
        let ordered = in_order (first + 2 * quarter) (first + 3 * quarter) (omega arith) places.2 in absurd (omega (arith, ordered, is_b, is_c))
    narrowed a b c (inl (is_a, one_a)) (inr (is_b, none_b)) (inl (is_c, one_c)) =
        let ordered = in_order (first + 2 * quarter) (first + 3 * quarter) (omega arith) places.2 in absurd (omega (arith, ordered, is_b, is_c))

  -- one step over a key
  pub one_less : (first size a : ℕ) → IsWindow keys key first size → 1 < size → HasReached keys key (first + 1) a → IsWindow keys key (first + a) (size - 1)
  one_less first size a window more (inl (is, one)) =
      subst (λ (w : ℕ × ℕ). IsWindow keys key w.0 w.1) (λ i. ((let e : first + 1 ≡ first + a = omega (arith, one) in e) i, (let e : first + size - (first + 1) ≡ size - 1 = omega arith in e) i))
      (later first size (first + 1) window (omega arith) (omega (arith, more)) is)
  one_less first size a window more (inr (is, none)) =
      subst (λ (n : ℕ). IsWindow keys key n (size - 1)) (let e : first ≡ first + a = omega (arith, none) in e)
      (earlier first size (size - 1) (first + 1) window (omega (arith, more)) (omega arith) (let inside = window.inside in omega (arith, inside, more)) is)

  -- the key stands at the one place that is left, or nowhere
  pub stands_here : (place : ℕ) → IsWindow keys key place 1 → Contains keys key → slice_index keys place ≡ key
  stands_here place window there =
      let n : ℕ = there.0 in
      let inside : n < length keys = there.1 in
      let same : get_or keys n 0 ≡ key = get_or_default keys n 0 key inside ∙ there.2 in
      let place_inside = window.inside in
      elim (dec_le (place + 1) n) [
        | yes beyond ↦ absurd (let above = window.above n beyond inside in omega (arith, above, same))
        | no not_beyond ↦
            let ordered = in_order n place (omega (arith, not_beyond)) (omega (arith, place_inside)) in
            elim window.reached [
              | inl first ↦ let at : place ≡ n = omega (arith, first, not_beyond) in ap (λ (k : ℕ). get_or keys k 0) at ∙ same
              | inr reached ↦ omega (arith, ordered, reached, same)
            ]
      ]

  pub tells : (place : ℕ) → place < length keys → IsWindow keys key place 1 ⊎ (length keys ≡ 0) → IsTrue (slice_index keys place == key) ↔ Contains keys key
  tells place inside (inr none) = absurd (omega (arith, inside, none))
  tells place inside (inl window) = (
    λ equal. let same : get_or keys place 0 ≡ key = grind (arith, nat_tests, equal) in (place, inside, get_or_default keys place key 0 inside ∙ same),
    λ there. let same : slice_index keys place ≡ key = stands_here place window there in grind (arith, nat_tests, same),
  )

  pub none_there : (place : ℕ) → length keys ≤ place → IsWindow keys key place 1 ⊎ (length keys ≡ 0) → ¬ Contains keys key
  none_there place outside (inl window) there = let inside = window.inside in omega (arith, outside, inside)
  none_there place outside (inr none) there = let inside : there.0 < length keys = there.1 in omega (arith, none, inside)
