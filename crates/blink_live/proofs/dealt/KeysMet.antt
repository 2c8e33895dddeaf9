-- The keys of a list that were met so far, and the first of them that is taken.
use Rattle.std.proofs.Common.{◌≡◌, ◌≢◌, ◌⊎◌, ◌↔◌, ℕ, zero, suc, ◌+◌, ◌<◌, ◌≤◌, Bool, true, false, Some, None, List, [], ◌∷◌, ◌++◌, length, take, refl, sym, ap, ◌∙◌, subst, inl, inr, ⊎_elim, arith}
use Rattle.std.specs.Prelude.{IsTrue, Contains, slice_get, slice_index, cond}
use Rattle.std.specs.BTreeSet.{BTreeSet, contains, Updates}
use Rattle.std.specs.Ordering.{nat_cmp, eq_by_cmp, is_eq}
use Rattle.std.proofs.lemmas.Cmp.{nat_cmp_total, tied_itself}
use Rattle.std.proofs.lemmas.List.{take_more}
use Rattle.std.proofs.lemmas.List.Elements.{Contains-append_left, Contains-push, Contains-push_cases}
use Rattle.std.proofs.lemmas.Map.Lookups.{exact_unsigned}
use Rattle.std.proofs.lemmas.Map.Views.{tells_apart}
use mathlib.Core.Logic.{dite}
use native.Mathlib.Decide.{ℕ_discrete, dec_le}
use Rattle.blink_live.specs.Deals.{IsTakenAt, IsFirstTaken, NoneIsTaken}

not_tied : (k key : ℕ) → k ≢ key → eq_by_cmp nat_cmp k key ≡ false
not_tied k key ne = go (eq_by_cmp nat_cmp k key) refl
  where
    go : (b : Bool) → eq_by_cmp nat_cmp k key ≡ b → b ≡ false
    go true is = absurd (ne (tells_apart exact_unsigned k key is))
    go false is = refl

one_more : (keys : List ℕ) (place key : ℕ) → place < length keys → Contains (take place keys) key ⊎ (slice_index keys place ≡ key) → Contains (take (place + 1) keys) key
one_more keys place key inside either = subst (λ (l : List ℕ). Contains l key) (sym (take_more keys place 0 inside)) (⊎_elim
    (λ (before : Contains (take place keys) key). Contains-append_left (take place keys) (slice_index keys place ∷ []) key before)
    (λ (is : slice_index keys place ≡ key). subst (Contains (take place keys ++ slice_index keys place ∷ [])) is (Contains-push (take place keys) (slice_index keys place)))
    either)

one_less : (keys : List ℕ) (place key : ℕ) → place < length keys → Contains (take (place + 1) keys) key → Contains (take place keys) key ⊎ (slice_index keys place ≡ key)
one_less keys place key inside there = Contains-push_cases (take place keys) (slice_index keys place) key (subst (λ (l : List ℕ). Contains l key) (take_more keys place 0 inside) there)

-- a set of the keys before a place, with the key there
pub met_one_more : (old new : BTreeSet ℕ) (keys : List ℕ) (place : ℕ) → place < length keys → Updates nat_cmp old new (slice_index keys place) true
    → ((key : ℕ) → IsTrue (contains nat_cmp old key) ↔ Contains (take place keys) key)
    → (key : ℕ) → IsTrue (contains nat_cmp new key) ↔ Contains (take (place + 1) keys) key
met_one_more old new keys place inside updates before key = dite (ℕ_discrete (slice_index keys place) key)
    (λ is. (
      λ has. one_more keys place key inside (inr is),
      λ there. updates.0 key ∙ ap (λ b. cond (is_eq b) true (contains nat_cmp old key)) (ap (λ (k : ℕ). nat_cmp k key) is ∙ tied_itself nat_cmp_total key),
    ))
    (λ ne.
    let same : contains nat_cmp new key ≡ contains nat_cmp old key = updates.2 key (not_tied (slice_index keys place) key ne) in (
      λ has. one_more keys place key inside (inl ((before key).0 (sym same ∙ has))),
      λ there. same ∙ (before key).1 (⊎_elim (λ (was : Contains (take place keys) key). was) (λ (is : slice_index keys place ≡ key). absurd (ne is)) (one_less keys place key inside there)),
    ))

-- ---- the first taken key

some_injective : (a b : ℕ) → Some a ≡ Some b → a ≡ b
some_injective a b e = cc

pub at_place : (keys : List ℕ) (place : ℕ) → place < length keys → slice_get keys place ≡ Some (slice_index keys place)
at_place [] place inside = absurd (omega (arith, inside))
at_place (key ∷ keys) zero inside = refl
at_place (key ∷ keys) (suc place) inside = at_place keys place (omega (arith, inside))

pub past_end : (keys : List ℕ) (place : ℕ) → length keys ≤ place → slice_get keys place ≡ None
past_end [] place beyond = refl
past_end (key ∷ keys) zero beyond = absurd (omega (arith, beyond))
past_end (key ∷ keys) (suc place) beyond = past_end keys place (omega (arith, beyond))

abbrev pub NoneBefore : List ℕ → List ℕ → ℕ → Type 0
NoneBefore taken keys place = (earlier key : ℕ) → earlier < place → ¬ IsTakenAt taken keys earlier key

pub first_at : (taken keys : List ℕ) (place : ℕ) → place < length keys → NoneBefore taken keys place
    → Contains (take place keys) (slice_index keys place) ⊎ Contains taken (slice_index keys place) → IsFirstTaken taken keys (slice_index keys place)
first_at taken keys place inside before again = record {
  place = place;
  is_taken = record { at = at_place keys place inside; again = ⊎_elim (λ (t : Contains (take place keys) (slice_index keys place)). inr t) (λ (t : Contains taken (slice_index keys place)). inl t) again };
  none_before = before;
}

pub none_more : (taken keys : List ℕ) (place : ℕ) → place < length keys → NoneBefore taken keys place
    → ¬ Contains (take place keys) (slice_index keys place) → ¬ Contains taken (slice_index keys place) → NoneBefore taken keys (place + 1)
none_more taken keys place inside before not_met not_taken earlier key below is = elim (dec_le place earlier) [
  | yes last ↦
      let here : earlier ≡ place = omega (arith, last, below) in
      let same : key ≡ slice_index keys place = some_injective key (slice_index keys place) (sym is.at ∙ (ap (slice_get keys) here ∙ at_place keys place inside)) in
      ⊎_elim (λ (t : Contains taken key). not_taken (subst (Contains taken) same t))
      (λ (t : Contains (take earlier keys) key). not_met (subst (λ (x : ℕ × ℕ). Contains (take x.0 keys) x.1) (λ i. (here i, same i)) t)) is.again
  | no other ↦ before earlier key (omega (arith, other)) is
]

pub none_at_all : (taken keys : List ℕ) → NoneBefore taken keys (length keys) → NoneIsTaken taken keys
none_at_all taken keys before place key is = elim (dec_le (length keys) place) [
  | yes beyond ↦ let gone : slice_get keys place ≡ None = past_end keys place beyond in let there : slice_get keys place ≡ Some key = is.at in absurd (cc)
  | no inside ↦ before place key (omega (arith, inside)) is
]

-- there is one at most
pub first_is_one : (taken keys : List ℕ) (one other : ℕ) → IsFirstTaken taken keys one → IsFirstTaken taken keys other → one ≡ other
first_is_one taken keys one other a b = elim (dec_le a.place b.place) [
  | no later ↦ absurd (a.none_before b.place other (omega (arith, later)) b.is_taken)
  | yes le ↦ elim (dec_le b.place a.place) [
    | no later ↦ absurd (b.none_before a.place one (omega (arith, later)) a.is_taken)
    | yes ge ↦ let same : a.place ≡ b.place = omega (arith, le, ge) in some_injective one other (sym a.is_taken.at ∙ (ap (slice_get keys) same ∙ b.is_taken.at))
  ]
]
