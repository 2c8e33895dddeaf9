-- The first key of a list that isn't among some keys, or stands earlier in the list.
use Rattle.std.proofs.Common.{◌≡◌, ◌⊎◌, ◌↔◌, ℕ, ◌+◌, ◌<◌, Some, None, List, [], ◌++◌, length, take, Result, Err, sym, ap, ◌∙◌, subst, inl, inr, ⊎_elim, arith}
use Rattle.std.specs.Prelude.{Contains, slice_get, slice_index}
use Rattle.std.proofs.lemmas.List.{get_or_default}
use Rattle.std.specs.List.Sorted.{IsPermutation, IsStrictlyIncreasing}
use Rattle.std.proofs.lemmas.List.Sorted.{Contains-permutation, IsPermutation-sym}
use native.Mathlib.Decide.{dec_le}
use Rattle.blink_live.specs.declared.error.HandError.{HandError}
use Rattle.blink_live.specs.declared.error.HandError.TheVariants.{NotYours}
use Rattle.blink_live.specs.Handing.{AllAreYours, IsFirstForeign, IsForeignAt}
use Rattle.blink_live.proofs.dealt.KeysInOrder.{none_twice, of_both, some_at}
use Rattle.blink_live.proofs.dealt.KeysMet.{at_place, past_end}

some_injective : (a b : ℕ) → Some a ≡ Some b → a ≡ b
some_injective a b e = cc

abbrev pub YoursBefore : List ℕ → List ℕ → ℕ → Type 0
YoursBefore own keys place = (earlier key : ℕ) → earlier < place → ¬ IsForeignAt own keys earlier key

pub first_at : (own keys : List ℕ) (place : ℕ) → place < length keys → YoursBefore own keys place
    → Contains (take place keys) (slice_index keys place) ⊎ (¬ Contains own (slice_index keys place)) → IsFirstForeign own keys (slice_index keys place)
first_at own keys place inside before either = record {
  place = place;
  is_foreign = record {
    at = at_place keys place inside;
    foreign = ⊎_elim (λ (t : Contains (take place keys) (slice_index keys place)). inr t) (λ (t : ¬ Contains own (slice_index keys place)). inl t) either;
  };
  none_before = before;
}

pub yours_more : (own keys : List ℕ) (place : ℕ) → place < length keys → YoursBefore own keys place
    → ¬ Contains (take place keys) (slice_index keys place) → Contains own (slice_index keys place) → YoursBefore own keys (place + 1)
yours_more own keys place inside before not_met mine earlier key below is = elim (dec_le place earlier) [
  | yes last ↦
      let here : earlier ≡ place = omega (arith, last, below) in
      let same : key ≡ slice_index keys place = some_injective key (slice_index keys place) (sym is.at ∙ (ap (slice_get keys) here ∙ at_place keys place inside)) in
      ⊎_elim (λ (t : ¬ Contains own key). t (subst (Contains own) (sym same) mine))
      (λ (t : Contains (take earlier keys) key). not_met (subst (λ (x : ℕ × ℕ). Contains (take x.0 keys) x.1) (λ i. (here i, same i)) t)) is.foreign
  | no other ↦ before earlier key (omega (arith, other)) is
]

pub yours_at_all : (own keys : List ℕ) → YoursBefore own keys (length keys) → AllAreYours own keys
yours_at_all own keys before place key is = elim (dec_le (length keys) place) [
  | yes beyond ↦ let gone : slice_get keys place ≡ None = past_end keys place beyond in let there : slice_get keys place ≡ Some key = is.at in absurd (cc)
  | no inside ↦ before place key (omega (arith, inside)) is
]

-- there is one at most
pub first_is_one : (own keys : List ℕ) (one other : ℕ) → IsFirstForeign own keys one → IsFirstForeign own keys other → one ≡ other
first_is_one own keys one other a b = elim (dec_le a.place b.place) [
  | no later ↦ absurd (a.none_before b.place other (omega (arith, later)) b.is_foreign)
  | yes le ↦ elim (dec_le b.place a.place) [
    | no later ↦ absurd (b.none_before a.place one (omega (arith, later)) a.is_foreign)
    | yes ge ↦ let same : a.place ≡ b.place = omega (arith, le, ge) in some_injective one other (sym a.is_foreign.at ∙ (ap (slice_get keys) same ∙ b.is_foreign.at))
  ]
]

pub same_key : {T : Type 0} (one other : ℕ) → ◌≡◌ {A = Result T HandError} (Err (NotYours one)) (Err (NotYours other)) → one ≡ other
same_key one other e = cc

one_key : (one other : ℕ) → NotYours one ≡ NotYours other → one ≡ other
one_key one other e = cc

pub same_refusal : {T : Type 0} (one other : HandError) → ◌≡◌ {A = Result T HandError} (Err one) (Err other) → one ≡ other
same_refusal one other e = cc

-- what a refusal tells that names it
pub tells_first : (own keys : List ℕ) (first : ℕ) → IsFirstForeign own keys first → (key : ℕ) → NotYours first ≡ NotYours key ↔ IsFirstForeign own keys key
tells_first own keys first found key = (
  λ same. subst (IsFirstForeign own keys) (one_key first key same) found,
  λ other. ap (λ (k : ℕ). NotYours k) (first_is_one own keys first key found other),
)

-- keys that are each the pass's own, and of which none stands twice
pub yours_from : (own keys sorted : List ℕ) → IsPermutation keys sorted → IsStrictlyIncreasing sorted → ((key : ℕ) → Contains sorted key → Contains own key) → AllAreYours own keys
yours_from own keys sorted moved rises mine place key is = ⊎_elim
    (λ (foreign : ¬ Contains own key). let at = some_at keys place key is.at in
    foreign (mine key (Contains-permutation keys sorted key moved (place, at.0, sym (get_or_default keys place 0 key at.0) ∙ at.1))))
    (λ (earlier : Contains (take place keys) key). none_twice [] keys sorted moved rises place key record { at = is.at; again = inr earlier })
    is.foreign

-- ---- the keys of both passes' lists

pub in_both : (own keys sorted merged all : List ℕ) → IsPermutation (own ++ sorted) merged → ((key : ℕ) → Contains all key ↔ Contains merged key) → IsPermutation keys sorted
    → (key : ℕ) → Contains all key ↔ (Contains own key ⊎ Contains keys key)
in_both own keys sorted merged all moved same its key =
    let both = of_both own sorted merged moved key in (
      λ has. ⊎_elim (λ (mine : Contains own key). inl mine) (λ (other : Contains sorted key). inr (Contains-permutation sorted keys key (IsPermutation-sym keys sorted its) other)) (both.0 ((same key).0 has)),
      λ either. (same key).1 (both.1 (⊎_elim (λ (mine : Contains own key). inl mine) (λ (other : Contains keys key). inr (Contains-permutation keys sorted key its other)) either)),
    )

pub same_keys : (keys sorted : List ℕ) → IsPermutation keys sorted → (key : ℕ) → Contains sorted key ↔ Contains keys key
same_keys keys sorted moved key = (Contains-permutation sorted keys key (IsPermutation-sym keys sorted moved), Contains-permutation keys sorted key moved)
