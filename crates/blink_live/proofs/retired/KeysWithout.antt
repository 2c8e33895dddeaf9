-- Keys without others: which these are, and how one pass over both lists finds them.
use Rattle.std.proofs.Common.{◌≡◌, ◌≢◌, ◌⊎◌, ◌↔◌, ℕ, suc, ◌+◌, ◌<◌, ◌≤◌, Bool, true, false, List, [], ◌∷◌, length, set, refl, sym, ap, ◌∙◌, subst, inl, inr, ⊎_elim, true≢false, arith}
use Rattle.std.specs.Prelude.{Contains, IsSorted, if◌then◌else◌, not, slice_index}
use Rattle.std.specs.Ordering.{nat_cmp}
use Rattle.std.proofs.lemmas.Bool.{cases_lt}
use Rattle.std.proofs.lemmas.List.{drop_more, get_or_default}
use Rattle.std.proofs.lemmas.List.Filters.{FiltersInPlace, FiltersInPlace-more_no, FiltersInPlace-more_set}
use Rattle.std.proofs.lemmas.List.Kept.{IsStrictlyIncreasing-filter}
use Rattle.std.specs.List.Sorted.{IsStrictlyIncreasing}
use Rattle.std.proofs.lemmas.List.Sorted.{IsNonDecreasingBy-from_sort}
use Rattle.blink_live.specs.Retiring.{IsFirstFrom, without}
use Rattle.blink_live.specs.Views.{is_among}
use Rattle.blink_live.proofs.dealt.FirstOrOneOfRest.{contains_case}
use Rattle.blink_live.proofs.dealt.KeysOfShare.{among_from_contains, contains_from_among}

here : (first : ℕ) (rest : List ℕ) (key : ℕ) → first ≡ key → Contains (first ∷ rest) key
here first rest key is = (0, omega arith, is)

later : (first : ℕ) (rest : List ℕ) (key : ℕ) → Contains rest key → Contains (first ∷ rest) key
later first rest key has = (suc has.0, let inside = has.1 in omega (arith, inside), has.2)

from_without : (keys others : List ℕ) (key : ℕ) → Contains (without keys others) key → Contains others key × (is_among keys key ≡ false)
from_without keys [] key has = absurd (let inside = has.1 in omega (arith, inside))
from_without keys (first ∷ rest) key has = go (from_without keys rest key) (is_among keys first) refl has
  where
    go : (Contains (without keys rest) key → Contains rest key × (is_among keys key ≡ false)) → (b : Bool) → is_among keys first ≡ b
        → Contains (if not b then first ∷ without keys rest else without keys rest) key → Contains (first ∷ rest) key × (is_among keys key ≡ false)
    go of_rest true is there = let t = of_rest there in (later first rest key t.0, t.1)
    go of_rest false is there = contains_case first (without keys rest) key there
        (λ (same : first ≡ key). (here first rest key same, ap (is_among keys) (sym same) ∙ is))
        (λ (in_rest : Contains (without keys rest) key). let t = of_rest in_rest in (later first rest key t.0, t.1))

in_without : (keys others : List ℕ) (key : ℕ) → Contains others key → is_among keys key ≡ false → Contains (without keys others) key
in_without keys [] key has apart = absurd (let inside = has.1 in omega (arith, inside))
in_without keys (first ∷ rest) key has apart = contains_case first rest key has
    (λ (same : first ≡ key). subst (λ (b : Bool). Contains (if not b then first ∷ without keys rest else without keys rest) key) (sym (ap (is_among keys) same ∙ apart)) (here first (without keys rest) key same))
    (λ (in_rest : Contains rest key). go (is_among keys first) (in_without keys rest key in_rest apart))
  where
    go : (b : Bool) → Contains (without keys rest) key → Contains (if not b then first ∷ without keys rest else without keys rest) key
    go true there = there
    go false there = later first (without keys rest) key there

pub not_among : (keys : List ℕ) (key : ℕ) → ¬ Contains keys key → is_among keys key ≡ false
not_among keys key none = go (is_among keys key) refl
  where
    go : (b : Bool) → is_among keys key ≡ b → b ≡ false
    go true is = absurd (none (contains_from_among keys key is))
    go false is = refl

-- a key stays exactly if it isn't among these
pub stays : (keys others : List ℕ) (key : ℕ) → Contains (without keys others) key ↔ (Contains others key × ¬ Contains keys key)
stays keys others key = (
  λ there. let t = from_without keys others key there in (t.0, λ has. true≢false (sym (among_from_contains keys key has) ∙ t.1)),
  λ both. in_without keys others key both.0 (not_among keys key both.1),
)

-- so a key that doesn't stay wasn't there, or is among these
pub left_out : (keys others : List ℕ) (key : ℕ) → ¬ Contains (without keys others) key → (¬ Contains others key) ⊎ Contains keys key
left_out keys others key gone = go (is_among keys key) refl
  where
    go : (b : Bool) → is_among keys key ≡ b → (¬ Contains others key) ⊎ Contains keys key
    go true is = inr (contains_from_among keys key is)
    go false is = inl (λ there. gone (in_without keys others key there is))

pub without_rises : (keys others : List ℕ) → IsStrictlyIncreasing others → IsStrictlyIncreasing (without keys others)
without_rises keys others rises = IsStrictlyIncreasing-filter (λ (key : ℕ). not (is_among keys key)) others rises

pub in_order : (keys : List ℕ) → IsSorted nat_cmp keys → (i j : ℕ) → i ≤ j → j < length keys → slice_index keys i ≤ slice_index keys j
in_order keys ascending i j le inside = IsNonDecreasingBy-from_sort (λ x. x) keys ascending i j 0 le inside

-- ---- whether a key is among ascending keys, of which those before `next` are below it

module _ (keys : List ℕ) (key next : ℕ) (inside : next ≤ length keys) where
  pub is_there : next < length keys → slice_index keys next ≡ key → is_among keys key ≡ true
  is_there less is = among_from_contains keys key (next, less, sym (get_or_default keys next 0 key less) ∙ is)

  pub isnt_there : IsSorted nat_cmp keys → ((n : ℕ) → n < next → slice_index keys n < key) → (next ≡ length keys) ⊎ (key ≤ slice_index keys next) → (next ≡ length keys) ⊎ (slice_index keys next ≢ key) → is_among keys key ≡ false
  isnt_there ascending below reached differs = not_among keys key (λ has.
      let at : slice_index keys has.0 ≡ key = get_or_default keys has.0 0 key has.1 ∙ has.2 in
      let within = has.1 in
      elim (cases_lt has.0 next) [
        | inl before ↦ let less = below has.0 before in omega (arith, less, at)
        | inr behind ↦
            let some : next < length keys = omega (arith, behind, within) in
            let ordered = in_order keys ascending next has.0 behind within in
            ⊎_elim (λ (at_end : next ≡ length keys). omega (arith, at_end, some))
            (λ (ne : slice_index keys next ≢ key). ⊎_elim (λ (at_end : next ≡ length keys). omega (arith, at_end, some))
            (λ (le : key ≤ slice_index keys next). ne (omega (arith, le, ordered, at))) reached)
            differs
      ])

  pub isnt_there_by : IsSorted nat_cmp keys → ((n : ℕ) → n < next → slice_index keys n < key) → (next ≡ length keys) ⊎ (key ≤ slice_index keys next) → ¬ ((next < length keys) × (slice_index keys next ≡ key)) → is_among keys key ≡ false
  isnt_there_by ascending below reached differs = isnt_there ascending below reached (elim (cases_lt next (length keys)) [
    | inl less ↦ inr (λ is. differs (less, is))
    | inr at_end ↦ inl (omega (arith, at_end, inside))
  ])

-- ---- a loop over both lists

-- the keys before `next` are below all that are still to come; so are those up to the place reached from there
pub below_reached : (keys from : List ℕ) (place next reached_at key : ℕ) → slice_index from place ≡ key → place < length from
    → ((n : ℕ) → n < next → (m : ℕ) → place ≤ m → m < length from → slice_index keys n < slice_index from m) → IsFirstFrom keys next key reached_at
    → (n : ℕ) → n < reached_at → slice_index keys n < key
below_reached keys from place next reached_at key is within passed reached n less = elim (cases_lt n next) [
  | inl before ↦ let below = passed n before place (omega arith) within in omega (arith, below, is)
  | inr behind ↦ reached.below n behind less
]

pub passed_reached : (keys from : List ℕ) (place next reached_at key : ℕ) → IsSorted nat_cmp from → slice_index from place ≡ key → place < length from
    → ((n : ℕ) → n < next → (m : ℕ) → place ≤ m → m < length from → slice_index keys n < slice_index from m) → IsFirstFrom keys next key reached_at
    → (n : ℕ) → n < reached_at → (m : ℕ) → place + 1 ≤ m → m < length from → slice_index keys n < slice_index from m
passed_reached keys from place next reached_at key ascending is within passed reached n less m later_on inside_from =
    let below = below_reached keys from place next reached_at key is within passed reached n less in
    let ordered = in_order from ascending place m (omega (arith, later_on)) inside_from in
    omega (arith, below, ordered, is)

-- what stays, where these keys are removed
abbrev pub keeps : List ℕ → ℕ → Bool
keeps keys key = not (is_among keys key)

pub same_at : (keys xs ys : List ℕ) (kept place : ℕ) → FiltersInPlace (keeps keys) xs ys kept place → place < length ys → slice_index ys place ≡ slice_index xs place
same_at keys xs ys kept place h less =
    let long = h.long in
    ap (λ (l : List ℕ). slice_index l 0) (sym (drop_more ys place 0 less) ∙ (h.rest ∙ drop_more xs place 0 (omega (arith, less, long))))

pub removes : (keys xs ys : List ℕ) (kept place key : ℕ) → FiltersInPlace (keeps keys) xs ys kept place → place < length ys → slice_index ys place ≡ key → is_among keys key ≡ true → FiltersInPlace (keeps keys) xs ys kept (place + 1)
removes keys xs ys kept place key h less is among = FiltersInPlace-more_no h less (ap not among) (sym is ∙ get_or_default ys place 0 key less)

pub keeps_on : (keys xs ys : List ℕ) (kept place key : ℕ) → FiltersInPlace (keeps keys) xs ys kept place → place < length ys → slice_index ys place ≡ key → is_among keys key ≡ false → FiltersInPlace (keeps keys) xs (set ys kept key) (kept + 1) (place + 1)
keeps_on keys xs ys kept place key h less is among = FiltersInPlace-more_set h less (ap not among) (sym is ∙ get_or_default ys place 0 key less)
