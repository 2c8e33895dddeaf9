-- The entries of a leaf from one key to before another, as a scan copies them.
use Rattle.std.proofs.Common.{◌≡◌, ℕ, zero, suc, ◌+◌, ◌<◌, ◌≤◌, Bool, true, false, ◌&&◌, if◌then◌else◌, List, [], ◌∷◌, ◌++◌, Option, length, get_or, take, refl, sym, ap, ◌∙◌, subst, arith}
use Rattle.std.specs.Prelude.{nat_le, nat_lt}
use Rattle.std.specs.List.{AllByRecursion}
use Rattle.std.proofs.lemmas.Bool.Decides.{nat_tests}
use Rattle.blink_batch.specs.declared.Entry.{Entry}
use Rattle.blink_batch.specs.{IsAscending, entry, pointer_of}
use Rattle.blink_page.specs.{IsRising, value_at}
use Rattle.blink_page.proofs.Offered.{from_at_most_to}
use Rattle.blink_live.specs.Scanning.{IsBetween, IsCopied}

-- the key is from `from` to below `stop`
abbrev pub is_in : ℕ → ℕ → ℕ → Bool
is_in from stop key = nat_le from key && nat_lt key stop

abbrev pub between : ℕ → ℕ → List (ℕ × ℕ) → List Entry
between from stop [] = []
between from stop ((k, v) ∷ rest) = if is_in from stop k then entry k v ∷ between from stop rest else between from stop rest

-- the tests tell where a key is
pub in_tells : (from stop key : ℕ) → is_in from stop key ≡ true → (from ≤ key) × (key < stop)
in_tells from stop key is = (grind (arith, nat_tests, is), grind (arith, nat_tests, is))

-- ---- what they say of a key

pub between-pointer : (from stop key : ℕ) (pairs : List (ℕ × ℕ)) → from ≤ key → key < stop → pointer_of (between from stop pairs) key ≡ value_at key pairs
between-pointer from stop key [] low high = refl
between-pointer from stop key ((k, v) ∷ rest) low high =
    let further : pointer_of (between from stop rest) key ≡ value_at key rest = between-pointer from stop key rest low high in
    grind (arith, nat_tests, further)

pub between-within : (from stop : ℕ) (pairs : List (ℕ × ℕ)) → AllByRecursion (IsBetween from stop) (between from stop pairs)
between-within from stop [] = tt
between-within from stop ((k, v) ∷ rest) = (elim (is_in from stop k) as (λ t. is_in from stop k ≡ t → AllByRecursion (IsBetween from stop) (if t then entry k v ∷ between from stop rest else between from stop rest)) [
  | true ↦ λ is. (in_tells from stop k is, between-within from stop rest)
  | false ↦ λ is. between-within from stop rest
]) refl

-- ---- they ascend

above_all : (from stop least a b : ℕ) (pairs : List (ℕ × ℕ)) → IsRising a pairs b → least < a → AllByRecursion (λ (e : Entry). least < e.key) (between from stop pairs)
above_all from stop least a b [] rises less = tt
above_all from stop least a b ((k, v) ∷ rest) rises less =
    let here = rises.0 in
    let further = above_all from stop least (k + 1) b rest rises.1 (omega (arith, here, less)) in
    elim (is_in from stop k) as (λ t. AllByRecursion (λ (e : Entry). least < e.key) (if t then entry k v ∷ between from stop rest else between from stop rest)) [
      | true ↦ (omega (arith, here, less), further)
      | false ↦ further
    ]

pub between-ascends : (from stop a b : ℕ) (pairs : List (ℕ × ℕ)) → IsRising a pairs b → IsAscending (between from stop pairs)
between-ascends from stop a b [] rises = tt
between-ascends from stop a b ((k, v) ∷ rest) rises =
    let further = between-ascends from stop (k + 1) b rest rises.1 in
    let above = above_all from stop k (k + 1) b rest rises.1 (omega arith) in
    elim (is_in from stop k) as (λ t. IsAscending (if t then entry k v ∷ between from stop rest else between from stop rest)) [
      | true ↦ (above, further)
      | false ↦ further
    ]

-- ---- one entry more

pub between_with : (from stop key value : ℕ) (pairs : List (ℕ × ℕ)) → from ≤ key → key < stop → between from stop (pairs ++ (key, value) ∷ []) ≡ between from stop pairs ++ entry key value ∷ []
between_with from stop key value [] low high =
    let is : is_in from stop key ≡ true = grind (arith, nat_tests) in
    ap (λ (t : Bool). if t then entry key value ∷ [] else []) is
between_with from stop key value ((k, v) ∷ rest) low high =
    let further = between_with from stop key value rest low high in
    elim (is_in from stop k) as (λ t. (if t then entry k v ∷ between from stop (rest ++ (key, value) ∷ []) else between from stop (rest ++ (key, value) ∷ [])) ≡ (if t then entry k v ∷ between from stop rest else between from stop rest) ++ entry key value ∷ []) [
      | true ↦ ap (λ (es : List Entry). entry k v ∷ es) further
      | false ↦ further
    ]

pub between_without : (from stop key value : ℕ) (pairs : List (ℕ × ℕ)) → key < from → between from stop (pairs ++ (key, value) ∷ []) ≡ between from stop pairs
between_without from stop key value [] less =
    let is : is_in from stop key ≡ false = grind (arith, nat_tests) in
    ap (λ (t : Bool). if t then entry key value ∷ [] else []) is
between_without from stop key value ((k, v) ∷ rest) less =
    ap (λ (es : List Entry). if is_in from stop k then entry k v ∷ es else es) (between_without from stop key value rest less)

-- ---- where they end

none_between : (from stop a b : ℕ) (pairs : List (ℕ × ℕ)) → IsRising a pairs b → stop ≤ a → between from stop pairs ≡ []
none_between from stop a b [] rises behind = refl
none_between from stop a b ((k, v) ∷ rest) rises behind =
    let here = rises.0 in
    let further = none_between from stop (k + 1) b rest rises.1 (omega (arith, here, behind)) in
    let out : is_in from stop k ≡ false = grind (arith, nat_tests, here, behind) in
    ap (λ (t : Bool). if t then entry k v ∷ between from stop rest else between from stop rest) out ∙ further

-- those before a key that isn't below `stop` are all
all_before : (from stop a b place : ℕ) (pairs : List (ℕ × ℕ)) → IsRising a pairs b → place < length pairs → stop ≤ (get_or pairs place (0, 0)).0 → between from stop (take place pairs) ≡ between from stop pairs
all_before from stop a b place [] rises inside behind = absurd (omega (arith, inside))
all_before from stop a b zero ((k, v) ∷ rest) rises inside behind = sym (none_between from stop k b ((k, v) ∷ rest) (omega arith, rises.1) behind)
all_before from stop a b (suc place) ((k, v) ∷ rest) rises inside behind =
    ap (λ (es : List Entry). if is_in from stop k then entry k v ∷ es else es) (all_before from stop (k + 1) b place rest rises.1 (omega (arith, inside)) behind)

-- keys that end below `stop` need no test
ends_below : (from stop a b : ℕ) (pairs : List (ℕ × ℕ)) → IsRising a pairs b → b ≤ stop → between from stop pairs ≡ between from b pairs
ends_below from stop a b [] rises below = refl
ends_below from stop a b ((k, v) ∷ rest) rises below =
    let reach = from_at_most_to (k + 1) rest b rises.1 in
    let same : is_in from stop k ≡ is_in from b k = grind (arith, nat_tests, reach, below) in
    (λ i. if same i then entry k v ∷ between from stop rest else between from stop rest)
    ∙ ap (λ (es : List Entry). if is_in from b k then entry k v ∷ es else es) (ends_below from stop (k + 1) b rest rises.1 below)

first_rise : (a b place : ℕ) (pairs : List (ℕ × ℕ)) → IsRising a pairs b → place < length pairs → IsRising a (take place pairs) (get_or pairs place (0, 0)).0
first_rise a b place [] rises inside = absurd (omega (arith, inside))
first_rise a b zero ((k, v) ∷ rest) rises inside = rises.0
first_rise a b (suc place) ((k, v) ∷ rest) rises inside = (rises.0, first_rise (k + 1) b place rest rises.1 (omega (arith, inside)))

pub below_end : (a b place : ℕ) (pairs : List (ℕ × ℕ)) → IsRising a pairs b → place < length pairs → (get_or pairs place (0, 0)).0 < b
below_end a b place [] rises inside = absurd (omega (arith, inside))
below_end a b zero ((k, v) ∷ rest) rises inside = let reach = from_at_most_to (k + 1) rest b rises.1 in omega (arith, reach)
below_end a b (suc place) ((k, v) ∷ rest) rises inside = below_end (k + 1) b place rest rises.1 (omega (arith, inside))

-- where there is one, its key is from `from` on
some_between : (from stop a b : ℕ) (pairs : List (ℕ × ℕ)) → IsRising a pairs b → 1 ≤ length (between from stop pairs) → from < b
some_between from stop a b [] rises some = absurd (omega (arith, some))
some_between from stop a b ((k, v) ∷ rest) rises some = (elim (is_in from stop k) as (λ t. is_in from stop k ≡ t → 1 ≤ length (if t then entry k v ∷ between from stop rest else between from stop rest) → from < b) [
  | true ↦ λ is more. let reach = from_at_most_to (k + 1) rest b rises.1 in let low = (in_tells from stop k is).0 in omega (arith, reach, low)
  | false ↦ λ is more. some_between from stop (k + 1) b rest rises.1 more
]) refl some

-- ---- the copy of a leaf, whose keys rise from `a` to below `b`

module _ (known : ℕ → Option ℕ) (from hi a b : ℕ) (pairs : List (ℕ × ℕ)) (rises : IsRising a pairs b) (states : (key : ℕ) → from ≤ key → key < b → value_at key pairs ≡ known key) where
  all_copied : (stop : ℕ) → stop ≤ b → IsCopied known from stop (between from stop pairs)
  all_copied stop within = record {
    exact = λ key low high. between-pointer from stop key pairs low high ∙ states key low (omega (arith, within, high));
    ascending = between-ascends from stop a b pairs rises;
    between = between-within from stop pairs;
  }

  -- the copy ends at an entry behind `hi`
  pub copied_to_hi : (place : ℕ) → place < length pairs → hi < (get_or pairs place (0, 0)).0 → IsCopied known from (hi + 1) (between from (hi + 1) (take place pairs))
  copied_to_hi place inside behind =
      let high = below_end a b place pairs rises inside in
      let ends : hi + 1 ≤ (get_or pairs place (0, 0)).0 = omega (arith, behind) in
      subst (IsCopied known from (hi + 1)) (sym (all_before from (hi + 1) a b place pairs rises inside ends)) (all_copied (hi + 1) (omega (arith, high, behind)))

  -- or at one for which there is no place
  pub copied_to_place : (place next : ℕ) → place < length pairs → next ≡ (get_or pairs place (0, 0)).0 → next ≤ hi → IsCopied known from next (between from (hi + 1) (take place pairs))
  copied_to_place place next inside at low =
      let high = below_end a b place pairs rises inside in
      let before = subst (IsRising a (take place pairs)) (sym at) (first_rise a b place pairs rises inside) in
      let same = ends_below from (hi + 1) a next (take place pairs) before (omega (arith, low)) ∙ all_before from next a b place pairs rises inside (omega (arith, at)) in
      subst (IsCopied known from next) (sym same) (all_copied next (omega (arith, at, high)))

  -- which is behind `from`
  pub next_is_behind : (place next : ℕ) → place < length pairs → next ≡ (get_or pairs place (0, 0)).0 → 1 ≤ length (between from (hi + 1) (take place pairs)) → from < next
  next_is_behind place next inside at some =
      some_between from (hi + 1) a next (take place pairs) (subst (IsRising a (take place pairs)) (sym at) (first_rise a b place pairs rises inside)) some

  -- or at the leaf's end, before `hi` or behind
  pub copied_to_end : b ≤ hi + 1 → IsCopied known from b (between from (hi + 1) pairs)
  copied_to_end below = subst (IsCopied known from b) (sym (ends_below from (hi + 1) a b pairs rises below)) (all_copied b (omega arith))

  pub copied_all : hi + 1 ≤ b → IsCopied known from (hi + 1) (between from (hi + 1) pairs)
  copied_all above = all_copied (hi + 1) above
