-- The entries of a leaf from one key to before another, as a backward scan copies them: the last first.
use Rattle.std.proofs.Common.{◌≡◌, ℕ, zero, suc, ◌+◌, ◌<◌, ◌≤◌, Bool, true, false, if◌then◌else◌, Option, List, [], ◌∷◌, length, get_or, drop, refl, sym, ap, ◌∙◌, subst, arith}
use Rattle.std.proofs.lemmas.Bool.Decides.{nat_tests}
use Rattle.std.proofs.Math.Seq.{drop-cons}
use Rattle.blink_batch.specs.declared.Entry.{Entry}
use Rattle.blink_batch.specs.{entry}
use Rattle.blink_page.specs.{IsRising, value_at}
use Rattle.blink_live.specs.Scanning.{IsCopied}
use Rattle.blink_live.proofs.scanned.EntriesBetween.{between, between-ascends, between-pointer, between-within, in_tells, is_in}

-- ---- one entry more before them

pub before_with : (start stop place : ℕ) (pairs : List (ℕ × ℕ)) → place < length pairs → start ≤ (get_or pairs place (0, 0)).0 → (get_or pairs place (0, 0)).0 < stop
    → between start stop (drop place pairs) ≡ entry (get_or pairs place (0, 0)).0 (get_or pairs place (0, 0)).1 ∷ between start stop (drop (suc place) pairs)
before_with start stop place pairs inside low high =
    let e : ℕ × ℕ = get_or pairs place (0, 0) in
    let is : is_in start stop e.0 ≡ true = grind (arith, nat_tests, low, high) in
    ap (between start stop) (drop-cons pairs place (0, 0) inside)
    ∙ ap (λ (t : Bool). if t then entry e.0 e.1 ∷ between start stop (drop (suc place) pairs) else between start stop (drop (suc place) pairs)) is

pub before_without : (start stop place : ℕ) (pairs : List (ℕ × ℕ)) → place < length pairs → stop ≤ (get_or pairs place (0, 0)).0
    → between start stop (drop place pairs) ≡ between start stop (drop (suc place) pairs)
before_without start stop place pairs inside behind =
    let e : ℕ × ℕ = get_or pairs place (0, 0) in
    let is : is_in start stop e.0 ≡ false = grind (arith, nat_tests, behind) in
    ap (between start stop) (drop-cons pairs place (0, 0) inside)
    ∙ ap (λ (t : Bool). if t then entry e.0 e.1 ∷ between start stop (drop (suc place) pairs) else between start stop (drop (suc place) pairs)) is

-- ---- where they begin

-- the keys behind an entry are above its key
pub rest_rises : (a b place : ℕ) (pairs : List (ℕ × ℕ)) → IsRising a pairs b → place < length pairs → IsRising ((get_or pairs place (0, 0)).0 + 1) (drop (suc place) pairs) b
rest_rises a b place [] rises inside = absurd (omega (arith, inside))
rest_rises a b zero ((k, v) ∷ rest) rises inside = rises.1
rest_rises a b (suc place) ((k, v) ∷ rest) rises inside = rest_rises (k + 1) b place rest rises.1 (omega (arith, inside))

pub key_from : (a b place : ℕ) (pairs : List (ℕ × ℕ)) → IsRising a pairs b → place < length pairs → a ≤ (get_or pairs place (0, 0)).0
key_from a b place [] rises inside = absurd (omega (arith, inside))
key_from a b zero ((k, v) ∷ rest) rises inside = rises.0
key_from a b (suc place) ((k, v) ∷ rest) rises inside =
    let here = rises.0 in
    let further = key_from (k + 1) b place rest rises.1 (omega (arith, inside)) in
    omega (arith, here, further)

-- those behind an entry whose key is below `start` are all
all_behind : (start stop a b place : ℕ) (pairs : List (ℕ × ℕ)) → IsRising a pairs b → place < length pairs → (get_or pairs place (0, 0)).0 < start → between start stop (drop (suc place) pairs) ≡ between start stop pairs
all_behind start stop a b place [] rises inside less = absurd (omega (arith, inside))
all_behind start stop a b zero ((k, v) ∷ rest) rises inside less =
    let out : is_in start stop k ≡ false = grind (arith, nat_tests, less) in
    sym (ap (λ (t : Bool). if t then entry k v ∷ between start stop rest else between start stop rest) out)
all_behind start stop a b (suc place) ((k, v) ∷ rest) rises inside less =
    let above = key_from (k + 1) b place rest rises.1 (omega (arith, inside)) in
    let out : is_in start stop k ≡ false = grind (arith, nat_tests, less, above) in
    all_behind start stop (k + 1) b place rest rises.1 (omega (arith, inside)) less
    ∙ sym (ap (λ (t : Bool). if t then entry k v ∷ between start stop rest else between start stop rest) out)

-- keys that begin above `start` need no test
begins_above : (lo start stop a b : ℕ) (pairs : List (ℕ × ℕ)) → IsRising a pairs b → lo ≤ a → start ≤ a → between lo stop pairs ≡ between start stop pairs
begins_above lo start stop a b [] rises low above = refl
begins_above lo start stop a b ((k, v) ∷ rest) rises low above =
    let here = rises.0 in
    let same : is_in lo stop k ≡ is_in start stop k = grind (arith, nat_tests, here, low, above) in
    (λ i. if same i then entry k v ∷ between lo stop rest else between lo stop rest)
    ∙ ap (λ (es : List Entry). if is_in start stop k then entry k v ∷ es else es) (begins_above lo start stop (k + 1) b rest rises.1 (omega (arith, here, low)) (omega (arith, here, above)))

-- where there is one, it is before `stop`
some_before : (start stop a b : ℕ) (pairs : List (ℕ × ℕ)) → IsRising a pairs b → 1 ≤ length (between start stop pairs) → a < stop
some_before start stop a b [] rises some = absurd (omega (arith, some))
some_before start stop a b ((k, v) ∷ rest) rises some = (elim (is_in start stop k) as (λ t. is_in start stop k ≡ t → 1 ≤ length (if t then entry k v ∷ between start stop rest else between start stop rest) → a < stop) [
  | true ↦ λ is more. let here = rises.0 in let high = (in_tells start stop k is).1 in omega (arith, here, high)
  | false ↦ λ is more. let here = rises.0 in let further = some_before start stop (k + 1) b rest rises.1 more in omega (arith, here, further)
]) refl some

-- ---- the copy of a leaf, whose keys rise from `a` to below `b`, from `from` on down

module _ (known : ℕ → Option ℕ) (lo from a b : ℕ) (pairs : List (ℕ × ℕ)) (rises : IsRising a pairs b) (states : (key : ℕ) → a ≤ key → key < from + 1 → value_at key pairs ≡ known key) where
  all_copied : (start : ℕ) → a ≤ start → IsCopied known start (from + 1) (between start (from + 1) pairs)
  all_copied start above = record {
    exact = λ key low high. between-pointer start (from + 1) key pairs low high ∙ states key (omega (arith, above, low)) high;
    ascending = between-ascends start (from + 1) a b pairs rises;
    between = between-within start (from + 1) pairs;
  }

  -- the copy ends at an entry below `lo`
  pub copied_to_lo : (place : ℕ) → place < length pairs → (get_or pairs place (0, 0)).0 < lo → IsCopied known lo (from + 1) (between lo (from + 1) (drop (suc place) pairs))
  copied_to_lo place inside less =
      let least = key_from a b place pairs rises inside in
      subst (IsCopied known lo (from + 1)) (sym (all_behind lo (from + 1) a b place pairs rises inside less)) (all_copied lo (omega (arith, least, less)))

  -- or at one for which there is no place
  pub copied_down_to_place : (place next : ℕ) → place < length pairs → next ≡ (get_or pairs place (0, 0)).0 → lo ≤ next → IsCopied known (next + 1) (from + 1) (between lo (from + 1) (drop (suc place) pairs))
  copied_down_to_place place next inside at low =
      let least = key_from a b place pairs rises inside in
      let rest = subst (λ (n : ℕ). IsRising (n + 1) (drop (suc place) pairs) b) (sym at) (rest_rises a b place pairs rises inside) in
      let same = begins_above lo (next + 1) (from + 1) (next + 1) b (drop (suc place) pairs) rest (omega (arith, low)) (omega arith) ∙ all_behind (next + 1) (from + 1) a b place pairs rises inside (omega (arith, at)) in
      subst (IsCopied known (next + 1) (from + 1)) (sym same) (all_copied (next + 1) (omega (arith, least, at)))

  -- which is below `from`
  pub next_is_before : (place next : ℕ) → place < length pairs → next ≡ (get_or pairs place (0, 0)).0 → 1 ≤ length (between lo (from + 1) (drop (suc place) pairs)) → next < from
  next_is_before place next inside at some =
      let rest = subst (λ (n : ℕ). IsRising (n + 1) (drop (suc place) pairs) b) (sym at) (rest_rises a b place pairs rises inside) in
      let less = some_before lo (from + 1) (next + 1) b (drop (suc place) pairs) rest some in
      omega (arith, less)

  -- or where the leaf begins, above `lo` or below
  pub copied_to_begin : lo ≤ a → IsCopied known a (from + 1) (between lo (from + 1) pairs)
  copied_to_begin low = subst (IsCopied known a (from + 1)) (sym (begins_above lo a (from + 1) a b pairs rises low (omega arith))) (all_copied a (omega arith))

  pub copied_all_behind : a ≤ lo → IsCopied known lo (from + 1) (between lo (from + 1) pairs)
  copied_all_behind above = all_copied lo above
