-- A scan copies the entries of a leaf one after another.
use Rattle.std.proofs.Common.{◌≡◌, ℕ, zero, suc, ◌+◌, ◌<◌, ◌≤◌, Option, List, [], ◌∷◌, ◌++◌, length, get_or, take, refl, sym, ap, ◌∙◌, subst, arith, length-append}
use Rattle.std.specs.Prelude.{set}
use Rattle.std.proofs.lemmas.List.{take_all, take_more}
use Rattle.blink_batch.specs.declared.Entry.{Entry}
use Rattle.blink_batch.specs.{entry}
use Rattle.blink_page.specs.{IsLawfulPage, IsRising, PlainPage, least_above, value_at}
use Rattle.blink_page.specs.declared.limits.TheConstants.{MAX_FAN}
use Rattle.blink_page.proofs.Offered.{rising_get}
use Rattle.blink_live.specs.Scanning.{BeginsFrom, IsCopied, IsFilled}
use Rattle.blink_live.specs.Seats.{HasStates}
use Rattle.blink_live.proofs.scanned.EntriesBetween.{below_end, between, between_with, between_without, copied_all, copied_to_end, copied_to_hi, copied_to_place, next_is_behind}
use Rattle.blink_live.proofs.scanned.PlacesAreFilled.{filled_more, filled_none}

-- the slice has the first of these pairs, as far as `place`, whose keys are from `from` to `hi`
abbrev pub HasCopied : ℕ → ℕ → List (ℕ × ℕ) → List Entry → ℕ → List Entry → ℕ → Type 0
HasCopied from hi pairs old place now filled = IsFilled (between from (hi + 1) (take place pairs)) old now × (filled ≡ length (between from (hi + 1) (take place pairs)))

pub copied_none : (from hi : ℕ) (pairs : List (ℕ × ℕ)) (old : List Entry) → HasCopied from hi pairs old 0 old 0
copied_none from hi pairs old = (filled_none old, refl)

module _ (from hi : ℕ) (pairs : List (ℕ × ℕ)) (old now : List Entry) (place filled key pointer : ℕ) (was : HasCopied from hi pairs old place now filled) (inside : place < length pairs) (its_key : key ≡ (get_or pairs place (0, 0)).0) where
  abbrev Before : List Entry
  Before = between from (hi + 1) (take place pairs)

  abbrev After : List Entry
  After = between from (hi + 1) (take (place + 1) pairs)

  pub copied_more : pointer ≡ (get_or pairs place (0, 0)).1 → from ≤ key → key ≤ hi → filled < length old → HasCopied from hi pairs old (place + 1) (set now filled (entry key pointer)) (filled + 1)
  copied_more its_pointer low high room =
      let same : After ≡ Before ++ entry key pointer ∷ [] =
      ap (between from (hi + 1)) (take_more pairs place (0, 0) inside ∙ (λ i. let e : ℕ × ℕ = (sym its_key i, sym its_pointer i) in take place pairs ++ e ∷ []))
      ∙ between_with from (hi + 1) key pointer (take place pairs) low (omega (arith, high)) in
      let one_more : length (Before ++ entry key pointer ∷ []) ≡ length Before + 1 = length-append Before (entry key pointer ∷ []) in
      subst (λ (es : List Entry). IsFilled es old (set now filled (entry key pointer)) × (filled + 1 ≡ length es)) (sym same)
      (filled_more Before old now (entry key pointer) filled was.0 was.1 room, let count = was.1 in omega (arith, one_more, count))

  pub copied_past : key < from → HasCopied from hi pairs old (place + 1) now filled
  copied_past less =
      let e : ℕ × ℕ = get_or pairs place (0, 0) in
      let same : After ≡ Before =
      ap (between from (hi + 1)) (take_more pairs place (0, 0) inside) ∙ between_without from (hi + 1) e.0 e.1 (take place pairs) (omega (arith, its_key, less)) in
      subst (λ (es : List Entry). IsFilled es old now × (filled ≡ length es)) (sym same) was

-- ---- the copy of a whole leaf

-- no key is below the first
first_is_least : (a b place : ℕ) (pairs : List (ℕ × ℕ)) → IsRising a pairs b → place < length pairs → (get_or pairs 0 (0, 0)).0 ≤ (get_or pairs place (0, 0)).0
first_is_least a b place [] rises inside = absurd (omega (arith, inside))
first_is_least a b zero ((k, v) ∷ rest) rises inside = omega arith
first_is_least a b (suc place) ((k, v) ∷ rest) rises inside =
    let further = rising_get (0, 0) (k + 1) place rest b rises.1 (omega (arith, inside)) in
    omega (arith, further)

-- no entry is behind the leaf's high key
pub place_is_within : (leaf : PlainPage) (lawful : IsLawfulPage MAX_FAN leaf) (place key : ℕ) → place < length leaf.entries → key ≡ (get_or leaf.entries place (0, 0)).0 → key ≤ leaf.high
place_is_within leaf lawful place key inside its_key =
    let below = below_end (least_above leaf.floor) (leaf.high + 1) place leaf.entries lawful.keys_rise inside in
    omega (arith, below, its_key)

-- one entry more, where no key is below `from`
pub whole_more : (from : ℕ) (leaf : PlainPage) (lawful : IsLawfulPage MAX_FAN leaf) (old now : List Entry) (place key pointer : ℕ) → HasCopied from leaf.high leaf.entries old place now place → place < length leaf.entries
    → key ≡ (get_or leaf.entries place (0, 0)).0 → pointer ≡ (get_or leaf.entries place (0, 0)).1 → BeginsFrom from leaf → place < length old
    → HasCopied from leaf.high leaf.entries old (place + 1) (set now place (entry key pointer)) (place + 1)
whole_more from leaf lawful old now place key pointer was inside its_key its_pointer begins room =
    let least = first_is_least (least_above leaf.floor) (leaf.high + 1) place leaf.entries lawful.keys_rise inside in
    copied_more from leaf.high leaf.entries old now place place key pointer was inside its_key its_pointer (omega (arith, its_key, least, begins)) (place_is_within leaf lawful place key inside its_key) room

-- ---- the ends of the copy of a leaf

module _ (from hi : ℕ) (known : ℕ → Option ℕ) (leaf : PlainPage) (lawful : IsLawfulPage MAX_FAN leaf) (has : HasStates known from leaf) (old now : List Entry) (filled place : ℕ) (was : HasCopied from hi leaf.entries old place now filled) where
  abbrev pub IsCopiedTo : ℕ → Type 0
  IsCopiedTo stop = (entries : List Entry) × IsFilled entries old now × (filled ≡ length entries) × IsCopied known from stop entries

  abbrev Pairs : List (ℕ × ℕ)
  Pairs = leaf.entries

  abbrev First : List Entry
  First = between from (hi + 1) (take place Pairs)

  states : (key : ℕ) → from ≤ key → key < leaf.high + 1 → value_at key Pairs ≡ known key
  states key low high = has.states key low (omega (arith, high))

  -- an entry behind `hi`
  pub ends_at_hi : (key : ℕ) → place < length Pairs → key ≡ (get_or Pairs place (0, 0)).0 → hi < key → IsCopiedTo (hi + 1)
  ends_at_hi key inside its_key behind =
      (First, was.0, was.1, copied_to_hi known from hi (least_above leaf.floor) (leaf.high + 1) Pairs lawful.keys_rise states place inside (omega (arith, its_key, behind)))

  -- an entry for which there is no place
  pub ends_at_place : (key : ℕ) → place < length Pairs → key ≡ (get_or Pairs place (0, 0)).0 → key ≤ hi → IsCopiedTo key
  ends_at_place key inside its_key low =
      (First, was.0, was.1, copied_to_place known from hi (least_above leaf.floor) (leaf.high + 1) Pairs lawful.keys_rise states place key inside its_key low)

  pub place_is_behind : (key : ℕ) → place < length Pairs → key ≡ (get_or Pairs place (0, 0)).0 → 1 ≤ filled → from < key
  place_is_behind key inside its_key some =
      next_is_behind known from hi (least_above leaf.floor) (leaf.high + 1) Pairs lawful.keys_rise states place key inside its_key (let count = was.1 in omega (arith, count, some))

  -- the leaf's end
  all_first : length Pairs ≤ place → First ≡ between from (hi + 1) Pairs
  all_first over = ap (between from (hi + 1)) (take_all place Pairs over)

  pub ends_at_high : (high : ℕ) → length Pairs ≤ place → high ≡ leaf.high → high < hi → IsCopiedTo (high + 1)
  ends_at_high high over is low =
      let copied = copied_to_end known from hi (least_above leaf.floor) (leaf.high + 1) Pairs lawful.keys_rise states (omega (arith, is, low)) in
      (First, was.0, was.1, subst (λ (x : ℕ × List Entry). IsCopied known from (x.0 + 1) x.1) (λ i. (sym is i, sym (all_first over) i)) copied)

  pub ends_with_leaf : (high : ℕ) → length Pairs ≤ place → high ≡ leaf.high → hi ≤ high → IsCopiedTo (hi + 1)
  ends_with_leaf high over is low =
      (First, was.0, was.1, subst (IsCopied known from (hi + 1)) (sym (all_first over)) (copied_all known from hi (least_above leaf.floor) (leaf.high + 1) Pairs lawful.keys_rise states (omega (arith, is, low))))
