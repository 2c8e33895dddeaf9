-- A backward scan copies the entries of a leaf one after another, the last first.
use Rattle.std.proofs.Common.{◌≡◌, ℕ, suc, ◌+◌, ◌<◌, ◌≤◌, Option, Some, None, List, [], ◌∷◌, ◌++◌, length, get_or, drop, refl, sym, ap, ◌∙◌, subst, arith}
use Rattle.std.specs.Prelude.{set, reverse, IfNone, IfSome}
use Rattle.std.proofs.lemmas.List.{drop_all, length-reverse}
use Rattle.std.proofs.lemmas.Grind.{reverse_onto}
use Rattle.blink_batch.specs.declared.Entry.{Entry}
use Rattle.blink_batch.specs.{entry}
use Rattle.blink_page.specs.{IsLawfulPage, PlainPage, least_above, value_at}
use Rattle.blink_page.specs.declared.limits.TheConstants.{MAX_FAN}
use Rattle.blink_live.specs.Scanning.{IsCopied, IsFilled}
use Rattle.blink_live.specs.ScanningBack.{start_of}
use Rattle.blink_live.specs.Seats.{HasLesser}
use Rattle.blink_live.proofs.scanned.EntriesBetween.{between}
use Rattle.blink_live.proofs.scanned.EntriesBehind.{before_with, before_without, copied_all_behind, copied_down_to_place, copied_to_begin, copied_to_lo, next_is_before}
use Rattle.blink_live.proofs.scanned.PlacesAreFilled.{filled_more, filled_none}

-- the slice has those of these pairs, from the place `reached` on, whose keys are from `lo` to `from`, the last first
abbrev pub HasCopiedBack : ℕ → ℕ → List (ℕ × ℕ) → List Entry → ℕ → List Entry → ℕ → Type 0
HasCopiedBack lo from pairs old reached now filled = IsFilled (reverse (between lo (from + 1) (drop reached pairs))) old now × (filled ≡ length (between lo (from + 1) (drop reached pairs)))

pub copied_none_back : (lo from reached : ℕ) (pairs : List (ℕ × ℕ)) (old : List Entry) → reached ≡ length pairs → HasCopiedBack lo from pairs old reached old 0
copied_none_back lo from reached pairs old is =
    let none : drop reached pairs ≡ [] = drop_all reached pairs (omega (arith, is)) in
    subst (λ (xs : List (ℕ × ℕ)). IsFilled (reverse (between lo (from + 1) xs)) old old × (0 ≡ length (between lo (from + 1) xs))) (sym none) (filled_none old, refl)

module _ (lo from : ℕ) (pairs : List (ℕ × ℕ)) (old now : List Entry) (reached place filled key pointer : ℕ) (was : HasCopiedBack lo from pairs old reached now filled) (step : reached ≡ suc place) (inside : place < length pairs) (its_key : key ≡ (get_or pairs place (0, 0)).0) where
  abbrev Behind : List Entry
  Behind = between lo (from + 1) (drop (suc place) pairs)

  abbrev Then : List Entry
  Then = between lo (from + 1) (drop place pairs)

  behind : IsFilled (reverse Behind) old now × (filled ≡ length Behind)
  behind = subst (λ (n : ℕ). HasCopiedBack lo from pairs old n now filled) step was

  pub copied_more_back : pointer ≡ (get_or pairs place (0, 0)).1 → lo ≤ key → key ≤ from → filled < length old → HasCopiedBack lo from pairs old place (set now filled (entry key pointer)) (filled + 1)
  copied_more_back its_pointer low high room =
      let same : Then ≡ entry key pointer ∷ Behind =
      before_with lo (from + 1) place pairs inside (omega (arith, its_key, low)) (omega (arith, its_key, high))
      ∙ (λ i. let e : Entry = entry (sym its_key i) (sym its_pointer i) in e ∷ Behind) in
      let turned : reverse Behind ++ entry key pointer ∷ [] ≡ reverse (entry key pointer ∷ Behind) = sym (reverse_onto Behind (entry key pointer) []) in
      let count = behind.1 in
      let as_many : filled ≡ length (reverse Behind) = count ∙ sym (length-reverse Behind) in
      let filled_now : IsFilled (reverse Behind ++ entry key pointer ∷ []) old (set now filled (entry key pointer)) = filled_more (reverse Behind) old now (entry key pointer) filled behind.0 as_many room in
      subst (λ (es : List Entry). IsFilled (reverse es) old (set now filled (entry key pointer)) × (filled + 1 ≡ length es)) (sym same)
      (subst (λ (es : List Entry). IsFilled es old (set now filled (entry key pointer))) turned filled_now, omega (arith, count))

  pub copied_past_back : from < key → HasCopiedBack lo from pairs old place now filled
  copied_past_back less =
      let same : Then ≡ Behind = before_without lo (from + 1) place pairs inside (omega (arith, its_key, less)) in
      subst (λ (es : List Entry). IsFilled (reverse es) old now × (filled ≡ length es)) (sym same) behind

-- ---- the ends of the copy of a leaf

module _ (from lo : ℕ) (known : ℕ → Option ℕ) (leaf : PlainPage) (lawful : IsLawfulPage MAX_FAN leaf) (has : HasLesser known from leaf) (old now : List Entry) (filled reached : ℕ) (was : HasCopiedBack lo from leaf.entries old reached now filled) where
  abbrev pub IsCopiedDownTo : ℕ → Type 0
  IsCopiedDownTo start = (entries : List Entry) × IsFilled (reverse entries) old now × (filled ≡ length entries) × IsCopied known start (from + 1) entries

  abbrev Pairs : List (ℕ × ℕ)
  Pairs = leaf.entries

  abbrev Kept : ℕ → List Entry
  Kept n = between lo (from + 1) (drop n Pairs)

  states : (key : ℕ) → least_above leaf.floor ≤ key → key < from + 1 → value_at key Pairs ≡ known key
  states key low high = has.lesser key low (omega (arith, high))

  module _ (place key : ℕ) (step : reached ≡ suc place) (inside : place < length Pairs) (its_key : key ≡ (get_or Pairs place (0, 0)).0) where
    -- an entry below `lo`
    pub ends_at_lo : key < lo → IsCopiedDownTo lo
    ends_at_lo less = (
      Kept reached,
      was.0,
      was.1,
      subst (λ (n : ℕ). IsCopied known lo (from + 1) (Kept n)) (sym step)
          (copied_to_lo known lo from (least_above leaf.floor) (leaf.high + 1) Pairs lawful.keys_rise states place inside (omega (arith, its_key, less))),
    )

    -- an entry for which there is no place
    pub ends_at_place_back : lo ≤ key → IsCopiedDownTo (key + 1)
    ends_at_place_back low = (
      Kept reached,
      was.0,
      was.1,
      subst (λ (n : ℕ). IsCopied known (key + 1) (from + 1) (Kept n)) (sym step)
          (copied_down_to_place known lo from (least_above leaf.floor) (leaf.high + 1) Pairs lawful.keys_rise states place key inside its_key low),
    )

    pub place_is_before : 1 ≤ filled → key < from
    place_is_before some =
        next_is_before known lo from (least_above leaf.floor) (leaf.high + 1) Pairs lawful.keys_rise states place key inside its_key
        (let count : filled ≡ length (Kept (suc place)) = was.1 ∙ ap (λ (n : ℕ). length (Kept n)) step in omega (arith, count, some))

  -- where the leaf begins
  pub ends_at_floor : (floor next : Option ℕ) → reached ≡ 0 → floor ≡ leaf.floor → IfSome next (λ n. (floor ≡ Some n) × (lo ≤ n)) → IfNone next (IfSome floor (λ below. below < lo)) → IsCopiedDownTo (start_of lo next)
  ends_at_floor floor (Some n) none is above below =
      let begins : least_above leaf.floor ≡ n + 1 = ap least_above (sym is ∙ above.0) in
      let low = above.1 in
      let copied = copied_to_begin known lo from (least_above leaf.floor) (leaf.high + 1) Pairs lawful.keys_rise states (omega (arith, begins, low)) in
      (Kept reached, was.0, was.1, subst (λ (x : ℕ × ℕ). IsCopied known x.0 (from + 1) (Kept x.1)) (λ i. (begins i, sym none i)) copied)
  ends_at_floor (Some f) None none is above below =
      let begins : least_above leaf.floor ≡ f + 1 = ap least_above (sym is) in (
        Kept reached,
        was.0,
        was.1,
        subst (λ (n : ℕ). IsCopied known lo (from + 1) (Kept n)) (sym none)
            (copied_all_behind known lo from (least_above leaf.floor) (leaf.high + 1) Pairs lawful.keys_rise states (omega (arith, begins, below))),
      )
  ends_at_floor None None none is above below =
      let begins : least_above leaf.floor ≡ 0 = ap least_above (sym is) in (
        Kept reached,
        was.0,
        was.1,
        subst (λ (n : ℕ). IsCopied known lo (from + 1) (Kept n)) (sym none)
            (copied_all_behind known lo from (least_above leaf.floor) (leaf.high + 1) Pairs lawful.keys_rise states (omega (arith, begins))),
      )

  -- and the floor is below `from`
  pub floor_is_before : (floor next : Option ℕ) → floor ≡ leaf.floor → IfSome next (λ n. (floor ≡ Some n) × (lo ≤ n)) → IfSome next (λ n. (lo ≤ n) × (n < from))
  floor_is_before floor None is above = tt
  floor_is_before floor (Some n) is above =
      let begins : least_above leaf.floor ≡ n + 1 = ap least_above (sym is ∙ above.0) in
      let below = has.floor_below in
      (above.1, omega (arith, begins, below))
