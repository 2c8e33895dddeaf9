-- A leaf's entries are copied beside the caller's slice, which is given as many as there are places.
use Rattle.std.proofs.Common.{◌≡◌, ℕ, suc, ◌+◌, ◌-◌, ◌<◌, ◌≤◌, inl, inr, Option, Some, None, List, ◌∷◌, ◌++◌, length, get_or, take, drop, reverse, slice_get, IfNone, IfSome, refl, sym, ap, ◌∙◌, subst, arith, length-drop, length-take-le, take_all}
use Rattle.std.proofs.lemmas.Bool.{cases_lt}
use Rattle.std.proofs.lemmas.List.{length-reverse}
use Rattle.std.proofs.lemmas.Option.{slice_get-get_or}
use Rattle.blink_batch.specs.declared.Entry.{Entry}
use Rattle.blink_batch.specs.{entry}
use Rattle.blink_page.specs.{least_above}
use Rattle.blink_page.proofs.Offered.{value_at-below}
use Rattle.blink_live.specs.Editing.{pointers_in}
use Rattle.blink_live.specs.Scanning.{IsCopied, IsFilled, IsLeafEnd, stop_of}
use Rattle.blink_live.specs.ScanningBack.{start_of}
use Rattle.blink_live.specs.Seats.{ReadsLeaf}
use Rattle.blink_live.specs.Views.{SeatState, known_of}
use Rattle.blink_live.proofs.scanned.CopiesAreCut.{copied_above, copied_as, copied_back, copied_front, cut_at, cut_behind, it_is_between, last_turned, some_in_range}

-- ---- a scan is given the first of them

-- the copy stops where the leaf ends or before, and in the range
stop_within : (hi high : ℕ) (end : Option ℕ) → IsLeafEnd hi high end → (stop_of hi end ≤ high + 1) × (stop_of hi end ≤ hi + 1)
stop_within hi high None ends = (omega (arith, ends), omega arith)
stop_within hi high (Some next) ends = let at = ends.0 in let less = ends.1 in (omega (arith, at), omega (arith, at, less))

-- and what follows is behind `from`
end_is_further : (from hi high : ℕ) (end : Option ℕ) → IsLeafEnd hi high end → from ≤ high → IfSome end (λ next. (from < next) × (next ≤ hi))
end_is_further from hi high None ends reaches = tt
end_is_further from hi high (Some next) ends reaches = let at = ends.0 in let less = ends.1 in (omega (arith, at, reaches), omega (arith, at, less))

module _ {me : SeatState} {word from : ℕ} (is : ReadsLeaf from word me) (hi : ℕ) (end : Option ℕ) (entries : List Entry) (copied : IsCopied (pointers_in is.leaf) from (stop_of hi end) entries) (ends : IsLeafEnd hi is.leaf.high end)
    (old new : List Entry) (filled : ℕ) (next : Option ℕ) (is_filled : IsFilled (take filled entries) old new) (within : filled ≤ length entries)
    (all : filled ≡ length entries → next ≡ end) (some : (e : Entry) → slice_get entries filled ≡ Some e → (filled ≡ length old) × (next ≡ Some e.key)) where
  abbrev First : List Entry
  First = take filled entries

  -- the entry for which there is no place
  abbrev Left : Entry
  Left = get_or entries filled (entry 0 0)

  -- the copy says what the seat knows
  its_copy : IsCopied (known_of me.0) from (stop_of hi end) entries
  its_copy = copied_as (pointers_in is.leaf) (known_of me.0) from (stop_of hi end) entries copied (λ key low high. let reach = stop_within hi is.leaf.high end ends in is.states key low (omega (arith, reach, high)))

  module _ (less : filled < length entries) where
    left : slice_get entries filled ≡ Some Left
    left = slice_get-get_or entries filled (entry 0 0) less

    around : IsCopied (known_of me.0) from (stop_of hi end) (First ++ Left ∷ drop (suc filled) entries)
    around = subst (IsCopied (known_of me.0) from (stop_of hi end)) (cut_at entries filled Left left) its_copy

    before_left : IsCopied (known_of me.0) from Left.key First
    before_left = copied_front (known_of me.0) from (stop_of hi end) First Left (drop (suc filled) entries) around

    left_is_further : 1 ≤ length old → (from < Left.key) × (Left.key ≤ hi)
    left_is_further place =
        let full = (some Left left).0 in
        let count = length-take-le filled entries within in
        let below = (it_is_between (known_of me.0) from (stop_of hi end) First Left (drop (suc filled) entries) around).1 in
        let reach = (stop_within hi is.leaf.high end ends).1 in
        (some_in_range from Left.key First (omega (arith, full, count, place)) before_left.between, omega (arith, below, reach))

  pub given_first : (es : List Entry) × IsFilled es old new × (filled ≡ length es) × IsCopied (known_of me.0) from (stop_of hi next) es
  given_first = (
    First,
    is_filled,
    sym (length-take-le filled entries within),
    elim (cases_lt filled (length entries)) [
      | inl less ↦ subst (λ (o : Option ℕ). IsCopied (known_of me.0) from (stop_of hi o) First) (sym (some Left (left less)).1) (before_left less)
      | inr more ↦ subst (λ (x : Option ℕ × List Entry). IsCopied (known_of me.0) from (stop_of hi x.0) x.1) (λ i. (sym (all (omega (arith, within, more))) i, sym (take_all filled entries more) i)) its_copy
    ],
  )

  -- the scan goes on behind `from`
  pub first_is_further : 1 ≤ length old → IfSome next (λ n. (from < n) × (n ≤ hi))
  first_is_further place = elim (cases_lt filled (length entries)) [
    | inl less ↦ subst (λ (o : Option ℕ). IfSome o (λ n. (from < n) × (n ≤ hi))) (sym (some Left (left less)).1) (left_is_further less place)
    | inr more ↦ subst (λ (o : Option ℕ). IfSome o (λ n. (from < n) × (n ≤ hi))) (sym (all (omega (arith, within, more)))) (end_is_further from hi is.leaf.high end ends is.reaches)
  ]

-- ---- a backward scan is given the last of them, turned

-- a leaf that has `from` is copied up to there
stops_behind : (from high : ℕ) (bound : Option ℕ) → IsLeafEnd from high bound → from ≤ high → stop_of from bound ≡ from + 1
stops_behind from high None ends reaches = refl
stops_behind from high (Some next) ends reaches = let less = ends.1 in absurd (omega (arith, less, reaches))

-- where a copy down to `lo` starts, in a leaf whose least key is `least`
record StartsAt (lo least start : ℕ) : Type 0 where
  pub from_lo : lo ≤ start
  pub from_least : least ≤ start
  pub at_either : lo < start → start ≤ least

starts_at : (lo : ℕ) (floor end : Option ℕ) → IfSome end (λ n. (floor ≡ Some n) × (lo ≤ n)) → IfNone end (IfSome floor (λ under. under < lo)) → StartsAt lo (least_above floor) (start_of lo end)
starts_at lo floor (Some n) above below =
    let begins : least_above floor ≡ n + 1 = ap least_above above.0 in
    let low = above.1 in record { from_lo = omega (arith, low); from_least = omega (arith, begins); at_either = λ less. omega (arith, begins) }
starts_at lo (Some f) None above below = record { from_lo = omega arith; from_least = omega (arith, below); at_either = λ less. absurd (omega (arith, less)) }
starts_at lo None None above below = record { from_lo = omega arith; from_least = omega arith; at_either = λ less. absurd (omega (arith, less)) }

-- and what is left is below `from`
end_is_before : (lo from : ℕ) (floor end : Option ℕ) → IfSome end (λ n. (floor ≡ Some n) × (lo ≤ n)) → least_above floor ≤ from → IfSome end (λ n. (lo ≤ n) × (n < from))
end_is_before lo from floor None above reach = tt
end_is_before lo from floor (Some n) above reach = let begins : least_above floor ≡ n + 1 = ap least_above above.0 in (above.1, omega (arith, begins, reach))

module _ {me : SeatState} {word from : ℕ} (is : ReadsLeaf from word me) (lo : ℕ) (bound : Option ℕ) (entries : List Entry) (copied : IsCopied (pointers_in is.leaf) lo (stop_of from bound) entries) (ends : IsLeafEnd from is.leaf.high bound)
    (floor end : Option ℕ) (its_floor : floor ≡ is.leaf.floor) (above : IfSome end (λ n. (floor ≡ Some n) × (lo ≤ n))) (below : IfNone end (IfSome floor (λ under. under < lo)))
    (turned old new : List Entry) (turns : turned ≡ reverse entries) (filled : ℕ) (next : Option ℕ) (is_filled : IsFilled (take filled turned) old new) (inside : filled ≤ length turned)
    (all : filled ≡ length turned → next ≡ end) (some : (e : Entry) → slice_get turned filled ≡ Some e → (filled ≡ length old) × (next ≡ Some e.key)) where
  abbrev Last : List Entry
  Last = drop (length entries - filled) entries

  -- the entry for which there is no place
  abbrev LeftBack : Entry
  LeftBack = get_or turned filled (entry 0 0)

  as_many : length turned ≡ length entries
  as_many = ap length turns ∙ length-reverse entries

  within : filled ≤ length entries
  within = let same = as_many in omega (arith, same, inside)

  reach : least_above floor ≤ from
  reach = subst (λ (o : Option ℕ). least_above o ≤ from) (sym its_floor) is.floor_below

  starts : StartsAt lo (least_above is.leaf.floor) (start_of lo end)
  starts = subst (λ (o : Option ℕ). StartsAt lo (least_above o) (start_of lo end)) its_floor (starts_at lo floor end above below)

  -- the copy says what the seat knows, from where the leaf begins
  its_copy_back : IsCopied (known_of me.0) (start_of lo end) (from + 1) entries
  its_copy_back =
      let at = starts in
      let from_lo = at.from_lo in
      let from_least = at.from_least in
      let whole = subst (λ (stop : ℕ). IsCopied (pointers_in is.leaf) lo stop entries) (stops_behind from is.leaf.high bound ends is.reaches) copied in
      copied_as (pointers_in is.leaf) (known_of me.0) (start_of lo end) (from + 1) entries
      (copied_above (pointers_in is.leaf) lo (start_of lo end) (from + 1) entries whole from_lo
      (λ key low less. let either = at.at_either (omega (arith, low, less)) in value_at-below key (least_above is.leaf.floor) is.leaf.entries (is.leaf.high + 1) is.reads.lawful.keys_rise (omega (arith, less, either))))
      (λ key low high. is.lesser key (omega (arith, from_least, low)) (omega (arith, high)))

  count_back : filled ≡ length Last
  count_back = let left = length-drop (length entries - filled) entries in omega (arith, left, within)

  module _ (less : filled < length turned) where
    left_back : slice_get turned filled ≡ Some LeftBack
    left_back = slice_get-get_or turned filled (entry 0 0) less

    abbrev Before : List Entry
    Before = reverse (drop (suc filled) (reverse entries))

    around_back : IsCopied (known_of me.0) (start_of lo end) (from + 1) (Before ++ LeftBack ∷ Last)
    around_back = subst (IsCopied (known_of me.0) (start_of lo end) (from + 1)) (cut_behind entries filled LeftBack within (subst (λ (es : List Entry). slice_get es filled ≡ Some LeftBack) turns left_back)) its_copy_back

    behind_left : IsCopied (known_of me.0) (LeftBack.key + 1) (from + 1) Last
    behind_left = copied_back (known_of me.0) (start_of lo end) (from + 1) Before LeftBack Last around_back

    left_is_before : 1 ≤ length old → (lo ≤ LeftBack.key) × (LeftBack.key < from)
    left_is_before place =
        let full = (some LeftBack left_back).0 in
        let count = count_back in
        let low = (it_is_between (known_of me.0) (start_of lo end) (from + 1) Before LeftBack Last around_back).0 in
        let from_lo = starts.from_lo in
        let more = some_in_range (LeftBack.key + 1) (from + 1) Last (omega (arith, full, count, place)) behind_left.between in
        (omega (arith, from_lo, low), omega (arith, more))

  all_given : length turned ≤ filled → Last ≡ entries
  all_given more =
      let same = as_many in
      let none : length entries - filled ≡ 0 = omega (arith, same, more) in
      ap (λ (n : ℕ). drop n entries) none

  pub given_last : (es : List Entry) × IsFilled (reverse es) old new × (filled ≡ length es) × IsCopied (known_of me.0) (start_of lo next) (from + 1) es
  given_last = (
    Last,
    subst (λ (es : List Entry). IsFilled es old new) (ap (take filled) turns ∙ last_turned entries filled within) is_filled,
    count_back,
    elim (cases_lt filled (length turned)) [
      | inl less ↦ subst (λ (o : Option ℕ). IsCopied (known_of me.0) (start_of lo o) (from + 1) Last) (sym (some LeftBack (left_back less)).1) (behind_left less)
      | inr more ↦ subst (λ (x : Option ℕ × List Entry). IsCopied (known_of me.0) (start_of lo x.0) (from + 1) x.1) (λ i. (sym (all (omega (arith, inside, more))) i, sym (all_given more) i)) its_copy_back
    ],
  )

  -- the scan goes on below `from`
  pub last_is_before : 1 ≤ length old → IfSome next (λ n. (lo ≤ n) × (n < from))
  last_is_before place = elim (cases_lt filled (length turned)) [
    | inl less ↦ subst (λ (o : Option ℕ). IfSome o (λ n. (lo ≤ n) × (n < from))) (sym (some LeftBack (left_back less)).1) (left_is_before less place)
    | inr more ↦ subst (λ (o : Option ℕ). IfSome o (λ n. (lo ≤ n) × (n < from))) (sym (all (omega (arith, inside, more)))) (end_is_before lo from floor end above reach)
  ]
