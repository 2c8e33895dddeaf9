-- The two halves of a split.
use Rattle.std.proofs.Common.{◌≡◌, ℕ, ◌+◌, ◌-◌, ◌<◌, ◌≤◌, zero, suc, Some, List, [], ◌∷◌, ◌++◌, length, take, drop, get_or, None, refl, subst, sym, arith, length-drop}
use Rattle.std.proofs.lemmas.List.{length-take-le, take-append-drop}
use Rattle.std.proofs.Math.Seq.{take-length}
use Rattle.blink_page.specs.declared.limits.TheConstants.{MAX_FAN, MAX_PAGE, GREATEST_KEY}
use Rattle.blink_page.specs.Limits.{IsFan, IsPageNumber}
use Rattle.blink_page.specs.Rising.{IsRising, Covers, least_above, next_key}
use Rattle.blink_page.specs.Entries.{ValuesWithin, last_key_or, value_at}
use Rattle.blink_page.specs.Page.{PlainPage, IsKeyOf, IsLawfulPage, HasChildren, entries_with, with_entries}
use Rattle.blink_page.specs.Split.{kept_count, lower_entries, upper_entries, separator_of, lower_half, upper_half}
use Rattle.blink_page.proofs.LawfulPages.{lawful_entries_with, lawful_with_room}
use Rattle.blink_page.proofs.RisingKeys.{length-rising, rising_prefix, rising_rest, covers_prefix, covers_rest, next_key-last}
use Rattle.blink_page.proofs.ChangedEntries.{values_prefix, values_rest}

-- lower then upper is the whole list
pub lower-append-upper : (fan : ℕ) (xs : List (ℕ × ℕ)) → lower_entries fan xs ++ upper_entries fan xs ≡ xs
lower-append-upper fan xs = take-append-drop (kept_count fan) xs

module _ (fan : ℕ) (xs : List (ℕ × ℕ)) (overfull : length xs ≡ fan + 1) where
  -- how many stay
  pub length-lower_entries : length (lower_entries fan xs) ≡ kept_count fan
  length-lower_entries = length-take-le (kept_count fan) xs (omega arith)

  -- how many go
  pub length-upper_entries : length (upper_entries fan xs) ≡ fan + 1 - kept_count fan
  length-upper_entries = omega (arith, length-drop (kept_count fan) xs)

module _ (fan new : ℕ) (is_fan : IsFan fan) (p : PlainPage) (xs : List (ℕ × ℕ)) (overfull : length xs ≡ fan + 1) (lawful : IsLawfulPage (fan + 1) (with_entries p xs)) where
  abbrev from : ℕ
  from = least_above p.floor

  abbrev prefix : List (ℕ × ℕ)
  prefix = lower_entries fan xs

  abbrev back : List (ℕ × ℕ)
  back = upper_entries fan xs

  whole : xs ≡ prefix ++ back
  whole = sym (lower-append-upper fan xs)

  rises : IsRising from (prefix ++ back) (p.high + 1)
  rises = subst (λ ys. IsRising from ys (p.high + 1)) whole lawful.keys_rise

  values : ValuesWithin 0 GREATEST_KEY (prefix ++ back)
  values = subst (ValuesWithin 0 GREATEST_KEY) whole lawful.values_in_range

  -- the least key above the prefix is just above the separator
  above_prefix : next_key from prefix ≡ separator_of fan xs + 1
  above_prefix = next_key-last from 0 prefix (omega (arith, length-lower_entries fan xs overfull))

  prefix_rises : IsRising from prefix (separator_of fan xs + 1)
  prefix_rises = subst (IsRising from prefix) above_prefix (rising_prefix from prefix back (p.high + 1) rises)

  back_rises : IsRising (separator_of fan xs + 1) back (p.high + 1)
  back_rises = subst (λ n. IsRising n back (p.high + 1)) above_prefix (rising_rest from prefix back (p.high + 1) rises)

  -- the separator is one of the page's keys, but not its high key
  pub separator_above_floor : least_above p.floor ≤ separator_of fan xs
  separator_above_floor = omega (arith, length-rising from prefix _ prefix_rises, length-lower_entries fan xs overfull)

  pub separator_below_high : separator_of fan xs < p.high
  separator_below_high = omega (arith, length-rising _ back _ back_rises, length-upper_entries fan xs overfull)

  lower_children : 0 < p.level → HasChildren (lower_half fan new p xs)
  lower_children above =
      let has = lawful.inner above in
      let covers = subst (λ ys. Covers from ys (p.high + 1)) whole has.last_is_high in
      record {
        two_at_least = omega (arith, length-lower_entries fan xs overfull);
        last_is_high = subst (Covers from prefix) above_prefix (covers_prefix from prefix back (p.high + 1) covers);
        children = values_prefix 1 MAX_PAGE prefix back (subst (ValuesWithin 1 MAX_PAGE) whole has.children);
      }

  upper_children : 0 < p.level → HasChildren (upper_half fan p xs)
  upper_children above =
      let has = lawful.inner above in
      let covers = subst (λ ys. Covers from ys (p.high + 1)) whole has.last_is_high in
      record {
        two_at_least = omega (arith, length-upper_entries fan xs overfull);
        last_is_high = subst (λ n. Covers n back (p.high + 1)) above_prefix (covers_rest from prefix back (p.high + 1) covers);
        children = values_rest 1 MAX_PAGE prefix back (subst (ValuesWithin 1 MAX_PAGE) whole has.children);
      }

  -- the page that keeps the prefix is lawful
  pub lawful_lower : IsPageNumber new → IsLawfulPage fan (lower_half fan new p xs)
  lawful_lower number = record {
    level_in_range = lawful.level_in_range;
    high_in_range = omega (arith, separator_below_high, lawful.high_in_range);
    floor_below_high = separator_above_floor;
    right_unless_last = (λ none. cc, λ last. absurd (omega (arith, separator_below_high, lawful.high_in_range)));
    right_is_number = number;
    at_most_fan = omega (arith, length-lower_entries fan xs overfull);
    keys_rise = prefix_rises;
    values_in_range = values_prefix 0 GREATEST_KEY prefix back values;
    inner = lower_children;
  }

  -- and so is the new page
  pub lawful_upper : IsLawfulPage fan (upper_half fan p xs)
  lawful_upper = record {
    level_in_range = lawful.level_in_range;
    high_in_range = lawful.high_in_range;
    floor_below_high = omega (arith, separator_below_high);
    right_unless_last = lawful.right_unless_last;
    right_is_number = lawful.right_is_number;
    at_most_fan = omega (arith, length-upper_entries fan xs overfull);
    keys_rise = back_rises;
    values_in_range = values_rest 0 GREATEST_KEY prefix back values;
    inner = upper_children;
  }

-- the last of some first entries
last_key-take : (key m : ℕ) (xs : List (ℕ × ℕ)) → m < length xs → last_key_or key (take (suc m) xs) ≡ (get_or xs m (0, 0)).0
last_key-take key m [] inside = absurd (omega arith)
last_key-take key zero (x ∷ xs) inside = refl
last_key-take key (suc m) (x ∷ xs) inside = last_key-take x.0 m xs (omega arith)

-- the separator is the key of the last entry that stays
pub separator_of-get_or : (fan : ℕ) (xs : List (ℕ × ℕ)) → kept_count fan ≤ length xs → separator_of fan xs ≡ (get_or xs (kept_count fan - 1) (0, 0)).0
separator_of-get_or fan xs room =
    let last = last_key-take 0 (kept_count fan - 1) xs (omega arith) in
    let same : suc (kept_count fan - 1) ≡ kept_count fan = omega arith in
    rw same at last

-- all of the rest
pub take-drop_all : (n : ℕ) (xs : List (ℕ × ℕ)) → take (length xs - n) (drop n xs) ≡ drop n xs
take-drop_all n xs = rw (← length-drop n xs) (take-length (drop n xs))

module _ (fan : ℕ) (p : PlainPage) (xs entries : List (ℕ × ℕ)) (separator : ℕ) (parts : separator ≡ separator_of fan xs) where
  -- a page is the lower half where it has the lower entries up to the separator
  pub lower_half-of : (new : ℕ) → entries ≡ lower_entries fan xs → record p { high = separator; right = Some new; entries = entries } ≡ lower_half fan new p xs
  lower_half-of new same = λ i. record p { high = parts i; right = Some new; entries = same i }

  -- and the upper half where it has the upper entries above the separator
  pub upper_half-of : entries ≡ upper_entries fan xs → record p { floor = Some separator; entries = entries } ≡ upper_half fan p xs
  upper_half-of same = λ i. record p { floor = Some (parts i); entries = same i }

-- a page with one entry more is lawful where one entry more is allowed
pub overfull_is_lawful : (p : PlainPage) (key value : ℕ) (xs : List (ℕ × ℕ)) → IsLawfulPage MAX_FAN p → IsKeyOf p key → value_at key p.entries ≡ None → value ≤ GREATEST_KEY
    → (0 < p.level → IsPageNumber value) → xs ≡ entries_with p (key, value) → IsLawfulPage (length p.entries + 1) (with_entries p xs)
overfull_is_lawful p key value xs lawful belongs absent in_range child same =
    rw same (lawful_entries_with (length p.entries) p (lawful_with_room MAX_FAN (length p.entries) p lawful (omega arith)) key value belongs absent in_range child)
