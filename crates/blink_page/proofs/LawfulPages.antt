-- What keeps a page lawful.
use Rattle.std.proofs.Common.{◌≡◌, ℕ, ◌+◌, ◌<◌, ◌≤◌, eqb, None, length, get_or, arith}
use Rattle.std.proofs.lemmas.Bool.{cond_both}
use Rattle.std.proofs.lemmas.Bool.Decides.{nat_tests}
use Rattle.blink_page.specs.declared.limits.TheConstants.{MAX_PAGE, GREATEST_KEY}
use Rattle.blink_page.specs.Limits.{IsPageNumber}
use Rattle.blink_page.specs.Rising.{IsRising, least_above}
use Rattle.blink_page.specs.Entries.{value_at, added, removed, replaced, posted, ValuesWithin}
use Rattle.blink_page.specs.Place.{place_of}
use Rattle.blink_page.specs.Page.{PlainPage, IsLawfulPage, HasChildren, IsKeyOf, with_entries, entries_with}
use Rattle.blink_page.proofs.RisingKeys.{covers_rising}
use Rattle.blink_page.proofs.ChangedEntries.{rising_added, length-added, values_added, rising_removed, length-removed-at_most, values_removed, rising_replaced, length-replaced, values_replaced, covers_posted, length-posted, values_posted, values_wider, value_within}
use Rattle.blink_page.proofs.WhereSearchesEnd.{place_below_end}

-- a lawful page is so for each fan that has room for its entries
pub lawful_with_room : (fan other : ℕ) (p : PlainPage) → IsLawfulPage fan p → length p.entries ≤ other → IsLawfulPage other p
lawful_with_room fan other p lawful room = record {
  level_in_range = lawful.level_in_range;
  high_in_range = lawful.high_in_range;
  floor_below_high = lawful.floor_below_high;
  right_unless_last = lawful.right_unless_last;
  right_is_number = lawful.right_is_number;
  at_most_fan = room;
  keys_rise = lawful.keys_rise;
  values_in_range = lawful.values_in_range;
  inner = lawful.inner;
}

-- and so for each greater one
pub lawful_for_greater : (fan greater : ℕ) (p : PlainPage) → fan ≤ greater → IsLawfulPage fan p → IsLawfulPage greater p
lawful_for_greater fan greater p more lawful = lawful_with_room fan greater p lawful (omega (arith, lawful.at_most_fan))

module _ (fan : ℕ) (p : PlainPage) (lawful : IsLawfulPage fan p) where
  -- a leaf with other entries
  pub lawful_leaf : (other : ℕ) (entries : _) → p.level ≡ 0 → length entries ≤ other → IsRising (least_above p.floor) entries (p.high + 1) → ValuesWithin 0 GREATEST_KEY entries → IsLawfulPage other (with_entries p entries)
  lawful_leaf other entries leaf room rises within = record {
    level_in_range = lawful.level_in_range;
    high_in_range = lawful.high_in_range;
    floor_below_high = lawful.floor_below_high;
    right_unless_last = lawful.right_unless_last;
    right_is_number = lawful.right_is_number;
    at_most_fan = room;
    keys_rise = rises;
    values_in_range = within;
    inner = λ above. absurd (omega arith);
  }

  -- an inner page with other entries
  pub lawful_inner : (other : ℕ) (entries : _) → length entries ≤ other → HasChildren (with_entries p entries) → IsLawfulPage other (with_entries p entries)
  lawful_inner other entries room has = record {
    level_in_range = lawful.level_in_range;
    high_in_range = lawful.high_in_range;
    floor_below_high = lawful.floor_below_high;
    right_unless_last = lawful.right_unless_last;
    right_is_number = lawful.right_is_number;
    at_most_fan = room;
    keys_rise = covers_rising _ _ _ has.last_is_high;
    values_in_range = values_wider 1 MAX_PAGE 0 GREATEST_KEY entries (omega arith) (omega arith) has.children;
    inner = λ above. has;
  }

  -- a leaf without one of its entries
  pub lawful_removed : (key : ℕ) → p.level ≡ 0 → IsLawfulPage fan (with_entries p (removed key p.entries))
  lawful_removed key leaf = lawful_leaf fan (removed key p.entries) leaf
      (omega (arith, length-removed-at_most key p.entries, lawful.at_most_fan))
      (rising_removed key _ p.entries _ lawful.keys_rise)
      (values_removed key 0 GREATEST_KEY p.entries lawful.values_in_range)

  -- a leaf with another value in one of its entries
  pub lawful_replaced : (key value : ℕ) → p.level ≡ 0 → value ≤ GREATEST_KEY → IsLawfulPage fan (with_entries p (replaced (key, value) p.entries))
  lawful_replaced key value leaf fits = lawful_leaf fan (replaced (key, value) p.entries) leaf
      (omega (arith, length-replaced key value p.entries, lawful.at_most_fan))
      (rising_replaced key value _ p.entries _ lawful.keys_rise)
      (values_replaced key value 0 GREATEST_KEY p.entries lawful.values_in_range (omega arith) fits)

  module _ (key value : ℕ) (own : IsKeyOf p key) (absent : value_at key p.entries ≡ None) where
    -- a leaf with one entry more
    pub lawful_added : p.level ≡ 0 → value ≤ GREATEST_KEY → IsLawfulPage (fan + 1) (with_entries p (added (key, value) p.entries))
    lawful_added leaf fits = lawful_leaf (fan + 1) (added (key, value) p.entries) leaf
        (omega (arith, length-added key value p.entries, lawful.at_most_fan))
        (rising_added key value _ p.entries _ lawful.keys_rise own.0 (omega (arith, own.1)) absent)
        (values_added key value 0 GREATEST_KEY p.entries lawful.values_in_range (omega arith) fits)

    -- an inner page with one separator more
    pub lawful_posted : 0 < p.level → IsPageNumber value → IsLawfulPage (fan + 1) (with_entries p (posted (key, value) p.entries))
    lawful_posted above number =
        let has = lawful.inner above in
        let more : length (posted (key, value) p.entries) ≡ length p.entries + 1 = length-posted key value _ p.entries _ has.last_is_high own.0 (omega (arith, own.1)) in
        lawful_inner (fan + 1) (posted (key, value) p.entries) (omega (arith, more, lawful.at_most_fan)) (record {
          two_at_least = omega (arith, more, has.two_at_least);
          last_is_high = covers_posted key value _ p.entries _ has.last_is_high own.0 (omega (arith, own.1)) absent;
          children = values_posted key value 1 MAX_PAGE p.entries has.children number.0 number.1;
        })

    -- either
    pub lawful_entries_with : value ≤ GREATEST_KEY → (0 < p.level → IsPageNumber value) → IsLawfulPage (fan + 1) (with_entries p (entries_with p (key, value)))
    lawful_entries_with fits number =
        cond_both (eqb p.level 0) _ _ (λ entries. IsLawfulPage (fan + 1) (with_entries p entries))
        (λ leaf. lawful_added (grind (arith, nat_tests)) fits)
        (λ inner. let above : 0 < p.level = grind (arith, nat_tests) in lawful_posted above (number above))

  -- one entry more in either
  pub length-entries_with : (key value : ℕ) → IsKeyOf p key → length (entries_with p (key, value)) ≡ length p.entries + 1
  length-entries_with key value own =
      cond_both (eqb p.level 0) _ _ (λ entries. length entries ≡ length p.entries + 1)
      (λ leaf. length-added key value p.entries)
      (λ inner. let above : 0 < p.level = grind (arith, nat_tests) in
      let has = lawful.inner above in
      length-posted key value _ p.entries _ has.last_is_high own.0 (omega (arith, own.1)))

  module _ (key : ℕ) (inner : 0 < p.level) (not_right : key ≤ p.high) where
    -- an inner page has a separator at least a key that is not to its right
    pub place_inside : place_of key p.entries < length p.entries
    place_inside =
        let has = lawful.inner inner in
        place_below_end key _ p.entries _ has.last_is_high (omega (arith, has.two_at_least)) (omega arith)

    -- whose child has a page's number
    pub child_inside : (get_or p.entries (place_of key p.entries) (0, 0)).1 ≤ MAX_PAGE
    child_inside = (value_within 1 MAX_PAGE p.entries (place_of key p.entries) (0, 0) (lawful.inner inner).children place_inside).1
