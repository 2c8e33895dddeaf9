-- A page with other numbers is as lawful as before, and has the same keys.
use Rattle.std.proofs.Common.{◌≡◌, ℕ, ◌+◌, ◌<◌, ◌≤◌, ◌↔◌, zero, suc, Option, Some, None, List, [], ◌∷◌, ◌++◌, length, map, refl, ap, arith, length-append}
use Rattle.std.specs.Prelude.{IsNone, IfSome}
use Rattle.blink_page.specs.declared.limits.TheConstants.{GREATEST_KEY, MAX_PAGE}
use Rattle.blink_page.specs.{IsPageNumber, ValuesWithin, PlainPage, IsLawfulPage, IsRising, Covers}
use Rattle.blink_live.specs.Renumbered.{with_children, entries_anew, child_count, link_anew, page_anew, numbers_from}

-- as many entries, with the same keys
pub length-with_children : (child : ℕ) (entries : List (ℕ × ℕ)) → length (with_children child entries) ≡ length entries
length-with_children child [] = refl
length-with_children child (e ∷ rest) = ap suc (length-with_children (suc child) rest)

separators-with_children : (child : ℕ) (entries : List (ℕ × ℕ)) → map (λ (e : ℕ × ℕ). e.0) (with_children child entries) ≡ map (λ (e : ℕ × ℕ). e.0) entries
separators-with_children child [] = refl
separators-with_children child (e ∷ rest) = ap (λ (ks : List ℕ). e.0 ∷ ks) (separators-with_children (suc child) rest)

-- the children are in a row
pub children-with_children : (child : ℕ) (entries : List (ℕ × ℕ)) → map (λ (e : ℕ × ℕ). e.1) (with_children child entries) ≡ numbers_from child (length entries)
children-with_children child [] = refl
children-with_children child (e ∷ rest) = ap (λ (ks : List ℕ). child ∷ ks) (children-with_children (suc child) rest)

rising-with_children : (child from : ℕ) (entries : List (ℕ × ℕ)) (to : ℕ) → IsRising from entries to → IsRising from (with_children child entries) to
rising-with_children child from [] to rising = rising
rising-with_children child from (e ∷ rest) to rising = (rising.0, rising-with_children (suc child) (e.0 + 1) rest to rising.1)

covers-with_children : (child from : ℕ) (entries : List (ℕ × ℕ)) (to : ℕ) → Covers from entries to → Covers from (with_children child entries) to
covers-with_children child from [] to covers = covers
covers-with_children child from (e ∷ rest) to covers = (covers.0, covers-with_children (suc child) (e.0 + 1) rest to covers.1)

values-with_children : (least greatest child : ℕ) (entries : List (ℕ × ℕ)) → least ≤ child → child + length entries ≤ greatest + 1 → ValuesWithin least greatest (with_children child entries)
values-with_children least greatest child [] from to = tt
values-with_children least greatest child (e ∷ rest) from to = (from, omega arith, values-with_children least greatest (suc child) rest (omega arith) (omega arith))

-- the entries of a page of any level
pub length-entries_anew : (level child : ℕ) (entries : List (ℕ × ℕ)) → length (entries_anew level child entries) ≡ length entries
length-entries_anew zero child entries = refl
length-entries_anew (suc level) child entries = length-with_children child entries

pub separators-entries_anew : (level child : ℕ) (entries : List (ℕ × ℕ)) → map (λ (e : ℕ × ℕ). e.0) (entries_anew level child entries) ≡ map (λ (e : ℕ × ℕ). e.0) entries
separators-entries_anew zero child entries = refl
separators-entries_anew (suc level) child entries = separators-with_children child entries

rising-entries_anew : (level child from : ℕ) (entries : List (ℕ × ℕ)) (to : ℕ) → IsRising from entries to → IsRising from (entries_anew level child entries) to
rising-entries_anew zero child from entries to rising = rising
rising-entries_anew (suc level) child from entries to rising = rising-with_children child from entries to rising

covers-entries_anew : (level child from : ℕ) (entries : List (ℕ × ℕ)) (to : ℕ) → Covers from entries to → Covers from (entries_anew level child entries) to
covers-entries_anew zero child from entries to covers = covers
covers-entries_anew (suc level) child from entries to covers = covers-with_children child from entries to covers

values-entries_anew : (level child : ℕ) (entries : List (ℕ × ℕ)) → ValuesWithin 0 GREATEST_KEY entries → child + child_count level entries ≤ MAX_PAGE + 1 → ValuesWithin 0 GREATEST_KEY (entries_anew level child entries)
values-entries_anew zero child entries within fits = within
values-entries_anew (suc level) child entries within fits = values-with_children 0 GREATEST_KEY child entries (omega arith) (omega arith)

children-entries_anew : (level child : ℕ) (entries : List (ℕ × ℕ)) → 0 < level → 1 ≤ child → child + child_count level entries ≤ MAX_PAGE + 1 → ValuesWithin 1 MAX_PAGE (entries_anew level child entries)
children-entries_anew zero child entries inner from fits = absurd (omega arith)
children-entries_anew (suc level) child entries inner from fits = values-with_children 1 MAX_PAGE child entries from fits

-- above the leaves the children are in a row
pub children_in_row : (level child : ℕ) (entries : List (ℕ × ℕ)) → 0 < level → map (λ (e : ℕ × ℕ). e.1) (entries_anew level child entries) ≡ numbers_from child (length entries)
children_in_row zero child entries inner = absurd (omega arith)
children_in_row (suc level) child entries inner = children-with_children child entries

pub child_count-inner : (level : ℕ) (entries : List (ℕ × ℕ)) → 0 < level → child_count level entries ≡ length entries
child_count-inner zero entries inner = absurd (omega arith)
child_count-inner (suc level) entries inner = refl

-- how many children entries in two parts have
pub child_count-append : (level : ℕ) (xs ys : List (ℕ × ℕ)) → child_count level (xs ++ ys) ≡ child_count level xs + child_count level ys
child_count-append zero xs ys = refl
child_count-append (suc level) xs ys = length-append xs ys

pub child_count-at_most : (level : ℕ) (xs : List (ℕ × ℕ)) → child_count level xs ≤ length xs
child_count-at_most zero xs = omega arith
child_count-at_most (suc level) xs = omega arith

-- a link is there where it was
none-link_anew : (next high : ℕ) (link : Option ℕ) → IsNone link ↔ (high ≡ GREATEST_KEY) → IsNone (link_anew next link) ↔ (high ≡ GREATEST_KEY)
none-link_anew next high None same = same
none-link_anew next high (Some old) same = same

number-link_anew : (next : ℕ) (link : Option ℕ) → IfSome link (λ _. IsPageNumber next) → IfSome (link_anew next link) IsPageNumber
number-link_anew next None number = tt
number-link_anew next (Some old) number = number

-- so a lawful page stays lawful
pub lawful-page_anew : (fan next child : ℕ) (page : PlainPage) → IsLawfulPage fan page → IfSome page.right (λ _. IsPageNumber next) → 1 ≤ child
    → child + child_count page.level page.entries ≤ MAX_PAGE + 1 → IsLawfulPage fan (page_anew next child page)
lawful-page_anew fan next child page lawful number from fits = record {
  level_in_range = lawful.level_in_range;
  high_in_range = lawful.high_in_range;
  floor_below_high = lawful.floor_below_high;
  right_unless_last = none-link_anew next page.high page.right lawful.right_unless_last;
  right_is_number = number-link_anew next page.right number;
  at_most_fan = omega (arith, length-entries_anew page.level child page.entries, lawful.at_most_fan);
  keys_rise = rising-entries_anew page.level child _ page.entries _ lawful.keys_rise;
  values_in_range = values-entries_anew page.level child page.entries lawful.values_in_range fits;
  inner = λ above. record {
    two_at_least = omega (arith, length-entries_anew page.level child page.entries, (lawful.inner above).two_at_least);
    last_is_high = covers-entries_anew page.level child _ page.entries _ (lawful.inner above).last_is_high;
    children = children-entries_anew page.level child page.entries above from fits;
  };
}
