-- Where a leaf's floor leads: the entries up to a key are those of the key's leaf, and before them those up to the leaf's floor.
use Rattle.std.proofs.Common.{◌≡◌, ℕ, ◌+◌, ◌<◌, ◌≤◌, Option, Some, List, [], ◌∷◌, ◌++◌, drop, filter, refl, sym, ap, ◌∙◌, subst, arith}
use Rattle.std.proofs.lemmas.Bool.Decides.{nat_tests}
use Rattle.blink_operation.specs.declared.Entry.{Entry}
use Rattle.blink_page.specs.{PlainPage, place_of, least_above, IsRising}
use Rattle.blink_page.specs.declared.limits.TheConstants.{GREATEST_KEY}
use Rattle.blink_page.proofs.Offered.{IsRising-append}
use Rattle.blink_store.specs.{PlainStore, page_of}
use Rattle.blink_rest.specs.{IsStoreAtRest, entries_along, entries_from}
use Rattle.blink_rest.proofs.Offered.{entries_exist_at_rest}
use Rattle.blink_entries.specs.Back.{entries_within}
use Rattle.blink_entries.specs.Index.{map_of}
use Rattle.blink_entries.specs.Leaf.{IsLeafFor}
use Rattle.blink_entries.specs.Scan.{entries_to, is_within}
use Rattle.blink_entries.proofs.MapOfStore.{map_of-entries}
use Rattle.blink_entries.proofs.StretchBefore.{back_of_parts}
use Rattle.blink_entries.proofs.WhereLinksLead.{stands_at}

pub back_from_leaf : (store : PlainStore) → IsStoreAtRest store → (lo hi : ℕ) → lo ≤ hi → hi ≤ GREATEST_KEY → (leaf : PlainPage) → IsLeafFor store hi leaf
    → filter (is_within lo hi) (map_of store) ≡ entries_within lo leaf.floor (map_of store) ++ entries_to hi (drop (place_of lo leaf.entries) leaf.entries)
back_from_leaf store at_rest lo hi within in_range leaf is_for =
    let found = entries_exist_at_rest store.fan store.prime (page_of store) at_rest in
    let at = stands_at store at_rest hi hi in_range leaf is_for found.0 found.1 in
    let rest = entries_along at.after in
    let whole : map_of store ≡ entries_from (at.prefix ++ (leaf.entries ++ rest)) = map_of-entries store found.0 found.1 ∙ ap entries_from at.joined in
    let below = subst (IsRising 0 at.prefix) at.least at.below in
    let own = subst (λ (low : ℕ). IsRising low leaf.entries (leaf.high + 1)) at.least at.own in
    let most : hi ≤ leaf.high = is_for.belongs.1 in
    ap (filter (is_within lo hi)) whole
    ∙ back_of_parts lo hi leaf.floor (leaf.high + 1) (GREATEST_KEY + 1) at.prefix leaf.entries rest below is_for.belongs.0 own within (omega (arith, most)) at.above
    (IsRising-append (least_above leaf.floor) leaf.entries rest (leaf.high + 1) (GREATEST_KEY + 1) own at.above)
    ∙ ap (λ (entries : List Entry). entries_within lo leaf.floor entries ++ entries_to hi (drop (place_of lo leaf.entries) leaf.entries)) (sym whole)

-- no key is from a number to a lower one
pub none_within : (lo hi : ℕ) (entries : List Entry) → hi < lo → filter (is_within lo hi) entries ≡ []
none_within lo hi [] below = refl
none_within lo hi (e ∷ entries) below =
    let later : filter (is_within lo hi) entries ≡ [] = none_within lo hi entries below in
    grind (arith, nat_tests)

pub ends_below : (lo most : ℕ) (from hi : Option ℕ) (map : List Entry) → entries_within lo from map ≡ entries_within lo hi map → hi ≡ Some most → most < lo
    → entries_within lo from map ≡ []
ends_below lo most from hi map so_far is below = so_far ∙ ap (λ (to : Option ℕ). entries_within lo to map) is ∙ none_within lo most map below

-- a leaf's part of the range, and what is left of the range before the leaf
pub part_of_leaf : (store : PlainStore) → IsStoreAtRest store → (lo most : ℕ) (from hi : Option ℕ) (leaf : PlainPage) (floor : Option ℕ) (items above part : List (ℕ × ℕ))
    → entries_within lo from (map_of store) ≡ entries_within lo hi (map_of store) → hi ≡ Some most → lo ≤ most → most ≤ GREATEST_KEY → IsLeafFor store most leaf
    → floor ≡ leaf.floor → items ≡ leaf.entries → above ≡ drop (place_of lo items) items → entries_from part ≡ entries_to most above
    → entries_within lo from (map_of store) ≡ entries_within lo floor (map_of store) ++ entries_from part
part_of_leaf store at_rest lo most from hi leaf floor items above part so_far is within in_range is_for same_floor same_items is_above is_part =
    let rest : entries_to most (drop (place_of lo leaf.entries) leaf.entries) ≡ entries_from part
    = sym (is_part ∙ ap (entries_to most) (is_above ∙ ap (λ (xs : List (ℕ × ℕ)). drop (place_of lo xs) xs) same_items)) in
    so_far ∙ ap (λ (to : Option ℕ). entries_within lo to (map_of store)) is
    ∙ back_from_leaf store at_rest lo most within in_range leaf is_for
    ∙ (λ i. entries_within lo (sym same_floor i) (map_of store) ++ rest i)
