-- The entries at the ends of a plain map, and those on one side of a key, as scans give them.
use Rattle.std.proofs.Common.{◌≡◌, ℕ, ◌+◌, ◌-◌, ◌<◌, ◌≤◌, Option, Some, None, List, [], ◌∷◌, filter, get_or, length, take, refl, sym, ap, ◌∙◌, arith}
use Rattle.std.specs.Iterator.{YieldsFirst}
use Rattle.std.specs.Prelude.{reverse}
use Rattle.std.proofs.lemmas.Bool.Decides.{nat_tests}
use Rattle.std.proofs.lemmas.List.{get_or-reverse, length-reverse}
use Rattle.std.proofs.lemmas.Option.{slice_get-get_or}
use Rattle.blink_operation.specs.declared.Entry.{Entry}
use Rattle.blink_page.specs.{IsRising}
use Rattle.blink_page.specs.declared.limits.TheConstants.{GREATEST_KEY}
use Rattle.blink_page.proofs.Offered.{from_at_most_to}
use Rattle.blink_rest.specs.{IsMapOf, entries_from, pairs_of}
use Rattle.blink_rest.proofs.Offered.{entries_ascend, entries_from-pairs_of}
use Rattle.blink_store.specs.{PlainStore, page_of}
use Rattle.blink_index.specs.Ends.{first_of, is_above, is_below, is_up_to, last_of}
use Rattle.blink_entries.specs.Index.{map_of}
use Rattle.blink_entries.specs.Scan.{is_within}

-- no key is above the greatest
none_above : (greatest from : ℕ) (xs : List (ℕ × ℕ)) → IsRising from xs (greatest + 1) → filter (is_above greatest) (entries_from xs) ≡ []
none_above greatest from [] rising = refl
none_above greatest from ((k, v) ∷ rest) rising =
    let later : filter (is_above greatest) (entries_from rest) ≡ [] = none_above greatest (k + 1) rest rising.1 in
    let below : k + 1 ≤ greatest + 1 = from_at_most_to (k + 1) rest (greatest + 1) rising.1 in
    grind (arith, nat_tests)

pub none_above_greatest : (store : PlainStore) → IsMapOf store (map_of store) → filter (is_above GREATEST_KEY) (map_of store) ≡ []
none_above_greatest store kept =
    let pairs = pairs_of (map_of store) in
    let same : entries_from pairs ≡ map_of store = entries_from-pairs_of (map_of store) in
    sym (ap (filter (is_above GREATEST_KEY)) same) ∙ none_above GREATEST_KEY 0 pairs (entries_ascend store.fan store.prime (page_of store) pairs kept.kept)

-- and none is below 0
pub none_below_least : (entries : List Entry) → filter (is_below 0) entries ≡ []
none_below_least [] = refl
none_below_least (e ∷ entries) =
    let later : filter (is_below 0) entries ≡ [] = none_below_least entries in
    grind (arith, nat_tests)

-- the keys below a key are those up to the one before it
pub up_to_before : (key : ℕ) (entries : List Entry) → 0 < key → filter (is_up_to (key - 1)) entries ≡ filter (is_below key) entries
up_to_before key [] some = refl
up_to_before key (e ∷ entries) some =
    let later : filter (is_up_to (key - 1)) entries ≡ filter (is_below key) entries = up_to_before key entries some in
    grind (arith, nat_tests)

-- and those up to a key are from 0 to it
pub within_from_least : (key : ℕ) (entries : List Entry) → filter (is_within 0 key) entries ≡ filter (is_up_to key) entries
within_from_least key [] = refl
within_from_least key (e ∷ entries) =
    let later : filter (is_within 0 key) entries ≡ filter (is_up_to key) entries = within_from_least key entries in
    grind (arith, nat_tests)

-- what an iterator over entries gives first is their first
pub first_yielded : (entries : List Entry) (given : Option Entry) (left : List Entry) → YieldsFirst {A = Entry} (λ rest. rest) entries given left → given ≡ first_of entries
first_yielded entries None left yields = sym (ap first_of yields.0)
first_yielded entries (Some e) left yields = sym (ap first_of yields)

-- the first of a list's first one is the list's first
first_of-one : (entries : List Entry) → first_of (take 1 entries) ≡ first_of entries
first_of-one [] = refl
first_of-one (e ∷ entries) = refl

-- the first from behind is the last
first_of-reverse : (entries : List Entry) → first_of (reverse entries) ≡ last_of entries
first_of-reverse [] = refl
first_of-reverse (e ∷ entries) =
    let count : length (reverse (e ∷ entries)) ≡ length (e ∷ entries) = length-reverse (e ∷ entries) in
    slice_get-get_or (reverse (e ∷ entries)) 0 e (omega (arith, count))
    ∙ ap Some (get_or-reverse (e ∷ entries) 0 e (omega arith))
    ∙ ap (λ (place : ℕ). Some (get_or (e ∷ entries) place e)) (omega arith)
    ∙ sym (slice_get-get_or (e ∷ entries) (length (e ∷ entries) - 1) e (omega arith))

-- what a backward scan gives first is the last of its entries
pub last_yielded : (entries scan : List Entry) (given : Option Entry) (left : List Entry) → scan ≡ reverse entries → YieldsFirst {A = Entry} (λ rest. rest) scan given left → given ≡ last_of entries
last_yielded entries scan given left is yields = first_yielded scan given left yields ∙ ap first_of is ∙ first_of-reverse entries

-- also where no more than one is asked for
pub last_one_yielded : (entries scan : List Entry) (given : Option Entry) (left : List Entry) → scan ≡ take 1 (reverse entries) → YieldsFirst {A = Entry} (λ rest. rest) scan given left
    → given ≡ last_of entries
last_one_yielded entries scan given left is yields = first_yielded scan given left yields ∙ ap first_of is ∙ first_of-one (reverse entries) ∙ first_of-reverse entries
