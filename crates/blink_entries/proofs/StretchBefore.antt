-- What a backward scan brings: the entries of a leaf up to a key, the last first, and before them those up to the leaf's floor.
use Rattle.std.proofs.Common.{◌≡◌, ℕ, ◌+◌, ◌<◌, ◌≤◌, Option, Some, None, List, [], ◌∷◌, ◌++◌, ◌-◌, zero, suc, length, take, drop, filter, refl, sym, ap, ◌∙◌, arith, append-nil, append_assoc}
use Rattle.std.specs.Prelude.{reverse}
use Rattle.std.proofs.lemmas.Bool.Decides.{nat_tests}
use Rattle.std.proofs.lemmas.List.{length-reverse, map-append, reverse-append}
use Rattle.std.proofs.lemmas.List.Elements.{filter-append}
use Rattle.blink_operation.specs.declared.Entry.{Entry}
use Rattle.blink_operation.specs.{entry}
use Rattle.blink_page.specs.{place_of, least_above, IsRising}
use Rattle.blink_page.proofs.Offered.{from_at_most_to}
use Rattle.blink_rest.specs.{entries_from}
use Rattle.blink_entries.specs.Back.{entries_within}
use Rattle.blink_entries.specs.Scan.{at_most, entries_to, fewer, first_of, is_within}
use Rattle.blink_entries.proofs.packed.EntriesOfScan.{length-entries_from}
use Rattle.blink_entries.proofs.StretchOfScan.{below_none, above_none, within_to, within_place, place_rising}

-- entries up to a floor are within it as they are within any greater key
same_within : (lo floor hi from : ℕ) (xs : List (ℕ × ℕ)) → IsRising from xs (floor + 1) → floor ≤ hi
    → filter (is_within lo floor) (entries_from xs) ≡ filter (is_within lo hi) (entries_from xs)
same_within lo floor hi from [] rising below = refl
same_within lo floor hi from ((k, v) ∷ rest) rising below =
    let later : filter (is_within lo floor) (entries_from rest) ≡ filter (is_within lo hi) (entries_from rest) = same_within lo floor hi (k + 1) rest rising.1 below in
    let last : k + 1 ≤ floor + 1 = from_at_most_to (k + 1) rest (floor + 1) rising.1 in
    grind (arith, nat_tests)

-- the entries of two lists that are within
filter_both : (lo hi : ℕ) (xs ys : List (ℕ × ℕ)) → filter (is_within lo hi) (entries_from (xs ++ ys)) ≡ filter (is_within lo hi) (entries_from xs) ++ filter (is_within lo hi) (entries_from ys)
filter_both lo hi xs ys =
    ap (filter (is_within lo hi)) (map-append (λ (pair : ℕ × ℕ). entry pair.0 pair.1) xs ys) ∙ filter-append (is_within lo hi) (entries_from xs) (entries_from ys)

-- of entries in two parts, of which a floor ends the first, those up to the floor are the first part's
up_to_floor : (lo hi : ℕ) (floor : Option ℕ) (prefix rest : List (ℕ × ℕ)) (to : ℕ) → IsRising 0 prefix (least_above floor) → IsRising (least_above floor) rest to → least_above floor ≤ hi
    → entries_within lo floor (entries_from (prefix ++ rest)) ≡ filter (is_within lo hi) (entries_from prefix)
up_to_floor lo hi None prefix rest to before after below = sym (below_none lo hi 0 prefix 0 before (omega arith))
up_to_floor lo hi (Some floor) prefix rest to before after below =
    filter_both lo floor prefix rest
    ∙ ap (λ (last : List Entry). filter (is_within lo floor) (entries_from prefix) ++ last) (above_none lo floor (floor + 1) rest to after (omega arith))
    ∙ append-nil (filter (is_within lo floor) (entries_from prefix))
    ∙ same_within lo floor hi 0 prefix before (omega (arith, below))

-- entries in three parts, of which a floor ends the first and the last is above hi
pub back_of_parts : (lo hi : ℕ) (floor : Option ℕ) (middle to : ℕ) (prefix es rest : List (ℕ × ℕ)) → IsRising 0 prefix (least_above floor) → least_above floor ≤ hi
    → IsRising (least_above floor) es middle → lo ≤ hi → hi < middle → IsRising middle rest to → IsRising (least_above floor) (es ++ rest) to
    → filter (is_within lo hi) (entries_from (prefix ++ (es ++ rest)))
    ≡ entries_within lo floor (entries_from (prefix ++ (es ++ rest))) ++ entries_to hi (drop (place_of lo es) es)
back_of_parts lo hi floor middle to prefix es rest before below own least within after both =
    let none : filter (is_within lo hi) (entries_from rest) ≡ [] = above_none lo hi middle rest to after within in
    let leaf : filter (is_within lo hi) (entries_from es) ≡ entries_to hi (drop (place_of lo es) es)
    = within_place lo hi es ∙ within_to lo hi lo (drop (place_of lo es) es) middle (place_rising lo hi (least_above floor) es middle own (omega arith)) (omega arith) in
    filter_both lo hi prefix (es ++ rest)
    ∙ ap (λ (last : List Entry). filter (is_within lo hi) (entries_from prefix) ++ last)
    (filter_both lo hi es rest ∙ ap (λ (last : List Entry). filter (is_within lo hi) (entries_from es) ++ last) none ∙ append-nil (filter (is_within lo hi) (entries_from es)) ∙ leaf)
    ∙ ap (λ (first : List Entry). first ++ entries_to hi (drop (place_of lo es) es)) (sym (up_to_floor lo hi floor prefix (es ++ rest) to before both below))

-- the last of some entries comes first, and the others stay
pub last_brought : (before : List Entry) (rest : List (ℕ × ℕ)) (key pointer : ℕ)
    → reverse (before ++ entries_from (rest ++ (key, pointer) ∷ [])) ≡ entry key pointer ∷ reverse (before ++ entries_from rest)
last_brought before rest key pointer =
    let parts : before ++ entries_from (rest ++ (key, pointer) ∷ []) ≡ (before ++ entries_from rest) ++ entry key pointer ∷ []
    = ap (λ (last : List Entry). before ++ last) (map-append (λ (pair : ℕ × ℕ). entry pair.0 pair.1) rest ((key, pointer) ∷ [])) ∙ sym (append_assoc before (entries_from rest) (entry key pointer ∷ [])) in
    ap (λ (entries : List Entry). reverse entries) parts ∙ reverse-append (before ++ entries_from rest) (entry key pointer ∷ [])

-- the same where the scan goes to another leaf
pub next_brought : (lo : ℕ) (hi floor : Option ℕ) (map : List Entry) (entries part rest : List (ℕ × ℕ)) (key pointer : ℕ) → entries ≡ []
    → entries_within lo hi map ≡ entries_within lo floor map ++ entries_from part → part ≡ rest ++ (key, pointer) ∷ []
    → reverse (entries_within lo hi map ++ entries_from entries) ≡ entry key pointer ∷ reverse (entries_within lo floor map ++ entries_from rest)
next_brought lo hi floor map entries part rest key pointer empty parts last =
    ap (λ (es : List (ℕ × ℕ)). reverse (entries_within lo hi map ++ entries_from es)) empty
    ∙ ap (λ (es : List Entry). reverse es) (append-nil (entries_within lo hi map) ∙ parts ∙ ap (λ (es : List (ℕ × ℕ)). entries_within lo floor map ++ entries_from es) last)
    ∙ last_brought (entries_within lo floor map) rest key pointer

-- the first so many of some and of others
take_behind : (n : ℕ) (xs ys : List Entry) → length xs ≤ n → take n (xs ++ ys) ≡ xs ++ take (n - length xs) ys
take_behind n [] ys few = let same : n ≡ n - 0 = omega arith in ap (λ (k : ℕ). take k ys) same
take_behind zero (x ∷ xs) ys few = absurd (omega (arith, few))
take_behind (suc n) (x ∷ xs) ys few =
    let same : n - length xs ≡ suc n - length (x ∷ xs) = omega arith in
    ap (λ (es : List Entry). x ∷ es) (take_behind n xs ys (omega (arith, few)) ∙ ap (λ (k : ℕ). xs ++ take k ys) same)

-- a run of the last entries, and what comes after it
pub run_brought_back : (most : Option ℕ) (before : List Entry) (rest run : List (ℕ × ℕ)) → first_of (length run) most ≡ length run
    → at_most most (reverse (before ++ entries_from (rest ++ run))) ≡ reverse (entries_from run) ++ at_most (fewer most (length run)) (reverse (before ++ entries_from rest))
run_brought_back most before rest run within =
    let parts : reverse (before ++ entries_from (rest ++ run)) ≡ reverse (entries_from run) ++ reverse (before ++ entries_from rest)
    = ap reverse (ap (λ (es : List Entry). before ++ es) (map-append (λ (x : ℕ × ℕ). entry x.0 x.1) rest run) ∙ sym (append_assoc before (entries_from rest) (entries_from run)))
    ∙ reverse-append (before ++ entries_from rest) (entries_from run) in
    ap (at_most most) parts ∙ cut most within
  where
    cut : (most : Option ℕ) → first_of (length run) most ≡ length run → at_most most (reverse (entries_from run) ++ reverse (before ++ entries_from rest)) ≡ reverse (entries_from run) ++ at_most (fewer most (length run)) (reverse (before ++ entries_from rest))
    cut None within = refl
    cut (Some n) within =
        let long : length (reverse (entries_from run)) ≡ length run = length-reverse (entries_from run) ∙ length-entries_from run in
        take_behind n (reverse (entries_from run)) (reverse (before ++ entries_from rest)) (omega (arith, long, within))
        ∙ ap (λ (k : ℕ). reverse (entries_from run) ++ take (n - k) (reverse (before ++ entries_from rest))) long
