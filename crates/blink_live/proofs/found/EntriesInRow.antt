-- The words of a page's row tell its entries, and where a search among them ends.
use Rattle.std.proofs.Common.{◌≡◌, ℕ, zero, suc, ◌+◌, ◌*◌, ◌<◌, ◌≤◌, Some, List, [], ◌∷◌, length, get_or, refl, ap, ◌∙◌, arith}
use Rattle.std.proofs.lemmas.Bool.Decides.{nat_tests}
use Rattle.std.specs.Prelude.{slice_index}
use Rattle.blink_page.specs.{PlainPage, IsRising, place_of}
use Rattle.blink_rows.specs.{flat, page_words}
use Rattle.blink_rows.specs.declared.limits.TheConstants.{HEAD_WORDS}
use Rattle.blink_rows.proofs.Offered.{length-page_words}
use Rattle.blink_live.specs.Seats.{ReadsPage}
use Rattle.blink_live.specs.Views.{SeatState}

flat_key : (entries : List (ℕ × ℕ)) (j : ℕ) → get_or (flat entries) (2 * j) 0 ≡ (get_or entries j (0, 0)).0
flat_key [] j = refl
flat_key ((key, value) ∷ rest) zero = refl
flat_key ((key, value) ∷ rest) (suc j) = let two : 2 * suc j ≡ suc (suc (2 * j)) = omega arith in ap (λ (n : ℕ). get_or (key ∷ value ∷ flat rest) n 0) two ∙ flat_key rest j

flat_value : (entries : List (ℕ × ℕ)) (j : ℕ) → get_or (flat entries) (2 * j + 1) 0 ≡ (get_or entries j (0, 0)).1
flat_value [] j = refl
flat_value ((key, value) ∷ rest) zero = refl
flat_value ((key, value) ∷ rest) (suc j) = let two : 2 * suc j + 1 ≡ suc (suc (2 * j + 1)) = omega arith in ap (λ (n : ℕ). get_or (key ∷ value ∷ flat rest) n 0) two ∙ flat_value rest j

behind_head : (page : PlainPage) (n : ℕ) → slice_index (page_words page) (HEAD_WORDS + n) ≡ get_or (flat page.entries) n 0
behind_head page n = let six : HEAD_WORDS + n ≡ suc (suc (suc (suc (suc (suc n))))) = omega arith in ap (slice_index (page_words page)) six

pub key_word : (page : PlainPage) (j at : ℕ) → at ≡ HEAD_WORDS + 2 * j → slice_index (page_words page) at ≡ (get_or page.entries j (0, 0)).0
key_word page j at is = ap (slice_index (page_words page)) is ∙ (behind_head page (2 * j) ∙ flat_key page.entries j)

pub value_word : (page : PlainPage) (j at : ℕ) → at ≡ HEAD_WORDS + 2 * j + 1 → slice_index (page_words page) at ≡ (get_or page.entries j (0, 0)).1
value_word page j at is =
    let sum : HEAD_WORDS + 2 * j + 1 ≡ HEAD_WORDS + (2 * j + 1) = omega arith in
    ap (slice_index (page_words page)) (is ∙ sum) ∙ (behind_head page (2 * j + 1) ∙ flat_value page.entries j)

-- where they stand
pub key_inside : (page : PlainPage) (j : ℕ) → j < length page.entries → HEAD_WORDS + 2 * j < length (page_words page)
key_inside page j inside = omega (arith, inside, length-page_words page)

pub value_inside : (page : PlainPage) (j : ℕ) → j < length page.entries → HEAD_WORDS + 2 * j + 1 < length (page_words page)
value_inside page j inside = omega (arith, inside, length-page_words page)

-- a word that a seat loads after others is one of the row's
pub its_word : {me now : SeatState} {row : ℕ} (leaf : PlainPage) (word place : ℕ) → now ≡ me → ReadsPage me row leaf → ((content : List ℕ) → now.0.reads ≡ Some (row, content) → place < length content → word ≡ slice_index content place) → place < length (page_words leaf)
    → word ≡ slice_index (page_words leaf) place
its_word leaf word place same reads loads inside = loads (page_words leaf) (ap (λ (x : SeatState). x.0.reads) same ∙ reads.reads) inside

-- a search goes on behind an entry of a lesser key
pub goes_on_behind : (key : ℕ) (entries : List (ℕ × ℕ)) (j : ℕ) → j ≤ place_of key entries → j < length entries → (get_or entries j (0, 0)).0 < key → suc j ≤ place_of key entries
goes_on_behind key [] j reached inside less = absurd (omega (arith, inside))
goes_on_behind key ((k, v) ∷ rest) zero reached inside less = grind (arith, nat_tests)
goes_on_behind key ((k, v) ∷ rest) (suc j) reached inside less =
    let further : j ≤ place_of key rest → suc j ≤ place_of key rest = λ r. goes_on_behind key rest j r (omega (arith, inside)) less in
    grind (arith, nat_tests, further)

-- and ends at one of no lesser key
pub ends_at : (key : ℕ) (entries : List (ℕ × ℕ)) (j : ℕ) → j ≤ place_of key entries → j < length entries → key ≤ (get_or entries j (0, 0)).0 → place_of key entries ≡ j
ends_at key [] j reached inside no_less = absurd (omega (arith, inside))
ends_at key ((k, v) ∷ rest) zero reached inside no_less = grind (arith, nat_tests)
ends_at key ((k, v) ∷ rest) (suc j) reached inside no_less =
    let further : j ≤ place_of key rest → place_of key rest ≡ j = λ r. ends_at key rest j r (omega (arith, inside)) no_less in
    grind (arith, nat_tests, further)

-- which isn't behind it
pub not_behind : (key : ℕ) (entries : List (ℕ × ℕ)) (j : ℕ) → j < length entries → key ≤ (get_or entries j (0, 0)).0 → place_of key entries ≤ j
not_behind key [] j inside no_less = absurd (omega (arith, inside))
not_behind key ((k, v) ∷ rest) zero inside no_less = grind (arith, nat_tests, no_less)
not_behind key ((k, v) ∷ rest) (suc j) inside no_less =
    let further = not_behind key rest j (omega (arith, inside)) no_less in
    grind (arith, nat_tests, further)

at_least_from : (entries : List (ℕ × ℕ)) (j from to : ℕ) → IsRising from entries to → j < length entries → from ≤ (get_or entries j (0, 0)).0
at_least_from [] j from to rises inside = absurd (omega (arith, inside))
at_least_from ((k, v) ∷ rest) zero from to rises inside = rises.0
at_least_from ((k, v) ∷ rest) (suc j) from to rises inside =
    let here = rises.0 in
    let further = at_least_from rest j (k + 1) to rises.1 (omega (arith, inside)) in
    omega (arith, here, further)

-- the first entry of no lesser key stands behind each entry of a lesser one
pub stands_behind : (key : ℕ) (entries : List (ℕ × ℕ)) (j from to : ℕ) → IsRising from entries to → j < length entries → (get_or entries j (0, 0)).0 < key → suc j ≤ place_of key entries
stands_behind key [] j from to rises inside less = absurd (omega (arith, inside))
stands_behind key ((k, v) ∷ rest) zero from to rises inside less = grind (arith, nat_tests)
stands_behind key ((k, v) ∷ rest) (suc j) from to rises inside less =
    let above = at_least_from rest j (k + 1) to rises.1 (omega (arith, inside)) in
    let first_less : k < key = omega (arith, above, less) in
    let further : suc j ≤ place_of key rest = stands_behind key rest j (k + 1) to rises.1 (omega (arith, inside)) less in
    grind (arith, nat_tests, first_less, further)
