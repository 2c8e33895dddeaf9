-- What a row says of a page and of a prime block, and that it says it of one only.
use Rattle.std.proofs.Common.{◌≡◌, ℕ, ◌+◌, ◌*◌, ◌<◌, ◌≤◌, Option, Some, None, IfSome, IfNone, List, [], ◌∷◌, length, get_or, take, drop, refl, ap, sym, ◌∙◌, arith}
use Rattle.std.specs.Prelude.{slice_index, unwrap_or}
use Rattle.blink_page.specs.declared.limits.TheConstants.{LEVELS, MAX_FAN}
use Rattle.blink_page.specs.{IsPageNumber, PlainPage, IsLawfulPage}
use Rattle.blink_rows.specs.declared.limits.TheConstants.{ROW_WORDS, HEAD_WORDS}
use Rattle.blink_rows.specs.Row.{flat, flag, page_words, prime_words, AreZero, IsPageRow, IsPrimeRow}
use Rattle.std.proofs.lemmas.List.{get_or-take, length-take-le}
use Rattle.blink_rows.proofs.RowsOfContent.{first_six, body_of_row, rest_of_row}
use Rattle.blink_rows.proofs.EntriesAsWords.{length-flat, same_from_flat}

-- how many words there are
pub length-page_words : (p : PlainPage) → length (page_words p) ≡ HEAD_WORDS + 2 * length p.entries
length-page_words p = omega (arith, length-flat p.entries)

pub length-prime_words : (leftmost : List ℕ) → length (prime_words leftmost) ≡ HEAD_WORDS + length leftmost
length-prime_words leftmost = omega arith

-- a floor is what its two words say
same_floor : (a b : Option ℕ) → flag a ≡ flag b → unwrap_or a 0 ≡ unwrap_or b 0 → a ≡ b
same_floor None None has same = refl
same_floor None (Some y) has same = absurd (omega arith)
same_floor (Some x) None has same = absurd (omega arith)
same_floor (Some x) (Some y) has same = ap Some same

-- a link is what its word says, since no page has number 0
same_link : (a b : Option ℕ) → IfSome a IsPageNumber → IfSome b IsPageNumber → unwrap_or a 0 ≡ unwrap_or b 0 → a ≡ b
same_link None None first second same = refl
same_link None (Some y) first second same = absurd (omega (arith, second.0))
same_link (Some x) None first second same = absurd (omega (arith, first.0))
same_link (Some x) (Some y) first second same = ap Some same

-- a page is what its words say
pub same_page : (p q : PlainPage) → p.level ≡ q.level → flag p.floor ≡ flag q.floor → unwrap_or p.floor 0 ≡ unwrap_or q.floor 0 → p.high ≡ q.high → IfSome p.right IsPageNumber
    → IfSome q.right IsPageNumber → unwrap_or p.right 0 ≡ unwrap_or q.right 0 → flat p.entries ≡ flat q.entries → p ≡ q
same_page p q level has floor high first second right entries =
    let floors = same_floor p.floor q.floor has floor in
    let rights = same_link p.right q.right first second right in
    let all = same_from_flat p.entries q.entries entries in
    λ i. record { level = level i; floor = floors i; high = high i; right = rights i; entries = all i }

module _ (p : PlainPage) (words : List ℕ) (row : IsPageRow p words) where
  -- the number of entries stands in word 5
  pub count_of_page_row : slice_index words 5 ≡ length p.entries
  count_of_page_row = row.filled 5 (omega arith)

  module _ (few : length p.entries ≤ MAX_FAN) where
    -- the entries behind the head
    pub entries_of_page_row : take (2 * length p.entries) (drop HEAD_WORDS words) ≡ flat p.entries
    entries_of_page_row = rw length-flat at (body_of_row words
        (p.level ∷ flag p.floor ∷ unwrap_or p.floor 0 ∷ p.high ∷ unwrap_or p.right 0 ∷ length p.entries ∷ []) (flat p.entries) refl row (omega (arith, length-flat p.entries)))

    -- and nothing behind them
    pub rest_of_page_row : AreZero (drop (2 * length p.entries) (drop HEAD_WORDS words))
    rest_of_page_row = rw length-flat at (rest_of_row words
        (p.level ∷ flag p.floor ∷ unwrap_or p.floor 0 ∷ p.high ∷ unwrap_or p.right 0 ∷ length p.entries ∷ []) (flat p.entries) refl row (omega (arith, length-flat p.entries)))

-- a row is that of one page
pub row_has_one_page : (p q : PlainPage) (words : List ℕ) → IsLawfulPage MAX_FAN p → IsLawfulPage MAX_FAN q → IsPageRow p words → IsPageRow q words → p ≡ q
row_has_one_page p q words first second one other =
    let word = λ (n : ℕ) (below : n < ROW_WORDS). sym (one.filled n below) ∙ other.filled n below in
    let counts : length p.entries ≡ length q.entries = word 5 (omega arith) in
    let entries = sym (entries_of_page_row p words one first.at_most_fan) ∙ ap (λ n. take (2 * n) (drop HEAD_WORDS words)) counts ∙ entries_of_page_row q words other second.at_most_fan in
    same_page p q (word 0 (omega arith)) (word 1 (omega arith)) (word 2 (omega arith)) (word 3 (omega arith)) first.right_is_number second.right_is_number (word 4 (omega arith)) entries

module _ (leftmost words : List ℕ) (row : IsPrimeRow leftmost words) where
  -- the number of levels stands in word 5
  pub count_of_prime_row : slice_index words 5 ≡ length leftmost
  count_of_prime_row = row.filled 5 (omega arith)

  module _ (few : length leftmost ≤ LEVELS) where
    -- the leftmost pages behind the head
    pub pages_of_prime_row : take (length leftmost) (drop HEAD_WORDS words) ≡ leftmost
    pages_of_prime_row = body_of_row words (0 ∷ 0 ∷ 0 ∷ 0 ∷ 0 ∷ length leftmost ∷ []) leftmost refl row (omega arith)

    -- and nothing behind them
    pub rest_of_prime_row : AreZero (drop (length leftmost) (drop HEAD_WORDS words))
    rest_of_prime_row = rest_of_row words (0 ∷ 0 ∷ 0 ∷ 0 ∷ 0 ∷ length leftmost ∷ []) leftmost refl row (omega arith)

-- the words before the number of levels
pub zero_head : (leftmost words : List ℕ) → IsPrimeRow leftmost words → AreZero (take 5 words)
zero_head leftmost words row n below =
    let few : n < 5 = omega (arith, length-take-le 5 words (omega (arith, row.width))) in
    get_or-take 5 words n 0 few ∙ row.filled n (omega arith) ∙ first_six (λ m. m < 5 → get_or (prime_words leftmost) m 0 ≡ 0)
    (λ b. refl) (λ b. refl) (λ b. refl) (λ b. refl) (λ b. refl) (λ b. absurd (omega arith)) n (omega arith) few

pub zero_from_head : (words : List ℕ) (n : ℕ) → length words ≡ ROW_WORDS → AreZero (take 5 words) → n < 5 → get_or words n 0 ≡ 0
zero_from_head words n wide zero few =
    sym (get_or-take 5 words n 0 few) ∙ zero n (omega (arith, length-take-le 5 words (omega arith)))

-- a row is that of one prime block
pub row_has_one_prime : (ls ks words : List ℕ) → length ls ≤ LEVELS → IsPrimeRow ls words → IsPrimeRow ks words → ls ≡ ks
row_has_one_prime ls ks words few one other =
    let counts : length ls ≡ length ks = sym (count_of_prime_row ls words one) ∙ count_of_prime_row ks words other in
    sym (pages_of_prime_row ls words one few) ∙ ap (λ n. take n (drop HEAD_WORDS words)) counts ∙ pages_of_prime_row ks words other (omega arith)

-- what an `Option` owes where it is `None` holds where it always does
pub if_none : {T : Type 0} (o : Option T) (P : Type 0) → P → IfNone o P
if_none None P fact = fact
if_none (Some x) P fact = tt
