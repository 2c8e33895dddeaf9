-- The words of a table that opens, with the words of its places and of its pool behind them.
use Rattle.std.proofs.Common.{◌≡◌, ◌≢◌, ℕ, ◌+◌, ◌*◌, ◌<◌, ◌≤◌, List, [], ◌++◌, ◌-◌, length, replicate, set, ap, ◌∙◌, length-append, length-set, get_or-set_same, get_or-set_other, arith}
use Rattle.std.proofs.lemmas.List.{get_or_append_left, get_or-append_right, get_or-replicate, length-replicate}
use Rattle.std.specs.Prelude.{slice_index}
use Rattle.blink_rows.specs.{PlainCounts, page_words, prime_words}
use Rattle.blink_store.proofs.Offered.{has_page}
use Rattle.blink_store.specs.{PlainStore}
use Rattle.blink_live.specs.Laid.{IsLaid, IsLaidWith}
use Rattle.blink_live.specs.Words.{word_count, place_word, pool_page, pool_row, row_start, RowIs}

-- what stands behind the rows
record IsBehind (counts : PlainCounts) (places count : ℕ) (front words : List ℕ) : Type 0 where
  pub width : length words ≡ word_count counts + 8 * places
  pub before : (n : ℕ) → n < word_count counts → slice_index words n ≡ slice_index front n
  pub pool_rows : 1 ≤ places → slice_index words (pool_row counts) ≡ count + 2
  pub pool_pages : 1 ≤ places → slice_index words (pool_page counts) ≡ count + 1
  pub blank_places : (place : ℕ) → place < places → slice_index words (place_word counts place) ≡ 0

module _ (counts : PlainCounts) (places : ℕ) (store : PlainStore) (front words : List ℕ) (numbers : length store.pages < counts.numbers) (rows : length store.pages < counts.rows) (laid : IsLaid counts store front) (is : IsBehind counts places (length store.pages) front words) where
  row_before : (row : ℕ) (content : List ℕ) → 1 ≤ row → row ≤ counts.rows → RowIs counts front row content → RowIs counts words row content
  row_before row content least most its i below = is.before (row_start counts row + i) (omega (arith, least, most, below)) ∙ its i below

  laid_behind : IsLaidWith counts places store words
  laid_behind = record {
    width = is.width;
    page_words_named = λ number early. is.before number (omega (arith, early, numbers)) ∙ laid.page_words_named number early;
    no_more = λ place late early. is.before place (omega (arith, early)) ∙ laid.no_more place late early;
    prime_row = row_before 1 (prime_words store.prime) (omega arith) (omega (arith, rows)) laid.prime_row;
    page_rows = λ number page there.
        let has = has_page store number page there in
        row_before (number + 1) (page_words page) (omega arith) (let most = has.1 in omega (arith, most, rows)) (laid.page_rows number page there);
    blank_rows = λ row late early. row_before row [] (omega (arith, late)) early (laid.blank_rows row late early);
    pool_rows = is.pool_rows;
    pool_pages = is.pool_pages;
    blank_places = is.blank_places;
  }

-- a table whose keys passes own
pub laid_alone : (counts : PlainCounts) (store : PlainStore) (words : List ℕ) → length store.pages < counts.numbers → length store.pages < counts.rows → IsLaid counts store words → IsLaidWith counts 0 store words
laid_alone counts store words numbers rows laid = laid_behind counts 0 store words words numbers rows laid record {
  width = let wide = laid.width in omega (arith, wide);
  before = λ n inside. λ i. slice_index words n;
  pool_rows = λ some. absurd (omega (arith, some));
  pool_pages = λ some. absurd (omega (arith, some));
  blank_places = λ place inside. absurd (omega (arith, inside));
}

-- a common table: the pool's words are set behind the rows, and all others there are 0
module _ (counts : PlainCounts) (places : ℕ) (store : PlainStore) (front words : List ℕ) (some : 1 ≤ places) (laid : IsLaid counts store front)
    (is : words ≡ set (set (front ++ replicate (8 * places) 0) (pool_row counts) (length store.pages + 2)) (pool_page counts) (length store.pages + 1)) where
  abbrev zeros : List ℕ
  zeros = front ++ replicate (8 * places) 0

  abbrev first : List ℕ
  first = set zeros (pool_row counts) (length store.pages + 2)

  long : length zeros ≡ word_count counts + 8 * places
  long = length-append front (replicate (8 * places) 0) ∙ (λ i. laid.width i + length-replicate {A = ℕ} (8 * places) 0 i)

  long_first : length first ≡ word_count counts + 8 * places
  long_first = length-set zeros (pool_row counts) (length store.pages + 2) ∙ long

  else : (n : ℕ) → n ≢ pool_row counts → n ≢ pool_page counts → slice_index words n ≡ slice_index zeros n
  else n not_row not_page =
      ap (λ (l : List ℕ). slice_index l n) is
      ∙ (get_or-set_other first (pool_page counts) n (length store.pages + 1) 0 not_page
      ∙ get_or-set_other zeros (pool_row counts) n (length store.pages + 2) 0 not_row)

  behind : IsBehind counts places (length store.pages) front words
  behind = record {
    width = ap length is ∙ (length-set first (pool_page counts) (length store.pages + 1) ∙ long_first);
    before = λ n inside. else n (λ e. omega (arith, e, inside)) (λ e. omega (arith, e, inside)) ∙ get_or_append_left front (replicate (8 * places) 0) 0 n (let wide = laid.width in omega (arith, wide, inside));
    pool_rows = λ more.
        ap (λ (l : List ℕ). slice_index l (pool_row counts)) is
        ∙ (get_or-set_other first (pool_page counts) (pool_row counts) (length store.pages + 1) 0 (λ e. omega (arith, e))
        ∙ get_or-set_same zeros (pool_row counts) (length store.pages + 2) 0 (let wide = long in omega (arith, wide, more)));
    pool_pages = λ more. ap (λ (l : List ℕ). slice_index l (pool_page counts)) is ∙ get_or-set_same first (pool_page counts) (length store.pages + 1) 0 (let wide = long_first in omega (arith, wide, more));
    blank_places = λ place inside.
        else (place_word counts place) (λ e. omega (arith, e)) (λ e. omega (arith, e))
        ∙ (get_or-append_right front (replicate (8 * places) 0) (word_count counts) (place_word counts place) 0 laid.width (omega arith)
        ∙ get_or-replicate (8 * places) (place_word counts place - word_count counts) 0 0 (omega (arith, inside)));
  }

  pub laid_common : length store.pages < counts.numbers → length store.pages < counts.rows → IsLaidWith counts places store words
  laid_common numbers rows = laid_behind counts places store front words numbers rows laid behind
