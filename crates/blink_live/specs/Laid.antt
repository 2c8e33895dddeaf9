-- The words of a table that opens.
use Rattle.std.specs.Prelude.{◌≡◌, ℕ, ◌+◌, ◌*◌, ◌<◌, ◌≤◌, Some, List, [], length, slice_index}
use Rattle.blink_page.specs.{PlainPage}
use Rattle.blink_rows.specs.{PlainCounts, page_words, prime_words}
use Rattle.blink_store.specs.{PlainStore, page_of}
use Rattle.blink_live.specs.Words.{word_count, place_word, pool_page, pool_row, RowIs}

-- the prime block is in row 1, page n is in row n + 1, and their page words name these rows; all other words are 0
pub record IsLaid (counts : PlainCounts) (store : PlainStore) (words : List ℕ) : Type 0 where
  pub width : length words ≡ word_count counts
  pub page_words_named : (number : ℕ) → number ≤ length store.pages → slice_index words number ≡ number + 1
  pub no_more : (place : ℕ) → length store.pages < place → place < 2 * counts.numbers → slice_index words place ≡ 0
  pub prime_row : RowIs counts words 1 (prime_words store.prime)
  pub page_rows : (number : ℕ) (page : PlainPage) → page_of store number ≡ Some page → RowIs counts words (number + 1) (page_words page)
  pub blank_rows : (row : ℕ) → length store.pages + 2 ≤ row → row ≤ counts.rows → RowIs counts words row []

-- the same, with so many places for sessions behind the rows, whose words are 0, and a pool of all rows and page numbers that no page has
pub record IsLaidWith (counts : PlainCounts) (places : ℕ) (store : PlainStore) (words : List ℕ) : Type 0 where
  pub width : length words ≡ word_count counts + 8 * places
  pub page_words_named : (number : ℕ) → number ≤ length store.pages → slice_index words number ≡ number + 1
  pub no_more : (place : ℕ) → length store.pages < place → place < 2 * counts.numbers → slice_index words place ≡ 0
  pub prime_row : RowIs counts words 1 (prime_words store.prime)
  pub page_rows : (number : ℕ) (page : PlainPage) → page_of store number ≡ Some page → RowIs counts words (number + 1) (page_words page)
  pub blank_rows : (row : ℕ) → length store.pages + 2 ≤ row → row ≤ counts.rows → RowIs counts words row []
  pub pool_rows : 1 ≤ places → slice_index words (pool_row counts) ≡ length store.pages + 2
  pub pool_pages : 1 ≤ places → slice_index words (pool_page counts) ≡ length store.pages + 1
  pub blank_places : (place : ℕ) → place < places → slice_index words (place_word counts place) ≡ 0
