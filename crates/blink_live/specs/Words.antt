-- The layout of a table's words: where its rows stand, and which rows hold pages.
use Rattle.std.specs.Prelude.{◌≡◌, ◌⊎◌, ℕ, ◌+◌, ◌-◌, ◌*◌, ◌<◌, ◌≤◌, Some, List, ◌++◌, length, slice_index}
use Rattle.blink_page.specs.{IsLawfulPage, PlainPage}
use Rattle.blink_rest.specs.{Pages}
use Rattle.blink_rows.specs.{IsLogged, PlainCounts, counted, log_words, page_with, page_words, records_in, row_in}
use Rattle.blink_rows.specs.declared.log.Record.{Record}
use Rattle.blink_page.specs.declared.limits.TheConstants.{MAX_FAN, MAX_PAGE}
use Rattle.blink_rows.specs.declared.limits.TheConstants.{ROW_WORDS}
use Rattle.blink_rows.specs.declared.span.Span.{Span}

-- the place where a row begins
abbrev pub row_start : PlainCounts → ℕ → ℕ
row_start counts row = 2 * counts.numbers + ROW_WORDS * (row - 1)

-- the number of words: a page word and a latch word for each number, and the rows
abbrev pub word_count : PlainCounts → ℕ
word_count counts = 2 * counts.numbers + ROW_WORDS * counts.rows

-- the place of a session's word: behind the rows each place has a cache line of the processor
abbrev pub place_word : PlainCounts → ℕ → ℕ
place_word counts place = word_count counts + 8 * place

-- in the line of the first place stand the pool's words too: the next row that nobody has taken, and the next page number
abbrev pub pool_row : PlainCounts → ℕ
pool_row counts = word_count counts + 1

abbrev pub pool_page : PlainCounts → ℕ
pool_page counts = word_count counts + 2

abbrev pub IsRowNumber : PlainCounts → ℕ → Type 0
IsRowNumber counts row = (1 ≤ row) × (row ≤ counts.rows)

-- the table has these rows, and these page numbers; no table has more numbers than exist
abbrev pub AreRowsIn : PlainCounts → Span → Type 0
AreRowsIn counts rows = (1 ≤ rows.next) × (rows.stop ≤ counts.rows + 1)

abbrev pub AreNumbersIn : PlainCounts → Span → Type 0
AreNumbersIn counts pages = (1 ≤ pages.next) × (pages.stop ≤ counts.numbers) × (counts.numbers ≤ MAX_PAGE + 1)

-- the row that the page word of this number names
abbrev pub named_row : List ℕ → ℕ → ℕ
named_row words number = row_in (slice_index words number)

-- the row's words are these, and 0 behind them
abbrev pub RowIs : PlainCounts → List ℕ → ℕ → List ℕ → Type 0
RowIs counts words row content = (i : ℕ) → i < ROW_WORDS → slice_index words (row_start counts row + i) ≡ slice_index content i

-- the row's first words are these
abbrev pub RowBegins : PlainCounts → List ℕ → ℕ → List ℕ → Type 0
RowBegins counts words row content = (i : ℕ) → i < ROW_WORDS → i < length content → slice_index words (row_start counts row + i) ≡ slice_index content i

-- these words begin with those
pub record BeginWith (words content : List ℕ) : Type 0 where
  pub all : length content ≤ length words
  pub filled : (i : ℕ) → i < length content → slice_index words i ≡ slice_index content i

-- the words before `from`, and those from `to` on, are as they were
abbrev pub IsSameOutside : ℕ → ℕ → List ℕ → List ℕ → Type 0
IsSameOutside from to old new = (n : ℕ) → (n < from) ⊎ (to ≤ n) → slice_index new n ≡ slice_index old n

-- what a page word says of its row, together with the base at the row's begin and the words behind it: these are the page's records,
-- and make the page of the base
pub record IsVersion (word : ℕ) (base : PlainPage) (behind : List ℕ) (page : PlainPage) : Type 0 where
  pub records : List Record
  pub words : behind ≡ log_words records
  pub counts : counted records ≡ records_in word
  pub is : page ≡ page_with base records
  pub logged : IsLawfulPage MAX_FAN page → IsLogged MAX_FAN base records

-- the page word of this number names a row that holds the page: a base, and the records behind it
pub record KeepsPage (counts : PlainCounts) (words : List ℕ) (number : ℕ) (page : PlainPage) : Type 0 where
  pub number_in_range : (1 ≤ number) × (number < counts.numbers)
  pub row_in_range : IsRowNumber counts (named_row words number)
  pub base : PlainPage
  pub behind : List ℕ
  pub row_begins : RowBegins counts words (named_row words number) (page_words base ++ behind)
  pub version : IsVersion (slice_index words number) base behind page

-- the words hold each of these pages
abbrev pub KeepsPages : PlainCounts → List ℕ → Pages → Type 0
KeepsPages counts words pages = (number : ℕ) (page : PlainPage) → pages number ≡ Some page → KeepsPage counts words number page
