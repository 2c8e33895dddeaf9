-- What words read from the table say.
use Rattle.std.proofs.Common.{◌≡◌, ℕ, ◌+◌, ◌<◌, ◌≤◌, zero, suc, List, [], ◌∷◌, ◌++◌, length, get_or, sym, ap, ◌∙◌, ⊎_elim, arith}
use Rattle.std.proofs.lemmas.Bool.{cases_lt}
use Rattle.std.proofs.lemmas.List.{get_or_past}
use Rattle.std.proofs.Math.ListN.{get_elem?}
use mathlib.Core.Option.{some}
use Rattle.blink_page.specs.{PlainPage, IsLawfulPage}
use Rattle.blink_page.specs.declared.limits.TheConstants.{MAX_FAN}
use Rattle.blink_rows.specs.{IsLoggedRow, IsRowOf, PlainCounts, page_with, page_words, records_in, row_words}
use Rattle.blink_rows.specs.declared.log.Record.{Record}
use Rattle.blink_rows.specs.declared.naming.Records.{Records}
use Rattle.blink_rows.specs.declared.limits.TheConstants.{ROW_WORDS}
use Rattle.blink_rows.proofs.Offered.{one_page}
use Rattle.blink_live.specs.Words.{KeepsPage, RowBegins, named_row, row_start}

-- the word that was read is the word that stands there
pub word_there : (words : List ℕ) (i word : ℕ) → get_elem? words i ≡ some word → get_or words i 0 ≡ word
word_there [] i word found = cc
word_there (w ∷ words) zero word found = cc
word_there (w ∷ words) (suc i) word found = word_there words i word found

module _ (counts : PlainCounts) (words loaded : List ℕ) (number start many : ℕ) (width : length loaded ≡ ROW_WORDS) (is_start : start ≡ row_start counts (named_row words number))
    (same : (i : ℕ) → i < many → get_or loaded i 0 ≡ get_or words (start + i) 0) (rest : (i : ℕ) → many ≤ i → get_or loaded i 0 ≡ 0) where
  -- the words that were read are the row that the word names, with 0 behind what it begins with
  pub row_of_content : (content : List ℕ) → many ≡ length content → RowBegins counts words (named_row words number) content → IsRowOf loaded content
  row_of_content content ends begins = record {
    width = width;
    filled = λ i inside. ⊎_elim
        (λ (few : i < many).
        let at : start + i ≡ row_start counts (named_row words number) + i = ap (λ (k : ℕ). k + i) is_start in
        same i few ∙ ap (λ (k : ℕ). get_or words k 0) at ∙ begins i inside (omega (arith, few, ends)))
        (λ (past : many ≤ i). rest i past ∙ sym (get_or_past content i 0 (omega (arith, past, ends))))
        (cases_lt i many);
  }

-- the number of a page's entries, or of a prime block's levels, stands in the row
pub count_of_kept : (counts : PlainCounts) (words content : List ℕ) (number start : ℕ) → start ≡ row_start counts (named_row words number) → 5 < length content → RowBegins counts words (named_row words number) content → get_or words (start + 5) 0 ≡ get_or content 5 0
count_of_kept counts words content number start is_start long begins = ap (λ (k : ℕ). get_or words (k + 5) 0) is_start ∙ begins 5 (omega arith) long

module _ (counts : PlainCounts) (words loaded : List ℕ) (number start many : ℕ) (told : Records) (is_start : start ≡ row_start counts (named_row words number)) (says : records_in (get_or words number 0) ≡ told)
    (same : (i : ℕ) → i < many → get_or loaded i 0 ≡ get_or words (start + i) 0) where
  -- the words that were read are the row of the page's base and records
  pub logged_row : (page : PlainPage) (kept : KeepsPage counts words number page) → IsLawfulPage MAX_FAN page → many ≡ length (row_words kept.base kept.version.records) → IsLoggedRow kept.base kept.version.records loaded told
  logged_row page kept lawful ends = record {
    logged = kept.version.logged lawful;
    begins = λ i inside.
        let content : page_words kept.base ++ kept.behind ≡ row_words kept.base kept.version.records = ap (λ (ws : List ℕ). page_words kept.base ++ ws) kept.version.words in
        let long = ap length content in
        let room = (kept.version.logged lawful).room in
        let at : start + i ≡ row_start counts (named_row words number) + i = ap (λ (k : ℕ). k + i) is_start in
        same i (omega (arith, inside, ends)) ∙ (ap (λ (k : ℕ). get_or words k 0) at ∙ (kept.row_begins i (omega (arith, inside, room)) (omega (arith, inside, long)) ∙ ap (λ (ws : List ℕ). get_or ws i 0) content));
    counts = kept.version.counts ∙ says;
  }

-- and no other page has them
pub one_page_kept : (counts : PlainCounts) (words loaded : List ℕ) (number : ℕ) (told : Records) (page base : PlainPage) (records : List Record) → IsLoggedRow base records loaded told → page ≡ page_with base records
    → (other : PlainPage) (kept : KeepsPage counts words number other) → IsLoggedRow kept.base kept.version.records loaded told → page ≡ other
one_page_kept counts words loaded number told page base records row is other kept its =
    is ∙ (one_page base kept.base records kept.version.records loaded told row its ∙ sym kept.version.is)
