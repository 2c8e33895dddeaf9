use Rattle.std.proofs.Common.{◌≡◌, ℕ, ◌+◌, ◌<◌, ◌≤◌, List, length, get_or, sym, ap, ◌∙◌, arith}
use Rattle.std.proofs.Math.ListN.{get_elem?}
use mathlib.Core.Option.{some}
use Rattle.std.specs.Mem.Slots.{slots_items}
use Rattle.blink_rows.specs.{PlainCounts, prime_words, row_in, IsPrimeRow}
use Rattle.blink_rows.specs.declared.limits.TheConstants.{ROW_WORDS}
use Rattle.blink_rows.proofs.Offered.{row_has_one_prime}
use Rattle.blink_live.specs.Merge.{KeepsPrime}
use Rattle.blink_live.specs.Words.{named_row, row_start}
use Rattle.blink_live.proofs.gathered.RowIsOfKeptPage.{count_of_kept, word_there, row_of_content}
use Rattle.blink_live.proofs.close.prime_at.Goals as goal

-- the page word names the row that was decoded
start_there : (counts : PlainCounts) (words : List ℕ) (word row start : ℕ) → get_elem? words 0 ≡ some word → row ≡ row_in word → start ≡ row_start counts row → start ≡ row_start counts (named_row words 0)
start_there counts words word row start found names is = is ∙ ap (row_start counts) (names ∙ sym (ap row_in (word_there words 0 word found)))

-- the row tells how many levels the prime block names
levels_there : (counts : PlainCounts) (words leftmost : List ℕ) (word row start levels : ℕ) → KeepsPrime counts words leftmost → get_elem? words 0 ≡ some word → row ≡ row_in word → start ≡ row_start counts row → get_elem? words (start + 5) ≡ some levels
    → levels ≡ length leftmost
levels_there counts words leftmost word row start levels kept found names is told =
    let here = start_there counts words word row start found names is in
    sym (word_there words (start + 5) levels told) ∙ count_of_kept counts words (prime_words leftmost) 0 start here (omega arith) kept.row_begins

pub overflow_add-levels : goal.overflow_add-levels
overflow_add-levels c =
    let kept = c.requires.kept in
    let count = levels_there c.args.counts.now (slots_items c.args.closed.now.words) kept.0 c.word.result c.row_in-row.result c.row_start-start.result c.word-levels.result kept.1 c.word.ensures c.row_in-row.ensures.row c.row_start-start.ensures c.word-levels.ensures in
    omega (arith, count, kept.1.lawful.at_most_levels)

pub row_words-words-requires-clause-fits : goal.row_words-words-requires-clause-fits
row_words-words-requires-clause-fits c =
    let kept = c.requires.kept in
    let count = levels_there c.args.counts.now (slots_items c.args.closed.now.words) kept.0 c.word.result c.row_in-row.result c.row_start-start.result c.word-levels.result kept.1 c.word.ensures c.row_in-row.ensures.row c.row_start-start.ensures c.word-levels.ensures in
    omega (arith, count, kept.1.lawful.at_most_levels)

module _ (counts : PlainCounts) (words row_words leftmost : List ℕ) (word row start levels : ℕ) (kept : KeepsPrime counts words leftmost) (found : get_elem? words 0 ≡ some word) (names : row ≡ row_in word) (is : start ≡ row_start counts row) (told : get_elem? words (start + 5) ≡ some levels)
    (width : length row_words ≡ ROW_WORDS) (same : (i : ℕ) → i < 6 + levels → get_or row_words i 0 ≡ get_or words (start + i) 0) (rest : (i : ℕ) → 6 + levels ≤ i → get_or row_words i 0 ≡ 0) where
  prime_there : IsPrimeRow leftmost row_words
  prime_there =
      let here = start_there counts words word row start found names is in
      let count = levels_there counts words leftmost word row start levels kept found names is told in
      row_of_content counts words row_words 0 start (6 + levels) width here same rest (prime_words leftmost) (omega (arith, count)) kept.row_begins

pub unreachable-requires : goal.unreachable-requires
unreachable-requires c =
    let kept = c.requires.kept in
    c.in_default.ensures.none kept.0 kept.1.lawful (prime_there c.args.counts.now (slots_items c.args.closed.now.words) c.row_words-words.result kept.0 c.word.result c.row_in-row.result c.row_start-start.result c.word-levels.result kept.1 c.word.ensures c.row_in-row.ensures.row c.row_start-start.ensures c.word-levels.ensures c.row_words-words.ensures.width c.row_words-words.ensures.words c.row_words-words.ensures.rest)

pub returns : goal.returns
returns c leftmost kept =
    let its = prime_there c.args.counts.now (slots_items c.args.closed.now.words) c.row_words-words.result leftmost c.word.result c.row_in-row.result c.row_start-start.result c.word-levels.result kept c.word.ensures c.row_in-row.ensures.row c.row_start-start.ensures c.word-levels.ensures c.row_words-words.ensures.width c.row_words-words.ensures.words c.row_words-words.ensures.rest in
    sym (row_has_one_prime leftmost c.in-Some.prime c.row_words-words.result kept.lawful.at_most_levels its c.in-Some.ensures.prime)
