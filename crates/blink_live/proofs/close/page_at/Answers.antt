use Rattle.std.proofs.Common.{◌≡◌, ℕ, ◌+◌, ◌*◌, ◌<◌, ◌≤◌, List, ◌++◌, length, get_or, subst, sym, ap, ◌∙◌, arith}
use Rattle.std.proofs.Math.ListN.{get_elem?}
use mathlib.Core.Option.{some}
use Rattle.std.specs.Mem.Slots.{slots_items}
use Rattle.blink_page.specs.{IsLawfulPage, PlainPage}
use Rattle.blink_page.specs.declared.limits.TheConstants.{MAX_FAN}
use Rattle.blink_rows.specs.{IsLoggedRow, PlainCounts, page_words, records_in, row_in, row_words}
use Rattle.blink_rows.specs.declared.limits.TheConstants.{ROW_WORDS}
use Rattle.blink_rows.specs.declared.naming.Records.{Records}
use Rattle.blink_rows.proofs.Offered.{length-row_words}
use Rattle.blink_live.specs.Words.{IsRowNumber, KeepsPage, named_row, row_start}
use Rattle.blink_live.proofs.gathered.RowIsOfKeptPage.{count_of_kept, logged_row, one_page_kept, word_there}
use Rattle.blink_live.proofs.close.page_at.Goals as goal

module _ (counts : PlainCounts) (words : List ℕ) (number word row : ℕ) (page : PlainPage) (kept : KeepsPage counts words number page) (lawful : IsLawfulPage MAX_FAN page) (found : get_elem? words number ≡ some word) (names : row ≡ row_in word) where
  its_word : get_or words number 0 ≡ word
  its_word = word_there words number word found

  -- the page word names a row
  its_row : named_row words number ≡ row
  its_row = ap row_in its_word ∙ sym names

  row_there : IsRowNumber counts row
  row_there = subst (IsRowNumber counts) its_row kept.row_in_range

  module _ (told : Records) (many start count : ℕ) (says : told ≡ records_in word) (is_many : many ≡ told.count) (is : start ≡ row_start counts row) (read : get_elem? words (start + 5) ≡ some count) where
    its_told : records_in (get_or words number 0) ≡ told
    its_told = ap records_in its_word ∙ sym says

    start_there : start ≡ row_start counts (named_row words number)
    start_there = is ∙ ap (row_start counts) (sym its_row)

    -- as many records as the page word says stand behind as many entries as the row says
    words_there : 6 + 2 * (count + many) ≡ length (row_words kept.base kept.version.records)
    words_there =
        let records : length kept.version.records ≡ told.count = ap (λ (r : Records). r.count) (kept.version.counts ∙ its_told) in
        let base : get_or words (start + 5) 0 ≡ length kept.base.entries = count_of_kept counts words (page_words kept.base ++ kept.behind) number start start_there (omega arith) kept.row_begins in
        let stands = word_there words (start + 5) count read in
        let long = length-row_words kept.base kept.version.records in
        omega (arith, records, base, stands, long, is_many)

    -- and a row has room for them
    room_there : 6 + 2 * (count + many) ≤ ROW_WORDS
    room_there = let room = (kept.version.logged lawful).room in let long = words_there in omega (arith, room, long)

    -- what is read is the row
    row_read : (loaded : List ℕ) → ((i : ℕ) → i < 6 + 2 * (count + many) → get_or loaded i 0 ≡ get_or words (start + i) 0) → IsLoggedRow kept.base kept.version.records loaded told
    row_read loaded same = logged_row counts words loaded number start (6 + 2 * (count + many)) told start_there its_told same page kept lawful words_there

pub row_start-start-requires-clause-first : goal.row_start-start-requires-clause-first
row_start-start-requires-clause-first c =
    let kept = c.requires.kept in
    (row_there c.args.counts.now (slots_items c.args.closed.now.words) c.args.number c.word-word.result c.row_in.result kept.0 kept.1 kept.2 c.word-word.ensures c.row_in.ensures.row).0

pub row_start-start-requires-clause-last : goal.row_start-start-requires-clause-last
row_start-start-requires-clause-last c =
    let kept = c.requires.kept in
    (row_there c.args.counts.now (slots_items c.args.closed.now.words) c.args.number c.word-word.result c.row_in.result kept.0 kept.1 kept.2 c.word-word.ensures c.row_in.ensures.row).1

pub overflow_add-start : goal.overflow_add-start
overflow_add-start c =
    let kept = c.requires.kept in
    let range = row_there c.args.counts.now (slots_items c.args.closed.now.words) c.args.number c.word-word.result c.row_in.result kept.0 kept.1 kept.2 c.word-word.ensures c.row_in.ensures.row in
    omega (arith, range.0, range.1, c.row_start-start.ensures, c.requires.width)

pub word-requires : goal.word-requires
word-requires c =
    let kept = c.requires.kept in
    let range = row_there c.args.counts.now (slots_items c.args.closed.now.words) c.args.number c.word-word.result c.row_in.result kept.0 kept.1 kept.2 c.word-word.ensures c.row_in.ensures.row in
    (omega (arith, range.0, range.1, c.row_start-start.ensures, c.requires.width), c.requires.full)

pub row_words-words-requires-clause-inside : goal.row_words-words-requires-clause-inside
row_words-words-requires-clause-inside c =
    let kept = c.requires.kept in
    let range = row_there c.args.counts.now (slots_items c.args.closed.now.words) c.args.number c.word-word.result c.row_in.result kept.0 kept.1 kept.2 c.word-word.ensures c.row_in.ensures.row in
    omega (arith, range.0, range.1, c.row_start-start.ensures, c.requires.width)

pub overflow_add-count : goal.overflow_add-count
overflow_add-count c =
    let kept = c.requires.kept in
    let room = room_there c.args.counts.now (slots_items c.args.closed.now.words) c.args.number c.word-word.result c.row_in.result kept.0 kept.1 kept.2 c.word-word.ensures c.row_in.ensures.row c.records_in-records.result c.from.result c.row_start-start.result c.word.result c.records_in-records.ensures.records c.from.ensures c.row_start-start.ensures c.word.ensures in
    omega (arith, room)

pub overflow_mul-count : goal.overflow_mul-count
overflow_mul-count c =
    let kept = c.requires.kept in
    let room = room_there c.args.counts.now (slots_items c.args.closed.now.words) c.args.number c.word-word.result c.row_in.result kept.0 kept.1 kept.2 c.word-word.ensures c.row_in.ensures.row c.records_in-records.result c.from.result c.row_start-start.result c.word.result c.records_in-records.ensures.records c.from.ensures c.row_start-start.ensures c.word.ensures in
    omega (arith, room)

pub overflow_add-count-2 : goal.overflow_add-count-2
overflow_add-count-2 c =
    let kept = c.requires.kept in
    let room = room_there c.args.counts.now (slots_items c.args.closed.now.words) c.args.number c.word-word.result c.row_in.result kept.0 kept.1 kept.2 c.word-word.ensures c.row_in.ensures.row c.records_in-records.result c.from.result c.row_start-start.result c.word.result c.records_in-records.ensures.records c.from.ensures c.row_start-start.ensures c.word.ensures in
    omega (arith, room)

pub row_words-words-requires-clause-fits : goal.row_words-words-requires-clause-fits
row_words-words-requires-clause-fits c =
    let kept = c.requires.kept in
    let room = room_there c.args.counts.now (slots_items c.args.closed.now.words) c.args.number c.word-word.result c.row_in.result kept.0 kept.1 kept.2 c.word-word.ensures c.row_in.ensures.row c.records_in-records.result c.from.result c.row_start-start.result c.word.result c.records_in-records.ensures.records c.from.ensures c.row_start-start.ensures c.word.ensures in
    room

pub unreachable-requires : goal.unreachable-requires
unreachable-requires c =
    let kept = c.requires.kept in
    c.in-None.ensures.none kept.1.base kept.1.version.records
    (row_read c.args.counts.now (slots_items c.args.closed.now.words) c.args.number c.word-word.result c.row_in.result kept.0 kept.1 kept.2 c.word-word.ensures c.row_in.ensures.row c.records_in-records.result c.from.result c.row_start-start.result c.word.result c.records_in-records.ensures.records c.from.ensures c.row_start-start.ensures c.word.ensures c.row_words-words.result c.row_words-words.ensures.words)

pub returns : goal.returns
returns c other kept lawful =
    let read = c.in-Some.ensures.page in
    one_page_kept c.args.counts.now (slots_items c.args.closed.now.words) c.row_words-words.result c.args.number c.records_in-records.result c.in-Some.page read.0 read.1 read.2 read.3 other kept
    (row_read c.args.counts.now (slots_items c.args.closed.now.words) c.args.number c.word-word.result c.row_in.result other kept lawful c.word-word.ensures c.row_in.ensures.row c.records_in-records.result c.from.result c.row_start-start.result c.word.result c.records_in-records.ensures.records c.from.ensures c.row_start-start.ensures c.word.ensures c.row_words-words.result c.row_words-words.ensures.words)
