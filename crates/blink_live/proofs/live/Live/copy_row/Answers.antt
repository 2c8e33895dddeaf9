use Rattle.std.proofs.Common.{◌≡◌, ℕ, ◌+◌, ◌<◌, Some, List, length, get_or, refl, sym, ◌∙◌, subst, arith}
use Rattle.std.specs.Prelude.{slice_index}
use Rattle.blink_batch.specs.declared.Entry.{Entry}
use Rattle.blink_page.specs.{PlainPage}
use Rattle.blink_rows.specs.{page_words}
use Rattle.blink_live.specs.Scanning.{BeginsFrom, IsCopied, IsFilled}
use Rattle.blink_live.specs.Seats.{ReadsPage}
use Rattle.blink_live.specs.Views.{SeatState}
use Rattle.blink_live.proofs.found.EntriesInRow.{key_inside, key_word}
use Rattle.blink_live.proofs.live.Live.copy_row.Goals as goal

-- a seat that has loaded words reads the same page
still : {me now : SeatState} {row : ℕ} {leaf : PlainPage} → now ≡ me → ReadsPage me row leaf → ReadsPage now row leaf
still {row = row} {leaf = leaf} same = subst (λ (x : SeatState). ReadsPage x row leaf) (sym same)

module _ (leaf : PlainPage) {me now : SeatState} {row : ℕ} (reads : ReadsPage me row leaf) (same : now ≡ me) (word : ℕ) where
  abbrev Loads : ℕ → Type 0
  Loads place = (content : List ℕ) → now.0.reads ≡ Some (row, content) → place < length content → word ≡ slice_index content place

  its_count : Loads 5 → word ≡ length leaf.entries
  its_count loads = loads (page_words leaf) (still same reads).reads (omega arith)

  its_high : Loads 3 → word ≡ leaf.high
  its_high loads = loads (page_words leaf) (still same reads).reads (omega arith)

  its_first : Loads 6 → 0 < length leaf.entries → word ≡ (get_or leaf.entries 0 (0, 0)).0
  its_first loads some = loads (page_words leaf) (still same reads).reads (key_inside leaf 0 some) ∙ key_word leaf 0 6 refl

-- ---- a page of which a part is copied

pub returns-then-count-eq0-clause-copied : goal.returns-then-count-eq0-clause-copied
returns-then-count-eq0-clause-copied c leaf known reads has =
    let same = c.load_word-first.ensures.same.2 ∙ c.load_word-high.ensures.same.2 ∙ c.load_word-count.ensures.same.2 in
    c.copy_part.ensures.copied leaf known (still same reads) has

-- ---- a whole page

pub copy_all-requires-clause-few : goal.copy_all-requires-clause-few
copy_all-requires-clause-few c =
    let leaf = c.requires.leaf.0 in
    let reads = c.requires.leaf.1 in
    let count = its_count leaf reads refl _ (λ content. c.load_word-count.ensures.word c.args.row content c.row_place-start.ensures.start) in
    let few = reads.lawful.at_most_fan in
    omega (arith, count, few)

pub returns-clause-few : goal.returns-clause-few
returns-clause-few c leaf reads =
    let count = its_count leaf reads refl _ (λ content. c.load_word-count.ensures.word c.args.row content c.row_place-start.ensures.start) in
    omega (arith, count)

pub returns-clause-within : goal.returns-clause-within
returns-clause-within c leaf reads =
    let high = its_high leaf reads c.load_word-count.ensures.same.2 _ (λ content. c.load_word-high.ensures.word c.args.row content c.row_place-start.ensures.start) in
    omega (arith, high)

pub returns-clause-ends : goal.returns-clause-ends
returns-clause-ends c leaf reads room =
    let high = its_high leaf reads c.load_word-count.ensures.same.2 _ (λ content. c.load_word-high.ensures.word c.args.row content c.row_place-start.ensures.start) in
    let test = c.if-high-hi.false in
    (omega (arith, high), omega (arith, high, test))

pub returns-clause-further : goal.returns-clause-further
returns-clause-further c =
    let leaf = c.requires.leaf in
    let high = its_high leaf.0 leaf.1 c.load_word-count.ensures.same.2 _ (λ content. c.load_word-high.ensures.word c.args.row content c.row_place-start.ensures.start) in
    let reaches = leaf.2 in
    let test = c.if-high-hi.false in
    (omega (arith, high, reaches), omega (arith, test))

pub returns-clause-copied : goal.returns-clause-copied
returns-clause-copied c leaf known reads has =
    let start = c.row_place-start.ensures.start in
    let two = c.load_word-high.ensures.same.2 ∙ c.load_word-count.ensures.same.2 in
    let same = c.load_word-first.ensures.same.2 ∙ two in
    let count = its_count leaf reads refl _ (λ content. c.load_word-count.ensures.word c.args.row content start) in
    let high = its_high leaf reads c.load_word-count.ensures.same.2 _ (λ content. c.load_word-high.ensures.word c.args.row content start) in
    let some : 0 < length leaf.entries = (let none = c.if-count-eq0.false in omega (arith, count, none)) in
    let first = its_first leaf reads two _ (λ content. c.load_word-first.ensures.word c.args.row content start) some in
    let begins : BeginsFrom c.args.from leaf = (let test = c.if-first-from.false in omega (arith, first, test)) in
    subst (λ (n : ℕ). (entries : List Entry) × IsFilled entries c.args.into.now c.copy_all.new.into × (c.load_word-count.result ≡ length entries) × IsCopied known c.args.from (n + 1) entries) (sym high)
    (c.copy_all.ensures.copied c.args.row leaf start (still same reads) count c.args.from known begins has)
