use Rattle.std.proofs.Common.{◌≡◌, ◌+◌, take, ◌∙◌, subst, arith}
use Rattle.blink_page.specs.{PlainPage}
use Rattle.blink_rows.specs.{page_with}
use Rattle.blink_live.specs.Editing.{pointers_in}
use Rattle.blink_live.specs.Scanning.{IsCopied}
use Rattle.blink_live.proofs.found.RecordsInRow.{base_counted, key_loaded, pointer_loaded, record_at}
use Rattle.blink_live.proofs.scanned.RecordsAreApplied.{all_applied, record_inside, replaced_by}
use Rattle.blink_live.proofs.live.Live.replace_in.Goals as goal

pub overflow_add-at : goal.overflow_add-at
overflow_add-at c =
    let is = c.requires.page.1 in
    let inside = record_inside is c.records_in-older-end.result c.load_word-base.result c.from.result c.loop-older.older c.records_in-older-end.ensures.records
    (base_counted c.args.self.now.counts is c.row_place-start.ensures.start c.row_in.ensures.row c.load_word-base.ensures.word) c.from.ensures c.loop-older-test.true in
    omega (arith, inside.0)

pub overflow_mul-at : goal.overflow_mul-at
overflow_mul-at c =
    let is = c.requires.page.1 in
    let inside = record_inside is c.records_in-older-end.result c.load_word-base.result c.from.result c.loop-older.older c.records_in-older-end.ensures.records
    (base_counted c.args.self.now.counts is c.row_place-start.ensures.start c.row_in.ensures.row c.load_word-base.ensures.word) c.from.ensures c.loop-older-test.true in
    omega (arith, inside.0)

pub overflow_add-at-in-loop-older : goal.overflow_add-at-in-loop-older
overflow_add-at-in-loop-older c =
    let is = c.requires.page.1 in
    let inside = record_inside is c.records_in-older-end.result c.load_word-base.result c.from.result c.loop-older.older c.records_in-older-end.ensures.records
    (base_counted c.args.self.now.counts is c.row_place-start.ensures.start c.row_in.ensures.row c.load_word-base.ensures.word) c.from.ensures c.loop-older-test.true in
    omega (arith, inside.0)

pub load_word-key-requires-clause-place : goal.load_word-key-requires-clause-place
load_word-key-requires-clause-place c =
    let is = c.requires.page.1 in
    let inside = record_inside is c.records_in-older-end.result c.load_word-base.result c.from.result c.loop-older.older c.records_in-older-end.ensures.records
    (base_counted c.args.self.now.counts is c.row_place-start.ensures.start c.row_in.ensures.row c.load_word-base.ensures.word) c.from.ensures c.loop-older-test.true in
    omega (arith, inside.0)

pub overflow_add-at-in-loop-older-2 : goal.overflow_add-at-in-loop-older-2
overflow_add-at-in-loop-older-2 c =
    let is = c.requires.page.1 in
    let inside = record_inside is c.records_in-older-end.result c.load_word-base.result c.from.result c.loop-older.older c.records_in-older-end.ensures.records
    (base_counted c.args.self.now.counts is c.row_place-start.ensures.start c.row_in.ensures.row c.load_word-base.ensures.word) c.from.ensures c.loop-older-test.true in
    omega (arith, inside.0)

pub load_word-pointer-requires-clause-place : goal.load_word-pointer-requires-clause-place
load_word-pointer-requires-clause-place c =
    let is = c.requires.page.1 in
    let inside = record_inside is c.records_in-older-end.result c.load_word-base.result c.from.result c.loop-older.older c.records_in-older-end.ensures.records
    (base_counted c.args.self.now.counts is c.row_place-start.ensures.start c.row_in.ensures.row c.load_word-base.ensures.word) c.from.ensures c.loop-older-test.true in
    omega (arith, inside.0)

pub loop-older-init : goal.loop-older-init
loop-older-init c = record {
  same = c.load_word-base.ensures.same;
  copied = λ page is from stop was. was;
}

pub loop-older-preserved : goal.loop-older-preserved
loop-older-preserved c =
    let same = c.loop-older.invariant.same in
    let first = c.load_word-key.ensures.same in
    let second = c.load_word-pointer.ensures.same in record {
      same = (second.0 ∙ first.0 ∙ same.0, second.1 ∙ first.1 ∙ same.1, second.2 ∙ first.2 ∙ same.2);
      copied = λ page is from stop was.
          let older = c.loop-older.older in
          let base = base_counted c.args.self.now.counts is c.row_place-start.ensures.start c.row_in.ensures.row c.load_word-base.ensures.word in
          let inside = record_inside is c.records_in-older-end.result c.load_word-base.result c.from.result older c.records_in-older-end.ensures.records base c.from.ensures c.loop-older-test.true in
          let at = record_at is.version.records older inside.1 in
          let place = c.from.ensures in
          let key : c.load_word-key.result ≡ at.0.key = key_loaded c.args.self.now.counts is same.2 c.row_place-start.ensures.start c.row_in.ensures.row older at.0 at.1 _ c.load_word-key.result (omega (arith, base, place)) c.load_word-key.ensures.behind in
          let pointer : c.load_word-pointer.result ≡ at.0.pointer = pointer_loaded c.args.self.now.counts is (first.2 ∙ same.2) c.row_place-start.ensures.start c.row_in.ensures.row older at.0 at.1 _ c.load_word-pointer.result (omega (arith, base, place)) c.load_word-pointer.ensures.behind in
          c.replace_one.ensures.copied (pointers_in (page_with is.base (take older is.version.records))) (pointers_in (page_with is.base (take (older + 1) is.version.records)))
          (replaced_by is older inside.1 c.requires.kinds c.load_word-key.result c.load_word-pointer.result key pointer) from stop (c.loop-older.invariant.copied page is from stop was);
    }

pub returns-clause-copied : goal.returns-clause-copied
returns-clause-copied c page is from stop was =
    let all = c.loop-older-test.false in
    subst (λ (p : PlainPage). IsCopied (pointers_in p) from stop c.loop-older.copied)
    (all_applied is c.records_in-older-end.result c.loop-older.older c.records_in-older-end.ensures.records (omega (arith, all, c.loop-older.auto.older-end)))
    (c.loop-older.invariant.copied page is from stop was)
