use Rattle.std.proofs.Common.{◌≡◌, ℕ, ◌+◌, List, inl, inr, length, take, refl, sym, ap, ◌∙◌, subst, arith}
use Rattle.blink_batch.specs.declared.Entry.{Entry}
use Rattle.blink_page.specs.{PlainPage}
use Rattle.blink_rows.specs.{page_with}
use Rattle.blink_live.specs.Editing.{pointers_in}
use Rattle.blink_live.specs.Scanning.{IsCopied}
use Rattle.blink_live.proofs.found.RecordsInRow.{base_counted, counted_there, key_loaded, pointer_loaded, record_at}
use Rattle.blink_live.proofs.scanned.RecordsAreApplied.{all_applied, edited_by, edited_outside, record_inside}
use Rattle.blink_live.proofs.live.Live.edit_in.Goals.{then-range-key+then-key-range, else-range-key, else-range-key-via-then-range-key+else-key-range, else-range-key-via-else-range-key}
use Rattle.blink_live.proofs.live.Live.edit_in.Goals as goal

pub overflow_add-at : goal.overflow_add-at
overflow_add-at c =
    let is = c.requires.page.1 in
    let inside = record_inside is c.records_in-records.result c.load_word-base.result c.from.result c.loop-older.older c.records_in-records.ensures.records
    (base_counted c.args.self.now.counts is c.row_place-start.ensures.start c.row_in.ensures.row c.load_word-base.ensures.word) c.from.ensures c.loop-older-test.true in
    omega (arith, inside.0)

pub overflow_mul-at : goal.overflow_mul-at
overflow_mul-at c =
    let is = c.requires.page.1 in
    let inside = record_inside is c.records_in-records.result c.load_word-base.result c.from.result c.loop-older.older c.records_in-records.ensures.records
    (base_counted c.args.self.now.counts is c.row_place-start.ensures.start c.row_in.ensures.row c.load_word-base.ensures.word) c.from.ensures c.loop-older-test.true in
    omega (arith, inside.0)

pub overflow_add-at-in-loop-older : goal.overflow_add-at-in-loop-older
overflow_add-at-in-loop-older c =
    let is = c.requires.page.1 in
    let inside = record_inside is c.records_in-records.result c.load_word-base.result c.from.result c.loop-older.older c.records_in-records.ensures.records
    (base_counted c.args.self.now.counts is c.row_place-start.ensures.start c.row_in.ensures.row c.load_word-base.ensures.word) c.from.ensures c.loop-older-test.true in
    omega (arith, inside.0)

pub load_word-key-requires-clause-place : goal.load_word-key-requires-clause-place
load_word-key-requires-clause-place c =
    let is = c.requires.page.1 in
    let inside = record_inside is c.records_in-records.result c.load_word-base.result c.from.result c.loop-older.older c.records_in-records.ensures.records
    (base_counted c.args.self.now.counts is c.row_place-start.ensures.start c.row_in.ensures.row c.load_word-base.ensures.word) c.from.ensures c.loop-older-test.true in
    omega (arith, inside.0)

pub overflow_add-at-in-loop-older-2 : goal.overflow_add-at-in-loop-older-2
overflow_add-at-in-loop-older-2 c =
    let is = c.requires.page.1 in
    let inside = record_inside is c.records_in-records.result c.load_word-base.result c.from.result c.loop-older.older c.records_in-records.ensures.records
    (base_counted c.args.self.now.counts is c.row_place-start.ensures.start c.row_in.ensures.row c.load_word-base.ensures.word) c.from.ensures c.loop-older-test.true in
    omega (arith, inside.0)

pub load_word-pointer-requires-clause-place : goal.load_word-pointer-requires-clause-place
load_word-pointer-requires-clause-place c =
    let is = c.requires.page.1 in
    let inside = record_inside is c.records_in-records.result c.load_word-base.result c.from.result c.loop-older.older c.records_in-records.ensures.records
    (base_counted c.args.self.now.counts is c.row_place-start.ensures.start c.row_in.ensures.row c.load_word-base.ensures.word) c.from.ensures c.loop-older-test.true in
    omega (arith, inside.0)

pub loop-older-preserved : goal.loop-older-preserved
loop-older-preserved c =
    let same = c.loop-older.invariant.same in
    let first = c.load_word-key.ensures.same in
    let second = c.load_word-pointer.ensures.same in
    let width = c.loop-older.invariant.width in
    let few = c.loop-older.invariant.few in record {
      same = (second.0 ∙ first.0 ∙ same.0, second.1 ∙ first.1 ∙ same.1, second.2 ∙ first.2 ∙ same.2);
      width = (elim c.if-range-key.branch [
        | then-range-key+then-key-range w ↦ ap (λ (es : List Entry). length es) w.leaf-is ∙ w.edit_one-filled.ensures.width ∙ width
        | else-range-key w ↦ ap (λ (es : List Entry). length es) w.leaf-is ∙ width
      ]);
      few = (elim c.if-range-key.branch [
        | then-range-key+then-key-range w ↦ let one_more = w.edit_one-filled.ensures.one_more in let is = w.filled-is in omega (arith, few, one_more, is)
        | else-range-key w ↦ let is = w.filled-is in omega (arith, few, is)
      ]);
      copied = λ page is first_copied.
          let older = c.loop-older.older in
          let told = c.records_in-records.ensures.records in
          let base = base_counted c.args.self.now.counts is c.row_place-start.ensures.start c.row_in.ensures.row c.load_word-base.ensures.word in
          let inside = record_inside is c.records_in-records.result c.load_word-base.result c.from.result older told base c.from.ensures c.loop-older-test.true in
          let at = record_at is.version.records older inside.1 in
          let place = c.from.ensures in
          let key : c.load_word-key.result ≡ at.0.key = key_loaded c.args.self.now.counts is same.2 c.row_place-start.ensures.start c.row_in.ensures.row older at.0 at.1 _ c.load_word-key.result (omega (arith, base, place)) c.load_word-key.ensures.behind in
          let pointer : c.load_word-pointer.result ≡ at.0.pointer = pointer_loaded c.args.self.now.counts is (first.2 ∙ same.2) c.row_place-start.ensures.start c.row_in.ensures.row older at.0 at.1 _ c.load_word-pointer.result (omega (arith, base, place)) c.load_word-pointer.ensures.behind in
          let was = c.loop-older.invariant.copied page is first_copied in
          let before = pointers_in (page_with is.base (take older is.version.records)) in
          let after = pointers_in (page_with is.base (take (older + 1) is.version.records)) in
          let lo = c.args.range.lo in
          let stop = c.args.range.hi + 1 in
          elim c.if-range-key.branch [
            | then-range-key+then-key-range w ↦
                let kind = w.kind-kind.ensures at.1.older at.0 at.1.newer (counted_there is older at.0 at.1 ∙ sym told) at.1.many in
                let low = w.if-range-key.true in
                let high = w.if-key-range.true in
                subst (λ (x : List Entry × ℕ). IsCopied after lo stop (take x.1 x.0)) (λ i. (sym w.leaf-is i, sym w.filled-is i))
                (w.edit_one-filled.ensures.copied before after (edited_by is older inside.1 w.kind-kind.result c.load_word-key.result c.load_word-pointer.result kind key pointer) lo stop low (omega (arith, high)) was)
            | else-range-key w ↦
                let edited = edited_by is older inside.1 at.0.kind c.load_word-key.result c.load_word-pointer.result refl key pointer in
                subst (λ (x : List Entry × ℕ). IsCopied after lo stop (take x.1 x.0)) (λ i. (sym w.leaf-is i, sym w.filled-is i))
                (edited_outside at.0.kind c.load_word-key.result c.load_word-pointer.result before after lo stop (take c.loop-older.filled c.loop-older.leaf) edited (elim w.else-range-key.branch [
                  | else-range-key-via-then-range-key+else-key-range v ↦ let above = v.if-key-range.false in inr (omega (arith, above))
                  | else-range-key-via-else-range-key v ↦ let below = v.if-range-key.false in inl (omega (arith, below))
                ]) was)
          ];
    }

pub returns-clause-copied : goal.returns-clause-copied
returns-clause-copied c page is first_copied =
    let all = c.loop-older-test.false in
    subst (λ (p : PlainPage). IsCopied (pointers_in p) c.args.range.lo (c.args.range.hi + 1) (take c.loop-older.filled c.loop-older.leaf))
    (all_applied is c.records_in-records.result c.loop-older.older c.records_in-records.ensures.records (omega (arith, all, c.loop-older.auto.older-end)))
    (c.loop-older.invariant.copied page is first_copied)
