use Rattle.std.proofs.Common.{◌≡◌, ℕ, ◌+◌, ◌*◌, ◌<◌, Some, List, length, get_or, refl, sym, ap, ◌∙◌, subst, arith}
use Rattle.std.specs.Prelude.{slice_index}
use Rattle.atomic_table.specs.declared.Seat.{Seat}
use Rattle.blink_batch.specs.declared.Entry.{Entry}
use Rattle.blink_page.specs.{PlainPage}
use Rattle.blink_rows.specs.{page_words}
use Rattle.blink_live.specs.declared.view.View.{View}
use Rattle.blink_live.specs.Seats.{ReadsPage}
use Rattle.blink_live.specs.Views.{SeatState}
use Rattle.blink_live.specs.Editing.{pointers_in}
use Rattle.blink_live.proofs.found.FindsOfSeveral.{same_seat}
use Rattle.blink_live.proofs.found.EntriesInRow.{its_word, key_inside, key_word, value_inside, value_word}
use Rattle.blink_live.proofs.scanned.LeavesAreCopied.{HasCopied, copied_more, copied_none, copied_past, ends_at_hi, ends_at_high, ends_at_place, ends_with_leaf, place_is_behind, place_is_within}
use Rattle.blink_live.proofs.live.Live.copy_part.Goals.{then-key-from+else-filled-into, else-key-from}
use Rattle.blink_live.proofs.live.Live.copy_part.Goals as goal

pub load_word-key-requires-clause-seat : goal.load_word-key-requires-clause-seat
load_word-key-requires-clause-seat c = same_seat c.args.self.now c.args.seat.now c.loop-place.seat c.loop-place.invariant.same c.requires.seat

pub load_word-pointer-requires-clause-seat : goal.load_word-pointer-requires-clause-seat
load_word-pointer-requires-clause-seat c =
    let key = c.load_word-key.ensures.same in
    let same = c.loop-place.invariant.same in
    same_seat c.args.self.now c.args.seat.now c.load_word-key.new.seat (key.0 ∙ same.0, key.1 ∙ same.1, key.2 ∙ same.2) c.requires.seat

pub load_word-high-requires-clause-seat : goal.load_word-high-requires-clause-seat
load_word-high-requires-clause-seat c = same_seat c.args.self.now c.args.seat.now c.loop-place.seat c.loop-place.invariant.same c.requires.seat

pub loop-place-init : goal.loop-place-init
loop-place-init c = record {
  same = c.load_word-count.ensures.same;
  count = λ leaf reads. c.load_word-count.ensures.word c.args.row (page_words leaf) c.row_place-start.ensures.start reads.reads (omega arith);
  few = omega arith;
  copied = λ leaf reads. copied_none c.args.from c.args.hi leaf.entries c.args.into.now;
}

pub loop-place-preserved : goal.loop-place-preserved
loop-place-preserved c =
    let same = c.loop-place.invariant.same in
    let key = c.load_word-key.ensures in
    let inside : (leaf : PlainPage) → ReadsPage c.args.seat.now.me c.args.row leaf → c.loop-place.place < length leaf.entries =
    λ leaf reads. let count = c.loop-place.invariant.count leaf reads in let test = c.loop-place-test.true in omega (arith, count, test) in
    let its_key : (leaf : PlainPage) → ReadsPage c.args.seat.now.me c.args.row leaf → c.load_word-key.result ≡ (get_or leaf.entries c.loop-place.place (0, 0)).0 =
    λ leaf reads. its_word leaf c.load_word-key.result _ same.2 reads (λ content. key.word c.args.row content c.row_place-start.ensures.start) (key_inside leaf c.loop-place.place (inside leaf reads)) ∙ key_word leaf c.loop-place.place _ refl in
    elim c.if-key-from.branch [
      | then-key-from+else-filled-into w ↦
          let pointer = w.load_word-pointer.ensures in record {
            same = (
              ap (λ (s : Seat ℕ View). s.table_id) w.seat-is ∙ pointer.same.0 ∙ key.same.0 ∙ same.0,
              ap (λ (s : Seat ℕ View). s.id) w.seat-is ∙ pointer.same.1 ∙ key.same.1 ∙ same.1,
              ap (λ (s : Seat ℕ View). s.me) w.seat-is ∙ pointer.same.2 ∙ key.same.2 ∙ same.2,
            );
            count = c.loop-place.invariant.count;
            few = (let few = c.loop-place.invariant.few in let one = w.filled-is in omega (arith, few, one));
            copied = λ leaf reads.
                let was = c.loop-place.invariant.copied leaf reads in
                let fits = was.0.fits in
                let count = was.1 in
                let long = c.loop-place.auto.into in
                let room = w.if-filled-into.false in
                let value = its_word leaf w.load_word-pointer.result _ (key.same.2 ∙ same.2) reads (λ content. pointer.word c.args.row content c.row_place-start.ensures.start) (value_inside leaf c.loop-place.place (inside leaf reads)) ∙ value_word leaf c.loop-place.place _ refl in
                subst (λ (x : List Entry × ℕ). HasCopied c.args.from c.args.hi leaf.entries c.args.into.now (c.loop-place.place + 1) x.0 x.1) (λ i. (sym w.into-is i, sym w.filled-is i))
                (copied_more c.args.from c.args.hi leaf.entries c.args.into.now c.loop-place.into c.loop-place.place c.loop-place.filled c.load_word-key.result w.load_word-pointer.result was (inside leaf reads) (its_key leaf reads) value w.if-key-from.true c.if-key-hi.false (omega (arith, fits, count, long, room)));
          }
      | else-key-from w ↦ record {
        same = (
          ap (λ (s : Seat ℕ View). s.table_id) w.seat-is ∙ key.same.0 ∙ same.0,
          ap (λ (s : Seat ℕ View). s.id) w.seat-is ∙ key.same.1 ∙ same.1,
          ap (λ (s : Seat ℕ View). s.me) w.seat-is ∙ key.same.2 ∙ same.2,
        );
        count = c.loop-place.invariant.count;
        few = (let few = c.loop-place.invariant.few in let same_count = w.filled-is in omega (arith, few, same_count));
        copied = λ leaf reads.
            subst (λ (x : List Entry × ℕ). HasCopied c.args.from c.args.hi leaf.entries c.args.into.now (c.loop-place.place + 1) x.0 x.1) (λ i. (sym w.into-is i, sym w.filled-is i))
            (copied_past c.args.from c.args.hi leaf.entries c.args.into.now c.loop-place.into c.loop-place.place c.loop-place.filled c.load_word-key.result 0 (c.loop-place.invariant.copied leaf reads) (inside leaf reads) (its_key leaf reads) w.if-key-from.false);
      }
    ]

-- ---- the ends

-- the key that was loaded is an entry's
module _ (leaf : PlainPage) {me now : SeatState} {row : ℕ} (reads : ReadsPage me row leaf) (same : now ≡ me) (count place word : ℕ) (is_count : count ≡ length leaf.entries) (test : place < count)
    (loads : (content : List ℕ) → now.0.reads ≡ Some (row, content) → 6 + 2 * place < length content → word ≡ slice_index content (6 + 2 * place)) where
  there : place < length leaf.entries
  there = omega (arith, is_count, test)

  its_key : word ≡ (get_or leaf.entries place (0, 0)).0
  its_key = its_word leaf word _ same reads loads (key_inside leaf place there) ∙ key_word leaf place _ refl

pub returns-then-key-hi-clause-copied : goal.returns-then-key-hi-clause-copied
returns-then-key-hi-clause-copied c leaf known reads has =
    let count = c.loop-place.invariant.count leaf reads in
    let test = c.loop-place-test.true in
    let loads = λ (content : List ℕ). c.load_word-key.ensures.word c.args.row content c.row_place-start.ensures.start in
    ends_at_hi c.args.from c.args.hi known leaf reads.lawful has c.args.into.now c.loop-place.into c.loop-place.filled c.loop-place.place (c.loop-place.invariant.copied leaf reads) c.load_word-key.result
    (there leaf reads c.loop-place.invariant.same.2 _ _ c.load_word-key.result count test loads)
    (its_key leaf reads c.loop-place.invariant.same.2 _ _ c.load_word-key.result count test loads)
    c.if-key-hi.true

pub returns-then-key-hi-clause-within : goal.returns-then-key-hi-clause-within
returns-then-key-hi-clause-within c leaf reads =
    let count = c.loop-place.invariant.count leaf reads in
    let test = c.loop-place-test.true in
    let loads = λ (content : List ℕ). c.load_word-key.ensures.word c.args.row content c.row_place-start.ensures.start in
    let within = place_is_within leaf reads.lawful c.loop-place.place c.load_word-key.result
    (there leaf reads c.loop-place.invariant.same.2 _ _ c.load_word-key.result count test loads)
    (its_key leaf reads c.loop-place.invariant.same.2 _ _ c.load_word-key.result count test loads) in
    omega (arith, within, c.if-key-hi.true)

pub returns-then-key-hi-clause-few : goal.returns-then-key-hi-clause-few
returns-then-key-hi-clause-few c leaf reads = let few = c.loop-place.invariant.few in let count = c.loop-place.invariant.count leaf reads in omega (arith, few, count, c.loop-place-test.true)

pub returns-then-key-hi-clause-ends : goal.returns-then-key-hi-clause-ends
returns-then-key-hi-clause-ends c leaf reads room = let within = returns-then-key-hi-clause-within c leaf reads in omega (arith, within)

pub returns-then-filled-into-clause-copied : goal.returns-then-filled-into-clause-copied
returns-then-filled-into-clause-copied c leaf known reads has =
    let count = c.loop-place.invariant.count leaf reads in
    let test = c.loop-place-test.true in
    let loads = λ (content : List ℕ). c.load_word-key.ensures.word c.args.row content c.row_place-start.ensures.start in
    ends_at_place c.args.from c.args.hi known leaf reads.lawful has c.args.into.now c.loop-place.into c.loop-place.filled c.loop-place.place (c.loop-place.invariant.copied leaf reads) c.load_word-key.result
    (there leaf reads c.loop-place.invariant.same.2 _ _ c.load_word-key.result count test loads)
    (its_key leaf reads c.loop-place.invariant.same.2 _ _ c.load_word-key.result count test loads)
    c.if-key-hi.false

pub returns-then-filled-into-clause-within : goal.returns-then-filled-into-clause-within
returns-then-filled-into-clause-within c leaf reads =
    let count = c.loop-place.invariant.count leaf reads in
    let test = c.loop-place-test.true in
    let loads = λ (content : List ℕ). c.load_word-key.ensures.word c.args.row content c.row_place-start.ensures.start in
    let within = place_is_within leaf reads.lawful c.loop-place.place c.load_word-key.result
    (there leaf reads c.loop-place.invariant.same.2 _ _ c.load_word-key.result count test loads)
    (its_key leaf reads c.loop-place.invariant.same.2 _ _ c.load_word-key.result count test loads) in
    omega (arith, within)

pub returns-then-filled-into-clause-few : goal.returns-then-filled-into-clause-few
returns-then-filled-into-clause-few c leaf reads = let few = c.loop-place.invariant.few in let count = c.loop-place.invariant.count leaf reads in omega (arith, few, count, c.loop-place-test.true)

pub returns-then-filled-into-clause-further : goal.returns-then-filled-into-clause-further
returns-then-filled-into-clause-further c =
    let leaf = c.requires.leaf in
    let count = c.loop-place.invariant.count leaf.0 leaf.1 in
    let test = c.loop-place-test.true in
    let loads = λ (content : List ℕ). c.load_word-key.ensures.word c.args.row content c.row_place-start.ensures.start in
    let full = c.if-filled-into.true in
    let some = c.requires.some_place in
    let long = c.loop-place.auto.into in (
      place_is_behind c.args.from c.args.hi (pointers_in leaf.0) leaf.0 leaf.1.lawful (record { reaches = leaf.2; states = λ other low high. refl }) c.args.into.now c.loop-place.into c.loop-place.filled c.loop-place.place (c.loop-place.invariant.copied leaf.0 leaf.1) c.load_word-key.result
          (there leaf.0 leaf.1 c.loop-place.invariant.same.2 _ _ c.load_word-key.result count test loads)
          (its_key leaf.0 leaf.1 c.loop-place.invariant.same.2 _ _ c.load_word-key.result count test loads)
          (omega (arith, full, some, long)),
      c.if-key-hi.false,
    )

-- the last load is that of the leaf's high key
its_high : (leaf : PlainPage) {me now : SeatState} {row : ℕ} → ReadsPage me row leaf → now ≡ me → (word : ℕ) → ((content : List ℕ) → now.0.reads ≡ Some (row, content) → 3 < length content → word ≡ slice_index content 3) → word ≡ leaf.high
its_high leaf reads same word loads = its_word leaf word 3 same reads loads (omega arith)

pub returns-then-high-hi-clause-copied : goal.returns-then-high-hi-clause-copied
returns-then-high-hi-clause-copied c leaf known reads has =
    let count = c.loop-place.invariant.count leaf reads in
    let test = c.loop-place-test.false in
    ends_at_high c.args.from c.args.hi known leaf reads.lawful has c.args.into.now c.loop-place.into c.loop-place.filled c.loop-place.place (c.loop-place.invariant.copied leaf reads) c.load_word-high.result
    (omega (arith, count, test))
    (its_high leaf reads c.loop-place.invariant.same.2 c.load_word-high.result (λ content. c.load_word-high.ensures.word c.args.row content c.row_place-start.ensures.start))
    c.if-high-hi.true

pub returns-then-high-hi-clause-within : goal.returns-then-high-hi-clause-within
returns-then-high-hi-clause-within c leaf reads =
    let high = its_high leaf reads c.loop-place.invariant.same.2 c.load_word-high.result (λ content. c.load_word-high.ensures.word c.args.row content c.row_place-start.ensures.start) in
    omega (arith, high)

pub returns-then-high-hi-clause-few : goal.returns-then-high-hi-clause-few
returns-then-high-hi-clause-few c leaf reads = let few = c.loop-place.invariant.few in let count = c.loop-place.invariant.count leaf reads in omega (arith, few, count, c.loop-place.auto.place-end)

pub returns-then-high-hi-clause-ends : goal.returns-then-high-hi-clause-ends
returns-then-high-hi-clause-ends c leaf reads room =
    let high = its_high leaf reads c.loop-place.invariant.same.2 c.load_word-high.result (λ content. c.load_word-high.ensures.word c.args.row content c.row_place-start.ensures.start) in
    (omega (arith, high), omega (arith, high, c.if-high-hi.true))

pub returns-then-high-hi-clause-further : goal.returns-then-high-hi-clause-further
returns-then-high-hi-clause-further c =
    let leaf = c.requires.leaf in
    let high = its_high leaf.0 leaf.1 c.loop-place.invariant.same.2 c.load_word-high.result (λ content. c.load_word-high.ensures.word c.args.row content c.row_place-start.ensures.start) in
    let reaches = leaf.2 in
    let test = c.if-high-hi.true in
    (omega (arith, high, reaches), omega (arith, test))

pub returns-else-high-hi-clause-copied : goal.returns-else-high-hi-clause-copied
returns-else-high-hi-clause-copied c leaf known reads has =
    let count = c.loop-place.invariant.count leaf reads in
    let test = c.loop-place-test.false in
    ends_with_leaf c.args.from c.args.hi known leaf reads.lawful has c.args.into.now c.loop-place.into c.loop-place.filled c.loop-place.place (c.loop-place.invariant.copied leaf reads) c.load_word-high.result
    (omega (arith, count, test))
    (its_high leaf reads c.loop-place.invariant.same.2 c.load_word-high.result (λ content. c.load_word-high.ensures.word c.args.row content c.row_place-start.ensures.start))
    c.if-high-hi.false

pub returns-else-high-hi-clause-within : goal.returns-else-high-hi-clause-within
returns-else-high-hi-clause-within c leaf reads =
    let high = its_high leaf reads c.loop-place.invariant.same.2 c.load_word-high.result (λ content. c.load_word-high.ensures.word c.args.row content c.row_place-start.ensures.start) in
    let test = c.if-high-hi.false in
    omega (arith, high, test)

pub returns-else-high-hi-clause-few : goal.returns-else-high-hi-clause-few
returns-else-high-hi-clause-few c leaf reads = let few = c.loop-place.invariant.few in let count = c.loop-place.invariant.count leaf reads in omega (arith, few, count, c.loop-place.auto.place-end)

pub returns-else-high-hi-clause-ends : goal.returns-else-high-hi-clause-ends
returns-else-high-hi-clause-ends c leaf reads room =
    let high = its_high leaf reads c.loop-place.invariant.same.2 c.load_word-high.result (λ content. c.load_word-high.ensures.word c.args.row content c.row_place-start.ensures.start) in
    omega (arith, high, c.if-high-hi.false)
