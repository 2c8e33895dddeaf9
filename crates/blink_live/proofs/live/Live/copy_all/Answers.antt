use Rattle.std.proofs.Common.{◌≡◌, ℕ, ◌+◌, ◌<◌, List, length, refl, ◌∙◌, subst, arith}
use Rattle.blink_batch.specs.declared.Entry.{Entry}
use Rattle.blink_live.specs.Scanning.{IsCopied, IsFilled}
use Rattle.blink_live.proofs.found.FindsOfSeveral.{same_seat}
use Rattle.blink_live.proofs.found.EntriesInRow.{its_word, key_inside, key_word, value_inside, value_word}
use Rattle.blink_live.proofs.scanned.LeavesAreCopied.{copied_none, ends_with_leaf, whole_more}
use Rattle.blink_live.proofs.live.Live.copy_all.Goals as goal

pub load_word-key-requires-clause-seat : goal.load_word-key-requires-clause-seat
load_word-key-requires-clause-seat c = same_seat c.args.self.now c.args.seat.now c.loop-place.seat c.loop-place.invariant.same c.requires.seat

pub load_word-pointer-requires-clause-seat : goal.load_word-pointer-requires-clause-seat
load_word-pointer-requires-clause-seat c =
    let key = c.load_word-key.ensures.same in
    let same = c.loop-place.invariant.same in
    same_seat c.args.self.now c.args.seat.now c.load_word-key.new.seat (key.0 ∙ same.0, key.1 ∙ same.1, key.2 ∙ same.2) c.requires.seat

pub loop-place-init : goal.loop-place-init
loop-place-init c = record {
  same = (λ i. c.args.seat.now.table_id, λ i. c.args.seat.now.id, λ i. c.args.seat.now.me);
  copied = λ row leaf start reads count from begins. copied_none from leaf.high leaf.entries c.args.into.now;
}

pub loop-place-preserved : goal.loop-place-preserved
loop-place-preserved c =
    let same = c.loop-place.invariant.same in
    let key = c.load_word-key.ensures in
    let pointer = c.load_word-pointer.ensures in
    let place = c.loop-place.place in record {
      same = (pointer.same.0 ∙ key.same.0 ∙ same.0, pointer.same.1 ∙ key.same.1 ∙ same.1, pointer.same.2 ∙ key.same.2 ∙ same.2);
      copied = λ row leaf start reads count from begins.
          let test = c.loop-place-test.true in
          let inside : place < length leaf.entries = omega (arith, count, test) in
          let long = c.loop-place.auto.into in
          let room = c.requires.room in
          let its_key = its_word leaf c.load_word-key.result _ same.2 reads (λ content. key.word row content start) (key_inside leaf place inside) ∙ key_word leaf place _ refl in
          let its_pointer = its_word leaf c.load_word-pointer.result _ (key.same.2 ∙ same.2) reads (λ content. pointer.word row content start) (value_inside leaf place inside) ∙ value_word leaf place _ refl in
          whole_more from leaf reads.lawful c.args.into.now c.loop-place.into place c.load_word-key.result c.load_word-pointer.result
          (c.loop-place.invariant.copied row leaf start reads count from begins) inside its_key its_pointer begins (omega (arith, test, room));
    }

pub returns-clause-copied : goal.returns-clause-copied
returns-clause-copied c row leaf start reads count from known begins has =
    let end = c.loop-place.auto.place-end in
    let test = c.loop-place-test.false in
    let all : c.loop-place.place ≡ c.args.count = omega (arith, end, test) in
    subst (λ (n : ℕ). (entries : List Entry) × IsFilled entries c.args.into.now c.loop-place.into × (n ≡ length entries) × IsCopied known from (leaf.high + 1) entries) all
    (ends_with_leaf from leaf.high known leaf reads.lawful has c.args.into.now c.loop-place.into c.loop-place.place c.loop-place.place (c.loop-place.invariant.copied row leaf start reads count from begins) leaf.high
    (omega (arith, all, count)) refl (omega arith))
