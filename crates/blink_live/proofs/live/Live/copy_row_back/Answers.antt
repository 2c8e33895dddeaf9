use Rattle.std.proofs.Common.{◌≡◌, ℕ, suc, ◌+◌, ◌-◌, ◌<◌, Option, length, drop, refl, sym, ◌∙◌, subst, arith}
use Rattle.std.proofs.lemmas.List.{length-reverse}
use Rattle.blink_page.specs.{PlainPage}
use Rattle.blink_rows.specs.{page_words}
use Rattle.blink_live.specs.Seats.{ReadsPage}
use Rattle.blink_live.specs.Views.{SeatState, known_of}
use Rattle.blink_live.proofs.found.FindsOfSeveral.{same_seat}
use Rattle.blink_live.proofs.found.EntriesInRow.{its_word, key_inside, key_word, value_inside, value_word}
use Rattle.blink_live.proofs.scanned.EntriesBetween.{between}
use Rattle.blink_live.proofs.scanned.LeavesAreCopiedBack.{copied_more_back, copied_none_back, copied_past_back, ends_at_floor, ends_at_lo, ends_at_place_back, floor_is_before, place_is_before}
use Rattle.blink_live.proofs.live.Live.copy_row_back.Goals as goal

pub load_word-key-requires-clause-seat : goal.load_word-key-requires-clause-seat
load_word-key-requires-clause-seat c = same_seat c.args.self.now c.args.seat.now c.loop-place.seat c.loop-place.invariant.same c.requires.seat

pub load_word-pointer-requires-clause-seat : goal.load_word-pointer-requires-clause-seat
load_word-pointer-requires-clause-seat c =
    let key = c.load_word-key.ensures.same in
    let same = c.loop-place.invariant.same in
    same_seat c.args.self.now c.args.seat.now c.load_word-key.new.seat (key.0 ∙ same.0, key.1 ∙ same.1, key.2 ∙ same.2) c.requires.seat

pub load_floor-requires-clause-seat : goal.load_floor-requires-clause-seat
load_floor-requires-clause-seat c = same_seat c.args.self.now c.args.seat.now c.loop-place.seat c.loop-place.invariant.same c.requires.seat

pub loop-place-init : goal.loop-place-init
loop-place-init c =
    let count : (leaf : PlainPage) → ReadsPage c.args.seat.now.me c.args.row leaf → c.load_word-count.result ≡ length leaf.entries =
    λ leaf reads. c.load_word-count.ensures.word c.args.row (page_words leaf) c.row_place-start.ensures.start reads.reads (omega arith) in record {
      same = c.load_word-count.ensures.same;
      inside = λ leaf reads. let long = count leaf reads in omega (arith, long);
      copied = λ leaf reads. copied_none_back c.args.lo c.args.from c.load_word-count.result leaf.entries c.args.into.now (count leaf reads);
    }

-- and so is the floor
its_floor : (now me : SeatState) (row : ℕ) (leaf : PlainPage) (floor : Option ℕ) → now ≡ me → ReadsPage me row leaf → (ReadsPage now row leaf → floor ≡ leaf.floor) → floor ≡ leaf.floor
its_floor now me row leaf floor same reads loads = loads (subst (λ (x : SeatState). ReadsPage x row leaf) (sym same) reads)

pub loop-place-preserved-then-key-from : goal.loop-place-preserved-then-key-from
loop-place-preserved-then-key-from c =
    let same = c.loop-place.invariant.same in
    let key = c.load_word-key.ensures in
    let pointer = c.load_word-pointer.ensures in
    let reached : ℕ = c.loop-place.place in
    let place : ℕ = reached - 1 in
    let step : reached ≡ suc place = omega arith in
    let inside : (leaf : PlainPage) → ReadsPage c.args.seat.now.me c.args.row leaf → place < length leaf.entries =
    λ leaf reads. let within = c.loop-place.invariant.inside leaf reads in omega (arith, within, step) in record {
      same = (pointer.same.0 ∙ key.same.0 ∙ same.0, pointer.same.1 ∙ key.same.1 ∙ same.1, pointer.same.2 ∙ key.same.2 ∙ same.2);
      inside = λ leaf reads. let within = c.loop-place.invariant.inside leaf reads in omega (arith, within, step);
      copied = λ leaf reads.
          let was = c.loop-place.invariant.copied leaf reads in
          let fits = was.0.fits in
          let count = was.1 in
          let long = c.loop-place.auto.into in
          let room = c.if-filled-into.false in
          let turned = length-reverse (between c.args.lo (c.args.from + 1) (drop reached leaf.entries)) in
          let its_key = its_word leaf c.load_word-key.result _ same.2 reads (λ content. key.word c.args.row content c.row_place-start.ensures.start) (key_inside leaf place (inside leaf reads)) ∙ key_word leaf place _ refl in
          let value = its_word leaf c.load_word-pointer.result _ (key.same.2 ∙ same.2) reads (λ content. pointer.word c.args.row content c.row_place-start.ensures.start) (value_inside leaf place (inside leaf reads)) ∙ value_word leaf place _ refl in
          copied_more_back c.args.lo c.args.from leaf.entries c.args.into.now c.loop-place.into reached place c.loop-place.filled _ _ was step (inside leaf reads) its_key value
          c.if-key-lo.false c.if-key-from.true (omega (arith, fits, count, turned, long, room));
    }

pub loop-place-preserved : goal.loop-place-preserved
loop-place-preserved c =
    let same = c.loop-place.invariant.same in
    let key = c.load_word-key.ensures in
    let reached : ℕ = c.loop-place.place in
    let place : ℕ = reached - 1 in
    let step : reached ≡ suc place = omega arith in
    let inside : (leaf : PlainPage) → ReadsPage c.args.seat.now.me c.args.row leaf → place < length leaf.entries =
    λ leaf reads. let within = c.loop-place.invariant.inside leaf reads in omega (arith, within, step) in record {
      same = (key.same.0 ∙ same.0, key.same.1 ∙ same.1, key.same.2 ∙ same.2);
      inside = λ leaf reads. let within = c.loop-place.invariant.inside leaf reads in omega (arith, within, step);
      copied = λ leaf reads.
          let its_key = its_word leaf c.load_word-key.result _ same.2 reads (λ content. key.word c.args.row content c.row_place-start.ensures.start) (key_inside leaf place (inside leaf reads)) ∙ key_word leaf place _ refl in
          copied_past_back c.args.lo c.args.from leaf.entries c.args.into.now c.loop-place.into reached place c.loop-place.filled c.load_word-key.result 0 (c.loop-place.invariant.copied leaf reads) step (inside leaf reads) its_key c.if-key-from.false;
    }

-- ---- the ends

pub returns-then-key-lo-clause-copied : goal.returns-then-key-lo-clause-copied
returns-then-key-lo-clause-copied c =
    let leaf = c.requires.leaf in
    let reached : ℕ = c.loop-place.place in
    let place : ℕ = reached - 1 in
    let step : reached ≡ suc place = omega arith in
    let within = c.loop-place.invariant.inside leaf.0 leaf.1 in
    let inside : place < length leaf.0.entries = omega (arith, within, step) in
    ends_at_lo c.args.from c.args.lo (known_of c.args.seat.now.me.0) leaf.0 leaf.1.lawful leaf.2 c.args.into.now c.loop-place.into c.loop-place.filled reached (c.loop-place.invariant.copied leaf.0 leaf.1) place _ step inside
    (its_word leaf.0 c.load_word-key.result _ c.loop-place.invariant.same.2 leaf.1 (λ content. c.load_word-key.ensures.word c.args.row content c.row_place-start.ensures.start) (key_inside leaf.0 place inside) ∙ key_word leaf.0 place _ refl)
    c.if-key-lo.true

pub returns-then-filled-into-clause-copied : goal.returns-then-filled-into-clause-copied
returns-then-filled-into-clause-copied c =
    let leaf = c.requires.leaf in
    let reached : ℕ = c.loop-place.place in
    let place : ℕ = reached - 1 in
    let step : reached ≡ suc place = omega arith in
    let within = c.loop-place.invariant.inside leaf.0 leaf.1 in
    let inside : place < length leaf.0.entries = omega (arith, within, step) in
    ends_at_place_back c.args.from c.args.lo (known_of c.args.seat.now.me.0) leaf.0 leaf.1.lawful leaf.2 c.args.into.now c.loop-place.into c.loop-place.filled reached (c.loop-place.invariant.copied leaf.0 leaf.1) place _ step inside
    (its_word leaf.0 c.load_word-key.result _ c.loop-place.invariant.same.2 leaf.1 (λ content. c.load_word-key.ensures.word c.args.row content c.row_place-start.ensures.start) (key_inside leaf.0 place inside) ∙ key_word leaf.0 place _ refl)
    c.if-key-lo.false

pub returns-then-filled-into-clause-further : goal.returns-then-filled-into-clause-further
returns-then-filled-into-clause-further c =
    let leaf = c.requires.leaf in
    let reached : ℕ = c.loop-place.place in
    let place : ℕ = reached - 1 in
    let step : reached ≡ suc place = omega arith in
    let within = c.loop-place.invariant.inside leaf.0 leaf.1 in
    let inside : place < length leaf.0.entries = omega (arith, within, step) in
    let full = c.if-filled-into.true in
    let some = c.requires.some_place in
    let long = c.loop-place.auto.into in (
      c.if-key-lo.false,
      place_is_before c.args.from c.args.lo (known_of c.args.seat.now.me.0) leaf.0 leaf.1.lawful leaf.2 c.args.into.now c.loop-place.into c.loop-place.filled reached (c.loop-place.invariant.copied leaf.0 leaf.1) place _ step inside
          (its_word leaf.0 c.load_word-key.result _ c.loop-place.invariant.same.2 leaf.1 (λ content. c.load_word-key.ensures.word c.args.row content c.row_place-start.ensures.start) (key_inside leaf.0 place inside) ∙ key_word leaf.0 place _ refl)
          (omega (arith, full, some, long)),
    )

pub returns-clause-copied : goal.returns-clause-copied
returns-clause-copied c =
    let leaf = c.requires.leaf in
    ends_at_floor c.args.from c.args.lo (known_of c.args.seat.now.me.0) leaf.0 leaf.1.lawful leaf.2 c.args.into.now c.loop-place.into c.loop-place.filled c.loop-place.place (c.loop-place.invariant.copied leaf.0 leaf.1)
    c.load_floor.result c.not_below-next.result (omega arith) (its_floor c.loop-place.seat.me c.args.seat.now.me c.args.row leaf.0 c.load_floor.result c.loop-place.invariant.same.2 leaf.1 (c.load_floor.ensures.floor c.args.row leaf.0 c.row_place-start.ensures.start))
    c.not_below-next.ensures.some c.not_below-next.ensures.none

pub returns-clause-further : goal.returns-clause-further
returns-clause-further c =
    let leaf = c.requires.leaf in
    floor_is_before c.args.from c.args.lo (known_of c.args.seat.now.me.0) leaf.0 leaf.1.lawful leaf.2 c.args.into.now c.loop-place.into c.loop-place.filled c.loop-place.place (c.loop-place.invariant.copied leaf.0 leaf.1)
    c.load_floor.result c.not_below-next.result (its_floor c.loop-place.seat.me c.args.seat.now.me c.args.row leaf.0 c.load_floor.result c.loop-place.invariant.same.2 leaf.1 (c.load_floor.ensures.floor c.args.row leaf.0 c.row_place-start.ensures.start))
    c.not_below-next.ensures.some
