use Rattle.std.proofs.Common.{◌≡◌, ◌<◌, length, refl, sym, ap, ◌∙◌, arith}
use Rattle.blink_live.specs.Views.{SeatState}
use Rattle.blink_live.proofs.changed.RowsAreStaged.{all_words, first_length, first_words, nothing_staged, one_more_known, one_more_staged, seat_staged, with_word}
use Rattle.blink_live.proofs.live.Live.stage_row.Goals.{then-found-word, else-found-word}
use Rattle.blink_live.proofs.live.Live.stage_row.Goals as goal

pub loop-place-init : goal.loop-place-init
loop-place-init c = record {
  same = (refl, refl);
  stored = nothing_staged c.args.seat.now.me c.args.words.now c.requires.blank;
}

pub load_own-found-requires-clause-next : goal.load_own-found-requires-clause-next
load_own-found-requires-clause-next c =
    first_length c.args.words.now c.loop-place.place (omega (arith, c.loop-place-test.true)) ∙ sym (ap (λ (x : SeatState). length x.0.call.staged) c.loop-place.invariant.stored)

pub loop-place-preserved : goal.loop-place-preserved
loop-place-preserved c =
    let me : SeatState = c.args.seat.now.me in
    let words = c.args.words.now in
    let place = c.loop-place.place in
    let before = c.loop-place.invariant in
    let loaded = c.load_own-found.ensures in
    let inside : place < length words = omega (arith, c.loop-place-test.true) in
    elim c.if-found-word.branch [
      | then-found-word w ↦
          let stored = w.store_word.ensures in record {
            same = (ap (λ s. s.table_id) w.seat-is ∙ stored.same.0 ∙ loaded.same.0 ∙ before.same.0, ap (λ s. s.id) w.seat-is ∙ stored.same.1 ∙ loaded.same.1 ∙ before.same.1);
            stored = ap (λ s. s.me) w.seat-is ∙ one_more_staged me c.loop-place.seat.me c.load_own-found.new.seat.me w.store_word.new.seat.me words place c.load_own-found.result inside before.stored loaded.known stored.stored;
          }
      | else-found-word w ↦
          record {
            same = (ap (λ s. s.table_id) w.seat-is ∙ loaded.same.0 ∙ before.same.0, ap (λ s. s.id) w.seat-is ∙ loaded.same.1 ∙ before.same.1);
            stored = ap (λ s. s.me) w.seat-is ∙ one_more_known me c.loop-place.seat.me c.load_own-found.new.seat.me words place inside before.stored (loaded.known ∙ ap (with_word c.loop-place.seat.me) w.if-found-word.false);
          }
    ]

pub returns-clause-staged : goal.returns-clause-staged
returns-clause-staged c =
    let words = c.args.words.now in
    let all : c.loop-place.place ≡ length words = omega (arith, c.loop-place-test.false, c.loop-place.auto) in
    c.loop-place.invariant.stored ∙ ap (seat_staged c.args.seat.now.me) (ap (first_words words) all ∙ all_words words)
