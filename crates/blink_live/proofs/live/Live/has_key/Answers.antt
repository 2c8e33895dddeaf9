use Rattle.std.proofs.Common.{◌≡◌, ◌≢◌, ◌<◌, ◌≤◌, inl, inr, ⊎_elim, ap, ◌∙◌, arith}
use Rattle.std.specs.Prelude.{unwrap_or}
use Rattle.std.proofs.lemmas.Bool.Decides.{nat_tests}
use Rattle.blink_rows.specs.{flag, page_words}
use Rattle.blink_live.specs.Views.{SeatState}
use Rattle.blink_live.proofs.looked.SnapshotsGoOn.{floor_is_below}
use Rattle.blink_live.proofs.live.Live.has_key.Goals as goal

pub returns-then-floor-key-clause-has : goal.returns-then-floor-key-clause-has
returns-then-floor-key-clause-has c is page reads =
    let start = c.row_place-start.ensures.start in
    let first = c.load_word-has_floor.ensures in
    let second = c.load_word-floor.ensures in
    let read_first = reads.reads in
    let read_second = ap (λ (x : SeatState). x.0.reads) first.same.2 ∙ read_first in
    let read_third = ap (λ (x : SeatState). x.0.reads) second.same.2 ∙ read_second in
    let has : c.load_word-has_floor.result ≡ flag page.floor = first.word c.args.row (page_words page) start read_first (omega arith) in
    let floor : c.load_word-floor.result ≡ unwrap_or page.floor 0 = second.word c.args.row (page_words page) start read_second (omega arith) in
    let high : c.load_word-high.result ≡ page.high = c.load_word-high.ensures.word c.args.row (page_words page) start read_third (omega arith) in
    let within : c.args.key ≤ c.load_word-high.result = grind (arith, nat_tests, is) in (
      floor_is_below page.floor c.load_word-has_floor.result c.load_word-floor.result c.args.key has floor
          (⊎_elim (λ (none : c.load_word-has_floor.result ≡ 0). inl none) (λ (below : (c.load_word-has_floor.result ≢ 0) × (c.load_word-floor.result < c.args.key)). inr below.1) c.if-floor-key.either),
      omega (arith, high, within),
    )
