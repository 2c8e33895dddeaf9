use Rattle.std.proofs.Common.{◌≡◌, ◌≢◌, ℕ, Option, Some, None, refl, ap, ◌∙◌, arith}
use Rattle.std.specs.Prelude.{unwrap_or}
use Rattle.blink_rows.specs.{flag, page_words}
use Rattle.blink_live.specs.Views.{SeatState}
use Rattle.blink_live.proofs.live.Live.load_floor.Goals as goal

-- the two words of a floor
no_floor : (floor : Option ℕ) (has : ℕ) → has ≡ flag floor → has ≡ 0 → None ≡ floor
no_floor None has is none = refl
no_floor (Some floor) has is none = absurd (omega (arith, is, none))

some_floor : (floor : Option ℕ) (has word : ℕ) → has ≡ flag floor → has ≢ 0 → word ≡ unwrap_or floor 0 → Some word ≡ floor
some_floor None has word is some same = absurd (some is)
some_floor (Some floor) has word is some same = ap Some same

pub returns-then-has_floor-eq0-clause-floor : goal.returns-then-has_floor-eq0-clause-floor
returns-then-has_floor-eq0-clause-floor c row page start reads =
    no_floor page.floor c.load_word-has_floor.result (c.load_word-has_floor.ensures.word row (page_words page) start reads.reads (omega arith)) c.if-has_floor-eq0.true

pub returns-clause-floor : goal.returns-clause-floor
returns-clause-floor c row page start reads =
    let first = c.load_word-has_floor.ensures in
    let read_second = ap (λ (x : SeatState). x.0.reads) first.same.2 ∙ reads.reads in
    some_floor page.floor c.load_word-has_floor.result _ (first.word row (page_words page) start reads.reads (omega arith)) c.if-has_floor-eq0.false
    (c.load_word.ensures.word row (page_words page) start read_second (omega arith))
