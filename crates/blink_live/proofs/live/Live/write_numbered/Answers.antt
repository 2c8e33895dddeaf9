use Rattle.std.proofs.Common.{◌≡◌, ◌+◌, ◌*◌, ◌≤◌, length, sym, ap, ◌∙◌, subst, arith}
use Rattle.blink_batch.specs.{key_of}
use Rattle.blink_page.specs.{PlainPage}
use Rattle.blink_page.specs.declared.limits.TheConstants.{MAX_FAN}
use Rattle.blink_rows.specs.{IsPageRow, page_words}
use Rattle.blink_rows.proofs.Offered.{length-page_words}
use Rattle.blink_machine.specs.{page_out}
use Rattle.blink_live.specs.Seats.{IsFirst}
use Rattle.blink_live.specs.Views.{MayChange, SeatState}
use Rattle.blink_live.specs.Words.{BeginWith}
use Rattle.blink_live.proofs.changed.RowsAreStaged.{words_of_row}
use Rattle.blink_live.proofs.live.Live.write_numbered.Goals as goal

pub publish_new-requires-clause-seat : goal.publish_new-requires-clause-seat
publish_new-requires-clause-seat c =
    let seat = c.requires.can.seat in
    let staged = c.stage_row.ensures.staged in record {
      same_table = c.stage_row.ensures.same.0 ∙ seat.same_table;
      same_plan = ap (λ (x : SeatState). x.0.plan) staged ∙ seat.same_plan;
      role = ap (λ (x : SeatState). x.0.role) staged ∙ seat.role;
    }

pub publish_new-requires-clause-at : goal.publish_new-requires-clause-at
publish_new-requires-clause-at c = ap (λ (x : SeatState). x.0.operation) c.stage_row.ensures.staged ∙ c.requires.can.at

pub publish_new-requires-clause-number : goal.publish_new-requires-clause-number
publish_new-requires-clause-number c = subst (λ (x : SeatState). IsFirst c.args.number x.0.call.pages) (sym c.stage_row.ensures.staged) c.requires.number

pub publish_new-requires-clause-row : goal.publish_new-requires-clause-row
publish_new-requires-clause-row c = subst (λ (x : SeatState). IsFirst c.args.row x.0.call.rows) (sym c.stage_row.ensures.staged) c.requires.can.first_row.0

pub publish_new-requires-clause-may : goal.publish_new-requires-clause-may
publish_new-requires-clause-may c = subst (λ (x : SeatState). MayChange x.0 (key_of c.args.machine.now.op)) (sym c.stage_row.ensures.staged) c.requires.can.may

pub publish_new-requires-clause-staged : goal.publish_new-requires-clause-staged
publish_new-requires-clause-staged c =
    let page = page_out c.args.machine.now c.args.number in
    let many : c.len.result ≡ length page.entries = c.len.ensures.value ∙ ap (λ (p : PlainPage). length p.entries) (c.page.view_is ∙ c.page_out-page.ensures) in
    let few : length page.entries ≤ MAX_FAN = subst (λ (p : PlainPage). length p.entries ≤ MAX_FAN) (c.page.view_is ∙ c.page_out-page.ensures) c.page.invariant.at_most_fan in
    subst (λ (x : SeatState). BeginWith x.0.call.staged (page_words page)) (sym c.stage_row.ensures.staged)
    (words_of_row c.page_row-words.result (page_words page) (6 + 2 * c.len.result) (subst (λ (p : PlainPage). IsPageRow p c.page_row-words.result) c.page_out-page.ensures c.page_row-words.ensures) (omega (arith, length-page_words page, many)) (omega (arith, many, few)))
