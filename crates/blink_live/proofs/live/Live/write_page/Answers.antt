use Rattle.std.proofs.Common.{◌≡◌, ◌+◌, ◌*◌, ◌≤◌, length, sym, ap, ◌∙◌, subst, arith, rules}
use Rattle.blink_batch.specs.{key_of}
use Rattle.blink_page.specs.{PlainPage}
use Rattle.blink_page.specs.declared.limits.TheConstants.{MAX_FAN}
use Rattle.blink_rows.specs.{IsPageRow, page_words}
use Rattle.blink_rows.proofs.Offered.{length-page_words}
use Rattle.blink_machine.specs.{page_out}
use Rattle.blink_live.specs.Views.{MayChange, SeatState}
use Rattle.blink_live.specs.Words.{BeginWith}
use Rattle.blink_live.proofs.changed.RowsAreStaged.{words_of_row}
use Rattle.blink_live.proofs.live.Live.write_page.Goals as goal

pub publish-requires-clause-may : goal.publish-requires-clause-may
publish-requires-clause-may c = subst (λ (x : SeatState). MayChange x.0 (key_of c.args.machine.now.op)) (sym c.stage_row.ensures.staged) c.requires.can.may

pub publish-requires-clause-staged : goal.publish-requires-clause-staged
publish-requires-clause-staged c =
    let page = page_out c.args.machine.now 0 in
    let many : c.len.result ≡ length page.entries = c.len.ensures.value ∙ ap (λ (p : PlainPage). length p.entries) (c.page.view_is ∙ c.page_in_place-page.ensures) in
    let few : length page.entries ≤ MAX_FAN = subst (λ (p : PlainPage). length p.entries ≤ MAX_FAN) (c.page.view_is ∙ c.page_in_place-page.ensures) c.page.invariant.at_most_fan in
    subst (λ (x : SeatState). BeginWith x.0.call.staged (page_words page)) (sym c.stage_row.ensures.staged)
    (words_of_row c.page_row-words.result (page_words page) (6 + 2 * c.len.result) (subst (λ (p : PlainPage). IsPageRow p c.page_row-words.result) c.page_in_place-page.ensures c.page_row-words.ensures) (omega (arith, length-page_words page, many)) (omega (arith, many, few)))

pub returns-clause-published : goal.returns-clause-published
returns-clause-published c = search rules
