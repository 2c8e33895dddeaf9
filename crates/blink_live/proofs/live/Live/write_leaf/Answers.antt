use Rattle.std.proofs.Common.{◌≡◌, ◌+◌, ◌*◌, ◌≤◌, length, sym, ap, ◌∙◌, subst, arith}
use Rattle.blink_batch.specs.{key_of}
use Rattle.blink_page.specs.{PlainPage}
use Rattle.blink_page.specs.declared.limits.TheConstants.{MAX_FAN}
use Rattle.blink_rows.specs.{IsPageRow, page_words}
use Rattle.blink_rows.proofs.Offered.{length-page_words}
use Rattle.blink_machine.specs.{page_out}
use Rattle.blink_live.specs.AtomicSteps.{PublishesPage}
use Rattle.blink_live.specs.Views.{MayChange, SeatState}
use Rattle.blink_live.specs.Words.{BeginWith}
use Rattle.blink_live.proofs.changed.RowsAreStaged.{published_staged, words_of_row}
use Rattle.blink_live.proofs.live.Live.write_leaf.Goals as goal

pub name_row-requires-clause-at : goal.name_row-requires-clause-at
name_row-requires-clause-at c =
    let m = c.requires.can.0 in
    let can = c.requires.can.1 in
    let page = page_out m 0 in
    let is : c.args.page.now ≡ page = c.requires.can.3 in
    let many : c.len.result ≡ length page.entries = c.len.ensures.value ∙ ap (λ (p : PlainPage). length p.entries) (c.page.view_is ∙ is) in
    let few : length page.entries ≤ MAX_FAN = subst (λ (p : PlainPage). length p.entries ≤ MAX_FAN) (c.page.view_is ∙ is) c.page.invariant.at_most_fan in (
      m,
      ap (λ (x : SeatState). x.0.operation) c.stage_row.ensures.staged ∙ can.at,
      can.fits,
      c.requires.can.2,
      subst (λ (x : SeatState). MayChange x.0 (key_of m.op)) (sym c.stage_row.ensures.staged) can.may,
      subst (λ (x : SeatState). BeginWith x.0.call.staged (page_words page)) (sym c.stage_row.ensures.staged)
          (words_of_row c.page_row-words.result (page_words page) (6 + 2 * c.len.result) (subst (λ (p : PlainPage). IsPageRow p c.page_row-words.result) is c.page_row-words.ensures) (omega (arith, length-page_words page, many)) (omega (arith, many, few))),
    )

pub returns-clause-published : goal.returns-clause-published
returns-clause-published c m at needs =
    let staged = c.stage_row.ensures.staged in
    let does = c.name_row.ensures.published m (ap (λ (x : SeatState). x.0.operation) staged ∙ at) needs in
    published_staged c.args.number c.name_row.result m c.args.seat.now.me c.name_row.new.seat.me _ (subst (λ (x : SeatState). PublishesPage c.args.number c.name_row.result m x c.name_row.new.seat.me) staged does)
