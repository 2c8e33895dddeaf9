use Rattle.std.proofs.Common.{◌≡◌, ap, sym, ◌∙◌, subst}
use Rattle.blink_page.specs.{PlainPage}
use Rattle.blink_machine.specs.{IsReadable, PlainMachine, done, need_at}
use Rattle.blink_live.specs.Pendings.{IsWaiting}
use Rattle.blink_live.specs.Straight.{holding}
use Rattle.blink_live.specs.Updating.{IsUnderWay}
use Rattle.blink_live.proofs.changed.LeavesAreChanged.{goes_on_whole}
use Rattle.blink_live.proofs.live.Live.go_on_whole.Goals as goal

-- what was read under the latch is readable
readable : {held now : PlainMachine} {page read : PlainPage} → now ≡ held → read ≡ page → IsReadable held page → IsReadable now read
readable same_machine same_page is = subst (λ (x : PlainMachine × PlainPage). IsReadable x.0 x.1) (λ i. (sym same_machine i, sym same_page i)) is

pub saw_own_page-requires-clause-level : goal.saw_own_page-requires-clause-level
saw_own_page-requires-clause-level c =
    let whole = c.requires.whole.1 in
    let is_held : c.done.new.self ≡ holding c.args.self.now.fan c.args.op c.args.descent.now = c.done.ensures ∙ ap (λ (m : PlainMachine). done m 0) c.machine_at-machine.ensures in
    (readable is_held (c.page_in_row.ensures.page whole.page whole.reads) whole.readable).has_level

pub saw_own_page-requires-clause-below : goal.saw_own_page-requires-clause-below
saw_own_page-requires-clause-below c =
    let whole = c.requires.whole.1 in
    let is_held : c.done.new.self ≡ holding c.args.self.now.fan c.args.op c.args.descent.now = c.done.ensures ∙ ap (λ (m : PlainMachine). done m 0) c.machine_at-machine.ensures in
    (readable is_held (c.page_in_row.ensures.page whole.page whole.reads) whole.readable).floor_below

pub saw_own_page-requires-clause-at_most_fan : goal.saw_own_page-requires-clause-at_most_fan
saw_own_page-requires-clause-at_most_fan c =
    let whole = c.requires.whole.1 in
    let is_held : c.done.new.self ≡ holding c.args.self.now.fan c.args.op c.args.descent.now = c.done.ensures ∙ ap (λ (m : PlainMachine). done m 0) c.machine_at-machine.ensures in
    (readable is_held (c.page_in_row.ensures.page whole.page whole.reads) whole.readable).at_most_fan

pub go_on-requires : goal.go_on-requires
go_on-requires c =
    let whole = c.requires.whole.1 in
    let is_held : c.done.new.self ≡ holding c.args.self.now.fan c.args.op c.args.descent.now = c.done.ensures ∙ ap (λ (m : PlainMachine). done m 0) c.machine_at-machine.ensures in
    let page = c.page_in_row.ensures.page whole.page whole.reads in
    let sees = c.saw_own_page.ensures c.args.descent.now.leaf (ap (λ (m : PlainMachine). need_at m.state) is_held) in
    record { under_way = (c.args.op, c.requires.whole.0, goes_on_whole whole c.page_in_row.new.seat c.page_in_row.ensures.same c.done.new.self c.page_in_row.result c.saw_own_page.new.self is_held page sees) }

pub returns-in-Some : goal.returns-in-Some
returns-in-Some c = λ first whole.
    let is_held : c.done.new.self ≡ holding c.args.self.now.fan c.args.op c.args.descent.now = c.done.ensures ∙ ap (λ (m : PlainMachine). done m 0) c.machine_at-machine.ensures in
    let page = c.page_in_row.ensures.page whole.page whole.reads in
    let sees = c.saw_own_page.ensures c.args.descent.now.leaf (ap (λ (m : PlainMachine). need_at m.state) is_held) in
    let begun = goes_on_whole whole c.page_in_row.new.seat c.page_in_row.ensures.same c.done.new.self c.page_in_row.result c.saw_own_page.new.self is_held page sees in
    (c.go_on.new.machine, c.go_on.ensures.under_way c.args.op first begun, c.in-Some.ensures.ended.0, c.in-Some.ensures.ended.1)

pub returns-in-None : goal.returns-in-None
returns-in-None c = λ first whole.
    let is_held : c.done.new.self ≡ holding c.args.self.now.fan c.args.op c.args.descent.now = c.done.ensures ∙ ap (λ (m : PlainMachine). done m 0) c.machine_at-machine.ensures in
    let page = c.page_in_row.ensures.page whole.page whole.reads in
    let sees = c.saw_own_page.ensures c.args.descent.now.leaf (ap (λ (m : PlainMachine). need_at m.state) is_held) in
    let begun = goes_on_whole whole c.page_in_row.new.seat c.page_in_row.ensures.same c.done.new.self c.page_in_row.result c.saw_own_page.new.self is_held page sees in
    subst (λ (m : PlainMachine). IsUnderWay c.args.self.now c.args.op first c.go_on.new.seat m c.go_on.new.room × IsWaiting m) (sym c.rest.ensures) (c.go_on.ensures.under_way c.args.op first begun, c.in-None.ensures.waits)
