use Rattle.std.proofs.Common.{◌≡◌, refl, ◌<◌, None, length, ap, ◌∙◌, arith}
use Rattle.blink_page.specs.{value_at, posted, PlainPage, with_entries}
use Rattle.blink_machine.specs.declared.machine.Next.TheVariants.{Finish}
use Rattle.blink_machine.specs.declared.machine.State.TheVariants.{Change, Leave}
use Rattle.blink_machine.specs.Machine.{PlainMachine, target, at_state}
use Rattle.blink_machine.specs.Table.{is_to_change, posting_finds_separator}
use Rattle.blink_machine.proofs.operation.WhatJobsAreAbout.{target-parent, some_value, posting_changes}
use Rattle.blink_machine.proofs.machine.Machine.post.Goals as goal

pub returns-in-Done : goal.returns-in-Done
returns-in-Done c =
    let copy : c.args.page ≡ c.args.page = refl in
    let own : target c.args.self.now ≡ c.args.debt.separator = target-parent c.args.self.now c.args.debt c.requires.job in
    let absent : value_at c.args.debt.separator c.args.page.entries ≡ None = rw copy at c.in-Done.ensures.absent in
    let room : length c.args.page.entries < c.args.self.now.fan = omega (arith, c.in-Done.ensures.room, ap (λ (p : PlainPage). length p.entries) copy, ap (λ (m : PlainMachine). m.fan) c.self.view_is) in
    let made = c.in-Done.ensures.done ∙ ap (λ (p : PlainPage). with_entries p (posted (c.args.debt.separator, c.args.debt.page) p.entries)) copy in
    is_to_change c.post.new.self None (omega (arith, own, c.requires.not_right))
    (posting_changes c.args.self.now c.args.page c.post.new.self room c.args.debt c.requires.job (omega (arith, c.requires.level)) absent made)
    (ap (λ (m : PlainMachine). at_state m (Change c.args.number c.post.new.self None)) c.self.view_is)

pub returns-in-Already : goal.returns-in-Already
returns-in-Already c =
    let copy : c.args.page ≡ c.args.page = refl in
    let own : target c.args.self.now ≡ c.args.debt.separator = target-parent c.args.self.now c.args.debt c.requires.job in
    let child = some_value (value_at c.args.debt.separator c.args.page.entries) (rw copy at c.in-Already.ensures.already) in
    posting_finds_separator c.args.debt child.0 (omega (arith, own, c.requires.not_right)) c.requires.job child.1
    (ap (λ (m : PlainMachine). at_state m (Leave c.args.number Finish)) c.self.view_is)
