use Rattle.std.proofs.Common.{◌≡◌, refl, ◌<◌, Some, None, length, ap, ◌∙◌, arith}
use Rattle.blink_operation.specs.declared.Op.TheVariants.{Insert}
use Rattle.blink_page.specs.{value_at, added, PlainPage, with_entries}
use Rattle.blink_machine.specs.declared.machine.State.TheVariants.{Change}
use Rattle.blink_machine.specs.Machine.{PlainMachine, target, at_state}
use Rattle.blink_machine.specs.Table.{is_to_change, insertion_finds_key}
use Rattle.blink_machine.proofs.operation.WhatJobsAreAbout.{target-leaf, insertion_changes}
use Rattle.blink_machine.proofs.machine.Machine.insert.Goals as goal

pub returns-in-Done : goal.returns-in-Done
returns-in-Done c =
    let copy : c.args.page ≡ c.args.page = refl in
    let own : target c.args.self.now ≡ c.args.key = target-leaf c.args.self.now (Insert c.args.key c.args.pointer) c.requires.job c.requires.op in
    let absent : value_at c.args.key c.args.page.entries ≡ None = rw copy at c.in-Done.ensures.absent in
    let room : length c.args.page.entries < c.args.self.now.fan = omega (arith, c.in-Done.ensures.room, ap (λ (p : PlainPage). length p.entries) copy, ap (λ (m : PlainMachine). m.fan) c.self.view_is) in
    let made = c.in-Done.ensures.done ∙ ap (λ (p : PlainPage). with_entries p (added (c.args.key, c.args.pointer) p.entries)) copy in
    is_to_change c.put.new.self None (omega (arith, own, c.requires.not_right))
    (insertion_changes c.args.self.now c.args.page c.put.new.self room c.args.key c.args.pointer c.requires.job c.requires.op c.requires.level absent made)
    (ap (λ (m : PlainMachine). at_state m (Change c.args.number c.put.new.self None)) c.self.view_is)

pub returns-in-Present : goal.returns-in-Present
returns-in-Present c =
    let copy : c.args.page ≡ c.args.page = refl in
    let own : target c.args.self.now ≡ c.args.key = target-leaf c.args.self.now (Insert c.args.key c.args.pointer) c.requires.job c.requires.op in
    let present : value_at c.args.key c.args.page.entries ≡ Some c.in-Present.kept = rw copy at c.in-Present.ensures.present in
    insertion_finds_key c.args.key c.args.pointer c.in-Present.kept (omega (arith, own, c.requires.not_right)) c.requires.job c.requires.op present c.decide.ensures
