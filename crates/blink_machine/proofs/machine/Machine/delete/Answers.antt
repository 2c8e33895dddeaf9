use Rattle.std.proofs.Common.{◌≡◌, Some, None, inl, refl, ap, sym, ◌∙◌, arith}
use Rattle.blink_operation.specs.declared.Op.TheVariants.{Delete}
use Rattle.blink_page.specs.{value_at, removed, PlainPage, with_entries}
use Rattle.blink_machine.specs.declared.machine.State.TheVariants.{Change}
use Rattle.blink_machine.specs.Machine.{PlainMachine, target, at_state}
use Rattle.blink_machine.specs.Table.{is_to_change, loses, deletion_finds_none}
use Rattle.blink_machine.proofs.operation.WhatJobsAreAbout.{target-leaf}
use Rattle.blink_machine.proofs.machine.Machine.delete.Goals as goal

pub returns-in-Some : goal.returns-in-Some
returns-in-Some c =
    let copy : c.args.page ≡ c.args.page = refl in
    let own : target c.args.self.now ≡ c.args.key = target-leaf c.args.self.now (Delete c.args.key) c.requires.job c.requires.op in
    let there : value_at c.args.key c.args.page.entries ≡ Some c.in-Some.kept = sym (rw copy at c.in-Some.ensures.value) in
    let made = c.take.ensures.entries ∙ ap (λ (p : PlainPage). with_entries p (removed c.args.key p.entries)) copy in
    is_to_change c.take.new.self (Some c.in-Some.kept) (omega (arith, own, c.requires.not_right))
    (loses c.args.key c.in-Some.kept c.requires.job (inl c.requires.op) there refl made)
    (ap (λ (m : PlainMachine). at_state m (Change c.args.number c.take.new.self (Some c.in-Some.kept))) c.self.view_is)

pub returns-in-None : goal.returns-in-None
returns-in-None c =
    let copy : c.args.page ≡ c.args.page = refl in
    let own : target c.args.self.now ≡ c.args.key = target-leaf c.args.self.now (Delete c.args.key) c.requires.job c.requires.op in
    let absent : value_at c.args.key c.args.page.entries ≡ None = sym (rw copy at c.in-None.ensures.value) in
    deletion_finds_none c.args.key (omega (arith, own, c.requires.not_right)) c.requires.job c.requires.op absent c.decide.ensures
