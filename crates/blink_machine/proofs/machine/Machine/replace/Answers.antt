use Rattle.std.proofs.Common.{◌≡◌, Some, None, inl, refl, ap, sym, ◌∙◌, arith}
use Rattle.blink_page.specs.{value_at, replaced, PlainPage, with_entries}
use Rattle.blink_machine.specs.declared.machine.State.TheVariants.{Change}
use Rattle.blink_machine.specs.Machine.{PlainMachine, target, at_state}
use Rattle.blink_machine.specs.Table.{is_to_change, swaps, replacement_finds_none}
use Rattle.blink_machine.proofs.operation.WhatJobsAreAbout.{target-leaf}
use Rattle.blink_machine.proofs.machine.Machine.replace.Goals as goal

pub returns-in-Some : goal.returns-in-Some
returns-in-Some c =
    let copy : c.args.page ≡ c.args.page = refl in
    let own : target c.args.self.now ≡ c.args.key = target-leaf c.args.self.now _ c.requires.job c.requires.op in
    let there : value_at c.args.key c.args.page.entries ≡ Some c.in-Some.before = sym (rw copy at c.in-Some.ensures.value) in
    let made = c.swap.ensures.entries ∙ ap (λ (p : PlainPage). with_entries p (replaced (c.args.key, c.args.pointer) p.entries)) copy in
    is_to_change c.swap.new.self (Some c.in-Some.before) (omega (arith, own, c.requires.not_right))
    (swaps c.args.key c.args.pointer c.in-Some.before c.requires.job (inl c.requires.op) there refl made)
    (ap (λ (m : PlainMachine). at_state m (Change c.args.number c.swap.new.self (Some c.in-Some.before))) c.self.view_is)

pub returns-in-None : goal.returns-in-None
returns-in-None c =
    let copy : c.args.page ≡ c.args.page = refl in
    let own : target c.args.self.now ≡ c.args.key = target-leaf c.args.self.now _ c.requires.job c.requires.op in
    let absent : value_at c.args.key c.args.page.entries ≡ None = sym (rw copy at c.in-None.ensures.value) in
    replacement_finds_none c.args.key c.args.pointer (omega (arith, own, c.requires.not_right)) c.requires.job c.requires.op absent c.decide.ensures
