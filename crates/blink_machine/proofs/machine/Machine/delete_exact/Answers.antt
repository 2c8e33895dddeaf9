use Rattle.std.proofs.Common.{◌≡◌, Some, inr, refl, ap, ◌∙◌, arith}
use Rattle.blink_machine.specs.declared.machine.State.TheVariants.{Change}
use Rattle.blink_machine.specs.Machine.{PlainMachine, at_state, target}
use Rattle.blink_machine.specs.Table.{is_to_change, loses}
use Rattle.blink_machine.proofs.operation.WhatJobsAreAbout.{target-leaf}
use Rattle.blink_machine.proofs.machine.Machine.delete_exact.Goals as goal

pub finds_expected-requires-clause-op : goal.finds_expected-requires-clause-op
finds_expected-requires-clause-op c = (inr c.requires.op)

pub returns-then-finds_expected : goal.returns-then-finds_expected
returns-then-finds_expected c =
    let own : target c.args.self.now ≡ c.args.key = target-leaf c.args.self.now _ c.requires.job c.requires.op in
    is_to_change c.take.new.self _ (omega (arith, own, c.requires.not_right))
    (loses c.args.key c.args.expected c.requires.job (inr c.requires.op) c.if-finds_expected.ensures.found refl c.take.ensures.entries)
    (ap (λ (m : PlainMachine). at_state m (Change c.args.number c.take.new.self (Some c.args.expected))) (c.self.view_is ∙ c.if-finds_expected.ensures.unchanged))
