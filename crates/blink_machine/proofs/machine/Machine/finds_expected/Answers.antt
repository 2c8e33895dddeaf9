use Rattle.std.proofs.Common.{◌≡◌, Some, None, refl, sym, ◌∙◌, arith}
use Rattle.blink_page.specs.{value_at}
use Rattle.blink_machine.specs.Machine.{target}
use Rattle.blink_machine.proofs.operation.ExpectedPointers.{expects-key, sees_other, sees_none}
use Rattle.blink_machine.proofs.operation.WhatJobsAreAbout.{target-leaf}
use Rattle.blink_machine.proofs.machine.Machine.finds_expected.Goals as goal

pub returns-in-Some-2-clause-other : goal.returns-in-Some-2-clause-other
returns-in-Some-2-clause-other c =
    let own : target c.args.self.now ≡ c.args.key = target-leaf c.args.self.now _ c.requires.job refl ∙ expects-key c.args.self.now.op c.args.key c.args.expected c.requires.op in
    let there : value_at c.args.key c.args.page.now.entries ≡ Some c.in-Some.kept = sym c.look.ensures ∙ c.in-Some.is in
    sees_other c.args.self.now c.args.number c.args.page.now _ c.args.key c.args.expected (omega (arith, own, c.requires.not_right)) c.requires.job c.requires.op
    c.in-Some.kept there c.if-kept-expected.false c.decide.ensures

pub returns-in-None-clause-other : goal.returns-in-None-clause-other
returns-in-None-clause-other c =
    let own : target c.args.self.now ≡ c.args.key = target-leaf c.args.self.now _ c.requires.job refl ∙ expects-key c.args.self.now.op c.args.key c.args.expected c.requires.op in
    let absent : value_at c.args.key c.args.page.now.entries ≡ None = sym c.look.ensures ∙ c.in-None.is in
    sees_none c.args.self.now c.args.number c.args.page.now _ c.args.key c.args.expected (omega (arith, own, c.requires.not_right)) c.requires.job c.requires.op
    absent c.decide-in-None.ensures
