use Rattle.std.proofs.Common.{◌≡◌, ℕ, ◌+◌, Some, slice_get, ap, sym, ◌∙◌}
use Rattle.std.proofs.lemmas.Option.{slice_get-get_or}
use Rattle.blink_machine.specs.declared.machine.Job.TheVariants.{Parent}
use Rattle.blink_machine.specs.declared.machine.State.TheVariants.{Want}
use Rattle.blink_machine.specs.Machine.{PlainMachine, at_state}
use Rattle.blink_machine.specs.Table.{finds_leftmost}
use Rattle.blink_machine.proofs.machine.Machine.find_level.Goals as goal

pub returns-clause-moved : goal.returns-clause-moved
returns-clause-moved c =
    let items : c.deref.result.now ≡ c.args.prime.now = c.deref.ensures.0 ∙ c.prime.view_is in
    let job : c.args.self.now.job ≡ Parent c.in-Parent.debt = sym (ap (λ (m : PlainMachine). m.job) c.self.view_is) ∙ c.in-Parent.is in
    let read : slice_get c.deref.result.now (c.from.result + 1) ≡ Some c.in-Some.field-0.now =
    slice_get-get_or c.deref.result.now (c.from.result + 1) 0 c.in-Some.ensures.lookup.3.0 ∙ ap (λ (n : ℕ). Some n) (sym (c.in-Some.ensures.lookup.3.1 0)) in
    finds_leftmost c.in-Parent.debt c.in-Some.field-0.now c.requires job (rw (items, c.from.ensures) at read)
    (ap (λ (m : PlainMachine). at_state m (Want c.in-Some.field-0.now)) c.self.view_is)
