use Rattle.std.proofs.Common.{ap}
use Rattle.blink_page.specs.{Leads}
use Rattle.blink_page.specs.declared.search.Way.TheVariants.{Right}
use Rattle.blink_machine.specs.declared.machine.Next.TheVariants.{MoveRight}
use Rattle.blink_machine.specs.declared.machine.State.TheVariants.{Leave}
use Rattle.blink_machine.specs.Machine.{PlainMachine, target, at_state}
use Rattle.blink_machine.specs.Table.{is_above_high_key}
use Rattle.blink_machine.proofs.machine.Machine.read_under_latch.Goals as goal

pub returns-in-Right : goal.returns-in-Right
returns-in-Right c =
    let leads : Leads c.args.page (target c.args.self.now) (Right c.in-Right.next) = rw (← c.target.ensures) c.in-Right.ensures in
    is_above_high_key c.in-Right.next leads.0 leads.1
    (ap (λ (m : PlainMachine). at_state m (Leave c.args.number (MoveRight c.in-Right.next))) c.self.view_is)
