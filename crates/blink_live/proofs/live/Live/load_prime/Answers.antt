use Rattle.std.proofs.Common.{◌≤◌, ℕ, sym, subst, arith}
use Rattle.blink_batch.specs.declared.Op.{Op}
use Rattle.blink_batch.specs.{FitsWords}
use Rattle.blink_rows.specs.{PlainCounts, row_in}
use Rattle.blink_machine.specs.{PlainMachine}
use Rattle.blink_live.specs.AtomicSteps.{Begins}
use Rattle.blink_live.specs.Views.{CanBegin}
use Rattle.blink_live.proofs.found.OperationBegins.{begins_operation}
use Rattle.blink_live.proofs.live.Live.load_prime.Goals as goal

pub load-requires : goal.load-requires
load-requires g c = (
  c.requires.seat.same_table,
  omega (arith, c.args.self.now.width, c.args.self.now.some_number),
  begins_operation _ _ _ _ g.B.Begun.op c.requires.seat.role c.requires.idle (subst FitsWords (sym c.requires.picked) c.requires.fits) (subst (λ (o : Op). CanBegin c.args.seat.now.me.0 o) (sym c.requires.picked) c.requires.can_begin)
      (subst (λ (counts : PlainCounts). 1 ≤ counts.numbers) c.args.self.now.counts_are c.args.self.now.some_number),
)

pub returns-clause-begun : goal.returns-clause-begun
returns-clause-begun g c =
    subst (λ (row : ℕ). (machine : PlainMachine) × Begins c.args.op c.args.seat.now.me row machine c.load.new.seat.me) (sym c.row_in.ensures.row)
    (subst (λ (op : Op). (machine : PlainMachine) × Begins op c.args.seat.now.me (row_in c.load.result) machine c.load.new.seat.me) c.requires.picked c.load.ensures.2)
