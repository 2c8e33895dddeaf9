use Rattle.std.proofs.Common.{◌≡◌, ℕ, subst, sym}
use Rattle.blink_machine.specs.declared.machine.Need.{Need}
use Rattle.blink_machine.specs.declared.machine.Need.TheVariants.{ReadPrime, ReadPage, Latch, WriteNew, WritePage, Unlatch, End}
use Rattle.blink_machine.specs.{PlainMachine, need_at}
use Rattle.blink_steps.specs.Acts.{PlainShared, CanAct, CanActOn}
use Rattle.blink_steps.proofs.shared.Shared.act.Goals as goal

-- what the step that is needed requires
able : (need : Need) (shared : PlainShared) (worker : ℕ) (m : PlainMachine) → need ≡ need_at m.state → CanAct shared worker m → CanActOn need shared worker m
able need shared worker m is can = subst (λ (n : Need). CanActOn n shared worker m) (sym is) can.1

pub read_prime-requires-clause-few_levels : goal.read_prime-requires-clause-few_levels
read_prime-requires-clause-few_levels c = able ReadPrime c.args.self.now c.args.worker c.args.machine.now c.in-ReadPrime.ensures c.requires

pub read_page-requires-clause-may_read : goal.read_page-requires-clause-may_read
read_page-requires-clause-may_read c = able (ReadPage c.in-ReadPage.number) c.args.self.now c.args.worker c.args.machine.now c.in-ReadPage.ensures c.requires

pub latch-requires-clause-worker : goal.latch-requires-clause-worker
latch-requires-clause-worker c = (able (Latch c.in-Latch.number) c.args.self.now c.args.worker c.args.machine.now c.in-Latch.ensures c.requires).0

pub latch-requires-clause-holds_none : goal.latch-requires-clause-holds_none
latch-requires-clause-holds_none c = (able (Latch c.in-Latch.number) c.args.self.now c.args.worker c.args.machine.now c.in-Latch.ensures c.requires).1

pub add-requires-clause-room : goal.add-requires-clause-room
add-requires-clause-room c = (able WriteNew c.args.self.now c.args.worker c.args.machine.now c.in-WriteNew.ensures c.requires).0

pub add-requires-clause-at_most_fan : goal.add-requires-clause-at_most_fan
add-requires-clause-at_most_fan c = (able WriteNew c.args.self.now c.args.worker c.args.machine.now c.in-WriteNew.ensures c.requires).1

pub write-requires-clause-allowed : goal.write-requires-clause-allowed
write-requires-clause-allowed c = able (WritePage c.in-WritePage.number) c.args.self.now c.args.worker c.args.machine.now c.in-WritePage.ensures c.requires

pub unlatch-requires-clause-held : goal.unlatch-requires-clause-held
unlatch-requires-clause-held c = able (Unlatch c.in-Unlatch.number) c.args.self.now c.args.worker c.args.machine.now c.in-Unlatch.ensures c.requires

pub returns-in-ReadPrime-clause-step : goal.returns-in-ReadPrime-clause-step
returns-in-ReadPrime-clause-step c = c.read_prime.ensures c.args.worker

pub returns-in-ReadPage-clause-step : goal.returns-in-ReadPage-clause-step
returns-in-ReadPage-clause-step c = c.read_page.ensures c.args.worker

pub returns-in-Latch-clause-step : goal.returns-in-Latch-clause-step
returns-in-Latch-clause-step c = c.latch.ensures

pub returns-in-WriteNew-clause-step : goal.returns-in-WriteNew-clause-step
returns-in-WriteNew-clause-step c = c.add.ensures.step c.args.worker

pub returns-in-WritePage-clause-step : goal.returns-in-WritePage-clause-step
returns-in-WritePage-clause-step c = c.write.ensures c.args.worker

pub returns-in-WritePrime-clause-step : goal.returns-in-WritePrime-clause-step
returns-in-WritePrime-clause-step c = c.write_prime.ensures c.args.worker

pub returns-in-Unlatch-clause-step : goal.returns-in-Unlatch-clause-step
returns-in-Unlatch-clause-step c = c.unlatch.ensures

pub returns-in-End-clause-step : goal.returns-in-End-clause-step
returns-in-End-clause-step c = absurd (able End c.args.self.now c.args.worker c.args.machine.now c.in-End.ensures c.requires)
