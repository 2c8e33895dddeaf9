-- A state of a tree that workers change, and one atomic step of a worker.
use Rattle.std.specs.Prelude.{◌≡◌, ◌≢◌, ℕ, Option, Some, None, List}
use Rattle.blink_operation.specs.declared.Op.{Op}
use Rattle.blink_page.specs.{IsPageNumber, PlainPage}
use Rattle.blink_rest.specs.{Pages}
use Rattle.blink_machine.specs.declared.machine.State.{State}
use Rattle.blink_machine.specs.declared.machine.State.TheVariants.{Ended}
use Rattle.blink_machine.specs.declared.step.Kind.TheVariants.{ReadPage, ReadPrime, Latch, Unlatch, WritePage, WritePrime}
use Rattle.blink_machine.specs.declared.step.Step.{Step}
use Rattle.blink_machine.specs.declared.step.Step.TheVariants.{Moved, Waited}
use Rattle.blink_machine.specs.Machine.{PlainMachine, fresh, NeedsPrime, NeedsPage, NeedsLatch, NeedsNew, NeedsWrite, NeedsPrimeWrite, NeedsUnlatch}
use Rattle.blink_machine.specs.Table.{SeesPrime, WaitsForLevel, SeesPage, page_out, done, PrimeOut}

-- the pages by number, the prime block, the holder of each page's latch, and the operation of each worker that isn't idle; there
-- may be any number of workers
pub record TreeState : Type 0 where
  pub fan : ℕ
  pub prime : List ℕ
  pub pages : Pages
  pub holder : ℕ → Option ℕ
  pub machines : ℕ → Option PlainMachine

-- exactly page n was written
pub record WritesOne (old new : Pages) (n : ℕ) (page : PlainPage) : Type 0 where
  pub written : new n ≡ Some page
  pub others : (other : ℕ) → other ≢ n → new other ≡ old other

-- the latch of exactly this page changed its holder
pub record LatchPasses (old new : ℕ → Option ℕ) (page : ℕ) (holder : Option ℕ) : Type 0 where
  pub changed : new page ≡ holder
  pub others : (other : ℕ) → other ≢ page → new other ≡ old other

-- an operation that goes on; nothing is left of one that has ended
abbrev pub goes_on : PlainMachine → State → Option PlainMachine
goes_on m Ended = None
goes_on m state = Some m

-- the worker's operation is now this one, and the others' are as before
pub record IsWorkersNow (old new : ℕ → Option PlainMachine) (worker : ℕ) (m : PlainMachine) : Type 0 where
  pub own : new worker ≡ goes_on m m.state
  pub others : (other : ℕ) → other ≢ worker → new other ≡ old other

-- the operation of a worker's step: its own, or, if the worker is idle, any that it begins
pub data IsItsOperation (old : TreeState) (worker : ℕ) (m : PlainMachine) : Type 0 where
  under_way : old.machines worker ≡ Some m → IsItsOperation old worker m
  taken_on : (op : Op) → old.machines worker ≡ None → m ≡ fresh old.fan op → IsItsOperation old worker m

-- a step that changes nothing but the operation
pub record Leaves (old new : TreeState) : Type 0 where
  pub same_fan : new.fan ≡ old.fan
  pub same_prime : new.prime ≡ old.prime
  pub same_pages : new.pages ≡ old.pages
  pub same_holder : new.holder ≡ old.holder

-- a worker's operation `m` takes a step and is `after`, or waits: a case for each kind of step
pub data Steps (old : TreeState) (worker : ℕ) (m : PlainMachine) (step : Step) (after : PlainMachine) (new : TreeState) : Type 0 where
  reads_prime : NeedsPrime m → SeesPrime m old.prime after → step ≡ Moved ReadPrime
      → Leaves old new → IsWorkersNow old.machines new.machines worker after → Steps old worker m step after new
  waits_for_level : NeedsPrime m → WaitsForLevel m old.prime → step ≡ Waited
      → new ≡ old → after ≡ m → Steps old worker m step after new
  reads_page : (number : ℕ) (page : PlainPage) → NeedsPage m number → old.pages number ≡ Some page → SeesPage m number page after → step ≡ Moved (ReadPage number)
      → Leaves old new → IsWorkersNow old.machines new.machines worker after → Steps old worker m step after new
  latches : (number : ℕ) → NeedsLatch m number → old.holder number ≡ None → after ≡ done m 0 → step ≡ Moved (Latch number)
      → new.fan ≡ old.fan → new.prime ≡ old.prime → new.pages ≡ old.pages → LatchPasses old.holder new.holder number (Some worker)
      → IsWorkersNow old.machines new.machines worker after → Steps old worker m step after new
  waits_for_latch : (number holder : ℕ) → NeedsLatch m number → old.holder number ≡ Some holder → step ≡ Waited
      → new ≡ old → after ≡ m → Steps old worker m step after new
  writes_new : (number : ℕ) → NeedsNew m → IsPageNumber number → old.pages number ≡ None → after ≡ done m number → step ≡ Moved (WritePage number)
      → new.fan ≡ old.fan → new.prime ≡ old.prime → WritesOne old.pages new.pages number (page_out m number) → new.holder ≡ old.holder
      → IsWorkersNow old.machines new.machines worker after → Steps old worker m step after new
  writes_page : (number : ℕ) → NeedsWrite m number → after ≡ done m 0 → step ≡ Moved (WritePage number)
      → new.fan ≡ old.fan → new.prime ≡ old.prime → WritesOne old.pages new.pages number (page_out m 0) → new.holder ≡ old.holder
      → IsWorkersNow old.machines new.machines worker after → Steps old worker m step after new
  writes_prime : NeedsPrimeWrite m → PrimeOut m new.prime → after ≡ done m 0 → step ≡ Moved WritePrime
      → new.fan ≡ old.fan → new.pages ≡ old.pages → new.holder ≡ old.holder
      → IsWorkersNow old.machines new.machines worker after → Steps old worker m step after new
  unlatches : (number : ℕ) → NeedsUnlatch m number → after ≡ done m 0 → step ≡ Moved (Unlatch number)
      → new.fan ≡ old.fan → new.prime ≡ old.prime → new.pages ≡ old.pages → LatchPasses old.holder new.holder number None
      → IsWorkersNow old.machines new.machines worker after → Steps old worker m step after new
