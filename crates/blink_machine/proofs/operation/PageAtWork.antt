-- The page that an operation works on.
use Rattle.std.proofs.Common.{◌≡◌, ℕ, ◌+◌, Some}
use Rattle.blink_page.specs.{IsPageNumber, PlainPage, IsKeyOf, least_above}
use Rattle.blink_rest.specs.Chain.{Cell}
use Rattle.blink_rest.specs.{IsMember}
use Rattle.blink_machine.specs.declared.machine.Debt.{Debt}
use Rattle.blink_machine.specs.Machine.{PlainMachine, target, level_of}
use Rattle.blink_machine.specs.TreeState.{TreeState}
use Rattle.blink_machine.specs.Owned.{debt_of}
use Rattle.blink_machine.specs.Placed.{AreRemembered, IsAtWork, HasRead}
use Rattle.blink_machine.specs.Invariant.{InvariantWith}
use Rattle.blink_machine.specs.TreeWithDebts.{Levels}
use Rattle.blink_machine.proofs.tree.TreeStatements.{TreeLaws, IsOfLevel}
use Rattle.blink_machine.proofs.tree_state.NewPageKeepsInvariant.{chained_is_there}
use Rattle.blink_machine.proofs.operation.WhereMovesLead.{page_of_cell}

-- the page that an operation works on: its cell in the chain, with what the operation has read
pub record WorksOn (old : TreeState) (levels : Levels) (m : PlainMachine) (number level : ℕ) : Type 0 where
  pub cell : Cell
  pub stands : IsMember cell (levels level)
  pub same_number : cell.number ≡ number
  pub of_level : IsOfLevel old.fan old.pages level cell
  pub belongs : IsKeyOf cell.page (target m)
  pub remembers : AreRemembered levels (level + 1) (least_above cell.page.floor) m.remembered

module _ (laws : TreeLaws) (old : TreeState) (levels : Levels) (invariant : InvariantWith old levels) (m : PlainMachine) where
  -- the page that was read is the cell's
  pub works_on : (number : ℕ) (page : PlainPage) → IsAtWork levels m number → HasRead old m number page
      → (work : WorksOn old levels m number (level_of m.job)) × (work.cell.page ≡ page)
  works_on number page at_work read =
      let begins = at_work.stands_at.begins in
      let same : begins.cell.page ≡ page = page_of_cell laws old levels invariant (level_of m.job) number begins.cell page begins.stands begins.same_number read.there in (
        record {
          cell = begins.cell;
          stands = begins.stands;
          same_number = begins.same_number;
          of_level = laws.cells_are_of_level old.fan old.prime old.pages levels (level_of m.job) begins.cell invariant.lawful.tree begins.stands;
          belongs = rw same read.belongs;
          remembers = at_work.stands_at.remembers;
        },
        same,
      )

  -- a job's page is a page of the level below
  pub job_is_number : (worker : ℕ) (debt : Debt) → old.machines worker ≡ Some m → debt_of m ≡ Some debt → IsPageNumber debt.page
  job_is_number worker debt here owes =
      let begins = (invariant.lawful.debts.is_debt worker m debt (here, owes)).1 in
      let there = chained_is_there laws old levels debt.page invariant (record { level = debt.level; cell = begins.cell; stands = begins.stands; same_number = begins.same_number }) in
      invariant.numbers_in_range debt.page there.0 there.1
