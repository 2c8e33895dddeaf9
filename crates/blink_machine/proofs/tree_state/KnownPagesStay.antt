-- What is so of the pages that an operation knows stays so as the levels grow.
use Rattle.std.proofs.Common.{ℕ, ◌+◌, ◌≤◌, Option, List, [], ◌∷◌, refl, ◌∙◌, arith}
use Rattle.blink_page.specs.{least_above}
use Rattle.blink_machine.specs.Machine.{PlainMachine, level_of}
use Rattle.blink_machine.specs.Placed.{AreRemembered, StandsAt, IsAtWork}
use Rattle.blink_machine.specs.TreeWithDebts.{Levels, IsInChain}
use Rattle.blink_rest.specs.{BeginsAt}
use Rattle.blink_machine.proofs.tree.TreeStatements.{Grows}

-- remembered pages that begin at or before a place begin at or before each later one
pub remembered_before : (levels : Levels) (level least later : ℕ) (pages : List ℕ) → least ≤ later → AreRemembered levels level least pages
    → AreRemembered levels level later pages
remembered_before levels level least later [] before remembered = tt
remembered_before levels level least later (page ∷ above) before (begins, rest) = (
  record { cell = begins.cell; stands = begins.stands; same_number = begins.same_number; floor_below = omega (arith, begins.floor_below) },
  rest,
)

-- levels that stay as they are grow
pub grows_same : (levels : Levels) → Grows levels levels
grows_same levels level c stands = record { cell = c; stands = stands; same_number = refl; same_floor = refl }

module _ (levels new : Levels) (grows : Grows levels new) where
  -- a page that begins somewhere still begins there
  pub BeginsAt-grows : (level number : ℕ) (floor : Option ℕ) → BeginsAt (levels level) number floor → BeginsAt (new level) number floor
  BeginsAt-grows level number floor begins =
      let it = grows level begins.cell begins.stands in
      record { cell = it.cell; stands = it.stands; same_number = it.same_number ∙ begins.same_number; same_floor = it.same_floor ∙ begins.same_floor }

  -- a page of a chain stays in one
  pub IsInChain-grows : (number : ℕ) → IsInChain levels number → IsInChain new number
  IsInChain-grows number chained =
      let it = grows chained.level chained.cell chained.stands in
      record { level = chained.level; cell = it.cell; stands = it.stands; same_number = it.same_number ∙ chained.same_number }

  -- remembered pages stay so
  pub AreRemembered-grows : (level least : ℕ) (pages : List ℕ) → AreRemembered levels level least pages → AreRemembered new level least pages
  AreRemembered-grows level least [] remembered = tt
  AreRemembered-grows level least (page ∷ above) (begins, rest) =
      let it = grows level begins.cell begins.stands in (
        record { cell = it.cell; stands = it.stands; same_number = it.same_number ∙ begins.same_number; floor_below = rw it.same_floor begins.floor_below },
        rw it.same_floor (AreRemembered-grows (level + 1) (least_above begins.cell.page.floor) above rest),
      )

  -- and so does the page where an operation stands
  pub StandsAt-grows : (m : PlainMachine) (level page : ℕ) → StandsAt levels m level page → StandsAt new m level page
  StandsAt-grows m level page stands_at =
      let begins = stands_at.begins in
      let it = grows level begins.cell begins.stands in
      record {
        begins = record { cell = it.cell; stands = it.stands; same_number = it.same_number ∙ begins.same_number; floor_below = rw it.same_floor begins.floor_below };
        remembers = rw it.same_floor (AreRemembered-grows (level + 1) (least_above begins.cell.page.floor) m.remembered stands_at.remembers);
      }

  -- and where it works
  pub IsAtWork-grows : (m : PlainMachine) (page : ℕ) → IsAtWork levels m page → IsAtWork new m page
  IsAtWork-grows m page at_work = record { may_change = at_work.may_change; stands_at = StandsAt-grows m (level_of m.job) page at_work.stands_at }
