-- Descending operations, and what they are handed of a page that they read in their descent.
use Rattle.std.specs.Prelude.{◌≡◌, ℕ, Option}
use Rattle.blink_operation.specs.declared.Op.TheVariants.{Find}
use Rattle.blink_machine.specs.declared.machine.State.TheVariants.{Going}
use Rattle.blink_page.specs.{value_at, PlainPage, Leads}
use Rattle.blink_page.specs.declared.search.Way.{Way}
use Rattle.blink_page.specs.declared.search.Way.TheVariants.{Here}
use Rattle.blink_machine.specs.Machine.{PlainMachine, level_read, target}

-- the operation is in its descent
abbrev pub IsOnItsWay : PlainMachine → Type 0
IsOnItsWay m = (number : ℕ) × (level : ℕ) × (m.state ≡ Going number level)

-- the page is of the level that the operation reads next, and `way` says where its key leads from there; if the operation is a
-- find that ends there, `kept` is the pointer stored for its key
pub record TellsWay (m : PlainMachine) (page : PlainPage) (way : Way) (kept : Option ℕ) : Type 0 where
  pub has_level : page.level ≡ level_read m
  pub leads : Leads page (target m) way
  pub maps : (key : ℕ) → m.op ≡ Find key → way ≡ Here → value_at key page.entries ≡ kept
