-- The places of pages: no page goes away, and none changes its level or its floor; so an operation always gets further.
use Rattle.std.specs.Prelude.{◌≡◌, ℕ, ◌+◌, ◌-◌, ◌*◌, ◌<◌, ◌⊎◌, Option, Some, None}
use Rattle.blink_page.specs.{PlainPage, least_above}
use Rattle.blink_rest.specs.{Pages}
use Rattle.blink_store.specs.{SameFloorAndLevel}
use Rattle.blink_machine.specs.declared.machine.Next.TheVariants.{MoveRight}
use Rattle.blink_machine.specs.declared.machine.State.{State}
use Rattle.blink_machine.specs.declared.machine.State.TheVariants.{Going, Held, Leave}
use Rattle.blink_machine.specs.Machine.{PlainMachine, target}

-- every page stays, with its level and its floor
abbrev pub KeepsPlaces : Pages → Pages → Type 0
KeepsPlaces old new = (number : ℕ) (page : PlainPage) → old number ≡ Some page → (after : PlainPage) × (new number ≡ Some after) × SameFloorAndLevel page after

-- the page of this number exists, is on this level, and begins at a greater key than this
pub record BeginsFurther (pages : Pages) (number level least : ℕ) : Type 0 where
  pub page : PlainPage
  pub there : pages number ≡ Some page
  pub has_level : page.level ≡ level
  pub further : least < least_above page.floor

-- from a page that it reads an operation goes to a lower level, or along the level to a page that begins at a greater key
pub record GoesFurther (pages : Pages) (m : PlainMachine) (number : ℕ) (page : PlainPage) (after : PlainMachine) : Type 0 where
  pub on_its_way : (level next lower : ℕ) → m.state ≡ Going number level → after.state ≡ Going next lower
      → (lower < level) ⊎ ((lower ≡ level) × BeginsFurther pages next page.level (least_above page.floor))
  pub under_latch : (next : ℕ) → m.state ≡ Held number → after.state ≡ Leave number (MoveRight next)
      → BeginsFurther pages next page.level (least_above page.floor)

-- the number of keys from the page's floor up to this key
abbrev pub keys_from_floor : ℕ → Option PlainPage → ℕ
keys_from_floor key None = 0
keys_from_floor key (Some page) = key + 1 - least_above page.floor

-- a bound of the pages that a descending operation still reads; each read lowers it, since the level counts first, then where on
-- the level the page begins
abbrev pub descent_bound_at : Pages → ℕ → State → ℕ
descent_bound_at pages key (Going number level) = level * (key + 2) + keys_from_floor key (pages number) + 1
descent_bound_at pages key other = 0

abbrev pub descent_bound : Pages → PlainMachine → ℕ
descent_bound pages m = descent_bound_at pages (target m) m.state
