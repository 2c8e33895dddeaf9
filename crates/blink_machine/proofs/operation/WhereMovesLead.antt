-- Where a search or posting stands after each move: to the right, down, or at the leftmost page of a level.
use Rattle.std.proofs.Common.{◌≡◌, ℕ, ◌+◌, ◌-◌, ◌<◌, ◌≤◌, Some, None, List, [], ◌∷◌, length, slice_get, sym, ap, ◌∙◌, subst, arith}
use Rattle.std.specs.List.{last_or}
use Rattle.blink_page.specs.{child_for, value_at, PlainPage, IsKeyOf, least_above}
use Rattle.blink_rest.specs.{Pages, IsMember, entries_along}
use Rattle.blink_rest.specs.Chain.{Cell}
use Rattle.blink_machine.specs.Machine.{PlainMachine, target}
use Rattle.blink_machine.specs.TreeState.{TreeState}
use Rattle.blink_machine.specs.Placed.{AreRemembered, StandsAt}
use Rattle.blink_machine.specs.Places.{BeginsFurther}
use Rattle.blink_machine.specs.Invariant.{InvariantWith}
use Rattle.blink_machine.specs.Tree.{BeginsBelow}
use Rattle.blink_machine.specs.TreeWithDebts.{Levels}
use Rattle.blink_machine.proofs.tree.TreeStatements.{TreeLaws}
use Rattle.blink_machine.proofs.tree_state.KnownPagesStay.{remembered_before}

-- the last of some numbers stands at the last place
last_stands : (n : ℕ) (ns : List ℕ) (last : ℕ) → last_or (Some n) ns ≡ Some last → slice_get (n ∷ ns) (length ns) ≡ Some last
last_stands n [] last is = is
last_stands n (k ∷ ns) last is = last_stands k ns last is

-- so does the last of a list that may be empty
pub last_at : (ns : List ℕ) (last : ℕ) → last_or None ns ≡ Some last → slice_get ns (length ns - 1) ≡ Some last
last_at [] last is = absurd cc
last_at (n ∷ ns) last is = let at : length ns ≡ length (n ∷ ns) - 1 = omega arith in subst (λ (k : ℕ). slice_get (n ∷ ns) k ≡ Some last) at (last_stands n ns last is)

-- the page of this number is on this level
pub record IsOnLevel (pages : Pages) (number level : ℕ) : Type 0 where
  pub page : PlainPage
  pub there : pages number ≡ Some page
  pub has_level : page.level ≡ level

module _ (laws : TreeLaws) (tree_state : TreeState) (levels : Levels) (invariant : InvariantWith tree_state levels) where
  -- the page of a number that stands in a chain is the cell's
  pub page_of_cell : (level number : ℕ) (c : Cell) (page : PlainPage) → IsMember c (levels level) → c.number ≡ number → tree_state.pages number ≡ Some page → c.page ≡ page
  page_of_cell level number c page stands same there =
      let is_there : tree_state.pages c.number ≡ Some c.page = (laws.cells_are_of_level tree_state.fan tree_state.prime tree_state.pages levels level c invariant.lawful.tree stands).there in
      let also : tree_state.pages c.number ≡ Some page = ap tree_state.pages same ∙ there in
      cc

  -- a page that stands in a level is on it
  pub stands_on : (level number : ℕ) (c : Cell) → IsMember c (levels level) → c.number ≡ number → IsOnLevel tree_state.pages number level
  stands_on level number c stands same =
      let it = laws.cells_are_of_level tree_state.fan tree_state.prime tree_state.pages levels level c invariant.lawful.tree stands in
      record { page = c.page; there = ap tree_state.pages (sym same) ∙ it.there; has_level = it.has_level }

  module _ (m : PlainMachine) (level number : ℕ) (page : PlainPage) (there : tree_state.pages number ≡ Some page) where
    -- to the right
    pub stands_right : (next : ℕ) → StandsAt levels m level number → page.high < target m → page.right ≡ Some next → StandsAt levels m level next
    stands_right next stands_at above links =
        let c : Cell = stands_at.begins.cell in
        let same : c.page ≡ page = page_of_cell level number c page stands_at.begins.stands stands_at.begins.same_number there in
        let lawful = (laws.cells_are_of_level tree_state.fan tree_state.prime tree_state.pages levels level c invariant.lawful.tree stands_at.begins.stands).lawful in
        let high : c.page.high ≡ page.high = ap (λ (p : PlainPage). p.high) same in
        let it = laws.right_begins tree_state.fan tree_state.prime tree_state.pages levels level next c invariant.lawful.tree stands_at.begins.stands (ap (λ (p : PlainPage). p.right) same ∙ links) in
        record {
          begins = record { cell = it.cell; stands = it.stands; same_number = it.same_number; floor_below = rw it.same_floor (omega (arith, high, above)) };
          remembers = rw it.same_floor (remembered_before levels (level + 1) (least_above c.page.floor) (c.page.high + 1) m.remembered (omega (arith, lawful.floor_below_high)) stands_at.remembers);
        }

    -- the right neighbour begins further on
    pub right_is_further : (next : ℕ) → StandsAt levels m level number → page.right ≡ Some next → BeginsFurther tree_state.pages next page.level (least_above page.floor)
    right_is_further next stands_at links =
        let c : Cell = stands_at.begins.cell in
        let same : c.page ≡ page = page_of_cell level number c page stands_at.begins.stands stands_at.begins.same_number there in
        let own = laws.cells_are_of_level tree_state.fan tree_state.prime tree_state.pages levels level c invariant.lawful.tree stands_at.begins.stands in
        let it = laws.right_begins tree_state.fan tree_state.prime tree_state.pages levels level next c invariant.lawful.tree stands_at.begins.stands (ap (λ (p : PlainPage). p.right) same ∙ links) in
        let on = stands_on level next it.cell it.stands it.same_number in
        let is_cell : it.cell.page ≡ on.page = page_of_cell level next it.cell on.page it.stands it.same_number on.there in
        let begins : least_above on.page.floor ≡ c.page.high + 1 = ap (λ (p : PlainPage). least_above p.floor) (sym is_cell) ∙ ap least_above it.same_floor in
        let least : least_above c.page.floor ≡ least_above page.floor = ap (λ (p : PlainPage). least_above p.floor) same in
        record {
          page = on.page;
          there = on.there;
          has_level = on.has_level ∙ sym own.has_level ∙ ap (λ (p : PlainPage). p.level) same;
          further = omega (arith, own.lawful.floor_below_high);
        }

    -- the key belongs to a page that it is at or below the high key of
    pub belongs_here : StandsAt levels m level number → target m ≤ page.high → IsKeyOf page (target m)
    belongs_here stands_at below =
        let same : stands_at.begins.cell.page ≡ page = page_of_cell level number stands_at.begins.cell page stands_at.begins.stands stands_at.begins.same_number there in
        (subst (λ (p : PlainPage). least_above p.floor ≤ target m) same stands_at.begins.floor_below, below)

    -- the page has the level
    pub level_here : StandsAt levels m level number → page.level ≡ level
    level_here stands_at =
        let same : stands_at.begins.cell.page ≡ page = page_of_cell level number stands_at.begins.cell page stands_at.begins.stands stands_at.begins.same_number there in
        ap (λ (p : PlainPage). p.level) (sym same) ∙ (laws.cells_are_of_level tree_state.fan tree_state.prime tree_state.pages levels level stands_at.begins.cell invariant.lawful.tree stands_at.begins.stands).has_level

    -- a key has in the level the value that it has here
    pub value_here : StandsAt levels m level number → target m ≤ page.high → value_at (target m) (entries_along (levels level)) ≡ value_at (target m) page.entries
    value_here stands_at below =
        let c : Cell = stands_at.begins.cell in
        let same : c.page ≡ page = page_of_cell level number c page stands_at.begins.stands stands_at.begins.same_number there in
        laws.level_keeps tree_state.fan tree_state.prime tree_state.pages levels level (target m) c invariant.lawful.tree stands_at.begins.stands (rw same (belongs_here stands_at below))
        ∙ ap (λ (p : PlainPage). value_at (target m) p.entries) same

  -- down: the page is remembered
  pub stands_down : (m : PlainMachine) (level number : ℕ) (page : PlainPage) (child : ℕ) → tree_state.pages number ≡ Some page → StandsAt levels m (level + 1) number
      → target m ≤ page.high → child_for (target m) page.entries ≡ Some child
      → (begins : BeginsBelow (levels level) child (target m)) × AreRemembered levels (level + 1) (least_above begins.cell.page.floor) (number ∷ m.remembered)
  stands_down m level number page child there stands_at below leads =
      let c : Cell = stands_at.begins.cell in
      let same : c.page ≡ page = page_of_cell (level + 1) number c page stands_at.begins.stands stands_at.begins.same_number there in
      let it = laws.children_begin tree_state.fan tree_state.prime tree_state.pages levels level child (target m) c invariant.lawful.tree stands_at.begins.stands
      (rw same (belongs_here m (level + 1) number page there stands_at below)) (ap (λ (p : PlainPage). child_for (target m) p.entries) same ∙ leads) in
      (it.begins, (record { cell = c; stands = stands_at.begins.stands; same_number = stands_at.begins.same_number; floor_below = it.not_before }, stands_at.remembers))

  -- the leftmost page of a level begins below every key
  pub begins_leftmost : (level leftmost key : ℕ) → slice_get tree_state.prime level ≡ Some leftmost → BeginsBelow (levels level) leftmost key
  begins_leftmost level leftmost key there =
      let it = laws.leftmost_begins tree_state.fan tree_state.prime tree_state.pages levels level leftmost invariant.lawful.tree there in
      record { cell = it.cell; stands = it.stands; same_number = it.same_number; floor_below = rw it.same_floor (omega arith) }
