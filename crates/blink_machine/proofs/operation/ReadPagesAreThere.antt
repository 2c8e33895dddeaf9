-- What an operation reads is there, and the levels that jobs are on are named.
use Rattle.std.proofs.Common.{◌≡◌, ℕ, refl, sym, ap, subst, ◌∙◌}
use Rattle.blink_machine.specs.declared.machine.Need.TheVariants.{ReadPage}
use Rattle.blink_machine.specs.declared.machine.State.{State}
use Rattle.blink_machine.specs.declared.machine.State.TheVariants.{Going, Held}
use Rattle.blink_machine.specs.Machine.{PlainMachine, target, level_of, level_read, level_read_at, need_at}
use Rattle.blink_machine.specs.TreeState.{TreeState}
use Rattle.blink_machine.specs.Placed.{PlacedAt}
use Rattle.blink_machine.specs.Invariant.{InvariantWith}
use Rattle.blink_machine.specs.Tree.{BeginsBelow}
use Rattle.blink_machine.specs.TreeWithDebts.{Levels}
use Rattle.blink_machine.proofs.tree.TreeStatements.{TreeLaws}
use Rattle.blink_machine.proofs.tree_state.InvariantStatements.{IsThereToRead, ReadsAreGood, LevelsAreFew}
use Rattle.blink_machine.proofs.operation.OperationIsPlaced.{begun, its_own, at_state}

module _ (laws : TreeLaws) (tree_state : TreeState) (levels : Levels) (invariant : InvariantWith tree_state levels) (m : PlainMachine) where
  -- a page of a level that begins below the key is there to be read
  read_well : (number level : ℕ) → BeginsBelow (levels level) number (target m) → level_read m ≡ level → IsThereToRead tree_state m number
  read_well number level begins same =
      let it = laws.cells_are_of_level tree_state.fan tree_state.prime tree_state.pages levels level begins.cell invariant.lawful.tree begins.stands in
      record {
        page = begins.cell.page;
        there = rw (← begins.same_number) it.there;
        lawful = it.lawful;
        has_level = it.has_level ∙ sym same;
        floor_below = begins.floor_below;
      }

  -- the states that read a page stand at it
  read_at : (state : State) (number : ℕ) → m.state ≡ state → PlacedAt tree_state levels m state → need_at state ≡ ReadPage number → IsThereToRead tree_state m number
  read_at (Going page level) number is placed needs =
      let same : page ≡ number = cc in
      read_well number level (subst (λ n. BeginsBelow (levels level) n (target m)) same placed.1.begins) (ap (λ s. level_read_at s m.job) is)
  read_at (Held page) number is placed needs =
      let same : page ≡ number = cc in
      read_well number (level_of m.job) (subst (λ n. BeginsBelow (levels (level_of m.job)) n (target m)) same placed.0.stands_at.begins) (ap (λ s. level_read_at s m.job) is)
  read_at other number is placed needs = absurd (cc)

-- so each page that is read is there
pub reads_are_good : TreeLaws → ReadsAreGood
reads_are_good laws tree_state worker m number invariant its reads =
    let under = its_own tree_state invariant.0 invariant.1 worker m its (begun m (λ same_need. cc)) in
    read_at laws tree_state invariant.0 invariant.1 m m.state number refl (at_state tree_state invariant.0 invariant.1 worker m m.state under refl) reads

-- fewer than 21 levels are named
pub levels_are_few : TreeLaws → LevelsAreFew
levels_are_few laws tree_state invariant = laws.few_levels tree_state.fan tree_state.prime tree_state.pages invariant.0 invariant.1.lawful.tree invariant.1.numbers_in_range
