-- The page that an operation has read under its latch, and that page with the operation's change.
use Rattle.std.proofs.Common.{◌≡◌, ℕ, ◌+◌, ◌<◌, ◌≤◌, Option, Some, None, length, refl, sym, ap, subst, ◌∙◌, arith}
use Rattle.blink_page.specs.{value_at, IsPageNumber, PlainPage, IsLawfulPage, with_entries, lower_half, upper_half}
use Rattle.blink_page.specs.declared.limits.TheConstants.{GREATEST_KEY}
use Rattle.blink_page.proofs.Offered.{lawful_entries_with, lawful_lower, lawful_removed, lawful_replaced, lawful_upper, lawful_with_room, length-entries_with}
use Rattle.blink_rest.specs.Chain.{Cell, cell}
use Rattle.blink_rest.specs.{IsMember}
use Rattle.blink_rest.proofs.Offered.{same_cell}
use Rattle.blink_machine.specs.declared.machine.Job.{Job}
use Rattle.blink_machine.specs.declared.machine.Job.TheVariants.{Leaf, Parent}
use Rattle.blink_machine.specs.Machine.{PlainMachine, target, level_of, value_of_job}
use Rattle.blink_machine.specs.TreeState.{TreeState}
use Rattle.blink_machine.specs.Owned.{debt_of, debt_of_job}
use Rattle.blink_machine.specs.Placed.{IsAtWork, HasRead}
use Rattle.blink_machine.specs.Invariant.{InvariantWith}
use Rattle.blink_machine.specs.Table.{IsChange, IsFullFor, overfull}
use Rattle.blink_machine.specs.Tree.{BeginsBelow}
use Rattle.blink_machine.specs.TreeWithDebts.{Levels}
use Rattle.blink_machine.proofs.tree.TreeStatements.{TreeLaws, IsOfLevel, Replaces}
use Rattle.blink_machine.proofs.operation.PointersReplaced.{swaps-fits}
use Rattle.blink_machine.proofs.tree.PageGainsOrLoses.{pointer_fits}

-- what a job brings is in the range of its level
pub record ValueFits (level value : ℕ) : Type 0 where
  pub in_range : value ≤ GREATEST_KEY
  pub number_above : 0 < level → IsPageNumber value

module _ (laws : TreeLaws) (tree_state : TreeState) (levels : Levels) (invariant : InvariantWith tree_state levels) where
  -- a page of a level, by its number
  pub stands_here : (number level key : ℕ) (page : PlainPage) → BeginsBelow (levels level) number key → tree_state.pages number ≡ Some page → IsMember (cell number page) (levels level)
  stands_here number level key page begins there =
      let it = laws.cells_are_of_level tree_state.fan tree_state.prime tree_state.pages levels level begins.cell invariant.lawful.tree begins.stands in
      let same : begins.cell.page ≡ page = cc (it.there, there, ap tree_state.pages begins.same_number) in
      subst (λ (c : Cell). IsMember c (levels level)) (same_cell begins.cell (cell number page) begins.same_number same) begins.stands

  -- and what is so of it
  pub of_level : (level : ℕ) (c : Cell) → IsMember c (levels level) → IsOfLevel tree_state.fan tree_state.pages level c
  of_level level c stands = laws.cells_are_of_level tree_state.fan tree_state.prime tree_state.pages levels level c invariant.lawful.tree stands

  -- a page of a chain has a page's number
  pub has_number : (level : ℕ) (c : Cell) → IsMember c (levels level) → IsPageNumber c.number
  has_number level c stands = invariant.numbers_in_range c.number c.page (of_level level c stands).there

  module _ (worker : ℕ) (m : PlainMachine) (under : tree_state.machines worker ≡ Some m) (owes : debt_of m ≡ debt_of_job m.job) where
    -- the new page that a posting brings is in the chain below
    value_fits_at : (job : Job) → m.job ≡ job → ValueFits (level_of job) (value_of_job m.op job)
    value_fits_at Leaf is = record {
      in_range = pointer_fits m.op (invariant.placed worker m under).words;
      number_above = λ above. absurd (omega arith);
    }
    value_fits_at (Parent debt) is =
        let begins = (invariant.lawful.debts.is_debt worker m debt (under, owes ∙ ap debt_of_job is)).1 in
        let number : IsPageNumber debt.page = subst IsPageNumber begins.same_number (has_number debt.level begins.cell begins.stands) in
        let below = number.1 in
        record { in_range = omega arith; number_above = λ above. number }

    -- what its job brings is in range
    pub value_fits : ValueFits (level_of m.job) (value_of_job m.op m.job)
    value_fits = value_fits_at m.job refl

    module _ (number : ℕ) (page : PlainPage) (at_work : IsAtWork levels m number) (read : HasRead tree_state m number page) where
      -- the page that it has read stands in the chain of its job's level
      pub read_stands : IsMember (cell number page) (levels (level_of m.job))
      read_stands = stands_here number (level_of m.job) (target m) page at_work.stands_at.begins read.there

      -- so it is lawful and has that level
      pub read_of_level : IsOfLevel tree_state.fan tree_state.pages (level_of m.job) (cell number page)
      read_of_level = of_level (level_of m.job) (cell number page) read_stands

      -- with one entry more it is lawful but for its room
      pub overfull_lawful : value_at (target m) page.entries ≡ None → IsLawfulPage (tree_state.fan + 1) (with_entries page (overfull m page))
      overfull_lawful absent =
          lawful_entries_with tree_state.fan page read_of_level.lawful (target m) (value_of_job m.op m.job) read.belongs absent value_fits.in_range
          (λ above. let level = read_of_level.has_level in value_fits.number_above (omega arith))

      -- and has that many entries
      pub length-overfull : length (overfull m page) ≡ length page.entries + 1
      length-overfull = length-entries_with tree_state.fan page read_of_level.lawful (target m) (value_of_job m.op m.job) read.belongs

      -- a page with a change stands as it did
      pub change_replaces : (changed : PlainPage) (kept : Option ℕ) → IsChange m page changed kept → Replaces tree_state.fan page changed
      change_replaces changed kept (IsChange.gains brings absent room nothing same) =
          let fan : m.fan ≡ tree_state.fan = (invariant.placed worker m under).same_fan in
          let more = length-overfull in
          subst (Replaces tree_state.fan page) (sym same) (record {
            lawful = lawful_with_room (tree_state.fan + 1) tree_state.fan (with_entries page (overfull m page)) (overfull_lawful absent) (omega arith);
            same_level = refl;
            same_floor = refl;
            same_high = refl;
            same_right = refl;
          })
      change_replaces changed kept (IsChange.loses key pointer leaf op there some same) =
          subst (Replaces tree_state.fan page) (sym same) (record {
            lawful = lawful_removed tree_state.fan page read_of_level.lawful key (read_of_level.has_level ∙ ap level_of leaf);
            same_level = refl;
            same_floor = refl;
            same_high = refl;
            same_right = refl;
          })
      change_replaces changed kept (IsChange.swaps key new pointer leaf op there some same) =
          subst (Replaces tree_state.fan page) (sym same) (record {
            lawful = lawful_replaced tree_state.fan page read_of_level.lawful key new (read_of_level.has_level ∙ ap level_of leaf) (let below = swaps-fits m.op key new pointer op (invariant.placed worker m under).words in omega arith);
            same_level = refl;
            same_floor = refl;
            same_high = refl;
            same_right = refl;
          })

      module _ (full : IsFullFor m page) where
        -- a full page with one entry more has one too many
        overfull_by_one : length (overfull m page) ≡ tree_state.fan + 1
        overfull_by_one = let fan : m.fan ≡ tree_state.fan = (invariant.placed worker m under).same_fan in let is_full = full.full in let more = length-overfull in omega arith

        -- the lower half of a full page that is split is lawful
        pub lower_half_lawful : (new : ℕ) → IsPageNumber new → IsLawfulPage tree_state.fan (lower_half m.fan new page (overfull m page))
        lower_half_lawful new is_number =
            subst (λ fan. IsLawfulPage tree_state.fan (lower_half fan new page (overfull m page))) (sym (invariant.placed worker m under).same_fan)
            (lawful_lower tree_state.fan new invariant.fan_in_range page (overfull m page) overfull_by_one (overfull_lawful full.absent) is_number)

        -- the upper too
        pub upper_half_lawful : IsLawfulPage tree_state.fan (upper_half m.fan page (overfull m page))
        upper_half_lawful =
            subst (λ fan. IsLawfulPage tree_state.fan (upper_half fan page (overfull m page))) (sym (invariant.placed worker m under).same_fan)
            (lawful_upper tree_state.fan 0 invariant.fan_in_range page (overfull m page) overfull_by_one (overfull_lawful full.absent))
