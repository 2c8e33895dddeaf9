-- What is so of an operation at a state is so of it wherever it was before.
use Rattle.std.proofs.Common.{◌≡◌, ℕ, Option, refl, subst}
use Rattle.blink_operation.specs.{FitsWords}
use Rattle.blink_page.specs.{PlainPage}
use Rattle.blink_machine.specs.declared.machine.Debt.{Debt}
use Rattle.blink_machine.specs.declared.machine.Next.{Next}
use Rattle.blink_machine.specs.declared.machine.Next.TheVariants.{Finish, MoveRight, Post}
use Rattle.blink_machine.specs.declared.machine.State.{State}
use Rattle.blink_machine.specs.declared.machine.State.TheVariants.{Start, Going, Want, Held, Change, SplitNew, SplitOld, AskPrime, Root, NewPrime, Leave, Posting, Ended}
use Rattle.blink_machine.specs.Machine.{PlainMachine, at_state}
use Rattle.blink_machine.specs.TreeState.{TreeState, IsItsOperation, under_way, taken_on}
use Rattle.blink_machine.specs.Placed.{StandsAt, IsAtWork, HasRead, HasHalved, HasSplit, PlacedForNext, PlacedAt, IsPlaced}
use Rattle.blink_machine.specs.Invariant.{InvariantWith}
use Rattle.blink_machine.specs.Table.{IsChange, IsFullFor, gains, loses, swaps}
use Rattle.blink_machine.specs.TreeWithDebts.{Levels}

module _ (tree_state : TreeState) (levels : Levels) (m : PlainMachine) (s : State) where
  -- where it stands
  pub StandsAt-moved : (level page : ℕ) → StandsAt levels m level page → StandsAt levels (at_state m s) level page
  StandsAt-moved level page stands_at = record { begins = stands_at.begins; remembers = stands_at.remembers }

  -- where it works
  pub IsAtWork-moved : (page : ℕ) → IsAtWork levels m page → IsAtWork levels (at_state m s) page
  IsAtWork-moved page at_work = record { may_change = at_work.may_change; stands_at = record { begins = at_work.stands_at.begins; remembers = at_work.stands_at.remembers } }

  -- the page that it has read
  HasRead-moved : (number : ℕ) (page : PlainPage) → HasRead tree_state m number page → HasRead tree_state (at_state m s) number page
  HasRead-moved number page read = record { there = read.there; belongs = read.belongs }

  -- that the page is full for it
  IsFullFor-moved : (page : PlainPage) → IsFullFor m page → IsFullFor (at_state m s) page
  IsFullFor-moved page full = record { brings = full.brings; absent = full.absent; full = full.full }

  -- the change that it makes
  IsChange-moved : (page changed : PlainPage) (kept : Option ℕ) → IsChange m page changed kept → IsChange (at_state m s) page changed kept
  IsChange-moved page changed kept (gains brings absent room none is_changed) = gains brings absent room none is_changed
  IsChange-moved page changed kept (loses key pointer leaf op there some is_changed) = loses key pointer leaf op there some is_changed
  IsChange-moved page changed kept (swaps key new pointer leaf op there some is_changed) = swaps key new pointer leaf op there some is_changed

  -- the page of which it has written the upper half
  HasHalved-moved : (number : ℕ) (lower : PlainPage) (debt : Debt) → HasHalved tree_state m number lower debt → HasHalved tree_state (at_state m s) number lower debt
  HasHalved-moved number lower debt halved = record {
    page = halved.page;
    read = HasRead-moved number halved.page halved.read;
    full = IsFullFor-moved halved.page halved.full;
    new_number = halved.new_number;
    same_debt = halved.same_debt;
    lower_half_of = halved.lower_half_of;
    upper_there = halved.upper_there;
  }

  -- the page that it has split
  HasSplit-moved : (number : ℕ) (debt : Debt) → HasSplit tree_state levels m number debt → HasSplit tree_state levels (at_state m s) number debt
  HasSplit-moved number debt split = record {
    cell = split.cell;
    stands = split.stands;
    same_number = split.same_number;
    ends_at = split.ends_at;
    links_to = split.links_to;
    new_number = split.new_number;
    brings = split.brings;
    same_level = split.same_level;
    remembers = split.remembers;
  }

  -- where it goes next
  next_moved : (next : Next) → PlacedForNext levels m next → PlacedForNext levels (at_state m s) next
  next_moved Finish placed = placed
  next_moved (MoveRight page) placed = (IsAtWork-moved page placed.0, placed.1)
  next_moved (Post debt) placed = placed

  -- a state each
  state_moved : (at : State) → PlacedAt tree_state levels m at → PlacedAt tree_state levels (at_state m s) at
  state_moved Start placed = placed
  state_moved (Going page level) placed = (placed.0, StandsAt-moved level page placed.1, placed.2)
  state_moved (Want page) placed = (IsAtWork-moved page placed.0, placed.1)
  state_moved (Held page) placed = (IsAtWork-moved page placed.0, placed.1)
  state_moved (Change number changed kept) placed =
      (IsAtWork-moved number placed.0, placed.1, placed.2, HasRead-moved number placed.2 placed.3, IsChange-moved placed.2 changed kept placed.4)
  state_moved (SplitNew number page) placed = (IsAtWork-moved number placed.0, placed.1, HasRead-moved number page placed.2, IsFullFor-moved page placed.3)
  state_moved (SplitOld number lower debt) placed = (IsAtWork-moved number placed.0, placed.1, HasHalved-moved number lower debt placed.2)
  state_moved (AskPrime number debt) placed = (placed.0, HasSplit-moved number debt placed.1)
  state_moved (Root number debt prime) placed = (placed.0, HasSplit-moved number debt placed.1, placed.2)
  state_moved (NewPrime number debt root prime) placed = (placed.0, HasSplit-moved number debt placed.1, placed.2, placed.3)
  state_moved (Leave page next) placed = next_moved next placed
  state_moved Posting placed = placed
  state_moved Ended placed = placed

  -- so an operation goes to a state where what that state says is so
  pub goes_to : IsPlaced tree_state levels m → PlacedAt tree_state levels m s → IsPlaced tree_state levels (at_state m s)
  goes_to placed there = record { same_fan = placed.same_fan; words = placed.words; at_its_state = state_moved s there }

-- what its state says
pub placed_at : (tree_state : TreeState) (levels : Levels) (m : PlainMachine) (s : State) → IsPlaced tree_state levels m → m.state ≡ s → PlacedAt tree_state levels m s
placed_at tree_state levels m s placed same = subst (PlacedAt tree_state levels m) same placed.at_its_state

-- an operation is in place before each step, also where it is taken on
pub its_place : (old : TreeState) (levels : Levels) (worker : ℕ) (m : PlainMachine) → InvariantWith old levels → FitsWords m.op → IsItsOperation old worker m → IsPlaced old levels m
its_place old levels worker m invariant words (under_way here) = invariant.placed worker m here
its_place old levels worker m invariant words (taken_on op idle is_fresh) =
    rw is_fresh (record { same_fan = refl; words = subst (λ (n : PlainMachine). FitsWords n.op) is_fresh words; at_its_state = (refl, refl) })
