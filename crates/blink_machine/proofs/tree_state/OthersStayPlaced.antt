-- What others' steps leave of what is so of an operation.
use Rattle.std.proofs.Common.{◌≡◌, ℕ, ◌+◌, Option, Some, List, refl, sym, ◌∙◌}
use Rattle.blink_page.specs.{PlainPage}
use Rattle.blink_rest.specs.Chain.{Cell}
use Rattle.blink_rest.specs.{IsMember}
use Rattle.blink_machine.specs.declared.machine.Debt.{Debt}
use Rattle.blink_machine.specs.declared.machine.Next.{Next}
use Rattle.blink_machine.specs.declared.machine.Next.TheVariants.{Finish, MoveRight, Post}
use Rattle.blink_machine.specs.declared.machine.State.{State}
use Rattle.blink_machine.specs.declared.machine.State.TheVariants.{Start, Going, Want, Held, Change, SplitNew, SplitOld, AskPrime, Root, NewPrime, Leave, Posting, Ended}
use Rattle.blink_machine.specs.Machine.{PlainMachine}
use Rattle.blink_machine.specs.TreeState.{TreeState}
use Rattle.blink_machine.specs.Owned.{latch_at, unlinked_at, latch_of, unlinked_of}
use Rattle.blink_machine.specs.Placed.{HasRead, HasSplit, HasAsked, PlacedForNext, PlacedAt, IsPlaced}
use Rattle.blink_machine.specs.TreeWithDebts.{Levels}
use Rattle.blink_machine.proofs.tree.TreeStatements.{Grows}
use Rattle.blink_machine.proofs.tree_state.KnownPagesStay.{AreRemembered-grows, StandsAt-grows, IsAtWork-grows}

-- what a step leaves of the page whose latch another operation holds, of its unlinked page, and of what it has read of the prime block
pub record LeavesAlone (old new : TreeState) (levels grown : Levels) (latch unlinked : Option ℕ) : Type 0 where
  pub latched_there : (number : ℕ) (page : PlainPage) → latch ≡ Some number → old.pages number ≡ Some page → new.pages number ≡ Some page
  pub latched_stands : (number level : ℕ) (c : Cell) → latch ≡ Some number → IsMember c (levels level) → c.number ≡ number → IsMember c (grown level)
  pub unlinked_there : (number : ℕ) (page : PlainPage) → unlinked ≡ Some number → old.pages number ≡ Some page → new.pages number ≡ Some page
  pub has_asked : (number : ℕ) (debt : Debt) (prime : List ℕ) → latch ≡ Some number → HasAsked old number debt prime → HasAsked new number debt prime

module _ (old new : TreeState) (levels grown : Levels) (grows : Grows levels grown) (m : PlainMachine) where
  -- the page that it has read
  HasRead-stays : (number : ℕ) (page : PlainPage) → (old.pages number ≡ Some page → new.pages number ≡ Some page) → HasRead old m number page → HasRead new m number page
  HasRead-stays number page there read = record { there = there read.there; belongs = read.belongs }

  -- the page that it has split
  HasSplit-stays : (number : ℕ) (debt : Debt) → ((level : ℕ) (c : Cell) → IsMember c (levels level) → c.number ≡ number → IsMember c (grown level))
      → HasSplit old levels m number debt → HasSplit new grown m number debt
  HasSplit-stays number debt stays split = record {
    cell = split.cell;
    stands = stays debt.level split.cell split.stands split.same_number;
    same_number = split.same_number;
    ends_at = split.ends_at;
    links_to = split.links_to;
    new_number = split.new_number;
    brings = split.brings;
    same_level = split.same_level;
    remembers = AreRemembered-grows levels grown grows (debt.level + 1) debt.separator m.remembered split.remembers;
  }

  -- where it goes next
  next_stays : (next : Next) → PlacedForNext levels m next → PlacedForNext grown m next
  next_stays Finish placed = placed
  next_stays (MoveRight page) placed = (IsAtWork-grows levels grown grows m page placed.0, placed.1)
  next_stays (Post debt) placed = (AreRemembered-grows levels grown grows (debt.level + 1) debt.separator m.remembered placed.0, placed.1)

  -- a state each
  state_stays : (s : State) → LeavesAlone old new levels grown (latch_at s) (unlinked_at s) → PlacedAt old levels m s → PlacedAt new grown m s
  state_stays Start alone placed = placed
  state_stays (Going page level) alone placed = (placed.0, StandsAt-grows levels grown grows m level page placed.1, placed.2)
  state_stays (Want page) alone placed = (IsAtWork-grows levels grown grows m page placed.0, placed.1)
  state_stays (Held page) alone placed = (IsAtWork-grows levels grown grows m page placed.0, placed.1)
  state_stays (Change number changed kept) alone placed = (
    IsAtWork-grows levels grown grows m number placed.0,
    placed.1,
    placed.2,
    HasRead-stays number placed.2 (alone.latched_there number placed.2 refl) placed.3,
    placed.4,
  )
  state_stays (SplitNew number page) alone placed = (
    IsAtWork-grows levels grown grows m number placed.0,
    placed.1,
    HasRead-stays number page (alone.latched_there number page refl) placed.2,
    placed.3,
  )
  state_stays (SplitOld number lower debt) alone placed = (
    IsAtWork-grows levels grown grows m number placed.0,
    placed.1,
    let halved = placed.2 in
        record {
          page = halved.page;
          read = HasRead-stays number halved.page (alone.latched_there number halved.page refl) halved.read;
          full = halved.full;
          new_number = halved.new_number;
          same_debt = halved.same_debt;
          lower_half_of = halved.lower_half_of;
          upper_there = alone.unlinked_there debt.page _ refl halved.upper_there;
        },
  )
  state_stays (AskPrime number debt) alone placed = (
    placed.0,
    HasSplit-stays number debt (λ level c. alone.latched_stands number level c refl) placed.1,
  )
  state_stays (Root number debt prime) alone placed = (
    placed.0,
    HasSplit-stays number debt (λ level c. alone.latched_stands number level c refl) placed.1,
    alone.has_asked number debt prime refl placed.2,
  )
  state_stays (NewPrime number debt root prime) alone placed = (
    placed.0,
    HasSplit-stays number debt (λ level c. alone.latched_stands number level c refl) placed.1,
    alone.has_asked number debt prime refl placed.2,
    record { root_number = placed.3.root_number; root_there = alone.unlinked_there root _ refl placed.3.root_there },
  )
  state_stays (Leave page next) alone placed = next_stays next placed
  state_stays Posting alone placed = placed
  state_stays Ended alone placed = placed

  -- what is so of an operation stays so where a step leaves alone what the operation has for itself
  pub IsPlaced-stays : new.fan ≡ old.fan → LeavesAlone old new levels grown (latch_of m) (unlinked_of m) → IsPlaced old levels m → IsPlaced new grown m
  IsPlaced-stays same_fan alone placed = record {
    same_fan = placed.same_fan ∙ sym same_fan;
    words = placed.words;
    at_its_state = state_stays m.state alone placed.at_its_state;
  }
