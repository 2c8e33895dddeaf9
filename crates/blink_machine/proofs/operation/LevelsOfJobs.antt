-- A job is on a named level while its operation has a page of its level, which it is not about to leave.
use Rattle.std.proofs.Common.{◌≡◌, ◌≢◌, ℕ, ◌<◌, ◌∙◌, Some, length, refl, ap, subst, inl, inr, arith}
use Rattle.std.proofs.lemmas.Bool.{cases_lt}
use Rattle.blink_rest.specs.Chain.{Cell}
use Rattle.blink_rest.specs.{IsMember}
use Rattle.blink_machine.specs.declared.machine.Debt.{Debt}
use Rattle.blink_machine.specs.declared.machine.Next.{Next}
use Rattle.blink_machine.specs.declared.machine.State.{State}
use Rattle.blink_machine.specs.declared.machine.State.TheVariants.{Start, Going, Want, Held, Change, SplitNew, SplitOld, AskPrime, Root, NewPrime, Leave, Posting, Ended}
use Rattle.blink_machine.specs.Machine.{PlainMachine, level_of}
use Rattle.blink_machine.specs.TreeState.{TreeState}
use Rattle.blink_machine.specs.Owned.{latch_at}
use Rattle.blink_machine.specs.Placed.{PlacedAt, IsAtWork, HasSplit}
use Rattle.blink_machine.specs.Invariant.{InvariantWith}
use Rattle.blink_machine.specs.TreeWithDebts.{Levels}
use Rattle.blink_machine.proofs.tree_state.InvariantStatements.{JobsAreOnLevels}

-- a level with a page is named
level_is_named : (tree_state : TreeState) (levels : Levels) → InvariantWith tree_state levels → (level : ℕ) (c : Cell) → IsMember c (levels level) → level < length tree_state.prime
level_is_named tree_state levels invariant level c stands = elim (cases_lt level (length tree_state.prime)) [
  | inl named ↦ named
  | inr unnamed ↦ absurd (subst (IsMember c) (invariant.lawful.tree.chains.unnamed level unnamed) stands)
]

-- so is that of an operation at work on a page
level_at_work : (tree_state : TreeState) (levels : Levels) → InvariantWith tree_state levels → (m : PlainMachine) (page : ℕ) → IsAtWork levels m page → level_of m.job < length tree_state.prime
level_at_work tree_state levels invariant m page works =
    level_is_named tree_state levels invariant (level_of m.job) works.stands_at.begins.cell works.stands_at.begins.stands

-- and of one that has split a page
level_of_split : (tree_state : TreeState) (levels : Levels) → InvariantWith tree_state levels → (m : PlainMachine) (page : ℕ) (debt : Debt) → HasSplit tree_state levels m page debt
    → level_of m.job < length tree_state.prime
level_of_split tree_state levels invariant m page debt split =
    let named : debt.level < length tree_state.prime = level_is_named tree_state levels invariant debt.level split.cell split.stands in
    let same : debt.level ≡ level_of m.job = split.same_level in
    omega arith

-- so it is while an operation has a page of its job's level
pub jobs_are_on_levels : JobsAreOnLevels
jobs_are_on_levels tree_state worker m page invariant under_way latched stays =
    by_state tree_state invariant.0 invariant.1 m m.state page refl (invariant.1.placed worker m under_way).at_its_state latched stays
  where
    by_state : (tree_state : TreeState) (levels : Levels) → InvariantWith tree_state levels → (m : PlainMachine) (state : State) (page : ℕ) → m.state ≡ state → PlacedAt tree_state levels m state
        → latch_at state ≡ Some page → ((next : Next) → m.state ≢ Leave page next) → level_of m.job < length tree_state.prime
    by_state tree_state levels invariant m Start page is_state placed latched stays = absurd (cc)
    by_state tree_state levels invariant m (Going number level) page is_state placed latched stays = absurd (cc)
    by_state tree_state levels invariant m (Want number) page is_state placed latched stays = absurd (cc)
    by_state tree_state levels invariant m (Held number) page is_state placed latched stays = level_at_work tree_state levels invariant m number placed.0
    by_state tree_state levels invariant m (Change number changed kept) page is_state placed latched stays = level_at_work tree_state levels invariant m number placed.0
    by_state tree_state levels invariant m (SplitNew number before) page is_state placed latched stays = level_at_work tree_state levels invariant m number placed.0
    by_state tree_state levels invariant m (SplitOld number lower debt) page is_state placed latched stays = level_at_work tree_state levels invariant m number placed.0
    by_state tree_state levels invariant m (AskPrime number debt) page is_state placed latched stays = level_of_split tree_state levels invariant m number debt placed.1
    by_state tree_state levels invariant m (Root number debt prime) page is_state placed latched stays = level_of_split tree_state levels invariant m number debt placed.1
    by_state tree_state levels invariant m (NewPrime number debt root prime) page is_state placed latched stays = level_of_split tree_state levels invariant m number debt placed.1
    by_state tree_state levels invariant m (Leave number next) page is_state placed latched stays =
        let same : number ≡ page = cc in
        absurd (stays next (is_state ∙ ap (λ (n : ℕ). Leave n next) same))
    by_state tree_state levels invariant m Posting page is_state placed latched stays = absurd (cc)
    by_state tree_state levels invariant m Ended page is_state placed latched stays = absurd (cc)
