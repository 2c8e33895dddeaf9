-- Every step leaves its operation on its track.
use Rattle.std.proofs.Common.{◌≡◌, ℕ, ◌+◌, ◌<◌, ◌≤◌, Option, Some, None, List, [], ◌∷◌, length, refl, ap, sym, ◌∙◌, arith}
use Rattle.blink_batch.specs.{FitsWords}
use Rattle.blink_machine.specs.declared.machine.Debt.{Debt}
use Rattle.blink_machine.specs.declared.machine.Job.TheVariants.{Parent}
use Rattle.blink_machine.specs.declared.machine.Next.{Next}
use Rattle.blink_machine.specs.declared.machine.Next.TheVariants.{Finish, MoveRight, Post}
use Rattle.blink_machine.specs.declared.machine.State.{State}
use Rattle.blink_machine.specs.declared.machine.State.TheVariants.{Start, Going, Want, Held, Change, SplitNew, SplitOld, AskPrime, Root, NewPrime, Leave, Posting, Ended}
use Rattle.blink_machine.specs.declared.step.Kind.{Kind}
use Rattle.blink_machine.specs.declared.step.Step.TheVariants.{Moved}
use Rattle.blink_steps.specs.Acts.{PlainShared, ActsOn, Acts}
use Rattle.blink_machine.specs.{PlainMachine, need_at, IsItsOperation, debt_at, IsPlaced, AreRemembered, InvariantWith, decided_with, sets_out, done_at, Levels}
use Rattle.blink_machine.specs.TreeState.{TreeState}
use Rattle.blink_steps.specs.Run.{tree_state_with}
use Rattle.blink_steps.proofs.bounds.MetPages.{IsNotAbove, pages_wider}
use Rattle.blink_machine.proofs.Offered.{stands_on, placed_at, its_place, its_own, decided_parts, TreeLaws}
use Rattle.blink_steps.proofs.bounds.NextPageComesAfter.{latched_up_to, comes_after_lower}
use Rattle.blink_steps.proofs.bounds.OperationTracks.{IsUnder, IsOnTrack, on_track}
use Rattle.blink_steps.proofs.bounds.ReadsKeepTrack.{GoesOnTrack, track_at, sees_prime_tracks, sees_page_tracks}

module _ (laws : TreeLaws) (tree_state : TreeState) (levels : Levels) (invariant : InvariantWith tree_state levels) (worker : ℕ) (m : PlainMachine) (its : IsItsOperation tree_state worker m)
    (words : FitsWords m.op) (reads latched : List ℕ) (moves : ℕ) (track : IsOnTrack tree_state.pages m reads latched moves) where
  -- it is in place
  placed : IsPlaced tree_state levels m
  placed = its_place tree_state levels worker m invariant words its

  -- a posting goes to a level that is there or is to come
  posts_within : (page : ℕ) (debt : Debt) → m.state ≡ Leave page (Post debt) → debt.level + 1 ≤ 20
  posts_within page debt is_state =
      let under : tree_state.machines worker ≡ Some m = its_own tree_state levels invariant worker m its (λ start. let both : Start ≡ Leave page (Post debt) = sym start ∙ is_state in cc) in
      let owed = invariant.lawful.debts.is_debt worker m debt (under, ap (debt_at m.job) is_state) in
      let named : debt.level < length tree_state.prime =
      laws.levels_are_named tree_state.fan tree_state.prime tree_state.pages levels debt.level owed.0.is_high_key.cell invariant.lawful.tree owed.0.is_high_key.stands in
      let few : length tree_state.prime ≤ 20 = laws.few_levels tree_state.fan tree_state.prime tree_state.pages levels invariant.lawful.tree invariant.numbers_in_range in
      omega arith

  -- an operation that sets out to post
  sets_out_tracks : (after : PlainMachine) (page : ℕ) (debt : Debt) (remembered : List ℕ) → m.state ≡ Leave page (Post debt)
      → AreRemembered levels (debt.level + 1) debt.separator remembered → after ≡ sets_out m debt remembered
      → GoesOnTrack tree_state.pages (Leave page (Post debt)) after reads latched moves
  sets_out_tracks after page debt [] is_state are_remembered is_after =
      let here = track_at tree_state.pages m (Leave page (Post debt)) reads latched moves is_state track in
      let few = here.few in
      let own_level = here.are.0 in
      on_track tree_state.pages after (Parent debt) Posting reads latched (1 + moves) (ap (λ (m : PlainMachine). m.job) is_after) (ap (λ (m : PlainMachine). m.state) is_after) tt
      (pages_wider tree_state.pages (IsNotAbove debt.level) (IsUnder (debt.level + 1)) latched (λ level least under. omega arith) here.are.1)
      (omega arith) (posts_within page debt is_state)
  sets_out_tracks after page debt (next ∷ above) is_state are_remembered is_after =
      let here = track_at tree_state.pages m (Leave page (Post debt)) reads latched moves is_state track in
      let few = here.few in
      let own_level = here.are.0 in
      let begins = are_remembered.0 in
      let it = stands_on laws tree_state levels invariant (debt.level + 1) next begins.cell begins.stands begins.same_number in
      on_track tree_state.pages after (Parent debt) (Want next) reads latched (1 + moves) (ap (λ (m : PlainMachine). m.job) is_after) (ap (λ (m : PlainMachine). m.state) is_after) tt
      (comes_after_lower tree_state.pages next (debt.level + 1) debt.level latched it (omega arith) here.are.1)
      (omega arith) (posts_within page debt is_state)

  -- an operation that leaves a page, wherever it goes
  leaves_tracks : (after : PlainMachine) (page : ℕ) (next : Next) → m.state ≡ Leave page next → after ≡ done_at m (Leave page next) 0
      → GoesOnTrack tree_state.pages (Leave page next) after reads latched moves
  leaves_tracks after page Finish is_state is_after =
      let here = track_at tree_state.pages m (Leave page Finish) reads latched moves is_state track in
      let few = here.few in
      on_track tree_state.pages after m.job Ended reads latched (1 + moves) (ap (λ (m : PlainMachine). m.job) is_after) (ap (λ (m : PlainMachine). m.state) is_after) tt tt
      (omega arith) here.levels
  leaves_tracks after page (MoveRight next) is_state is_after =
      let here = track_at tree_state.pages m (Leave page (MoveRight next)) reads latched moves is_state track in
      let few = here.few in
      on_track tree_state.pages after m.job (Want next) reads latched (1 + moves) (ap (λ (m : PlainMachine). m.job) is_after) (ap (λ (m : PlainMachine). m.state) is_after) tt here.are
      (omega arith) here.levels
  leaves_tracks after page (Post debt) is_state is_after =
      sets_out_tracks after page debt m.remembered is_state (placed_at tree_state levels m (Leave page (Post debt)) placed is_state).0 is_after

module _ (laws : TreeLaws) (old new : PlainShared) (machines : ℕ → Option PlainMachine) (levels : Levels) (invariant : InvariantWith (tree_state_with old machines) levels) (worker : ℕ)
    (m after : PlainMachine) (kind : Kind) (its : IsItsOperation (tree_state_with old machines) worker m) (words : FitsWords m.op)
    (reads latched : List ℕ) (moves : ℕ) (track : IsOnTrack (tree_state_with old machines).pages m reads latched moves) where
  -- the tree state before the step
  abbrev before : TreeState
  before = tree_state_with old machines

  -- a step from each state
  steps_from : (state : State) → m.state ≡ state → ActsOn (need_at state) old worker m (Moved kind) after new → GoesOnTrack before.pages m.state after reads latched moves
  steps_from Start is_state acts =
      sees_prime_tracks laws before levels invariant m (placed laws before levels invariant worker m its words reads latched moves track) reads latched moves track after acts.1
  steps_from (Going number level) is_state acts =
      sees_page_tracks laws before levels invariant m (placed laws before levels invariant worker m its words reads latched moves track) reads latched moves track number acts.1.0 acts.1.1 after acts.1.2
  steps_from (Want number) is_state acts =
      let here = track_at before.pages m (Want number) reads latched moves is_state track in
      let few = here.few in
      let is_after : after ≡ done_at m (Want number) 0 = acts.2 ∙ ap (λ (state : State). done_at m state 0) is_state in
      let goes : GoesOnTrack before.pages (Want number) after reads latched moves =
      on_track before.pages after m.job (Held number) reads (number ∷ latched) (1 + moves) (ap (λ (m : PlainMachine). m.job) is_after) (ap (λ (m : PlainMachine). m.state) is_after) tt
      (latched_up_to before.pages number latched here.are) (omega arith) here.levels in
      rw is_state goes
  steps_from (Held number) is_state acts =
      sees_page_tracks laws before levels invariant m (placed laws before levels invariant worker m its words reads latched moves track) reads latched moves track number acts.1.0 acts.1.1 after acts.1.2
  steps_from (Change number changed kept) is_state acts =
      let here = track_at before.pages m (Change number changed kept) reads latched moves is_state track in
      let few = here.few in
      let is_after : after ≡ decided_with m m.job (Leave number Finish) kept = acts.1 ∙ ap (λ (state : State). done_at m state 0) is_state in
      let parts = decided_parts m m.job (Leave number Finish) kept in
      let goes : GoesOnTrack before.pages (Change number changed kept) after reads latched moves =
      on_track before.pages after m.job (Leave number Finish) reads latched (1 + moves) (ap (λ (m : PlainMachine). m.job) is_after ∙ parts.1)
      (ap (λ (m : PlainMachine). m.state) is_after ∙ parts.0) tt tt (omega arith) here.levels in
      rw is_state goes
  steps_from (SplitNew number page) is_state acts =
      let here = track_at before.pages m (SplitNew number page) reads latched moves is_state track in
      let few = here.few in
      let is_after : after ≡ done_at m (SplitNew number page) (length old.store.pages + 1) = acts.2 ∙ ap (λ (state : State). done_at m state (length old.store.pages + 1)) is_state in
      let goes : GoesOnTrack before.pages (SplitNew number page) after reads latched moves =
      on_track before.pages after m.job _ reads latched (1 + moves) (ap (λ (m : PlainMachine). m.job) is_after) (ap (λ (m : PlainMachine). m.state) is_after) tt
      here.are (omega arith) here.levels in
      rw is_state goes
  steps_from (SplitOld number lower debt) is_state acts =
      let here = track_at before.pages m (SplitOld number lower debt) reads latched moves is_state track in
      let few = here.few in
      let is_after : after ≡ decided_with m m.job (AskPrime number debt) None = acts.1 ∙ ap (λ (state : State). done_at m state 0) is_state in
      let parts = decided_parts m m.job (AskPrime number debt) None in
      let goes : GoesOnTrack before.pages (SplitOld number lower debt) after reads latched moves =
      on_track before.pages after m.job (AskPrime number debt) reads latched (1 + moves) (ap (λ (m : PlainMachine). m.job) is_after ∙ parts.1)
      (ap (λ (m : PlainMachine). m.state) is_after ∙ parts.0) tt here.are (omega arith) here.levels in
      rw is_state goes
  steps_from (AskPrime number debt) is_state acts =
      sees_prime_tracks laws before levels invariant m (placed laws before levels invariant worker m its words reads latched moves track) reads latched moves track after acts.1
  steps_from (Root number debt prime) is_state acts =
      let here = track_at before.pages m (Root number debt prime) reads latched moves is_state track in
      let few = here.few in
      let is_after : after ≡ done_at m (Root number debt prime) (length old.store.pages + 1) = acts.2 ∙ ap (λ (state : State). done_at m state (length old.store.pages + 1)) is_state in
      let goes : GoesOnTrack before.pages (Root number debt prime) after reads latched moves =
      on_track before.pages after m.job (NewPrime number debt (length old.store.pages + 1) prime) reads latched (1 + moves) (ap (λ (m : PlainMachine). m.job) is_after)
      (ap (λ (m : PlainMachine). m.state) is_after) tt here.are (omega arith) here.levels in
      rw is_state goes
  steps_from (NewPrime number debt root prime) is_state acts =
      let here = track_at before.pages m (NewPrime number debt root prime) reads latched moves is_state track in
      let few = here.few in
      let is_after : after ≡ done_at m (NewPrime number debt root prime) 0 = acts.1 ∙ ap (λ (state : State). done_at m state 0) is_state in
      let goes : GoesOnTrack before.pages (NewPrime number debt root prime) after reads latched moves =
      on_track before.pages after m.job (Leave number Finish) reads latched (1 + moves) (ap (λ (m : PlainMachine). m.job) is_after) (ap (λ (m : PlainMachine). m.state) is_after) tt tt
      (omega arith) here.levels in
      rw is_state goes
  steps_from (Leave number next) is_state acts =
      let is_after : after ≡ done_at m (Leave number next) 0 = acts.1 ∙ ap (λ (state : State). done_at m state 0) is_state in
      rw is_state (leaves_tracks laws before levels invariant worker m its words reads latched moves track after number next is_state is_after)
  steps_from Posting is_state acts =
      sees_prime_tracks laws before levels invariant m (placed laws before levels invariant worker m its words reads latched moves track) reads latched moves track after acts.1
  steps_from Ended is_state acts = absurd acts

  -- so does every step
  pub step_tracks : Acts old worker m (Moved kind) after new → GoesOnTrack before.pages m.state after reads latched moves
  step_tracks acts = steps_from m.state refl acts
