-- A read leaves an operation on its track.
use Rattle.std.proofs.Common.{◌≡◌, ℕ, ◌+◌, ◌-◌, ◌*◌, ◌≤◌, Some, List, [], ◌∷◌, length, ap, sym, subst, arith}
use Rattle.std.specs.List.{cons_option}
use Rattle.blink_page.specs.{PlainPage}
use Rattle.blink_rest.specs.{Pages}
use Rattle.blink_machine.specs.declared.machine.Job.{Job}
use Rattle.blink_machine.specs.declared.machine.Next.TheVariants.{Finish, MoveRight, Post}
use Rattle.blink_machine.specs.declared.machine.State.{State}
use Rattle.blink_machine.specs.declared.machine.State.TheVariants.{Start, Going, Want, Held, Change, SplitNew, AskPrime, Root, Leave, Posting, Ended}
use Rattle.blink_steps.specs.StepBounds.{page_on_way, page_to_latch}
use Rattle.blink_machine.specs.{PlainMachine, level_of, IsPlaced, InvariantWith, SeesPrime, SeesPage, SeesOnItsWay, SeesUnderLatch, Levels}
use Rattle.blink_machine.specs.TreeState.{TreeState}
use Rattle.blink_steps.proofs.bounds.MetPages.{ArePagesWith, IsNotAbove, pages_wider}
use Rattle.blink_machine.proofs.Offered.{placed_at, TreeLaws, last_at, level_here, right_is_further}
use Rattle.blink_steps.proofs.bounds.NextPageComesAfter.{leftmost_on, child_is_lower, passed_right, passed_down, below_right, not_above, comes_after_lower}
use Rattle.blink_steps.proofs.bounds.OperationTracks.{OnWayAt, LatchedAt, IsUnder, open_at, others_at, IsOnTrack, on_track}

-- after a step from this state an operation is on its track, with the page that it has read or latched by it
abbrev pub GoesOnTrack : Pages → State → PlainMachine → List ℕ → List ℕ → ℕ → Type 0
GoesOnTrack pages state after reads latched moves =
    IsOnTrack pages after (cons_option (page_on_way state) reads) (cons_option (page_to_latch state) latched) (1 + moves)

-- what its track says at its state
pub record TrackAt (pages : Pages) (job : Job) (state : State) (reads latched : List ℕ) (moves : ℕ) : Type 0 where
  pub way : OnWayAt pages state reads
  pub are : LatchedAt pages job state latched
  pub few : moves + open_at state ≤ length reads + 3 * length latched + others_at job state
  pub levels : level_of job ≤ 20

pub track_at : (pages : Pages) (m : PlainMachine) (state : State) (reads latched : List ℕ) (moves : ℕ) → m.state ≡ state → IsOnTrack pages m reads latched moves
    → TrackAt pages m.job state reads latched moves
track_at pages m state reads latched moves is_state track = subst (λ (state : State). TrackAt pages m.job state reads latched moves) is_state (record {
  way = track.on_way;
  are = track.under_latches;
  few = track.few_moves;
  levels = track.few_levels;
})

module _ (laws : TreeLaws) (tree_state : TreeState) (levels : Levels) (invariant : InvariantWith tree_state levels) (m : PlainMachine) (placed : IsPlaced tree_state levels m)
    (reads latched : List ℕ) (moves : ℕ) (track : IsOnTrack tree_state.pages m reads latched moves) where
  -- what holds from the state that it is in holds of the step
  pub from_state : (state : State) (after : PlainMachine) → m.state ≡ state → GoesOnTrack tree_state.pages state after reads latched moves
      → GoesOnTrack tree_state.pages m.state after reads latched moves
  from_state state after is_state goes = subst (λ (state : State). GoesOnTrack tree_state.pages state after reads latched moves) (sym is_state) goes

  -- a read of the prime block
  pub sees_prime_tracks : (after : PlainMachine) → SeesPrime m tree_state.prime after → GoesOnTrack tree_state.pages m.state after reads latched moves
  sees_prime_tracks after (SeesPrime.begins top is_state is_top is_after) =
      let here = track_at tree_state.pages m Start reads latched moves is_state track in
      let no_reads : reads ≡ [] = here.way in
      let no_latches : latched ≡ [] = here.are in
      let few = here.few in
      let it = leftmost_on laws tree_state levels invariant (length tree_state.prime - 1) top (last_at tree_state.prime top is_top) in
      from_state Start after is_state (on_track tree_state.pages after m.job (Going top (length tree_state.prime - 1)) reads latched (1 + moves)
      (ap (λ (m : PlainMachine). m.job) is_after) (ap (λ (m : PlainMachine). m.state) is_after)
      (rw no_reads (record { page = it.page; there = it.there; all_before = tt })) no_latches (omega arith) here.levels)
  sees_prime_tracks after (SeesPrime.asks_of_root page debt is_state is_top is_after) =
      let here = track_at tree_state.pages m (AskPrime page debt) reads latched moves is_state track in
      let few = here.few in
      from_state (AskPrime page debt) after is_state (on_track tree_state.pages after m.job (Root page debt tree_state.prime) reads latched (1 + moves)
      (ap (λ (m : PlainMachine). m.job) is_after) (ap (λ (m : PlainMachine). m.state) is_after) tt here.are (omega arith) here.levels)
  sees_prime_tracks after (SeesPrime.asks_of_other page debt is_state is_other is_after) =
      let here = track_at tree_state.pages m (AskPrime page debt) reads latched moves is_state track in
      let few = here.few in
      let own_level : debt.level ≡ level_of m.job = (placed_at tree_state levels m (AskPrime page debt) placed is_state).1.same_level in
      from_state (AskPrime page debt) after is_state (on_track tree_state.pages after m.job (Leave page (Post debt)) reads latched (1 + moves)
      (ap (λ (m : PlainMachine). m.job) is_after) (ap (λ (m : PlainMachine). m.state) is_after) tt (own_level, rw own_level here.are) (omega arith) here.levels)
  sees_prime_tracks after (SeesPrime.finds_leftmost debt leftmost is_state is_job is_leftmost is_after) =
      let here = track_at tree_state.pages m Posting reads latched moves is_state track in
      let few = here.few in
      let job_level : level_of m.job ≡ debt.level + 1 = ap level_of is_job in
      let it = leftmost_on laws tree_state levels invariant (debt.level + 1) leftmost is_leftmost in
      let lower = pages_wider tree_state.pages (IsUnder (level_of m.job)) (IsNotAbove debt.level) latched (λ level least under. omega arith) here.are in
      from_state Posting after is_state (on_track tree_state.pages after m.job (Want leftmost) reads latched (1 + moves)
      (ap (λ (m : PlainMachine). m.job) is_after) (ap (λ (m : PlainMachine). m.state) is_after) tt
      (comes_after_lower tree_state.pages leftmost (debt.level + 1) debt.level latched it (omega arith) lower) (omega arith) here.levels)

  module _ (number : ℕ) (page : PlainPage) (there : tree_state.pages number ≡ Some page) where
    -- an operation that wants its leaf has latched none before
    wants_tracks : (level : ℕ) (after : PlainMachine) → m.state ≡ Going number level → after ≡ record m { state = Want number }
        → GoesOnTrack tree_state.pages m.state after reads latched moves
    wants_tracks level after is_state is_after =
        let here = track_at tree_state.pages m (Going number level) reads latched moves is_state track in
        let no_latches : latched ≡ [] = here.are in
        let few = here.few in
        from_state (Going number level) after is_state (on_track tree_state.pages after m.job (Want number) (number ∷ reads) latched (1 + moves)
        (ap (λ (m : PlainMachine). m.job) is_after) (ap (λ (m : PlainMachine). m.state) is_after) tt
        (rw no_latches (record { page = page; there = there; all_before = tt })) (omega arith) here.levels)

    -- a read of a page on the way down
    sees_on_its_way_tracks : (after : PlainMachine) → SeesOnItsWay m number page after → GoesOnTrack tree_state.pages m.state after reads latched moves
    sees_on_its_way_tracks after (SeesOnItsWay.goes_right level next is_state leads is_after) =
        let here = track_at tree_state.pages m (Going number level) reads latched moves is_state track in
        let few = here.few in
        let p = placed_at tree_state levels m (Going number level) placed is_state in
        let it = right_is_further laws tree_state levels invariant m level number page there next p.1 leads.1 in
        from_state (Going number level) after is_state (on_track tree_state.pages after m.job (Going next level) (number ∷ reads) latched (1 + moves)
        (ap (λ (m : PlainMachine). m.job) is_after) (ap (λ (m : PlainMachine). m.state) is_after)
        (passed_right tree_state.pages number page there next reads here.way it) here.are (omega arith) here.levels)
    sees_on_its_way_tracks after (SeesOnItsWay.goes_down level child is_state leads is_after) =
        let here = track_at tree_state.pages m (Going number (level + 1)) reads latched moves is_state track in
        let few = here.few in
        let p = placed_at tree_state levels m (Going number (level + 1)) placed is_state in
        let it = child_is_lower laws tree_state levels invariant m level number page child there p.1 leads.0 leads.2 in
        from_state (Going number (level + 1)) after is_state (on_track tree_state.pages after m.job (Going child level) (number ∷ reads) latched (1 + moves)
        (ap (λ (m : PlainMachine). m.job) is_after) (ap (λ (m : PlainMachine). m.state) is_after)
        (passed_down tree_state.pages number page there child level reads (level_here laws tree_state levels invariant m (level + 1) number page there p.1) here.way it) here.are
        (omega arith) here.levels)
    sees_on_its_way_tracks after (SeesOnItsWay.find_answers level key is_state leads is_find is_after) =
        let here = track_at tree_state.pages m (Going number level) reads latched moves is_state track in
        let few = here.few in
        from_state (Going number level) after is_state (on_track tree_state.pages after m.job Ended (number ∷ reads) latched (1 + moves)
        (ap (λ (m : PlainMachine). m.job) is_after) (ap (λ (m : PlainMachine). m.state) is_after) tt tt (omega arith) here.levels)
    sees_on_its_way_tracks after (SeesOnItsWay.update_wants level is_state leads is_update is_after) = wants_tracks level after is_state is_after

    module _ (is_held : m.state ≡ Held number) where
      -- an operation that reads a latched page and finishes there
      finishes_tracks : (after : PlainMachine) → after.job ≡ m.job → after.state ≡ Leave number Finish → GoesOnTrack tree_state.pages m.state after reads latched moves
      finishes_tracks after is_job is_next =
          let here = track_at tree_state.pages m (Held number) reads latched moves is_held track in
          let few = here.few in
          from_state (Held number) after is_held (on_track tree_state.pages after m.job (Leave number Finish) reads latched (1 + moves) is_job is_next tt tt (omega arith) here.levels)

      -- the pages that it has latched are not above the level of its job
      latched_not_above : ArePagesWith tree_state.pages (IsNotAbove (level_of m.job)) latched
      latched_not_above =
          let here = track_at tree_state.pages m (Held number) reads latched moves is_held track in
          let p = placed_at tree_state levels m (Held number) placed is_held in
          not_above tree_state.pages number page there (level_of m.job) latched (level_here laws tree_state levels invariant m (level_of m.job) number page there p.0.stands_at) here.are

      -- a read of a latched page
      sees_under_latch_tracks : (after : PlainMachine) → SeesUnderLatch m number page after → GoesOnTrack tree_state.pages m.state after reads latched moves
      sees_under_latch_tracks after (SeesUnderLatch.is_above_high_key next above links is_after) =
          let here = track_at tree_state.pages m (Held number) reads latched moves is_held track in
          let few = here.few in
          let p = placed_at tree_state levels m (Held number) placed is_held in
          let it = right_is_further laws tree_state levels invariant m (level_of m.job) number page there next p.0.stands_at links in
          from_state (Held number) after is_held (on_track tree_state.pages after m.job (Leave number (MoveRight next)) reads latched (1 + moves)
          (ap (λ (m : PlainMachine). m.job) is_after) (ap (λ (m : PlainMachine). m.state) is_after) tt
          (below_right tree_state.pages number page there next latched here.are it) (omega arith) here.levels)
      sees_under_latch_tracks after (SeesUnderLatch.insertion_finds_key key pointer kept belongs is_leaf is_insertion found is_after) =
          finishes_tracks after (ap (λ (m : PlainMachine). m.job) is_after) (ap (λ (m : PlainMachine). m.state) is_after)
      sees_under_latch_tracks after (SeesUnderLatch.deletion_finds_none key belongs is_leaf is_deletion found is_after) =
          finishes_tracks after (ap (λ (m : PlainMachine). m.job) is_after) (ap (λ (m : PlainMachine). m.state) is_after)
      sees_under_latch_tracks after (SeesUnderLatch.replacement_finds_none key pointer belongs is_leaf is_replacement found is_after) =
          finishes_tracks after (ap (λ (m : PlainMachine). m.job) is_after) (ap (λ (m : PlainMachine). m.state) is_after)
      sees_under_latch_tracks after (SeesUnderLatch.finds_other_pointer key expected belongs is_leaf is_replacement found is_after) =
          finishes_tracks after (ap (λ (m : PlainMachine). m.job) is_after) (ap (λ (m : PlainMachine). m.state) is_after)
      sees_under_latch_tracks after (SeesUnderLatch.posting_finds_separator debt child belongs is_posting found is_after) =
          finishes_tracks after (ap (λ (m : PlainMachine). m.job) is_after) (ap (λ (m : PlainMachine). m.state) is_after)
      sees_under_latch_tracks after (SeesUnderLatch.is_to_change changed kept belongs is_change is_after) =
          let here = track_at tree_state.pages m (Held number) reads latched moves is_held track in
          let few = here.few in
          from_state (Held number) after is_held (on_track tree_state.pages after m.job (Change number changed kept) reads latched (1 + moves)
          (ap (λ (m : PlainMachine). m.job) is_after) (ap (λ (m : PlainMachine). m.state) is_after) tt latched_not_above (omega arith) here.levels)
      sees_under_latch_tracks after (SeesUnderLatch.is_to_split belongs is_full is_after) =
          let here = track_at tree_state.pages m (Held number) reads latched moves is_held track in
          let few = here.few in
          from_state (Held number) after is_held (on_track tree_state.pages after m.job (SplitNew number page) reads latched (1 + moves)
          (ap (λ (m : PlainMachine). m.job) is_after) (ap (λ (m : PlainMachine). m.state) is_after) tt latched_not_above (omega arith) here.levels)

    -- a read of any page
    pub sees_page_tracks : (after : PlainMachine) → SeesPage m number page after → GoesOnTrack tree_state.pages m.state after reads latched moves
    sees_page_tracks after (SeesPage.on_its_way sees) = sees_on_its_way_tracks after sees
    sees_page_tracks after (SeesPage.under_latch is_held sees) = sees_under_latch_tracks is_held after sees
