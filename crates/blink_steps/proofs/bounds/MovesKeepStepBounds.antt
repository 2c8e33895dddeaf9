-- A turn that moves keeps every operation's way short: its pages differ, and its steps are bounded by them.
use Rattle.std.proofs.Common.{◌≡◌, ℕ, ◌+◌, ◌*◌, ◌≤◌, ◌∙◌, false, Some, List, ◌∷◌, length, slice_get, refl, ap, arith}
use Rattle.std.specs.List.{cons_option}
use Rattle.blink_batch.specs.declared.Op.{Op}
use Rattle.blink_batch.specs.declared.Op.TheVariants.{Find}
use Rattle.blink_rest.specs.{Pages, AllDiffer}
use Rattle.blink_machine.specs.declared.machine.Job.{Job}
use Rattle.blink_machine.specs.declared.machine.State.{State}
use Rattle.blink_machine.specs.declared.machine.State.TheVariants.{Going, Want}
use Rattle.blink_machine.specs.declared.step.Kind.{Kind}
use Rattle.blink_machine.specs.declared.step.Step.{Step}
use Rattle.blink_machine.specs.declared.step.Step.TheVariants.{Moved}
use Rattle.blink_steps.specs.StepBounds.{page_on_way, page_to_latch, read_on_way, latched_by}
use Rattle.blink_steps.specs.Counts.{moves_in, page_reads_in}
use Rattle.blink_machine.specs.{has_moved, moved_by, is_page_read, PlainMachine, KeepsPlaces, one_if}
use Rattle.blink_steps.specs.Run.{Event}
use Rattle.blink_steps.proofs.bounds.MetPages.{ArePagesWith, IsAny, ComesAfter, IsPassed, IsBelow, pages_stay, after_avoids}
use Rattle.blink_steps.proofs.bounds.OperationTracks.{OnWayAt, LatchedAt, IsOnTrack, few_others}
use Rattle.blink_steps.proofs.bounds.ReadsKeepTrack.{GoesOnTrack}
use Rattle.blink_steps.proofs.bounds.CountedTurns.{turns_of-own, turns_of-other, turns_of-unlike}
use Rattle.blink_steps.proofs.bounds.PagesOfTurns.{pages_of-own, pages_of-other, pages_of-rest}

-- the way of the operation at a place so far: the pages that it has read on its way down differ, and so do those that it has
-- latched, its steps are bounded by them, and a find has read no others
pub record WithinStepBoundAt (pages : Pages) (ops : List Op) (history : List Event) (place : ℕ) : Type 0 where
  pub reads_differ : AllDiffer (read_on_way history place)
  pub reads_there : ArePagesWith pages IsAny (read_on_way history place)
  pub latches_differ : AllDiffer (latched_by history place)
  pub latches_there : ArePagesWith pages IsAny (latched_by history place)
  pub moves : moves_in history place ≤ length (read_on_way history place) + 3 * length (latched_by history place) + 86
  pub reads_of_find : (key : ℕ) → slice_get ops place ≡ Some (Find key) → page_reads_in history place ≤ length (read_on_way history place)

-- a page that comes after others is one more that differs
differ_with : (pages : Pages) (order : ℕ → ℕ → ℕ → ℕ → Type 0) (number : ℕ) (before : List ℕ) → ((level least : ℕ) → order level least level least → ⊥)
    → ComesAfter pages order number before → AllDiffer before → ArePagesWith pages IsAny before
    → AllDiffer (number ∷ before) × ArePagesWith pages IsAny (number ∷ before)
differ_with pages order number before irreflexive comes differ are = (
  (after_avoids pages order number before irreflexive comes, differ),
  (record { page = comes.page; there = comes.there; is_so = tt }, are),
)

-- so is the page that is read on the way down
reads_differ_after : (pages : Pages) (state : State) (reads : List ℕ) → OnWayAt pages state reads → AllDiffer reads → ArePagesWith pages IsAny reads
    → AllDiffer (cons_option (page_on_way state) reads) × ArePagesWith pages IsAny (cons_option (page_on_way state) reads)
reads_differ_after pages (Going page level) reads way differ are =
    differ_with pages IsPassed page reads (λ level least passed. let first = passed.1 in absurd (omega (arith, first refl))) way differ are
reads_differ_after pages state reads way differ are = (differ, are)

-- and the page that is latched
latches_differ_after : (pages : Pages) (job : Job) (state : State) (latched : List ℕ) → LatchedAt pages job state latched → AllDiffer latched → ArePagesWith pages IsAny latched
    → AllDiffer (cons_option (page_to_latch state) latched) × ArePagesWith pages IsAny (cons_option (page_to_latch state) latched)
latches_differ_after pages job (Want page) latched waits differ are =
    differ_with pages IsBelow page latched (λ level least below. let first = below.1 in absurd (omega (arith, first refl))) waits differ are
latches_differ_after pages job state latched waits differ are = (differ, are)

-- a turn that moves is one step more of its operation
own_moves : (history : List Event) (taken : Event) (kind : Kind) → taken.step ≡ Moved kind → moves_in (taken ∷ history) taken.place ≡ 1 + moves_in history taken.place
own_moves history taken kind moved =
    turns_of-own taken.place (λ (turn : Event). has_moved turn.step) taken history refl
    ∙ ap (λ (step : Step). one_if (has_moved step) + moves_in history taken.place) moved

-- and one page read more, where it is one
own_page_reads : (history : List Event) (taken : Event) (kind : Kind) → taken.step ≡ Moved kind
    → page_reads_in (taken ∷ history) taken.place ≡ one_if (is_page_read kind) + page_reads_in history taken.place
own_page_reads history taken kind moved =
    turns_of-own taken.place (λ (turn : Event). moved_by is_page_read turn.step) taken history refl
    ∙ ap (λ (step : Step). one_if (moved_by is_page_read step) + page_reads_in history taken.place) moved

-- the track of the operation at a place
abbrev pub IsTracked : Pages → List Event → ℕ → PlainMachine → Type 0
IsTracked pages history place m = IsOnTrack pages m (read_on_way history place) (latched_by history place) (moves_in history place)

-- a turn's own operation goes on on its track
pub own_track : (pages : Pages) (history : List Event) (taken : Event) (kind : Kind) → taken.step ≡ Moved kind
    → GoesOnTrack pages taken.before.state taken.after (read_on_way history taken.place) (latched_by history taken.place) (moves_in history taken.place)
    → IsTracked pages (taken ∷ history) taken.place taken.after
own_track pages history taken kind moved goes =
    rw (pages_of-own page_on_way taken kind history moved, pages_of-own page_to_latch taken kind history moved, own_moves history taken kind moved) goes

-- and every other one stays on its own
pub other_track : (pages : Pages) (history : List Event) (taken : Event) (place : ℕ) (m : PlainMachine) → (taken.place ≡ place → ⊥) → IsTracked pages history place m
    → IsTracked pages (taken ∷ history) place m
other_track pages history taken place m other track =
    rw (
      pages_of-other page_on_way taken history place other,
      pages_of-other page_to_latch taken history place other,
      turns_of-other place (λ (turn : Event). has_moved turn.step) taken history other,
    ) track

-- a turn keeps its own operation's way short
pub own_short : (pages : Pages) (ops : List Op) (history : List Event) (taken : Event) (kind : Kind) → taken.step ≡ Moved kind → IsTracked pages history taken.place taken.before
    → IsTracked pages (taken ∷ history) taken.place taken.after
    → ((key : ℕ) → slice_get ops taken.place ≡ Some (Find key)
    → one_if (is_page_read kind) + length (read_on_way history taken.place) ≤ length (cons_option (page_on_way taken.before.state) (read_on_way history taken.place)))
    → WithinStepBoundAt pages ops history taken.place → WithinStepBoundAt pages ops (taken ∷ history) taken.place
own_short pages ops history taken kind moved before after finds short =
    let reads = pages_of-own page_on_way taken kind history moved in
    let latches = pages_of-own page_to_latch taken kind history moved in
    let reads_after = reads_differ_after pages taken.before.state (read_on_way history taken.place) before.on_way short.reads_differ short.reads_there in
    let latches_after = latches_differ_after pages taken.before.job taken.before.state (latched_by history taken.place) before.under_latches short.latches_differ short.latches_there in
    let others = few_others taken.after.job taken.after.state after.few_levels in
    record {
      reads_differ = rw reads reads_after.0;
      reads_there = rw reads reads_after.1;
      latches_differ = rw latches latches_after.0;
      latches_there = rw latches latches_after.1;
      moves = omega (arith, after.few_moves);
      reads_of_find = λ key there. rw (own_page_reads history taken kind moved, reads) (omega (arith, short.reads_of_find key there, finds key there));
    }

-- and every other one's
pub other_short : (pages : Pages) (ops : List Op) (history : List Event) (taken : Event) (place : ℕ) → (taken.place ≡ place → ⊥) → WithinStepBoundAt pages ops history place
    → WithinStepBoundAt pages ops (taken ∷ history) place
other_short pages ops history taken place other short =
    let reads = pages_of-other page_on_way taken history place other in
    let latches = pages_of-other page_to_latch taken history place other in
    record {
      reads_differ = rw reads short.reads_differ;
      reads_there = rw reads short.reads_there;
      latches_differ = rw latches short.latches_differ;
      latches_there = rw latches short.latches_there;
      moves = rw (turns_of-other place (λ (turn : Event). has_moved turn.step) taken history other, reads, latches) short.moves;
      reads_of_find = λ key there. rw (turns_of-other place (λ (turn : Event). moved_by is_page_read turn.step) taken history other, reads) (short.reads_of_find key there);
    }

-- a turn that doesn't move keeps all tracks
pub rest_track : (pages : Pages) (history : List Event) (taken : Event) (place : ℕ) (m : PlainMachine) → has_moved taken.step ≡ false → IsTracked pages history place m
    → IsTracked pages (taken ∷ history) place m
rest_track pages history taken place m rests track =
    rw (
      pages_of-rest page_on_way taken history place rests,
      pages_of-rest page_to_latch taken history place rests,
      turns_of-unlike place (λ (turn : Event). has_moved turn.step) taken history rests,
    ) track

-- and all ways short
pub rest_short : (pages : Pages) (ops : List Op) (history : List Event) (taken : Event) (place : ℕ) → has_moved taken.step ≡ false → moved_by is_page_read taken.step ≡ false
    → WithinStepBoundAt pages ops history place → WithinStepBoundAt pages ops (taken ∷ history) place
rest_short pages ops history taken place rests reads_none short =
    let reads = pages_of-rest page_on_way taken history place rests in
    let latches = pages_of-rest page_to_latch taken history place rests in
    record {
      reads_differ = rw reads short.reads_differ;
      reads_there = rw reads short.reads_there;
      latches_differ = rw latches short.latches_differ;
      latches_there = rw latches short.latches_there;
      moves = rw (turns_of-unlike place (λ (turn : Event). has_moved turn.step) taken history rests, reads, latches) short.moves;
      reads_of_find = λ key there. rw (turns_of-unlike place (λ (turn : Event). moved_by is_page_read turn.step) taken history reads_none, reads) (short.reads_of_find key there);
    }

-- a way stays short while the pages stay where they are
pub short_stays : (old new : Pages) (ops : List Op) (history : List Event) (place : ℕ) → KeepsPlaces old new → WithinStepBoundAt old ops history place → WithinStepBoundAt new ops history place
short_stays old new ops history place keeps short = record {
  reads_differ = short.reads_differ;
  reads_there = pages_stay old new keeps IsAny (read_on_way history place) short.reads_there;
  latches_differ = short.latches_differ;
  latches_there = pages_stay old new keeps IsAny (latched_by history place) short.latches_there;
  moves = short.moves;
  reads_of_find = short.reads_of_find;
}
