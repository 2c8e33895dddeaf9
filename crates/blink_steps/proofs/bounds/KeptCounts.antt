-- The counts that a run keeps of its operations are those of its history.
use Rattle.std.proofs.Common.{◌≡◌, ℕ, zero, suc, ◌+◌, ◌<◌, ◌∙◌, Bool, true, false, Some, List, [], ◌∷◌, length, replicate, slice_get, refl, ap, sym, inl, inr, arith}
use Rattle.std.specs.Prelude.{if◌then◌else◌}
use Rattle.std.proofs.lemmas.Bool.{cases_Bool, cases_eq}
use Rattle.std.proofs.lemmas.Option.{get_or_from_slice_get, slice_get_within}
use Rattle.blink_store.proofs.Offered.{slice_get-set_other, slice_get-set_same}
use Rattle.blink_steps.specs.Counts.{turns_of}
use Rattle.blink_machine.specs.{has_moved, moved_by, is_page_read, one_if}
use Rattle.blink_steps.specs.Run.{PlainRun, Event, AppliesEvent, IsHistory}
use Rattle.blink_steps.specs.Outcome.{PlainOutcome, one_more_at}
use Rattle.blink_steps.proofs.runs.RunStatements.{CountsAreOf, CountsAreKept}
use Rattle.blink_steps.proofs.bounds.CountedTurns.{turns_of-own, turns_of-other, turns_of-unlike, turns_of-few}

-- a list of one number over and over has it at each place
slice_get-replicate : (n place x : ℕ) → place < n → slice_get (replicate n x) place ≡ Some x
slice_get-replicate zero place x within = absurd (omega arith)
slice_get-replicate (suc n) zero x within = refl
slice_get-replicate (suc n) (suc place) x within = slice_get-replicate n place x (omega arith)

-- the place of a turn has one more than it had
one_more-own : (counts : List ℕ) (place count : ℕ) → slice_get counts place ≡ Some count → slice_get (one_more_at counts place) place ≡ Some (count + 1)
one_more-own counts place count there =
    let within : place < length counts = slice_get_within counts place count there in
    slice_get-set_same counts place _ within ∙ ap (λ (n : ℕ). Some (n + 1)) (get_or_from_slice_get counts place count 0 there)

-- a list that counts the turns of a kind goes on to do so, if one more is put at the place of each of them
pub counts_go_on : (of_kind : Event → Bool) (counts after : List ℕ) (taken : Event) (history : List Event) (place : ℕ)
    → slice_get counts place ≡ Some (turns_of place of_kind history) → (of_kind taken ≡ true → after ≡ one_more_at counts taken.place) → (of_kind taken ≡ false → after ≡ counts)
    → slice_get after place ≡ Some (turns_of place of_kind (taken ∷ history))
counts_go_on of_kind counts after taken history place before counted uncounted = elim (cases_Bool (of_kind taken)) [
  | inr unlike ↦ rw (uncounted unlike, turns_of-unlike place of_kind taken history unlike) before
  | inl like ↦ elim (cases_eq taken.place place) [
    | inr other ↦ rw (counted like, turns_of-other place of_kind taken history other) (slice_get-set_other counts taken.place place _ (λ same. other (sym same)) ∙ before)
    | inl same ↦
        let more : turns_of place of_kind (taken ∷ history) ≡ turns_of place of_kind history + 1 =
        turns_of-own place of_kind taken history same ∙ ap (λ (test : Bool). one_if test + turns_of place of_kind history) like ∙ omega arith in
        ap (λ (list : List ℕ). slice_get list place) (counted like)
        ∙ ap (λ (n : ℕ). slice_get (one_more_at counts n) place) same
        ∙ one_more-own counts place _ before
        ∙ ap Some (sym more)
  ]
]

-- a run's operations are those of its start
pub same_ops_along : (start run : PlainRun) (history : List Event) → IsHistory start history run → run.ops ≡ start.ops
same_ops_along start run [] same = ap (λ (run : PlainRun). run.ops) same
same_ops_along start run (taken ∷ history) (before, follows, turn) = same_ops_of_turn before taken run turn ∙ same_ops_along start before history follows
  where
    same_ops_of_turn : (before : PlainRun) (taken : Event) (run : PlainRun) → AppliesEvent before taken run → run.ops ≡ before.ops
    same_ops_of_turn before taken run (AppliesEvent.moves next kind is_next moved acts same) = ap (λ (run : PlainRun). run.ops) same
    same_ops_of_turn before taken run (AppliesEvent.waits next is_next waited acts same) = ap (λ (run : PlainRun). run.ops) same
    same_ops_of_turn before taken run (AppliesEvent.idles idle idled same) = ap (λ (run : PlainRun). run.ops) same

-- a turn that doesn't move leaves the counts as they are
counts_of_rest : (before run : PlainRun) (taken : Event) (history : List Event) → CountsAreOf history before → run ≡ before
    → has_moved taken.step ≡ false → moved_by is_page_read taken.step ≡ false → CountsAreOf (taken ∷ history) run
counts_of_rest before run taken history counts same rests reads_none =
    let same_ops : run.ops ≡ before.ops = ap (λ (run : PlainRun). run.ops) same in
    record {
      reads = λ place within.
          ap (λ (run : PlainRun). slice_get run.outcome.reads place) same ∙ counts.reads place (rw same_ops at within)
          ∙ ap Some (sym (turns_of-unlike place (λ (turn : Event). moved_by is_page_read turn.step) taken history reads_none));
      moves = λ place within.
          ap (λ (run : PlainRun). slice_get run.outcome.moves place) same ∙ counts.moves place (rw same_ops at within)
          ∙ ap Some (sym (turns_of-unlike place (λ (turn : Event). has_moved turn.step) taken history rests));
      few_reads = λ place. turns_of-few place (λ (turn : Event). moved_by is_page_read turn.step) (taken ∷ history);
      few_moves = λ place. turns_of-few place (λ (turn : Event). has_moved turn.step) (taken ∷ history);
    }

-- a turn that moves counts as a step, and as a page read where it is one; any other turn leaves the counts as they are
counts_of_turn : (before run : PlainRun) (taken : Event) (history : List Event) → CountsAreOf history before → AppliesEvent before taken run
    → CountsAreOf (taken ∷ history) run
counts_of_turn before run taken history counts (AppliesEvent.moves next kind is_next moved acts same) =
    let same_ops : run.ops ≡ before.ops = ap (λ (run : PlainRun). run.ops) same in
    let same_moves : run.outcome.moves ≡ one_more_at before.outcome.moves taken.place = ap (λ (run : PlainRun). run.outcome.moves) same in
    let same_reads : run.outcome.reads ≡ reads_after before.outcome.reads taken.place (is_page_read kind) = ap (λ (run : PlainRun). run.outcome.reads) same in
    record {
      reads = λ place within. counts_go_on (λ (turn : Event). moved_by is_page_read turn.step) before.outcome.reads run.outcome.reads taken history place
          (counts.reads place (rw same_ops at within))
          (λ reads. let is_read : is_page_read kind ≡ true = rw moved at reads in same_reads ∙ ap (reads_after before.outcome.reads taken.place) is_read)
          (λ reads_none. let is_none : is_page_read kind ≡ false = rw moved at reads_none in same_reads ∙ ap (reads_after before.outcome.reads taken.place) is_none);
      moves = λ place within. counts_go_on (λ (turn : Event). has_moved turn.step) before.outcome.moves run.outcome.moves taken history place
          (counts.moves place (rw same_ops at within))
          (λ moves. same_moves)
          (λ moves_none. let none : true ≡ false = rw moved at moves_none in cc);
      few_reads = λ place. turns_of-few place (λ (turn : Event). moved_by is_page_read turn.step) (taken ∷ history);
      few_moves = λ place. turns_of-few place (λ (turn : Event). has_moved turn.step) (taken ∷ history);
    }
  where
    reads_after : List ℕ → ℕ → Bool → List ℕ
    reads_after reads place is_read = if is_read then one_more_at reads place else reads
counts_of_turn before run taken history counts (AppliesEvent.waits next is_next waited acts same) = counts_of_rest before run taken history counts same (rw waited refl) (rw waited refl)
counts_of_turn before run taken history counts (AppliesEvent.idles idle idled same) = counts_of_rest before run taken history counts same (rw idled refl) (rw idled refl)

-- the counts of a run are those of its history
pub counts_are_kept : CountsAreKept
counts_are_kept start ops assignment opening run [] begins same =
    let same_reads : run.outcome.reads ≡ replicate (length ops) 0 = ap (λ (run : PlainRun). run.outcome.reads) same ∙ ap (λ (outcome : PlainOutcome). outcome.reads) begins.nothing_recorded in
    let same_moves : run.outcome.moves ≡ replicate (length ops) 0 = ap (λ (run : PlainRun). run.outcome.moves) same ∙ ap (λ (outcome : PlainOutcome). outcome.moves) begins.nothing_recorded in
    let same_ops : run.ops ≡ ops = ap (λ (run : PlainRun). run.ops) same ∙ begins.same_ops in
    record {
      reads = λ place within. ap (λ (list : List ℕ). slice_get list place) same_reads ∙ slice_get-replicate (length ops) place 0 (rw same_ops at within);
      moves = λ place within. ap (λ (list : List ℕ). slice_get list place) same_moves ∙ slice_get-replicate (length ops) place 0 (rw same_ops at within);
      few_reads = λ place. omega arith;
      few_moves = λ place. omega arith;
    }
counts_are_kept start ops assignment opening run (taken ∷ history) begins (before, follows, turn) =
    counts_of_turn before run taken history (counts_are_kept start ops assignment opening before history begins follows) turn
