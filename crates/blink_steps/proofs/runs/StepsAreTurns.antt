-- A step of the tree state of a run is a turn of the run.
use Rattle.std.proofs.Common.{◌≡◌, ◌≢◌, ℕ, ◌+◌, ◌<◌, ◌≤◌, zero, suc, Option, Some, None, List, [], ◌∷◌, ◌++◌, length, length-append, set, add-one, inl, inr, refl, ap, sym, ◌∙◌, subst, arith}
use Rattle.std.specs.Prelude.{slice_get}
use Rattle.std.proofs.lemmas.Bool.{cases_eq}
use Rattle.std.proofs.lemmas.List.{length-set}
use Rattle.std.proofs.lemmas.Option.{slice_get_within, get_or_from_slice_get}
use Rattle.blink_batch.specs.declared.Entry.{Entry}
use Rattle.blink_batch.specs.declared.cut.TheConstants.{WORKER_LIMIT}
use Rattle.blink_batch.specs.{FitsWords}
use Rattle.blink_page.specs.{IsPageNumber, PlainPage}
use Rattle.blink_store.specs.{Holds, IsHeldByOne, holder_of, ChangesHolder, PlainStore, page_of, WritesPage}
use Rattle.blink_store.specs.declared.latches.TheConstants.{WORKERS}
use Rattle.blink_store.proofs.Offered.{holder_of-holds, nobody, slice_get-push_other, slice_get-push_same, slice_get-set_other, slice_get-set_same}
use Rattle.blink_machine.specs.declared.machine.Need.{Need}
use Rattle.blink_machine.specs.declared.machine.Need.TheVariants.{ReadPrime, ReadPage, Latch, WriteNew, WritePage, WritePrime, Unlatch}
use Rattle.blink_steps.specs.declared.seat.WorkerState.{WorkerState}
use Rattle.blink_machine.specs.declared.step.Kind.{Kind}
use Rattle.blink_machine.specs.declared.step.Step.{Step}
use Rattle.blink_machine.specs.declared.step.Step.TheVariants.{Moved, Waited}
use Rattle.blink_steps.specs.Acts.{PlainShared, Acts, ActsOn}
use Rattle.blink_machine.specs.{read_page, read_prime, latch, unlatch, write_page, write_prime, PlainMachine, need_at, IsItsOperation, IsWorkersNow, LatchPasses, WritesOne, Steps, reads_prime, waits_for_level, reads_page, latches, waits_for_latch, writes_new, writes_page, writes_prime, unlatches, goes_on, latch_of, page_out, done}
use Rattle.blink_steps.specs.Laws.{HasTurnTo, StepsAreTurns, TakesNextNumber, turn_of}
use Rattle.blink_machine.specs.TreeState.{TreeState}
use Rattle.blink_steps.specs.Run.{PlainRun, IsNextOf, moves, waits, after_move, machine_of_seat, tree_state_of, seat_after}
use Rattle.blink_machine.specs.Invariant.{Invariant}
use Rattle.blink_steps.specs.RunInvariant.{RunInvariant}
use Rattle.blink_steps.proofs.runs.OperationOfTurn.{machines_of, next_has_seat, next_is_busy, next_is_its, seats_after_move}
use Rattle.blink_machine.proofs.Offered.{step_law}
use Rattle.blink_steps.proofs.worlds.WorldPromises.{invariant}

-- ---- what is the same

-- functions that agree everywhere are the same
everywhere : {A B : Type 0} (f g : A → B) → ((x : A) → f x ≡ g x) → f ≡ g
everywhere f g same = λ i x. same x i

-- so are two that differ from a third at one number alone, and have the same there
same_at_one : {B : Type 0} (old f g : ℕ → B) (n : ℕ) (b : B) → f n ≡ b → ((other : ℕ) → other ≢ n → f other ≡ old other) → g n ≡ b → ((other : ℕ) → other ≢ n → g other ≡ old other) → f ≡ g
same_at_one old f g n b f_there f_others g_there g_others = everywhere f g (λ k. elim (cases_eq k n) [
  | inl same ↦ subst (λ (at : ℕ). f at ≡ g at) (sym same) (f_there ∙ sym g_there)
  | inr differs ↦ f_others k differs ∙ sym (g_others k differs)
])

-- tree states with the same parts
tree_states_are_same : (one other : TreeState) → one.fan ≡ other.fan → one.prime ≡ other.prime → one.pages ≡ other.pages → one.holder ≡ other.holder → one.machines ≡ other.machines → one ≡ other
tree_states_are_same one other fan prime pages holder machines = λ i. record { fan = fan i; prime = prime i; pages = pages i; holder = holder i; machines = machines i }

-- ---- the latches of a tree state as a list

-- what each of so many workers holds, from one on
abbrev held_from : (ℕ → Option ℕ) → ℕ → ℕ → List (Option ℕ)
held_from held first zero = []
held_from held first (suc count) = held first ∷ held_from held (suc first) count

length-held_from : (held : ℕ → Option ℕ) (first count : ℕ) → length (held_from held first count) ≡ count
length-held_from held first zero = refl
length-held_from held first (suc count) = ap suc (length-held_from held (suc first) count)

-- what one of them holds
held_at : (held : ℕ → Option ℕ) (first count at : ℕ) → at < count → slice_get (held_from held first count) at ≡ Some (held (first + at))
held_at held first zero at within = absurd (omega arith)
held_at held first (suc count) zero within = let same : first ≡ first + 0 = omega arith in ap (λ (n : ℕ). Some (held n)) same
held_at held first (suc count) (suc at) within =
    let same : suc first + at ≡ first + suc at = omega arith in
    held_at held (suc first) count at (omega arith) ∙ ap (λ (n : ℕ). Some (held n)) same

held_by : (held : ℕ → Option ℕ) (count at : ℕ) → at < count → slice_get (held_from held 0 count) at ≡ Some (held at)
held_by held count at within = let same : 0 + at ≡ at = omega arith in held_at held 0 count at within ∙ ap (λ (n : ℕ). Some (held n)) same

-- the page that an operation under way has latched
abbrev latch_under_way : Option PlainMachine → Option ℕ
latch_under_way None = None
latch_under_way (Some m) = latch_of m

some_machine : (now : Option PlainMachine) (page : ℕ) → latch_under_way now ≡ Some page → (m : PlainMachine) × (now ≡ Some m) × (latch_of m ≡ Some page)
some_machine None page is = absurd (cc)
some_machine (Some m) page is = (m, refl, is)

module _ (tree_state : TreeState) (invariant : Invariant tree_state) (few : (worker : ℕ) (m : PlainMachine) → tree_state.machines worker ≡ Some m → worker < WORKERS) where
  -- as a list for the workers that may be
  abbrev latches_in : List (Option ℕ)
  latches_in = held_from (λ worker. latch_under_way (tree_state.machines worker)) 0 WORKERS

  -- who holds a page in the list holds it
  holds_in : (worker page : ℕ) → Holds latches_in worker page → tree_state.holder page ≡ Some worker
  holds_in worker page holds =
      let within : worker < WORKERS = subst (λ (n : ℕ). worker < n) (length-held_from (λ who. latch_under_way (tree_state.machines who)) 0 WORKERS) (slice_get_within latches_in worker (Some page) holds) in
      let at = held_by (λ who. latch_under_way (tree_state.machines who)) WORKERS worker within in
      let has : latch_under_way (tree_state.machines worker) ≡ Some page = cc in
      let it = some_machine (tree_state.machines worker) page has in
      invariant.1.latches.by_state worker page it.0 it.1 it.2

  -- and back
  in_holds : (worker page : ℕ) → tree_state.holder page ≡ Some worker → Holds latches_in worker page
  in_holds worker page held =
      let it = invariant.1.latches.by_holder worker page held in
      held_by (λ who. latch_under_way (tree_state.machines who)) WORKERS worker (few worker it.0 it.1) ∙ ap (λ (now : Option PlainMachine). Some (latch_under_way now)) it.1 ∙ ap Some it.2

  -- each page is held by one
  one_each : IsHeldByOne latches_in
  one_each = record {
    workers = length-held_from (λ worker. latch_under_way (tree_state.machines worker)) 0 WORKERS;
    one_each = λ first second page of_first of_second.
        let one : tree_state.holder page ≡ Some first = holds_in first page of_first in
        let other : tree_state.holder page ≡ Some second = holds_in second page of_second in
        cc;
  }

  -- so the list has the tree state's holders
  same_holders : holder_of latches_in ≡ tree_state.holder
  same_holders = everywhere (holder_of latches_in) tree_state.holder (λ page. by_holder page (tree_state.holder page) refl)
    where
      by_holder : (page : ℕ) (holder : Option ℕ) → tree_state.holder page ≡ holder → holder_of latches_in page ≡ tree_state.holder page
      by_holder page None none = nobody latches_in page one_each (λ worker within holds. let held : tree_state.holder page ≡ Some worker = holds_in worker page holds in cc) ∙ sym none
      by_holder page (Some worker) held = holder_of-holds latches_in one_each page worker (in_holds worker page held) ∙ sym held

-- ---- writes of a store

-- a page added at the end
added_at_end : (store : PlainStore) (page : PlainPage) → WritesPage store (record store { pages = store.pages ++ page ∷ [] }) (length store.pages + 1) page
added_at_end store page = rw add-one (record {
  same_fan = refl;
  same_prime = refl;
  written = slice_get-push_same store.pages page;
  others = elsewhere;
})
  where
    elsewhere : (other : ℕ) → other ≢ suc (length store.pages) → page_of (record store { pages = store.pages ++ page ∷ [] }) other ≡ page_of store other
    elsewhere zero differs = refl
    elsewhere (suc n) differs = slice_get-push_other store.pages n page (λ same. differs (ap suc same))

-- a page in another's place
put_in_place : (store : PlainStore) (n : ℕ) (page : PlainPage) → n < length store.pages → WritesPage store (record store { pages = set store.pages n page }) (suc n) page
put_in_place store n page within = record {
  same_fan = refl;
  same_prime = refl;
  written = slice_get-set_same store.pages n page within;
  others = elsewhere;
}
  where
    elsewhere : (other : ℕ) → other ≢ suc n → page_of (record store { pages = set store.pages n page }) other ≡ page_of store other
    elsewhere zero differs = refl
    elsewhere (suc k) differs = slice_get-set_other store.pages n k page (λ same. differs (ap suc same))

-- ---- turns

-- what an operation needs next
abbrev NeedIs : PlainMachine → Need → Type 0
NeedIs m need = need_at m.state ≡ need

module _ (entries : List Entry) (run : PlainRun) (has_invariant : RunInvariant entries run) (worker place : ℕ) (m after : PlainMachine) (next : Option ℕ) (then : TreeState)
    (is_next : IsNextOf run worker place m next) where
  -- the operation is the worker's
  its : IsItsOperation (tree_state_of run) worker m
  its = next_is_its run worker place m next is_next

  -- a worker with a seat is one of those that may hold a latch
  seated_within : (who : ℕ) → who < length run.seats → who < WORKERS
  seated_within who within =
      let seats : length run.seats ≡ run.assignment.workers = has_invariant.shaped.a_seat_each in
      let few : run.assignment.workers ≤ WORKER_LIMIT = has_invariant.shaped.lanes.allowed.1 in
      omega arith

  -- and so is one with an operation
  busy_within : (who : ℕ) (n : PlainMachine) (found : Option WorkerState) → slice_get run.seats who ≡ found → machine_of_seat found ≡ Some n → who < length run.seats
  busy_within who n None none busy = absurd (cc)
  busy_within who n (Some seat) found busy = slice_get_within run.seats who seat found

  -- after a step too
  few_after : IsWorkersNow (tree_state_of run).machines then.machines worker after → (who : ℕ) (n : PlainMachine) → then.machines who ≡ Some n → who < WORKERS
  few_after now who n there = elim (cases_eq who worker) [
    | inl same ↦
        let seat = next_has_seat run worker place m next is_next in
        let within : worker < length run.seats = slice_get_within run.seats worker seat.0 seat.1 in
        seated_within who (omega arith)
    | inr differs ↦ seated_within who (busy_within who n (slice_get run.seats who) refl (sym (now.others who differs) ∙ there))
  ]

  -- what an act needs is what the state needs
  acts_at : (need : Need) (step : Step) (shared : PlainShared) → NeedIs m need → ActsOn need run.shared worker m step after shared → Acts run.shared worker m step after shared
  acts_at need step shared needs acts = subst (λ (n : Need). ActsOn n run.shared worker m step after shared) (sym needs) acts

  -- an act that leaves what the tree state has is a turn to it
  turn_by : (kind : Kind) (shared : PlainShared) → Acts run.shared worker m (Moved kind) after shared → IsWorkersNow (tree_state_of run).machines then.machines worker after
      → shared.store.fan ≡ then.fan → shared.store.prime ≡ then.prime → page_of shared.store ≡ then.pages → holder_of shared.latches ≡ then.holder
      → HasTurnTo run (turn_of worker place m (Moved kind) after) then
  turn_by kind shared acts now fan prime pages holder =
      let seat = next_has_seat run worker place m next is_next in
      let moved = seats_after_move run.seats worker place after next seat.0 seat.1 in
      record {
        new = after_move run worker place next m kind after shared;
        turn = moves next kind is_next refl acts refl;
        same_tree_state = tree_states_are_same (tree_state_of (after_move run worker place next m kind after shared)) then fan prime pages holder
            (same_at_one (machines_of run.seats) (machines_of (set run.seats worker (seat_after (goes_on after after.state) place next))) then.machines worker
            (goes_on after after.state) moved.own moved.others now.own now.others);
      }

  -- a latch that changes hands is one entry of a list that changes
  turn_by_latch : (kind : Kind) (number : ℕ) (holder : Option ℕ) → Invariant then → IsWorkersNow (tree_state_of run).machines then.machines worker after
      → then.fan ≡ run.shared.store.fan → then.prime ≡ run.shared.store.prime → then.pages ≡ page_of run.shared.store
      → LatchPasses (holder_of run.shared.latches) then.holder number holder
      → ((held : List (Option ℕ)) → ChangesHolder run.shared.latches held number holder → Acts run.shared worker m (Moved kind) after (record { store = run.shared.store; latches = held }))
      → HasTurnTo run (turn_of worker place m (Moved kind) after) then
  turn_by_latch kind number holder invariant_then now fan prime pages passes acts =
      let held : List (Option ℕ) = latches_in then invariant_then (few_after now) in
      let same : holder_of held ≡ then.holder = same_holders then invariant_then (few_after now) in
      turn_by kind (record { store = run.shared.store; latches = held })
      (acts held (record {
        changed = ap (λ (h : ℕ → Option ℕ). h number) same ∙ passes.changed;
        others = λ other differs. ap (λ (h : ℕ → Option ℕ). h other) same ∙ passes.others other differs;
      })) now (sym fan) (sym prime) (sym pages) same

  -- a new page is the last of the list
  turn_by_new_page : (number : ℕ) → number ≡ length run.shared.store.pages + 1 → NeedIs m WriteNew → IsPageNumber number → after ≡ done m number
      → then.fan ≡ run.shared.store.fan → then.prime ≡ run.shared.store.prime → WritesOne (page_of run.shared.store) then.pages number (page_out m number)
      → then.holder ≡ holder_of run.shared.latches → IsWorkersNow (tree_state_of run).machines then.machines worker after
      → HasTurnTo run (turn_of worker place m (Moved (write_page number)) after) then
  turn_by_new_page number last needs is_number is fan prime one holder now =
      let store : PlainStore = run.shared.store in
      let written : PlainStore = record store { pages = store.pages ++ page_out m number ∷ [] } in
      let writes : WritesPage store written number (page_out m number) = subst (λ (n : ℕ). WritesPage store written n (page_out m number)) (sym last) (added_at_end store (page_out m number)) in
      let long : length written.pages ≡ number = length-append store.pages (page_out m number ∷ []) ∙ sym last in
      turn_by (write_page number) (record { store = written; latches = run.shared.latches })
      (acts_at WriteNew (Moved (write_page number)) (record { store = written; latches = run.shared.latches }) needs (
        ap write_page last,
        subst IsPageNumber last is_number,
        subst (λ (n : ℕ). after ≡ done m n) last is,
        subst (λ (n : ℕ). WritesPage store written n (page_out m n)) last writes,
        long ∙ last,
        refl,
      ))
      now (sym fan) (sym prime)
      (same_at_one (page_of store) (page_of written) then.pages number (Some (page_out m number)) writes.written writes.others one.written one.others) (sym holder)

  -- a page is written in its place
  turn_by_page : (number : ℕ) (before : PlainPage) → page_of run.shared.store number ≡ Some before → NeedIs m (WritePage number) → after ≡ done m 0
      → then.fan ≡ run.shared.store.fan → then.prime ≡ run.shared.store.prime → WritesOne (page_of run.shared.store) then.pages number (page_out m 0)
      → then.holder ≡ holder_of run.shared.latches → IsWorkersNow (tree_state_of run).machines then.machines worker after
      → HasTurnTo run (turn_of worker place m (Moved (write_page number)) after) then
  turn_by_page zero before there needs is fan prime one holder now = absurd (cc)
  turn_by_page (suc n) before there needs is fan prime one holder now =
      let store : PlainStore = run.shared.store in
      let written : PlainStore = record store { pages = set store.pages n (page_out m 0) } in
      let writes : WritesPage store written (suc n) (page_out m 0) = put_in_place store n (page_out m 0) (slice_get_within store.pages n before there) in
      turn_by (write_page (suc n)) (record { store = written; latches = run.shared.latches })
      (acts_at (WritePage (suc n)) (Moved (write_page (suc n))) (record { store = written; latches = run.shared.latches }) needs
      (refl, is, writes, length-set store.pages n (page_out m 0), refl))
      now (sym fan) (sym prime)
      (same_at_one (page_of store) (page_of written) then.pages (suc n) (Some (page_out m 0)) writes.written writes.others one.written one.others) (sym holder)

  -- for each kind of step
  turn_for : (step : Step) → Steps (tree_state_of run) worker m step after then → Invariant then → TakesNextNumber run.shared.store m step → HasTurnTo run (turn_of worker place m step after) then
  turn_for step (reads_prime needs sees is leaves now) invariant_then last =
      subst (λ (s : Step). HasTurnTo run (turn_of worker place m s after) then) (sym is)
      (turn_by read_prime run.shared (acts_at ReadPrime (Moved read_prime) run.shared needs (refl, sees, refl)) now (sym leaves.same_fan) (sym leaves.same_prime) (sym leaves.same_pages) (sym leaves.same_holder))
  turn_for step (waits_for_level needs waits_so is same stays) invariant_then last =
      subst (λ (s : Step). HasTurnTo run (turn_of worker place m s after) then) (sym is)
      (record { new = run; turn = waits next is_next refl (acts_at ReadPrime Waited run.shared needs (waits_so, stays, refl)) refl; same_tree_state = sym same })
  turn_for step (reads_page number page needs there sees is leaves now) invariant_then last =
      subst (λ (s : Step). HasTurnTo run (turn_of worker place m s after) then) (sym is)
      (turn_by (read_page number) run.shared (acts_at (ReadPage number) (Moved (read_page number)) run.shared needs (refl, (page, there, sees), refl)) now
      (sym leaves.same_fan) (sym leaves.same_prime) (sym leaves.same_pages) (sym leaves.same_holder))
  turn_for step (latches number needs free is is_step fan prime pages passes now) invariant_then last =
      subst (λ (s : Step). HasTurnTo run (turn_of worker place m s after) then) (sym is_step)
      (turn_by_latch (latch number) number (Some worker) invariant_then now fan prime pages passes
      (λ held changes. acts_at (Latch number) (Moved (latch number)) (record { store = run.shared.store; latches = held }) needs (refl, free, is, refl, changes)))
  turn_for step (waits_for_latch number holder needs held is same stays) invariant_then last =
      subst (λ (s : Step). HasTurnTo run (turn_of worker place m s after) then) (sym is)
      (record { new = run; turn = waits next is_next refl (acts_at (Latch number) Waited run.shared needs (rw held refl, stays, refl)) refl; same_tree_state = sym same })
  turn_for step (writes_new number needs is_number none is is_step fan prime one holder now) invariant_then last =
      let wrote : step ≡ Moved (write_page (length run.shared.store.pages + 1)) = last needs in
      let at : number ≡ length run.shared.store.pages + 1 = cc in
      subst (λ (s : Step). HasTurnTo run (turn_of worker place m s after) then) (sym is_step)
      (turn_by_new_page number at needs is_number is fan prime one holder now)
  turn_for step (writes_page number needs is is_step fan prime one holder now) invariant_then last =
      let good = (step_law.invariant_gives_order (tree_state_of run) has_invariant.invariant).writes_page worker number m its needs in
      subst (λ (s : Step). HasTurnTo run (turn_of worker place m s after) then) (sym is_step)
      (turn_by_page number good.before good.there needs is fan prime one holder now)
  turn_for step (writes_prime needs out is is_step fan pages holder now) invariant_then last =
      let shared : PlainShared = record { store = record run.shared.store { prime = then.prime }; latches = run.shared.latches } in
      subst (λ (s : Step). HasTurnTo run (turn_of worker place m s after) then) (sym is_step)
      (turn_by write_prime shared (acts_at WritePrime (Moved write_prime) shared needs (refl, is, out, refl, refl)) now (sym fan) refl (sym pages) (sym holder))
  turn_for step (unlatches number needs is is_step fan prime pages passes now) invariant_then last =
      subst (λ (s : Step). HasTurnTo run (turn_of worker place m s after) then) (sym is_step)
      (turn_by_latch (unlatch number) number None invariant_then now fan prime pages passes
      (λ held changes. acts_at (Unlatch number) (Moved (unlatch number)) (record { store = run.shared.store; latches = held }) needs (refl, is, refl, changes)))

-- each step of a world's operation is a turn
pub steps_are_turns : StepsAreTurns
steps_are_turns world worker place m after next step then is is_next steps last =
    let found = invariant world is in
    let its_op = next_is_its world.run worker place m next is_next in
    let busy = next_is_busy found.0 world.run worker place m next found.1 is_next in
    let fits : FitsWords m.op = subst FitsWords (get_or_from_slice_get world.run.ops place m.op m.op busy.same_op) (found.1.shaped.words place m.op (slice_get_within world.run.ops place m.op busy.same_op)) in
    turn_for found.0 world.run found.1 worker place m after next then is_next step steps
    (step_law.step_keeps_invariant (tree_state_of world.run) then worker m after step found.1.invariant fits its_op steps) last
