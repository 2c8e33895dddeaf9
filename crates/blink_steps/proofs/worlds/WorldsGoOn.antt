-- A turn is what was foretold; one of a worker that would move leaves a step fewer; and a world goes on by such turns.
use Rattle.std.proofs.Common.{◌≡◌, ℕ, ◌+◌, ◌-◌, ◌*◌, ◌<◌, ◌≤◌, ◌++◌, true, Option, Some, None, List, [], ◌∷◌, length, map, reverse, slice_get, slice_index_or, sum, refl, ap, sym, ◌∙◌, subst, arith}
use Rattle.std.specs.List.{All}
use Rattle.std.specs.Option.{is_some}
use Rattle.std.specs.Prelude.{IsSome}
use Rattle.std.proofs.lemmas.List.{append_assoc, append-nil, map-append, reverse-append}
use Rattle.std.proofs.lemmas.List.Sums.{sum_by-le, sum_by-set}
use Rattle.std.proofs.lemmas.Option.{get_or_from_slice_get}
use Rattle.blink_batch.specs.declared.Op.{Op}
use Rattle.blink_batch.specs.{Assignment}
use Rattle.blink_page.specs.declared.limits.TheConstants.{MAX_PAGE}
use Rattle.blink_store.specs.{PlainStore}
use Rattle.blink_machine.specs.declared.machine.Debt.{Debt}
use Rattle.blink_machine.specs.declared.machine.Need.{Need}
use Rattle.blink_machine.specs.declared.machine.Need.TheVariants.{ReadPrime, ReadPage, Latch, WriteNew, WritePage, WritePrime, Unlatch, End}
use Rattle.blink_steps.specs.declared.seat.Working.{Working}
use Rattle.blink_machine.specs.declared.step.Kind.{Kind}
use Rattle.blink_machine.specs.declared.step.Step.{Step}
use Rattle.blink_machine.specs.declared.step.Step.TheVariants.{Moved, Waited}
use Rattle.blink_steps.specs.Acts.{PlainShared, Acts, ActsOn}
use Rattle.blink_steps.specs.Counts.{moves_in}
use Rattle.blink_machine.specs.{has_moved, PlainMachine, need_at, SeesPrime, WaitsForLevel}
use Rattle.blink_steps.specs.StepBounds.{steps_at_most_with}
use Rattle.blink_steps.specs.Outcome.{one_more_at}
use Rattle.blink_steps.specs.Pick.{GoesOnPicked, IsFirstMover, WouldMove, WouldWait, steps_at_most, steps_left}
use Rattle.blink_steps.specs.Run.{PlainRun, Event, AppliesEvent, IsHistory, IsNextOf, IsOpeningRun, busy_seat, idle_seat}
use Rattle.blink_steps.specs.World.{PlainWorld, IsWorldOf, MayBegin, SameBatch, TakesStep}
use Rattle.blink_steps.proofs.worlds.WorkersBySeat.{idle_never_waits, only_next}
use Rattle.blink_steps.proofs.runs.TurnFromItsParts.{waits_unchanged}
use Rattle.blink_steps.proofs.worlds.WorldsGoFurther.{goes_further, same_batch}
use Rattle.blink_steps.proofs.worlds.WorldPromises.{counted, place_of_next, shaped, short}

-- ---- a turn of a worker that would move

-- what became of a turn of a worker that would move: a step of an operation of its
pub data MovesOn (old : PlainRun) (taken : Event) (new : PlainRun) : Type 0 where
  by_step : (next : Option ℕ) → IsNextOf old taken.worker taken.place taken.before next → has_moved taken.step ≡ true → new.outcome.moves ≡ one_more_at old.outcome.moves taken.place → MovesOn old taken new

-- it is neither a wait nor passed over
pub mover_moves : (old new : PlainRun) (taken : Event) → AppliesEvent old taken new → WouldMove old taken.worker → MovesOn old taken new
mover_moves old new taken (AppliesEvent.moves next kind is_next step acts same) moves =
    MovesOn.by_step next is_next (ap has_moved step) (ap (λ (run : PlainRun). run.outcome.moves) same)
mover_moves old new taken (AppliesEvent.waits next is_next step acts same) moves =
    let unchanged = waits_unchanged (need_at taken.before.state) old.shared taken.worker taken.before taken.after old.shared acts in
    let waits = subst (λ (m : PlainMachine). Acts old.shared taken.worker taken.before Waited m old.shared) unchanged.0 acts in
    absurd (moves.not_waiting (record { place = taken.place; m = taken.before; next = next; is_next = is_next; waits = waits }))
mover_moves old new taken (AppliesEvent.idles seat step same) moves = absurd (moves.not_at_end seat)

-- so a worker that would move does, at its turn
pub would_move_moves : (old new : PlainWorld) (worker : ℕ) (step : Step) → TakesStep old worker step new → WouldMove old.run worker → has_moved step ≡ true
would_move_moves old new worker step takes moves = elim (mover_moves old.run new.run takes.taken takes.turn (subst (λ (n : ℕ). WouldMove old.run n) (sym takes.same_worker) moves)) [
  | MovesOn.by_step next is_next moved counts ↦ ap has_moved (sym takes.same_step) ∙ moved
]

-- ---- a turn of a worker that would wait

-- an operation that needs this doesn't both wait and move
never_both : (need : Need) (shared after_shared : PlainShared) (worker : ℕ) (m after : PlainMachine) (kind : Kind) → ActsOn need shared worker m Waited m shared
    → ActsOn need shared worker m (Moved kind) after after_shared → ⊥
never_both ReadPrime shared after_shared worker m after kind waits moves = sees_and_waits waits.0 moves.1
  where
    sees_and_waits : WaitsForLevel m shared.store.prime → SeesPrime m shared.store.prime after → ⊥
    sees_and_waits waiting (SeesPrime.begins top start last is) = let both = waiting.posting in cc
    sees_and_waits waiting (SeesPrime.asks_of_root page debt state top is) = let both = waiting.posting in cc
    sees_and_waits waiting (SeesPrime.asks_of_other page debt state other is) = let both = waiting.posting in cc
    sees_and_waits waiting (SeesPrime.finds_leftmost debt leftmost state job there is) =
        let same : debt ≡ waiting.debt = (let other = waiting.job in cc) in
        let none : slice_get shared.store.prime (debt.level + 1) ≡ None = subst (λ (d : Debt). slice_get shared.store.prime (d.level + 1) ≡ None) (sym same) waiting.not_there in
        cc
never_both (ReadPage number) shared after_shared worker m after kind waits moves = waits
never_both (Latch number) shared after_shared worker m after kind waits moves = let none : is_some {T = ℕ} None ≡ true = subst (λ (holder : Option ℕ). IsSome holder) moves.1 waits.0 in cc
never_both WriteNew shared after_shared worker m after kind waits moves = waits
never_both (WritePage number) shared after_shared worker m after kind waits moves = waits
never_both WritePrime shared after_shared worker m after kind waits moves = waits
never_both (Unlatch number) shared after_shared worker m after kind waits moves = waits
never_both End shared after_shared worker m after kind waits moves = waits

-- so the operation of a worker that would wait does
waiter_waits : (old new : PlainRun) (taken : Event) → AppliesEvent old taken new → WouldWait old taken.worker → taken.step ≡ Waited
waiter_waits old new taken (AppliesEvent.moves next kind is_next step acts same) wait = absurd (by_next is_next)
  where
    by_next : IsNextOf old taken.worker taken.place taken.before next → ⊥
    by_next (IsNextOf.under_way busy) =
        let working : Working = record { place = taken.place; machine = taken.before } in
        let its : wait.m ≡ taken.before = only_next old taken.worker (busy_seat taken.place taken.before next) busy working wait.place wait.m wait.next refl wait.is_next in
        let waits = subst (λ (m : PlainMachine). Acts old.shared taken.worker m Waited m old.shared) its wait.waits in
        never_both (need_at taken.before.state) old.shared new.shared taken.worker taken.before taken.after kind waits acts
    by_next (IsNextOf.taken_on op idle there is_fresh after) = idle_never_waits old taken.worker (idle_seat (Some taken.place)) idle refl wait
waiter_waits old new taken (AppliesEvent.waits next is_next step acts same) wait = step
waiter_waits old new taken (AppliesEvent.idles seat step same) wait = absurd (idle_never_waits old taken.worker (idle_seat None) seat refl wait)

-- and so its turn is a wait
pub would_wait_waits : (old new : PlainWorld) (worker : ℕ) (step : Step) → TakesStep old worker step new → WouldWait old.run worker → step ≡ Waited
would_wait_waits old new worker step takes wait =
    sym takes.same_step ∙ waiter_waits old.run new.run takes.taken takes.turn (subst (λ (n : ℕ). WouldWait old.run n) (sym takes.same_worker) wait)

-- ---- the steps that are left

-- one more at a place of a list is one more in all
sum-one_more_at : (counts : List ℕ) (place : ℕ) → place < length counts → sum (one_more_at counts place) ≡ sum counts + 1
sum-one_more_at counts place within = omega (arith, sum_by-set (λ (x : ℕ). x) counts place (slice_index_or counts place 0 + 1) 0 within)

-- no operation has taken more steps than the pages allow that there can be
counted_moves_are_few : (start : PlainStore) (world : PlainWorld) → IsWorldOf start world → All (λ count. count ≤ steps_at_most_with MAX_PAGE) world.run.outcome.moves
counted_moves_are_few start world is_world place default within =
    let lists = shaped world (start, is_world) in
    let at_place : place < length world.run.ops = omega (arith, lists.a_move_count_each) in
    let count = get_or_from_slice_get world.run.outcome.moves place (moves_in is_world.history place) default ((counted start world is_world).moves place at_place) in
    let few = (short start world is_world).moves place in
    let pages : length world.run.shared.store.pages ≤ MAX_PAGE = lists.lawful_store.count_in_range.1 in
    omega arith

-- so all of them together have a limit
moves_within : (start : PlainStore) (world : PlainWorld) → IsWorldOf start world → sum world.run.outcome.moves ≤ steps_at_most world.run
moves_within start world is_world =
    let each = sum_by-le (λ (count : ℕ). count) (steps_at_most_with MAX_PAGE) world.run.outcome.moves (counted_moves_are_few start world is_world) in
    let as_many = (shaped world (start, is_world)).a_move_count_each in
    subst (λ (n : ℕ). sum world.run.outcome.moves ≤ n * steps_at_most_with MAX_PAGE) as_many each

nearer_to : (limit before after : ℕ) → after ≡ before + 1 → after ≤ limit → limit - after < limit - before
nearer_to limit before after more within = omega arith

-- a turn of a worker that would move leaves fewer steps
pub nearer : (start : PlainStore) (old new : PlainWorld) (worker : ℕ) (step : Step) → IsWorldOf start old → TakesStep old worker step new → WouldMove old.run worker
    → steps_left new.run < steps_left old.run
nearer start old new worker step is_world takes moves = elim (mover_moves old.run new.run takes.taken takes.turn (subst (λ (n : ℕ). WouldMove old.run n) (sym takes.same_worker) moves)) [
  | MovesOn.by_step next is_next moved counts ↦
      let lists = shaped old (start, is_world) in
      let place : takes.taken.place < length old.run.ops = place_of_next old (start, is_world) takes.taken.worker takes.taken.place takes.taken.before next is_next in
      let more : sum new.run.outcome.moves ≡ sum old.run.outcome.moves + 1 = ap (λ (xs : List ℕ). sum xs) counts ∙ sum-one_more_at old.run.outcome.moves takes.taken.place (omega (arith, lists.a_move_count_each)) in
      let within : sum new.run.outcome.moves ≤ steps_at_most old.run =
      subst (λ (ops : List Op). sum new.run.outcome.moves ≤ length ops * steps_at_most_with MAX_PAGE) (same_batch old.run new.run takes.taken takes.turn).same_ops
      (moves_within start new (goes_further start old new worker step is_world takes)) in
      subst (λ (ops : List Op). length ops * steps_at_most_with MAX_PAGE - sum new.run.outcome.moves < steps_left old.run) (sym (same_batch old.run new.run takes.taken takes.turn).same_ops)
      (nearer_to (steps_at_most old.run) (sum old.run.outcome.moves) (sum new.run.outcome.moves) more within)
]

-- ---- a world that goes on

-- before any turn
pub picked_none : (world : PlainWorld) → GoesOnPicked world world
picked_none world = record { turns = []; follows = refl; picked = tt; told = sym (append-nil world.schedule) }

-- after one turn more
pub picked_further : (old between new : PlainWorld) (worker : ℕ) (step : Step) → GoesOnPicked old between → IsFirstMover between.run worker → TakesStep between worker step new
    → GoesOnPicked old new
picked_further old between new worker step goes first takes =
    let workers : List ℕ = map (λ (taken : Event). taken.worker) goes.turns in
    record {
      turns = takes.taken ∷ goes.turns;
      follows = (between.run, goes.follows, takes.turn);
      picked = (subst (λ (n : ℕ). IsFirstMover between.run n) (sym takes.same_worker) first, goes.picked);
      told = takes.told
          ∙ ap (λ (n : ℕ). between.schedule ++ n ∷ []) (sym takes.same_worker)
          ∙ ap (λ (xs : List ℕ). xs ++ takes.taken.worker ∷ []) goes.told
          ∙ append_assoc old.schedule (reverse workers) (takes.taken.worker ∷ [])
          ∙ ap (λ (xs : List ℕ). old.schedule ++ xs) (sym (reverse-append (takes.taken.worker ∷ []) workers));
    }

-- turns after turns
follows_on : (start between run : PlainRun) (earlier later : List Event) → IsHistory start earlier between → IsHistory between later run → IsHistory start (later ++ earlier) run
follows_on start between run earlier [] first same = subst (λ (r : PlainRun). IsHistory start earlier r) (sym same) first
follows_on start between run earlier (taken ∷ later) first follows = (follows.0, follows_on start between follows.0 earlier later first follows.1, follows.2)

-- they leave the batch and its lanes
pub same_batch_along : (start run : PlainRun) (history : List Event) → IsHistory start history run → SameBatch start run
same_batch_along start run [] same = record { same_ops = ap (λ (r : PlainRun). r.ops) same; same_assignment = ap (λ (r : PlainRun). r.assignment) same }
same_batch_along start run (taken ∷ history) follows =
    let last = same_batch follows.0 run taken follows.2 in
    let before = same_batch_along start follows.0 history follows.1 in
    record { same_ops = last.same_ops ∙ before.same_ops; same_assignment = last.same_assignment ∙ before.same_assignment }

pub same_batch_then : (old new : PlainWorld) → GoesOnPicked old new → SameBatch old.run new.run
same_batch_then old new goes = same_batch_along old.run new.run goes.turns goes.follows

-- and lead to a world of the same start
pub world_goes_on : (start : PlainStore) (old new : PlainWorld) → GoesOnPicked old new → IsWorldOf start old → IsWorldOf start new
world_goes_on start old new goes is_world =
    let same = same_batch_along old.run new.run goes.turns goes.follows in
    let worker_of : Event → ℕ = λ taken. taken.worker in
    record {
      may_begin = subst (λ (ops : List Op). MayBegin start ops new.run.assignment) (sym same.same_ops) (subst (λ (a : Assignment). MayBegin start old.run.ops a) (sym same.same_assignment) is_world.may_begin);
      opening = is_world.opening;
      is_opening = subst (λ (ops : List Op). IsOpeningRun start ops new.run.assignment is_world.opening) (sym same.same_ops) (subst (λ (a : Assignment). IsOpeningRun start old.run.ops a is_world.opening) (sym same.same_assignment) is_world.is_opening);
      history = goes.turns ++ is_world.history;
      follows = follows_on is_world.opening old.run new.run is_world.history goes.turns is_world.follows goes.follows;
      same_schedule = goes.told
          ∙ ap (λ (xs : List ℕ). xs ++ reverse (map worker_of goes.turns)) is_world.same_schedule
          ∙ sym (reverse-append (map worker_of goes.turns) (map worker_of is_world.history))
          ∙ ap (λ (xs : List ℕ). reverse xs) (sym (map-append worker_of goes.turns is_world.history));
    }
