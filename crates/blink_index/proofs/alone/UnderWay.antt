-- What holds of a store and of the operation that a worker alone carries out on it, from its first step to its end.
use Rattle.std.proofs.Common.{◌≡◌, ◌≢◌, ℕ, ◌+◌, ◌-◌, ◌<◌, ◌≤◌, Option, Some, None, List, [], ◌∷◌, length, true, refl, sym, ap, subst, ◌∙◌, arith, length-append}
use Rattle.std.specs.Prelude.{IsSome}
use Rattle.std.proofs.lemmas.List.{length-set}
use Rattle.blink_operation.specs.declared.Answer.{Answer}
use Rattle.blink_operation.specs.declared.Entry.{Entry}
use Rattle.blink_operation.specs.declared.Op.{Op}
use Rattle.blink_operation.specs.{FitsWords, IsAscending, answer_of, map_after}
use Rattle.blink_page.specs.{IsPageNumber}
use Rattle.blink_page.specs.declared.limits.TheConstants.{GREATEST_KEY, MAX_NEW_PAGES_PER_INSERT, MAX_PAGE}
use Rattle.blink_rest.specs.{AreEntries, IsStoreAtRest, pairs_of}
use Rattle.blink_rest.proofs.Offered.{ascending_from, entries_ascend, entries_from-pairs_of}
use Rattle.blink_store.specs.{IsLawfulStore, PlainStore, page_of}
use Rattle.blink_store.proofs.Offered.{lawful-add, lawful-write}
use Rattle.blink_machine.specs.declared.machine.Need.{Need}
use Rattle.blink_machine.specs.declared.machine.Need.TheVariants.{ReadPrime, ReadPage, Latch, WriteNew, WritePage, WritePrime, Unlatch, End}
use Rattle.blink_machine.specs.declared.machine.State.{State}
use Rattle.blink_machine.specs.declared.machine.State.TheVariants.{SplitNew, Root, Start, Ended}
use Rattle.blink_machine.specs.declared.step.Step.TheVariants.{Moved}
use Rattle.blink_machine.specs.{Decides, IsInOrder, IsItsOperation, PlainMachine, PrimeOut, UsesUp, WaitsForLevel, deciding, fresh, goes_on, latch_of, need_at, numbers_left, one_if, other, page_out, taken_on, under_way, writes_new_page}
use Rattle.blink_machine.specs.Invariant.{Invariant}
use Rattle.blink_machine.proofs.Offered.{goes_on_if_needed, has_answer_at_end, never_stuck, step_law, tree_laws, IsWaiting}
use Rattle.blink_index.specs.Drive.{ActsOn, CanActOn}
use Rattle.blink_index.specs.Edit.{IsEdited}
use Rattle.blink_entries.specs.Index.{map_of}
use Rattle.blink_entries.proofs.Offered.{no_other_map_is_kept, the_map_is_kept}
use Rattle.blink_index.proofs.alone.ActsAreSteps.{MovesAlone, acts_alone}
use Rattle.blink_index.proofs.alone.AloneInTree.{alone, begins_alone, no_operation, only_it_works, rests_at_end}
use Rattle.blink_index.proofs.alone.StepsLeft.{steps_left, steps_left_fall}

-- the store's entries are those of this plain map
abbrev pub HasMap : PlainStore → List Entry → Type 0
HasMap store entries = AreEntries store.fan store.prime (page_of store) (pairs_of entries)

-- before it answers the operation has changed no entry; then it has answered as a plain map does, and changed the entries so
abbrev pub DecidedSoFar : List Entry → Op → Option Answer → PlainStore → Type 0
DecidedSoFar entries op None store = HasMap store entries
DecidedSoFar entries op (Some answer) store = (answer ≡ answer_of entries op) × HasMap store (map_after entries op)

-- what holds of the store and the operation, of which the store was at rest when it began
pub record IsUnderWay (start store : PlainStore) (op : Op) (m : PlainMachine) : Type 0 where
  pub invariant : Invariant (alone store m)
  pub lawful : IsLawfulStore store
  pub same_op : m.op ≡ op
  pub same_fan : store.fan ≡ start.fan
  pub decided : DecidedSoFar (map_of start) op m.answer store
  pub answered_at_end : m.state ≡ Ended → IsSome m.answer
  pub few_pages : length store.pages + numbers_left m ≤ length start.pages + MAX_NEW_PAGES_PER_INSERT

-- the entries of a tree ascend
ascends : (store : PlainStore) (entries : List Entry) → HasMap store entries → IsAscending entries
ascends store entries has = subst IsAscending (entries_from-pairs_of entries)
    (ascending_from 0 (pairs_of entries) (GREATEST_KEY + 1) (entries_ascend store.fan store.prime (page_of store) (pairs_of entries) has))

-- only an operation that has ended needs nothing
ended_if_at_end : (state : State) → need_at state ≡ End → state ≡ Ended
ended_if_at_end Ended needs = refl
ended_if_at_end state needs = absurd (cc)

-- a step that writes a new page is one of a state that says so
new_page_told : (state : State) → need_at state ≡ WriteNew → writes_new_page state ≡ true
new_page_told (SplitNew page before) needs = refl
new_page_told (Root page debt prime) needs = refl
new_page_told state needs = absurd (cc)

module _ (start store new : PlainStore) (op : Op) (before m after : PlainMachine) (same_latch : latch_of before ≡ latch_of m) (invariant : Invariant (alone store before))
    (its : IsItsOperation (alone store before) 0 m) (lawful : IsLawfulStore store) (words : FitsWords op) (same_op : m.op ≡ op)
    (enough : length store.pages + numbers_left m ≤ MAX_PAGE) where
  order : IsInOrder (alone store before)
  order = step_law.invariant_gives_order (alone store before) invariant

  own_words : FitsWords m.op
  own_words = subst FitsWords (sym same_op) words

  -- alone it never waits
  waits_for_nothing : (its_own : IsItsOperation (alone store before) 0 m) → WaitsForLevel m store.prime → ⊥
  waits_for_nothing (IsItsOperation.taken_on begun none same) waits = let posting = waits.posting in let starts = ap (λ (x : PlainMachine). x.state) same in absurd (cc)
  waits_for_nothing (IsItsOperation.under_way under) waits =
      let it = never_stuck tree_laws (alone store before) 0 m invariant under in
      let same : m ≡ it.m = cc (under, (only_it_works (goes_on before before.state) it.worker it.m it.under_way).1) in
      it.moves (subst (λ (n : PlainMachine). IsWaiting (alone store before) n) same (IsWaiting.for_level waits))

  -- a new page gets a number
  new_number : need_at m.state ≡ WriteNew → IsPageNumber (length store.pages + 1)
  new_number needs =
      let some = (step_law.allowance_is_used_up.enough (alone store before) 0 m invariant its).numbers needs in
      (omega arith, omega (arith, some, enough))

  can_at : (need : Need) → need_at m.state ≡ need → m.state ≢ Ended → CanActOn need store m
  can_at ReadPrime needs goes = (order.few_levels, waits_for_nothing its)
  can_at (ReadPage number) needs goes =
      let reads = order.reads_page 0 number m its needs in
      record { page = reads.page; there = reads.there; readable = reads.readable }
  can_at (Latch number) needs goes = tt
  can_at WriteNew needs goes = new_number needs
  can_at (WritePage number) needs goes = let writes = order.writes_page 0 number m its needs in (writes.before, writes.there)
  can_at WritePrime needs goes = tt
  can_at (Unlatch number) needs goes = tt
  can_at End needs goes = absurd (goes (ended_if_at_end m.state needs))

  -- so it can take its next step
  pub can_act : m.state ≢ Ended → CanActOn (need_at m.state) store m
  can_act goes = can_at (need_at m.state) refl goes

  -- the store stays lawful
  lawful_at : (need : Need) → need_at m.state ≡ need → ActsOn need store m after new → IsLawfulStore new
  lawful_at ReadPrime needs acts = subst IsLawfulStore (sym acts.1) lawful
  lawful_at (ReadPage number) needs acts = subst IsLawfulStore (sym acts.1) lawful
  lawful_at (Latch number) needs acts = subst IsLawfulStore (sym acts.1) lawful
  lawful_at WriteNew needs acts =
      let number = new_number needs in
      subst IsLawfulStore (sym acts.1)
      (lawful-add store (page_out m (length store.pages + 1)) true lawful (order.writes_new 0 (length store.pages + 1) m its needs number) (λ full. omega (arith, full, number.1)))
  lawful_at (WritePage number) needs acts =
      subst IsLawfulStore (sym acts.1) (lawful-write store (page_out m 0) (number - 1) lawful (order.writes_page 0 number m its needs).lawful)
  lawful_at WritePrime needs acts = subst IsLawfulStore (sym acts.2) (record {
    fan_in_range = lawful.fan_in_range;
    some_level = named new.prime acts.1;
    prime_numbers = order.writes_prime 0 m new.prime its needs acts.1 lawful.prime_numbers;
    lawful_pages = lawful.lawful_pages;
    count_in_range = lawful.count_in_range;
  })
    where
      named : (prime : List ℕ) → PrimeOut m prime → 0 < length prime
      named prime (PrimeOut.adds_root page debt root read is same) = let long = ap length same in let more = length-append read (root ∷ []) in omega (arith, long, more)
  lawful_at (Unlatch number) needs acts = subst IsLawfulStore (sym acts.1) lawful
  lawful_at End needs acts = absurd acts

  -- a new page is one that the operation may write
  counted_at : (need : Need) → need_at m.state ≡ need → ActsOn need store m after new → length new.pages ≤ length store.pages + one_if (writes_new_page m.state)
  counted_at WriteNew needs acts =
      let told = ap one_if (new_page_told m.state needs) in
      let long = ap (λ (s : PlainStore). length s.pages) acts.1 in
      let more = length-append store.pages (page_out m (length store.pages + 1) ∷ []) in
      omega (arith, told, long, more)
  counted_at (WritePage number) needs acts =
      let long = ap (λ (s : PlainStore). length s.pages) acts.1 in
      let as_many = length-set store.pages (number - 1) (page_out m 0) in
      omega (arith, long, as_many)
  counted_at WritePrime needs acts = let long = ap (λ (s : PlainStore). length s.pages) acts.2 in omega (arith, long)
  counted_at End needs acts = absurd acts
  counted_at ReadPrime needs acts = let long = ap (λ (s : PlainStore). length s.pages) acts.1 in omega (arith, long)
  counted_at (ReadPage number) needs acts = let long = ap (λ (s : PlainStore). length s.pages) acts.1 in omega (arith, long)
  counted_at (Latch number) needs acts = let long = ap (λ (s : PlainStore). length s.pages) acts.1 in omega (arith, long)
  counted_at (Unlatch number) needs acts = let long = ap (λ (s : PlainStore). length s.pages) acts.1 in omega (arith, long)

  module _ (goes : m.state ≢ Ended) (acts : ActsOn (need_at m.state) store m after new) where
    moved : MovesAlone store new before m after
    moved = acts_alone store new before m after same_latch (can_act goes) acts

    used : UsesUp m (Moved moved.kind) after
    used = step_law.allowance_is_used_up.by_step (alone store before) (alone new after) 0 m after (Moved moved.kind) invariant own_words its moved.step

    decides : (entries : List Entry) → HasMap store entries → Decides (alone new after) m after entries
    decides entries has = step_law.step_decides (alone store before) (alone new after) 0 m after (Moved moved.kind) entries invariant own_words its moved.step (ascends store entries has) has

    decided_after : (answer : Option Answer) → m.answer ≡ answer → DecidedSoFar (map_of start) op answer store → DecidedSoFar (map_of start) op after.answer new
    decided_after None is has = elim (decides (map_of start) has) [
      | deciding was answers entries ↦
          subst (λ (o : Option Answer). DecidedSoFar (map_of start) op o new) (sym answers)
          (ap (answer_of (map_of start)) same_op, subst (λ (o : Op). HasMap new (map_after (map_of start) o)) same_op entries)
      | other same entries ↦ subst (λ (o : Option Answer). DecidedSoFar (map_of start) op o new) (sym (same ∙ is)) entries
    ]
    decided_after (Some answer) is has = elim (decides (map_after (map_of start) op) has.1) [
      | deciding was answers entries ↦ absurd (cc)
      | other same entries ↦ subst (λ (o : Option Answer). DecidedSoFar (map_of start) op o new) (sym (same ∙ is)) (has.0, entries)
    ]

    same_fan_at : (need : Need) → ActsOn need store m after new → new.fan ≡ store.fan
    same_fan_at WriteNew done = ap (λ (s : PlainStore). s.fan) done.1
    same_fan_at (WritePage number) done = ap (λ (s : PlainStore). s.fan) done.1
    same_fan_at WritePrime done = ap (λ (s : PlainStore). s.fan) done.2
    same_fan_at End done = absurd done
    same_fan_at ReadPrime done = ap (λ (s : PlainStore). s.fan) done.1
    same_fan_at (ReadPage number) done = ap (λ (s : PlainStore). s.fan) done.1
    same_fan_at (Latch number) done = ap (λ (s : PlainStore). s.fan) done.1
    same_fan_at (Unlatch number) done = ap (λ (s : PlainStore). s.fan) done.1

    -- after its step it is under way
    pub under_way_after : store.fan ≡ start.fan → DecidedSoFar (map_of start) op m.answer store
        → length store.pages + numbers_left m ≤ length start.pages + MAX_NEW_PAGES_PER_INSERT → IsUnderWay start new op after
    under_way_after same_fan decided few = record {
      invariant = step_law.step_keeps_invariant (alone store before) (alone new after) 0 m after (Moved moved.kind) invariant own_words its moved.step;
      lawful = lawful_at (need_at m.state) refl acts;
      same_op = used.same_op ∙ same_op;
      same_fan = same_fan_at (need_at m.state) acts ∙ same_fan;
      decided = decided_after m.answer refl decided;
      answered_at_end = λ ends. has_answer_at_end (alone store before) invariant 0 m after its ends (Moved moved.kind) (alone new after) moved.step;
      few_pages = omega (arith, counted_at (need_at m.state) refl acts, used.numbers, few);
    }

-- ---- from its beginning to its end

module _ (start : PlainStore) (op : Op) (lawful : IsLawfulStore start) (at_rest : IsStoreAtRest start) (words : FitsWords op)
    (numbers : length start.pages + MAX_NEW_PAGES_PER_INSERT ≤ MAX_PAGE) where
  few_needed : numbers_left (fresh start.fan op) ≤ MAX_NEW_PAGES_PER_INSERT
  few_needed = (step_law.allowance_is_used_up.at_its_begin start.fan op).0

  begins_with : IsItsOperation (alone start (no_operation start.fan)) 0 (fresh start.fan op)
  begins_with = taken_on op refl refl

  pub can_begin : CanActOn (need_at Start) start (fresh start.fan op)
  can_begin = can_act start start start op (no_operation start.fan) (fresh start.fan op) (fresh start.fan op) refl (begins_alone start lawful at_rest) begins_with lawful words refl
      (omega (arith, few_needed, numbers)) (λ ends. cc)

  -- the first step
  pub under_way_at_first : (new : PlainStore) (after : PlainMachine) → ActsOn (need_at Start) start (fresh start.fan op) after new → IsUnderWay start new op after
  under_way_at_first new after acts =
      under_way_after start start new op (no_operation start.fan) (fresh start.fan op) after refl (begins_alone start lawful at_rest) begins_with lawful words refl
      (omega (arith, few_needed, numbers)) (λ ends. cc) acts refl (the_map_is_kept start at_rest).kept (omega (arith, few_needed))

  module _ (store : PlainStore) (m : PlainMachine) (at : IsUnderWay start store op m) (goes : m.state ≢ Ended) where
    it_is_under_way : IsItsOperation (alone store m) 0 m
    it_is_under_way = under_way (goes_on_if_needed m m.state (λ ends. goes (ended_if_at_end m.state ends)))

    pub can_go_on : CanActOn (need_at m.state) store m
    can_go_on = can_act start store store op m m m refl at.invariant it_is_under_way at.lawful words at.same_op (omega (arith, at.few_pages, numbers)) goes

    -- its fan is the tree's
    pub own_fan : m.fan ≡ store.fan
    own_fan = (step_law.invariant_gives_order (alone store m) at.invariant).same_fan 0 m it_is_under_way

    -- there is room for a new page
    pub room_left : need_at m.state ≡ WriteNew → length store.pages < length start.pages + MAX_NEW_PAGES_PER_INSERT
    room_left needs =
        let some = (step_law.allowance_is_used_up.enough (alone store m) 0 m at.invariant it_is_under_way).numbers needs in
        omega (arith, some, at.few_pages)

    module _ (new : PlainStore) (after : PlainMachine) (acts : ActsOn (need_at m.state) store m after new) where
      -- each step after it
      pub under_way_still : IsUnderWay start new op after
      under_way_still =
          under_way_after start store new op m m after refl at.invariant it_is_under_way at.lawful words at.same_op (omega (arith, at.few_pages, numbers)) goes acts at.same_fan at.decided at.few_pages

      -- leads on
      pub fewer_left : steps_left new.prime (page_of new) after < steps_left store.prime (page_of store) m
      fewer_left =
          let move = moved start store new op m m after refl at.invariant it_is_under_way at.lawful words at.same_op (omega (arith, at.few_pages, numbers)) goes acts in
          steps_left_fall (alone store m) at.invariant 0 m (goes_on_if_needed m m.state (λ ends. goes (ended_if_at_end m.state ends))) (alone new after) after move.kind
          (subst FitsWords (sym at.same_op) words) move.step

  -- where it has ended the operation is carried out
  pub edited_at_end : (store : PlainStore) (m : PlainMachine) → IsUnderWay start store op m → m.state ≡ Ended → IsEdited start store op (answer_of (map_of start) op)
  edited_at_end store m at ended =
      let rests = rests_at_end store m at.invariant ended in
      record {
        rests = rests;
        answers = refl;
        maps = sym (no_other_map_is_kept store (map_after (map_of start) op) rests (mapped m.answer (at.answered_at_end ended) at.decided));
        kept = the_map_is_kept store rests;
        same_fan = at.same_fan;
      }
    where
      mapped : (answer : Option Answer) → IsSome answer → DecidedSoFar (map_of start) op answer store → HasMap store (map_after (map_of start) op)
      mapped None some has = absurd (cc)
      mapped (Some answer) some has = has.1
