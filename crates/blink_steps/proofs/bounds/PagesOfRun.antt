-- The pages of a run are those of its start and one for each number that an operation has taken.
use Rattle.std.proofs.Common.{◌≡◌, ℕ, zero, suc, ◌+◌, ◌*◌, ◌<◌, ◌≤◌, ◌∙◌, Bool, Some, List, [], ◌∷◌, length, count_by, slice_get, refl, ap, inl, inr, arith}
use Rattle.std.proofs.lemmas.Bool.{cases_Bool, cases_eq}
use Rattle.blink_store.specs.{PlainStore}
use Rattle.blink_machine.specs.declared.machine.State.{State}
use Rattle.blink_machine.specs.declared.machine.State.TheVariants.{Start, Going, Want, Held, Change, SplitNew, SplitOld, AskPrime, Root, NewPrime, Leave, Posting, Ended}
use Rattle.blink_machine.specs.declared.step.Kind.{Kind}
use Rattle.blink_machine.specs.declared.step.Step.TheVariants.{Moved}
use Rattle.blink_steps.specs.Acts.{PlainShared, ActsOn, Acts}
use Rattle.blink_steps.specs.Counts.{numbers_in, takes_number}
use Rattle.blink_machine.specs.{writes_new_page, PlainMachine, need_at, one_if}
use Rattle.blink_steps.specs.Run.{PlainRun, Event, AppliesEvent, IsHistory}
use Rattle.blink_steps.proofs.bounds.CountedTurns.{count_by-cons, turns_of-own, turns_of-other}

-- a step makes a page just where it takes a number
pages_after : (old new : PlainShared) (worker : ℕ) (m after : PlainMachine) (kind : Kind) → Acts old worker m (Moved kind) after new
    → length new.store.pages ≡ length old.store.pages + one_if (writes_new_page m.state)
pages_after old new worker m after kind acts = by_state old new worker m after kind m.state acts
  where
    same_pages : (old new : PlainShared) → new.store ≡ old.store → length new.store.pages ≡ length old.store.pages + 0
    same_pages old new same = ap (λ (store : PlainStore). length store.pages) same ∙ omega arith

    by_state : (old new : PlainShared) (worker : ℕ) (m after : PlainMachine) (kind : Kind) (state : State) → ActsOn (need_at state) old worker m (Moved kind) after new
        → length new.store.pages ≡ length old.store.pages + one_if (writes_new_page state)
    by_state old new worker m after kind Start acts = same_pages old new (ap (λ (shared : PlainShared). shared.store) acts.2)
    by_state old new worker m after kind (Going page level) acts = same_pages old new (ap (λ (shared : PlainShared). shared.store) acts.2)
    by_state old new worker m after kind (Want page) acts = same_pages old new acts.3
    by_state old new worker m after kind (Held page) acts = same_pages old new (ap (λ (shared : PlainShared). shared.store) acts.2)
    by_state old new worker m after kind (Change page changed kept) acts = acts.3 ∙ omega arith
    by_state old new worker m after kind (SplitNew page before) acts = acts.4
    by_state old new worker m after kind (SplitOld page lower debt) acts = acts.3 ∙ omega arith
    by_state old new worker m after kind (AskPrime page debt) acts = same_pages old new (ap (λ (shared : PlainShared). shared.store) acts.2)
    by_state old new worker m after kind (Root page debt prime) acts = acts.4
    by_state old new worker m after kind (NewPrime page debt root prime) acts = ap (λ (store : PlainStore). length store.pages) acts.3 ∙ omega arith
    by_state old new worker m after kind (Leave page next) acts = same_pages old new acts.2
    by_state old new worker m after kind Posting acts = same_pages old new (ap (λ (shared : PlainShared). shared.store) acts.2)
    by_state old new worker m after kind Ended acts = absurd acts

-- so a run has a page more for each number taken
pub pages_along : (start run : PlainRun) (history : List Event) → IsHistory start history run
    → length run.shared.store.pages ≡ length start.shared.store.pages + count_by takes_number history
pages_along start run [] same = ap (λ (run : PlainRun). length run.shared.store.pages) same ∙ omega arith
pages_along start run (taken ∷ history) (before, follows, turn) =
    let earlier = pages_along start before history follows in
    let grows = pages_of_turn before taken run turn in
    let more = count_by-cons takes_number taken history in
    omega arith
  where
    pages_of_turn : (before : PlainRun) (taken : Event) (run : PlainRun) → AppliesEvent before taken run
        → length run.shared.store.pages ≡ length before.shared.store.pages + one_if (takes_number taken)
    pages_of_turn before taken run (AppliesEvent.moves next kind is_next moved acts same) =
        rw moved (pages_after before.shared run.shared taken.worker taken.before taken.after kind acts)
    pages_of_turn before taken run (AppliesEvent.waits next is_next waited acts same) =
        rw waited (ap (λ (run : PlainRun). length run.shared.store.pages) same ∙ omega arith)
    pages_of_turn before taken run (AppliesEvent.idles idle idled same) =
        rw idled (ap (λ (run : PlainRun). length run.shared.store.pages) same ∙ omega arith)

-- the numbers that were taken at some places, from one on, as many as the list is long
abbrev pub numbers_from : {X : Type 0} → List Event → ℕ → List X → ℕ
numbers_from history place [] = 0
numbers_from history place (x ∷ xs) = numbers_in history place + numbers_from history (place + 1) xs

-- one more turn takes none away at a place
numbers_in_grow : (taken : Event) (history : List Event) (place : ℕ) → numbers_in history place ≤ numbers_in (taken ∷ history) place
numbers_in_grow taken history place = elim (cases_eq taken.place place) [
  | inl same ↦ rw (turns_of-own place takes_number taken history same) (omega arith)
  | inr other ↦ rw (turns_of-other place takes_number taken history other) (omega arith)
]

-- nor at any places
numbers_grow : {X : Type 0} (taken : Event) (history : List Event) (place : ℕ) (xs : List X) → numbers_from history place xs ≤ numbers_from (taken ∷ history) place xs
numbers_grow taken history place [] = omega arith
numbers_grow taken history place (x ∷ xs) =
    let here = numbers_in_grow taken history place in
    let rest = numbers_grow taken history (place + 1) xs in
    omega arith

-- and a turn at one of the places adds its own
numbers_more : {X : Type 0} (taken : Event) (history : List Event) (place : ℕ) (xs : List X) → place ≤ taken.place → taken.place < place + length xs
    → numbers_from history place xs + one_if (takes_number taken) ≤ numbers_from (taken ∷ history) place xs
numbers_more taken history place [] from to = absurd (omega arith)
numbers_more taken history place (x ∷ xs) from to = elim (cases_eq taken.place place) [
  | inl same ↦
      let here = turns_of-own place takes_number taken history same in
      let rest = numbers_grow taken history (place + 1) xs in
      omega arith
  | inr other ↦
      let here = numbers_in_grow taken history place in
      let rest = numbers_more taken history (place + 1) xs (omega arith) (omega arith) in
      omega arith
]

-- so all numbers that were taken were taken at the places of a list, if none was taken at another
pub numbers_are_of_places : {X : Type 0} (history : List Event) (xs : List X) → ((place : ℕ) → 0 < numbers_in history place → place < length xs)
    → count_by takes_number history ≤ numbers_from history 0 xs
numbers_are_of_places [] xs within = omega arith
numbers_are_of_places (taken ∷ history) xs within =
    let earlier = numbers_are_of_places history xs (λ place some. let more = numbers_in_grow taken history place in within place (omega arith)) in
    let count = count_by-cons takes_number taken history in
    elim (cases_Bool (takes_number taken)) [
      | inr none ↦
          let count_none : one_if (takes_number taken) ≡ 0 = ap one_if none in
          let rest = numbers_grow taken history 0 xs in
          omega arith
      | inl takes ↦
          let count_one : one_if (takes_number taken) ≡ 1 = ap one_if takes in
          let own = turns_of-own taken.place takes_number taken history refl in
          let inside : taken.place < length xs = within taken.place (omega arith) in
          let more = numbers_more taken history 0 xs (omega arith) (omega arith) in
          omega arith
    ]

-- the numbers taken at the places of a list, where at most 22 are taken at those that pass a test and none at the others
pub numbers_by_test : {X : Type 0} (test : X → Bool) (history : List Event) (place : ℕ) (xs : List X)
    → ((i at : ℕ) (x : X) → slice_get xs i ≡ Some x → at ≡ place + i → numbers_in history at ≤ 22 * one_if (test x))
    → numbers_from history place xs ≤ 22 * count_by test xs
numbers_by_test test history place [] each = omega arith
numbers_by_test test history place (x ∷ xs) each =
    let here = each 0 place x refl (omega arith) in
    let rest = numbers_by_test test history (place + 1) xs (λ i at y there is_at. each (suc i) at y there (omega arith)) in
    let count = count_by-cons test x xs in
    omega arith

-- they are fewer where at one of those that pass the test fewer are taken
pub numbers_by_test_less : {X : Type 0} (test : X → Bool) (history : List Event) (place : ℕ) (xs : List X)
    → ((i at : ℕ) (x : X) → slice_get xs i ≡ Some x → at ≡ place + i → numbers_in history at ≤ 22 * one_if (test x))
    → (i at : ℕ) (x : X) → slice_get xs i ≡ Some x → at ≡ place + i → numbers_in history at < 22 * one_if (test x)
    → numbers_from history place xs < 22 * count_by test xs
numbers_by_test_less test history place [] each i at x there is_at less = absurd (cc)
numbers_by_test_less test history place (y ∷ xs) each zero at x there is_at less =
    let same : y ≡ x = cc in
    let here : place ≡ at = omega arith in
    let own : numbers_in history place < 22 * one_if (test y) = rw (same, here) less in
    let rest = numbers_by_test test history (place + 1) xs (λ i at y there is_at. each (suc i) at y there (omega arith)) in
    let count = count_by-cons test y xs in
    omega arith
numbers_by_test_less test history place (y ∷ xs) each (suc i) at x there is_at less =
    let here = each 0 place y refl (omega arith) in
    let rest = numbers_by_test_less test history (place + 1) xs (λ i at y there is_at. each (suc i) at y there (omega arith)) i at x there (omega arith) less in
    let count = count_by-cons test y xs in
    omega arith
