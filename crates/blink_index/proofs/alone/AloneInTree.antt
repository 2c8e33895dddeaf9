-- A store as the tree state of one worker, who changes it alone.
use Rattle.std.proofs.Common.{◌≡◌, ◌≢◌, ℕ, zero, suc, ◌<◌, ◌==◌, Option, Some, None, length, inl, inr, refl, sym, ap, ◌∙◌, arith}
use Rattle.std.specs.Prelude.{if◌then◌else◌}
use Rattle.std.proofs.lemmas.Bool.{cases_eq}
use Rattle.std.proofs.lemmas.Bool.Decides.{nat_tests}
use Rattle.std.proofs.lemmas.Option.{slice_get_within}
use Rattle.blink_operation.specs.declared.Op.TheVariants.{Find}
use Rattle.blink_page.specs.{IsPageNumber, PlainPage}
use Rattle.blink_rest.specs.{IsStoreAtRest}
use Rattle.blink_store.specs.{IsLawfulStore, PlainStore, page_of}
use Rattle.blink_machine.specs.declared.machine.State.TheVariants.{Ended}
use Rattle.blink_machine.specs.{IsWorkersNow, LatchPasses, PlainMachine, at_state, fresh, goes_on, latch_of}
use Rattle.blink_machine.specs.Invariant.{Invariant}
use Rattle.blink_machine.specs.TreeState.{TreeState}
use Rattle.blink_machine.proofs.Offered.{step_law}

-- the holder of each page's latch, if the worker holds at most this one
abbrev pub held_alone : Option ℕ → ℕ → Option ℕ
held_alone None page = None
held_alone (Some held) page = if page == held then Some 0 else None

-- the operation of each worker, if the worker has at most this one
abbrev pub works_alone : Option PlainMachine → ℕ → Option PlainMachine
works_alone m worker = if worker == 0 then m else None

-- the tree state of a store and of one operation on it
abbrev pub alone : PlainStore → PlainMachine → TreeState
alone store m = record {
  fan = store.fan;
  prime = store.prime;
  pages = page_of store;
  holder = held_alone (latch_of m);
  machines = works_alone (goes_on m m.state);
}

-- an operation that has ended, for a tree state in which nobody works
abbrev pub no_operation : ℕ → PlainMachine
no_operation fan = at_state (fresh fan (Find 0)) Ended

-- ---- who works and who holds

-- only the worker has an operation
pub only_it_works : (m : Option PlainMachine) (worker : ℕ) (n : PlainMachine) → works_alone m worker ≡ Some n → (worker ≡ 0) × (m ≡ Some n)
only_it_works m worker n is = elim (cases_eq worker 0) [
  | inl same ↦ (same, sym (ap (works_alone m) same) ∙ is)
  | inr other ↦ absurd (grind (arith, nat_tests))
]

pub others_idle : (m : Option PlainMachine) (other : ℕ) → other ≢ 0 → works_alone m other ≡ None
others_idle m other differs = grind (arith, nat_tests)

pub nobody_works : (worker : ℕ) → works_alone None worker ≡ None
nobody_works worker = elim (cases_eq worker 0) [
  | inl same ↦ ap (works_alone None) same
  | inr other ↦ others_idle None worker other
]

-- only the page of its latch is held
pub only_it_holds : (latch : Option ℕ) (page holder : ℕ) → held_alone latch page ≡ Some holder → (holder ≡ 0) × (latch ≡ Some page)
only_it_holds None page holder is = absurd (cc)
only_it_holds (Some held) page holder is = elim (cases_eq page held) [
  | inl same ↦ (grind (arith, nat_tests), ap Some (sym same))
  | inr other ↦ absurd (grind (arith, nat_tests))
]

pub holds_its : (latch : Option ℕ) (page : ℕ) → latch ≡ Some page → held_alone latch page ≡ Some 0
holds_its latch page is = ap (λ (l : Option ℕ). held_alone l page) is ∙ grind (arith, nat_tests)

-- ---- steps of the worker

-- another operation in the place of the worker's
pub worker_now : (before : Option PlainMachine) (after : PlainMachine) → IsWorkersNow (works_alone before) (works_alone (goes_on after after.state)) 0 after
worker_now before after = record {
  own = refl;
  others = λ other differs. others_idle (goes_on after after.state) other differs ∙ sym (others_idle before other differs);
}

-- a latch is got, and let go
pub latch_got : (page : ℕ) → LatchPasses (held_alone None) (held_alone (Some page)) page (Some 0)
latch_got page = record { changed = holds_its (Some page) page refl; others = λ other differs. grind (arith, nat_tests) }

pub latch_gone : (page : ℕ) → LatchPasses (held_alone (Some page)) (held_alone None) page None
latch_gone page = record { changed = refl; others = λ other differs. grind (arith, nat_tests) }

-- ---- a tree at rest

-- the number of a page of a lawful store is one that a page may have
pub number_in_range : (store : PlainStore) (number : ℕ) (page : PlainPage) → IsLawfulStore store → page_of store number ≡ Some page → IsPageNumber number
number_in_range store zero page lawful there = absurd (cc)
number_in_range store (suc n) page lawful there =
    let inside : n < length store.pages = slice_get_within store.pages n page there in
    let range = lawful.count_in_range.1 in
    (omega arith, omega arith)

-- where nobody works the invariant begins to hold
pub begins_alone : (store : PlainStore) → IsLawfulStore store → IsStoreAtRest store → Invariant (alone store (no_operation store.fan))
begins_alone store lawful at_rest = step_law.opening_has_invariant (alone store (no_operation store.fan)) (record {
  fan_in_range = lawful.fan_in_range;
  some_level = lawful.some_level;
  numbers_in_range = λ number page there. number_in_range store number page lawful there;
  at_rest = at_rest;
  no_latch = λ page. refl;
  all_idle = nobody_works;
})

-- and where the operation has ended the store is at rest
pub rests_at_end : (store : PlainStore) (m : PlainMachine) → Invariant (alone store m) → m.state ≡ Ended → IsStoreAtRest store
rests_at_end store m invariant ended =
    let idle : goes_on m m.state ≡ None = ap (goes_on m) ended in
    (step_law.all_idle_is_at_rest (alone store m) invariant (λ worker. ap (λ (n : Option PlainMachine). works_alone n worker) idle ∙ nobody_works worker)).at_rest
