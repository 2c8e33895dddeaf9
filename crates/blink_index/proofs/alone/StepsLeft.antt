-- How far a worker alone still has to go: each step brings the operation nearer to its end.
use Rattle.std.proofs.Common.{◌≡◌, ℕ, ◌+◌, ◌-◌, ◌*◌, ◌<◌, ◌≤◌, Option, Some, None, List, [], ◌∷◌, length, refl, ap, ◌∙◌, arith}
use Rattle.blink_operation.specs.declared.Op.{Op}
use Rattle.blink_operation.specs.declared.Op.TheVariants.{Find, Insert, Delete, Replace, Exchange, DeleteExact}
use Rattle.blink_operation.specs.{FitsWords, key_of}
use Rattle.blink_page.specs.{PlainPage, least_above}
use Rattle.blink_rest.specs.{Pages}
use Rattle.blink_machine.specs.declared.machine.Debt.{Debt}
use Rattle.blink_machine.specs.declared.machine.Job.{Job}
use Rattle.blink_machine.specs.declared.machine.Job.TheVariants.{Leaf, Parent}
use Rattle.blink_machine.specs.declared.machine.Need.TheVariants.{Latch, WriteNew, WritePage, WritePrime, Unlatch}
use Rattle.blink_machine.specs.declared.machine.Next.TheVariants.{Finish, MoveRight, Post}
use Rattle.blink_machine.specs.declared.machine.State.{State}
use Rattle.blink_machine.specs.declared.machine.State.TheVariants.{Start, Going, Want, Held, Change, SplitNew, SplitOld, AskPrime, Root, NewPrime, Leave, Posting, Ended}
use Rattle.blink_machine.specs.declared.step.Kind.{Kind}
use Rattle.blink_machine.specs.declared.step.Step.TheVariants.{Moved}
use Rattle.blink_machine.specs.{IsItsOperation, NeedsPage, PlainMachine, SeesPage, SeesPrime, Steps, debt_at, debt_of, decided_with, descent_bound, key_of_job, descent_bound_at, done_at, latches, need_at, numbers_left, one_if, reads_page, reads_prime, sets_out, target, under_way, unlatches, waits_for_latch, waits_for_level, writes_new, writes_new_page, writes_page, writes_prime}
use Rattle.blink_machine.specs.Invariant.{Invariant}
use Rattle.blink_machine.specs.Places.{keys_from_floor}
use Rattle.blink_machine.specs.Table.{SeesOnItsWay, SeesUnderLatch}
use Rattle.blink_machine.specs.TreeState.{TreeState}
use Rattle.blink_machine.proofs.Offered.{at_state, descent_bound_falls, page_is_readable, step_law}

-- how many keys there are
abbrev pub KEYS : ℕ
KEYS = 18446744073709551616

-- a bound of the steps of one job at each state, with the prime block, the pages and the job's key; where an operation looks for its page on a level, the
-- keys to the right of the page count
abbrev pub left_at : List ℕ → Pages → ℕ → State → ℕ
left_at prime pages key Start = 4 * KEYS + 200 + (length prime - 1) * (key + 2) + key + 2
left_at prime pages key (Going page level) = 4 * KEYS + 100 + descent_bound_at pages key (Going page level)
left_at prime pages key (Want page) = 4 * keys_from_floor key (pages page) + 8
left_at prime pages key (Held page) = 4 * keys_from_floor key (pages page) + 7
left_at prime pages key (Change page changed kept) = 3
left_at prime pages key (SplitNew page before) = 3
left_at prime pages key (SplitOld page lower debt) = 4 * KEYS + 60
left_at prime pages key (AskPrime page debt) = 4 * KEYS + 50
left_at prime pages key (Root page debt read) = 4 * KEYS + 40
left_at prime pages key (NewPrime page debt root read) = 2
left_at prime pages key (Leave page Finish) = 1
left_at prime pages key (Leave page (MoveRight next)) = 4 * keys_from_floor key (pages next) + 9
left_at prime pages key (Leave page (Post debt)) = 4 * KEYS + 30
left_at prime pages key Posting = 4 * KEYS + 20
left_at prime pages key Ended = 0

abbrev pub left : List ℕ → Pages → PlainMachine → ℕ
left prime pages m = left_at prime pages (target m) m.state

-- a bound of one job's steps
abbrev pub OF_A_JOB : ℕ
OF_A_JOB = 5 * KEYS

-- a bound of the steps of an operation: those of its job, and of a job for each page number that it may still need
abbrev pub steps_left : List ℕ → Pages → PlainMachine → ℕ
steps_left prime pages m = numbers_left m * OF_A_JOB + left prime pages m

room_at_most : (key : ℕ) (page : Option PlainPage) → keys_from_floor key page ≤ key + 1
room_at_most key None = omega arith
room_at_most key (Some page) = omega arith

key_in_range : (op : Op) → FitsWords op → key_of op < KEYS
key_in_range (Find key) words = omega (arith, words)
key_in_range (Insert key pointer) words = omega (arith, words.0)
key_in_range (Delete key) words = omega (arith, words)
key_in_range (Replace key pointer) words = omega (arith, words.0)
key_in_range (Exchange key expected pointer) words = omega (arith, words.0)
key_in_range (DeleteExact key expected) words = omega (arith, words.0)

-- ---- steps that read nothing

module _ (prime : List ℕ) (pages : Pages) (m : PlainMachine) where
  left_after_change : (job : Job) (state : State) (kept : Option ℕ) (n : ℕ) → ((key : ℕ) → left_at prime pages key state ≡ n) → left prime pages (decided_with m job state kept) ≡ n
  left_after_change Leaf state kept n is = is (target m)
  left_after_change (Parent debt) state kept n is = is (target m)

  left_after_split : (debt : Debt) (remembered : List ℕ) → debt.separator < KEYS → left prime pages (sets_out m debt remembered) < 4 * KEYS + 30
  left_after_split debt [] below = omega arith
  left_after_split debt (page ∷ above) below = omega (arith, below, room_at_most debt.separator (pages page))

  gets_nearer : (state : State) (number : ℕ) → need_at state ≡ Latch number → left prime pages (done_at m state 0) < left_at prime pages (target m) state
  gets_nearer (Want page) number needs = omega arith
  gets_nearer other number needs = absurd (cc)

  adds_nearer : (state : State) (number : ℕ) (before : List ℕ) (were : Pages) → need_at state ≡ WriteNew
      → left prime pages (done_at m state number) < left_at before were (target m) state + OF_A_JOB * one_if (writes_new_page state)
  adds_nearer (SplitNew page whole) number before were needs = omega arith
  adds_nearer (Root page debt read) number before were needs = omega arith
  adds_nearer other number before were needs = absurd (cc)

  writes_nearer : (state : State) (number : ℕ) (before : List ℕ) (were : Pages) → need_at state ≡ WritePage number
      → left prime pages (done_at m state 0) < left_at before were (target m) state
  writes_nearer (Change page changed kept) number before were needs = let after = left_after_change m.job (Leave page Finish) kept 1 (λ k. refl) in omega (arith, after)
  writes_nearer (SplitOld page lower debt) number before were needs = let after = left_after_change m.job (AskPrime page debt) None (4 * KEYS + 50) (λ k. refl) in omega (arith, after)
  writes_nearer other number before were needs = absurd (cc)

  names_nearer : (state : State) (before : List ℕ) (were : Pages) → need_at state ≡ WritePrime → left prime pages (done_at m state 0) < left_at before were (target m) state
  names_nearer (NewPrime page debt root read) before were needs = omega arith
  names_nearer other before were needs = absurd (cc)

  lets_nearer : (state : State) (number : ℕ) → need_at state ≡ Unlatch number → ((page : ℕ) (debt : Debt) → state ≡ Leave page (Post debt) → debt.separator < KEYS)
      → left prime pages (done_at m state 0) < left_at prime pages (target m) state
  lets_nearer (Leave page Finish) number needs owed = omega arith
  lets_nearer (Leave page (MoveRight next)) number needs owed = omega arith
  lets_nearer (Leave page (Post debt)) number needs owed = left_after_split debt m.remembered (owed page debt refl)
  lets_nearer other number needs owed = absurd (cc)

-- ---- reads

-- what is left is the same where nothing was written
same_left : (prime other : List ℕ) (pages others : Pages) (m : PlainMachine) → other ≡ prime → others ≡ pages → left other others m ≡ left prime pages m
same_left prime other pages others m primes same = λ i. left (primes i) (same i) m

module _ (tree_state : TreeState) (invariant : Invariant tree_state) (worker : ℕ) (m : PlainMachine) (under : tree_state.machines worker ≡ Some m) where
  abbrev its : IsItsOperation tree_state worker m
  its = under_way under

  -- a debt's separator is a key
  owed_in_range : (debt : Debt) → debt_of m ≡ Some debt → debt.separator < KEYS
  owed_in_range debt owes = let it = (invariant.1.lawful.debts.is_debt worker m debt (under, owes)).0 in omega (arith, it.below_greatest)

  -- and so is the key of the operation
  own_in_range : m.job ≡ Leaf → target m < KEYS
  own_in_range job =
      let own = key_in_range m.op (invariant.1.placed worker m under).words in
      let same : target m ≡ key_of m.op = ap (key_of_job m.op) job in
      omega (arith, own, same)

  prime_nearer : (after : PlainMachine) → SeesPrime m tree_state.prime after → left tree_state.prime tree_state.pages after < left tree_state.prime tree_state.pages m
  prime_nearer after (SeesPrime.begins top was last is) =
      let then = ap (left tree_state.prime tree_state.pages) is in
      let before = ap (left_at tree_state.prime tree_state.pages (target m)) was in
      let room = room_at_most (target m) (tree_state.pages top) in
      omega (arith, then, before, room)
  prime_nearer after (SeesPrime.asks_of_root page debt was top is) =
      let then = ap (left tree_state.prime tree_state.pages) is in
      let before = ap (left_at tree_state.prime tree_state.pages (target m)) was in
      omega (arith, then, before)
  prime_nearer after (SeesPrime.asks_of_other page debt was none is) =
      let then = ap (left tree_state.prime tree_state.pages) is in
      let before = ap (left_at tree_state.prime tree_state.pages (target m)) was in
      omega (arith, then, before)
  prime_nearer after (SeesPrime.finds_leftmost debt leftmost was job there is) =
      let then = ap (left tree_state.prime tree_state.pages) is in
      let before = ap (left_at tree_state.prime tree_state.pages (target m)) was in
      let owes : debt_of m ≡ Some debt = ap (debt_at m.job) was ∙ ap (λ (j : Job). debt_at j Posting) job in
      let same : target m ≡ debt.separator = ap (key_of_job m.op) job in
      let room = room_at_most (target m) (tree_state.pages leftmost) in
      omega (arith, then, before, owed_in_range debt owes, same, room)

  module _ (number : ℕ) (page : PlainPage) (there : tree_state.pages number ≡ Some page) (needs : NeedsPage m number) (after : PlainMachine) where
    -- the operation's key is at or above the page's first
    some_room : least_above page.floor ≤ target m
    some_room = (page_is_readable tree_state worker number m page invariant its needs there).floor_below

    way_nearer : SeesPage m number page after → SeesOnItsWay m number page after → left tree_state.prime tree_state.pages after < left tree_state.prime tree_state.pages m
    way_nearer sees (SeesOnItsWay.goes_right level next was leads is) =
        let then = ap (left tree_state.prime tree_state.pages) is in
        let before = ap (left_at tree_state.prime tree_state.pages (target m)) was in
        let falls = descent_bound_falls tree_state invariant worker number level m after page its was there sees in
        let bound = ap (descent_bound tree_state.pages) is in
        let own = ap (descent_bound_at tree_state.pages (target m)) was in
        omega (arith, then, before, falls, bound, own)
    way_nearer sees (SeesOnItsWay.goes_down level child was leads is) =
        let then = ap (left tree_state.prime tree_state.pages) is in
        let before = ap (left_at tree_state.prime tree_state.pages (target m)) was in
        let falls = descent_bound_falls tree_state invariant worker number (level + 1) m after page its was there sees in
        let bound = ap (descent_bound tree_state.pages) is in
        let own = ap (descent_bound_at tree_state.pages (target m)) was in
        omega (arith, then, before, falls, bound, own)
    way_nearer sees (SeesOnItsWay.find_answers level key was leads op is) =
        let then = ap (left tree_state.prime tree_state.pages) is in
        let before = ap (left_at tree_state.prime tree_state.pages (target m)) was in
        omega (arith, then, before)
    way_nearer sees (SeesOnItsWay.update_wants level was leads updates is) =
        let then = ap (left tree_state.prime tree_state.pages) is in
        let before = ap (left_at tree_state.prime tree_state.pages (target m)) was in
        let placed = at_state tree_state invariant.0 invariant.1 worker m (Going number level) under was in
        let room = room_at_most (target m) (tree_state.pages number) in
        omega (arith, then, before, own_in_range placed.0, room)

    latched_nearer : m.state ≡ Held number → SeesPage m number page after → SeesUnderLatch m number page after
        → left tree_state.prime tree_state.pages after < left tree_state.prime tree_state.pages m
    latched_nearer held sees (SeesUnderLatch.is_above_high_key next above right is) =
        let then = ap (left tree_state.prime tree_state.pages) is in
        let before = ap (left_at tree_state.prime tree_state.pages (target m)) held in
        let here = ap (keys_from_floor (target m)) there in
        let begins = (step_law.places_stay.further tree_state worker number m after page invariant its there sees).under_latch next held (ap (λ (x : PlainMachine). x.state) is) in
        let beyond = ap (keys_from_floor (target m)) begins.there in
        omega (arith, then, before, here, beyond, begins.further, some_room)
    latched_nearer held sees (SeesUnderLatch.insertion_finds_key key pointer kept below job op found is) =
        let then = ap (left tree_state.prime tree_state.pages) is in
        let before = ap (left_at tree_state.prime tree_state.pages (target m)) held in
        omega (arith, then, before)
    latched_nearer held sees (SeesUnderLatch.deletion_finds_none key below job op found is) =
        let then = ap (left tree_state.prime tree_state.pages) is in
        let before = ap (left_at tree_state.prime tree_state.pages (target m)) held in
        omega (arith, then, before)
    latched_nearer held sees (SeesUnderLatch.replacement_finds_none key pointer below job op found is) =
        let then = ap (left tree_state.prime tree_state.pages) is in
        let before = ap (left_at tree_state.prime tree_state.pages (target m)) held in
        omega (arith, then, before)
    latched_nearer held sees (SeesUnderLatch.finds_other_pointer key expected below job op found is) =
        let then = ap (left tree_state.prime tree_state.pages) is in
        let before = ap (left_at tree_state.prime tree_state.pages (target m)) held in
        omega (arith, then, before)
    latched_nearer held sees (SeesUnderLatch.posting_finds_separator debt child below job found is) =
        let then = ap (left tree_state.prime tree_state.pages) is in
        let before = ap (left_at tree_state.prime tree_state.pages (target m)) held in
        omega (arith, then, before)
    latched_nearer held sees (SeesUnderLatch.is_to_change changed kept below change is) =
        let then = ap (left tree_state.prime tree_state.pages) is in
        let before = ap (left_at tree_state.prime tree_state.pages (target m)) held in
        omega (arith, then, before)
    latched_nearer held sees (SeesUnderLatch.is_to_split below full is) =
        let then = ap (left tree_state.prime tree_state.pages) is in
        let before = ap (left_at tree_state.prime tree_state.pages (target m)) held in
        omega (arith, then, before)

    page_nearer : SeesPage m number page after → left tree_state.prime tree_state.pages after < left tree_state.prime tree_state.pages m
    page_nearer (SeesPage.on_its_way on) = way_nearer (SeesPage.on_its_way on) on
    page_nearer (SeesPage.under_latch held under_it) = latched_nearer held (SeesPage.under_latch held under_it) under_it

  -- ---- each step

  module _ (new : TreeState) (after : PlainMachine) (kind : Kind) where
    job_nearer : Steps tree_state worker m (Moved kind) after new
        → left new.prime new.pages after < left tree_state.prime tree_state.pages m + OF_A_JOB * one_if (writes_new_page m.state)
    job_nearer (reads_prime needs sees is leaves workers) =
        omega (arith, prime_nearer after sees, same_left tree_state.prime new.prime tree_state.pages new.pages after leaves.same_prime leaves.same_pages)
    job_nearer (waits_for_level needs waits is same stays) = absurd (cc)
    job_nearer (reads_page number page needs there sees is leaves workers) =
        omega (arith, page_nearer number page there needs after sees, same_left tree_state.prime new.prime tree_state.pages new.pages after leaves.same_prime leaves.same_pages)
    job_nearer (latches number needs free is_done is same_fan same_prime same_pages passes workers) =
        let then = ap (left tree_state.prime tree_state.pages) is_done in
        let same = same_left tree_state.prime new.prime tree_state.pages new.pages after same_prime same_pages in
        omega (arith, gets_nearer tree_state.prime tree_state.pages m m.state number needs, then, same)
    job_nearer (waits_for_latch number holder needs held is same stays) = absurd (cc)
    job_nearer (writes_new number needs is_number none is_done is same_fan same_prime writes same_holder workers) =
        let then = ap (left new.prime new.pages) is_done in
        omega (arith, adds_nearer new.prime new.pages m m.state number tree_state.prime tree_state.pages needs, then)
    job_nearer (writes_page number needs is_done is same_fan same_prime writes same_holder workers) =
        let then = ap (left new.prime new.pages) is_done in
        omega (arith, writes_nearer new.prime new.pages m m.state number tree_state.prime tree_state.pages needs, then)
    job_nearer (writes_prime needs out is_done is same_fan same_pages same_holder workers) =
        let then = ap (left new.prime new.pages) is_done in
        omega (arith, names_nearer new.prime new.pages m m.state tree_state.prime tree_state.pages needs, then)
    job_nearer (unlatches number needs is_done is same_fan same_prime same_pages passes workers) =
        let then = ap (left tree_state.prime tree_state.pages) is_done in
        let same = same_left tree_state.prime new.prime tree_state.pages new.pages after same_prime same_pages in
        let owed = λ (page : ℕ) (debt : Debt) (at : m.state ≡ Leave page (Post debt)). owed_in_range debt (ap (debt_at m.job) at) in
        omega (arith, lets_nearer tree_state.prime tree_state.pages m m.state number needs owed, then, same)

    -- so fewer steps are left
    pub steps_left_fall : FitsWords m.op → Steps tree_state worker m (Moved kind) after new → steps_left new.prime new.pages after < steps_left tree_state.prime tree_state.pages m
    steps_left_fall words step =
        let used = (step_law.allowance_is_used_up.by_step tree_state new worker m after (Moved kind) invariant words its step).numbers in
        omega (arith, job_nearer step, used)
