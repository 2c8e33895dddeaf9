-- What an operation may still need is as much after a step as before, and one less of what the step took.
use Rattle.std.proofs.Common.{◌≡◌, ℕ, ◌+◌, ◌-◌, ◌*◌, ◌≤◌, ◌&&◌, inl, inr, Option, Some, None, List, [], ◌∷◌, refl, ap, ◌∙◌, arith}
use Rattle.blink_operation.specs.declared.Op.{Op}
use Rattle.blink_operation.specs.declared.Op.TheVariants.{Find, Insert}
use Rattle.blink_page.specs.{PlainPage}
use Rattle.blink_machine.specs.declared.machine.Debt.{Debt}
use Rattle.blink_machine.specs.declared.machine.Job.{Job}
use Rattle.blink_machine.specs.declared.machine.Job.TheVariants.{Leaf, Parent}
use Rattle.blink_machine.specs.declared.machine.Need.{Need}
use Rattle.blink_machine.specs.declared.machine.Need.TheVariants.{WriteNew, WritePage, WritePrime}
use Rattle.blink_machine.specs.declared.machine.Next.{Next}
use Rattle.blink_machine.specs.declared.machine.Next.TheVariants.{Finish, MoveRight, Post}
use Rattle.blink_machine.specs.declared.machine.State.{State}
use Rattle.blink_machine.specs.declared.machine.State.TheVariants.{Start, Going, Want, Held, Change, SplitNew, SplitOld, AskPrime, Root, NewPrime, Leave, Posting}
use Rattle.blink_machine.specs.declared.step.Step.{Step}
use Rattle.blink_machine.specs.declared.step.Step.TheVariants.{Moved, Waited}
use Rattle.blink_machine.specs.Allowance.{numbers_for, numbers_left_at, numbers_left, writes_for, writes_left_at, writes_left, primes_for, primes_left_at, primes_left, one_if, UsesUp}
use Rattle.blink_machine.specs.Kinds.{has_moved, moved_by, writes_new_page}
use Rattle.blink_machine.specs.Kinds.{read_page, read_prime, latch, unlatch, write_page, write_prime, is_page_write, is_prime_write}
use Rattle.blink_machine.specs.Machine.{PlainMachine, NeedsNew, NeedsWrite, fresh, level_of, need_at}
use Rattle.blink_machine.specs.TreeState.{TreeState, IsItsOperation, Steps, reads_prime, waits_for_level, reads_page, latches, waits_for_latch, writes_new, writes_page, writes_prime, unlatches}
use Rattle.blink_machine.specs.Needs.{IsPageWrite}
use Rattle.blink_machine.specs.Owned.{latch_at}
use Rattle.blink_machine.specs.Invariant.{InvariantWith}
use Rattle.blink_machine.specs.StepLaw.{AllowanceIsUsedUp}
use Rattle.blink_machine.specs.Table.{SeesPrime, SeesPage, SeesOnItsWay, SeesUnderLatch, Brings, IsChange, decided_with, sets_out, done_at, adds_root}
use Rattle.blink_machine.specs.TreeWithDebts.{Levels}
use Rattle.blink_machine.proofs.tree.TreeStatements.{TreeLaws}
use Rattle.blink_machine.proofs.operation.LevelsOfJobs.{jobs_are_on_levels}
use Rattle.blink_machine.proofs.operation.ReadPagesAreThere.{levels_are_few}
use Rattle.blink_machine.proofs.operation.StatesByNeed.{needs_latch, needs_unlatch, needs_new, needs_write, IsAtSplitNew, IsAtRoot, IsAtChange, IsAtSplitOld}
use Rattle.blink_machine.proofs.operation.OperationIsPlaced.{its_own, at_state}

-- ---- between two states

-- a step between two operations uses up what it takes, where what the one may need covers what the other may and the step's own
uses_between : (m after : PlainMachine) (step like : Step) (state next : State) (job : Job) → m.state ≡ state → step ≡ like → after.state ≡ next → after.job ≡ job → after.op ≡ m.op
    → numbers_left_at job m.op next + one_if (has_moved like && writes_new_page state) ≤ numbers_left_at m.job m.op state
    → writes_left_at job m.op next + one_if (moved_by is_page_write like) ≤ writes_left_at m.job m.op state
    → primes_left_at job m.op next + one_if (moved_by is_prime_write like) ≤ primes_left_at m.job m.op state → UsesUp m step after
uses_between m after step like state next job is_state is_like is_next is_job is_op numbers page_writes prime_writes = record {
  same_op = is_op;
  numbers = rw (is_state, is_like, is_next, is_job, is_op) numbers;
  page_writes = rw (is_state, is_like, is_next, is_job, is_op) page_writes;
  prime_writes = rw (is_state, is_like, is_next, is_job, is_op) prime_writes;
}

-- so it does where it is told what the operation is afterwards
uses_when : (m after target : PlainMachine) (step like : Step) (state : State) → m.state ≡ state → step ≡ like → after ≡ target → target.op ≡ m.op
    → numbers_left_at target.job m.op target.state + one_if (has_moved like && writes_new_page state) ≤ numbers_left_at m.job m.op state
    → writes_left_at target.job m.op target.state + one_if (moved_by is_page_write like) ≤ writes_left_at m.job m.op state
    → primes_left_at target.job m.op target.state + one_if (moved_by is_prime_write like) ≤ primes_left_at m.job m.op state → UsesUp m step after
uses_when m after target step like state is_state is_like is_after is_op numbers page_writes prime_writes =
    uses_between m after step like state target.state target.job is_state is_like (ap (λ (x : PlainMachine). x.state) is_after) (ap (λ (x : PlainMachine). x.job) is_after)
    (ap (λ (x : PlainMachine). x.op) is_after ∙ is_op) numbers page_writes prime_writes

-- ---- reads

-- of the prime block
uses_prime_read : (m after : PlainMachine) (step : Step) (prime : List ℕ) → ((page : ℕ) (debt : Debt) → m.state ≡ AskPrime page debt → debt.level ≡ level_of m.job)
    → step ≡ Moved read_prime → SeesPrime m prime after → UsesUp m step after
uses_prime_read m after step prime asking is (SeesPrime.begins top at is_top is_after) =
    uses_when m after _ step (Moved read_prime) Start at is is_after refl (omega arith) (omega arith) (omega arith)
uses_prime_read m after step prime asking is (SeesPrime.asks_of_root page debt at is_top is_after) =
    uses_when m after _ step (Moved read_prime) (AskPrime page debt) at is is_after refl (omega arith) (omega arith) (omega arith)
uses_prime_read m after step prime asking is (SeesPrime.asks_of_other page debt at other is_after) =
    let level : debt.level ≡ level_of m.job = asking page debt at in
    uses_when m after _ step (Moved read_prime) (AskPrime page debt) at is is_after refl (omega arith) (omega arith) (omega arith)
uses_prime_read m after step prime asking is (SeesPrime.finds_leftmost debt leftmost at is_job there is_after) =
    uses_when m after _ step (Moved read_prime) Posting at is is_after refl (omega arith) (omega arith) (omega arith)

-- of a page
uses_page_read : (m after : PlainMachine) (step : Step) (number : ℕ) (page : PlainPage) → step ≡ Moved (read_page number) → SeesPage m number page after → UsesUp m step after
uses_page_read m after step number page is (SeesPage.on_its_way (SeesOnItsWay.goes_right level next at leads is_after)) =
    uses_when m after _ step (Moved (read_page number)) (Going number level) at is is_after refl (omega arith) (omega arith) (omega arith)
uses_page_read m after step number page is (SeesPage.on_its_way (SeesOnItsWay.goes_down level child at leads is_after)) =
    uses_when m after _ step (Moved (read_page number)) (Going number (level + 1)) at is is_after refl (omega arith) (omega arith) (omega arith)
uses_page_read m after step number page is (SeesPage.on_its_way (SeesOnItsWay.find_answers level key at leads is_op is_after)) =
    uses_when m after _ step (Moved (read_page number)) (Going number level) at is is_after refl (omega arith) (omega arith) (omega arith)
uses_page_read m after step number page is (SeesPage.on_its_way (SeesOnItsWay.update_wants level at leads is_update is_after)) =
    uses_when m after _ step (Moved (read_page number)) (Going number level) at is is_after refl (omega arith) (omega arith) (omega arith)
uses_page_read m after step number page is (SeesPage.under_latch at (SeesUnderLatch.is_above_high_key next above right is_after)) =
    uses_when m after _ step (Moved (read_page number)) (Held number) at is is_after refl (omega arith) (omega arith) (omega arith)
uses_page_read m after step number page is (SeesPage.under_latch at (SeesUnderLatch.insertion_finds_key key pointer kept below is_job is_op found is_after)) =
    uses_when m after _ step (Moved (read_page number)) (Held number) at is is_after refl (omega arith) (omega arith) (omega arith)
uses_page_read m after step number page is (SeesPage.under_latch at (SeesUnderLatch.deletion_finds_none key below is_job is_op found is_after)) =
    uses_when m after _ step (Moved (read_page number)) (Held number) at is is_after refl (omega arith) (omega arith) (omega arith)
uses_page_read m after step number page is (SeesPage.under_latch at (SeesUnderLatch.replacement_finds_none key pointer below is_job is_op found is_after)) =
    uses_when m after _ step (Moved (read_page number)) (Held number) at is is_after refl (omega arith) (omega arith) (omega arith)
uses_page_read m after step number page is (SeesPage.under_latch at (SeesUnderLatch.finds_other_pointer key expected below is_job is_op found is_after)) =
    uses_when m after _ step (Moved (read_page number)) (Held number) at is is_after refl (omega arith) (omega arith) (omega arith)
uses_page_read m after step number page is (SeesPage.under_latch at (SeesUnderLatch.posting_finds_separator debt child below is_job found is_after)) =
    uses_when m after _ step (Moved (read_page number)) (Held number) at is is_after refl (omega arith) (omega arith) (omega arith)
uses_page_read m after step number page is (SeesPage.under_latch at (SeesUnderLatch.is_to_change changed kept below change is_after)) =
    uses_when m after _ step (Moved (read_page number)) (Held number) at is is_after refl (omega arith) (omega arith) (omega arith)
uses_page_read m after step number page is (SeesPage.under_latch at (SeesUnderLatch.is_to_split below full is_after)) =
    uses_when m after _ step (Moved (read_page number)) (Held number) at is is_after refl (omega arith) (omega arith) (omega arith)

-- ---- writes

-- what brings an entry may split on its level and on all above
record MaySplit (job : Job) (op : Op) : Type 0 where
  numbers : 21 - level_of job + 1 ≤ numbers_for job op
  page_writes : 42 - 2 * level_of job + 1 ≤ writes_for job op
  prime_writes : 1 ≤ primes_for job op

may_split : (job : Job) (op : Op) → Brings op job → level_of job ≤ 20 → MaySplit job op
may_split Leaf (Insert key pointer) brings low = record { numbers = omega arith; page_writes = omega arith; prime_writes = omega arith }
may_split Leaf op brings low = absurd brings
may_split (Parent debt) op brings low = record { numbers = omega arith; page_writes = omega arith; prime_writes = omega arith }

-- what changes a page may write it
may_write : (m : PlainMachine) (page changed : PlainPage) (kept : Option ℕ) → level_of m.job ≤ 20 → IsChange m page changed kept → 1 ≤ writes_for m.job m.op
may_write m page changed kept low (IsChange.gains brings none room is_kept is) = let it = (may_split m.job m.op brings low).page_writes in omega arith
may_write m page changed kept low (IsChange.loses key pointer is_job (inl is_op) there is_kept is) = rw (is_job, is_op) (omega arith)
may_write m page changed kept low (IsChange.loses key pointer is_job (inr is_op) there is_kept is) = rw (is_job, is_op) (omega arith)
may_write m page changed kept low (IsChange.swaps key new pointer is_job (inl is_op) there is_kept is) = rw (is_job, is_op) (omega arith)
may_write m page changed kept low (IsChange.swaps key new pointer is_job (inr is_op) there is_kept is) = rw (is_job, is_op) (omega arith)

-- what an operation's deciding write leaves of it
pub decided_parts : (m : PlainMachine) (job : Job) (state : State) (kept : Option ℕ)
    → ((decided_with m job state kept).state ≡ state) × ((decided_with m job state kept).job ≡ m.job) × ((decided_with m job state kept).op ≡ m.op)
decided_parts m Leaf state kept = (refl, refl, refl)
decided_parts m (Parent debt) state kept = (refl, refl, refl)

-- a deciding write
uses_deciding : (m after : PlainMachine) (step like : Step) (state next : State) (kept : Option ℕ) → m.state ≡ state → step ≡ like → after ≡ decided_with m m.job next kept
    → numbers_left_at m.job m.op next + one_if (has_moved like && writes_new_page state) ≤ numbers_left_at m.job m.op state
    → writes_left_at m.job m.op next + one_if (moved_by is_page_write like) ≤ writes_left_at m.job m.op state
    → primes_left_at m.job m.op next + one_if (moved_by is_prime_write like) ≤ primes_left_at m.job m.op state → UsesUp m step after
uses_deciding m after step like state next kept at is is_after =
    let parts = decided_parts m m.job next kept in
    uses_between m after step like state next m.job at is (ap (λ (x : PlainMachine). x.state) is_after ∙ parts.0) (ap (λ (x : PlainMachine). x.job) is_after ∙ parts.1)
    (ap (λ (x : PlainMachine). x.op) is_after ∙ parts.2)

-- ---- latches that are let go

-- an operation sets out to post
uses_setting_out : (m after : PlainMachine) (step : Step) (page : ℕ) (debt : Debt) (remembered : List ℕ) → step ≡ Moved (unlatch page) → m.state ≡ Leave page (Post debt)
    → after ≡ sets_out m debt remembered → UsesUp m step after
uses_setting_out m after step page debt [] is at is_after =
    uses_when m after _ step (Moved (unlatch page)) (Leave page (Post debt)) at is is_after refl (omega arith) (omega arith) (omega arith)
uses_setting_out m after step page debt (next ∷ above) is at is_after =
    uses_when m after _ step (Moved (unlatch page)) (Leave page (Post debt)) at is is_after refl (omega arith) (omega arith) (omega arith)

-- or goes elsewhere
uses_leaving : (m after : PlainMachine) (step : Step) (page : ℕ) (next : Next) → step ≡ Moved (unlatch page) → m.state ≡ Leave page next → after ≡ done_at m (Leave page next) 0
    → UsesUp m step after
uses_leaving m after step page Finish is at is_after =
    uses_when m after _ step (Moved (unlatch page)) (Leave page Finish) at is is_after refl (omega arith) (omega arith) (omega arith)
uses_leaving m after step page (MoveRight next) is at is_after =
    uses_when m after _ step (Moved (unlatch page)) (Leave page (MoveRight next)) at is is_after refl (omega arith) (omega arith) (omega arith)
uses_leaving m after step page (Post debt) is at is_after = uses_setting_out m after step page debt m.remembered is at is_after

-- ---- each step

module _ (laws : TreeLaws) (old new : TreeState) (levels : Levels) (invariant : InvariantWith old levels) (worker : ℕ) (m after : PlainMachine) (step : Step) (its : IsItsOperation old worker m) where
  -- an operation that holds a latch, and isn't about to let it go, has its job on one of 20 levels
  low_under_latch : (page : ℕ) → old.machines worker ≡ Some m → latch_at m.state ≡ Some page → ((next : Next) → m.state ≡ Leave page next → ⊥) → level_of m.job ≤ 20
  low_under_latch page under latch stays =
      let on = jobs_are_on_levels old worker m page (levels, invariant) under latch stays in
      let few = levels_are_few laws old (levels, invariant) in
      omega arith

  -- one that asks the prime block has split a page of its job's level
  asks_of_its_level : (page : ℕ) (debt : Debt) → m.state ≡ AskPrime page debt → debt.level ≡ level_of m.job
  asks_of_its_level page debt at =
      let under = its_own old levels invariant worker m its (λ start. cc) in
      (at_state old levels invariant worker m (AskPrime page debt) under at).1.same_level

  -- the write of an upper half
  uses_upper_half : (number : ℕ) → step ≡ Moved (write_page number) → after ≡ done_at m m.state number → IsAtSplitNew m.state → UsesUp m step after
  uses_upper_half number is is_after at =
      let under = its_own old levels invariant worker m its (λ start. let here = at.here in cc) in
      let placed = at_state old levels invariant worker m (SplitNew at.number at.page) under at.here in
      let low = low_under_latch at.number under (ap latch_at at.here) (λ next leaves. let here = at.here in cc) in
      let may = may_split m.job m.op placed.3.brings low in
      uses_when m after _ step (Moved (write_page number)) (SplitNew at.number at.page) at.here is (is_after ∙ ap (λ (s : State). done_at m s number) at.here) refl
      may.numbers (let it = may.page_writes in omega arith) (let it = may.prime_writes in omega arith)

  -- of a new root
  uses_root : (number : ℕ) → step ≡ Moved (write_page number) → after ≡ done_at m m.state number → IsAtRoot m.state → UsesUp m step after
  uses_root number is is_after at =
      let under = its_own old levels invariant worker m its (λ start. let here = at.here in cc) in
      let low = low_under_latch at.number under (ap latch_at at.here) (λ next leaves. let here = at.here in cc) in
      uses_when m after _ step (Moved (write_page number)) (Root at.number at.debt at.prime) at.here is (is_after ∙ ap (λ (s : State). done_at m s number) at.here) refl
      (omega arith) (omega arith) (omega arith)

  -- of a change
  uses_change : (number : ℕ) → step ≡ Moved (write_page number) → after ≡ done_at m m.state 0 → IsAtChange m.state number → UsesUp m step after
  uses_change number is is_after at =
      let under = its_own old levels invariant worker m its (λ start. let here = at.here in cc) in
      let placed = at_state old levels invariant worker m (Change number at.changed at.kept) under at.here in
      let low = low_under_latch number under (ap latch_at at.here) (λ next leaves. let here = at.here in cc) in
      let may = may_write m placed.2 at.changed at.kept low placed.4 in
      uses_deciding m after step (Moved (write_page number)) (Change number at.changed at.kept) (Leave number Finish) at.kept at.here is
      (is_after ∙ ap (λ (s : State). done_at m s 0) at.here) (omega arith) (omega arith) (omega arith)

  -- and of a lower half
  uses_lower_half : (number : ℕ) → step ≡ Moved (write_page number) → after ≡ done_at m m.state 0 → IsAtSplitOld m.state number → UsesUp m step after
  uses_lower_half number is is_after at =
      let under = its_own old levels invariant worker m its (λ start. let here = at.here in cc) in
      let low = low_under_latch number under (ap latch_at at.here) (λ next leaves. let here = at.here in cc) in
      uses_deciding m after step (Moved (write_page number)) (SplitOld number at.lower at.debt) (AskPrime number at.debt) None at.here is
      (is_after ∙ ap (λ (s : State). done_at m s 0) at.here) (omega arith) (omega arith) (omega arith)

  -- a wait uses up nothing
  uses_nothing : step ≡ Waited → after ≡ m → UsesUp m step after
  uses_nothing is is_after = uses_when m after m step Waited m.state refl is is_after refl (omega arith) (omega arith) (omega arith)

  -- a case for each kind of step
  uses_up : Steps old worker m step after new → UsesUp m step after
  uses_up (reads_prime needs sees is leaves workers) = uses_prime_read m after step old.prime asks_of_its_level is sees
  uses_up (waits_for_level needs waits is same stays) = uses_nothing is stays
  uses_up (reads_page number page needs there sees is leaves workers) = uses_page_read m after step number page is sees
  uses_up (latches number needs free done is same_fan same_prime same_pages passes workers) =
      let at = needs_latch m.state number needs in
      uses_when m after _ step (Moved (latch number)) (Want number) at is (done ∙ ap (λ (s : State). done_at m s 0) at) refl (omega arith) (omega arith) (omega arith)
  uses_up (waits_for_latch number holder needs held is same stays) = uses_nothing is stays
  uses_up (writes_new number needs is_number none done is same_fan same_prime writes same_holder workers) = elim (needs_new m.state needs) [
    | inl at ↦ uses_upper_half number is done at
    | inr at ↦ uses_root number is done at
  ]
  uses_up (writes_page number needs done is same_fan same_prime writes same_holder workers) = elim (needs_write m.state number needs) [
    | inl at ↦ uses_change number is done at
    | inr at ↦ uses_lower_half number is done at
  ]
  uses_up (writes_prime needs (adds_root page debt root read here out) done is same_fan same_pages same_holder workers) =
      uses_when m after _ step (Moved write_prime) (NewPrime page debt root read) here is (done ∙ ap (λ (s : State). done_at m s 0) here) refl (omega arith) (omega arith) (omega arith)
  uses_up (unlatches number needs done is same_fan same_prime same_pages passes workers) =
      let at = needs_unlatch m.state number needs in
      uses_leaving m after step number at.0 is at.1 (done ∙ ap (λ (s : State). done_at m s 0) at.1)

-- ---- before it

module _ (laws : TreeLaws) (tree_state : TreeState) (levels : Levels) (invariant : InvariantWith tree_state levels) (worker : ℕ) (m : PlainMachine) (its : IsItsOperation tree_state worker m) where
  -- one that writes a new page has a number left, and a write
  enough_for_new : NeedsNew m → (1 ≤ numbers_left m) × (1 ≤ writes_left m)
  enough_for_new needs = elim (needs_new m.state needs) [
    | inl at ↦
        let under = its_own tree_state levels invariant worker m its (λ start. let here = at.here in cc) in
        let placed = at_state tree_state levels invariant worker m (SplitNew at.number at.page) under at.here in
        let low = low_under_latch laws tree_state tree_state levels invariant worker m m Waited its at.number under (ap latch_at at.here) (λ next leaves. let here = at.here in cc) in
        let may = may_split m.job m.op placed.3.brings low in
        let numbers = may.numbers in
        let page_writes = may.page_writes in
        (rw at.here (omega arith), rw at.here (omega arith))
    | inr at ↦
        let under = its_own tree_state levels invariant worker m its (λ start. let here = at.here in cc) in
        let low = low_under_latch laws tree_state tree_state levels invariant worker m m Waited its at.number under (ap latch_at at.here) (λ next leaves. let here = at.here in cc) in
        (rw at.here (omega arith), rw at.here (omega arith))
  ]

  -- one that writes a page in its place has a write left
  enough_for_write : (number : ℕ) → NeedsWrite m number → 1 ≤ writes_left m
  enough_for_write number needs = elim (needs_write m.state number needs) [
    | inl at ↦
        let under = its_own tree_state levels invariant worker m its (λ start. let here = at.here in cc) in
        let placed = at_state tree_state levels invariant worker m (Change number at.changed at.kept) under at.here in
        let low = low_under_latch laws tree_state tree_state levels invariant worker m m Waited its number under (ap latch_at at.here) (λ next leaves. let here = at.here in cc) in
        let may = may_write m placed.2 at.changed at.kept low placed.4 in
        rw at.here may
    | inr at ↦
        let under = its_own tree_state levels invariant worker m its (λ start. let here = at.here in cc) in
        let low = low_under_latch laws tree_state tree_state levels invariant worker m m Waited its number under (ap latch_at at.here) (λ next leaves. let here = at.here in cc) in
        rw at.here (omega arith)
  ]

  -- by what it needs
  enough_for : (need : Need) → need_at m.state ≡ need → IsPageWrite need → 1 ≤ writes_left m
  enough_for WriteNew needs writes = (enough_for_new needs).1
  enough_for (WritePage number) needs writes = enough_for_write number needs
  enough_for need needs writes = absurd writes

  -- and one that writes the prime block has that left
  enough_for_prime : (state : State) → m.state ≡ state → need_at state ≡ WritePrime → 1 ≤ primes_left m
  enough_for_prime (NewPrime page debt root prime) at needs = rw at (omega arith)
  enough_for_prime state at needs = absurd cc

-- at its begin
at_its_begin : (fan : ℕ) (op : Op) → (numbers_left (fresh fan op) ≤ 22) × (writes_left (fresh fan op) ≤ 43) × (primes_left (fresh fan op) ≤ 1)
at_its_begin fan (Find key) = (omega arith, omega arith, omega arith)
at_its_begin fan op = (omega arith, omega arith, omega arith)

-- all of it
pub allowance_is_used_up : TreeLaws → AllowanceIsUsedUp
allowance_is_used_up laws = record {
  at_its_begin = at_its_begin;
  enough = λ tree_state worker m invariant its. record {
    numbers = λ needs. (enough_for_new laws tree_state invariant.0 invariant.1 worker m its needs).0;
    page_writes = λ writes. enough_for laws tree_state invariant.0 invariant.1 worker m its (need_at m.state) refl writes;
    prime_writes = λ needs. enough_for_prime laws tree_state invariant.0 invariant.1 worker m its m.state refl needs;
  };
  by_step = λ old new worker m after step invariant words its steps. uses_up laws old new invariant.0 invariant.1 worker m after step its steps;
}
