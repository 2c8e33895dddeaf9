-- Each step decides as the plain map does, or changes none of the tree's entries.
use Rattle.std.proofs.Common.{◌≡◌, ℕ, ◌+◌, ◌<◌, ◌++◌, Some, None, List, [], ◌∷◌, refl, sym, ap, subst, arith}
use Rattle.blink_operation.specs.declared.Entry.{Entry}
use Rattle.blink_operation.specs.{IsAscending}
use Rattle.blink_page.specs.{PlainPage, root_over}
use Rattle.blink_page.specs.declared.limits.TheConstants.{GREATEST_KEY}
use Rattle.blink_rest.specs.{AreEntries, entries_along, BeginsAt}
use Rattle.blink_machine.specs.declared.machine.Debt.{Debt}
use Rattle.blink_machine.specs.declared.machine.Next.TheVariants.{Finish, MoveRight, Post}
use Rattle.blink_machine.specs.declared.machine.Need.TheVariants.{WritePage, WriteNew, WritePrime}
use Rattle.blink_machine.specs.declared.machine.State.{State}
use Rattle.blink_machine.specs.declared.machine.State.TheVariants.{Change, SplitOld, AskPrime, NewPrime, Leave}
use Rattle.blink_machine.specs.Machine.{PlainMachine, need_at}
use Rattle.blink_machine.specs.TreeState.{TreeState, Steps, WritesOne}
use Rattle.blink_machine.specs.Owned.{debt_at, unlinked_at}
use Rattle.blink_machine.specs.Placed.{PlacedAt}
use Rattle.blink_machine.specs.Invariant.{InvariantWith}
use Rattle.blink_machine.specs.TreeMap.{HasEntries, pairs_of}
use Rattle.blink_machine.specs.Table.{PrimeOut, IsTopLeftmost, done, done_at, page_out, page_out_at, sets_out}
use Rattle.blink_machine.specs.TreeWithDebts.{Levels}
use Rattle.blink_machine.proofs.tree_state.EntriesOfATree.{entries_are, tree_has_entries, has_entries_by, has_entries_left, decides_nothing}
use Rattle.blink_machine.proofs.operation.OperationIsPlaced.{begun, its_own, at_state}
use Rattle.blink_machine.proofs.tree_state.ReadsDecide.{prime_read_decides, page_read_decides}
use Rattle.blink_machine.specs.StepLaw.{Decides, StepDecides}
use Rattle.blink_machine.proofs.tree.TreeStatements.{TreeLaws, CanGrow}
use Rattle.blink_machine.proofs.tree_state.WritesDecide.{change_decides, split_decides}

-- an operation that sets out to post keeps its answer
sets_out_answer : (m : PlainMachine) (debt : Debt) (remembered : List ℕ) → (sets_out m debt remembered).answer ≡ m.answer
sets_out_answer m debt [] = refl
sets_out_answer m debt (page ∷ above) = refl

-- only the write of a page in its place answers
done_answer : (m : PlainMachine) (state : State) (new : ℕ) → ((number : ℕ) → need_at state ≡ WritePage number → ⊥) → (done_at m state new).answer ≡ m.answer
done_answer m (Change page changed kept) new elsewhere = absurd (elsewhere page refl)
done_answer m (SplitOld page lower debt) new elsewhere = absurd (elsewhere page refl)
done_answer m (Leave page Finish) new elsewhere = refl
done_answer m (Leave page (MoveRight next)) new elsewhere = refl
done_answer m (Leave page (Post debt)) new elsewhere = sets_out_answer m debt m.remembered
done_answer m other new elsewhere = refl

module _ (laws : TreeLaws) (old : TreeState) (levels : Levels) (invariant : InvariantWith old levels) (worker : ℕ) (m : PlainMachine) (under : old.machines worker ≡ Some m) where
  -- a new root stands over all of the tree's entries
  growth_leaves_entries : (page : ℕ) (debt : Debt) (root : ℕ) (read : List ℕ) → m.state ≡ NewPrime page debt root read → AreEntries old.fan (read ++ root ∷ []) old.pages (entries_along (levels 0))
  growth_leaves_entries page debt root read is =
      let placed = at_state old levels invariant worker m (NewPrime page debt root read) under is in
      let split = placed.1 in
      let asked = placed.2 in
      let owed = invariant.lawful.debts.is_debt worker m debt (under, ap (debt_at m.job) is) in
      let number : page ≡ split.cell.number = sym split.same_number in
      let high : debt.separator ≡ split.cell.page.high = sym split.ends_at in
      let to_grow : CanGrow old.fan old.prime old.pages levels debt.level split.cell debt.page root = record {
        fan_in_range = invariant.fan_in_range;
        numbers_in_range = invariant.numbers_in_range;
        is_top = subst (λ n. IsTopLeftmost old.prime debt.level n) number (subst (λ p. IsTopLeftmost p debt.level page) asked.same_prime asked.is_top);
        stands = split.stands;
        begins = subst (λ h. BeginsAt (levels debt.level) debt.page (Some h)) high owed.1;
        below_greatest = subst (λ h. h < GREATEST_KEY) high owed.0.below_greatest;
        not_in_chain = invariant.lawful.new_pages.placed.in_no_chain worker root m under (ap unlinked_at is);
        root_there = subst (λ h. old.pages root ≡ Some (root_over (debt.level + 1) h split.cell.number debt.page)) high
            (subst (λ n. old.pages root ≡ Some (root_over (debt.level + 1) debt.separator n debt.page)) number placed.3.root_there);
      } in
      let it = laws.growth_keeps old.fan old.prime old.pages levels debt.level split.cell debt.page root invariant.lawful.tree to_grow in
      subst (λ p. AreEntries old.fan (p ++ root ∷ []) old.pages (entries_along (levels 0))) (sym asked.same_prime)
      (tree_has_entries old.fan (old.prime ++ root ∷ []) old.pages it.new it.tree (entries_along (levels 0)) (ap entries_along (it.same_below 0 (λ same. omega arith))))

  module _ (new : TreeState) (after : PlainMachine) (entries : List Entry) (kept : HasEntries old entries) (ascending : IsAscending entries) (same_fan : new.fan ≡ old.fan) where
    -- the map's entries are those along level 0
    joined : pairs_of entries ≡ entries_along (levels 0)
    joined = entries_are old.fan old.prime old.pages levels invariant.lawful.tree (pairs_of entries) kept

    -- the write of the prime block decides nothing
    prime_write_decides : PrimeOut m new.prime → after ≡ done m 0 → need_at m.state ≡ WritePrime → new.pages ≡ old.pages → Decides new m after entries
    prime_write_decides (PrimeOut.adds_root page debt root read is written) same needs same_pages =
        decides_nothing new m after entries (done m 0) same (done_answer m m.state 0 (λ number writes. cc))
        (has_entries_by new old.fan (read ++ root ∷ []) old.pages entries same_fan written same_pages
        (subst (AreEntries old.fan (read ++ root ∷ []) old.pages) (sym joined) (growth_leaves_entries page debt root read is)))

    module _ (same_prime : new.prime ≡ old.prime) where
      -- nor does the write of a new page
      new_page_decides : (number : ℕ) (page : PlainPage) → old.pages number ≡ None → WritesOne old.pages new.pages number page → after ≡ done m number → need_at m.state ≡ WriteNew → Decides new m after entries
      new_page_decides number page free writes same needs =
          let tree = laws.free_write_keeps old.fan old.prime old.pages new.pages levels number page invariant.lawful.tree free writes in
          decides_nothing new m after entries (done m number) same (done_answer m m.state number (λ other needed. cc))
          (has_entries_by new old.fan old.prime new.pages entries same_fan same_prime refl (tree_has_entries old.fan old.prime new.pages levels tree (pairs_of entries) (sym joined)))

      -- the write of a page in its place decides for a leaf operation
      page_write_decides : (state : State) (number : ℕ) → m.state ≡ state → PlacedAt old levels m state → need_at state ≡ WritePage number → after ≡ done_at m state 0
          → WritesOne old.pages new.pages number (page_out_at m state 0) → Decides new m after entries
      page_write_decides (Change page changed found) number is placed needs same writes =
          let here : number ≡ page = cc in
          change_decides laws old new levels invariant worker m after entries under kept same_fan same_prime (ap (debt_at m.job) is) page placed.2 placed.0 placed.3 ascending changed found placed.1 placed.4
          (subst (λ n. WritesOne old.pages new.pages n changed) here writes) (Leave page Finish) same
      page_write_decides (SplitOld page lower debt) number is placed needs same writes =
          let here : number ≡ page = cc in
          split_decides laws old new levels invariant worker m after entries under kept same_fan same_prime (ap (debt_at m.job) is) page lower debt (ap unlinked_at is) placed.0 placed.1 placed.2
          (subst (λ n. WritesOne old.pages new.pages n lower) here writes) (AskPrime page debt) same
      page_write_decides other number is placed needs same writes = absurd (cc)

-- every step
pub step_decides : TreeLaws → StepDecides
step_decides laws old new worker m after step entries invariant words its (Steps.reads_prime needs sees moved left now) ascending kept =
    prime_read_decides new m after old.prime entries sees (has_entries_left old new entries left kept)
step_decides laws old new worker m after step entries invariant words its (Steps.waits_for_level needs waits waited same same_after) ascending kept =
    decides_nothing new m after entries m same_after refl (subst (λ (x : TreeState). HasEntries x entries) (sym same) kept)
step_decides laws old new worker m after step entries invariant words its (Steps.reads_page number page needs there sees moved left now) ascending kept =
    page_read_decides laws old new invariant.0 invariant.1 left worker m after entries kept number page there its sees
step_decides laws old new worker m after step entries invariant words its (Steps.latches number needs free same moved same_fan same_prime same_pages passes now) ascending kept =
    decides_nothing new m after entries (done m 0) same (done_answer m m.state 0 (λ other writes. cc)) (has_entries_by new old.fan old.prime old.pages entries same_fan same_prime same_pages kept)
step_decides laws old new worker m after step entries invariant words its (Steps.waits_for_latch number holder needs held waited same same_after) ascending kept =
    decides_nothing new m after entries m same_after refl (subst (λ (x : TreeState). HasEntries x entries) (sym same) kept)
step_decides laws old new worker m after step entries invariant words its (Steps.writes_new number needs in_range free same moved same_fan same_prime writes same_holder now) ascending kept =
    let under = its_own old invariant.0 invariant.1 worker m its (begun m (λ same_need. cc)) in
    new_page_decides laws old invariant.0 invariant.1 worker m under new after entries kept ascending same_fan same_prime number (page_out m number) free writes same needs
step_decides laws old new worker m after step entries invariant words its (Steps.writes_page number needs same moved same_fan same_prime writes same_holder now) ascending kept =
    let under = its_own old invariant.0 invariant.1 worker m its (begun m (λ same_need. cc)) in
    page_write_decides laws old invariant.0 invariant.1 worker m under new after entries kept ascending same_fan same_prime m.state number refl
    (at_state old invariant.0 invariant.1 worker m m.state under refl) needs same writes
step_decides laws old new worker m after step entries invariant words its (Steps.writes_prime needs written same moved same_fan same_pages same_holder now) ascending kept =
    let under = its_own old invariant.0 invariant.1 worker m its (begun m (λ same_need. cc)) in
    prime_write_decides laws old invariant.0 invariant.1 worker m under new after entries kept ascending same_fan written same needs same_pages
step_decides laws old new worker m after step entries invariant words its (Steps.unlatches number needs same moved same_fan same_prime same_pages passes now) ascending kept =
    decides_nothing new m after entries (done m 0) same (done_answer m m.state 0 (λ other writes. cc)) (has_entries_by new old.fan old.prime old.pages entries same_fan same_prime same_pages kept)
