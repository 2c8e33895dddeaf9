-- A leaf that stands in its chain stays there, whatever page or prime block a step writes; and it tells each of its keys.
use Rattle.std.proofs.Common.{◌≡◌, ◌≢◌, ℕ, inl, inr, Option, Some, None, List, refl, sym, ap, ◌∙◌, subst}
use Rattle.std.proofs.lemmas.Bool.{cases_eq}
use Rattle.blink_batch.specs.declared.Entry.{Entry}
use Rattle.blink_batch.specs.{pointer_of}
use Rattle.blink_page.specs.{PlainPage, IsKeyOf, value_at}
use Rattle.blink_rest.specs.{AreEntries, IsMember, Pages}
use Rattle.blink_rest.proofs.Offered.{same_chain}
use Rattle.blink_machine.specs.declared.machine.Job.{Job}
use Rattle.blink_machine.specs.declared.machine.Job.TheVariants.{Leaf, Parent}
use Rattle.blink_machine.specs.declared.machine.State.{State}
use Rattle.blink_machine.specs.declared.machine.State.TheVariants.{AskPrime, Change, Going, Leave, NewPrime, Root, SplitNew, SplitOld}
use Rattle.blink_machine.specs.declared.machine.Need.TheVariants.{WriteNew, WritePage, WritePrime}
use Rattle.blink_machine.specs.declared.machine.Next.TheVariants.{Finish}
use Rattle.blink_machine.specs.{IsItsOperation, IsWorkersNow, KeepsPlaces, PlainMachine, decided_with, done, done_at, need_at, pairs_of}
use Rattle.blink_machine.specs.Invariant.{Invariant}
use Rattle.blink_machine.specs.Owned.{unlinked_at, unlinked_of}
use Rattle.blink_machine.specs.TreeState.{TreeState}
use Rattle.blink_machine.specs.TreeWithDebts.{IsInChain, IsUnlinked}
use Rattle.blink_machine.proofs.Offered.{tree_laws, at_state, leftmost_of, pointer_in_leaf, has_by, turns, was_other}
use Rattle.blink_live.specs.Looks.{IsLeafInChain, TellsAll}

-- ---- what is unlinked after a write

decided_state : (m : PlainMachine) (job : Job) (state : State) (kept : Option ℕ) → (decided_with m job state kept).state ≡ state
decided_state m Leaf state kept = refl
decided_state m (Parent debt) state kept = refl

-- a page in its place
write_at : (m : PlainMachine) (state : State) (number n : ℕ) → need_at state ≡ WritePage number → unlinked_at (done_at m state 0).state ≢ Some n
write_at m (Change page changed kept) number n needs is = let none : None ≡ Some n = sym (ap unlinked_at (decided_state m m.job (Leave page Finish) kept)) ∙ is in cc
write_at m (SplitOld page lower debt) number n needs is = let none : None ≡ Some n = sym (ap unlinked_at (decided_state m m.job (AskPrime page debt) None)) ∙ is in cc
write_at m state number n needs is = absurd (cc)

pub none_after_write : (m : PlainMachine) (number n : ℕ) → need_at m.state ≡ WritePage number → unlinked_of (done m 0) ≢ Some n
none_after_write m number n needs = write_at m m.state number n needs

-- the prime block
prime_at : (m : PlainMachine) (state : State) (n : ℕ) → need_at state ≡ WritePrime → unlinked_at (done_at m state 0).state ≢ Some n
prime_at m (NewPrime page debt root prime) n needs is = cc
prime_at m state n needs is = absurd (cc)

pub none_after_prime : (m : PlainMachine) (n : ℕ) → need_at m.state ≡ WritePrime → unlinked_of (done m 0) ≢ Some n
none_after_prime m n needs = prime_at m m.state n needs

-- a new page
new_at : (m : PlainMachine) (state : State) (number n : ℕ) → need_at state ≡ WriteNew → unlinked_at (done_at m state number).state ≡ Some n → number ≡ n
new_at m (SplitNew page before) number n needs is = cc
new_at m (Root page debt prime) number n needs is = cc
new_at m state number n needs is = absurd (cc)

pub new_is_unlinked : (m : PlainMachine) (number n : ℕ) → need_at m.state ≡ WriteNew → unlinked_of (done m number) ≡ Some n → number ≡ n
new_is_unlinked m number n needs = new_at m m.state number n needs

-- ---- a leaf in its chain

-- an operation that has come to a leaf stands at one
pub comes_to_leaf : (tree_state : TreeState) (worker number : ℕ) (m : PlainMachine) → Invariant tree_state → tree_state.machines worker ≡ Some m → m.state ≡ Going number 0
    → IsLeafInChain tree_state.fan tree_state.prime tree_state.pages number
comes_to_leaf tree_state worker number m invariant under going =
    let placed = at_state tree_state invariant.0 invariant.1 worker m (Going number 0) under going in
    let begins = placed.1.begins in record {
      levels = invariant.0;
      tree = invariant.1.lawful.tree;
      cell = begins.cell;
      stands = begins.stands;
      same_number = begins.same_number;
    }

-- it tells the state of each of its keys
pub leaf_tells_all : (fan : ℕ) (prime : List ℕ) (pages : Pages) (number : ℕ) (leaf : PlainPage) (entries : List Entry) (kept : ℕ → Option ℕ) → IsLeafInChain fan prime pages number → pages number ≡ Some leaf
    → AreEntries fan prime pages (pairs_of entries) → ((key : ℕ) → pointer_of entries key ≡ kept key) → TellsAll kept leaf
leaf_tells_all fan prime pages number leaf entries kept is there are maps key belongs =
    let it = tree_laws.cells_are_of_level fan prime pages is.levels 0 is.cell is.tree is.stands in
    let same : is.cell.page ≡ leaf = cc (it.there, there, ap pages is.same_number) in
    let its : pointer_of entries key ≡ value_at key is.cell.page.entries = pointer_in_leaf fan prime pages is.levels is.tree tree_laws entries key is.cell are is.stands (subst (λ (p : PlainPage). IsKeyOf p key) (sym same) belongs) in
    ap (λ (p : PlainPage). value_at key p.entries) (sym same) ∙ (sym its ∙ maps key)

module _ (old new : TreeState) (worker : ℕ) (m after : PlainMachine) (before : Invariant old) (now : Invariant new) (its : IsItsOperation old worker m) (workers : IsWorkersNow old.machines new.machines worker after)
    (places : KeepsPlaces old.pages new.pages) (taken : (n : ℕ) → unlinked_of after ≡ Some n → old.pages n ≡ None) where
  -- its level has one chain
  in_its_chain : (number : ℕ) → IsLeafInChain old.fan old.prime old.pages number → IsInChain before.0 number
  in_its_chain number is =
      let first = leftmost_of old.prime 0 is.tree.chains.some_level in
      let same : is.levels 0 ≡ before.0 0 = same_chain old.fan old.pages 0 first.0 (is.levels 0) (before.0 0) (is.tree.chains.named 0 first.0 first.1) (before.1.lawful.tree.chains.named 0 first.0 first.1) in
      record { level = 0; cell = is.cell; stands = subst (IsMember is.cell) same is.stands; same_number = is.same_number }

  -- it isn't unlinked now
  still_linked : (number : ℕ) (page : PlainPage) → IsLeafInChain old.fan old.prime old.pages number → old.pages number ≡ Some page → ¬ IsUnlinked new number
  still_linked number page is there unlinked = elim (cases_eq unlinked.worker worker) [
    | inl same ↦
        let own = has_by old.machines new.machines worker m after (turns old new worker m after its workers) unlinked_of number unlinked.worker unlinked.m same unlinked.under_way unlinked.unlinked in
        let none : old.pages number ≡ None = taken number own in cc
    | inr differs ↦
        before.1.lawful.new_pages.placed.in_no_chain unlinked.worker number unlinked.m (was_other old.machines new.machines worker m after (turns old new worker m after its workers) unlinked.worker unlinked.m differs unlinked.under_way)
        unlinked.unlinked (in_its_chain number is)
  ]

  pub leaves_stay : (number : ℕ) → IsLeafInChain old.fan old.prime old.pages number → IsLeafInChain new.fan new.prime new.pages number
  leaves_stay number is =
      let it = tree_laws.cells_are_of_level old.fan old.prime old.pages is.levels 0 is.cell is.tree is.stands in
      let there : old.pages number ≡ Some is.cell.page = ap old.pages (sym is.same_number) ∙ it.there in
      let then = places number is.cell.page there in
      elim (now.1.lawful.new_pages.placed.placed number then.0 then.1) [
        | inl chained ↦
            let of = tree_laws.cells_are_of_level new.fan new.prime new.pages now.0 chained.level chained.cell now.1.lawful.tree chained.stands in
            let same : chained.cell.page ≡ then.0 = cc (of.there, then.1, ap new.pages chained.same_number) in
            let level : chained.level ≡ 0 = sym of.has_level ∙ (ap (λ (p : PlainPage). p.level) same ∙ (then.2.1 ∙ it.has_level)) in record {
              levels = now.0;
              tree = now.1.lawful.tree;
              cell = chained.cell;
              stands = subst (λ (k : ℕ). IsMember chained.cell (now.0 k)) level chained.stands;
              same_number = chained.same_number;
            }
        | inr unlinked ↦ absurd (still_linked number is.cell.page is there unlinked)
      ]
