-- What a worker alone does to a store is a step of the tree state that the store and the operation make.
use Rattle.std.proofs.Common.{◌≡◌, ℕ, ◌+◌, Option, Some, None, List, [], ◌∷◌, length, refl, sym, ap, subst, ◌∙◌, arith, add-one}
use Rattle.std.proofs.lemmas.Option.{slice_get_past}
use Rattle.blink_page.specs.{PlainPage}
use Rattle.blink_store.specs.{PlainStore, WritesPage, page_of}
use Rattle.blink_store.proofs.Offered.{has_page, writes-add, writes-write}
use Rattle.blink_machine.specs.declared.machine.Need.{Need}
use Rattle.blink_machine.specs.declared.machine.Need.TheVariants.{ReadPrime, ReadPage, Latch, WriteNew, WritePage, WritePrime, Unlatch, End}
use Rattle.blink_machine.specs.declared.machine.Next.TheVariants.{Finish, MoveRight, Post}
use Rattle.blink_machine.specs.declared.machine.State.{State}
use Rattle.blink_machine.specs.declared.machine.State.TheVariants.{Want, Change, SplitNew, SplitOld, AskPrime, Root, NewPrime, Leave}
use Rattle.blink_machine.specs.declared.machine.Job.{Job}
use Rattle.blink_machine.specs.declared.machine.Job.TheVariants.{Leaf, Parent}
use Rattle.blink_machine.specs.declared.machine.Debt.{Debt}
use Rattle.blink_machine.specs.declared.step.Kind.{Kind}
use Rattle.blink_machine.specs.declared.step.Step.TheVariants.{Moved}
use Rattle.blink_machine.specs.{IsWorkersNow, LatchPasses, Leaves, PlainMachine, SeesPage, SeesPrime, Steps, WritesOne, decided_with, done_at, goes_on, latch, latch_at, latch_of, latches, need_at, page_out, read_page, read_prime, reads_page, reads_prime, sets_out, unlatch, unlatches, write_page, write_prime, writes_new, writes_page, writes_prime}
use Rattle.blink_machine.specs.Table.{SeesOnItsWay, SeesUnderLatch}
use Rattle.blink_index.specs.Drive.{ActsOn, CanActOn}
use Rattle.blink_index.proofs.alone.AloneInTree.{alone, held_alone, latch_gone, latch_got, works_alone, worker_now}

-- ---- what the operation holds after a step

-- a read of the prime block leaves the latch
latch-sees_prime : (m after : PlainMachine) (prime : List ℕ) → SeesPrime m prime after → latch_of after ≡ latch_of m
latch-sees_prime m after prime (SeesPrime.begins top was last is) = ap latch_of is ∙ sym (ap latch_at was)
latch-sees_prime m after prime (SeesPrime.asks_of_root page debt was top is) = ap latch_of is ∙ sym (ap latch_at was)
latch-sees_prime m after prime (SeesPrime.asks_of_other page debt was none is) = ap latch_of is ∙ sym (ap latch_at was)
latch-sees_prime m after prime (SeesPrime.finds_leftmost debt leftmost was job there is) = ap latch_of is ∙ sym (ap latch_at was)

-- and so does a read of a page
latch-sees_page : (m after : PlainMachine) (number : ℕ) (page : PlainPage) → SeesPage m number page after → latch_of after ≡ latch_of m
latch-sees_page m after number page (SeesPage.on_its_way (SeesOnItsWay.find_answers level key was leads op is)) = ap latch_of is ∙ sym (ap latch_at was)
latch-sees_page m after number page (SeesPage.on_its_way (SeesOnItsWay.goes_right level next was leads is)) = ap latch_of is ∙ sym (ap latch_at was)
latch-sees_page m after number page (SeesPage.on_its_way (SeesOnItsWay.goes_down level child was leads is)) = ap latch_of is ∙ sym (ap latch_at was)
latch-sees_page m after number page (SeesPage.on_its_way (SeesOnItsWay.update_wants level was leads updates is)) = ap latch_of is ∙ sym (ap latch_at was)
latch-sees_page m after number page (SeesPage.under_latch held (SeesUnderLatch.is_above_high_key next above right is)) = ap latch_of is ∙ sym (ap latch_at held)
latch-sees_page m after number page (SeesPage.under_latch held (SeesUnderLatch.insertion_finds_key key pointer kept below job op found is)) = ap latch_of is ∙ sym (ap latch_at held)
latch-sees_page m after number page (SeesPage.under_latch held (SeesUnderLatch.deletion_finds_none key below job op found is)) = ap latch_of is ∙ sym (ap latch_at held)
latch-sees_page m after number page (SeesPage.under_latch held (SeesUnderLatch.replacement_finds_none key pointer below job op found is)) = ap latch_of is ∙ sym (ap latch_at held)
latch-sees_page m after number page (SeesPage.under_latch held (SeesUnderLatch.finds_other_pointer key expected below job op found is)) = ap latch_of is ∙ sym (ap latch_at held)
latch-sees_page m after number page (SeesPage.under_latch held (SeesUnderLatch.posting_finds_separator debt child below job found is)) = ap latch_of is ∙ sym (ap latch_at held)
latch-sees_page m after number page (SeesPage.under_latch held (SeesUnderLatch.is_to_change changed kept below change is)) = ap latch_of is ∙ sym (ap latch_at held)
latch-sees_page m after number page (SeesPage.under_latch held (SeesUnderLatch.is_to_split below full is)) = ap latch_of is ∙ sym (ap latch_at held)

latch-decided : (m : PlainMachine) (job : Job) (state : State) (kept : Option ℕ) → latch_of (decided_with m job state kept) ≡ latch_at state
latch-decided m Leaf state kept = refl
latch-decided m (Parent debt) state kept = refl

latch-sets_out : (m : PlainMachine) (debt : Debt) (remembered : List ℕ) → latch_of (sets_out m debt remembered) ≡ None
latch-sets_out m debt [] = refl
latch-sets_out m debt (page ∷ above) = refl

-- a write leaves it too
latch-writes_new : (m : PlainMachine) (state : State) (new : ℕ) → need_at state ≡ WriteNew → latch_of (done_at m state new) ≡ latch_at state
latch-writes_new m (SplitNew page before) new needs = refl
latch-writes_new m (Root page debt prime) new needs = refl
latch-writes_new m other new needs = absurd (cc)

latch-writes : (m : PlainMachine) (state : State) (number : ℕ) → need_at state ≡ WritePage number → latch_of (done_at m state 0) ≡ latch_at state
latch-writes m (Change page changed kept) number needs = latch-decided m m.job (Leave page Finish) kept
latch-writes m (SplitOld page lower debt) number needs = latch-decided m m.job (AskPrime page debt) None
latch-writes m other number needs = absurd (cc)

latch-writes_prime : (m : PlainMachine) (state : State) → need_at state ≡ WritePrime → latch_of (done_at m state 0) ≡ latch_at state
latch-writes_prime m (NewPrime page debt root prime) needs = refl
latch-writes_prime m other needs = absurd (cc)

-- a latch that it gets it didn't have
latch-gets : (m : PlainMachine) (state : State) (number : ℕ) → need_at state ≡ Latch number → (latch_at state ≡ None) × (latch_of (done_at m state 0) ≡ Some number)
latch-gets m (Want page) number needs = (refl, cc)
latch-gets m other number needs = absurd (cc)

-- and one that it lets go it had
latch-lets : (m : PlainMachine) (state : State) (number : ℕ) → need_at state ≡ Unlatch number → (latch_at state ≡ Some number) × (latch_of (done_at m state 0) ≡ None)
latch-lets m (Leave page Finish) number needs = (cc, refl)
latch-lets m (Leave page (MoveRight next)) number needs = (cc, refl)
latch-lets m (Leave page (Post debt)) number needs = (cc, latch-sets_out m debt m.remembered)
latch-lets m other number needs = absurd (cc)

-- ---- the steps

-- a move of the worker, of some kind
pub record MovesAlone (old new : PlainStore) (before m after : PlainMachine) : Type 0 where
  pub kind : Kind
  pub step : Steps (alone old before) 0 m (Moved kind) after (alone new after)

module _ (old new : PlainStore) (before m after : PlainMachine) (same_latch : latch_of before ≡ latch_of m) where
  now : IsWorkersNow (works_alone (goes_on before before.state)) (works_alone (goes_on after after.state)) 0 after
  now = worker_now (goes_on before before.state) after

  -- where nothing is written
  leaves : new ≡ old → latch_of after ≡ latch_of m → Leaves (alone old before) (alone new after)
  leaves same kept = record {
    same_fan = ap (λ (store : PlainStore). store.fan) same;
    same_prime = ap (λ (store : PlainStore). store.prime) same;
    same_pages = ap page_of same;
    same_holder = ap held_alone (kept ∙ sym same_latch);
  }

  -- where a page is written
  one_written : (store : PlainStore) (number : ℕ) (page : PlainPage) → new ≡ store → WritesPage old store number page → WritesOne (page_of old) (page_of new) number page
  one_written store number page same writes = record {
    written = ap (λ (s : PlainStore). page_of s number) same ∙ writes.written;
    others = λ other differs. ap (λ (s : PlainStore). page_of s other) same ∙ writes.others other differs;
  }

  moves_at_need : (need : Need) → need_at m.state ≡ need → CanActOn need old m → ActsOn need old m after new → MovesAlone old new before m after
  moves_at_need ReadPrime needs can acts = record {
    kind = read_prime;
    step = reads_prime needs acts.0 refl (leaves acts.1 (latch-sees_prime m after old.prime acts.0)) now;
  }
  moves_at_need (ReadPage number) needs can acts = record {
    kind = read_page number;
    step = reads_page number acts.0.page needs acts.0.there acts.0.sees refl (leaves acts.1 (latch-sees_page m after number acts.0.page acts.0.sees)) now;
  }
  moves_at_need (Latch number) needs can acts =
      let gets = latch-gets m m.state number needs in
      let none : latch_of before ≡ None = same_latch ∙ gets.0 in
      let some : latch_of after ≡ Some number = ap latch_of acts.0 ∙ gets.1 in
      let P : Option ℕ → Option ℕ → Type 0 = λ was is. LatchPasses (held_alone was) (held_alone is) number (Some 0) in
      record {
        kind = latch number;
        step = latches number needs (ap (λ (l : Option ℕ). held_alone l number) none) acts.0 refl (ap (λ (s : PlainStore). s.fan) acts.1) (ap (λ (s : PlainStore). s.prime) acts.1) (ap page_of acts.1)
            (subst (λ (was : Option ℕ). P was (latch_of after)) (sym none) (subst (λ (is : Option ℕ). P None is) (sym some) (latch_got number))) now;
      }
  moves_at_need WriteNew needs can acts =
      let writes = writes-add old (page_out m (length old.pages + 1)) (length old.pages + 1) refl in
      record {
        kind = write_page (length old.pages + 1);
        step = writes_new (length old.pages + 1) needs can (rw add-one (slice_get_past old.pages (length old.pages) (omega arith))) acts.0 refl
            (ap (λ (s : PlainStore). s.fan) acts.1) (ap (λ (s : PlainStore). s.prime) acts.1)
            (one_written _ (length old.pages + 1) _ acts.1 writes) (ap held_alone (ap latch_of acts.0 ∙ latch-writes_new m m.state (length old.pages + 1) needs ∙ sym same_latch)) now;
      }
  moves_at_need (WritePage number) needs can acts =
      let writes = writes-write old (page_out m 0) number (has_page old number can.0 can.1) in
      record {
        kind = write_page number;
        step = writes_page number needs acts.0 refl (ap (λ (s : PlainStore). s.fan) acts.1) (ap (λ (s : PlainStore). s.prime) acts.1)
            (one_written _ number _ acts.1 writes) (ap held_alone (ap latch_of acts.0 ∙ latch-writes m m.state number needs ∙ sym same_latch)) now;
      }
  moves_at_need WritePrime needs can acts = record {
    kind = write_prime;
    step = writes_prime needs acts.1 acts.0 refl (ap (λ (s : PlainStore). s.fan) acts.2) (ap page_of acts.2)
        (ap held_alone (ap latch_of acts.0 ∙ latch-writes_prime m m.state needs ∙ sym same_latch)) now;
  }
  moves_at_need (Unlatch number) needs can acts =
      let lets = latch-lets m m.state number needs in
      let some : latch_of before ≡ Some number = same_latch ∙ lets.0 in
      let none : latch_of after ≡ None = ap latch_of acts.0 ∙ lets.1 in
      let P : Option ℕ → Option ℕ → Type 0 = λ was is. LatchPasses (held_alone was) (held_alone is) number None in
      record {
        kind = unlatch number;
        step = unlatches number needs acts.0 refl (ap (λ (s : PlainStore). s.fan) acts.1) (ap (λ (s : PlainStore). s.prime) acts.1) (ap page_of acts.1)
            (subst (λ (was : Option ℕ). P was (latch_of after)) (sym some) (subst (λ (is : Option ℕ). P (Some number) is) (sym none) (latch_gone number))) now;
      }
  moves_at_need End needs can acts = absurd acts

  pub acts_alone : CanActOn (need_at m.state) old m → ActsOn (need_at m.state) old m after new → MovesAlone old new before m after
  acts_alone can acts = moves_at_need (need_at m.state) refl can acts
