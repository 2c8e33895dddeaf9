-- A step leaves an operation the operation that it is, and one that ends has its answer.
use Rattle.std.proofs.Common.{◌≡◌, ◌≢◌, ℕ, Option, None, IsSome, is_some, List, [], ◌∷◌, refl, ap, sym, ◌∙◌, subst}
use Rattle.blink_page.specs.{PlainPage}
use Rattle.blink_machine.specs.declared.machine.Debt.{Debt}
use Rattle.blink_machine.specs.declared.machine.Job.{Job}
use Rattle.blink_machine.specs.declared.machine.Job.TheVariants.{Leaf, Parent}
use Rattle.blink_machine.specs.declared.machine.Next.{Next}
use Rattle.blink_machine.specs.declared.machine.Next.TheVariants.{Finish, MoveRight, Post}
use Rattle.blink_machine.specs.declared.machine.State.{State}
use Rattle.blink_machine.specs.declared.machine.State.TheVariants.{Start, Going, Want, Held, Change, SplitNew, SplitOld, AskPrime, Root, NewPrime, Leave, Posting, Ended}
use Rattle.blink_machine.specs.declared.step.Step.{Step}
use Rattle.blink_machine.specs.Machine.{PlainMachine, answered}
use Rattle.blink_machine.specs.TreeState.{TreeState, IsItsOperation, under_way, taken_on, Steps, reads_prime, waits_for_level, reads_page, latches, waits_for_latch, writes_new, writes_page, writes_prime, unlatches}
use Rattle.blink_machine.specs.Placed.{PlacedAt}
use Rattle.blink_machine.specs.Invariant.{Invariant}
use Rattle.blink_machine.specs.Table.{SeesPrime, begins, asks_of_root, asks_of_other, finds_leftmost, SeesOnItsWay, goes_right, goes_down, find_answers, update_wants, SeesUnderLatch, is_above_high_key, insertion_finds_key, deletion_finds_none, replacement_finds_none, finds_other_pointer, posting_finds_separator, is_to_change, is_to_split, SeesPage, on_its_way, under_latch, decided_with, sets_out, leaves_for, done_at}

-- the operation is the same, and if it has ended it is answered
pub record StaysItself (m after : PlainMachine) : Type 0 where
  pub same_op : after.op ≡ m.op
  pub ends_answered : after.state ≡ Ended → IsSome after.answer

-- a machine at another state, which isn't the end, stays itself
goes_on_itself : (m after : PlainMachine) (now : PlainMachine) → after ≡ now → now.op ≡ m.op → now.state ≢ Ended → StaysItself m after
goes_on_itself m after now same same_op on = record {
  same_op = ap (λ (x : PlainMachine). x.op) same ∙ same_op;
  ends_answered = λ ended. absurd (on (sym (ap (λ (x : PlainMachine). x.state) same) ∙ ended));
}

-- ---- what a read makes of it

-- where it reads the prime block
sees_prime_stays : (m after : PlainMachine) (prime : List ℕ) → SeesPrime m prime after → StaysItself m after
sees_prime_stays m after prime (begins top at last is) = goes_on_itself m after _ is refl (λ ended. cc)
sees_prime_stays m after prime (asks_of_root page debt at top is) = goes_on_itself m after _ is refl (λ ended. cc)
sees_prime_stays m after prime (asks_of_other page debt at top is) = goes_on_itself m after _ is refl (λ ended. cc)
sees_prime_stays m after prime (finds_leftmost debt leftmost at job there is) = goes_on_itself m after _ is refl (λ ended. cc)

-- where it reads a page on its way: only a find ends there, with its answer
sees_way_stays : (m after : PlainMachine) (number : ℕ) (page : PlainPage) → SeesOnItsWay m number page after → StaysItself m after
sees_way_stays m after number page (goes_right level next at leads is) = goes_on_itself m after _ is refl (λ ended. cc)
sees_way_stays m after number page (goes_down level child at leads is) = goes_on_itself m after _ is refl (λ ended. cc)
sees_way_stays m after number page (find_answers level key at leads op is) = record {
  same_op = ap (λ (x : PlainMachine). x.op) is;
  ends_answered = λ ended. ap (λ (x : PlainMachine). is_some x.answer) is;
}
sees_way_stays m after number page (update_wants level at leads is_update is) = goes_on_itself m after _ is refl (λ ended. cc)

-- where it reads a page under its latch
sees_latched_stays : (m after : PlainMachine) (number : ℕ) (page : PlainPage) → SeesUnderLatch m number page after → StaysItself m after
sees_latched_stays m after number page (is_above_high_key next above right is) = goes_on_itself m after _ is refl (λ ended. cc)
sees_latched_stays m after number page (insertion_finds_key key pointer kept within job op there is) = goes_on_itself m after _ is refl (λ ended. cc)
sees_latched_stays m after number page (deletion_finds_none key within job op there is) = goes_on_itself m after _ is refl (λ ended. cc)
sees_latched_stays m after number page (replacement_finds_none key pointer within job op there is) = goes_on_itself m after _ is refl (λ ended. cc)
sees_latched_stays m after number page (finds_other_pointer key expected within job op there is) = goes_on_itself m after _ is refl (λ ended. cc)
sees_latched_stays m after number page (posting_finds_separator debt child within job there is) = goes_on_itself m after _ is refl (λ ended. cc)
sees_latched_stays m after number page (is_to_change changed kept within change is) = goes_on_itself m after _ is refl (λ ended. cc)
sees_latched_stays m after number page (is_to_split within full is) = goes_on_itself m after _ is refl (λ ended. cc)

-- where it reads a page
sees_page_stays : (m after : PlainMachine) (number : ℕ) (page : PlainPage) → SeesPage m number page after → StaysItself m after
sees_page_stays m after number page (on_its_way sees) = sees_way_stays m after number page sees
sees_page_stays m after number page (under_latch held sees) = sees_latched_stays m after number page sees

-- ---- what a latch, a write or an unlatch makes of it

-- a decided operation is the same, at the given state
decided_op : (m : PlainMachine) (job : Job) (state : State) (kept : Option ℕ) → ((decided_with m job state kept).op ≡ m.op) × ((decided_with m job state kept).state ≡ state)
decided_op m Leaf state kept = (refl, refl)
decided_op m (Parent debt) state kept = (refl, refl)

-- one that sets out to post is the same, and hasn't ended
sets_out_op : (m : PlainMachine) (debt : Debt) (remembered : List ℕ) → ((sets_out m debt remembered).op ≡ m.op) × ((sets_out m debt remembered).state ≢ Ended)
sets_out_op m debt [] = (refl, λ ended. cc)
sets_out_op m debt (page ∷ above) = (refl, λ ended. cc)

-- one that leaves a page is the same, and ends only where that is its next
leaves_stays : (m : PlainMachine) (next : Next) → (next ≡ Finish → IsSome m.answer) → StaysItself m (leaves_for m next)
leaves_stays m Finish answered = record { same_op = refl; ends_answered = λ ended. answered refl }
leaves_stays m (MoveRight page) answered = goes_on_itself m _ _ refl refl (λ ended. cc)
leaves_stays m (Post debt) answered = let out = sets_out_op m debt m.remembered in goes_on_itself m _ _ refl out.0 out.1

-- an operation that is done with what it needed
done_stays : (m : PlainMachine) (state : State) (new : ℕ) → m.state ≡ state → state ≢ Ended → ((page : ℕ) → state ≡ Leave page Finish → IsSome m.answer) → StaysItself m (done_at m state new)
done_stays m Start new at on answered = goes_on_itself m _ _ refl refl (λ ended. cc)
done_stays m (Going page level) new at on answered = goes_on_itself m _ _ refl refl (λ ended. cc)
done_stays m (Want page) new at on answered = goes_on_itself m _ _ refl refl (λ ended. cc)
done_stays m (Held page) new at on answered = goes_on_itself m _ _ refl refl (λ ended. cc)
done_stays m (Change page changed kept) new at on answered =
    let now = decided_op m m.job (Leave page Finish) kept in
    goes_on_itself m _ _ refl now.0 (λ ended. let is = now.1 in cc)
done_stays m (SplitNew page before) new at on answered = goes_on_itself m _ _ refl refl (λ ended. cc)
done_stays m (SplitOld page lower debt) new at on answered =
    let now = decided_op m m.job (AskPrime page debt) None in
    goes_on_itself m _ _ refl now.0 (λ ended. let is = now.1 in cc)
done_stays m (AskPrime page debt) new at on answered = goes_on_itself m _ _ refl refl (λ ended. cc)
done_stays m (Root page debt prime) new at on answered = goes_on_itself m _ _ refl refl (λ ended. cc)
done_stays m (NewPrime page debt root prime) new at on answered = goes_on_itself m _ _ refl refl (λ ended. cc)
done_stays m (Leave page next) new at on answered = leaves_stays m next (λ finish. answered page (ap (Leave page) finish))
done_stays m Posting new at on answered = goes_on_itself m _ _ refl refl (λ ended. cc)
done_stays m Ended new at on answered = absurd (on refl)

-- ---- a step

-- an operation that is about to end has its answer
leaving_answered : (tree_state : TreeState) (worker : ℕ) (m : PlainMachine) → Invariant tree_state → IsItsOperation tree_state worker m → (page : ℕ) → m.state ≡ Leave page Finish → IsSome m.answer
leaving_answered tree_state worker m invariant (under_way has) page at =
    let placed = invariant.1.placed worker m has in
    subst (PlacedAt tree_state invariant.0 m) at placed.at_its_state
leaving_answered tree_state worker m invariant (taken_on op none is) page at =
    let start : m.state ≡ Start = ap (λ (x : PlainMachine). x.state) is in absurd (cc)

-- every step leaves the operation itself
pub step_stays : (old new : TreeState) (worker : ℕ) (m after : PlainMachine) (step : Step) → Invariant old → IsItsOperation old worker m → Steps old worker m step after new
    → m.state ≢ Ended → StaysItself m after
step_stays old new worker m after step invariant its (reads_prime needs sees is leaves now) on = sees_prime_stays m after old.prime sees
step_stays old new worker m after step invariant its (waits_for_level needs waits is same still) on = goes_on_itself m after m still refl on
step_stays old new worker m after step invariant its (reads_page number page needs there sees is leaves now) on = sees_page_stays m after number page sees
step_stays old new worker m after step invariant its (latches number needs free is kind fan prime pages passes now) on =
    subst (StaysItself m) (sym is) (done_stays m m.state 0 refl on (leaving_answered old worker m invariant its))
step_stays old new worker m after step invariant its (waits_for_latch number holder needs held is same still) on = goes_on_itself m after m still refl on
step_stays old new worker m after step invariant its (writes_new number needs range free is kind fan prime pages holder now) on =
    subst (StaysItself m) (sym is) (done_stays m m.state number refl on (leaving_answered old worker m invariant its))
step_stays old new worker m after step invariant its (writes_page number needs is kind fan prime pages holder now) on =
    subst (StaysItself m) (sym is) (done_stays m m.state 0 refl on (leaving_answered old worker m invariant its))
step_stays old new worker m after step invariant its (writes_prime needs out is kind fan pages holder now) on =
    subst (StaysItself m) (sym is) (done_stays m m.state 0 refl on (leaving_answered old worker m invariant its))
step_stays old new worker m after step invariant its (unlatches number needs is kind fan prime pages passes now) on =
    subst (StaysItself m) (sym is) (done_stays m m.state 0 refl on (leaving_answered old worker m invariant its))
