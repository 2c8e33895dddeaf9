-- What each kind of step of an update makes of it.
use Rattle.std.proofs.Common.{◌≡◌, ◌≢◌, inl, inr, ℕ, Option, Some, None, List, [], ◌∷◌, ◌++◌, ap, sym, ◌∙◌, subst, refl, append-nil}
use Rattle.std.specs.Prelude.{false, IsSome, Contains}
use mathlib.Core.List.{IsPrefix}
use Rattle.blink_batch.specs.declared.Answer.{Answer}
use Rattle.blink_batch.specs.declared.Answer.TheVariants.{Absent, Exists}
use Rattle.blink_batch.specs.declared.Op.{Op}
use Rattle.blink_batch.specs.{answer_at, answer_of, key_of, map_at, pointer_of}
use Rattle.blink_page.specs.{PlainPage, value_at}
use Rattle.blink_rows.specs.{page_words}
use Rattle.blink_rows.specs.declared.span.Span.{Span}
use Rattle.blink_machine.specs.declared.machine.Debt.{Debt}
use Rattle.blink_machine.specs.declared.machine.Job.{Job}
use Rattle.blink_machine.specs.declared.machine.Job.TheVariants.{Leaf, Parent}
use Rattle.blink_machine.specs.declared.machine.Need.TheVariants.{Latch, Unlatch}
use Rattle.blink_machine.specs.declared.machine.Next.{Next}
use Rattle.blink_machine.specs.declared.machine.Next.TheVariants.{Finish, MoveRight, Post}
use Rattle.blink_machine.specs.declared.machine.State.{State}
use Rattle.blink_machine.specs.declared.machine.State.TheVariants.{Want, Change, SplitNew, SplitOld, Root, NewPrime, Leave, Posting, Ended}
use Rattle.blink_machine.specs.declared.step.Kind.{Kind}
use Rattle.blink_machine.specs.{PlainMachine, need_at, goes_on, SeesPrime, SeesPage, SeesOnItsWay, SeesUnderLatch, decided_with, done, done_at, leaves_for, sets_out}
use Rattle.blink_live.specs.declared.view.Change.{Change as MapChange}
use Rattle.blink_live.specs.declared.view.Share.{Share}
use Rattle.blink_live.specs.declared.view.Stock.{Stock}
use Rattle.blink_live.specs.declared.view.View.{View}
use Rattle.blink_live.specs.Changes.{changes_made, has_changed}
use Rattle.blink_live.specs.AtomicSteps.{AnswersAfter, AsksPrime, state_after, CanGoOn, Decided, deciding, other, GoesOn, LoadsPage, LoadsPrime, PublishesFrom}
use Rattle.blink_live.specs.Updating.{SameBesideCall, IsPastDescent}
use Rattle.blink_live.proofs.changed.ChangesAreTheMaps.{map_unchanged, none_made, refusal_changes_nothing}
use Rattle.blink_live.specs.Views.{SeatState, KnowsItsOwn, changed_by, reading_page}

-- what a step of the operation makes of it and of its seat's view, but for what the call has left
pub record Takes (m after : PlainMachine) (me then : SeatState) : Type 0 where
  pub same : SameBesideCall me.0 then.0 × (then.1 ≡ me.1)
  pub saw : IsPrefix me.0.seen then.0.seen
  pub knows_own : KnowsItsOwn then.0
  pub operation : then.0.operation ≡ goes_on after after.state
  pub same_op : after.op ≡ m.op
  pub next : CanGoOn me.0.plan after
  pub decides : Decided m after me.0 then.0.share then.0.seen
  pub past_descent : IsPastDescent after.state
  pub answers_at_end : after.state ≡ Ended → IsSome after.answer

-- ---- steps that are done: where the operation is then

decided_past : (m : PlainMachine) (job : Job) (state : State) (kept : Option ℕ) → IsPastDescent state → IsPastDescent (decided_with m job state kept).state
decided_past m Leaf state kept past = past
decided_past m (Parent debt) state kept past = past

sets_out_so : (m : PlainMachine) (debt : Debt) (pages : List ℕ) → ((sets_out m debt pages).answer ≡ m.answer) × IsPastDescent (sets_out m debt pages).state
sets_out_so m debt [] = (refl, tt)
sets_out_so m debt (page ∷ above) = (refl, tt)

leaves_so : (m : PlainMachine) (next : Next) → ((leaves_for m next).answer ≡ m.answer) × IsPastDescent (leaves_for m next).state
leaves_so m Finish = (refl, tt)
leaves_so m (MoveRight page) = (refl, tt)
leaves_so m (Post debt) = sets_out_so m debt m.remembered

done_past : (m : PlainMachine) (state : State) (new : ℕ) → IsPastDescent m.state → IsPastDescent state → IsPastDescent (done_at m state new).state
done_past m (Want page) new at past = tt
done_past m (Change page changed kept) new at past = decided_past m m.job (Leave page Finish) kept tt
done_past m (SplitNew page before) new at past = tt
done_past m (SplitOld page lower debt) new at past = decided_past m m.job (State.AskPrime page debt) None tt
done_past m (Root page debt prime) new at past = tt
done_past m (NewPrime page debt root prime) new at past = tt
done_past m (Leave page next) new at past = (leaves_so m next).1
done_past m state new at past = at

-- no latch decides it
pub latch_answers : (m : PlainMachine) (state : State) (number : ℕ) → need_at state ≡ Latch number → (done_at m state 0).answer ≡ m.answer
latch_answers m (Want page) number needs = refl
latch_answers m state number needs = absurd (cc)

pub unlatch_answers : (m : PlainMachine) (state : State) (number : ℕ) → need_at state ≡ Unlatch number → (done_at m state 0).answer ≡ m.answer
unlatch_answers m (Leave page next) number needs = (leaves_so m next).0
unlatch_answers m state number needs = absurd (cc)

pub goes_on_takes : (kind : Kind) (m : PlainMachine) (me then : SeatState) → IsPastDescent m.state → KnowsItsOwn me.0 → (done m 0).answer ≡ m.answer → GoesOn kind m me then → Takes m (done m 0) me then
goes_on_takes kind m me then past knows answer goes =
    let is : then ≡ _ = goes.is in record {
      same = (subst (λ (x : SeatState). SameBesideCall me.0 x.0) (sym is) refl, ap (λ (x : SeatState). x.1) is);
      saw = subst (λ (x : SeatState). IsPrefix me.0.seen x.0.seen) (sym is) ([], append-nil me.0.seen);
      knows_own = subst (λ (x : SeatState). KnowsItsOwn x.0) (sym is) (record { state = knows.state; changes = knows.changes });
      operation = ap (λ (x : SeatState). x.0.operation) is;
      same_op = goes.uses.same_op;
      next = goes.next;
      decides = other answer (ap (λ (x : SeatState). x.0.share) is);
      past_descent = done_past m m.state 0 past past;
      answers_at_end = goes.answers_at_end;
    }

-- ---- reads

-- an operation that doesn't answer that it made a change leaves the share
changes_nothing : (author : ℕ) (op : Op) (share : Share) → has_changed (answer_of share.entries op) ≡ false → share ≡ changed_by author op share
changes_nothing author op share none =
    let kept : Option ℕ = pointer_of share.entries (key_of op) in
    let entries : share.entries ≡ map_at op kept share.entries = sym (map_unchanged op kept share.entries none) in
    let changes : share.changes ≡ share.changes ++ changes_made author op kept = sym (append-nil share.changes) ∙ ap (λ (l : List MapChange). share.changes ++ l) (sym (none_made author op kept none)) in
    λ i. record { keys = share.keys; entries = entries i; changes = changes i }

-- where a read under the latch answers, it answers by all changes that the seat has seen then, and changes nothing
answers_by_seen : (m after : PlainMachine) (v : View) (seen : List MapChange) (answer : Answer) → IsPrefix v.seen seen → (Contains v.share.keys (key_of m.op) → state_after v seen (key_of m.op) ≡ pointer_of v.share.entries (key_of m.op))
    → after.answer ≡ Some answer → has_changed answer ≡ false → AnswersAfter (state_after v seen) m after → Decided m after v v.share seen
answers_by_seen m after v seen answer saw own is unchanged (inl stays) = other stays refl
answers_by_seen m after v seen answer saw own is unchanged (inr (none, given)) =
    let kept : Option ℕ = state_after v seen (key_of m.op) in
    let answers : answer_at m.op kept ≡ answer = let e = sym given ∙ is in cc in
    let no_change : has_changed (answer_at m.op kept) ≡ false = ap has_changed answers ∙ unchanged in
    let none_at_all : changes_made v.place m.op kept ≡ [] = none_made v.place m.op kept no_change in
    deciding none record {
      before = seen;
      saw = saw;
      answers = given;
      goes_on = ([], append-nil (seen ++ changes_made v.place m.op kept) ∙ (ap (λ (l : List MapChange). seen ++ l) none_at_all ∙ append-nil seen));
      keys = refl;
      changes = sym (append-nil v.share.changes) ∙ ap (λ (l : List MapChange). v.share.changes ++ l) (sym none_at_all);
      own = λ mine. (own mine, changes_nothing v.place m.op v.share (ap (λ (k : Option ℕ). has_changed (answer_at m.op k)) (sym (own mine)) ∙ no_change));
    }

module _ (m after : PlainMachine) (number : ℕ) (page : PlainPage) (v : View) (seen : List MapChange) (saw : IsPrefix v.seen seen)
    (own : Contains v.share.keys (key_of m.op) → state_after v seen (key_of m.op) ≡ pointer_of v.share.entries (key_of m.op)) (answers : AnswersAfter (state_after v seen) m after) where
  abbrev Reads : Type 0
  Reads = Decided m after v v.share seen × IsPastDescent after.state

  under_latch : SeesUnderLatch m number page after → Reads
  under_latch (SeesUnderLatch.is_above_high_key next above right is) = (other (ap (λ (x : PlainMachine). x.answer) is) refl, subst (λ (x : PlainMachine). IsPastDescent x.state) (sym is) tt)
  under_latch (SeesUnderLatch.insertion_finds_key key pointer there below job is_op value is) = (
    answers_by_seen m after v seen (Exists there) saw own (ap (λ (x : PlainMachine). x.answer) is) refl answers,
    subst (λ (x : PlainMachine). IsPastDescent x.state) (sym is) tt,
  )
  under_latch (SeesUnderLatch.deletion_finds_none key below job is_op value is) = (
    answers_by_seen m after v seen Absent saw own (ap (λ (x : PlainMachine). x.answer) is) refl answers,
    subst (λ (x : PlainMachine). IsPastDescent x.state) (sym is) tt,
  )
  under_latch (SeesUnderLatch.replacement_finds_none key pointer below job is_op value is) = (
    answers_by_seen m after v seen Absent saw own (ap (λ (x : PlainMachine). x.answer) is) refl answers,
    subst (λ (x : PlainMachine). IsPastDescent x.state) (sym is) tt,
  )
  under_latch (SeesUnderLatch.finds_other_pointer key expected below job is_op differs is) = (
    answers_by_seen m after v seen (answer_at m.op (value_at key page.entries)) saw own (ap (λ (x : PlainMachine). x.answer) is)
        (refusal_changes_nothing m.op key expected (value_at key page.entries) is_op differs) answers,
    subst (λ (x : PlainMachine). IsPastDescent x.state) (sym is) tt,
  )
  under_latch (SeesUnderLatch.posting_finds_separator debt child below job value is) = (other (ap (λ (x : PlainMachine). x.answer) is) refl, subst (λ (x : PlainMachine). IsPastDescent x.state) (sym is) tt)
  under_latch (SeesUnderLatch.is_to_change changed pointer below change is) = (other (ap (λ (x : PlainMachine). x.answer) is) refl, subst (λ (x : PlainMachine). IsPastDescent x.state) (sym is) tt)
  under_latch (SeesUnderLatch.is_to_split below full is) = (other (ap (λ (x : PlainMachine). x.answer) is) refl, subst (λ (x : PlainMachine). IsPastDescent x.state) (sym is) tt)

  -- it isn't on its way down
  on_no_way : IsPastDescent m.state → SeesOnItsWay m number page after → ⊥
  on_no_way past (SeesOnItsWay.goes_right level next at leads is) = subst IsPastDescent at past
  on_no_way past (SeesOnItsWay.goes_down level child at leads is) = subst IsPastDescent at past
  on_no_way past (SeesOnItsWay.find_answers level key at leads find is) = subst IsPastDescent at past
  on_no_way past (SeesOnItsWay.update_wants level at leads updates is) = subst IsPastDescent at past

  page_decides : IsPastDescent m.state → SeesPage m number page after → Reads
  page_decides past (SeesPage.on_its_way sees) = absurd (on_no_way past sees)
  page_decides past (SeesPage.under_latch held sees) = under_latch sees

pub page_takes : (m after : PlainMachine) (number word : ℕ) (me then : SeatState) → IsPastDescent m.state → LoadsPage m number me word after then → Takes m after me then
page_takes m after number word me then past loads =
    let is : then ≡ (reading_page me.0 after loads.way word (page_words loads.base) loads.behind loads.seen, me.1) = loads.is in
    let known : KnowsItsOwn (reading_page me.0 after loads.way word (page_words loads.base) loads.behind loads.seen) = subst (λ (x : SeatState). KnowsItsOwn x.0) is loads.knows_own in
    let reads = page_decides m after number loads.page me.0 loads.seen loads.learns.saw (known.state (key_of m.op)) loads.answers past loads.sees in record {
      same = (subst (λ (x : SeatState). SameBesideCall me.0 x.0) (sym is) refl, ap (λ (x : SeatState). x.1) is);
      saw = subst (λ (x : SeatState). IsPrefix me.0.seen x.0.seen) (sym is) loads.learns.saw;
      knows_own = loads.knows_own;
      operation = ap (λ (x : SeatState). x.0.operation) is;
      same_op = loads.uses.same_op;
      next = loads.next;
      decides = subst (λ (x : SeatState). Decided m after me.0 x.0.share x.0.seen) (sym is) reads.0;
      past_descent = reads.1;
      answers_at_end = loads.answers_at_end;
    }

-- of the prime block it learns where to go on, or it stays
record Asks (m after : PlainMachine) : Type 0 where
  pub answer : after.answer ≡ m.answer
  pub past_descent : IsPastDescent after.state
  pub no_end : after.state ≢ Ended

asks_so : (m after : PlainMachine) (state : State) → after ≡ record m { state = state } → IsPastDescent state → state ≢ Ended → Asks m after
asks_so m after state is past goes = record {
  answer = ap (λ (x : PlainMachine). x.answer) is;
  past_descent = subst (λ (x : PlainMachine). IsPastDescent x.state) (sym is) past;
  no_end = λ ends. goes (sym (ap (λ (x : PlainMachine). x.state) is) ∙ ends);
}

sees_prime : (m after : PlainMachine) (prime : List ℕ) → IsPastDescent m.state → SeesPrime m prime after → Asks m after
sees_prime m after prime past (SeesPrime.begins top at last is) = absurd (subst IsPastDescent at past)
sees_prime m after prime past (SeesPrime.asks_of_root page debt at top is) = asks_so m after (Root page debt prime) is tt (λ e. absurd (cc))
sees_prime m after prime past (SeesPrime.asks_of_other page debt at top is) = asks_so m after (Leave page (Post debt)) is tt (λ e. absurd (cc))
sees_prime m after prime past (SeesPrime.finds_leftmost debt leftmost at job there is) = asks_so m after (Want leftmost) is tt (λ e. absurd (cc))

asks_prime : (m after : PlainMachine) (prime : List ℕ) → IsPastDescent m.state → AsksPrime m prime after → Asks m after
asks_prime m after prime past (AsksPrime.moves sees only goes) = sees_prime m after prime past sees
asks_prime m after prime past (AsksPrime.waits waits never is) = asks_so m after Posting (is ∙ (λ i. record m { state = waits.posting i })) tt (λ e. absurd (cc))

pub prime_takes : (m after : PlainMachine) (row : ℕ) (me then : SeatState) → IsPastDescent m.state → LoadsPrime m me row after then → Takes m after me then
prime_takes m after row me then past loads =
    let is : then ≡ _ = loads.is in
    let asks = asks_prime m after loads.prime past loads.asks in record {
      same = (subst (λ (x : SeatState). SameBesideCall me.0 x.0) (sym is) refl, ap (λ (x : SeatState). x.1) is);
      saw = subst (λ (x : SeatState). IsPrefix me.0.seen x.0.seen) (sym is) loads.learns.saw;
      knows_own = loads.knows_own;
      operation = ap (λ (x : SeatState). x.0.operation) is;
      same_op = loads.uses.same_op;
      next = loads.next;
      decides = other asks.answer (ap (λ (x : SeatState). x.0.share) is);
      past_descent = asks.past_descent;
      answers_at_end = λ ends. absurd (asks.no_end ends);
    }

-- ---- writes

pub publish_takes : (kind : Kind) (rows pages : Span) (stock : Stock) (m : PlainMachine) (new : ℕ) (me then : SeatState) → IsPastDescent m.state → PublishesFrom kind rows pages stock m (done m new) me then → Takes m (done m new) me then
publish_takes kind rows pages stock m new me then past does =
    let is : then ≡ _ = does.is in record {
      same = (subst (λ (x : SeatState). SameBesideCall me.0 x.0) (sym is) refl, ap (λ (x : SeatState). x.1) is);
      saw = subst (λ (x : SeatState). IsPrefix me.0.seen x.0.seen) (sym is) does.learns.saw;
      knows_own = does.knows_own;
      operation = ap (λ (x : SeatState). x.0.operation) is;
      same_op = does.uses.same_op;
      next = does.next;
      decides = subst (λ (x : SeatState). Decided m (done m new) me.0 x.0.share x.0.seen) (sym is) does.decided;
      past_descent = done_past m m.state new past past;
      answers_at_end = does.answers_at_end;
    }
