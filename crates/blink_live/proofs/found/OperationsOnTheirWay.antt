-- An operation on its way down: it has begun, goes on, or has come to the leaf of its key.
use Rattle.std.proofs.Common.{◌≡◌, ◌<◌, ◌≤◌, ◌⊎◌, ℕ, inl, inr, Option, Some, None, List, ap, sym, ◌∙◌, subst, refl}
use mathlib.Core.List.{IsPrefix}
use Rattle.atomic_table.specs.Seated.{TableId}
use Rattle.blink_batch.specs.{FitsWords, answer_at, key_of, pointer_of}
use Rattle.blink_batch.specs.declared.Op.{Op}
use Rattle.blink_batch.specs.declared.Op.TheVariants.{Find}
use Rattle.blink_page.specs.{PlainPage}
use Rattle.blink_rows.specs.{PlainCounts}
use Rattle.blink_machine.specs.declared.machine.State.TheVariants.{Going}
use Rattle.blink_machine.specs.{PlainMachine, NeedsPage, need_at, SeesPrime, SeesPage, SeesOnItsWay}
use Rattle.blink_machine.proofs.Offered.{goes_on_if_needed}
use Rattle.blink_live.specs.declared.live.Live.{Live}
use Rattle.blink_live.specs.declared.view.Change.{Change}
use Rattle.blink_live.specs.declared.view.Plan.{Plan}
use Rattle.blink_live.specs.declared.view.View.{View}
use Rattle.blink_live.specs.Changes.{after}
use Rattle.blink_live.specs.AtomicSteps.{LoadsPage, AnswersAfter, CanGoOn}
use Rattle.blink_live.specs.Seats.{IsGoing, IsAtLeaf, IsPassSeat, found, wants, IsDescending, going, at_leaf, HasRead}
use Rattle.blink_live.specs.Views.{IsAnnounced, SeatState, SameBesideReads, reading_page, known_of}
use Rattle.blink_live.proofs.told.PrefixesOfOneList.{prefix_of_prefix}

pub same_trans : (u v w : View) → SameBesideReads u v → SameBesideReads v w → SameBesideReads u w
same_trans u v w first second = second ∙ ap (λ (x : View). record x { operation = w.operation; descent_bound = w.descent_bound; reads = w.reads; behind = w.behind; appends = w.appends; seen = w.seen }) first

pub same_reading : (v : View) (then : PlainMachine) (way word : ℕ) (words behind : List ℕ) (seen : List Change) (w : View) → w ≡ reading_page v then way word words behind seen → SameBesideReads v w
same_reading v then way word words behind seen w is = subst (SameBesideReads v) (sym is) refl

-- and after each page
module _ (op : Op) (number word : ℕ) (first me : SeatState) (m then : PlainMachine) (new : SeatState) (has : HasRead op first me m) (is_going : IsGoing m) (loads : LoadsPage m number me word then new) where
  pub read_one_more : then.op ≡ m.op → then.job ≡ m.job → HasRead op first new then
  read_one_more same_op same_job = record {
    same = (same_trans first.0 me.0 new.0 has.same.0 (same_reading me.0 then loads.way word _ loads.behind loads.seen new.0 (ap (λ (x : SeatState). x.0) loads.is)), ap (λ (x : SeatState). x.1) loads.is ∙ has.same.1);
    saw = prefix_of_prefix first.0.seen me.0.seen new.0.seen has.saw (subst (λ (seen : List Change). IsPrefix me.0.seen seen) (sym (ap (λ (x : SeatState). x.0.seen) loads.is)) loads.learns.saw);
    knows_own = loads.knows_own;
    operation = ap (λ (x : SeatState). x.0.operation) loads.is;
    same_op = same_op ∙ has.same_op;
    same_job = same_job ∙ has.same_job;
    next = subst (λ (p : Plan). CanGoOn p then) (ap (λ (v : View). v.plan) has.same.0) loads.next;
    announced = subst (λ (x : SeatState). IsAnnounced x.0) (sym loads.is) has.announced;
  }

  -- what it answers now is what its key maps to after the changes that the seat has seen
  pub answers_as_told : AnswersAfter (after (pointer_of me.0.plan.opening) loads.seen) m then → m.answer ≡ None → (then.answer ≡ None) ⊎ (then.answer ≡ Some (answer_at op (known_of new.0 (key_of op))))
  answers_as_told (inl same) none_yet = inl (same ∙ none_yet)
  answers_as_told (inr (was_none, given)) none_yet =
      inr (given ∙ ap (λ (o : Op). Some (answer_at o (after (pointer_of me.0.plan.opening) loads.seen (key_of o)))) has.same_op ∙ ap (λ (x : SeatState). Some (answer_at op (known_of x.0 (key_of op)))) (sym loads.is))

-- ---- a page that is read on the way down

module _ (op : Op) (number word : ℕ) (first me : SeatState) (m then : PlainMachine) (new : SeatState) (has : HasRead op first me m) (is_going : IsGoing m) (none_yet : m.answer ≡ None)
    (loads : LoadsPage m number me word then new) where
  abbrev Now : Type 0
  Now = HasRead op first new then × IsDescending op (known_of new.0 (key_of op)) then

  same_way : then.op ≡ m.op → then.job ≡ m.job → IsDescending op (known_of new.0 (key_of op)) then → Now
  same_way same_op same_job descends = (read_one_more op number word first me m then new has is_going loads same_op same_job, descends)

  by_way : (page : PlainPage) → SeesOnItsWay m number page then → Now
  by_way page (SeesOnItsWay.goes_right level next was leads is) =
      let same_job : then.job ≡ m.job = ap (λ (x : PlainMachine). x.job) is in
      same_way (ap (λ (x : PlainMachine). x.op) is) same_job
      (going (record { same_job = same_job ∙ is_going.same_job; on_its_way = (next, level, ap (λ (x : PlainMachine). x.state) is) }) (ap (λ (x : PlainMachine). x.answer) is ∙ none_yet))
  by_way page (SeesOnItsWay.goes_down level child was leads is) =
      let same_job : then.job ≡ m.job = ap (λ (x : PlainMachine). x.job) is in
      same_way (ap (λ (x : PlainMachine). x.op) is) same_job
      (going (record { same_job = same_job ∙ is_going.same_job; on_its_way = (child, level, ap (λ (x : PlainMachine). x.state) is) }) (ap (λ (x : PlainMachine). x.answer) is ∙ none_yet))
  by_way page (SeesOnItsWay.find_answers level key was leads is_find is) =
      let given : then.answer ≡ Some (answer_at (Find key) _) = ap (λ (x : PlainMachine). x.answer) is in
      same_way (ap (λ (x : PlainMachine). x.op) is) (ap (λ (x : PlainMachine). x.job) is) (at_leaf (found key (sym has.same_op ∙ is_find) (ap (λ (x : PlainMachine). x.state) is) (elim (answers_as_told op number word first me m then new has is_going loads loads.answers none_yet) [
        | inl nothing ↦ absurd (cc)
        | inr as_told ↦ as_told
      ])))
  by_way page (SeesOnItsWay.update_wants level was leads updates is) =
      same_way (ap (λ (x : PlainMachine). x.op) is) (ap (λ (x : PlainMachine). x.job) is)
      (at_leaf (wants number (subst Rattle.blink_machine.specs.Table.IsUpdate has.same_op updates) (ap (λ (x : PlainMachine). x.state) is) (ap (λ (x : PlainMachine). x.answer) is ∙ none_yet)))

  by_page : SeesPage m number loads.page then → Now
  by_page (SeesPage.on_its_way sees) = by_way loads.page sees
  by_page (SeesPage.under_latch held under) = absurd (let goes = is_going.on_its_way.2 in cc)

  pub goes_down : Now
  goes_down = by_page loads.sees

-- where it needs a page it is on its way
pub needs_on_its_way : (op : Op) (kept : Option ℕ) (m : PlainMachine) (number : ℕ) → IsDescending op kept m → NeedsPage m number → IsGoing m × (m.answer ≡ None)
needs_on_its_way op kept m number (going is_going none_yet) needs = (is_going, none_yet)
needs_on_its_way op kept m number (at_leaf (found key is_find ended answer)) needs = absurd (let e = ap need_at ended in cc)
needs_on_its_way op kept m number (at_leaf (wants page updates wants_it none_yet)) needs = absurd (let e = ap need_at wants_it in cc)

-- and else it has come there
pub else_at_leaf : (op : Op) (kept : Option ℕ) (m : PlainMachine) → ((number level : ℕ) → ¬ (m.state ≡ Going number level)) → IsDescending op kept m → IsAtLeaf op kept m
else_at_leaf op kept m none (going is_going none_yet) = absurd (none is_going.on_its_way.0 is_going.on_its_way.1 is_going.on_its_way.2)
else_at_leaf op kept m none (at_leaf there) = there

-- ---- the page that it reads next

module _ {op : Op} {first me : SeatState} {m : PlainMachine} (read : HasRead op first me m) where
  pub is_its_seat : (live : Live) (before table : TableId) → table ≡ before → IsPassSeat live before first → IsPassSeat live table me
  is_its_seat live before table same seat = record {
    same_table = same ∙ seat.same_table;
    same_plan = ap (λ (v : View). v.plan) read.same.0 ∙ seat.same_plan;
    role = ap (λ (v : View). v.role) read.same.0 ∙ seat.role;
  }

  pub is_its_operation : (number : ℕ) → NeedsPage m number → me.0.operation ≡ Some m
  is_its_operation number needs = read.operation ∙ goes_on_if_needed m m.state (λ ends. absurd (cc))

  pub its_words_fit : FitsWords op → FitsWords m.op
  its_words_fit fits = subst FitsWords (sym read.same_op) fits

  pub page_in_range : (counts : PlainCounts) (number : ℕ) → NeedsPage m number → first.0.plan.counts ≡ counts → (1 ≤ number) × (number < counts.numbers)
  page_in_range counts number needs same =
      let there = read.next.reads number needs in
      (there.0, subst (λ (k : PlainCounts). number < k.numbers) same there.1)

-- each page is nearer to the leaf
pub comes_nearer : (m then : PlainMachine) (number word : ℕ) (me new : SeatState) → IsGoing m → NeedsPage m number → LoadsPage m number me word then new → new.0.descent_bound < me.0.descent_bound
comes_nearer m then number word me new goes needs loads =
    let at = goes.on_its_way.2 in
    let needed = ap need_at at in
    let same : goes.on_its_way.0 ≡ number = cc in
    subst (λ (x : SeatState). x.0.descent_bound < me.0.descent_bound) (sym loads.is) (loads.nearer goes.on_its_way.1 (at ∙ (λ i. Going (same i) goes.on_its_way.1)))
