-- What whoever drives a machine would else prove for itself, whatever memory it keeps pages in: that the way down ends, and an answer at the end.
use Rattle.std.proofs.Common.{◌≡◌, ◌≢◌, ℕ, ◌+◌, ◌-◌, ◌*◌, ◌<◌, ◌≤◌, inl, inr, Option, Some, None, List, [], ◌∷◌, refl, sym, ap, subst, ◌∙◌, arith}
use Rattle.std.specs.Prelude.{IsSome}
use Rattle.blink_page.specs.{PlainPage, least_above}
use Rattle.blink_rest.specs.{Pages}
use Rattle.blink_machine.specs.declared.machine.Debt.{Debt}
use Rattle.blink_machine.specs.declared.machine.Job.{Job}
use Rattle.blink_machine.specs.declared.machine.Job.TheVariants.{Leaf, Parent}
use Rattle.blink_machine.specs.declared.machine.Need.TheVariants.{End}
use Rattle.blink_machine.specs.declared.machine.Next.TheVariants.{Finish, MoveRight, Post}
use Rattle.blink_machine.specs.declared.machine.State.{State}
use Rattle.blink_machine.specs.declared.machine.State.TheVariants.{Start, Going, Want, Held, Change, SplitNew, SplitOld, AskPrime, Root, NewPrime, Leave, Posting, Ended}
use Rattle.blink_machine.specs.InOrder.{IsReadable}
use Rattle.blink_machine.specs.declared.step.Step.{Step}
use Rattle.blink_machine.specs.Machine.{PlainMachine, need_at, NeedsPage, target}
use Rattle.blink_machine.specs.TreeState.{TreeState, goes_on, IsItsOperation, Steps, reads_prime, waits_for_level, reads_page, latches, waits_for_latch, writes_new, writes_page, writes_prime, unlatches}
use Rattle.blink_machine.specs.Needs.{TellsNothing, NeedsNoRead}
use Rattle.blink_machine.specs.Places.{KeepsPlaces, keys_from_floor, descent_bound_at, descent_bound}
use Rattle.blink_machine.specs.Invariant.{Invariant}
use Rattle.blink_machine.specs.Table.{SeesPrime, SeesPage, SeesOnItsWay, SeesUnderLatch, decided_with, sets_out, done, done_at}
use Rattle.blink_machine.proofs.law.EachPart.{step_law}
use Rattle.blink_machine.proofs.operation.OperationIsPlaced.{its_own, at_state}

-- ---- operations under way

-- an operation that needs a step goes on
pub goes_on_if_needed : (m : PlainMachine) (state : State) → need_at state ≢ End → goes_on m state ≡ Some m
goes_on_if_needed m Ended needed = absurd (needed refl)
goes_on_if_needed m other needed = refl

-- ---- pages to be read

-- the page that an operation reads next is one that `saw_page` takes
pub page_is_readable : (tree_state : TreeState) (worker number : ℕ) (m : PlainMachine) (page : PlainPage) → Invariant tree_state → IsItsOperation tree_state worker m → NeedsPage m number
    → tree_state.pages number ≡ Some page → IsReadable m page
page_is_readable tree_state worker number m page invariant its needs there =
    let reads = (step_law.invariant_gives_order tree_state invariant).reads_page worker number m its needs in
    let known : tree_state.pages number ≡ Some reads.page = reads.there in
    let same : reads.page ≡ page = cc in
    subst (IsReadable m) same reads.readable

-- ---- the way down ends

room_at_most : (key : ℕ) (page : Option PlainPage) → keys_from_floor key page ≤ key + 1
room_at_most key None = omega arith
room_at_most key (Some page) = omega arith

-- steps of others leave the bound as it is
pub descent_bound_stays : (old new : Pages) (m : PlainMachine) (number level : ℕ) (page : PlainPage) → KeepsPlaces old new → m.state ≡ Going number level → old number ≡ Some page
    → descent_bound new m ≡ descent_bound old m
descent_bound_stays old new m number level page keeps at there =
    let kept = keeps number page there in
    let room : keys_from_floor (target m) (new number) ≡ keys_from_floor (target m) (old number) =
    ap (keys_from_floor (target m)) kept.1 ∙ ap (λ floor. target m + 1 - least_above floor) kept.2.0 ∙ sym (ap (keys_from_floor (target m)) there) in
    ap (descent_bound_at new (target m)) at ∙ ap (λ n. level * (target m + 2) + n + 1) room ∙ sym (ap (descent_bound_at old (target m)) at)

module _ (tree_state : TreeState) (invariant : Invariant tree_state) (worker number level : ℕ) (m after : PlainMachine) (page : PlainPage) (its : IsItsOperation tree_state worker m)
    (at : m.state ≡ Going number level) (there : tree_state.pages number ≡ Some page) where
  way_before : (here : ℕ) → m.state ≡ Going number here → descent_bound tree_state.pages m ≡ here * (target m + 2) + keys_from_floor (target m) (Some page) + 1
  way_before here is = ap (descent_bound_at tree_state.pages (target m)) is ∙ ap (λ (p : Option PlainPage). here * (target m + 2) + keys_from_floor (target m) p + 1) there

  way_after : (state : State) → after.state ≡ state → target after ≡ target m → descent_bound tree_state.pages after ≡ descent_bound_at tree_state.pages (target m) state
  way_after state is same = ap (λ (key : ℕ). descent_bound_at tree_state.pages key after.state) same ∙ ap (descent_bound_at tree_state.pages (target m)) is

  some_room : 1 ≤ keys_from_floor (target m) (Some page)
  some_room =
      let floor : least_above page.floor ≤ target m = (page_is_readable tree_state worker number m page invariant its (ap need_at at) there).floor_below in
      omega (arith, floor)

  -- where it stops going it has nothing left
  stops : (state : State) → m.state ≡ Going number level → after.state ≡ state → target after ≡ target m → descent_bound_at tree_state.pages (target m) state ≡ 0
      → descent_bound tree_state.pages after < descent_bound tree_state.pages m
  stops state was is same none = let w = way_after state is same in let b = way_before level was in omega (arith, w, b, none)

  on_its_way : SeesPage m number page after → SeesOnItsWay m number page after → descent_bound tree_state.pages after < descent_bound tree_state.pages m
  on_its_way sees (SeesOnItsWay.goes_right here next was leads is) =
      let state : after.state ≡ Going next here = ap (λ (x : PlainMachine). x.state) is in
      elim ((step_law.places_stay.further tree_state worker number m after page invariant its there sees).on_its_way here next here was state) [
        | inl lower ↦ absurd (omega (arith, lower))
        | inr along ↦
            let begins = along.1 in
            let next_there : tree_state.pages next ≡ Some begins.page = begins.there in
            let w : descent_bound tree_state.pages after ≡ here * (target m + 2) + keys_from_floor (target m) (Some begins.page) + 1 =
            way_after (Going next here) state (ap target is) ∙ ap (λ (p : Option PlainPage). here * (target m + 2) + keys_from_floor (target m) p + 1) next_there in
            let b = way_before here was in
            omega (arith, w, b, some_room, begins.further)
      ]
  on_its_way sees (SeesOnItsWay.goes_down here child was leads is) =
      let w : descent_bound tree_state.pages after ≡ here * (target m + 2) + keys_from_floor (target m) (tree_state.pages child) + 1 =
      way_after (Going child here) (ap (λ (x : PlainMachine). x.state) is) (ap target is) in
      let b = way_before (here + 1) was in
      let most = room_at_most (target m) (tree_state.pages child) in
      omega (arith, w, b, most, some_room)
  on_its_way sees (SeesOnItsWay.find_answers here key was leads op is) = stops Ended at (ap (λ (x : PlainMachine). x.state) is) (ap target is) refl
  on_its_way sees (SeesOnItsWay.update_wants here was leads updates is) = stops (Want number) at (ap (λ (x : PlainMachine). x.state) is) (ap target is) refl

  -- each page that it reads on its way lowers the bound
  pub descent_bound_falls : SeesPage m number page after → descent_bound tree_state.pages after < descent_bound tree_state.pages m
  descent_bound_falls (SeesPage.on_its_way on) = on_its_way (SeesPage.on_its_way on) on
  descent_bound_falls (SeesPage.under_latch held under) = absurd (cc)

-- ---- an operation that ends has its answer

decided_state : (m : PlainMachine) (job : Job) (state : State) (kept : Option ℕ) → (decided_with m job state kept).state ≡ state
decided_state m Leaf state kept = refl
decided_state m (Parent debt) state kept = refl

sets_out_goes : (m : PlainMachine) (debt : Debt) (remembered : List ℕ) → (sets_out m debt remembered).state ≢ Ended
sets_out_goes m debt [] ends = let same : Posting ≡ Ended = ends in cc
sets_out_goes m debt (page ∷ above) ends = let same : Want page ≡ Ended = ends in cc

-- a step that reads nothing ends it only where it leaves a page for good
ends_by_leaving : (m : PlainMachine) (state : State) (new : ℕ) → TellsNothing (need_at state) → (done_at m state new).state ≡ Ended → (page : ℕ) × (state ≡ Leave page Finish)
ends_by_leaving m (Want page) new tells ends = absurd (let same : Held page ≡ Ended = ends in cc)
ends_by_leaving m (Change page changed kept) new tells ends = absurd (let same : Leave page Finish ≡ Ended = sym (decided_state m m.job (Leave page Finish) kept) ∙ ends in cc)
ends_by_leaving m (SplitNew page before) new tells ends = absurd (cc)
ends_by_leaving m (SplitOld page lower debt) new tells ends = absurd (let same : AskPrime page debt ≡ Ended = sym (decided_state m m.job (AskPrime page debt) None) ∙ ends in cc)
ends_by_leaving m (Root page debt prime) new tells ends = absurd (let same : NewPrime page debt new prime ≡ Ended = ends in cc)
ends_by_leaving m (NewPrime page debt root prime) new tells ends = absurd (let same : Leave page Finish ≡ Ended = ends in cc)
ends_by_leaving m (Leave page Finish) new tells ends = (page, refl)
ends_by_leaving m (Leave page (MoveRight next)) new tells ends = absurd (let same : Want next ≡ Ended = ends in cc)
ends_by_leaving m (Leave page (Post debt)) new tells ends = absurd (sets_out_goes m debt m.remembered ends)
ends_by_leaving m Start new tells ends = absurd tells
ends_by_leaving m (Going page level) new tells ends = absurd tells
ends_by_leaving m (Held page) new tells ends = absurd tells
ends_by_leaving m (AskPrime page debt) new tells ends = absurd tells
ends_by_leaving m Posting new tells ends = absurd tells
ends_by_leaving m Ended new tells ends = absurd tells

-- no read of the prime block ends it
prime_read_goes : (m after : PlainMachine) (prime : List ℕ) → SeesPrime m prime after → after.state ≢ Ended
prime_read_goes m after prime (SeesPrime.begins top was last is) ends = let then = ap (λ (x : PlainMachine). x.state) is in cc
prime_read_goes m after prime (SeesPrime.asks_of_root page debt was top is) ends = let then = ap (λ (x : PlainMachine). x.state) is in cc
prime_read_goes m after prime (SeesPrime.asks_of_other page debt was none is) ends = let then = ap (λ (x : PlainMachine). x.state) is in cc
prime_read_goes m after prime (SeesPrime.finds_leftmost debt leftmost was job there is) ends = let then = ap (λ (x : PlainMachine). x.state) is in cc

-- and a read of a page only with an answer
page_read_answers : (m after : PlainMachine) (number : ℕ) (page : PlainPage) → SeesPage m number page after → after.state ≡ Ended → IsSome after.answer
page_read_answers m after number page (SeesPage.on_its_way (SeesOnItsWay.find_answers level key was leads op is)) ends = let then = ap (λ (x : PlainMachine). x.answer) is in rw then refl
page_read_answers m after number page (SeesPage.on_its_way (SeesOnItsWay.goes_right level next was leads is)) ends = absurd (let then = ap (λ (x : PlainMachine). x.state) is in cc)
page_read_answers m after number page (SeesPage.on_its_way (SeesOnItsWay.goes_down level child was leads is)) ends = absurd (let then = ap (λ (x : PlainMachine). x.state) is in cc)
page_read_answers m after number page (SeesPage.on_its_way (SeesOnItsWay.update_wants level was leads updates is)) ends = absurd (let then = ap (λ (x : PlainMachine). x.state) is in cc)
page_read_answers m after number page (SeesPage.under_latch held (SeesUnderLatch.is_above_high_key next above right is)) ends = absurd (let then = ap (λ (x : PlainMachine). x.state) is in cc)
page_read_answers m after number page (SeesPage.under_latch held (SeesUnderLatch.insertion_finds_key key pointer kept below job op found is)) ends = absurd (let then = ap (λ (x : PlainMachine). x.state) is in cc)
page_read_answers m after number page (SeesPage.under_latch held (SeesUnderLatch.deletion_finds_none key below job op found is)) ends = absurd (let then = ap (λ (x : PlainMachine). x.state) is in cc)
page_read_answers m after number page (SeesPage.under_latch held (SeesUnderLatch.replacement_finds_none key pointer below job op found is)) ends = absurd (let then = ap (λ (x : PlainMachine). x.state) is in cc)
page_read_answers m after number page (SeesPage.under_latch held (SeesUnderLatch.finds_other_pointer key expected below job op found is)) ends = absurd (let then = ap (λ (x : PlainMachine). x.state) is in cc)
page_read_answers m after number page (SeesPage.under_latch held (SeesUnderLatch.posting_finds_separator debt child below job found is)) ends = absurd (let then = ap (λ (x : PlainMachine). x.state) is in cc)
page_read_answers m after number page (SeesPage.under_latch held (SeesUnderLatch.is_to_change changed kept below change is)) ends = absurd (let then = ap (λ (x : PlainMachine). x.state) is in cc)
page_read_answers m after number page (SeesPage.under_latch held (SeesUnderLatch.is_to_split below full is)) ends = absurd (let then = ap (λ (x : PlainMachine). x.state) is in cc)

module _ (old : TreeState) (invariant : Invariant old) (worker : ℕ) (m after : PlainMachine) (its : IsItsOperation old worker m) (ends : after.state ≡ Ended) where
  -- it had its answer when it left the page
  left_with_answer : (new : ℕ) → NeedsNoRead m → after ≡ done m new → IsSome after.answer
  left_with_answer new tells is =
      let leaving = ends_by_leaving m m.state new tells (sym (ap (λ (x : PlainMachine). x.state) is) ∙ ends) in
      let left : m.state ≡ Leave leaving.0 Finish = leaving.1 in
      let under = its_own old invariant.0 invariant.1 worker m its (λ start. cc) in
      let answered = at_state old invariant.0 invariant.1 worker m (Leave leaving.0 Finish) under left in
      let same : after.answer ≡ m.answer = ap (λ (x : PlainMachine). x.answer) is ∙ ap (λ (s : State). (done_at m s new).answer) left in
      subst IsSome (sym same) answered

  -- a step that ends an operation leaves it with an answer
  pub has_answer_at_end : (step : Step) (new : TreeState) → Steps old worker m step after new → IsSome after.answer
  has_answer_at_end step new (reads_prime needs sees is leaves workers) = absurd (prime_read_goes m after old.prime sees ends)
  has_answer_at_end step new (waits_for_level needs waits is same stays) = absurd (let posting = waits.posting in let then = ap (λ (x : PlainMachine). x.state) stays in cc)
  has_answer_at_end step new (reads_page number page needs there sees is leaves workers) = page_read_answers m after number page sees ends
  has_answer_at_end step new (latches number needs free is_done is same_fan same_prime same_pages passes workers) = left_with_answer 0 (rw needs tt) is_done
  has_answer_at_end step new (waits_for_latch number holder needs held is same stays) =
      absurd (let end : need_at m.state ≡ End = ap (λ (x : PlainMachine). need_at x.state) (sym stays) ∙ ap need_at ends in cc)
  has_answer_at_end step new (writes_new number needs is_number none is_done is same_fan same_prime writes same_holder workers) = left_with_answer number (rw needs tt) is_done
  has_answer_at_end step new (writes_page number needs is_done is same_fan same_prime writes same_holder workers) = left_with_answer 0 (rw needs tt) is_done
  has_answer_at_end step new (writes_prime needs out is_done is same_fan same_pages same_holder workers) = left_with_answer 0 (rw needs tt) is_done
  has_answer_at_end step new (unlatches number needs is_done is same_fan same_prime same_pages passes workers) = left_with_answer 0 (rw needs tt) is_done
