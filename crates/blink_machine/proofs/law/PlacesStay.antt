-- No step takes a page away or changes its level or floor; and from a page that it reads an operation goes down, or further along.
use Rattle.std.proofs.Common.{◌≡◌, ℕ, ◌+◌, ◌<◌, ◌⊎◌, inl, inr, Some, refl, sym, ap, ◌∙◌, arith}
use Rattle.std.proofs.lemmas.Bool.{cases_eq}
use Rattle.blink_page.specs.{PlainPage, least_above}
use Rattle.blink_rest.specs.{Pages}
use Rattle.blink_store.specs.{SameFloorAndLevel}
use Rattle.blink_machine.specs.declared.machine.Next.TheVariants.{MoveRight}
use Rattle.blink_machine.specs.declared.machine.State.TheVariants.{Going, Held, Leave}
use Rattle.blink_machine.specs.declared.step.Step.{Step}
use Rattle.blink_machine.specs.Machine.{PlainMachine, level_of}
use Rattle.blink_machine.specs.TreeState.{TreeState, IsItsOperation, WritesOne, Steps, reads_prime, waits_for_level, reads_page, latches, waits_for_latch, writes_new, writes_page, writes_prime, unlatches}
use Rattle.blink_machine.specs.Placed.{StandsAt}
use Rattle.blink_machine.specs.Places.{KeepsPlaces, BeginsFurther}
use Rattle.blink_machine.specs.Invariant.{Invariant, InvariantWith}
use Rattle.blink_machine.specs.StepLaw.{PlacesStay}
use Rattle.blink_machine.specs.Table.{SeesPage, SeesOnItsWay, SeesUnderLatch}
use Rattle.blink_machine.specs.TreeWithDebts.{Levels}
use Rattle.blink_machine.proofs.tree.TreeStatements.{TreeLaws}
use Rattle.blink_machine.proofs.operation.WhereMovesLead.{right_is_further}
use Rattle.blink_machine.proofs.operation.WrittenPagesAreLawful.{writes_are_good}
use Rattle.blink_machine.proofs.operation.OperationIsPlaced.{its_own, at_state}

-- ---- pages stay

-- where no page is written
stay_same : (old new : Pages) → new ≡ old → KeepsPlaces old new
stay_same old new same number page there = (page, ap (λ (pages : Pages). pages number) same ∙ there, (refl, refl))

-- where one is, as it stood
stay_written : (old new : Pages) (at : ℕ) (written : PlainPage) → WritesOne old new at written → ((before : PlainPage) → old at ≡ Some before → SameFloorAndLevel before written)
    → KeepsPlaces old new
stay_written old new at written writes as_it_stood number page there = elim (cases_eq number at) [
  | inl same ↦ (written, ap new same ∙ writes.written, as_it_stood page (ap old (sym same) ∙ there))
  | inr other ↦ (page, writes.others number other ∙ there, (refl, refl))
]

-- in each step
stay : TreeLaws → (old new : TreeState) (worker : ℕ) (m after : PlainMachine) (step : Step) → Invariant old → IsItsOperation old worker m → Steps old worker m step after new
    → KeepsPlaces old.pages new.pages
stay laws old new worker m after step invariant its (reads_prime needs sees is leaves workers) = stay_same old.pages new.pages leaves.same_pages
stay laws old new worker m after step invariant its (waits_for_level needs waits is same stays) = stay_same old.pages new.pages (ap (λ (tree_state : TreeState). tree_state.pages) same)
stay laws old new worker m after step invariant its (reads_page number page needs there sees is leaves workers) = stay_same old.pages new.pages leaves.same_pages
stay laws old new worker m after step invariant its (latches number needs free done is same_fan same_prime same_pages passes workers) = stay_same old.pages new.pages same_pages
stay laws old new worker m after step invariant its (waits_for_latch number holder needs held is same stays) = stay_same old.pages new.pages (ap (λ (tree_state : TreeState). tree_state.pages) same)
stay laws old new worker m after step invariant its (writes_new number needs is_number none done is same_fan same_prime writes same_holder workers) =
    stay_written old.pages new.pages number _ writes (λ before there. absurd (cc))
stay laws old new worker m after step invariant its (writes_page number needs done is same_fan same_prime writes same_holder workers) =
    let good = writes_are_good laws old worker m number invariant its needs in
    stay_written old.pages new.pages number _ writes (λ before there.
    let also : old.pages number ≡ Some good.before = good.there in
    let same : good.before ≡ before = cc in
    (good.same_floor ∙ ap (λ (p : PlainPage). p.floor) same, good.same_level ∙ ap (λ (p : PlainPage). p.level) same))
stay laws old new worker m after step invariant its (writes_prime needs out done is same_fan same_pages same_holder workers) = stay_same old.pages new.pages same_pages
stay laws old new worker m after step invariant its (unlatches number needs done is same_fan same_prime same_pages passes workers) = stay_same old.pages new.pages same_pages

-- ---- operations come further

module _ (laws : TreeLaws) (tree_state : TreeState) (levels : Levels) (invariant : InvariantWith tree_state levels) (worker number : ℕ) (m after : PlainMachine) (page : PlainPage)
    (its : IsItsOperation tree_state worker m) (there : tree_state.pages number ≡ Some page) where
  -- an operation on its way stands at the page
  stands_on_way : (level : ℕ) → m.state ≡ Going number level → StandsAt levels m level number
  stands_on_way level at =
      let under = its_own tree_state levels invariant worker m its (λ start. cc) in
      (at_state tree_state levels invariant worker m (Going number level) under at).1

  -- so does one that has latched it
  stands_under_latch : m.state ≡ Held number → StandsAt levels m (level_of m.job) number
  stands_under_latch at =
      let under = its_own tree_state levels invariant worker m its (λ start. cc) in
      (at_state tree_state levels invariant worker m (Held number) under at).0.stands_at

  -- a right neighbour begins further on
  right_from_way : (level next lower link : ℕ) → m.state ≡ Going number level → after.state ≡ Going next lower → after.state ≡ Going link level → page.right ≡ Some link
      → (lower < level) ⊎ ((lower ≡ level) × BeginsFurther tree_state.pages next page.level (least_above page.floor))
  right_from_way level next lower link at goes is links =
      let same : next ≡ link = cc in
      let along : lower ≡ level = cc in
      inr (along, right_is_further laws tree_state levels invariant m level number page there next (stands_on_way level at) (links ∙ ap Some (sym same)))

  -- on the way
  on_its_way : (level next lower : ℕ) → m.state ≡ Going number level → after.state ≡ Going next lower → SeesPage m number page after
      → (lower < level) ⊎ ((lower ≡ level) × BeginsFurther tree_state.pages next page.level (least_above page.floor))
  on_its_way level next lower at goes (SeesPage.on_its_way (SeesOnItsWay.goes_right here link was leads is)) =
      let same : here ≡ level = cc in
      right_from_way level next lower link at goes (ap (λ (x : PlainMachine). x.state) is ∙ ap (Going link) same) leads.1
  on_its_way level next lower at goes (SeesPage.on_its_way (SeesOnItsWay.goes_down here child was leads is)) =
      let same : here + 1 ≡ level = cc in
      let then : after.state ≡ Going child here = ap (λ (x : PlainMachine). x.state) is in
      let below : lower ≡ here = cc in
      inl (omega arith)
  on_its_way level next lower at goes (SeesPage.on_its_way (SeesOnItsWay.find_answers here key was leads is_op is)) =
      absurd (let then = ap (λ (x : PlainMachine). x.state) is in cc)
  on_its_way level next lower at goes (SeesPage.on_its_way (SeesOnItsWay.update_wants here was leads is_update is)) =
      absurd (let then = ap (λ (x : PlainMachine). x.state) is in cc)
  on_its_way level next lower at goes (SeesPage.under_latch held sees) = absurd (cc)

  -- and under a latch
  under_latch : (next : ℕ) → m.state ≡ Held number → after.state ≡ Leave number (MoveRight next) → SeesPage m number page after
      → BeginsFurther tree_state.pages next page.level (least_above page.floor)
  under_latch next at leaves (SeesPage.under_latch held (SeesUnderLatch.is_above_high_key link above links is)) =
      let then : after.state ≡ Leave number (MoveRight link) = ap (λ (x : PlainMachine). x.state) is in
      let same : next ≡ link = cc in
      right_is_further laws tree_state levels invariant m (level_of m.job) number page there next (stands_under_latch at) (links ∙ ap Some (sym same))
  under_latch next at leaves (SeesPage.under_latch held (SeesUnderLatch.insertion_finds_key key pointer kept below is_leaf is_op found is)) =
      absurd (let then = ap (λ (x : PlainMachine). x.state) is in cc)
  under_latch next at leaves (SeesPage.under_latch held (SeesUnderLatch.deletion_finds_none key below is_leaf is_op found is)) =
      absurd (let then = ap (λ (x : PlainMachine). x.state) is in cc)
  under_latch next at leaves (SeesPage.under_latch held (SeesUnderLatch.replacement_finds_none key pointer below is_leaf is_op found is)) =
      absurd (let then = ap (λ (x : PlainMachine). x.state) is in cc)
  under_latch next at leaves (SeesPage.under_latch held (SeesUnderLatch.finds_other_pointer key expected below is_leaf is_op found is)) =
      absurd (let then = ap (λ (x : PlainMachine). x.state) is in cc)
  under_latch next at leaves (SeesPage.under_latch held (SeesUnderLatch.posting_finds_separator debt child below is_job found is)) =
      absurd (let then = ap (λ (x : PlainMachine). x.state) is in cc)
  under_latch next at leaves (SeesPage.under_latch held (SeesUnderLatch.is_to_change changed kept below change is)) =
      absurd (let then = ap (λ (x : PlainMachine). x.state) is in cc)
  under_latch next at leaves (SeesPage.under_latch held (SeesUnderLatch.is_to_split below full is)) =
      absurd (let then = ap (λ (x : PlainMachine). x.state) is in cc)
  under_latch next at leaves (SeesPage.on_its_way (SeesOnItsWay.goes_right here link was leads is)) = absurd (cc)
  under_latch next at leaves (SeesPage.on_its_way (SeesOnItsWay.goes_down here child was leads is)) = absurd (cc)
  under_latch next at leaves (SeesPage.on_its_way (SeesOnItsWay.find_answers here key was leads is_op is)) = absurd (cc)
  under_latch next at leaves (SeesPage.on_its_way (SeesOnItsWay.update_wants here was leads is_update is)) = absurd (cc)

-- both
pub places_stay : TreeLaws → PlacesStay
places_stay laws = record {
  stay = stay laws;
  further = λ tree_state worker number m after page invariant its there sees. record {
    on_its_way = λ level next lower at goes. on_its_way laws tree_state invariant.0 invariant.1 worker number m after page its there level next lower at goes sees;
    under_latch = λ next at leaves. under_latch laws tree_state invariant.0 invariant.1 worker number m after page its there next at leaves sees;
  };
}
