-- What an operation writes is lawful, in the place of a page whose latch it holds or as a new page.
use Rattle.std.proofs.Common.{◌≡◌, ℕ, ◌+◌, ◌<◌, ◌≤◌, Option, Some, List, length, refl, sym, ap, subst, ◌∙◌, arith, All}
use Rattle.std.proofs.lemmas.List.Elements.{All-push}
use Rattle.blink_page.specs.{IsFan, IsPageNumber, PlainPage, IsLawfulPage, root_over}
use Rattle.blink_page.specs.declared.limits.TheConstants.{MAX_LEVEL, GREATEST_KEY}
use Rattle.blink_machine.specs.declared.machine.Debt.{Debt}
use Rattle.blink_machine.specs.declared.machine.Need.TheVariants.{WritePage, WriteNew}
use Rattle.blink_machine.specs.declared.machine.State.{State}
use Rattle.blink_machine.specs.declared.machine.State.TheVariants.{Change, SplitNew, SplitOld, Root, NewPrime}
use Rattle.blink_machine.specs.Machine.{PlainMachine, need_at}
use Rattle.blink_machine.specs.TreeState.{TreeState}
use Rattle.blink_machine.specs.Owned.{debt_at, latch_at}
use Rattle.blink_machine.specs.Placed.{PlacedAt, IsAtWork, HasRead, HasHalved, HasSplit, HasAsked}
use Rattle.blink_machine.specs.Invariant.{InvariantWith}
use Rattle.blink_machine.specs.Table.{IsChange, page_out, page_out_at, adds_root}
use Rattle.blink_machine.specs.TreeWithDebts.{Levels, IsDebt}
use Rattle.blink_machine.proofs.operation.OperationIsPlaced.{begun, its_own, at_state}
use Rattle.blink_machine.specs.InOrder.{WritesWell}
use Rattle.blink_machine.proofs.tree_state.InvariantStatements.{WritesAreGood, NewPagesAreGood, PrimeWritesAreGood}
use Rattle.blink_machine.proofs.tree.TreeStatements.{TreeLaws}
use Rattle.blink_machine.proofs.operation.PageUnderLatch.{change_replaces, lower_half_lawful, upper_half_lawful, has_number}

-- the root over two pages of one level is lawful
root_lawful : (fan level separator left right : ℕ) → IsFan fan → level ≤ MAX_LEVEL → separator < GREATEST_KEY → IsPageNumber left → IsPageNumber right → IsLawfulPage fan (root_over level separator left right)
root_lawful fan level separator left right is_fan in_range below left_number right_number =
    let room = is_fan.0 in
    let left_least = left_number.0 in
    let left_most = left_number.1 in
    let right_least = right_number.0 in
    let right_most = right_number.1 in
    record {
      level_in_range = in_range;
      high_in_range = omega arith;
      floor_below_high = omega arith;
      right_unless_last = (λ none. refl, λ same. refl);
      right_is_number = tt;
      at_most_fan = omega arith;
      keys_rise = (omega arith, (omega arith, omega arith));
      values_in_range = (omega arith, omega arith, (omega arith, omega arith, tt));
      inner = λ above. record {
        two_at_least = omega arith;
        last_is_high = (omega arith, (omega arith, refl));
        children = (left_least, left_most, (right_least, right_most, tt));
      };
    }

-- a page that is written in the place of another
record IsLawfulInPlace (fan : ℕ) (page written : PlainPage) : Type 0 where
  pub same_floor : written.floor ≡ page.floor
  pub same_level : written.level ≡ page.level
  pub lawful : IsLawfulPage fan written

module _ (laws : TreeLaws) (tree_state : TreeState) (levels : Levels) (invariant : InvariantWith tree_state levels) (worker : ℕ) (m : PlainMachine) (under : tree_state.machines worker ≡ Some m) where
  -- it writes well where the state has the latch of the page and writes such a page
  write_well : (state : State) (number : ℕ) (page : PlainPage) → m.state ≡ state → tree_state.pages number ≡ Some page → latch_at state ≡ Some number
      → IsLawfulInPlace tree_state.fan page (page_out_at m state 0) → WritesWell tree_state worker m number
  write_well state number page is there holds written =
      let same : page_out m 0 ≡ page_out_at m state 0 = ap (λ s. page_out_at m s 0) is in
      record {
        before = page;
        there = there;
        same_floor = ap (λ (p : PlainPage). p.floor) same ∙ written.same_floor;
        same_level = ap (λ (p : PlainPage). p.level) same ∙ written.same_level;
        lawful = subst (IsLawfulPage tree_state.fan) (sym same) written.lawful;
        latched = invariant.latches.by_state worker number m under (ap latch_at is ∙ holds);
      }

  -- a change
  change_written : (number : ℕ) (page changed : PlainPage) (kept : Option ℕ) → m.state ≡ Change number changed kept → IsAtWork levels m number → HasRead tree_state m number page
      → IsChange m page changed kept → IsLawfulInPlace tree_state.fan page changed
  change_written number page changed kept is at_work read change =
      let it = change_replaces laws tree_state levels invariant worker m under (ap (debt_at m.job) is) number page at_work read changed kept change in
      record { same_floor = it.same_floor; same_level = it.same_level; lawful = it.lawful }

  -- and the lower half of a page that is split
  halved_written : (number : ℕ) (lower : PlainPage) (debt : Debt) → m.state ≡ SplitOld number lower debt → IsAtWork levels m number → (halved : HasHalved tree_state m number lower debt) → IsLawfulInPlace tree_state.fan halved.page lower
  halved_written number lower debt is at_work halved =
      subst (IsLawfulInPlace tree_state.fan halved.page) (sym halved.lower_half_of) (record {
        same_floor = refl;
        same_level = refl;
        lawful = lower_half_lawful laws tree_state levels invariant worker m under (ap (debt_at m.job) is) number halved.page at_work halved.read halved.full debt.page halved.new_number;
      })

  -- these are all the writes of a page in its place
  write_at : (state : State) (number : ℕ) → m.state ≡ state → PlacedAt tree_state levels m state → need_at state ≡ WritePage number → WritesWell tree_state worker m number
  write_at (Change page changed kept) number is placed needs =
      let here : page ≡ number = cc in
      subst (WritesWell tree_state worker m) here (write_well (Change page changed kept) page placed.2 is placed.3.there refl (change_written page placed.2 changed kept is placed.0 placed.3 placed.4))
  write_at (SplitOld page lower debt) number is placed needs =
      let here : page ≡ number = cc in
      subst (WritesWell tree_state worker m) here (write_well (SplitOld page lower debt) page placed.2.page is placed.2.read.there refl (halved_written page lower debt is placed.0 placed.2))
  write_at other number is placed needs = absurd (cc)

  -- a new root is over two pages of the top level, of which there are few enough
  new_root_lawful : (page : ℕ) (debt : Debt) (prime : List ℕ) → IsDebt levels debt.level debt.separator → HasSplit tree_state levels m page debt → HasAsked tree_state page debt prime
      → IsLawfulPage tree_state.fan (root_over (debt.level + 1) debt.separator page debt.page)
  new_root_lawful page debt prime owed split asked =
      let few : length tree_state.prime ≤ 20 = laws.few_levels tree_state.fan tree_state.prime tree_state.pages levels invariant.lawful.tree invariant.numbers_in_range in
      let top : length tree_state.prime ≡ debt.level + 1 = ap length (sym asked.same_prime) ∙ asked.is_top.top in
      root_lawful tree_state.fan (debt.level + 1) debt.separator page debt.page invariant.fan_in_range (omega arith) owed.below_greatest
      (subst IsPageNumber split.same_number (has_number laws tree_state levels invariant debt.level split.cell split.stands)) split.new_number

  -- a new page is the upper half of one that is split, or a new root
  new_page_at : (state : State) (number : ℕ) → m.state ≡ state → PlacedAt tree_state levels m state → need_at state ≡ WriteNew → IsLawfulPage tree_state.fan (page_out_at m state number)
  new_page_at (SplitNew page before) number is placed needs =
      upper_half_lawful laws tree_state levels invariant worker m under (ap (debt_at m.job) is) page before placed.0 placed.2 placed.3
  new_page_at (Root page debt prime) number is placed needs =
      new_root_lawful page debt prime (invariant.lawful.debts.is_debt worker m debt (under, ap (debt_at m.job) is)).0 placed.1 placed.2
  new_page_at other number is placed needs = absurd (cc)

-- what an operation writes in a page's place is lawful and stands as the page did
pub writes_are_good : TreeLaws → WritesAreGood
writes_are_good laws tree_state worker m number invariant its needs =
    let under = its_own tree_state invariant.0 invariant.1 worker m its (begun m (λ same_need. cc)) in
    write_at laws tree_state invariant.0 invariant.1 worker m under m.state number refl (at_state tree_state invariant.0 invariant.1 worker m m.state under refl) needs

-- and so is every new page lawful
pub new_pages_are_good : TreeLaws → NewPagesAreGood
new_pages_are_good laws tree_state worker number m invariant its needs in_range =
    let under = its_own tree_state invariant.0 invariant.1 worker m its (begun m (λ same_need. cc)) in
    new_page_at laws tree_state invariant.0 invariant.1 worker m under m.state number refl (at_state tree_state invariant.0 invariant.1 worker m m.state under refl) needs

-- a prime block with a new root names page numbers only
pub prime_writes_are_good : TreeLaws → PrimeWritesAreGood
prime_writes_are_good laws tree_state worker m prime invariant its needs (adds_root page debt root read here is) numbers =
    let under = its_own tree_state invariant.0 invariant.1 worker m its (begun m (λ same_need. cc)) in
    let placed = at_state tree_state invariant.0 invariant.1 worker m (NewPrime page debt root read) under here in
    let before : All IsPageNumber read = subst (All IsPageNumber) (sym placed.2.same_prime) numbers in
    subst (All IsPageNumber) (sym is) (All-push IsPageNumber read root before placed.3.root_number)
