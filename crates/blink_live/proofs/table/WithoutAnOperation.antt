-- A tree state without an operation that owes nothing, and without the operation's latch.
use Rattle.std.proofs.Common.{◌≡◌, ◌≢◌, ℕ, inl, inr, Option, Some, None, List, sym, ap, ◌∙◌}
use mathlib.Core.Logic.{dite}
use native.Mathlib.Decide.{ℕ_discrete}
use Rattle.blink_page.specs.{PlainPage}
use Rattle.blink_machine.specs.declared.machine.Debt.{Debt}
use Rattle.blink_machine.specs.declared.machine.State.{State}
use Rattle.blink_machine.specs.declared.machine.State.TheVariants.{Start, Going, Want, Held, Change, SplitNew, SplitOld, AskPrime, Root, NewPrime, Leave, Posting, Ended}
use Rattle.blink_machine.specs.{PlainMachine, latch_of}
use Rattle.blink_machine.specs.Invariant.{Invariant, InvariantWith}
use Rattle.blink_machine.specs.Owned.{debt_of, split_of, unlinked_of}
use Rattle.blink_machine.specs.Placed.{HasAsked, HasHalved, HasRead, HasSplit, IsPlaced, PlacedAt}
use Rattle.blink_machine.specs.TreeState.{TreeState}
use Rattle.blink_machine.specs.TreeWithDebts.{HasContent, Levels, is_new_root, is_upper_half}
use Rattle.blink_live.specs.Changes.{put}
use Rattle.blink_live.specs.GivingUp.{OwesNothing}
use Rattle.blink_live.proofs.table.MapsWithOneChange.{put_else, put_here}

-- the tree state in which latches have these holders, and a worker is idle
abbrev pub without : TreeState → (ℕ → Option ℕ) → ℕ → TreeState
without tree_state holder worker = record tree_state { holder = holder; machines = put tree_state.machines worker None }

-- the worker holds no latch now, and the others hold what they held
pub record LosesLatches (old new : ℕ → Option ℕ) (worker : ℕ) : Type 0 where
  pub stays : (page other : ℕ) → other ≢ worker → old page ≡ Some other → new page ≡ Some other
  pub was : (page other : ℕ) → new page ≡ Some other → (old page ≡ Some other) × (other ≢ worker)

module _ (old : TreeState) (holder : ℕ → Option ℕ) (worker : ℕ) (m : PlainMachine) (at : old.machines worker ≡ Some m) (owes : OwesNothing m) (loses : LosesLatches old.holder holder worker) where
  abbrev new : TreeState
  new = without old holder worker

  -- whose operation is under way
  was : (other : ℕ) (n : PlainMachine) → new.machines other ≡ Some n → (old.machines other ≡ Some n) × (other ≢ worker)
  was other n is = dite (ℕ_discrete other worker)
      (λ same. absurd (let none : new.machines other ≡ None = ap new.machines same ∙ put_here old.machines worker None in let e : None ≡ Some n = sym none ∙ is in cc))
      (λ differ. (sym (put_else old.machines worker other None differ) ∙ is, differ))

  still : (other : ℕ) (n : PlainMachine) → other ≢ worker → old.machines other ≡ Some n → new.machines other ≡ Some n
  still other n differ is = put_else old.machines worker other None differ ∙ is

  -- an operation that has something for itself isn't the one that is given up
  another : {A : Type 0} (part : PlainMachine → Option A) (x : A) → part m ≡ None → (other : ℕ) (n : PlainMachine) → old.machines other ≡ Some n → part n ≡ Some x → other ≢ worker
  another part x none other n is has same =
      let there : Some m ≡ Some n = sym at ∙ (ap old.machines (sym same) ∙ is) in
      let it : m ≡ n = cc in
      let e : None ≡ Some x = sym none ∙ (ap part it ∙ has) in absurd (cc)

  content : (n : PlainMachine) (page : PlainPage) → HasContent old n page → HasContent new n page
  content n page (is_upper_half number whole lower debt here there is) = is_upper_half number whole lower debt here there is
  content n page (is_new_root left root debt prime here is) = is_new_root left root debt prime here is

  read : (n : PlainMachine) (number : ℕ) (page : PlainPage) → HasRead old n number page → HasRead new n number page
  read n number page it = record { there = it.there; belongs = it.belongs }

  split : (levels : Levels) (n : PlainMachine) (number : ℕ) (debt : Debt) → HasSplit old levels n number debt → HasSplit new levels n number debt
  split levels n number debt it = record {
    cell = it.cell;
    stands = it.stands;
    same_number = it.same_number;
    ends_at = it.ends_at;
    links_to = it.links_to;
    new_number = it.new_number;
    brings = it.brings;
    same_level = it.same_level;
    remembers = it.remembers;
  }

  asked : (number : ℕ) (debt : Debt) (prime : List ℕ) → HasAsked old number debt prime → HasAsked new number debt prime
  asked number debt prime it = record { same_prime = it.same_prime; is_top = it.is_top }

  halved : (n : PlainMachine) (number : ℕ) (lower : PlainPage) (debt : Debt) → HasHalved old n number lower debt → HasHalved new n number lower debt
  halved n number lower debt it = record {
    page = it.page;
    read = read n number it.page it.read;
    full = it.full;
    new_number = it.new_number;
    same_debt = it.same_debt;
    lower_half_of = it.lower_half_of;
    upper_there = it.upper_there;
  }

  stands : (levels : Levels) (n : PlainMachine) (s : State) → PlacedAt old levels n s → PlacedAt new levels n s
  stands levels n (Change number changed kept) it = (it.0, it.1, it.2, read n number it.2 it.3, it.4)
  stands levels n (SplitNew number page) it = (it.0, it.1, read n number page it.2, it.3)
  stands levels n (SplitOld number lower debt) it = (it.0, it.1, halved n number lower debt it.2)
  stands levels n (AskPrime number debt) it = (it.0, split levels n number debt it.1)
  stands levels n (Root number debt prime) it = (it.0, split levels n number debt it.1, asked number debt prime it.2)
  stands levels n (NewPrime number debt root prime) it = (
    it.0,
    split levels n number debt it.1,
    asked number debt prime it.2,
    record { root_number = it.3.root_number; root_there = it.3.root_there },
  )
  stands levels n Start it = it
  stands levels n (Going page level) it = it
  stands levels n (Want page) it = it
  stands levels n (Held page) it = it
  stands levels n (Leave page next) it = it
  stands levels n Posting it = it
  stands levels n Ended it = it

  placed : (levels : Levels) (n : PlainMachine) → IsPlaced old levels n → IsPlaced new levels n
  placed levels n it = record { same_fan = it.same_fan; words = it.words; at_its_state = stands levels n n.state it.at_its_state }

  without_it : (levels : Levels) → InvariantWith old levels → InvariantWith new levels
  without_it levels is =
      let pages = is.lawful.new_pages in
      let debts = is.lawful.debts in
      let top = is.lawful.top in record {
        fan_in_range = is.fan_in_range;
        numbers_in_range = is.numbers_in_range;
        lawful = record {
          tree = is.lawful.tree;
          new_pages = record {
            placed = record {
              placed = λ number page there. elim (pages.placed.placed number page there) [
                | inl chained ↦ inl chained
                | inr it ↦ inr (record { worker = it.worker; m = it.m; under_way = still it.worker it.m (another unlinked_of number owes.no_page it.worker it.m it.under_way it.unlinked) it.under_way; unlinked = it.unlinked })
              ];
              in_no_chain = λ other number n goes. pages.placed.in_no_chain other number n (was other n goes).0;
              of_one = λ one other number n k goes also. pages.placed.of_one one other number n k (was one n goes).0 (was other k also).0;
            };
            written = λ other number n goes unlinked. let it = pages.written other number n (was other n goes).0 unlinked in
                record { page = it.page; there = it.there; content = content n it.page it.content };
          };
          debts = record {
            owed = λ level separator debt. let it = debts.owed level separator debt in record {
              worker = it.worker;
              m = it.m;
              debt = it.debt;
              owes = (still it.worker it.m (another debt_of it.debt owes.no_debt it.worker it.m it.owes.0 it.owes.1) it.owes.0, it.owes.1);
              same_level = it.same_level;
              same_separator = it.same_separator;
            };
            is_debt = λ other n debt owing. debts.is_debt other n debt ((was other n owing.0).0, owing.1);
            by_one = λ one other n k debt owing it also. debts.by_one one other n k debt owing ((was one n it.0).0, it.1) ((was other k also.0).0, also.1);
          };
          top = record {
            growing = λ level leftmost long there two. let it = top.growing level leftmost long there two in
                record { worker = it.worker; m = it.m; under_way = still it.worker it.m (another split_of leftmost owes.no_split it.worker it.m it.under_way it.split) it.under_way; split = it.split };
            latched = λ other page n goes split. let it = was other n goes in loses.stays page other it.1 (top.latched other page n it.0 split);
          };
        };
        latches = record {
          by_state = λ other page n goes latch. let it = was other n goes in loses.stays page other it.1 (is.latches.by_state other page n it.0 latch);
          by_holder = λ other page holds. let held = loses.was page other holds in let it = is.latches.by_holder other page held.0 in (it.0, still other it.0 held.1 it.1, it.2);
        };
        placed = λ other n goes. placed levels n (is.placed other n (was other n goes).0);
      }

  pub invariant_without : Invariant old → Invariant new
  invariant_without is = (is.0, without_it is.0 is.1)

-- no latch is lost
pub loses_none : (tree_state : TreeState) (worker : ℕ) (m : PlainMachine) → Invariant tree_state → tree_state.machines worker ≡ Some m → latch_of m ≡ None → LosesLatches tree_state.holder tree_state.holder worker
loses_none tree_state worker m invariant at no_latch = record {
  stays = λ page other differ holds. holds;
  was = λ page other holds. (
    holds,
    λ same.
        let it = invariant.1.latches.by_holder other page holds in
        let one : Some m ≡ Some it.0 = sym at ∙ (ap tree_state.machines (sym same) ∙ it.1) in
        let is : m ≡ it.0 = cc in
        let e : None ≡ Some page = sym no_latch ∙ (ap latch_of is ∙ it.2) in absurd (cc),
  );
}

-- or the one that it holds
pub loses_its : (tree_state : TreeState) (worker number : ℕ) (m : PlainMachine) → Invariant tree_state → tree_state.machines worker ≡ Some m → latch_of m ≡ Some number → LosesLatches tree_state.holder (put tree_state.holder number None) worker
loses_its tree_state worker number m invariant at latch =
    let held : tree_state.holder number ≡ Some worker = invariant.1.latches.by_state worker number m at latch in record {
      stays = λ page other differ holds. put_else tree_state.holder number page None (λ same. differ (let e : Some other ≡ Some worker = sym holds ∙ (ap tree_state.holder same ∙ held) in cc)) ∙ holds;
      was = λ page other holds. dite (ℕ_discrete page number)
          (λ same. absurd (let e : None ≡ Some other = sym (ap (put tree_state.holder number None) same ∙ put_here tree_state.holder number None) ∙ holds in cc))
          (λ apart.
          let before : tree_state.holder page ≡ Some other = sym (put_else tree_state.holder number page None apart) ∙ holds in (
            before,
            λ same.
                let it = invariant.1.latches.by_holder other page before in
                let one : Some m ≡ Some it.0 = sym at ∙ (ap tree_state.machines (sym same) ∙ it.1) in
                let is : m ≡ it.0 = cc in
                let e : Some number ≡ Some page = sym latch ∙ (ap latch_of is ∙ it.2) in
                apart (cc),
          ));
    }
