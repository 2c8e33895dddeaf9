-- What an operation reads leads it to where it may be.
use Rattle.std.proofs.Common.{◌≡◌, ℕ, ◌+◌, ◌-◌, ◌≤◌, inr, Some, None, length, refl, sym, ap, ◌∙◌, subst}
use Rattle.blink_page.specs.{value_at, PlainPage}
use Rattle.blink_rest.specs.{entries_along, BeginsAt}
use Rattle.blink_machine.specs.declared.machine.Debt.{Debt}
use Rattle.blink_machine.specs.declared.machine.Job.TheVariants.{Leaf, Parent}
use Rattle.blink_machine.specs.declared.machine.Next.TheVariants.{MoveRight, Post}
use Rattle.blink_machine.specs.declared.machine.State.{State}
use Rattle.blink_machine.specs.declared.machine.State.TheVariants.{Start, Going, Want, Held, Change, SplitNew, AskPrime, Root, Leave, Posting}
use Rattle.blink_machine.specs.Machine.{PlainMachine, at_state, target, level_of}
use Rattle.blink_machine.specs.TreeState.{TreeState}
use Rattle.blink_machine.specs.Owned.{latch_of, latch_at, debt_of, debt_at, debt_of_job, unlinked_of, unlinked_at, split_of, split_at}
use Rattle.blink_machine.specs.Placed.{MayChange, StandsAt, HasSplit, IsPlaced}
use Rattle.blink_machine.specs.Invariant.{InvariantWith}
use Rattle.blink_machine.specs.Table.{IsTopLeftmost, SeesPrime, begins, asks_of_root, asks_of_other, finds_leftmost, SeesOnItsWay, goes_right, goes_down, find_answers, update_wants, SeesUnderLatch, is_above_high_key, insertion_finds_key, deletion_finds_none, replacement_finds_none, finds_other_pointer, posting_finds_separator, is_to_change, is_to_split, SeesPage, on_its_way, under_latch}
use Rattle.blink_machine.specs.TreeWithDebts.{Levels, IsDebt}
use Rattle.blink_machine.proofs.tree.TreeStatements.{TreeLaws}
use Rattle.blink_machine.proofs.tree_state.WhatMayPass.{SplitPasses}
use Rattle.blink_machine.proofs.tree_state.StepsThatWriteNothing.{split_same}
use Rattle.blink_machine.proofs.operation.PlacedWhateverBefore.{placed_at, goes_to}
use Rattle.blink_machine.proofs.operation.WhereMovesLead.{last_at, stands_right, belongs_here, level_here, value_here, stands_down, begins_leftmost}

-- after a read the operation is where it may be, and what it has for itself is as it was
pub record ReadsOn (old : TreeState) (levels : Levels) (m after : PlainMachine) : Type 0 where
  pub placed : IsPlaced old levels after
  pub same_debt : debt_of after ≡ debt_of m
  pub same_unlinked : unlinked_of after ≡ unlinked_of m
  pub same_latch : latch_of after ≡ latch_of m
  pub split : SplitPasses old.prime old.prime levels levels (split_of m) (split_of after)

module _ (laws : TreeLaws) (old : TreeState) (levels : Levels) (invariant : InvariantWith old levels) (m : PlainMachine) (placed : IsPlaced old levels m)
    (its_debt : (debt : Debt) → debt_of m ≡ Some debt → IsDebt levels debt.level debt.separator × BeginsAt (levels debt.level) debt.page (Some debt.separator)) where
  -- what it has for itself depends on its state and job
  reads_on : (s : State) (after : PlainMachine) → m.state ≡ s → IsPlaced old levels after → debt_of after ≡ debt_at m.job s → unlinked_of after ≡ unlinked_at s
      → latch_of after ≡ latch_at s → split_of after ≡ split_at s → ReadsOn old levels m after
  reads_on s after here place same_debt same_unlinked same_latch same_split = record {
    placed = place;
    same_debt = same_debt ∙ ap (debt_at m.job) (sym here);
    same_unlinked = same_unlinked ∙ ap unlinked_at (sym here);
    same_latch = same_latch ∙ ap latch_at (sym here);
    split = split_same old.prime old.prime levels (split_of m) (split_of after) refl (same_split ∙ ap split_at (sym here));
  }

  -- a page on its way down
  module _ (number : ℕ) (page : PlainPage) (there : old.pages number ≡ Some page) where
    -- a change of a leaf begins where the way down ends
    wants_leaf : (level : ℕ) → m.state ≡ Going number level → page.level ≡ 0 → (m.job ≡ Leaf → MayChange m.op m.job)
        → ReadsOn old levels m (at_state m (Want number))
    wants_leaf level here leaf may =
        let p = placed_at old levels m (Going number level) placed here in
        let at : level ≡ level_of m.job = sym (level_here laws old levels invariant m level number page there p.1) ∙ leaf ∙ ap level_of (sym p.0) in
        reads_on (Going number level) (at_state m (Want number)) here
        (goes_to old levels m (Want number) placed (
          record { may_change = may p.0; stands_at = subst (λ (k : ℕ). StandsAt levels m k number) at p.1 },
          rw p.0 p.2,
        ))
        (ap debt_of_job p.0) refl refl refl

    -- each row of a page that is read on the way down
    reads_on_its_way : (after : PlainMachine) → SeesOnItsWay m number page after → ReadsOn old levels m after
    reads_on_its_way after (goes_right level next here leads is) =
        let p = placed_at old levels m (Going number level) placed here in
        rw is (reads_on (Going number level) (at_state m (Going next level)) here
        (goes_to old levels m (Going next level) placed (p.0, stands_right laws old levels invariant m level number page there next p.1 leads.0 leads.1, p.2)) refl refl refl refl)
    reads_on_its_way after (goes_down level child here leads is) =
        let p = placed_at old levels m (Going number (level + 1)) placed here in
        let it = stands_down laws old levels invariant m level number page child there p.1 leads.0 leads.2 in
        rw is (reads_on (Going number (level + 1)) _ here
        (record { same_fan = placed.same_fan; words = placed.words; at_its_state = (p.0, record { begins = it.0; remembers = it.1 }, p.2) }) refl refl refl refl)
    reads_on_its_way after (find_answers level key here leads op is) =
        rw is (reads_on (Going number level) _ here (record { same_fan = placed.same_fan; words = placed.words; at_its_state = refl }) refl refl refl refl)
    reads_on_its_way after (update_wants level here leads is_update is) = rw is (wants_leaf level here leads.1 (λ leaf. rw leaf is_update))

    -- a page under its latch
    module _ (here : m.state ≡ Held number) where
      -- a posting doesn't find its separator there
      separator_absent : (debt : Debt) (child : ℕ) → target m ≤ page.high → m.job ≡ Parent debt → value_at debt.separator page.entries ≡ Some child → ⊥
      separator_absent debt child below job found =
          let p = placed_at old levels m (Held number) placed here in
          let same : value_at (target m) (entries_along (levels (level_of m.job))) ≡ value_at (target m) page.entries = value_here laws old levels invariant m (level_of m.job) number page there p.0.stands_at below in
          let also : value_at debt.separator (entries_along (levels (debt.level + 1))) ≡ value_at debt.separator page.entries = rw job at same in
          let none : value_at debt.separator (entries_along (levels (debt.level + 1))) ≡ None = (its_debt debt (ap (debt_at m.job) here ∙ ap debt_of_job job)).0.not_above in
          cc

      -- each row of a page that is read under its latch
      reads_under_latch : (after : PlainMachine) → SeesUnderLatch m number page after → ReadsOn old levels m after
      reads_under_latch after (is_above_high_key next above links is) =
          let p = placed_at old levels m (Held number) placed here in
          rw is (reads_on (Held number) (at_state m (Leave number (MoveRight next))) here
          (goes_to old levels m (Leave number (MoveRight next)) placed (
            record { may_change = p.0.may_change; stands_at = stands_right laws old levels invariant m (level_of m.job) number page there next p.0.stands_at above links },
            p.1,
          )) refl refl refl refl)
      reads_under_latch after (insertion_finds_key key pointer kept below leaf op found is) =
          rw is (reads_on (Held number) _ here (record { same_fan = placed.same_fan; words = placed.words; at_its_state = refl }) (sym (ap debt_of_job leaf)) refl refl refl)
      reads_under_latch after (deletion_finds_none key below leaf op none is) =
          rw is (reads_on (Held number) _ here (record { same_fan = placed.same_fan; words = placed.words; at_its_state = refl }) (sym (ap debt_of_job leaf)) refl refl refl)
      reads_under_latch after (replacement_finds_none key pointer below leaf op none is) =
          rw is (reads_on (Held number) _ here (record { same_fan = placed.same_fan; words = placed.words; at_its_state = refl }) (sym (ap debt_of_job leaf)) refl refl refl)
      reads_under_latch after (finds_other_pointer key expected below leaf op differs is) =
          rw is (reads_on (Held number) _ here (record { same_fan = placed.same_fan; words = placed.words; at_its_state = refl }) (sym (ap debt_of_job leaf)) refl refl refl)
      reads_under_latch after (posting_finds_separator debt child below job found is) = absurd (separator_absent debt child below job found)
      reads_under_latch after (is_to_change changed kept below change is) =
          let p = placed_at old levels m (Held number) placed here in
          rw is (reads_on (Held number) (at_state m (Change number changed kept)) here
          (goes_to old levels m (Change number changed kept) placed
          (p.0, p.1, page, record { there = there; belongs = belongs_here laws old levels invariant m (level_of m.job) number page there p.0.stands_at below }, change)) refl refl refl refl)
      reads_under_latch after (is_to_split below full is) =
          let p = placed_at old levels m (Held number) placed here in
          rw is (reads_on (Held number) (at_state m (SplitNew number page)) here
          (goes_to old levels m (SplitNew number page) placed
          (p.0, p.1, record { there = there; belongs = belongs_here laws old levels invariant m (level_of m.job) number page there p.0.stands_at below }, full)) refl refl refl refl)

    -- so a page that is read leads the operation to where it may be
    pub reads_page_on : (after : PlainMachine) → SeesPage m number page after → ReadsOn old levels m after
    reads_page_on after (on_its_way sees) = reads_on_its_way after sees
    reads_page_on after (under_latch here sees) = reads_under_latch here after sees

  -- the page that it has split is not the leftmost of the top level: so another has split that
  other_is_growing : (page : ℕ) (debt : Debt) → m.state ≡ AskPrime page debt → ¬ IsTopLeftmost old.prime debt.level page
      → SplitPasses old.prime old.prime levels levels (split_of m) None
  other_is_growing page debt here other level leftmost top there long = inr (record {
    top = top;
    leftmost_there = there;
    long = long;
    kept = λ its.
        let p = placed_at old levels m (AskPrime page debt) placed here in
        let split : HasSplit old levels m page debt = p.1 in
        let mine : split_of m ≡ Some page = ap split_at here in
        let same : page ≡ leftmost = cc in
        let left = laws.leftmost_begins old.fan old.prime old.pages levels level leftmost invariant.lawful.tree there in
        let both = laws.numbers_differ old.fan old.prime old.pages levels debt.level level split.cell left.cell invariant.lawful.tree split.stands left.stands
        (split.same_number ∙ same ∙ sym left.same_number) in
        let at : debt.level ≡ level = both.1 in
        absurd (other (record { top = rw at top; leftmost = rw (at, same) there }));
  })

  -- the prime block
  pub reads_prime_on : (after : PlainMachine) → SeesPrime m old.prime after → ReadsOn old levels m after
  reads_prime_on after (begins top here last is) =
      let p = placed_at old levels m Start placed here in
      rw is (reads_on Start _ here
      (record { same_fan = placed.same_fan; words = placed.words; at_its_state = (p.0, record { begins = begins_leftmost laws old levels invariant (length old.prime - 1) top (target m) (last_at old.prime top last); remembers = tt }, p.1) })
      refl refl refl refl)
  reads_prime_on after (asks_of_root page debt here is_top is) =
      let p = placed_at old levels m (AskPrime page debt) placed here in
      rw is (reads_on (AskPrime page debt) (at_state m (Root page debt old.prime)) here
      (goes_to old levels m (Root page debt old.prime) placed (p.0, p.1, record { same_prime = refl; is_top = is_top })) refl refl refl refl)
  reads_prime_on after (asks_of_other page debt here other is) =
      let p = placed_at old levels m (AskPrime page debt) placed here in
      rw is (record {
        placed = goes_to old levels m (Leave page (Post debt)) placed (p.1.remembers, p.0);
        same_debt = ap (debt_at m.job) (sym here);
        same_unlinked = ap unlinked_at (sym here);
        same_latch = ap latch_at (sym here);
        split = other_is_growing page debt here other;
      })
  reads_prime_on after (finds_leftmost debt leftmost here job there is) =
      let p = placed_at old levels m Posting placed here in
      rw is (reads_on Posting (at_state m (Want leftmost)) here
      (goes_to old levels m (Want leftmost) placed (
        record {
          may_change = rw job tt;
          stands_at = record {
            begins = begins_leftmost laws old levels invariant (level_of m.job) leftmost (target m) (rw job there);
            remembers = rw p.1 tt;
          };
        },
        rw job p.0,
      )) refl refl refl refl)
