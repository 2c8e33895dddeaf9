-- A change of one leaf of a tree at rest is a step of an operation that has the leaf's latch. So the tree stays at rest, and its plain map changes
-- by the operation.
use Rattle.std.proofs.Common.{◌≡◌, ◌≤◌, ℕ, Option, Some, None, inl, inr, refl, sym, ap, subst, ◌∙◌}
use Rattle.blink_operation.specs.declared.Op.{Op}
use Rattle.blink_operation.specs.{FitsWords, answer_at, answer_of, key_of, map_after}
use Rattle.blink_page.specs.{IsKeyOf, PlainPage, least_above}
use Rattle.blink_rest.specs.{IsMember, IsStoreAtRest}
use Rattle.blink_store.specs.{IsLawfulStore, PlainStore, WritesPage, page_of}
use Rattle.blink_machine.specs.declared.machine.State.TheVariants.{Change}
use Rattle.blink_machine.specs.declared.step.Step.TheVariants.{Moved}
use Rattle.blink_machine.specs.{Decides, InvariantWith, IsUpdate, Levels, PlainMachine, Steps, deciding, done, fresh, other, unlatch, unlatches, under_way, write_page, writes_page}
use Rattle.blink_machine.specs.Invariant.{Invariant}
use Rattle.blink_machine.specs.Table.{IsChange}
use Rattle.blink_machine.specs.Placed.{IsPlaced}
use Rattle.blink_machine.specs.Tree.{BeginsBelow}
use Rattle.blink_machine.proofs.Offered.{stands_so, step_law}
use Rattle.blink_entries.specs.Index.{map_of}
use Rattle.blink_entries.proofs.Offered.{no_other_map_is_kept, the_map_is_kept}
use Rattle.blink_index.proofs.alone.AloneInTree.{alone, begins_alone, holds_its, latch_gone, no_operation, only_it_holds, only_it_works, rests_at_end, worker_now}

-- an operation that has read the leaf under its latch, and writes it next
abbrev pub about_to_change : ℕ → Op → ℕ → PlainPage → Option ℕ → PlainMachine
about_to_change fan op number changed kept = record (fresh fan op) { state = Change number changed kept }

module _ (store : PlainStore) (lawful : IsLawfulStore store) (at_rest : IsStoreAtRest store) (op : Op) (number : ℕ) (leaf changed : PlainPage) (kept : Option ℕ)
    (there : page_of store number ≡ Some leaf) (is_leaf : leaf.level ≡ 0) (belongs : IsKeyOf leaf (key_of op)) (updates : IsUpdate op) (words : FitsWords op)
    (change : IsChange (about_to_change store.fan op number changed kept) leaf changed kept) where
  abbrev writer : PlainMachine
  writer = about_to_change store.fan op number changed kept

  -- in a chain of the tree at rest stands a page at its level
  stands : (levels : Levels) → InvariantWith (alone store (no_operation store.fan)) levels → BeginsBelow (levels 0) number (key_of op)
  stands levels invariant = elim (invariant.lawful.new_pages.placed.placed number leaf there) [
    | inr unlinked ↦ absurd (cc ((only_it_works None unlinked.worker unlinked.m unlinked.under_way).1))
    | inl in_chain ↦
        let so = stands_so store.fan store.prime (page_of store) levels invariant.lawful.tree in_chain.level in_chain.cell in_chain.stands in
        let here : page_of store in_chain.cell.number ≡ Some in_chain.cell.page = so.there in
        let same : in_chain.cell.page ≡ leaf = cc (here, there, ap (page_of store) in_chain.same_number) in
        let level : in_chain.level ≡ 0 = sym so.has_level ∙ ap (λ (p : PlainPage). p.level) same ∙ is_leaf in
        record {
          cell = in_chain.cell;
          stands = subst (λ (l : ℕ). IsMember in_chain.cell (levels l)) level in_chain.stands;
          same_number = in_chain.same_number;
          floor_below = subst (λ (p : PlainPage). least_above p.floor ≤ key_of op) (sym same) belongs.0;
        }
  ]

  placed : (levels : Levels) → InvariantWith (alone store (no_operation store.fan)) levels → IsPlaced (alone store writer) levels writer
  placed levels invariant = record {
    same_fan = refl;
    words = words;
    at_its_state = (
      record { may_change = updates; stands_at = record { begins = stands levels invariant; remembers = tt } },
      refl,
      leaf,
      record { there = there; belongs = belongs },
      change,
    );
  }

  writing : (levels : Levels) → InvariantWith (alone store (no_operation store.fan)) levels → InvariantWith (alone store writer) levels
  writing levels invariant = record {
    fan_in_range = invariant.fan_in_range;
    numbers_in_range = invariant.numbers_in_range;
    lawful = record {
      tree = invariant.lawful.tree;
      new_pages = record {
        placed = record {
          placed = λ n page here. elim (invariant.lawful.new_pages.placed.placed n page here) [
            | inl in_chain ↦ inl in_chain
            | inr unlinked ↦ absurd (cc ((only_it_works None unlinked.worker unlinked.m unlinked.under_way).1))
          ];
          in_no_chain = λ worker n m here unlinked. let same = (only_it_works (Some writer) worker m here).1 in absurd (cc);
          of_one = λ worker another n m o here there unlinked also. let same = (only_it_works (Some writer) worker m here).1 in absurd (cc);
        };
        written = λ worker n m here unlinked. let same = (only_it_works (Some writer) worker m here).1 in absurd (cc);
      };
      debts = record {
        owed = λ level separator debt. let it = invariant.lawful.debts.owed level separator debt in absurd (cc ((only_it_works None it.worker it.m it.owes.0).1));
        is_debt = λ worker m debt owes. let same = (only_it_works (Some writer) worker m owes.0).1 in let owed = owes.1 in absurd (cc);
        by_one = λ worker another m n debt owing owes also level separator. let same = (only_it_works (Some writer) worker m owes.0).1 in let owed = owes.1 in absurd (cc);
      };
      top = record {
        growing = λ level leftmost top here long. let it = invariant.lawful.top.growing level leftmost top here long in absurd (cc ((only_it_works None it.worker it.m it.under_way).1));
        latched = λ worker page m here split. let same = (only_it_works (Some writer) worker m here).1 in absurd (cc);
      };
    };
    latches = record {
      by_state = λ worker page m here latch.
          let it = only_it_works (Some writer) worker m here in let same = it.1 in
          holds_its (Some number) page (cc) ∙ ap Some (sym it.0);
      by_holder = λ worker page held. let it = only_it_holds (Some number) page worker held in (writer, ap (λ w. (alone store writer).machines w) it.0, it.1);
    };
    placed = λ worker m here.
        let same : writer ≡ m = cc ((only_it_works (Some writer) worker m here).1) in
        subst (λ (n : PlainMachine). IsPlaced (alone store writer) levels n) same (placed levels invariant);
  }

  begun : Invariant (alone store writer)
  begun = let idle = begins_alone store lawful at_rest in (idle.0, writing idle.0 idle.1)

  module _ (new : PlainStore) (writes : WritesPage store new number changed) where
    -- the operation after the write, and after it has let the latch go
    abbrev written : PlainMachine
    written = done writer 0

    abbrev left : PlainMachine
    left = done written 0

    write_step : Steps (alone store writer) 0 writer (Moved (write_page number)) written (alone new written)
    write_step = writes_page number refl refl refl writes.same_fan writes.same_prime (record { written = writes.written; others = writes.others }) refl
        (worker_now (Some writer) written)

    after_write : Invariant (alone new written)
    after_write = step_law.step_keeps_invariant (alone store writer) (alone new written) 0 writer written (Moved (write_page number)) begun words (under_way refl) write_step

    leave_step : Steps (alone new written) 0 written (Moved (unlatch number)) left (alone new left)
    leave_step = unlatches number refl refl refl refl refl refl (latch_gone number) (worker_now (Some written) left)

    after_leave : Invariant (alone new left)
    after_leave = step_law.step_keeps_invariant (alone new written) (alone new left) 0 written left (Moved (unlatch number)) after_write words (under_way refl) leave_step

    -- the store is at rest again
    pub leaf_change_rests : IsStoreAtRest new
    leaf_change_rests = rests_at_end new left after_leave refl

    decides : Decides (alone new written) writer written (map_of store)
    decides =
        let is_map = the_map_is_kept store at_rest in
        step_law.step_decides (alone store writer) (alone new written) 0 writer written (Moved (write_page number)) (map_of store) begun words (under_way refl) write_step
        is_map.ascending is_map.kept

    -- the operation has answered as the plain map does
    pub leaf_change_answers : answer_at op kept ≡ answer_of (map_of store) op
    leaf_change_answers = elim decides [
      | deciding was answers entries ↦ cc
      | other same entries ↦ absurd (cc)
    ]

    -- and has changed it
    pub leaf_change_maps : map_of new ≡ map_after (map_of store) op
    leaf_change_maps = elim decides [
      | deciding was answers entries ↦ sym (no_other_map_is_kept new (map_after (map_of store) op) leaf_change_rests entries)
      | other same entries ↦ absurd (cc)
    ]
