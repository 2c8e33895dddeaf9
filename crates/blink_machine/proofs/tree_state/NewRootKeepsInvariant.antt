-- A prime block written with a new root keeps all that is so between steps.
use Rattle.std.proofs.Common.{◌≡◌, ◌≢◌, ℕ, ◌+◌, ◌<◌, ◌≤◌, ◌⊎◌, inl, inr, Some, None, List, [], ◌∷◌, ◌++◌, length, slice_get, refl, sym, ap, ◌∙◌, subst, arith, length-append, is_some}
use Rattle.std.proofs.lemmas.Bool.{cases_eq}
use Rattle.std.proofs.lemmas.Bool.Decides.{nat_tests}
use Rattle.blink_page.specs.{value_at, root_over}
use Rattle.blink_page.specs.declared.limits.TheConstants.{GREATEST_KEY}
use Rattle.blink_rest.specs.Chain.{Cell}
use Rattle.blink_rest.specs.{IsMember, entries_along}
use Rattle.blink_machine.specs.declared.machine.Debt.{Debt}
use Rattle.blink_machine.specs.declared.machine.Next.TheVariants.{Finish}
use Rattle.blink_machine.specs.declared.machine.State.TheVariants.{NewPrime, Leave}
use Rattle.blink_machine.specs.Machine.{PlainMachine, at_state}
use Rattle.blink_machine.specs.TreeState.{TreeState}
use Rattle.blink_machine.specs.Owned.{latch_of, latch_at, debt_of, debt_at, unlinked_of, unlinked_at, split_of}
use Rattle.blink_machine.specs.Placed.{HasSplit, HasAsked, HasRoot, HasAnswer, IsPlaced}
use Rattle.blink_machine.specs.Invariant.{Invariant, InvariantWith}
use Rattle.blink_machine.specs.Table.{IsTopLeftmost}
use Rattle.blink_machine.specs.TreeWithDebts.{Levels}
use Rattle.blink_machine.proofs.tree.TreeStatements.{TreeLaws, Grows, CanGrow, RootGrows}
use Rattle.blink_machine.proofs.tree_state.OthersStayPlaced.{LeavesAlone}
use Rattle.blink_machine.proofs.tree_state.WhoseOperation.{Turns}
use Rattle.blink_machine.proofs.tree_state.WhatMayPass.{Owes, UnlinkedPasses, SplitPasses, keeps_latch}
use Rattle.blink_machine.proofs.tree_state.WhatAStepNeeds.{step_has_invariant}
use Rattle.blink_machine.proofs.tree.DebtsWhereKeysChange.{KeysPass, debts_pass}
use Rattle.blink_machine.proofs.operation.PlacedWhateverBefore.{placed_at}

-- a key below the greatest is a separator of a root over two pages exactly if it parts them
root_lacks : (key high left right : ℕ) → key < GREATEST_KEY → key ≢ high → value_at key ((high, left) ∷ (GREATEST_KEY, right) ∷ []) ≡ None
root_lacks key high left right below differs = grind (arith, nat_tests)

-- and where it parts them, it leads to the left one
root_has : (key high left right : ℕ) → key ≡ high → value_at key ((high, left) ∷ (GREATEST_KEY, right) ∷ []) ≡ Some left
root_has key high left right same = grind (arith, nat_tests)

-- the prime block is written with the root added
pub record WritesPrime (old new : TreeState) (worker : ℕ) (m : PlainMachine) (read : List ℕ) (root : ℕ) : Type 0 where
  pub same_fan : new.fan ≡ old.fan
  pub new_prime : new.prime ≡ read ++ root ∷ []
  pub same_pages : new.pages ≡ old.pages
  pub same_holder : new.holder ≡ old.holder
  pub here : old.machines worker ≡ Some m

module _ (laws : TreeLaws) (old new : TreeState) (levels : Levels) (invariant : InvariantWith old levels) (worker : ℕ) (m : PlainMachine) (placed : IsPlaced old levels m)
    (number : ℕ) (debt : Debt) (root : ℕ) (read : List ℕ) (here : m.state ≡ NewPrime number debt root read) (writes : WritesPrime old new worker m read root) where
  module _ (split : HasSplit old levels m number debt) (asked : HasAsked old number debt read) (has_root : HasRoot old number debt root) where
    -- the operation owes the debt of the page that it has split
    owes : debt_of m ≡ Some debt
    owes = ap (debt_at m.job) here

    -- the growth is one as a tree takes it
    pub is_to_grow : CanGrow old.fan old.prime old.pages levels debt.level split.cell debt.page root
    is_to_grow =
        let owed = invariant.lawful.debts.is_debt worker m debt (writes.here, owes) in
        record {
          fan_in_range = invariant.fan_in_range;
          numbers_in_range = invariant.numbers_in_range;
          is_top = rw split.same_number (subst (λ (prime : List ℕ). IsTopLeftmost prime debt.level number) asked.same_prime asked.is_top);
          stands = split.stands;
          begins = rw split.ends_at owed.1;
          below_greatest = rw split.ends_at owed.0.below_greatest;
          not_in_chain = invariant.lawful.new_pages.placed.in_no_chain worker root m writes.here (ap unlinked_at here);
          root_there = rw (split.ends_at, split.same_number) has_root.root_there;
        }

    module _ (it : RootGrows old.fan old.prime old.pages levels debt.level split.cell debt.page root) where
      -- no page stands in the new level before
      none_stands : (c : Cell) → IsMember c (levels (debt.level + 1)) → ⊥
      none_stands c stands = rw it.none_before at stands

      -- each page of a chain stands where it stood
      stands_still : (level : ℕ) (c : Cell) → IsMember c (levels level) → IsMember c (it.new level)
      stands_still level c stands = elim (cases_eq level (debt.level + 1)) [
        | inl same ↦ absurd (none_stands c (subst (λ (l : ℕ). IsMember c (levels l)) same stands))
        | inr differs ↦ rw (it.same_below level differs) stands
      ]

      -- so the levels grow
      root_grows : Grows levels it.new
      root_grows level c stands = record { cell = c; stands = stands_still level c stands; same_number = refl; same_floor = refl }

      -- a page of the grown levels is the root, or was one before
      root_or_before : (level : ℕ) (c : Cell) → IsMember c (it.new level)
          → ((level ≡ debt.level + 1) × (c ≡ record { number = root; page = root_over (debt.level + 1) split.cell.page.high split.cell.number debt.page })) ⊎ IsMember c (levels level)
      root_or_before level c stands = elim (cases_eq level (debt.level + 1)) [
        | inl same ↦
            let in_top : IsMember c (it.new (debt.level + 1)) = subst (λ (l : ℕ). IsMember c (it.new l)) same stands in
            let is_it = subst (λ (cells : List Cell). IsMember c cells) it.top_page in_top in
            inl (same, elim is_it [ inl is_root ↦ is_root | inr nothing ↦ absurd nothing ])
        | inr differs ↦ inr (rw (it.same_below level differs) at stands)
      ]

      -- the separators of the new level
      root_entries : entries_along (it.new (debt.level + 1)) ≡ (split.cell.page.high, split.cell.number) ∷ (GREATEST_KEY, debt.page) ∷ []
      root_entries = ap entries_along it.top_page

      -- before there were none
      no_entries : entries_along (levels (debt.level + 1)) ≡ []
      no_entries = ap entries_along it.none_before

      -- the separators above stay as they are, but for the one that was owed
      above_stays : (level key : ℕ) → key < GREATEST_KEY → ¬ Owes (debt_of m) level key
          → value_at key (entries_along (it.new (level + 1))) ≡ value_at key (entries_along (levels (level + 1)))
      above_stays level key below differs = elim (cases_eq level debt.level) [
        | inl same ↦
            let another : key ≢ split.cell.page.high = λ is_it. differs (record { debt = debt; owes = owes; same_level = sym same; same_separator = sym split.ends_at ∙ sym is_it }) in
            subst (λ (l : ℕ). value_at key (entries_along (it.new (l + 1))) ≡ value_at key (entries_along (levels (l + 1)))) (sym same)
            (ap (value_at key) root_entries ∙ root_lacks key split.cell.page.high split.cell.number debt.page below another ∙ sym (ap (value_at key) no_entries))
        | inr elsewhere ↦ ap (λ (cells : List Cell). value_at key (entries_along cells)) (it.same_below (level + 1) (λ is_it. elsewhere (omega arith)))
      ]

      -- so the debts pass
      root_keys : KeysPass levels it.new (debt_of m) None
      root_keys = record {
        kept = λ level key is_high. record { cell = is_high.cell; stands = stands_still level is_high.cell is_high.stands; same_high = is_high.same_high };
        made = λ level key is_high below. elim (root_or_before level is_high.cell is_high.stands) [
          | inl is_root ↦ absurd (let top : is_high.cell.page.high ≡ GREATEST_KEY = ap (λ (c : Cell). c.page.high) is_root.1 in let same : is_high.cell.page.high ≡ key = is_high.same_high in omega arith)
          | inr was ↦ inl (record { cell = is_high.cell; stands = was; same_high = is_high.same_high })
        ];
        above = λ level key below differs. ap is_some (above_stays level key below differs);
        posted = λ level key is_it.
            let both : Some is_it.debt ≡ Some debt = sym is_it.owes ∙ owes in
            let same : is_it.debt ≡ debt = cc in
            let at : debt.level ≡ level = ap (λ (d : Debt). d.level) (sym same) ∙ is_it.same_level in
            let on : key ≡ split.cell.page.high = sym is_it.same_separator ∙ ap (λ (d : Debt). d.separator) same ∙ sym split.ends_at in
            let found : value_at key (entries_along (it.new (level + 1))) ≡ Some split.cell.number =
            subst (λ (l : ℕ). value_at key (entries_along (it.new (l + 1))) ≡ Some split.cell.number) at
            (ap (value_at key) root_entries ∙ root_has key split.cell.page.high split.cell.number debt.page on) in
            rw found refl;
        is_debt = λ d mine. absurd cc;
        is_new = λ d mine. absurd cc;
      }

      -- the new root is in a chain now
      root_unlinked : UnlinkedPasses old.pages new.pages levels it.new (unlinked_of m) None
      root_unlinked = record {
        placed = λ other page there. elim (cases_eq other root) [
          | inl same ↦ inl (record {
            level = debt.level + 1;
            cell = record { number = root; page = root_over (debt.level + 1) split.cell.page.high split.cell.number debt.page };
            stands = rw it.top_page (inl refl);
            same_number = sym same;
          })
          | inr differs ↦ inr (inr (page, (rw writes.same_pages at there), λ had. absurd (differs (let unlinked : unlinked_of m ≡ Some root = ap unlinked_at here in cc))))
        ];
        in_no_chain = λ other mine. absurd cc;
        linked = λ other in_chain. elim (root_or_before in_chain.level in_chain.cell in_chain.stands) [
          | inl is_root ↦ inr (ap unlinked_at here ∙ ap Some (ap (λ (c : Cell). c.number) (sym is_root.1) ∙ in_chain.same_number))
          | inr was ↦ inl (record { level = in_chain.level; cell = in_chain.cell; stands = was; same_number = in_chain.same_number })
        ];
        taken = λ other mine. absurd cc;
      }

      -- the new top level has one page
      root_top : SplitPasses old.prime new.prime levels it.new (split_of m) None
      root_top level leftmost top there long =
          let count : length new.prime ≡ length read + 1 = ap length writes.new_prime ∙ length-append read (root ∷ []) in
          let was : length read ≡ debt.level + 1 = asked.is_top.top in
          let at : level ≡ debt.level + 1 = omega arith in
          let one : length (it.new (debt.level + 1)) ≡ 1 = ap length it.top_page in
          let two : 2 ≤ length (it.new (debt.level + 1)) = subst (λ (l : ℕ). 2 ≤ length (it.new l)) at long in
          absurd (omega arith)

      -- no other writes the prime block: it would hold the same latch
      asked_by_one : (other : ℕ) (n : PlainMachine) (page : ℕ) (their : Debt) (prime : List ℕ) → other ≢ worker → old.machines other ≡ Some n → latch_of n ≡ Some page
          → HasAsked old page their prime → ⊥
      asked_by_one other n page their prime differs there latch theirs =
          let same_prime : prime ≡ read = theirs.same_prime ∙ sym asked.same_prime in
          let long : length prime ≡ their.level + 1 = theirs.is_top.top in
          let long_too : length prime ≡ debt.level + 1 = ap length same_prime ∙ asked.is_top.top in
          let at : their.level ≡ debt.level = omega arith in
          let leftmost : slice_get read debt.level ≡ Some page = subst (λ (l : ℕ). slice_get read l ≡ Some page) at (subst (λ (ns : List ℕ). slice_get ns their.level ≡ Some page) same_prime theirs.is_top.leftmost) in
          let mine : slice_get read debt.level ≡ Some number = asked.is_top.leftmost in
          let same : page ≡ number = cc in
          let held : old.holder page ≡ Some other = invariant.latches.by_state other page n there latch in
          let own : old.holder page ≡ Some worker = rw same (invariant.latches.by_state worker number m writes.here (ap latch_at here)) in
          differs cc

      -- so what others have is left alone
      root_alone : (other : ℕ) (n : PlainMachine) → other ≢ worker → old.machines other ≡ Some n → LeavesAlone old new levels it.new (latch_of n) (unlinked_of n)
      root_alone other n differs there = record {
        latched_there = λ page p its is_there. rw writes.same_pages is_there;
        latched_stands = λ page level c its stands same. stands_still level c stands;
        unlinked_there = λ page p its is_there. rw writes.same_pages is_there;
        has_asked = λ page their prime its theirs. absurd (asked_by_one other n page their prime differs there its theirs);
      }

      -- so the step keeps everything
      grown_has_invariant : HasAnswer m.answer → Turns old.machines new.machines worker m (at_state m (Leave number Finish)) → InvariantWith new it.new
      grown_has_invariant answered turn = step_has_invariant old new levels worker m (at_state m (Leave number Finish)) invariant turn it.new (record {
        same_fan = writes.same_fan;
        numbers_in_range = λ other page there. invariant.numbers_in_range other page (rw writes.same_pages at there);
        tree = rw (writes.new_prime, writes.same_pages, asked.same_prime) it.tree;
        grows = root_grows;
        debts = debts_pass levels it.new (debt_of m) None root_keys;
        unlinked = root_unlinked;
        split = root_top;
        latch = keeps_latch writes.same_holder (ap latch_at (sym here));
        placed = record { same_fan = placed.same_fan ∙ sym writes.same_fan; words = placed.words; at_its_state = answered };
        alone = root_alone;
      })

  -- a write of the prime block
  pub grow_has_invariant : Turns old.machines new.machines worker m (at_state m (Leave number Finish)) → Invariant new
  grow_has_invariant turn =
      let p = placed_at old levels m (NewPrime number debt root read) placed here in
      let it = laws.growth_keeps old.fan old.prime old.pages levels debt.level p.1.cell debt.page root invariant.lawful.tree (is_to_grow p.1 p.2 p.3) in
      (it.new, grown_has_invariant p.1 p.2 p.3 it p.0 turn)
