-- What an operation decides by a read, and that reads change nothing.
use Rattle.std.proofs.Common.{◌≡◌, ℕ, ◌+◌, ◌≤◌, Option, Some, None, List, refl, sym, ap, subst, ◌∙◌}
use Rattle.blink_operation.specs.declared.Entry.{Entry}
use Rattle.blink_operation.specs.declared.Op.{Op}
use Rattle.blink_operation.specs.declared.Op.TheVariants.{Find}
use Rattle.blink_operation.specs.{key_of, answer_at, map_at, pointer_of}
use Rattle.blink_page.specs.{value_at, PlainPage, IsKeyOf, least_above}
use Rattle.blink_rest.specs.Chain.{cell}
use Rattle.blink_rest.specs.{IsMember}
use Rattle.blink_machine.specs.declared.machine.Job.TheVariants.{Leaf}
use Rattle.blink_machine.specs.declared.machine.State.TheVariants.{Going, Held}
use Rattle.blink_machine.specs.TreeMap.{HasEntries}
use Rattle.blink_machine.specs.Machine.{PlainMachine, target, level_of}
use Rattle.blink_machine.specs.TreeState.{TreeState, IsItsOperation, Leaves}
use Rattle.blink_machine.specs.Placed.{PlacedAt, AnsweredInJob}
use Rattle.blink_machine.specs.Invariant.{InvariantWith}
use Rattle.blink_machine.specs.Table.{SeesPrime, SeesPage, SeesOnItsWay, SeesUnderLatch}
use Rattle.blink_machine.specs.Tree.{BeginsBelow}
use Rattle.blink_machine.specs.TreeWithDebts.{Levels}
use Rattle.blink_machine.proofs.tree_state.EntriesOfATree.{pointer_in_leaf, has_entries_left, decides_by, decides_nothing}
use Rattle.blink_machine.proofs.operation.OperationIsPlaced.{its_own, at_state}
use Rattle.blink_machine.specs.StepLaw.{Decides}
use Rattle.blink_machine.proofs.tree.TreeStatements.{TreeLaws}
use Rattle.blink_machine.proofs.operation.PageUnderLatch.{stands_here, of_level}
use Rattle.blink_machine.proofs.operation.ExpectedPointers.{expects-key, refused_unchanged}
use Rattle.blink_machine.proofs.operation.WhatJobsAreAbout.{target-leaf}

-- no read of the prime block decides
pub prime_read_decides : (new : TreeState) (m after : PlainMachine) (prime : List ℕ) (entries : List Entry) → SeesPrime m prime after → HasEntries new entries → Decides new m after entries
prime_read_decides new m after prime entries (SeesPrime.begins top is root same) keeps = decides_nothing new m after entries _ same refl keeps
prime_read_decides new m after prime entries (SeesPrime.asks_of_root page debt is top same) keeps = decides_nothing new m after entries _ same refl keeps
prime_read_decides new m after prime entries (SeesPrime.asks_of_other page debt is top same) keeps = decides_nothing new m after entries _ same refl keeps
prime_read_decides new m after prime entries (SeesPrime.finds_leftmost debt leftmost is job there same) keeps = decides_nothing new m after entries _ same refl keeps

-- an operation whose job is on a leaf has not answered at work
pub unanswered_on_leaf : (m : PlainMachine) → m.job ≡ Leaf → AnsweredInJob m.job m.answer → m.answer ≡ None
unanswered_on_leaf m leaf answered = subst (λ job. AnsweredInJob job m.answer) leaf answered

module _ (laws : TreeLaws) (old new : TreeState) (levels : Levels) (invariant : InvariantWith old levels) (left : Leaves old new) (worker : ℕ) (m after : PlainMachine) (entries : List Entry) (kept : HasEntries old entries)
    (number : ℕ) (page : PlainPage) (there : old.pages number ≡ Some page) where
  -- a read leaves the tree's entries
  keeps : HasEntries new entries
  keeps = has_entries_left old new entries left kept

  -- where the page that it stands at is a leaf that its key belongs to, the map maps the key as the leaf does
  pointer_here : (op : Op) (level : ℕ) → level ≡ 0 → m.job ≡ Leaf → m.op ≡ op → BeginsBelow (levels level) number (target m) → target m ≤ page.high
      → pointer_of entries (key_of op) ≡ value_at (key_of op) page.entries
  pointer_here op level bottom leaf is begins inside =
      let own = target-leaf m op leaf is in
      let stands = stands_here laws old levels invariant number level (target m) page begins there in
      let begins_there = of_level laws old levels invariant level begins.cell begins.stands in
      let same : begins.cell.page ≡ page = cc (begins_there.there, there, ap old.pages begins.same_number) in
      let above : least_above page.floor ≤ target m = subst (λ (p : PlainPage). least_above p.floor ≤ target m) same begins.floor_below in
      pointer_in_leaf old.fan old.prime old.pages levels invariant.lawful.tree laws entries (key_of op) (cell number page) kept
      (subst (λ l. IsMember (cell number page) (levels l)) bottom stands)
      (subst (IsKeyOf page) own (above, inside))

  -- a find decides at a leaf
  find_decides : (level key : ℕ) → PlacedAt old levels m (Going number level) → target m ≤ page.high → page.level ≡ 0 → m.op ≡ Find key → after.answer ≡ Some (answer_at (Find key) (value_at key page.entries))
      → Decides new m after entries
  find_decides level key placed inside leaf is answer =
      let stands = stands_here laws old levels invariant number level (target m) page placed.1.begins there in
      let bottom : level ≡ 0 = sym (of_level laws old levels invariant level (cell number page) stands).has_level ∙ leaf in
      decides_by new m after entries (Find key) (value_at key page.entries) is (pointer_here (Find key) level bottom placed.0 is placed.1.begins inside) placed.2 answer keeps

  -- no other read on the way down does
  way_read_decides : (level : ℕ) → m.state ≡ Going number level → PlacedAt old levels m (Going number level) → SeesOnItsWay m number page after → Decides new m after entries
  way_read_decides level is placed (SeesOnItsWay.goes_right there_level next going leads same) = decides_nothing new m after entries _ same refl keeps
  way_read_decides level is placed (SeesOnItsWay.goes_down there_level child going leads same) = decides_nothing new m after entries _ same refl keeps
  way_read_decides level is placed (SeesOnItsWay.find_answers there_level key going leads op same) = find_decides level key placed leads.0 leads.1 op (ap (λ (x : PlainMachine). x.answer) same)
  way_read_decides level is placed (SeesOnItsWay.update_wants there_level going leads is_update same) = decides_nothing new m after entries _ same refl keeps

  -- an update that finds its answer under the latch
  held_decides : (op : Op) (found : Option ℕ) → PlacedAt old levels m (Held number) → target m ≤ page.high → m.job ≡ Leaf → m.op ≡ op → value_at (key_of op) page.entries ≡ found
      → after.answer ≡ Some (answer_at op found) → map_at op found entries ≡ entries → Decides new m after entries
  held_decides op found placed inside leaf is finds answer unchanged =
      decides_by new m after entries op found is (pointer_here op (level_of m.job) (ap level_of leaf) leaf is placed.0.stands_at.begins inside ∙ finds) (unanswered_on_leaf m leaf placed.1) answer
      (subst (HasEntries new) (sym unchanged) keeps)

  -- and no other read under a latch decides
  latched_read_decides : PlacedAt old levels m (Held number) → SeesUnderLatch m number page after → Decides new m after entries
  latched_read_decides placed (SeesUnderLatch.is_above_high_key next above right same) = decides_nothing new m after entries _ same refl keeps
  latched_read_decides placed (SeesUnderLatch.insertion_finds_key key pointer found inside leaf op finds same) =
      held_decides _ (Some found) placed inside leaf op finds (ap (λ (x : PlainMachine). x.answer) same) refl
  latched_read_decides placed (SeesUnderLatch.deletion_finds_none key inside leaf op finds same) =
      held_decides _ None placed inside leaf op finds (ap (λ (x : PlainMachine). x.answer) same) refl
  latched_read_decides placed (SeesUnderLatch.replacement_finds_none key pointer inside leaf op finds same) =
      held_decides _ None placed inside leaf op finds (ap (λ (x : PlainMachine). x.answer) same) refl
  latched_read_decides placed (SeesUnderLatch.finds_other_pointer key expected inside leaf op differs same) =
      held_decides m.op (value_at key page.entries) placed inside leaf refl (ap (λ k. value_at k page.entries) (expects-key m.op key expected op))
      (ap (λ (x : PlainMachine). x.answer) same)
      (refused_unchanged m.op key expected entries (value_at key page.entries) op differs)
  latched_read_decides placed (SeesUnderLatch.posting_finds_separator debt child inside job finds same) = decides_nothing new m after entries _ same refl keeps
  latched_read_decides placed (SeesUnderLatch.is_to_change changed found inside change same) = decides_nothing new m after entries _ same refl keeps
  latched_read_decides placed (SeesUnderLatch.is_to_split inside full same) = decides_nothing new m after entries _ same refl keeps

  -- who reads on its way down is at Going
  going_is : SeesOnItsWay m number page after → (level : ℕ) × (m.state ≡ Going number level)
  going_is (SeesOnItsWay.goes_right level next going leads same) = (level, going)
  going_is (SeesOnItsWay.goes_down level child going leads same) = (level + 1, going)
  going_is (SeesOnItsWay.find_answers level key going leads op same) = (level, going)
  going_is (SeesOnItsWay.update_wants level going leads is_update same) = (level, going)

  -- every read of a page
  pub page_read_decides : IsItsOperation old worker m → SeesPage m number page after → Decides new m after entries
  page_read_decides its (SeesPage.on_its_way sees) =
      let going = going_is sees in
      let under = its_own old levels invariant worker m its (λ start. cc (start, going.1)) in
      way_read_decides going.0 going.1 (at_state old levels invariant worker m (Going number going.0) under going.1) sees
  page_read_decides its (SeesPage.under_latch held sees) =
      let under = its_own old levels invariant worker m its (λ start. cc (start, held)) in
      latched_read_decides (at_state old levels invariant worker m (Held number) under held) sees
