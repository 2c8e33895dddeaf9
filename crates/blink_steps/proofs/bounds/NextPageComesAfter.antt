-- The page that an operation goes to comes after those that it has met.
use Rattle.std.proofs.Common.{◌≡◌, ℕ, ◌+◌, ◌<◌, ◌≤◌, Some, List, ◌∷◌, slice_get, ap, ◌∙◌, arith}
use Rattle.blink_page.specs.{child_for, PlainPage, least_above}
use Rattle.blink_rest.specs.{Pages}
use Rattle.blink_rest.specs.Chain.{Cell}
use Rattle.blink_machine.specs.{PlainMachine, target, StandsAt, BeginsFurther, InvariantWith, Levels}
use Rattle.blink_machine.specs.TreeState.{TreeState}
use Rattle.blink_steps.proofs.bounds.MetPages.{ArePagesWith, ComesAfter, IsPassed, IsBelow, IsUpTo, IsNotAbove, pages_wider}
use Rattle.blink_machine.proofs.Offered.{TreeLaws, IsOnLevel, stands_on, page_of_cell, belongs_here}

module _ (laws : TreeLaws) (tree_state : TreeState) (levels : Levels) (invariant : InvariantWith tree_state levels) where
  -- the leftmost page of a level is on it
  pub leftmost_on : (level leftmost : ℕ) → slice_get tree_state.prime level ≡ Some leftmost → IsOnLevel tree_state.pages leftmost level
  leftmost_on level leftmost there =
      let it = laws.leftmost_begins tree_state.fan tree_state.prime tree_state.pages levels level leftmost invariant.lawful.tree there in
      stands_on laws tree_state levels invariant level leftmost it.cell it.stands it.same_number

  -- a child is on the level below
  pub child_is_lower : (m : PlainMachine) (level number : ℕ) (page : PlainPage) (child : ℕ) → tree_state.pages number ≡ Some page → StandsAt levels m (level + 1) number
      → target m ≤ page.high → child_for (target m) page.entries ≡ Some child → IsOnLevel tree_state.pages child level
  child_is_lower m level number page child there stands_at below leads =
      let c : Cell = stands_at.begins.cell in
      let same : c.page ≡ page = page_of_cell laws tree_state levels invariant (level + 1) number c page stands_at.begins.stands stands_at.begins.same_number there in
      let it = laws.children_begin tree_state.fan tree_state.prime tree_state.pages levels level child (target m) c invariant.lawful.tree stands_at.begins.stands
      (rw same (belongs_here laws tree_state levels invariant m (level + 1) number page there stands_at below)) (ap (λ (p : PlainPage). child_for (target m) p.entries) same ∙ leads) in
      stands_on laws tree_state levels invariant level child it.begins.cell it.begins.stands it.begins.same_number

module _ (pages : Pages) (number : ℕ) (page : PlainPage) (there : pages number ≡ Some page) where
  -- the page that comes after others is this one
  same_page : (order : ℕ → ℕ → ℕ → ℕ → Type 0) (before : List ℕ) → (comes : ComesAfter pages order number before) → comes.page ≡ page
  same_page order before comes = let also = comes.there in cc

  -- so the others stand as the order says
  stand_so : (order : ℕ → ℕ → ℕ → ℕ → Type 0) (before : List ℕ) → ComesAfter pages order number before → ArePagesWith pages (order page.level (least_above page.floor)) before
  stand_so order before comes = rw (same_page order before comes) at comes.all_before

  -- on the way down its right neighbour comes after it, and after those before it
  pub passed_right : (next : ℕ) (before : List ℕ) → ComesAfter pages IsPassed number before → BeginsFurther pages next page.level (least_above page.floor)
      → ComesAfter pages IsPassed next (number ∷ before)
  passed_right next before comes it =
      let has_level = it.has_level in
      let further = it.further in
      record {
        page = it.page;
        there = it.there;
        all_before = (
          record { page = page; there = there; is_so = (omega arith, λ same. further) },
          pages_wider pages (IsPassed page.level (least_above page.floor)) (IsPassed it.page.level (least_above it.page.floor)) before
              (λ level least passed. let above : page.level ≤ level = passed.0 in let first = passed.1 in (omega arith, λ same. omega (arith, first (omega arith))))
              (stand_so IsPassed before comes),
        );
      }

  -- and so does a child
  pub passed_down : (child level : ℕ) (before : List ℕ) → page.level ≡ level + 1 → ComesAfter pages IsPassed number before → IsOnLevel pages child level
      → ComesAfter pages IsPassed child (number ∷ before)
  passed_down child level before is_above comes it =
      let has_level = it.has_level in
      record {
        page = it.page;
        there = it.there;
        all_before = (
          record { page = page; there = there; is_so = (omega arith, λ same. absurd (omega arith)) },
          pages_wider pages (IsPassed page.level (least_above page.floor)) (IsPassed it.page.level (least_above it.page.floor)) before
              (λ level least passed. let above : page.level ≤ level = passed.0 in (omega arith, λ same. absurd (omega arith)))
              (stand_so IsPassed before comes),
        );
      }

  -- with latches its right neighbour comes after it, and after those up to it
  pub below_right : (next : ℕ) (before : List ℕ) → ComesAfter pages IsUpTo number before → BeginsFurther pages next page.level (least_above page.floor)
      → ComesAfter pages IsBelow next before
  below_right next before comes it =
      let has_level = it.has_level in
      let further = it.further in
      record {
        page = it.page;
        there = it.there;
        all_before = pages_wider pages (IsUpTo page.level (least_above page.floor)) (IsBelow it.page.level (least_above it.page.floor)) before
            (λ level least upto. let under : level ≤ page.level = upto.0 in let first = upto.1 in (omega arith, λ same. omega (arith, first (omega arith))))
            (stand_so IsUpTo before comes);
      }

  -- those up to it are not above its level
  pub not_above : (level : ℕ) (before : List ℕ) → page.level ≡ level → ComesAfter pages IsUpTo number before → ArePagesWith pages (IsNotAbove level) before
  not_above level before has_level comes =
      pages_wider pages (IsUpTo page.level (least_above page.floor)) (IsNotAbove level) before (λ other least upto. let under : other ≤ page.level = upto.0 in omega arith)
      (stand_so IsUpTo before comes)

-- once it is latched a page is among those up to itself
pub latched_up_to : (pages : Pages) (number : ℕ) (before : List ℕ) → ComesAfter pages IsBelow number before → ComesAfter pages IsUpTo number (number ∷ before)
latched_up_to pages number before comes = record {
  page = comes.page;
  there = comes.there;
  all_before = (
    record { page = comes.page; there = comes.there; is_so = (omega arith, λ same. omega arith) },
    pages_wider pages (IsBelow comes.page.level (least_above comes.page.floor)) (IsUpTo comes.page.level (least_above comes.page.floor)) before
        (λ level least below. let under : level ≤ comes.page.level = below.0 in let first = below.1 in (under, λ same. omega (arith, first same)))
        comes.all_before,
  );
}

-- a page comes after those that are on levels below its own
pub comes_after_lower : (pages : Pages) (number level top : ℕ) (before : List ℕ) → IsOnLevel pages number level → top < level → ArePagesWith pages (IsNotAbove top) before
    → ComesAfter pages IsBelow number before
comes_after_lower pages number level top before it lower are =
    let has_level = it.has_level in
    record {
      page = it.page;
      there = it.there;
      all_before = pages_wider pages (IsNotAbove top) (IsBelow it.page.level (least_above it.page.floor)) before
          (λ other least under. (omega arith, λ same. absurd (omega arith))) are;
    }
