-- How latches pass from one tree state to the next.
use Rattle.std.proofs.Common.{◌≡◌, ◌≢◌, ℕ, inl, inr, Some, None, refl, sym, ap, ◌∙◌}
use Rattle.std.proofs.lemmas.Bool.{cases_eq}
use Rattle.blink_machine.specs.declared.machine.State.TheVariants.{Start, Ended}
use Rattle.blink_machine.specs.Machine.{PlainMachine}
use Rattle.blink_machine.specs.TreeState.{TreeState}
use Rattle.blink_machine.specs.Owned.{latch_of, latch_at, LatchesAreHeld}
use Rattle.blink_machine.proofs.tree_state.WhatMayPass.{LatchesPass, keeps_latch, gets_latch, lets_go}
use Rattle.blink_machine.proofs.tree_state.WhoseOperation.{Turns, was_other, is_other, had_under_way, has_under_way, had_by, has_by}

module _ (old new : TreeState) (worker : ℕ) (m after : PlainMachine) (turn : Turns old.machines new.machines worker m after) (latches : LatchesAreHeld old) where
  -- the latch that the operation had the worker held
  held_by_it : (page : ℕ) → latch_of m ≡ Some page → old.holder page ≡ Some worker
  held_by_it page latch =
      latches.by_state worker page m (had_under_way old.machines new.machines worker m after turn latch_of page (λ (starts : m.state ≡ Start). ap latch_at starts) latch) latch

  -- and the latch that the worker held the operation had
  its_latch : (page : ℕ) → old.holder page ≡ Some worker → latch_of m ≡ Some page
  its_latch page held = let was = latches.by_holder worker page held in had_by old.machines new.machines worker m after turn latch_of page worker was.0 refl was.1 was.2

  -- a worker holds what its operation says
  by_state_of : ((page : ℕ) → latch_of after ≡ Some page → new.holder page ≡ Some worker)
      → ((other page : ℕ) → other ≢ worker → old.holder page ≡ Some other → new.holder page ≡ Some other)
      → (other page : ℕ) (n : PlainMachine) → new.machines other ≡ Some n → latch_of n ≡ Some page → new.holder page ≡ Some other
  by_state_of its others other page n here latch = elim (cases_eq other worker) [
    | inl same ↦ its page (has_by old.machines new.machines worker m after turn latch_of page other n same here latch) ∙ ap Some (sym same)
    | inr differs ↦ others other page differs (latches.by_state other page n (was_other old.machines new.machines worker m after turn other n differs here) latch)
  ]

  -- and its operation says what it holds
  by_holder_of : ((page : ℕ) → new.holder page ≡ Some worker → latch_of after ≡ Some page)
      → ((other page : ℕ) → other ≢ worker → new.holder page ≡ Some other → old.holder page ≡ Some other)
      → (other page : ℕ) → new.holder page ≡ Some other → (n : PlainMachine) × (new.machines other ≡ Some n) × (latch_of n ≡ Some page)
  by_holder_of its others other page held = elim (cases_eq other worker) [
    | inl same ↦
        let latch : latch_of after ≡ Some page = its page (held ∙ ap Some same) in
        (after, ap new.machines same ∙ has_under_way old.machines new.machines worker m after turn latch_of page (λ (ends : after.state ≡ Ended). ap latch_at ends) latch, latch)
    | inr differs ↦
        let was = latches.by_holder other page (others other page differs held) in
        (was.0, is_other old.machines new.machines worker m after turn other was.0 differs was.1, was.2)
  ]

  -- so latches are held as they have to be
  pub LatchesAreHeld-passes : LatchesPass old.holder new.holder worker (latch_of m) (latch_of after) → LatchesAreHeld new
  LatchesAreHeld-passes (keeps_latch same kept) = record {
    by_state = by_state_of
        (λ page latch. rw same (held_by_it page (sym kept ∙ latch)))
        (λ other page differs held. rw same held);
    by_holder = by_holder_of
        (λ page held. kept ∙ its_latch page (rw same at held))
        (λ other page differs held. rw same at held);
  }
  LatchesAreHeld-passes (gets_latch page none gets free passes) = record {
    by_state = by_state_of
        (λ p latch. let same : p ≡ page = cc in rw same passes.changed)
        (λ other p differs held. elim (cases_eq p page) [
          | inl same ↦ let was : old.holder p ≡ None = rw same free in absurd cc
          | inr other_page ↦ passes.others p other_page ∙ held
        ]);
    by_holder = by_holder_of
        (λ p held. elim (cases_eq p page) [
          | inl same ↦ rw same gets
          | inr other_page ↦ let mine = its_latch p (sym (passes.others p other_page) ∙ held) in absurd cc
        ])
        (λ other p differs held. elim (cases_eq p page) [
          | inl same ↦ absurd (differs (let is_its : new.holder p ≡ Some worker = rw same passes.changed in cc))
          | inr other_page ↦ sym (passes.others p other_page) ∙ held
        ]);
  }
  LatchesAreHeld-passes (lets_go page had none passes) = record {
    by_state = by_state_of
        (λ p latch. absurd cc)
        (λ other p differs held. elim (cases_eq p page) [
          | inl same ↦ absurd (differs (let is_its : old.holder p ≡ Some worker = rw same (held_by_it page had) in cc))
          | inr other_page ↦ passes.others p other_page ∙ held
        ]);
    by_holder = by_holder_of
        (λ p held. elim (cases_eq p page) [
          | inl same ↦ let free : new.holder p ≡ None = rw same passes.changed in absurd cc
          | inr other_page ↦ absurd (other_page (let mine : latch_of m ≡ Some p = its_latch p (sym (passes.others p other_page) ∙ held) in cc))
        ])
        (λ other p differs held. elim (cases_eq p page) [
          | inl same ↦ let free : new.holder p ≡ None = rw same passes.changed in absurd cc
          | inr other_page ↦ sym (passes.others p other_page) ∙ held
        ]);
  }
