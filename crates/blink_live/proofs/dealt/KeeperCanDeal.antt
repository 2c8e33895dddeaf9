-- A keeper with allowance can deal keys that it hasn't dealt.
use Rattle.std.proofs.Common.{◌⊎◌, ◌↔◌, ℕ, ◌+◌, ◌*◌, ◌≤◌, Some, List, sym, ap, ◌∙◌, subst, inl, inr, ⊎_elim, arith}
use Rattle.std.specs.Prelude.{Contains}
use Rattle.std.specs.List.Sorted.{IsPermutation}
use Rattle.std.proofs.lemmas.List.{get_or_default}
use Rattle.std.proofs.lemmas.List.Sorted.{Contains-permutation, IsPermutation-sym}
use native.Mathlib.Decide.{dec_le}
use Rattle.blink_page.specs.declared.limits.TheConstants.{MAX_NEW_PAGES_PER_INSERT}
use Rattle.blink_rows.specs.declared.span.Span.{Span}
use Rattle.blink_live.specs.declared.live.Keeper.{Keeper}
use Rattle.blink_live.specs.Allowed.{inserts_left, deletes_left}
use Rattle.blink_live.specs.Dealing.{CanDeal}
use Rattle.blink_live.specs.Deals.{NoneIsTaken, LacksAllowance, rows_for}
use Rattle.blink_live.specs.Handles.{taken_of}
use Rattle.blink_live.proofs.dealt.ChangesLeft.{enough_pages, enough_rows}
use Rattle.blink_live.proofs.dealt.KeysMet.{at_place}

pub enough_inserts : (keeper : Keeper) (inserts deletes : ℕ) → ¬ LacksAllowance keeper inserts deletes → inserts ≤ inserts_left keeper.pages
enough_inserts keeper inserts deletes allowed = elim (dec_le inserts (inserts_left keeper.pages)) [ yes le ↦ le | no more ↦ absurd (allowed (inl (omega (arith, more)))) ]

pub enough_deletes : (keeper : Keeper) (inserts deletes : ℕ) → ¬ LacksAllowance keeper inserts deletes → deletes ≤ deletes_left keeper.pages keeper.rows
enough_deletes keeper inserts deletes allowed = elim (dec_le deletes (deletes_left keeper.pages keeper.rows)) [ yes le ↦ le | no more ↦ absurd (allowed (inr (inl (omega (arith, more))))) ]

not_taken : (taken keys : List ℕ) → NoneIsTaken taken keys → (key : ℕ) → Contains keys key → ¬ Contains taken key
not_taken taken keys none key has was = none has.0 key record {
  at = at_place keys has.0 has.1 ∙ ap Some (get_or_default keys has.0 0 key has.1 ∙ has.2);
  again = inl was;
}

module _ (keeper : Keeper) (keys others taken_now : List ℕ) (inserts deletes : ℕ) (moved : IsPermutation keys others)
    (none : NoneIsTaken (taken_of keeper) keys) (allowed : ¬ LacksAllowance keeper inserts deletes)
    (taken : (key : ℕ) → Contains taken_now key ↔ (Contains (taken_of keeper) key ⊎ Contains keys key)) where
  there : (key : ℕ) → Contains others key → Contains keys key
  there key has = Contains-permutation others keys key (IsPermutation-sym keys others moved) has

  taken_by_view : (key : ℕ) → Contains taken_now key ↔ (Contains keeper.seat.me.0.taken key ⊎ Contains others key)
  taken_by_view key = (
    λ has. ⊎_elim (λ (was : Contains (taken_of keeper) key). inl (subst (λ (l : List ℕ). Contains l key) keeper.taken_are was))
        (λ (new : Contains keys key). inr (Contains-permutation keys others key moved new)) ((taken key).0 has),
    λ either. (taken key).1 (⊎_elim (λ (was : Contains keeper.seat.me.0.taken key). inl (subst (λ (l : List ℕ). Contains l key) (sym keeper.taken_are) was))
        (λ (new : Contains others key). inr (there key new)) either),
  )

  pub keeper_can_deal : CanDeal keeper.seat.me.0 (rows_for inserts deletes) (MAX_NEW_PAGES_PER_INSERT * inserts) others taken_now
  keeper_can_deal =
      let few_inserts = enough_inserts keeper inserts deletes allowed in
      let few_deletes = enough_deletes keeper inserts deletes allowed in
      let rows = enough_rows keeper.pages keeper.rows inserts deletes keeper.for_changes few_inserts few_deletes keeper.in_order.0 in
      let pages = enough_pages keeper.pages keeper.rows inserts deletes keeper.for_changes few_inserts few_deletes keeper.in_order.1 in
      record {
        dealt = keeper.dealt;
        back = keeper.back;
        role = keeper.role_is;
        owned = λ key has. keeper.owned;
        place_left = λ common. absurd (let none = keeper.owned in omega (arith, none, common));
        enough_rows = subst (λ (s : Span). s.next + rows_for inserts deletes ≤ s.stop) keeper.rows_are rows;
        enough_pages = subst (λ (s : Span). s.next + MAX_NEW_PAGES_PER_INSERT * inserts ≤ s.stop) keeper.pages_are pages;
        free_keys = λ key has was. not_taken (taken_of keeper) keys none key (there key has) (subst (λ (l : List ℕ). Contains l key) (sym keeper.taken_are) was);
        taken_now = taken_by_view;
      }
