-- `into_handle` moves two fields of a full slot, and what they own goes with them.
use Rattle.std.proofs.Common.{◌≡◌, ◌∙◌, List, [], ◌∷◌, ◌++◌, refl, sym, ap, subst}
use Rattle.std.specs.Prelude.{Option, None, Some, IsSome}
use seplogic.Ra.Ura.{Ura}
use mir.Syntax.{Fn, Callee, local, value_local, place, field, copy, rv_opd, aggregate, seq, assign, return, ty_ptr}
use mir.Val.{Val}
use base.Logic.{SProp, ent, id⊢}
use base.Fml.{Fml, ftrue, fsep}
use prog.Wp.{WpFn, Closed}
use prog.Model.{Model}
use types.Logic.{Logic}
use types.Kit.{‵, raw, ◌⊛◌, ◌$◌, ◌∵◌, !, qed, move, drop, join, split, rewrite, fsplit, fjoin, suffices, done}
use types.Part.{whole, sub, agg}
use types.Run.{stop, fld, no_more, and_then, of_opd, returns, enter}
use types.ByLocal.{alloc_all, pass_all, free_all, look_at, get, get_in, sets}
use contract.Monad.{fact}
use contract.Running.{Running, tables}
use denote.Exit.{yes}
use denote.Param.{layout}
use denote.Signature.{Slot, plain}
use denote.Steps.{nothing, heard}
use denote.Triple.Clauses.{Ended, Clauses, closing}
use denote.Triple.Spec.{Meets}
use denote.Triple.Walked.{says, Stays, stay_dropped, walk_of, ends_at, Goes-dropped}
use Rattle.std.proofs.BoxSteps.Form.{Bx, D, B, word, box_typed}
use Rattle.std.proofs.BoxSteps.Steps.{box_out, box_in}
use Rattle.std.proofs.raw_atomic.Walks.{proved_at}
use Rattle.std.specs.contracts.alloc.Global as Heap
use Rattle.blink_c.proofs.HandleKind.{Kind, SlotOf, TakesFrom, box_of, slot_row, handle_ty}

-- a full slot has a value
value_of : {X : Type 0} (o : Option X) → IsSome o → (x : X) × (o ≡ Some x)
value_of None full = absurd (cc)
value_of (Some x) full = (x, refl)

module _ (K : Kind) (S : SlotOf K) (U : TakesFrom K S) where
  abbrev E : Bx
  E = box_of K

  abbrev From : Slot 0
  From = plain (λ _. slot_row S)

  -- its code
  abbrev fn : Fn
  fn = record {
    lifetimes = 0;
    outlives = [];
    ty_params = [];
    givens = 0;
    params = 1;
    locals = local (handle_ty K.name) value_local ∷ local (handle_ty S.name) value_local ∷ local ty_ptr value_local ∷ local (layout Heap.the_row) value_local ∷ [];
    body = seq (assign (place 2 []) (rv_opd (copy (place 1 (field 0 ∷ [])))))
        (seq (assign (place 3 []) (rv_opd (copy (place 1 (field 1 ∷ [])))))
        (seq (assign (place 0 []) (aggregate (copy (place 2 []) ∷ copy (place 3 []) ∷ []))) return));
  }

  -- its contract
  abbrev ended : Ended
  ended = record { signature = record { lifetimes = 0; outlives = []; params = From ∷ []; result = plain (λ _. K.Handle) }; kept = (yes, tt) }

  abbrev stayed : Stays ended.signature.params ended.kept
  stayed = (stay_dropped From yes, tt)

  abbrev clauses : {M : Type 1} {𝓤 : Ura M} (𝓛 : Logic 𝓤) → Clauses 𝓤 ended
  clauses {𝓤 = 𝓤} 𝓛 κs a = record { ghost = Unit {0}; requires = λ _. fact 𝓤 (IsSome (S.value a.0)); ensures = λ _ r _. fact 𝓤 (S.value a.0 ≡ Some (K.as_box r).value) }

  module _ {M : Type 1} {𝓤 : Ura M} (𝓛 : Logic 𝓤) where
    open 𝓛 use {H}

    module _ (𝓜 : Model 𝓤 H) (𝓡 : Running 𝓤 H 𝓜) where
      pub hands : (name : Callee) → Closed 𝓤 H (tables 𝓤 H 𝓜 𝓡 𝓡.env).C (tables 𝓤 H 𝓜 𝓡 𝓡.env).Λ name fn → Meets 𝓛 ended.signature ((tables 𝓤 H 𝓜 𝓡 𝓡.env).C name) (closing 𝓛 ended (clauses 𝓛))
      hands name closed =
          let 𝓣 = tables 𝓤 H 𝓜 𝓡 𝓡.env in let c = clauses 𝓛 in
          proved_at 𝓛 ended stayed c 𝓜 𝓡 (Goes-dropped 𝓛 0 From yes (λ κs x w. refl), tt) name fn closed (λ z are.
          let s = z.0.3.0 in
          let Post : Val → SProp 𝓤 = (walk_of 𝓛 ended stayed c).post z in let Run : List Val → SProp 𝓤 = λ us. WpFn 𝓤 H 𝓣.C 𝓣.Λ fn us Post in
          qed 𝓛 ((‵ ftrue ⊛ ‵ (fsep (S.Slot.own_val s z.0.4.0) ftrue)) ∷ raw (fact 𝓤 (IsSome (S.value s))) ∷ []) ∵ move ! (1 ∷ []) $ heard ! (IsSome (S.value s)) (λ some. split ! $ drop ! $ fsplit ! $
          let there = value_of (S.value s) some in let d : D E = U.box_in s there.0 in let made = U.handle d in
          rewrite ! 0 (λ (F : Fml). ‵ F) (U.owns_full s there.0 z.0.4.0 there.1) refl $
          box_out E ! d z.0.4.0 (λ b o hv e ws fits. let w = word E hv b o in
          box_in E ! d b o d.value e refl $ rewrite ! 0 (λ (x : D E). ‵ ((B E).own_val x (w ∷ []))) (sym (U.handle_is d)) refl $
          rewrite ! 0 (λ (F : Fml). ‵ F) (sym (K.owns_box made (w ∷ []))) refl $ move ! (1 ∷ []) $ drop ! $
          suffices ! (Run (w ∷ [])) (subst (λ (us : List Val). ent 𝓤 (Run (w ∷ [])) (Run us)) (sym (λ i. ws i ++ [])) (id⊢ 𝓤 (Run (w ∷ [])))) $
          enter ! 𝓣.C 𝓣.Λ fn (w ∷ []) Post $ alloc_all ! (λ l. pass_all ! refl (box_typed E hv b o fits, tt) $
          sets ! (of_opd ! (get_in ! (fld ! refl (stop !)) (sub ! 0 refl (whole !)))) refl (tt, tt) $ sets ! (of_opd ! (get_in ! (fld ! refl (stop !)) (sub ! 1 refl (whole !)))) refl fits $
          sets ! (agg ! (and_then ! (get ! refl) (and_then ! (get ! refl) (no_more !)))) refl (box_typed E hv b o fits) $ returns ! (look_at ! 0 refl) $ free_all ! refl $
          suffices ! _ (ends_at 𝓛 ended stayed c z w made (tt, tt) (tt, tt)) $ says ! (there.1 ∙ ap Some (sym (U.value_in s there.0) ∙ ap (λ (x : D E). x.value) (sym (U.handle_is d)))) $
          nothing ! $ nothing ! $ fjoin ! $ join ! $ nothing ! $ join ! $ done !))))
