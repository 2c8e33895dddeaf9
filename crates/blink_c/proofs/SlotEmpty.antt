-- `empty` puts a null pointer beside the heap, and owns nothing there.
use Rattle.std.proofs.Common.{◌≡◌, List, [], ◌∷◌, ◌++◌, refl, sym, subst}
use Rattle.std.specs.Prelude.{None}
use lib.Dec.{lit<}
use seplogic.Ra.Ura.{Ura}
use mir.Syntax.{Fn, Callee, local, value_local, place, copy, aggregate, int, w64, seq, assign, return}
use mir.Val.{Val, vstruct, vnull, vnil, vcons, has_ty}
use base.Logic.{SProp, ent, emp, id⊢}
use base.Fml.{Fml, ftrue, fsep}
use prog.Wp.{WpFn, Closed}
use prog.Model.{Model}
use types.Logic.{Logic}
use types.Kit.{‵, raw, ◌⊛◌, ◌$◌, ◌∵◌, !, qed, move, keep, join, split, drop, rewrite, use1, fsplit, fjoin, fpack, feq_i, suffices, done}
use types.Part.{agg}
use types.Run.{lit, no_more, and_then, returns, enter}
use types.ByLocal.{alloc_all, pass_all, free_all, look_at, get, sets}
use contract.Monad.{fact}
use contract.Running.{Running, tables}
use denote.Exit.{yes}
use denote.Param.{layout}
use denote.RattleType.{Valss}
use denote.RawPtr.{RawPtr, null_ptr}
use denote.Struct.Owning.{shape}
use denote.Struct.Struct.{Struct, within}
use denote.Signature.{Slot, plain}
use denote.Steps.{nothing}
use denote.Triple.Clauses.{Ended, Clauses, closing}
use denote.Triple.Spec.{Meets}
use denote.Triple.Walked.{says, Stays, stay_dropped, walk_of, ends_at, Goes-dropped}
use Rattle.std.proofs.alloc.Calls.{α, handle_tells}
use Rattle.std.proofs.ResultValues.{and_tt}
use Rattle.std.proofs.BoxSteps.Form.{Bx, P, owning}
use Rattle.std.proofs.raw_atomic.Walks.{proved_at}
use Rattle.std.specs.contracts.alloc.Global as Heap
use Rattle.blink_c.proofs.HandleKind.{Kind, SlotOf, TakesFrom, box_of, handle_ty}

-- an empty slot at the machine
abbrev word : Val → Val
word hv = vstruct (vcons vnull (vcons hv vnil))

module _ (K : Kind) (S : SlotOf K) (U : TakesFrom K S) where
  abbrev E : Bx
  E = box_of K

  abbrev From : Slot 0
  From = plain (λ _. Heap.the_row)

  -- its code
  abbrev fn : Fn
  fn = record {
    lifetimes = 0;
    outlives = [];
    ty_params = [];
    givens = 0;
    params = 1;
    locals = local (handle_ty S.name) value_local ∷ local (layout Heap.the_row) value_local ∷ [];
    body = seq (assign (place 0 []) (aggregate (int w64 0 ∷ copy (place 1 []) ∷ []))) return;
  }

  -- its contract
  abbrev ended : Ended
  ended = record { signature = record { lifetimes = 0; outlives = []; params = From ∷ []; result = plain (λ _. S.Slot) }; kept = (yes, tt) }

  abbrev stayed : Stays ended.signature.params ended.kept
  stayed = (stay_dropped From yes, tt)

  abbrev clauses : {M : Type 1} {𝓤 : Ura M} (𝓛 : Logic 𝓤) → Clauses 𝓤 ended
  clauses {𝓤 = 𝓤} 𝓛 κs a = record { ghost = Unit {0}; requires = λ _. emp 𝓤; ensures = λ _ r _. fact 𝓤 (S.value r ≡ None) }

  module _ {M : Type 1} {𝓤 : Ura M} (𝓛 : Logic 𝓤) where
    open 𝓛 use {H}

    module _ (𝓜 : Model 𝓤 H) (𝓡 : Running 𝓤 H 𝓜) where
      pub empties : (name : Callee) → Closed 𝓤 H (tables 𝓤 H 𝓜 𝓡 𝓡.env).C (tables 𝓤 H 𝓜 𝓡 𝓡.env).Λ name fn → Meets 𝓛 ended.signature ((tables 𝓤 H 𝓜 𝓡 𝓡.env).C name) (closing 𝓛 ended (clauses 𝓛))
      empties name closed =
          let 𝓣 = tables 𝓤 H 𝓜 𝓡 𝓡.env in let c = clauses 𝓛 in
          proved_at 𝓛 ended stayed c 𝓜 𝓡 (Goes-dropped 𝓛 0 From yes (λ κs x w. refl), tt) name fn closed (λ z are.
          let a = z.0.3.0 in let made = U.empty a in
          let Post : Val → SProp 𝓤 = (walk_of 𝓛 ended stayed c).post z in let Run : List Val → SProp 𝓤 = λ us. WpFn 𝓤 H 𝓣.C 𝓣.Λ fn us Post in
          qed 𝓛 ((‵ ftrue ⊛ ‵ (fsep ((P E).own_val a z.0.4.0) ftrue)) ∷ raw (emp 𝓤) ∷ []) ∵ split ! $ drop ! $ fsplit ! $ keep ! (0 ∷ []) $
          handle_tells E.al ! a z.0.4.0 (λ hv ea fa. let w = word hv in
          nothing ! $ nothing ! $ move ! (2 ∷ 0 ∷ []) $ fjoin ! $ feq_i ! (List Val) (vnull ∷ []) (vnull ∷ []) refl $ fjoin ! $
          feq_i ! (List Val) (w ∷ []) (w ∷ []) refl $ fjoin ! $ fpack ! (Valss (RawPtr ∷ P E ∷ [])) (within (shape (owning E)) (null_ptr, (a, tt)) (w ∷ [])) (vnull ∷ [], (hv ∷ [], tt)) $ fjoin ! $
          use1 𝓛 (‵ (fsep ((Struct (shape (owning E))).own_val (null_ptr, (a, tt)) (w ∷ [])) ftrue)) (id⊢ 𝓤 _) $ rewrite ! 0 (λ (F : Fml). ‵ F) (sym (U.owns_none a (w ∷ []))) refl $
          suffices ! (Run (hv ∷ [])) (subst (λ (us : List Val). ent 𝓤 (Run (hv ∷ [])) (Run us)) (sym (λ i. ea i ++ [])) (id⊢ 𝓤 (Run (hv ∷ [])))) $
          enter ! 𝓣.C 𝓣.Λ fn (hv ∷ []) Post $ alloc_all ! (λ l. pass_all ! refl (fa, tt) $
          sets ! (agg ! (and_then ! (lit ! tt) (and_then ! (get ! refl) (no_more !)))) refl (and_tt (has_ty (α E.al) hv) fa.0, (record { fits = lit< tt }, (fa.1, tt))) $ returns ! (look_at ! 0 refl) $ free_all ! refl $
          suffices ! _ (ends_at 𝓛 ended stayed c z w made (tt, tt) (tt, tt)) $ says ! (U.is_empty a) $
          nothing ! $ nothing ! $ fjoin ! $ join ! $ nothing ! $ join ! $ done !)))
