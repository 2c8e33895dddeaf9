-- `get` opens the borrow of the handle, and lends what it owns in its place.
use Rattle.std.proofs.Common.{◌≡◌, ℕ, List, [], ◌∷◌, refl, sym, MutBor}
use seplogic.Ra.Ura.{Ura}
use base.Fraction.{full_share}
use base.Logic.{ent, sep, emp, id⊢}
use base.Fml.{Fml, GName, ftrue, fsep, flft}
use contract.Monad.{fact}
use mir.Syntax.{Fn, Callee, named, erased, mut, ty_ptr, ty_ref, local, value_local, place, deref, field, copy, rv_opd, addr_of, seq, assign, block, return}
use mir.Raw.{raw as bare}
use mir.Val.{Val, vptr}
use prog.Wp.{Closed}
use prog.Model.{Model}
use types.Logic.{Logic, sem}
use types.Kit.{‵, raw, ◌⊛◌, some, later, at_ret, ◌$◌, ◌∵◌, !, qed, move, keep, drop, use1, split, split3, join, fsplit, fsplit3, fjoin, fpack, pick, await, rewrite, suffices, frame, group, done}
use types.Run.{stop, fld, load, of_opd, first, blocks, exec, returns, enter, addr}
use types.ByLocal.{alloc_all, pass_all, free_all, look_at, get, through, sets, sets_last, env}
use types.Part.{whole, sub, look_in}
use contract.Running.{Running, tables}
use denote.Builtin.{RefMutOf}
use denote.Exit.{no}
use denote.RattleType.{RattleType}
use denote.Memory.{part_at, part_of, mem, cell_at}
use denote.RawPtr.{block_ptr}
use denote.Ref.{MutRef, mut_vals, mut_Tells}
use denote.Signature.{plain, mut_ref_to}
use denote.Steps.{nothing, opens}
use denote.Follow.{follows, Part, lends_Part}
use denote.Triple.Clauses.{Ended, Clauses, closing}
use denote.Triple.Spec.{Meets}
use denote.Triple.Walked.{says, Stays, stay_dropped, walk_of, ends_at, Goes-spent_ref}
use Rattle.std.proofs.alloc.Calls.{token}
use Rattle.std.proofs.VecSteps.Shapes.{after}
use Rattle.std.proofs.BoxSteps.Form.{Bx, D, R, B, τ, word, handle}
use Rattle.std.proofs.BoxSteps.Steps.{box_out, box_in}
use Rattle.std.proofs.raw_atomic.Walks.{proved}
use Rattle.blink_c.proofs.HandleKind.{Kind, at_type, box_of, handle_row, handle_ty}

module _ (K : Kind) where
  abbrev E : Bx
  E = box_of K

  abbrev Hd : RattleType
  Hd = handle_row K

  abbrev Lent : RattleType
  Lent = at_type K.Owner K.τ

  -- its code
  abbrev fn : Fn
  fn = record {
    lifetimes = 1;
    outlives = [];
    ty_params = [];
    givens = 0;
    params = 1;
    locals = local (ty_ref (named 0) mut Lent.written.ty) value_local ∷ local (ty_ref (named 0) mut Hd.written.ty) value_local ∷ local (ty_ref erased mut Lent.written.ty) value_local ∷ local ty_ptr value_local ∷ [];
    body = seq (block (seq (assign (place 3 []) (rv_opd (copy (place 1 (deref (handle_ty K.name) ∷ field 0 ∷ []))))) (assign (place 2 []) (addr_of (place 3 (deref K.τ ∷ []))))))
        (seq (assign (place 0 []) (rv_opd (copy (place 2 [])))) return);
  }

  -- its contract
  abbrev ended : Ended
  ended = record { signature = record { lifetimes = 1; outlives = []; params = RefMutOf (0 ∷ []) tt (plain (λ _. Hd)) (λ _. tt) ∷ []; result = RefMutOf (0 ∷ []) tt (plain (λ _. Lent)) (λ _. tt) }; kept = (no, tt) }

  abbrev stayed : Stays ended.signature.params ended.kept
  stayed = (stay_dropped (mut_ref_to (0 ∷ []) tt (plain (λ _. Hd))) no, tt)

  abbrev clauses : {M : Type 1} {𝓤 : Ura M} (𝓛 : Logic 𝓤) → Clauses 𝓤 ended
  clauses {𝓤 = 𝓤} 𝓛 κs a = record {
    ghost = Unit {0};
    requires = λ _. emp 𝓤;
    ensures = λ _ r _. sep 𝓤 (sem 𝓛 (follows Hd Lent a.0.ghost_name r.ghost_name (K.with_value a.0.now))) (fact 𝓤 (r.now ≡ (K.as_box a.0.now).value));
  }

  module _ {M : Type 1} {𝓤 : Ura M} (𝓛 : Logic 𝓤) where
    open 𝓛 use {H}

    module _ (rb ro : ℕ) (h : Hd.Denot) (b o : ℕ) (hv : Val) where
      -- all that a handle is beside its value
      abbrev Rest : Fml
      Rest = fsep (fsep (token E.al (K.as_box h).alloc (bare (τ E)) (block_ptr b o)) (handle E (K.as_box h).alloc hv)) (cell_at full_share Hd.mir (word E hv b o ∷ []) rb ro)

      -- with any value at the pointer, the rest makes a handle again
      back : (K.as_box h).ptr ≡ block_ptr b o → (w : (R E).Denot) → ent 𝓤 (sep 𝓤 (sem 𝓛 ((mem (R E)).own_at w b o)) (sem 𝓛 Rest)) (sem 𝓛 ((mem Hd).own_at (K.with_value h w) rb ro))
      unfolding part_of
      back e w =
          let d : D E = record { ptr = (K.as_box h).ptr; alloc = (K.as_box h).alloc; value = w } in let us : List Val = word E hv b o ∷ [] in
          qed 𝓛 (‵ (part_at (R E) full_share w b o) ∷ ‵ Rest ∷ []) ∵ move ! (1 ∷ []) $ fsplit ! $ fsplit ! $ move ! (3 ∷ []) $
          box_in E ! d b o w e refl $ rewrite ! 0 (λ (x : D E). ‵ ((B E).own_val x us)) (sym (K.keeps h w)) refl $ rewrite ! 0 (λ (F : Fml). ‵ F) (sym (K.owns_box (K.with_value h w) us)) refl $
          move ! (1 ∷ 0 ∷ []) $ fjoin ! $
          fpack ! (List Val) (λ xs. fsep (cell_at full_share Hd.mir xs rb ro) (Hd.own_val (K.with_value h w) xs)) us $ done !

    module _ (𝓜 : Model 𝓤 H) (𝓡 : Running 𝓤 H 𝓜) where
      pub lends : (k : Callee) → Closed 𝓤 H (tables 𝓤 H 𝓜 𝓡 𝓡.env).C (tables 𝓤 H 𝓜 𝓡 𝓡.env).Λ k fn → Meets 𝓛 ended.signature ((tables 𝓤 H 𝓜 𝓡 𝓡.env).C k) (closing 𝓛 ended (clauses 𝓛))
      lends k closed =
          let c = clauses 𝓛 in let W = walk_of 𝓛 ended stayed c in let 𝓣 = tables 𝓤 H 𝓜 𝓡 𝓡.env in
          proved 𝓛 ended stayed c 𝓜 𝓡 (Goes-spent_ref 𝓛 1 (0 ∷ []) tt (plain (λ _. Hd)), tt)
          k fn closed
          (λ κs. (mut_vals, tt)) (λ κs. (mut_Tells (named 0) κs.0 Hd, tt)) (λ κs qs bounds a g are.
          let κ = κs.0 in let q = qs.0 in let rb = a.0.ref_ptr.0 in let ro = a.0.ref_ptr.1 in let γ = a.0.ghost_name in let h = a.0.now in let vs = mut_vals a.0 in
          let y : W.Ghost = ((κs, qs, bounds, a, (vs, tt)), tt) in let v = (K.as_box h).value in
          qed 𝓛 (((‵ (flft κ q) ⊛ ‵ ftrue) ⊛ ‵ ((MutRef (named 0) κ Hd).own_val a.0 vs) ⊛ ‵ ftrue) ∷ ‵ ftrue ∷ []) ∵
          split ! $ split ! $ move ! (2 ∷ []) $ split ! $ keep ! (0 ∷ 2 ∷ []) $
          enter ! _ _ _ _ _ $ alloc_all ! (λ l. pass_all ! refl ((tt, tt), tt) $
          fsplit3 ! $ drop ! $ opens ! tt Hd rb ro (λ us. move ! (1 ∷ []) $ rewrite ! 0 (λ (F : Fml). ‵ F) (K.owns_box h us) refl $ box_out E ! (K.as_box h) us (λ b o hv e ws fits.
          move ! (1 ∷ 2 ∷ []) $ fjoin ! $ move ! (1 ∷ []) $ rewrite ! 2 (λ (xs : List Val). ‵ (cell_at full_share Hd.mir xs rb ro)) ws refl $
          -- [the value; its token and its `Global`; the handle's cell; the open borrow, in three entries]
          first ! $ blocks ! $
          sets ! (of_opd ! (load ! (through ! refl (fld ! refl (stop !))) (look_in ! 2 (sub ! 0 refl (whole !))))) refl (tt, tt) $
          sets_last ! (addr ! (through ! refl (stop !))) refl (tt, tt) $
          exec ! 𝓣.C 𝓣.Λ (env fn.locals l) (after 1 fn.body) (at_ret _ (W.post y)) $
          sets ! (of_opd ! (get ! refl)) refl (tt, tt) $
          move ! (1 ∷ 2 ∷ []) $ fjoin ! $ move ! (2 ∷ 3 ∷ 4 ∷ 1 ∷ 0 ∷ []) $ group ! 5 $
          use1 𝓛 (later (some (λ (γ' : GName). raw (Part 𝓛 Hd (R E) (K.with_value h) (named 0) κ q rb ro b o γ (sem 𝓛 (Rest rb ro h b o hv)) (back rb ro h b o hv e) v γ'))))
          (lends_Part 𝓛 Hd (R E) (K.with_value h) (named 0) κ q rb ro b o γ (sem 𝓛 (Rest rb ro h b o hv)) (back rb ro h b o hv e) (Hd.coded.code h) (Hd.coded.code h) v) $ await ! tt $ pick ! (λ γ'.
          returns ! (look_at ! 0 refl) $ free_all ! refl $ keep ! (0 ∷ []) $
          let r : MutBor K.Owner.Denot = record { ref_ptr = (b, o); ghost_name = γ'; now = v } in
          use1 𝓛 (‵ ((MutRef (named 0) κ (R E)).own_val r (vptr b o ∷ [])) ⊛ ‵ (flft κ q) ⊛ ‵ (follows Hd (R E) γ γ' (K.with_value h))) (id⊢ 𝓤 _) $ split3 ! $ rewrite ! 0 (λ (F : Fml). ‵ F) (K.lent_is κ r (vptr b o ∷ [])) refl $
          suffices ! _ (ends_at 𝓛 ended stayed c y (vptr b o) r (tt, tt) (tt, tt)) $
          nothing ! $ nothing ! $ fjoin ! $ join ! $ nothing ! $ move ! (2 ∷ 0 ∷ []) $ join ! $ join ! $ frame ! $ says ! refl $ done !)))))
