-- `into_box` takes the handle apart, and makes the box of its pointer again.
use Rattle.std.proofs.Common.{◌≡◌, List, [], ◌∷◌, ◌++◌, refl, sym, ap, subst}
use lib.Dec.{T}
use seplogic.Ra.Ura.{Ura}
use base.Fraction.{full_share}
use mir.Syntax.{Fn, Callee, local, value_local, place, field, copy, rv_opd, seq, assign, block, call, return, ty_ptr}
use mir.Val.{Val, vptr, has_ty, WT}
use base.Logic.{SProp, ent, emp, id⊢}
use base.Fml.{Fml, ftrue, fsep, flft}
use prog.Wp.{WpFn, Closed}
use prog.Model.{Model}
use prog.Wired.{Codes, AllWired, and, end}
use types.Logic.{Logic}
use types.Kit.{‵, raw, ◌⊛◌, some, later, at_ret, ◌$◌, ◌∵◌, !, qed, move, drop, split, split3, join, fsplit, fjoin, pick, suffices, use0, use1, await, rewrite, feq_i, done}
use types.Run.{stop, fld, of_opd, no_more, and_then, first, blocks, exec, returns, enter}
use types.ByLocal.{alloc_all, pass_all, free_all, look_at, get, get_in, sets, lands_last, env}
use types.Part.{sub, whole}
use contract.Monad.{fact, fact_i}
use contract.BorrowLft.{◌⊑◌, ⊑_static}
use contract.Running.{Running, tables}
use denote.Exit.{yes}
use denote.Param.{layout}
use denote.RattleType.{RattleType}
use denote.RawPtr.{block_ptr}
use denote.Signature.{Slot, plain}
use denote.Steps.{heard, nothing, only}
use denote.Triple.Clauses.{Ended, Clauses, closing}
use denote.Triple.Spec.{Meets, triple_of}
use denote.Triple.Call.{calls_at_last}
use denote.Triple.Walked.{says, Stays, stay_dropped, walk_of, ends_at, Goes-dropped}
use denote.Triple.Table.{framed}
use Rattle.std.proofs.VecSteps.Shapes.{after}
use Rattle.std.proofs.BoxSteps.Form.{Bx, D, B, args, box_ty, word, box_typed}
use Rattle.std.proofs.BoxSteps.Steps.{box_out, box_in}
use Rattle.std.proofs.raw_atomic.Walks.{proved_at}
use Rattle.std.proofs.impls.GlobalAllocator.TheImpl.Met.{passed}
use Rattle.std.proofs.impls.GlobalAllocator.allocate.Symbol as allocate
use Rattle.std.proofs.impls.GlobalAllocator.deallocate.Symbol as deallocate
use Rattle.std.proofs.impls.GlobalAllocator.grow.Symbol as grow
use Rattle.std.proofs.impls.GlobalAllocator.shrink.Symbol as shrink
use Rattle.std.specs.contracts.alloc.Global as Heap
use Rattle.std.specs.contracts.boxed.Box as boxed
use Rattle.std.specs.contracts.boxed.Box.from_raw as callee
use Rattle.std.specs.contracts.impls.GlobalAllocator.TheImpl.{ghosts}
use Rattle.std.proofs.boxed.Box.from_raw.Met.{met}
use Rattle.std.proofs.boxed.Box.from_raw.Symbol as from_raw
use Rattle.blink_c.proofs.Destruct++none.drop.Symbol as glue
use Rattle.blink_c.proofs.HandleKind.{Kind, box_of, handle_row, handle_ty}

-- what its code calls
abbrev pub callees : Codes
callees = and glue.code (and from_raw.code (and allocate.code (and deallocate.code (and grow.code (and shrink.code end)))))

module _ (K : Kind) where
  abbrev E : Bx
  E = box_of K

  abbrev Boxed : RattleType
  Boxed = boxed.the_row K.Owner Heap.the_row ghosts

  abbrev From : Slot 0
  From = plain (λ _. handle_row K)

  -- its code
  abbrev fn : Fn
  fn = record {
    lifetimes = 0;
    outlives = [];
    ty_params = [];
    givens = 0;
    params = 1;
    locals = local (layout Boxed) value_local ∷ local (handle_ty K.name) value_local ∷ local ty_ptr value_local ∷ local (layout Heap.the_row) value_local ∷ local (layout Boxed) value_local ∷ [];
    body = seq (assign (place 2 []) (rv_opd (copy (place 1 (field 0 ∷ [])))))
        (seq (assign (place 3 []) (rv_opd (copy (place 1 (field 1 ∷ [])))))
        (seq (block (call (from_raw.name (args E)) (copy (place 3 []) ∷ copy (place 2 []) ∷ []) (place 4 [])))
        (seq (assign (place 0 []) (rv_opd (copy (place 4 [])))) return)));
  }

  -- its contract
  abbrev ended : Ended
  ended = record { signature = record { lifetimes = 0; outlives = []; params = From ∷ []; result = plain (λ _. Boxed) }; kept = (yes, tt) }

  abbrev stayed : Stays ended.signature.params ended.kept
  stayed = (stay_dropped From yes, tt)

  abbrev clauses : {M : Type 1} {𝓤 : Ura M} (𝓛 : Logic 𝓤) → Clauses 𝓤 ended
  clauses {𝓤 = 𝓤} 𝓛 κs a = record { ghost = Unit {0}; requires = λ _. emp 𝓤; ensures = λ _ r _. fact 𝓤 (r.value ≡ (K.as_box a.0).value) }

  module _ {M : Type 1} {𝓤 : Ura M} (𝓛 : Logic 𝓤) where
    open 𝓛 use {H}

    module _ (𝓜 : Model 𝓤 H) (𝓡 : Running 𝓤 H 𝓜) where
      pub takes : (name : Callee) → Closed 𝓤 H (tables 𝓤 H 𝓜 𝓡 𝓡.env).C (tables 𝓤 H 𝓜 𝓡 𝓡.env).Λ name fn → AllWired 𝓡.env callees
          → Meets 𝓛 ended.signature ((tables 𝓤 H 𝓜 𝓡 𝓡.env).C name) (closing 𝓛 ended (clauses 𝓛))
      takes name closed wired =
          let 𝓣 = tables 𝓤 H 𝓜 𝓡 𝓡.env in let c = clauses 𝓛 in
          proved_at 𝓛 ended stayed c 𝓜 𝓡 (Goes-dropped 𝓛 0 From yes (λ κs x w. refl), tt) name fn closed (λ z are.
          let h = z.0.3.0 in let d : D E = K.as_box h in let a = d.alloc in
          let Post : Val → SProp 𝓤 = (walk_of 𝓛 ended stayed c).post z in let Run : List Val → SProp 𝓤 = λ us. WpFn 𝓤 H 𝓣.C 𝓣.Λ fn us Post in
          qed 𝓛 ((‵ ftrue ⊛ ‵ (fsep (K.Handle.own_val h z.0.4.0) ftrue)) ∷ raw (emp 𝓤) ∷ []) ∵ split ! $ drop ! $ fsplit ! $
          rewrite ! 0 (λ (F : Fml). ‵ F) (K.owns_box h z.0.4.0) refl $
          -- [what the handle owns; nothing; nothing]
          box_out E ! d z.0.4.0 (λ b o hv e ws fits. fjoin ! $ move ! (3 ∷ []) $ drop ! $
          -- [what the box will own; its `Global`; nothing]: what `from_raw` asks, and the tokens of 'static for its two type parameters
          let k = triple_of 𝓛 (callee.signature E.row E.al.row E.al.g E.al.d E.al.drops) (callee.spec E.row E.al.row E.al.g E.al.d E.al.drops 𝓛 𝓜.mem 𝓡.returns) in
          let y : k.Ghost = ((([], ([], tt)), (full_share, (full_share, tt)), tt, (a, (block_ptr b o, tt)), (hv ∷ [], (vptr b o ∷ [], tt))), d.value) in
          use0 𝓛 (raw (fact 𝓤 ([] ⊑ E.al.row.lives))) (fact_i 𝓤 ([] ⊑ E.al.row.lives) (emp 𝓤) (⊑_static [])) $ join ! $ use0 𝓛 (raw (fact 𝓤 ([] ⊑ E.row.lives))) (fact_i 𝓤 ([] ⊑ E.row.lives) (emp 𝓤) K.static) $ join ! $
          move ! (2 ∷ []) $ feq_i ! (List Val) (vptr b o ∷ []) (vptr b o ∷ []) refl $ fjoin ! $ move ! (2 ∷ 0 ∷ []) $ fjoin ! $
          nothing ! $ use0 𝓛 (‵ (flft [] full_share)) (𝓛.lfts.lft-nil full_share) $ join ! $ use0 𝓛 (‵ (flft [] full_share)) (𝓛.lfts.lft-nil full_share) $ join ! $ join ! $ join ! $ use1 𝓛 (raw (k.pre y)) (id⊢ 𝓤 _) $
          suffices ! (Run (word E hv b o ∷ [])) (subst (λ (us : List Val). ent 𝓤 (Run (word E hv b o ∷ [])) (Run us)) (sym (λ i. ws i ++ [])) (id⊢ 𝓤 (Run (word E hv b o ∷ [])))) $
          enter ! 𝓣.C 𝓣.Λ fn (word E hv b o ∷ []) Post $ alloc_all ! (λ l. pass_all ! refl (box_typed E hv b o fits, tt) $
          sets ! (of_opd ! (get_in ! (fld ! refl (stop !)) (sub ! 0 refl (whole !)))) refl (tt, tt) $ sets ! (of_opd ! (get_in ! (fld ! refl (stop !)) (sub ! 1 refl (whole !)))) refl fits $
          first ! $ blocks ! $
          calls_at_last ! (framed 𝓤 H 𝓜 𝓣) k (met 𝓤 𝓛 𝓜 𝓡 wired.1.0 E.row E.al.row E.laws E.al.laws E.al.g E.al.d E.al.drops
          (passed 𝓡.env wired.1.1.0 wired.1.1.1.0 wired.1.1.1.1.0 wired.1.1.1.1.1.0 M 𝓤 𝓛 𝓜 𝓡)
          (glue.glues 𝓡.env wired.0 E.al.row E.al.laws M 𝓤 𝓛 𝓜 𝓡)) y (and_then ! (get ! refl) (and_then ! (get ! refl) (no_more !))) (λ u.
          use1 𝓛 (later (some (λ (r : D E). ((‵ (flft [] full_share) ⊛ ‵ (flft [] full_share) ⊛ ‵ ftrue) ⊛ ‵ ((B E).own_val r (u ∷ []))) ⊛ some (λ (_ : Unit {0} × (Unit {0} × Unit {0})). ‵ (fsep ftrue (fsep ftrue ftrue)) ⊛ (raw (fact 𝓤 (r.value ≡ d.value)) ⊛ raw (fact 𝓤 (r.alloc ≡ a))))))) (id⊢ 𝓤 _) $
          await ! tt $ pick ! (λ r. split ! $ move ! (1 ∷ []) $ pick ! (λ _. split3 ! $ drop ! $ heard ! (r.value ≡ d.value) (λ same. drop ! $ split ! $ drop ! $
          -- [the box; the locals]
          box_out E ! r (u ∷ []) (λ b' o' h' e' us fits'. box_in E ! r b' o' r.value e' refl $ rewrite ! 0 (λ (xs : List Val). ‵ ((B E).own_val r xs)) (sym us) refl $
          rewrite ! 0 (λ (F : Fml). ‵ F) (K.box_is r (u ∷ [])) refl $
          let good : T (has_ty (box_ty E) u) × WT u = subst (λ (s : Val). T (has_ty (box_ty E) s) × WT s) (sym (ap only us)) (box_typed E h' b' o' fits') in
          lands_last ! refl good $ exec ! 𝓣.C 𝓣.Λ (env fn.locals l) (after 3 fn.body) (at_ret (env fn.locals l) Post) $ sets ! (of_opd ! (get ! refl)) refl good $
          returns ! (look_at ! 0 refl) $ free_all ! refl $
          suffices ! _ (ends_at 𝓛 ended stayed c z u r (tt, tt) (tt, tt)) $ says ! same $
          nothing ! $ nothing ! $ fjoin ! $ join ! $ nothing ! $ join ! $ done !))))))))
