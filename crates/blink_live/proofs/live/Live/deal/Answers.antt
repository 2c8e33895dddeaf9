use Rattle.std.proofs.Common.{◌⊎◌, ◌↔◌, ℕ, List, Err, sym, ap, ◌∙◌, subst}
use Rattle.std.specs.Prelude.{Contains, IsErrOf}
use Rattle.blink_live.specs.declared.error.LiveError.{LiveError}
use Rattle.blink_live.specs.declared.error.LiveError.TheVariants.{Taken, NoAllowance}
use Rattle.blink_live.specs.Deals.{IsFirstTaken, NoneIsTaken, LacksAllowance}
use Rattle.blink_live.specs.Handles.{taken_of}
use Rattle.blink_live.proofs.dealt.RefusalsOfDeal.{same_refusal}
use Rattle.blink_live.proofs.table.RefusalsTold.{no_refusal}
use Rattle.blink_live.proofs.live.Live.deal.Goals as goal

pub hand_out-requires-clause-free : goal.hand_out-requires-clause-free
hand_out-requires-clause-free c = subst (NoneIsTaken (taken_of c.args.keeper.now)) c.deref.ensures.value c.in-Ok.ensures.free

pub hand_out-requires-clause-allowed : goal.hand_out-requires-clause-allowed
hand_out-requires-clause-allowed c = c.in-Ok.ensures.allowed

pub hand_out-requires-clause-ascending : goal.hand_out-requires-clause-ascending
hand_out-requires-clause-ascending c = c.in-Ok.ensures.ascending

pub returns-in-Ok-clause-free : goal.returns-in-Ok-clause-free
returns-in-Ok-clause-free c = subst (NoneIsTaken (taken_of c.args.keeper.now)) c.deref.ensures.value c.in-Ok.ensures.free

pub returns-in-Ok-clause-no_allowance : goal.returns-in-Ok-clause-no_allowance
returns-in-Ok-clause-no_allowance c = no_refusal _ _ (λ lacks. c.in-Ok.ensures.allowed lacks.1)

pub hand_out-requires-clause-taken : goal.hand_out-requires-clause-taken
hand_out-requires-clause-taken c = subst (λ (l : List ℕ). (key : ℕ) → Contains c.in-Ok.taken.items key ↔ (Contains (taken_of c.args.keeper.now) key ⊎ Contains l key)) c.deref.ensures.value c.in-Ok.ensures.all

pub returns-in-Err-clause-refused : goal.returns-in-Err-clause-refused
returns-in-Err-clause-refused c = c.in-Err.ensures.refused

pub returns-in-Err-clause-taken : goal.returns-in-Err-clause-taken
returns-in-Err-clause-taken c key =
    let told = subst (λ (keys : List ℕ). IsErrOf c.taken_with.result (Taken key) ↔ IsFirstTaken (taken_of c.args.keeper.now) keys key) c.deref.ensures.value (c.taken_with.ensures.taken key) in (
      λ same. told.0 (c.in-Err.is ∙ ap (λ (e : LiveError). Err e) (same_refusal c.in-Err.refusal (Taken key) same)),
      λ first. ap (λ (e : LiveError). Err e) (same_refusal c.in-Err.refusal (Taken key) (sym c.in-Err.is ∙ told.1 first)),
    )

pub returns-in-Err-clause-no_allowance : goal.returns-in-Err-clause-no_allowance
returns-in-Err-clause-no_allowance c =
    let keeper = c.args.keeper.now in
    let told = subst (λ (keys : List ℕ). IsErrOf c.taken_with.result NoAllowance ↔ (NoneIsTaken (taken_of keeper) keys × LacksAllowance keeper c.args.inserts c.args.deletes))
    c.deref.ensures.value c.taken_with.ensures.no_allowance in (
      λ same. told.0 (c.in-Err.is ∙ ap (λ (e : LiveError). Err e) (same_refusal c.in-Err.refusal NoAllowance same)),
      λ lacks. ap (λ (e : LiveError). Err e) (same_refusal c.in-Err.refusal NoAllowance (sym c.in-Err.is ∙ told.1 lacks)),
    )
