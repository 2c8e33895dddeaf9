-- A map whose close is refused is there still, and was there before.
use Rattle.std.proofs.Common.{◌↔◌, Result, Ok, Err, IfErr, IsErrOf, ap, inl, inr}
use Rattle.blink_map.specs.declared.error.GrowError.{GrowError}
use Rattle.blink_map.specs.{IsRefusal}
use Rattle.blink_handles.specs.declared.map_refusal.MapRefusal.{MapRefusal}
use Rattle.blink_handles.specs.declared.map_refusal.MapRefusal.TheVariants as refused
use Rattle.blink_handles.specs.declared.shared_map.MapState.{MapState}
use Rattle.blink_handles.specs.MapCodes.{refusal_of}
use Rattle.blink_handles.specs.Maps.{CanClose, IsCloseFault, IsEndFault}

pub end_fault : (refusal : GrowError) → IsRefusal refusal → IsEndFault (refusal_of refusal)
end_fault refusal (inl memory) = inl (ap refusal_of memory)
end_fault refusal (inr (inl too_large)) = inr (inl (ap refusal_of too_large))
end_fault refusal (inr (inr busy)) = inr (inr (ap refusal_of busy))

pub never_closed : {X : Type 0} (result : Result X MapRefusal) (held : MapState) → CanClose held → IfErr result IsEndFault → IsErrOf result refused.Closed ↔ (¬ CanClose held)
never_closed (Ok given) held can fault = ((λ is. absurd (cc is)), (λ cannot. absurd (cannot can)))
never_closed (Err refusal) held can (inl memory) = ((λ is. absurd (cc (is, memory))), (λ cannot. absurd (cannot can)))
never_closed (Err refusal) held can (inr (inl too_large)) = ((λ is. absurd (cc (is, too_large))), (λ cannot. absurd (cannot can)))
never_closed (Err refusal) held can (inr (inr busy)) = ((λ is. absurd (cc (is, busy))), (λ cannot. absurd (cannot can)))

as_close : (refusal : MapRefusal) → IsEndFault refusal → IsCloseFault refusal
as_close refusal (inl memory) = inl memory
as_close refusal (inr (inl too_large)) = inr (inl too_large)
as_close refusal (inr (inr busy)) = inr (inr (inl busy))

pub close_fault : {X : Type 0} (result : Result X MapRefusal) → IfErr result IsEndFault → IfErr result IsCloseFault
close_fault (Ok given) fault = tt
close_fault (Err refusal) fault = as_close refusal fault
