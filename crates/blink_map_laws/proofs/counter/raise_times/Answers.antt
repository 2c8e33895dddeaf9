use Rattle.std.proofs.Common.{ℕ, Result, subst, arith}
use Rattle.std.specs.Prelude.{IfOk, OnErr}
use Rattle.blink_map.specs.declared.growing.GrowingMap.{GrowingMap}
use Rattle.blink_map.specs.declared.growing.Session.{Session}
use Rattle.blink_map.specs.{IsSameBesideSeen}
use Rattle.blink_map_laws.specs.declared.counter.NotRaised.{NotRaised}
use Rattle.blink_map_laws.specs.Counting.{HasRaised, IsRaisedTo}
use Rattle.blink_map_laws.proofs.OnlyTwo.{still_its}
use Rattle.blink_map_laws.proofs.SessionsRaise.{raised_none, raised_one, raised_then}
use Rattle.blink_map_laws.proofs.counter.raise_times.Goals as goal

pub loop-done-preserved : goal.loop-done-preserved
loop-done-preserved g c =
    let map : GrowingMap = c.args.map.now in
    let old : Session = c.loop-done.session in
    let new : Session = c.raise-then.result.0 in
    let before = c.loop-done.invariant in
    let raised : IsRaisedTo map c.args.key old new c.in-Ok.field-0 = subst (λ (told : Result ℕ NotRaised). IfOk told (IsRaisedTo map c.args.key old new)) c.in-Ok.is c.raise-then.ensures.raised in
    record {
      its_own = still_its map old new before.its_own raised.2.same_slot;
      raised = raised_then map c.args.key c.loop-done.done 1 c.args.session old new before.raised (raised_one map c.args.key c.in-Ok.field-0 old new raised);
    }

pub returns-in-Err : goal.returns-in-Err
returns-in-Err g c =
    let map : GrowingMap = c.args.map.now in
    let first : Session = c.args.session in
    let old : Session = c.loop-done.session in
    let new : Session = c.raise-then.result.0 in
    let done : ℕ = c.loop-done.done in
    let same : IsSameBesideSeen old new = subst (λ (told : Result ℕ NotRaised). OnErr told (IsSameBesideSeen old new)) c.in-Err.is c.raise-then.ensures.unchanged in
    subst (λ (n : ℕ). HasRaised map c.args.key n first new) (omega arith) (raised_then map c.args.key done 0 first old new c.loop-done.invariant.raised (raised_none map c.args.key old new same))
