use Rattle.std.proofs.Common.{Option, Result, refl, subst, ℕ}
use Rattle.std.specs.Prelude.{IfOk, OnErr}
use Rattle.blink_batch.specs.declared.Answer.{Answer}
use Rattle.blink_map.specs.{IsAnswered, IsSameBesideSeen}
use Rattle.blink_map_laws.proofs.HeldFor.{answered_after}
use Rattle.blink_map_laws.proofs.TriesToRaise.{tried_twice}
use Rattle.blink_map_laws.proofs.calls.change_once.Goals as goal

pub returns-in-Ok : goal.returns-in-Ok
returns-in-Ok g c =
    answered_after c.args.map.now c.args.op c.args.session c.try_change.new.session c.start-session.result.0 (c.in_default.ensures.unchanged refl) c.in-Ok.answer
    (subst (λ (told : Result Answer (Option ℕ)). IfOk told (IsAnswered c.args.map.now c.args.op c.try_change.new.session c.start-session.result.0)) c.in-Ok.is c.start-session.ensures.answered)

pub returns-in-Err-None : goal.returns-in-Err-None
returns-in-Err-None g c =
    tried_twice c.args.session c.try_change.new.session c.start-session.result.0 (c.in_default.ensures.unchanged refl)
    (subst (λ (told : Result Answer (Option ℕ)). OnErr told (IsSameBesideSeen c.try_change.new.session c.start-session.result.0)) c.in-Err-None.is c.start-session.ensures.unchanged)

pub returns-in-Err : goal.returns-in-Err
returns-in-Err g c =
    tried_twice c.args.session c.try_change.new.session c.start-session.result.0 (c.in_default.ensures.unchanged refl)
    (subst (λ (told : Result Answer (Option ℕ)). OnErr told (IsSameBesideSeen c.try_change.new.session c.start-session.result.0)) c.in-Err-Some.is c.start-session.ensures.unchanged)

pub returns-in-Ok-try_renew_by : goal.returns-in-Ok-try_renew_by
returns-in-Ok-try_renew_by g c =
    tried_twice c.args.session c.try_change.new.session c.start-session.result.0 (c.in_default.ensures.unchanged refl)
    (subst (λ (told : Result Answer (Option ℕ)). OnErr told (IsSameBesideSeen c.try_change.new.session c.start-session.result.0)) c.in-Err-Some.is c.start-session.ensures.unchanged)
