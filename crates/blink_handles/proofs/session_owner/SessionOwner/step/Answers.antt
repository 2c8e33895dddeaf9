use Rattle.std.proofs.Common.{◌∙◌, Option, Some, ap, refl, subst, sym}
use Rattle.blink_map.specs.declared.growing.GrowingMap.{GrowingMap}
use Rattle.blink_map.specs.{IsAnsweredHeld, held_of, known_by, op_of, place_of_held}
use Rattle.blink_handles.specs.declared.map_refusal.MapRefusal.TheVariants.{UnderWay as StillUnderWay}
use Rattle.blink_handles.specs.declared.session_owner.SessionOwner.{SessionOwner}
use Rattle.blink_handles.specs.declared.session_owner.UnderWay.{UnderWay}
use Rattle.blink_handles.specs.declared.shared_map.SharedMap.{SharedMap}
use Rattle.blink_handles.specs.Sessions.{HasStepped, IsStepRefusal, known_in, known_of, place_among}
use Rattle.blink_handles.proofs.SessionsStay.{continued_same, ended_at_rest, knows_from, not_at_hand, place_from}
use Rattle.blink_handles.proofs.session_owner.SessionOwner.step.Goals as goal

pub returns-in-Ok-clause-ended : goal.returns-in-Ok-clause-ended
returns-in-Ok-clause-ended c =
    let old = c.args.self.now in
    let doing = c.in-Some.doing in
    let held = held_of doing.pending in
    let mid : SessionOwner = record old { under_way = c.take.new.self } in
    let is = c.in-Some.ensures.value in
    let its = c.requires.its_own in
    let answered = subst (λ (map : GrowingMap). IsAnsweredHeld map (op_of doing.pending) held c.in-Ok.held c.in-Ok.given) (ap (λ (s : SharedMap). s.map) c.deref.ensures) c.in-Ok.ensures.answered in
    subst (λ (under_way : Option UnderWay). HasStepped under_way old c.rest.new.self c.of.result) is
    (ended_at_rest old mid c.rest.new.self (op_of doing.pending) held c.in-Ok.held c.in-Ok.given c.of.result (known_in old) (sym (place_from old doing its (sym is)))
    (continued_same (known_in old) (known_by held) (sym (knows_from old doing its (sym is)))) refl answered c.rest.ensures.rested c.of.ensures)

pub returns-in-Err-clause-refused : goal.returns-in-Err-clause-refused
returns-in-Err-clause-refused c =
    let old = c.args.self.now in
    let before = c.in-Some.doing in
    let now : UnderWay = record { pending = c.in-Err.pending; put = before.put } in
    let is = c.in-Some.ensures.value in
    let its = c.requires.its_own in
    let gone = not_at_hand old before its (sym is) in
    let on = c.in-Err.ensures.goes_on in
    let new : SessionOwner = record old { under_way = Some now } in
    subst (λ (under_way : Option UnderWay). IsStepRefusal under_way old new StillUnderWay) is (
      refl,
      record {
        now = c.in-Err.pending;
        is = refl;
        same_op = on.same_op;
        same = record {
          same = record {
            same_map = refl;
            same_place = (λ i. place_among (gone.0 i) (gone.1 i) (Some now)) ∙ (ap place_of_held on.same_held ∙ sym (place_from old before its (sym is)));
          };
          knows = (λ i. known_of (gone.0 i) (gone.1 i) (Some now)) ∙ (ap known_by on.same_held ∙ sym (knows_from old before its (sym is)));
        };
      },
    )
