use Rattle.std.proofs.Common.{IfSome, Option, is_some, ◌∙◌, ap, subst, sym}
use Rattle.blink_map.specs.declared.growing.GrowingMap.{GrowingMap}
use Rattle.blink_map.specs.declared.growing.Session.{Session}
use Rattle.blink_map.specs.{IsSessionOf}
use Rattle.blink_handles.specs.declared.shared_map.SharedMap.{SharedMap}
use Rattle.blink_handles.specs.Sessions.{IsAtHand, in_map}
use Rattle.blink_handles.specs.declared.session_owner.SessionOwner.{SessionOwner}
use Rattle.blink_handles.proofs.SessionsStay.{idle_after, was_under_way}
use Rattle.blink_handles.proofs.session_owner.SessionOwner.free.Goals.{else-loop-test, then-loop-test+in_default, then-loop-test+in_default-2}
use Rattle.blink_handles.proofs.session_owner.SessionOwner.free.Goals as goal

pub leave-requires : goal.leave-requires
leave-requires c =
    let own : IsSessionOf (in_map c.let_go.new.self) c.in-Some.session = subst (λ (free : Option Session). IfSome free (IsSessionOf (in_map c.let_go.new.self))) (sym c.in-Some.ensures.value) c.let_go.ensures.its_own.its_session in
    record { its_own = subst (λ (map : GrowingMap). IsSessionOf map c.in-Some.session) (sym (c.deref.result.now.its_places ∙ ap (λ (s : SharedMap). s.map) c.deref.ensures)) own }

pub returns-in_default-take : goal.returns-in_default-take
returns-in_default-take c =
    let last : SessionOwner = c.let_go.new.self in
    let stays : IsAtHand c.args.self → IsAtHand c.loop-test.owner =
    λ idle. elim c.loop-test.branch [
      | else-loop-test w ↦ subst IsAtHand (sym w.owner-is) (c.loop.invariant.at_hand idle)
      | then-loop-test+in_default w ↦ subst IsAtHand (sym w.owner-is) (idle_after c.loop.owner w.advance.new.self w.advance.new.answer w.advance.result w.advance.ensures.ended w.advance.ensures.refused (c.loop.invariant.at_hand idle))
      | then-loop-test+in_default-2 w ↦ subst IsAtHand (sym w.owner-is) (idle_after c.loop.owner w.advance.new.self w.advance.new.answer w.advance.result w.advance.ensures.ended w.advance.ensures.refused (c.loop.invariant.at_hand idle))
    ] in
    record {
      lost = λ _.
          was_under_way c.args.self last c.let_go.ensures.its_own (sym c.in_default-take.ensures.value) c.let_go.ensures.not_held
          (λ idle. ap is_some c.let_go.ensures.goes_on ∙ stays idle);
    }
