use Rattle.std.proofs.Common.{◌≡◌, ◌∙◌, ap, refl, subst}
use Rattle.std.specs.Arc.{arc_value}
use Rattle.blink_map.specs.declared.growing.GrowingMap.{GrowingMap}
use Rattle.blink_map.specs.{IsSessionOf}
use Rattle.blink_handles.specs.declared.session_owner.SessionOwner.{SessionOwner}
use Rattle.blink_handles.specs.declared.shared_map.SharedMap.{SharedMap}
use Rattle.blink_handles.specs.Maps.{IsStateOf, map_in}
use Rattle.blink_handles.specs.Sessions.{in_map}
use Rattle.blink_handles.proofs.map_owner.MapOwner.join.Goals as goal

pub returns-in-Some-clause-joined : goal.returns-in-Some-clause-joined
returns-in-Some-clause-joined c =
    let its : (arc_value c.in-Open.shared).map ≡ map_in c.args.self.now = subst (IsStateOf (map_in c.args.self.now)) c.in-Open.is c.requires.its_own in
    let in_box = c.deref_mut.ensures.value in
    record {
      session = c.in-Some.session;
      free = refl;
      its_own = subst (λ (map : GrowingMap). IsSessionOf map c.in-Some.session) (c.deref.result.now.its_places ∙ (ap (λ (s : SharedMap). s.map) c.deref.ensures ∙ its)) c.in-Some.ensures.joined;
      one_map = ap (λ (owner : SessionOwner). in_map owner) in_box ∙ (c.in-Ok.ensures.map ∙ its);
    }
