use Rattle.std.proofs.Common.{◌≡◌, ap, subst}
use Rattle.blink_map.specs.declared.growing.GrowingMap.{GrowingMap}
use Rattle.blink_map.specs.{IsAnswered, IsAnsweredHeld}
use Rattle.blink_handles.specs.declared.shared_map.SharedMap.{SharedMap}
use Rattle.blink_handles.specs.Sessions.{in_map}
use Rattle.blink_handles.proofs.SessionsStay.{answers_free, answers_held, if_some}
use Rattle.blink_handles.proofs.session_owner.SessionOwner.change_in_place.Goals as goal

pub returns-else-self-clause-answered : goal.returns-else-self-clause-answered
returns-else-self-clause-answered c =
    let old = c.args.self.now in
    let before = c.in-Some-default.session in
    let now = c.try_change.new.session in
    let map_is : c.deref.result.now.map ≡ in_map old = ap (λ (s : SharedMap). s.map) c.deref.ensures in
    if_some c.try_change.result _ _
    (λ given answered. answers_free old c.requires.its_own before now c.in-Some-default.is-0 c.args.op given (subst (λ (map : GrowingMap). IsAnswered map c.args.op before now given) map_is answered))
    c.try_change.ensures.answered

pub returns-in-None-Some-clause-answered : goal.returns-in-None-Some-clause-answered
returns-in-None-Some-clause-answered c =
    let old = c.args.self.now in
    let before = c.in-None-Some.held in
    let now = c.try_change_held.new.held in
    let map_is : c.deref.result.now.map ≡ in_map old = ap (λ (s : SharedMap). s.map) c.deref.ensures in
    if_some c.try_change_held.result _ _
    (λ given answered. answers_held old c.requires.its_own before now c.in-None-Some.is-0 c.in-None-Some.is-1 c.args.op given (subst (λ (map : GrowingMap). IsAnsweredHeld map c.args.op before now given) map_is answered))
    c.try_change_held.ensures.answered
