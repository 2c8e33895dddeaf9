use Rattle.std.proofs.Common.{◌≡◌, ◌∙◌, Some, None, is_some, ap, inl, inr, refl, subst, sym}
use Rattle.blink_map.specs.declared.growing.GrowingMap.{GrowingMap}
use Rattle.blink_map.specs.declared.held.Held.{Held}
use Rattle.blink_map.specs.declared.slots.Known.{Known}
use Rattle.blink_map.specs.{HasBegun, HasStopped, IsAnsweredHeld, IsContinued, IsHeldOf, IsSessionOf, known_by, place_of_held}
use Rattle.blink_handles.specs.declared.session_owner.SessionOwner.{SessionOwner}
use Rattle.blink_handles.specs.declared.session_owner.UnderWay.{UnderWay}
use Rattle.blink_handles.specs.declared.shared_map.SharedMap.{SharedMap}
use Rattle.blink_handles.specs.Sessions.{IsNotMade, SeesMore, in_map, known_in, known_of, place_among}
use Rattle.blink_handles.proofs.SessionsStay.{continued_through, ended_at_rest, held_of_map, map_taken, own_again}
use Rattle.blink_handles.proofs.session_owner.SessionOwner.start_change.Goals.{then-lacks_room_in_all, else-lacks_room_in_all}
use Rattle.blink_handles.proofs.session_owner.SessionOwner.start_change.Goals as goal

pub release-requires : goal.release-requires
release-requires c =
    let old = c.args.self.now in
    let map_is : c.deref-in-Err-Full.result.now.map ≡ in_map old = ap (λ (s : SharedMap). s.map) c.deref-in-Err-Full.ensures ∙ map_taken c.in-Ok.ensures.taken in
    let stopped = subst (HasStopped c.deref.result.now.map c.args.op c.in-Ok.held) c.in-Err-Full.field-0-is c.in-Err-Full.ensures.stopped in
    record { its_own = subst (λ (map : GrowingMap). IsHeldOf map c.in-Err-Full.held) (sym map_is) (held_of_map (in_map old) c.in-Ok.held c.in-Err-Full.held c.in-Ok.ensures.its_own stopped.1.same_place) }

pub rest-requires-clause-its_own : goal.rest-requires-clause-its_own
rest-requires-clause-its_own c =
    let old = c.args.self.now in
    let answered = c.in-Ok-start.ensures.answered in
    subst (λ (map : GrowingMap). IsHeldOf map c.in-Ok-start.held) (sym (map_taken c.in-Ok.ensures.taken)) (held_of_map (in_map old) c.in-Ok.held c.in-Ok-start.held c.in-Ok.ensures.its_own answered.same_place)

pub returns-in-Ok-start-clause-answered : goal.returns-in-Ok-start-clause-answered
returns-in-Ok-start-clause-answered c =
    let old = c.args.self.now in
    let held = c.in-Ok.held in
    let same : in_map c.grip.new.self ≡ in_map old = map_taken c.in-Ok.ensures.taken in
    let map_is : c.deref.result.now.map ≡ in_map old = ap (λ (s : SharedMap). s.map) c.deref.ensures ∙ same in
    let answered = subst (λ (map : GrowingMap). IsAnsweredHeld map c.args.op held c.in-Ok-start.held c.in-Ok-start.given) map_is c.in-Ok-start.ensures.answered in
    let gripped = c.in-Ok.ensures.gripped in
    record {
      was = gripped.at_hand;
      ended = ended_at_rest old c.grip.new.self c.rest.new.self c.args.op held c.in-Ok-start.held c.in-Ok-start.given c.of.result (known_in old) gripped.same_place gripped.knows same answered c.rest.ensures.rested c.of.ensures;
    }

pub returns-in-Err-Waits-clause-refused : goal.returns-in-Err-Waits-clause-refused
returns-in-Err-Waits-clause-refused c =
    let old = c.args.self.now in
    let gripped = c.in-Ok.ensures.gripped in
    let gone = c.in-Ok.ensures.taken.empty in
    let begun : HasBegun c.deref.result.now.map c.args.op c.in-Ok.held c.in-Err-Waits.pending = subst (HasStopped c.deref.result.now.map c.args.op c.in-Ok.held) c.in-Err-Waits.field-0-is c.in-Err-Waits.ensures.stopped in
    let doing : UnderWay = record { pending = c.in-Err-Waits.pending; put = None } in
    inl (
      refl,
      inl (record {
        was = gripped.at_hand;
        pending = c.in-Err-Waits.pending;
        is = refl;
        same_op = begun.same_op;
        same = record {
          same_map = map_taken c.in-Ok.ensures.taken;
          same_place = (λ i. place_among (gone.not_free i) (gone.not_held i) (Some doing)) ∙ (ap place_of_held begun.same_held ∙ gripped.same_place);
        };
        knows = subst (λ (known : Known). IsContinued (known_in old) known) (sym (λ i. known_of (gone.not_free i) (gone.not_held i) (Some doing)))
            (subst (λ (held : Held). IsContinued (known_in old) (known_by held)) (sym begun.same_held) gripped.knows);
      }),
    )

pub returns-after-lacks_room_in_all-clause-its_own : goal.returns-after-lacks_room_in_all-clause-its_own
returns-after-lacks_room_in_all-clause-its_own c =
    own_again c.grip.new.self c.release.result c.in-Ok.ensures.taken.empty
    (subst (λ (map : GrowingMap). IsSessionOf map c.release.result) (ap (λ (s : SharedMap). s.map) c.deref-in-Err-Full.ensures) c.release.ensures.its_own)

pub returns-after-lacks_room_in_all-clause-refused : goal.returns-after-lacks_room_in_all-clause-refused
returns-after-lacks_room_in_all-clause-refused c =
    let old = c.args.self.now in
    let new : SessionOwner = record c.grip.new.self { free = Some c.release.result } in
    let gripped = c.in-Ok.ensures.gripped in
    let released = c.release.ensures.released in
    let stopped = subst (HasStopped c.deref.result.now.map c.args.op c.in-Ok.held) c.in-Err-Full.field-0-is c.in-Err-Full.ensures.stopped in
    let on = stopped.1 in
    let sees : SeesMore old new = record {
      at_hand = record { was = gripped.at_hand; is = ap is_some c.in-Ok.ensures.taken.empty.no_operation };
      same = record {
        same_map = map_taken c.in-Ok.ensures.taken;
        same_place = released.same_place.same_place ∙ (on.same_place.same_place ∙ gripped.same_place);
      };
      knows = subst (λ (known : Known). IsContinued (known_in old) known) (sym released.knows)
          (continued_through (known_in old) (known_by c.in-Ok.held) (known_by c.in-Err-Full.held) gripped.knows on.knows);
    } in
    elim c.if-lacks_room_in_all.branch [
      | then-lacks_room_in_all w ↦ subst (IsNotMade c.args.op old new) (sym w.refusal-is) sees
      | else-lacks_room_in_all w ↦ subst (IsNotMade c.args.op old new) (sym w.refusal-is) (inr (inr (inr (inr (inl refl))), sees))
    ]
