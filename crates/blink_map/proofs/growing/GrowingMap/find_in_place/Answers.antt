use Rattle.std.proofs.Common.{Some, refl, ap, ◌∙◌}
use Rattle.blink_batch.specs.{pointer_of}
use Rattle.blink_live.specs.{after}
use Rattle.blink_generation.specs.declared.map.Map.{Map}
use Rattle.blink_generation.specs.{opening_of, seen_by}
use Rattle.blink_map.proofs.CallsOfSessions.{held_with}
use Rattle.blink_map.proofs.InPlace.{can_give_then, idle_then, its_then, not_empty, own_out, tells_then}
use Rattle.blink_map.proofs.growing.GrowingMap.find_in_place.Goals as goal

pub slot_mut-requires : goal.slot_mut-requires
slot_mut-requires c = let own = c.requires.taken in (c.requires.its_own, (Some own.taken.0, own_out c.args.slot c.args.seat.now.me own))

pub unreachable-unreachable : goal.unreachable-unreachable
unreachable-unreachable c = not_empty c.args.slot c.args.seat.now.me c.requires.taken c.slot_mut.result.now c.slot_mut.ensures.value c.in_default.is

pub find-found-requires : goal.find-found-requires
find-found-requires c =
    record { its_own = its_then c.args.slot c.args.seat.now.me c.requires.taken c.slot_mut.result.now c.in-Some.current c.slot_mut.ensures.value c.in-Some.is c.deref.result.now c.deref.ensures }

pub give_back-requires-clause-can : goal.give_back-requires-clause-can
give_back-requires-clause-can c =
    let new = c.find-found.new.session in
    record {
      held = held_with c.in-Some.current new c.in-Some.current.changes;
      there = refl;
      can = can_give_then c.args.slot c.args.seat.now.me c.requires.taken c.slot_mut.result.now c.in-Some.current c.slot_mut.ensures.value c.in-Some.is new c.find-found.ensures.same;
    }

pub returns-clause-idle : goal.returns-clause-idle
returns-clause-idle c =
    idle_then c.args.slot c.args.seat.now.me c.requires.taken c.slot_mut.result.now c.in-Some.current c.slot_mut.ensures.value c.in-Some.is c.find-found.new.session c.find-found.ensures.same c.give_back.new.seat.me c.give_back.ensures.back

pub returns-clause-state : goal.returns-clause-state
returns-clause-state c =
    let told = c.find-found.ensures.state ∙ ap (λ (m : Map). after (pointer_of (opening_of m)) (seen_by c.find-found.new.session) c.args.key) c.deref.ensures in
    tells_then c.args.slot c.args.seat.now.me c.requires.taken c.slot_mut.result.now c.in-Some.current c.slot_mut.ensures.value c.in-Some.is c.find-found.new.session c.find-found.ensures.same c.give_back.new.seat.me c.give_back.ensures.back _ c.requires.same_first c.find-found.result c.args.key c.ranges.key.fits told
