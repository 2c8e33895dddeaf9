use Rattle.std.proofs.Common.{Some, refl, subst}
use Rattle.std.specs.Prelude.{Option, None, Result, Ok, Err, IfOk, IfSome}
use Rattle.blink_live.specs.{IsSnapshot}
use Rattle.blink_generation.specs.declared.map.Map.{Map}
use Rattle.blink_generation.specs.{opening_of, seen_by}
use Rattle.blink_map.proofs.CallsOfSessions.{held_with}
use Rattle.blink_map.proofs.InPlace.{can_give_then, idle_then, its_then, not_empty, own_out, snapshot_then}
use Rattle.blink_map.proofs.growing.GrowingMap.snapshot_in_place.Goals as goal

pub slot_mut-requires : goal.slot_mut-requires
slot_mut-requires c = let own = c.requires.taken in (c.requires.its_own, (Some own.taken.0, own_out c.args.slot c.args.seat.now.me own))

pub unreachable-unreachable : goal.unreachable-unreachable
unreachable-unreachable c = not_empty c.args.slot c.args.seat.now.me c.requires.taken c.slot_mut.result.now c.slot_mut.ensures.value c.in_default.is

pub snapshot-found-requires : goal.snapshot-found-requires
snapshot-found-requires c =
    record { its_own = its_then c.args.slot c.args.seat.now.me c.requires.taken c.slot_mut.result.now c.in-Some.current c.slot_mut.ensures.value c.in-Some.is c.deref.result.now c.deref.ensures }

pub give_back-requires-clause-can : goal.give_back-requires-clause-can
give_back-requires-clause-can c =
    let new = c.snapshot-found.new.session in
    record {
      held = held_with c.in-Some.current new c.in-Some.current.changes;
      there = refl;
      can = can_give_then c.args.slot c.args.seat.now.me c.requires.taken c.slot_mut.result.now c.in-Some.current c.slot_mut.ensures.value c.in-Some.is new c.snapshot-found.ensures.same;
    }

pub returns-clause-idle : goal.returns-clause-idle
returns-clause-idle c =
    idle_then c.args.slot c.args.seat.now.me c.requires.taken c.slot_mut.result.now c.in-Some.current c.slot_mut.ensures.value c.in-Some.is c.snapshot-found.new.session c.snapshot-found.ensures.same c.give_back.new.seat.me c.give_back.ensures.back

-- what the map's session has got, if it has got it, is so of the whole list
if_got : {A E : Type 0} (found : Result (Option A) E) (P Q : A → Type 0) → ((a : A) → P a → Q a) → IfOk found (λ some. IfSome some P) → IfOk found (λ some. IfSome some Q)
if_got (Ok (Some a)) P Q then was = then a was
if_got (Ok None) P Q then was = was
if_got (Err e) P Q then was = was

pub returns-clause-snapshot : goal.returns-clause-snapshot
returns-clause-snapshot c =
    let lo = c.args.lo in
    let hi = c.args.hi in
    let new = c.snapshot-found.new.session in
    if_got c.snapshot-found.result _ _
    (λ entries was. snapshot_then c.args.slot c.args.seat.now.me c.requires.taken c.slot_mut.result.now c.in-Some.current c.slot_mut.ensures.value c.in-Some.is c.snapshot-found.new.session c.snapshot-found.ensures.same c.give_back.new.seat.me c.give_back.ensures.back _ c.requires.same_first
    lo hi entries.items c.ranges.hi.fits (subst (λ (m : Map). IsSnapshot (opening_of m) (seen_by new) lo hi entries.items) c.deref.ensures was))
    c.snapshot-found.ensures.snapshot
