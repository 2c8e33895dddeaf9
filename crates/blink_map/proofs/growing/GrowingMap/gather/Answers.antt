use Rattle.std.proofs.Common.{◌≡◌, ℕ, suc, ◌-◌, ◌<◌, ◌∷◌, [], List, length, length-append, sym, ap, ◌∙◌, subst, arith}
use Rattle.atomic_table.specs.Seated.{TableId}
use Rattle.blink_map.specs.declared.slots.Current.{Current}
use Rattle.blink_map.specs.Laid.{slot_behind}
use Rattle.blink_map.specs.Renewing.{HasHeardAll, IsRenewing}
use Rattle.blink_map.specs.Sessions.{places_of}
use Rattle.blink_map.proofs.Copies.{sees_same, sees_twice}
use Rattle.blink_map.proofs.Gathers.{heard_more, lead_sees_more, one_more_taken, still_renewing}
use Rattle.blink_map.proofs.NoChangeMore.{behind_inside}
use Rattle.blink_map.proofs.growing.GrowingMap.gather.Goals as goal

-- the slot that is taken next
next_slot : (copier level slot : ℕ) (others : List Current) → suc (length others) ≡ level → slot ≡ slot_behind copier (level - 1) → slot ≡ slot_behind copier (length others)
next_slot copier level slot others width is = let same : level - 1 ≡ length others = omega (arith, width) in is ∙ ap (slot_behind copier) same

pub take_patiently-requires-clause-in_range : goal.take_patiently-requires-clause-in_range
take_patiently-requires-clause-in_range c =
    let map = c.args.self.now in
    let old = c.loop-level in
    let more = c.loop-level-test.true in
    let end_is = c.slot_count-level-end.ensures in
    let width = old.invariant.width in
    let inside : suc (length old.others.items) < places_of map = omega (arith, more, end_is, width) in
    let slot = next_slot c.args.copier old.level c.slot_at-slot.result old.others.items width c.slot_at-slot.ensures in
    let within = behind_inside c.args.copier (length old.others.items) (places_of map) inside in
    let same = ap (λ (t : TableId). t.slots) old.invariant.renewing.same_table in
    omega (arith, slot, within, same)

pub loop-level-init : goal.loop-level-init
loop-level-init c = record {
  renewing = c.requires.renewing;
  heard = λ k held is. absurd (Rattle.blink_map.proofs.Basics.not_none c.args.others.now.items k held is c.requires.alone);
  more = sees_same c.args.lead.now;
  width = ap (λ (l : List Current). suc (length l)) c.requires.alone;
  room = c.requires.room;
}

pub loop-level-preserved : goal.loop-level-preserved
loop-level-preserved c =
    let map = c.args.self.now in
    let old = c.loop-level in
    let held : Current = c.in-Some.held in
    let told : Current = c.hear-told.result in
    let lead : Current = c.hear-told.new.lead in
    let others : List Current = old.others.items in
    let more = c.loop-level-test.true in
    let end_is = c.slot_count-level-end.ensures in
    let width = old.invariant.width in
    let inside : suc (length others) < places_of map = omega (arith, more, end_is, width) in
    let is_next = next_slot c.args.copier old.level c.slot_at-slot.result others width c.slot_at-slot.ensures in
    let was = lead_sees_more map old.seat c.args.copier old.lead lead others old.invariant.renewing c.hear-told.ensures.lead in
    let is = c.push_reserved.ensures.items in
    let long = ap (λ (l : List Current). length l) is ∙ length-append others (told ∷ []) in
    record {
      renewing = subst (IsRenewing map c.take_patiently.new.seat c.args.copier lead) (sym is)
          (one_more_taken map old.seat c.take_patiently.new.seat c.args.copier lead others was c.take_patiently.ensures.same held told c.slot_at-slot.result is_next inside c.in-Some.ensures.taken c.hear-told.ensures.held);
      heard = subst (HasHeardAll lead) (sym is) (heard_more old.lead lead others told old.invariant.heard c.hear-told.ensures.lead.saw c.hear-told.ensures.heard);
      more = sees_twice c.args.lead.now old.lead lead old.invariant.more c.hear-told.ensures.lead;
      width = omega (arith, long, width);
      room = (let room = old.invariant.room in let same = c.push_reserved.ensures.capacity in omega (arith, room, same));
    }

pub returns-in_default-clause-renewing : goal.returns-in_default-clause-renewing
returns-in_default-clause-renewing c =
    let old = c.loop-level in
    still_renewing c.args.self.now old.seat c.take_patiently.new.seat c.args.copier old.lead old.others.items c.in_default.ensures.same c.in_default.ensures.lost old.invariant.renewing
