use Rattle.std.proofs.Common.{◌≡◌, ℕ, ◌+◌, ◌-◌, ◌<◌, suc, List, [], sym, ap, ◌∙◌, subst, arith}
use Rattle.atomic_table.specs.Seated.{TableId}
use Rattle.blink_batch.specs.declared.Entry.{Entry}
use Rattle.blink_map.specs.declared.slots.SlotView.{SlotView}
use Rattle.blink_map.specs.Rule.{SlotSeat, fresh_accounts, nothing}
use Rattle.blink_map.specs.Sessions.{opening_of, places_of}
use Rattle.blink_map.specs.Opening.{dealer}
use Rattle.blink_map.specs.Steps.{first_alone, without_first}
use Rattle.blink_map.proofs.Opens.{account_next, alone_is_idle, alone_knows, dealt_alone, dealt_next, dealt_then, one_longer}
use Rattle.blink_map.proofs.SeatsChange.{seat_is_cut}
use Rattle.blink_map.proofs.growing.GrowingMap.deal.Goals as goal

pub split_seat-own-requires : goal.split_seat-own-requires
split_seat-own-requires c =
    let map = c.args.self.now in
    let first : List Entry = opening_of map in
    let slots : ℕ = places_of map in
    let slot : ℕ = c.loop-slot.slot in
    let words = map.words in
    let some_slot = map.some_slot in
    let end_is = c.slot_count-slot-end.ensures in
    let more = c.loop-slot-test.true in
    let inside : slot < slots = omega (arith, more, end_is) in
    let is = ap (λ (m : SlotSeat). m.0.accounts) c.loop-slot.invariant.me ∙ account_next slots slot inside in (
      c.loop-slot.invariant.same,
      omega (arith, words, some_slot),
      seat_is_cut first c.loop-slot.seat.id c.loop-slot.seat.me.0 (slot, nothing) (fresh_accounts (suc slot) (places_of map - suc slot)) is,
    )

pub loop-slot-preserved : goal.loop-slot-preserved
loop-slot-preserved c =
    let map = c.args.self.now in
    let first : List Entry = opening_of map in
    let slots : ℕ = places_of map in
    let slot : ℕ = c.loop-slot.slot in
    let end_is = c.slot_count-slot-end.ensures in
    let more = c.loop-slot-test.true in
    let inside : slot < slots = omega (arith, more, end_is) in
    let invariant = c.loop-slot.invariant in
    let split = c.split_seat-own.ensures in
    let view : c.loop-slot.seat.me.0 ≡ dealer first slots slot = ap (λ (m : SlotSeat). m.0) invariant.me in
    let others = ap (λ (m : SlotSeat). m.1) invariant.me in
    let next : suc slot ≡ slot + 1 = omega arith in
    let left = ap without_first view ∙ (dealt_next first slots slot inside ∙ ap (dealer first slots) next) in
    let right = split.4 ∙ ap (λ (v : SlotView). let m : SlotSeat = (first_alone v, []) in m) view ∙ ap (λ (v : SlotView). let m : SlotSeat = (v, []) in m) (dealt_alone first slots slot inside) in
    record {
      same = split.0 ∙ invariant.same;
      me = split.2 ∙ (λ i. (left i, others i));
      dealt = dealt_then map c.loop-slot.sessions.items c.push.new.sessions.items _ c.in_ok-push.ensures invariant.dealt (split.3 ∙ invariant.same) right (sym invariant.width);
      width = one_longer c.loop-slot.sessions.items c.push.new.sessions.items _ slot c.in_ok-push.ensures invariant.width;
    }

pub invariant_of-push : goal.invariant_of-push
invariant_of-push c =
    let map = c.args.self.now in
    let first : List Entry = opening_of map in
    let slots : ℕ = places_of map in
    let slot : ℕ = c.loop-slot.slot in
    let end_is = c.slot_count-slot-end.ensures in
    let more = c.loop-slot-test.true in
    let inside : slot < slots = omega (arith, more, end_is) in
    let split = c.split_seat-own.ensures in
    let view : c.loop-slot.seat.me.0 ≡ dealer first slots slot = ap (λ (m : SlotSeat). m.0) c.loop-slot.invariant.me in
    let right = split.4 ∙ ap (λ (v : SlotView). let m : SlotSeat = (first_alone v, []) in m) view ∙ ap (λ (v : SlotView). let m : SlotSeat = (v, []) in m) (dealt_alone first slots slot inside) in
    let table = split.3 ∙ c.loop-slot.invariant.same in
    record {
      idle = alone_is_idle first slots slot c.split_seat-own.result.me right;
      in_range = subst (λ (t : TableId). slot < t.slots) (sym table) inside;
      all_slots = ap (λ (m : SlotSeat). m.0.slots) right ∙ ap (λ (t : TableId). t.slots) (sym table);
      authors = alone_knows first slots slot c.split_seat-own.result.me.0 (ap (λ (m : SlotSeat). m.0) right);
    }
