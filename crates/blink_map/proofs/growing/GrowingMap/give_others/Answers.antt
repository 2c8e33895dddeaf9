use Rattle.std.proofs.Common.{◌≡◌, ℕ, ◌+◌, ◌-◌, ◌∷◌, [], List, Option, length, refl, sym, ap, ◌∙◌, subst, arith}
use Rattle.atomic_table.specs.Seated.{TableId}
use Rattle.atomic_table.specs.Table.{rest}
use Rattle.atomic_table.specs.declared.Seat.{Seat}
use Rattle.blink_map.specs.declared.slots.Current.{Current}
use Rattle.blink_map.specs.declared.slots.SlotView.{SlotView}
use Rattle.blink_map.specs.Laid.{slot_behind}
use Rattle.blink_map.specs.Renewing.{IsRenewing}
use Rattle.blink_map.specs.Rule.{known_of}
use Rattle.blink_map.specs.Steps.{CanGive, has_given, past_of}
use Rattle.blink_map.proofs.Gathers.{can_give_last, last_given, last_in_range}
use Rattle.blink_map.proofs.growing.GrowingMap.give_others.Goals as goal

slot_is : (copier : ℕ) (before : List Current) (len count slot : ℕ) → count ≡ len → len ≡ length before → slot ≡ slot_behind copier (count + 1 - 1) → slot ≡ slot_behind copier (length before)
slot_is copier before len count slot one two is = let same : count + 1 - 1 ≡ length before = omega (arith, one, two) in is ∙ ap (slot_behind copier) same

none_left : (others : List Current) → length others ≡ 0 → others ≡ []
none_left [] none = refl
none_left (held ∷ others) none = absurd (omega (arith, none))

pub give-requires-clause-in_range : goal.give-requires-clause-in_range
give-requires-clause-in_range c =
    let before : List Current = c.pop.new.self.items in
    let held : Current = c.in-Some.held in
    let r = subst (IsRenewing c.args.self.now c.loop-held.seat c.args.copier c.args._lead.now) c.in-Some.ensures.items c.loop-held.invariant.renewing in
    let inside = last_in_range c.args.self.now c.loop-held.seat c.args.copier c.args._lead.now before held r in
    let same = ap (λ (t : TableId). t.slots) r.same_table in
    let slot = slot_is c.args.copier before c.pop.new.self.len c.len.result c.slot_at-slot.result c.len.ensures c.pop.new.self.ok.0 c.slot_at-slot.ensures in
    omega (arith, inside, same, slot)

pub give-requires-clause-can : goal.give-requires-clause-can
give-requires-clause-can c =
    let before : List Current = c.pop.new.self.items in
    let held : Current = c.in-Some.held in
    let r = subst (IsRenewing c.args.self.now c.loop-held.seat c.args.copier c.args._lead.now) c.in-Some.ensures.items c.loop-held.invariant.renewing in
    let slot = slot_is c.args.copier before c.pop.new.self.len c.len.result c.slot_at-slot.result c.len.ensures c.pop.new.self.ok.0 c.slot_at-slot.ensures in
    subst (λ (n : ℕ). CanGive n c.loop-held.seat.me held) (sym slot) (can_give_last c.args.self.now c.loop-held.seat c.args.copier c.args._lead.now before held r)

pub loop-held-preserved : goal.loop-held-preserved
loop-held-preserved c =
    let before : List Current = c.pop.new.self.items in
    let held : Current = c.in-Some.held in
    let old : Seat (Option Current) SlotView = c.loop-held.seat in
    let r = subst (IsRenewing c.args.self.now old c.args.copier c.args._lead.now) c.in-Some.ensures.items c.loop-held.invariant.renewing in
    let slot = slot_is c.args.copier before c.pop.new.self.len c.len.result c.slot_at-slot.result c.len.ensures c.pop.new.self.ok.0 c.slot_at-slot.ensures in
    let known = λ (n : ℕ). known_of (past_of old.me.0.now) n held in
    let given = subst (λ (n : ℕ). c.give.new.seat.me ≡ (has_given old.me.0 n (known n), rest old.me.1)) slot c.give.ensures.given in
    record {
      renewing = last_given c.args.self.now old c.args.copier c.args._lead.now before held r c.give.new.seat (known (slot_behind c.args.copier (length before))) c.give.ensures.same given;
      room = c.pop.ensures.capacity ∙ c.loop-held.invariant.room;
    }

pub returns-clause-renewing : goal.returns-clause-renewing
returns-clause-renewing c =
    let none : length c.loop-held.others.items ≡ 0 = let zero_long = c.in_default.ensures.cases.0 in let ok = c.loop-held.others.ok in omega (arith, zero_long, ok) in
    subst (IsRenewing c.args.self.now c.loop-held.seat c.args.copier c.args._lead.now) (none_left c.loop-held.others.items none) c.loop-held.invariant.renewing
