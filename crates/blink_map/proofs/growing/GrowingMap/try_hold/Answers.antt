use Rattle.std.proofs.Common.{◌<◌, refl, sym, ap, ◌∙◌, subst}
use Rattle.atomic_table.specs.Seated.{TableId}
use Rattle.blink_map.proofs.HeldSessions.{held_first, held_knows, held_slots, is_held}
use Rattle.blink_map.proofs.growing.GrowingMap.try_hold.Goals as goal

pub invariant_of-result-2 : goal.invariant_of-result-2
invariant_of-result-2 c =
    let old = c.args.session in
    let taken = c.take_out-current.ensures.taken old.seat.me (c.if-not-take_slot_unless.ensures.taken refl) in
    let table = c.take_out-current.ensures.same ∙ c.take_slot_unless.ensures.same in
    record {
      held = is_held old.slot old.seat.me c.take_out-current.new.seat.me c.take_out-current.result old.idle taken;
      in_range = subst (λ (t : TableId). old.slot < t.slots) (sym table) old.in_range;
      all_slots = held_slots old.slot old.seat.me c.take_out-current.new.seat.me c.take_out-current.result old.idle taken ∙ (old.all_slots ∙ ap (λ (t : TableId). t.slots) (sym table));
    }

pub returns-clause-its_own : goal.returns-clause-its_own
returns-clause-its_own c =
    let old = c.args.session in
    let taken = c.take_out-current.ensures.taken old.seat.me (c.if-not-take_slot_unless.ensures.taken refl) in
    record {
      same_table = c.take_out-current.ensures.same ∙ (c.take_slot_unless.ensures.same ∙ c.requires.its_own.same_table);
      same_first = held_first old.slot old.seat.me c.take_out-current.new.seat.me c.take_out-current.result old.idle taken ∙ c.requires.its_own.same_first;
    }

pub returns-clause-held : goal.returns-clause-held
returns-clause-held c =
    let old = c.args.session in
    let taken = c.take_out-current.ensures.taken old.seat.me (c.if-not-take_slot_unless.ensures.taken refl) in
    record {
      same_place = record {
        same_table = c.take_out-current.ensures.same ∙ c.take_slot_unless.ensures.same;
        same_first = held_first old.slot old.seat.me c.take_out-current.new.seat.me c.take_out-current.result old.idle taken;
        same_place = refl;
      };
      knows = held_knows old.slot old.seat.me c.take_out-current.new.seat.me c.take_out-current.result old.idle taken;
    }
