use Rattle.std.proofs.Common.{◌≡◌, ℕ, ◌+◌, ◌<◌, ◌^◌, Option, sym, ap, ◌∙◌, subst}
use Rattle.std.specs.Arc.{arc_value}
use Rattle.atomic_table.specs.declared.Seat.{Seat}
use Rattle.blink_generation.specs.declared.map.Map.{Map}
use Rattle.blink_generation.specs.declared.map.Session.{Session}
use Rattle.blink_generation.specs.{IsAnswered, opening_of}
use Rattle.blink_map.specs.declared.slots.Current.{Current}
use Rattle.blink_map.specs.declared.slots.Known.{Known}
use Rattle.blink_map.specs.declared.slots.SlotView.{SlotView}
use Rattle.blink_map.specs.Counts.{made_with}
use Rattle.blink_map.specs.Holding.{AnswersFrom, known_by}
use Rattle.blink_map.specs.Pendings.{held_of, op_of}
use Rattle.blink_map.specs.Rule.{known_of}
use Rattle.blink_map.specs.Sessions.{opening_of as opening_of_growing}
use Rattle.blink_map.specs.Steps.{past_of}
use Rattle.blink_map.proofs.CallsOfSessions.{held_with, in_order_counted, key_fits, saw_answer}
use Rattle.blink_map.proofs.HeldSessions.{answers_whole, held_counted, held_moved}
use Rattle.blink_map.proofs.growing.GrowingMap.advance_in_current.Goals as goal

pub invariant_of-held : goal.invariant_of-held
invariant_of-held c =
    let its = c.requires.its_own in
    let pending = c.args.pending in
    let old = held_of pending in
    let session = c.in-Ok.session in
    let answered = subst (λ (s : Session). IsAnswered c.deref.result.now (op_of pending) s session c.in-Ok.answer) its.same_session c.in-Ok.ensures.answered in
    let counted = subst (λ (n : ℕ). c.counted.result + 1 < 2 ^ 64 → c.counted.result ≡ n + made_with c.in-Ok.answer) its.same_changes c.counted.ensures in
    let again = held_counted old.slot old.seat.me old.current old.held session c.counted.result (saw_answer (opening_of c.deref.result.now) (op_of pending) old.current.session session c.in-Ok.answer answered.in_order) answered.same_member
    (in_order_counted (opening_of c.deref.result.now) (op_of pending) old.current session c.in-Ok.answer c.counted.result answered.in_order counted) in
    record {
      held = held_moved old.slot pending.slot old.seat pending.seat (held_with old.current session c.counted.result) _ its.same_slot its.same_seat (λ i. record { map = its.same_map i; session = session; number = its.same_number i; changes = c.counted.result }) again;
      in_range = subst (λ (n : ℕ). n < pending.seat.table_id.slots) (sym its.same_slot) (subst (λ (s : Seat (Option Current) SlotView). old.slot < s.table_id.slots) (sym its.same_seat) old.in_range);
      all_slots = subst (λ (s : Seat (Option Current) SlotView). s.me.0.slots ≡ s.table_id.slots) (sym its.same_seat) old.all_slots;
    }

pub returns-in-Ok-clause-answered : goal.returns-in-Ok-clause-answered
returns-in-Ok-clause-answered c =
    let its = c.requires.its_own in
    let pending = c.args.pending in
    let old = held_of pending in
    let session = c.in-Ok.session in
    let answered = subst (λ (s : Session). IsAnswered c.deref.result.now (op_of pending) s session c.in-Ok.answer) its.same_session c.in-Ok.ensures.answered in
    let whole = subst (λ (m : Map). IsAnswered m (op_of pending) old.current.session session c.in-Ok.answer) (c.deref.ensures ∙ ap arc_value its.same_map) answered in
    let known : known_of (past_of old.seat.me.0.now) old.slot (held_with old.current session c.counted.result) ≡ known_of (past_of pending.seat.me.0.now) pending.slot (record { map = pending.map; session = session; number = pending.number; changes = c.counted.result }) =
    λ i. known_of (past_of (sym its.same_seat i).me.0.now) (sym its.same_slot i) (record { map = sym its.same_map i; session = session; number = sym its.same_number i; changes = c.counted.result }) in
    record {
      in_order = subst (λ (k : Known). AnswersFrom (opening_of_growing c.args.self.now) (op_of pending) old.slot (known_by old) k c.in-Ok.answer) known
          (answers_whole old.slot old.seat.me old.current old.held session (opening_of_growing c.args.self.now) its.its_own.same_first (op_of pending) (key_fits (op_of pending) its.fits) c.in-Ok.answer whole.in_order);
      same_place = record {
        same_table = ap (λ (s : Seat (Option Current) SlotView). s.table_id) its.same_seat;
        same_first = ap (λ (s : Seat (Option Current) SlotView). s.me.0.first) its.same_seat;
        same_place = its.same_slot;
      };
    }
