use Rattle.std.proofs.Common.{refl, subst}
use Rattle.blink_generation.specs.declared.map.Map.{Map}
use Rattle.blink_generation.specs.{AnswersInOrder, HasStopped, opening_of}
use Rattle.blink_map.proofs.CallsOfSessions.{has_tried, in_order_counted, key_fits, saw_answer}
use Rattle.blink_map.proofs.HeldSessions.{answers_whole, held_again, held_counted, knows_more}
use Rattle.blink_map.proofs.growing.GrowingMap.start_in_current.Goals as goal

pub invariant_of-held : goal.invariant_of-held
invariant_of-held c =
    let old = c.args.held in
    let answered = c.in-Ok.ensures.answered in
    record {
      held = held_counted old.slot old.seat.me old.current old.held c.in-Ok.session c.counted.result
          (saw_answer (opening_of c.deref.result.now) c.args.op old.current.session c.in-Ok.session c.in-Ok.answer answered.in_order) answered.same_member
          (in_order_counted (opening_of c.deref.result.now) c.args.op old.current c.in-Ok.session c.in-Ok.answer c.counted.result answered.in_order c.counted.ensures);
      in_range = old.in_range;
      all_slots = old.all_slots;
    }

pub invariant_of-result : goal.invariant_of-result
invariant_of-result c =
    let old = c.args.held in
    let stopped = subst (HasStopped c.deref.result.now c.args.op old.current.session) c.in-Err-Full.field-0-is c.in-Err-Full.ensures.stopped in
    let tried = has_tried c.args.op old.current.session c.in-Err-Full.session stopped.2 in
    record { held = held_again old.slot old.seat.me old.current old.held c.in-Err-Full.session tried.saw tried.same_member tried.made; in_range = old.in_range; all_slots = old.all_slots }

pub returns-in-Ok-clause-answered : goal.returns-in-Ok-clause-answered
returns-in-Ok-clause-answered c =
    let old = c.args.held in
    let session = c.in-Ok.session in
    let in_order = subst (λ (m : Map). AnswersInOrder (opening_of m) c.args.op old.current.session.member session.member c.in-Ok.answer) c.deref.ensures c.in-Ok.ensures.answered.in_order in
    record {
      in_order = answers_whole old.slot old.seat.me old.current old.held session _ c.requires.its_own.same_first c.args.op (key_fits c.args.op c.requires.fits) c.in-Ok.answer in_order;
      same_place = record { same_table = refl; same_first = refl; same_place = refl };
    }

pub returns-in-Err-Full-clause-stopped : goal.returns-in-Err-Full-clause-stopped
returns-in-Err-Full-clause-stopped c =
    let old = c.args.held in
    let session = c.in-Err-Full.session in
    let stopped = subst (HasStopped c.deref.result.now c.args.op old.current.session) c.in-Err-Full.field-0-is c.in-Err-Full.ensures.stopped in
    let tried = has_tried c.args.op old.current.session session stopped.2 in
    (stopped.0, record { same_place = record { same_table = refl; same_first = refl; same_place = refl }; knows = knows_more old.slot old.seat.me old.current old.held session tried.saw tried.made })
