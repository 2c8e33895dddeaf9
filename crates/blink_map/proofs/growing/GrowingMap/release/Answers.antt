use Rattle.std.proofs.Common.{◌<◌, refl, sym, ap, ◌∙◌, subst}
use Rattle.atomic_table.specs.Seated.{TableId}
use Rattle.blink_map.proofs.HeldSessions.{can_release, is_idle, released_authors, released_first, released_knows, released_slots}
use Rattle.blink_map.proofs.growing.GrowingMap.release.Goals as goal

pub give-requires-clause-can : goal.give-requires-clause-can
give-requires-clause-can c = let old = c.args.held in can_release old.slot old.seat.me old.current old.held

pub invariant_of-result : goal.invariant_of-result
invariant_of-result c =
    let old = c.args.held in
    let table = c.give.ensures.same in
    record {
      idle = is_idle old.slot old.seat.me old.current old.held c.give.new.seat.me c.give.ensures.given;
      in_range = subst (λ (t : TableId). old.slot < t.slots) (sym table) old.in_range;
      all_slots = released_slots old.slot old.seat.me old.current old.held c.give.new.seat.me c.give.ensures.given ∙ (old.all_slots ∙ ap (λ (t : TableId). t.slots) (sym table));
      authors = released_authors old.slot old.seat.me old.current old.held c.give.new.seat.me c.give.ensures.given;
    }

pub returns-clause-its_own : goal.returns-clause-its_own
returns-clause-its_own c =
    let old = c.args.held in
    record {
      same_table = c.give.ensures.same ∙ c.requires.its_own.same_table;
      same_first = released_first old.slot old.seat.me old.current old.held c.give.new.seat.me c.give.ensures.given ∙ c.requires.its_own.same_first;
    }

pub returns-clause-released : goal.returns-clause-released
returns-clause-released c =
    let old = c.args.held in
    record {
      same_place = record {
        same_table = c.give.ensures.same;
        same_first = released_first old.slot old.seat.me old.current old.held c.give.new.seat.me c.give.ensures.given;
        same_place = refl;
      };
      knows = released_knows old.slot old.seat.me old.current old.held c.give.new.seat.me c.give.ensures.given;
    }
