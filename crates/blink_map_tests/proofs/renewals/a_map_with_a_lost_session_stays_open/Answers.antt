use Rattle.std.proofs.Common.{Option, Some, None, refl, sym, ◌∙◌, subst}
use Rattle.std.specs.Prelude.{IfSome, IsNone}
use Rattle.blink_batch.specs.declared.Answer.{Answer}
use Rattle.blink_batch.specs.declared.Op.{Op}
use Rattle.blink_map.specs.declared.growing.GrowingMap.{GrowingMap}
use Rattle.blink_map.specs.declared.growing.Session.{Session}
use Rattle.blink_map.specs.{IsAnswered, IsSameBesideSeen, IsSessionOf}
use Rattle.blink_map_tests.proofs.renewals.a_map_with_a_lost_session_stays_open.Goals as goal

-- a session is its map's after an operation, whether that was made or not
still_its : (map : GrowingMap) (op : Op) (old new : Session) (given : Option Answer) → IfSome given (IsAnswered map op old new) → (IsNone given → IsSameBesideSeen old new) → IsSessionOf map old → IsSessionOf map new
still_its map op old new (Some answer) answered unchanged its = record { same_table = answered.same_slot.same_table ∙ its.same_table; same_first = answered.same_slot.same_first ∙ its.same_first }
still_its map op old new None answered unchanged its = let same = unchanged refl in record { same_table = same.same_slot.same_table ∙ its.same_table; same_first = same.same_slot.same_first ∙ its.same_first }

pub try_find-requires : goal.try_find-requires
try_find-requires g c = record {
  its_own = subst (λ (map : GrowingMap). IsSessionOf map c.try_change-answer.new.session) (sym c.in-Err.ensures.unclosed.same_map)
      (still_its c.two-map.result.0 _ c.two-map.result.1 c.try_change-answer.new.session c.try_change-answer.result c.try_change-answer.ensures.answered c.try_change-answer.ensures.unchanged c.two-map.ensures.ones);
}
