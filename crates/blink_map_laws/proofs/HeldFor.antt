-- A session that was held for an operation: what it has seen and made once it is free again.
use Rattle.std.proofs.Common.{ℕ, Option, None, Some, Result, Ok, Err, List, [], ◌++◌, sym, ap, ◌∙◌, subst, append-nil}
use Rattle.std.specs.Prelude.{IfOk, OnErr}
use mathlib.Core.List.{IsPrefix}
use Rattle.blink_batch.specs.declared.Answer.{Answer}
use Rattle.blink_batch.specs.declared.Op.{Op}
use Rattle.blink_batch.specs.{key_of, pointer_of}
use Rattle.blink_live.specs.declared.view.Change.{Change}
use Rattle.blink_live.specs.{after, changes_made}
use Rattle.blink_live.proofs.Offered.{prefix_of_prefix}
use Rattle.blink_map.specs.declared.error.GrowError.{GrowError}
use Rattle.blink_map.specs.declared.growing.GrowingMap.{GrowingMap}
use Rattle.blink_map.specs.declared.growing.Session.{Session}
use Rattle.blink_map.specs.declared.held.Held.{Held}
use Rattle.blink_map.specs.declared.slots.Known.{Known}
use Rattle.blink_map.specs.{HasSamePlace, HasSameSlot, IsAnswered, IsAnsweredHeld, IsHeldFrom, IsHeldOn, IsReleased, IsSameBesideSeen, IsSameSession, IsSessionOf, known_by, made_by, opening_of, place_of, place_of_held, seen_by}
use Rattle.blink_map_laws.specs.Calls.{IsChangeTried}
use Rattle.blink_map_laws.proofs.SessionsRaise.{same_twice}
use Rattle.blink_map_laws.proofs.TriesToRaise.{tried_twice}

-- a session that is as it was has seen no less
pub still_same : (old new : Session) → IsSameSession old new → IsSameBesideSeen old new
still_same old new same = record {
  saw = subst (λ (l : List Change). IsPrefix (seen_by old) l) (sym same.seen) ([], append-nil (seen_by old));
  made = same.made;
  same_slot = same.same_slot;
}

module _ (session : Session) (held then : Held) (new : Session) (from : IsHeldFrom session held) (free : IsReleased then new) where
  -- it is of the same place
  of_same : HasSamePlace held.seat held.slot then.seat then.slot → HasSameSlot session new
  of_same same = record {
    same_table = free.same_place.same_table ∙ (same.same_table ∙ from.same_place.same_table);
    same_first = free.same_place.same_first ∙ (same.same_first ∙ from.same_place.same_first);
    same_place = free.same_place.same_place ∙ (same.same_place ∙ from.same_place.same_place);
  }

  pub seen_while_held : IsHeldOn held then → IsSameBesideSeen session new
  seen_while_held on = record {
    saw = subst (λ (known : Known). IsPrefix (seen_by session) known.seen) (sym free.knows)
        (prefix_of_prefix (seen_by session) (known_by held).seen (known_by then).seen from.knows.saw on.knows.saw);
    made = ap (λ (known : Known). known.made) free.knows ∙ (sym on.knows.made ∙ sym from.knows.made);
    same_slot = of_same on.same_place;
  }

  pub answered_while_held : (map : GrowingMap) (op : Op) (answer : Answer) → IsAnsweredHeld map op held then answer → IsAnswered map op session new answer
  answered_while_held map op answer is =
      let was : Option ℕ = after (pointer_of (opening_of map)) is.in_order.before (key_of op) in
      record {
        in_order = record {
          before = is.in_order.before;
          saw = prefix_of_prefix (seen_by session) (known_by held).seen is.in_order.before from.knows.saw is.in_order.saw;
          answers = is.in_order.answers;
          goes_on = subst (λ (place : ℕ). IsPrefix (is.in_order.before ++ changes_made place op was) (seen_by new)) from.same_place.same_place
              (subst (λ (known : Known). IsPrefix (is.in_order.before ++ changes_made (place_of_held held) op was) known.seen) (sym free.knows) is.in_order.goes_on);
          made = ap (λ (known : Known). known.made) free.knows
              ∙ (is.in_order.made
              ∙ (ap (λ (l : List Change). l ++ changes_made (place_of_held held) op was) (sym from.knows.made)
              ∙ ap (λ (place : ℕ). made_by session ++ changes_made place op was) from.same_place.same_place));
        };
        same_slot = of_same is.same_place;
      }

-- ---- one try after others

module _ (map : GrowingMap) (op : Op) (old middle new : Session) (first : IsSameBesideSeen old middle) where
  pub answered_after : (answer : Answer) → IsAnswered map op middle new answer → IsAnswered map op old new answer
  answered_after answer is =
      let was : Option ℕ = after (pointer_of (opening_of map)) is.in_order.before (key_of op) in
      record {
        in_order = record {
          before = is.in_order.before;
          saw = prefix_of_prefix (seen_by old) (seen_by middle) is.in_order.before first.saw is.in_order.saw;
          answers = is.in_order.answers;
          goes_on = subst (λ (place : ℕ). IsPrefix (is.in_order.before ++ changes_made place op was) (seen_by new)) first.same_slot.same_place is.in_order.goes_on;
          made = is.in_order.made
              ∙ (ap (λ (l : List Change). l ++ changes_made (place_of middle) op was) first.made
              ∙ ap (λ (place : ℕ). made_by old ++ changes_made place op was) first.same_slot.same_place);
        };
        same_slot = same_twice old middle new first.same_slot is.same_slot;
      }

  pub change_tried_after : (outcome : Option (Result Answer GrowError)) → IsChangeTried map op middle new outcome → IsChangeTried map op old new outcome
  change_tried_after None is = tried_twice old middle new first is
  change_tried_after (Some (Err why)) is = tried_twice old middle new first is
  change_tried_after (Some (Ok answer)) is = answered_after answer is

  -- the last try says how the call ends
  pub change_ended_after : (outcome : Result Answer GrowError) → IsChangeTried map op middle new (Some outcome)
      → IfOk outcome (IsAnswered map op old new) × OnErr outcome (IsSameBesideSeen old new)
  change_ended_after (Ok answer) is = (answered_after answer is, tt)
  change_ended_after (Err why) is = (tt, tried_twice old middle new first is)

pub its_after : (map : GrowingMap) (old new : Session) → IsSessionOf map old → IsSameBesideSeen old new → IsSessionOf map new
its_after map old new its same = record { same_table = same.same_slot.same_table ∙ its.same_table; same_first = same.same_slot.same_first ∙ its.same_first }
