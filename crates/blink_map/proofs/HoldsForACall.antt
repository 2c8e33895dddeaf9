-- What a call tells of a session that is held for it and released again.
use Rattle.std.proofs.Common.{◌≡◌, ℕ, List, ◌++◌, sym, ap, ◌∙◌, subst}
use mathlib.Core.List.{IsPrefix}
use Rattle.blink_batch.specs.declared.Answer.{Answer}
use Rattle.blink_batch.specs.declared.Op.{Op}
use Rattle.blink_batch.specs.{key_of, pointer_of}
use Rattle.blink_live.specs.declared.view.Change.{Change}
use Rattle.blink_live.specs.{after, changes_made}
use Rattle.blink_live.proofs.Offered.{prefix_of_prefix}
use Rattle.blink_map.specs.declared.growing.GrowingMap.{GrowingMap}
use Rattle.blink_map.specs.declared.growing.Session.{Session}
use Rattle.blink_map.specs.declared.held.Held.{Held}
use Rattle.blink_map.specs.declared.slots.Known.{Known}
use Rattle.blink_map.specs.Holding.{IsAnsweredHeld, IsHeldFrom, IsHeldOf, IsHeldOn, IsReleased, known_by, known_to}
use Rattle.blink_map.specs.Sessions.{IsAnswered, IsSameBesideSeen, opening_of, place_of}

pub still_held : (map : GrowingMap) (held then : Held) → IsHeldOf map held → IsHeldOn held then → IsHeldOf map then
still_held map held then its on = record { same_table = on.same_place.same_table ∙ its.same_table; same_first = on.same_place.same_first ∙ its.same_first }

pub held_answered : (map : GrowingMap) (op : Op) (held then : Held) (answer : Answer) → IsHeldOf map held → IsAnsweredHeld map op held then answer → IsHeldOf map then
held_answered map op held then answer its i = record { same_table = i.same_place.same_table ∙ its.same_table; same_first = i.same_place.same_first ∙ its.same_first }

module _ (session : Session) (held then : Held) (released : Session) (from : IsHeldFrom session held) (free : IsReleased then released) where
  -- it is as it was, except that it may have seen more
  pub same_by_holding : IsHeldOn held then → IsSameBesideSeen session released
  same_by_holding on = record {
    saw = subst (λ (k : Known). IsPrefix (known_to session).seen k.seen) (sym free.knows) (prefix_of_prefix (known_to session).seen (known_by held).seen (known_by then).seen from.knows.saw on.knows.saw);
    made = ap (λ (k : Known). k.made) free.knows ∙ sym (from.knows.made ∙ on.knows.made);
    same_slot = record {
      same_table = free.same_place.same_table ∙ (on.same_place.same_table ∙ from.same_place.same_table);
      same_first = free.same_place.same_first ∙ (on.same_place.same_first ∙ from.same_place.same_first);
      same_place = free.same_place.same_place ∙ (on.same_place.same_place ∙ from.same_place.same_place);
    };
  }

  -- what the held session answered, the session has
  pub answered_by_holding : (map : GrowingMap) (op : Op) (answer : Answer) → IsAnsweredHeld map op held then answer → IsAnswered map op session released answer
  answered_by_holding map op answer i =
      let before = i.in_order.before in
      let at : List Change = changes_made held.slot op (after (pointer_of (opening_of map)) before (key_of op)) in
      let own : List Change = changes_made (place_of session) op (after (pointer_of (opening_of map)) before (key_of op)) in
      let place : at ≡ own = ap (λ (n : ℕ). changes_made n op (after (pointer_of (opening_of map)) before (key_of op))) from.same_place.same_place in
      record {
        in_order = record {
          before = before;
          saw = prefix_of_prefix (known_to session).seen (known_by held).seen before from.knows.saw i.in_order.saw;
          answers = i.in_order.answers;
          goes_on = subst (λ (l : List Change). IsPrefix (before ++ l) (known_to released).seen) place
              (subst (λ (k : Known). IsPrefix (before ++ at) k.seen) (sym free.knows) i.in_order.goes_on);
          made = ap (λ (k : Known). k.made) free.knows ∙ (i.in_order.made ∙ (ap (λ (l : List Change). (known_by held).made ++ l) place ∙ ap (λ (l : List Change). l ++ own) (sym from.knows.made)));
        };
        same_slot = record {
          same_table = free.same_place.same_table ∙ (i.same_place.same_table ∙ from.same_place.same_table);
          same_first = free.same_place.same_first ∙ (i.same_place.same_first ∙ from.same_place.same_first);
          same_place = free.same_place.same_place ∙ (i.same_place.same_place ∙ from.same_place.same_place);
        };
      }
