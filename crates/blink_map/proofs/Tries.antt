-- A change that is tried again.
use Rattle.std.proofs.Common.{◌≡◌, ℕ, List, [], ◌++◌, append-nil, refl, ap, ◌∙◌, subst}
use mathlib.Core.List.{IsPrefix}
use Rattle.blink_batch.specs.declared.Answer.{Answer}
use Rattle.blink_batch.specs.declared.Op.{Op}
use Rattle.blink_batch.specs.{key_of, pointer_of}
use Rattle.blink_live.specs.declared.view.Change.{Change}
use Rattle.blink_live.specs.{after, changes_made}
use Rattle.blink_live.proofs.Offered.{prefix_of_prefix}
use Rattle.blink_map.specs.declared.growing.GrowingMap.{GrowingMap}
use Rattle.blink_map.specs.declared.growing.Session.{Session}
use Rattle.blink_map.specs.Sessions.{HasSameSlot, IsAnswered, IsSameBesideSeen, IsSessionOf, made_by, opening_of, place_of, seen_by}

pub untried : (session : Session) → IsSameBesideSeen session session
untried session = record { saw = ([], append-nil (seen_by session)); made = refl; same_slot = record { same_table = refl; same_first = refl; same_place = refl } }

same_slots : (one two three : Session) → HasSameSlot one two → HasSameSlot two three → HasSameSlot one three
same_slots one two three a b = record { same_table = b.same_table ∙ a.same_table; same_first = b.same_first ∙ a.same_first; same_place = b.same_place ∙ a.same_place }

pub tried_again : (one two three : Session) → IsSameBesideSeen one two → IsSameBesideSeen two three → IsSameBesideSeen one three
tried_again one two three a b = record {
  saw = prefix_of_prefix (seen_by one) (seen_by two) (seen_by three) a.saw b.saw;
  made = b.made ∙ a.made;
  same_slot = same_slots one two three a.same_slot b.same_slot;
}

pub still_of : (map : GrowingMap) (old new : Session) → IsSessionOf map old → IsSameBesideSeen old new → IsSessionOf map new
still_of map old new its same = record { same_table = same.same_slot.same_table ∙ its.same_table; same_first = same.same_slot.same_first ∙ its.same_first }

pub answered_then : (map : GrowingMap) (op : Op) (one two three : Session) (answer : Answer) → IsSameBesideSeen one two → IsAnswered map op two three answer → IsAnswered map op one three answer
answered_then map op one two three answer a i =
    let before = i.in_order.before in
    let changes = λ (n : ℕ). changes_made n op (after (pointer_of (opening_of map)) before (key_of op)) in
    let place : changes (place_of two) ≡ changes (place_of one) = ap changes a.same_slot.same_place in
    record {
      in_order = record {
        before = before;
        saw = prefix_of_prefix (seen_by one) (seen_by two) before a.saw i.in_order.saw;
        answers = i.in_order.answers;
        goes_on = subst (λ (l : List Change). IsPrefix (before ++ l) (seen_by three)) place i.in_order.goes_on;
        made = i.in_order.made ∙ (ap (λ (l : List Change). made_by two ++ l) place ∙ ap (λ (l : List Change). l ++ changes (place_of one)) a.made);
      };
      same_slot = same_slots one two three a.same_slot i.same_slot;
    }
