-- What a seat knows that has taken the slot of its session, reads or makes a change by the session there, and gives the slot back.
use Rattle.std.proofs.Common.{◌≡◌, ℕ, ◌<◌, Option, Some, None, List, ◌∷◌, refl, sym, ap, ◌∙◌, subst}
use Rattle.std.specs.Prelude.{◌^◌}
use Rattle.std.specs.Arc.{arc_value}
use mathlib.Core.List.{IsPrefix}
use Rattle.atomic_table.specs.Table.{rest}
use Rattle.blink_batch.specs.declared.Answer.{Answer}
use Rattle.blink_batch.specs.declared.Entry.{Entry}
use Rattle.blink_batch.specs.declared.Op.{Op}
use Rattle.blink_batch.specs.{key_of, pointer_of}
use Rattle.blink_live.specs.{IsReport, IsReportBack, IsSnapshot, after}
use Rattle.blink_generation.specs.declared.map.Map.{Map}
use Rattle.blink_generation.specs.declared.map.Session.{Session as MapSession}
use Rattle.blink_generation.specs.{AnswersInOrder as AnswersInMap, IsSameBesideSeen as SeesMoreInMap, IsSessionOf as IsSessionIn, made_by, opening_of, seen_by}
use Rattle.blink_map.specs.declared.growing.Session.{Session}
use Rattle.blink_map.specs.declared.slots.Current.{Current}
use Rattle.blink_map.specs.declared.slots.Known.{Known}
use Rattle.blink_map.specs.Holding.{AnswersFrom}
use Rattle.blink_map.specs.Own.{IsIdle, own_of}
use Rattle.blink_map.specs.Rule.{IsContinued, SlotSeat, known_of}
use Rattle.blink_map.specs.Sessions.{IsSameBesideSeen}
use Rattle.blink_map.specs.Steps.{CanGive, Taken, has_given, past_of}
use Rattle.blink_map.specs.Taking.{HasOwnSlot, HasTakenSlot, IsGivenBack, IsIdleAgain, StaysCurrent}
use Rattle.blink_map.proofs.CallsOfSessions.{authors_again, can_give, first_again, held_with, idle_again, in_order_all, made_same, moved_on, none_counted, report_all, report_back_all, saw_more, slots_again, snapshot_all, tells}
use Rattle.blink_map.proofs.OutSlots.{first_is_full, head_rest, taken_out}

-- ---- the slot isn't empty

pub own_out : (slot : ℕ) (me : SlotSeat) (own : HasOwnSlot slot me) → me.1 ≡ (slot, Some own.taken.0) ∷ rest me.1
own_out slot me own = head_rest slot (Some own.taken.0) me.1 own.before.1 (ap (λ (m : SlotSeat). m.1) own.taken.1.is)

pub not_empty : (slot : ℕ) (me : SlotSeat) (own : HasOwnSlot slot me) (found : Option Current) → me.1 ≡ (slot, found) ∷ rest me.1 → found ≡ None → ⊥
not_empty slot me own found there is = first_is_full slot own.taken.0 found (rest me.1) (rest me.1) (sym (own_out slot me own) ∙ there) is

-- ---- the session in the slot

module _ (slot : ℕ) (me : SlotSeat) (own : HasOwnSlot slot me) (found : Option Current) (current : Current) (there : me.1 ≡ (slot, found) ∷ rest me.1) (is : found ≡ Some current) where
  -- as if the session were out of the slot
  abbrev pub emptied : SlotSeat
  emptied = (me.0, (slot, None) ∷ rest me.1)

  taken_then : Taken slot current None own.before emptied
  taken_then = taken_out slot own.taken.0 current found own.before me emptied own.taken.1 there is refl

  pub its_then : (map : Map) → map ≡ arc_value current.map → IsSessionIn map current.session
  its_then map same = subst (λ (m : Map). IsSessionIn m current.session) (sym (same ∙ taken_then.its.same_map)) taken_then.its.its_own

  first_same : me.0.first ≡ own.before.0.first
  first_same = ap (λ (m : SlotSeat). m.0.first) own.taken.1.is

  slots_same : me.0.slots ≡ own.before.0.slots
  slots_same = ap (λ (m : SlotSeat). m.0.slots) own.taken.1.is

  knows_same : own_of me.0 ≡ own_of own.before.0
  knows_same = ap (λ (m : SlotSeat). own_of m.0) own.taken.1.is

  -- ---- a read by it

  module _ (session : MapSession) (same : SeesMoreInMap current.session session) where
    pub can_give_then : CanGive slot emptied (held_with current session current.changes)
    can_give_then = can_give slot own.before emptied current own.idle taken_then session current.changes same.same_member (none_counted current session same.made) same.saw

    module _ (after_me : SlotSeat) (given_is : after_me ≡ (has_given me.0 slot (known_of (past_of me.0.now) slot (held_with current session current.changes)), rest me.1)) where
      pub idle_then : IsIdleAgain slot me after_me
      idle_then = record {
        idle = idle_again slot own.before emptied current own.idle taken_then session current.changes same.same_member (none_counted current session same.made) after_me given_is;
        authors = authors_again slot own.before emptied current own.idle taken_then session current.changes same.same_member (none_counted current session same.made) after_me given_is;
        same_first = first_again slot own.before emptied current own.idle taken_then session current.changes same.same_member (none_counted current session same.made) after_me given_is ∙ sym first_same;
        same_slots = slots_again slot own.before emptied current own.idle taken_then session current.changes same.same_member (none_counted current session same.made) after_me given_is ∙ sym slots_same;
        saw = subst (λ (k : Known). IsPrefix k.seen (own_of after_me.0).seen) (sym knows_same) (saw_more slot own.before emptied current own.idle taken_then session current.changes same.same_member (none_counted current session same.made) after_me given_is same.saw);
        made = made_same slot own.before emptied current own.idle taken_then session current.changes same.same_member (none_counted current session same.made) after_me given_is same.made ∙ ap (λ (k : Known). k.made) (sym knows_same);
      }

      module _ (first : List Entry) (same_first : me.0.first ≡ first) where
        pub tells_then : (shown : Option ℕ) (key : ℕ) → key < 2 ^ 64 → shown ≡ after (pointer_of (opening_of (arc_value current.map))) (seen_by session) key → shown ≡ after (pointer_of first) (own_of after_me.0).seen key
        tells_then = tells slot own.before emptied current own.idle taken_then session current.changes same.same_member (none_counted current session same.made) after_me given_is first (sym first_same ∙ same_first)

        pub report_then : (lo stop : ℕ) (entries : List Entry) → ((key : ℕ) → key < stop → key < 2 ^ 64) → IsReport (opening_of (arc_value current.map)) (seen_by current.session) (seen_by session) lo stop entries
            → IsReport first (own_of me.0).seen (own_of after_me.0).seen lo stop entries
        report_then lo stop entries fits report = subst (λ (k : Known). IsReport first k.seen (own_of after_me.0).seen lo stop entries) (sym knows_same)
            (report_all slot own.before emptied current own.idle taken_then session current.changes same.same_member (none_counted current session same.made) after_me given_is first (sym first_same ∙ same_first) lo stop entries fits report)

        pub report_back_then : (lo hi : ℕ) (entries : List Entry) → hi < 2 ^ 64 → IsReportBack (opening_of (arc_value current.map)) (seen_by current.session) (seen_by session) lo hi entries
            → IsReportBack first (own_of me.0).seen (own_of after_me.0).seen lo hi entries
        report_back_then lo hi entries fits report = subst (λ (k : Known). IsReportBack first k.seen (own_of after_me.0).seen lo hi entries) (sym knows_same)
            (report_back_all slot own.before emptied current own.idle taken_then session current.changes same.same_member (none_counted current session same.made) after_me given_is first (sym first_same ∙ same_first) lo hi entries fits report)

        pub snapshot_then : (lo hi : ℕ) (entries : List Entry) → hi < 2 ^ 64 → IsSnapshot (opening_of (arc_value current.map)) (seen_by session) lo hi entries → IsSnapshot first (own_of after_me.0).seen lo hi entries
        snapshot_then = snapshot_all slot own.before emptied current own.idle taken_then session current.changes same.same_member (none_counted current session same.made) after_me given_is first (sym first_same ∙ same_first)

  -- ---- a change by it

  module _ (new : Current) (stays : StaysCurrent current new) where
    can_give_with : CanGive slot emptied (held_with current new.session new.changes)
    can_give_with = can_give slot own.before emptied current own.idle taken_then new.session new.changes stays.same_member stays.counted stays.saw

    pub can_give_changed : CanGive slot emptied new
    can_give_changed = subst (CanGive slot emptied) (sym (moved_on current new stays)) can_give_with

    module _ (after_me : SlotSeat) (given_is : after_me ≡ (has_given me.0 slot (known_of (past_of me.0.now) slot new), rest me.1)) where
      pub given_back : IsGivenBack slot me after_me
      given_back = record {
        idle = idle_again slot own.before emptied current own.idle taken_then new.session new.changes stays.same_member stays.counted after_me given_is;
        authors = authors_again slot own.before emptied current own.idle taken_then new.session new.changes stays.same_member stays.counted after_me given_is;
        same_first = first_again slot own.before emptied current own.idle taken_then new.session new.changes stays.same_member stays.counted after_me given_is ∙ sym first_same;
        same_slots = slots_again slot own.before emptied current own.idle taken_then new.session new.changes stays.same_member stays.counted after_me given_is ∙ sym slots_same;
      }

      pub continues : made_by new.session ≡ made_by current.session → IsContinued (own_of me.0) (own_of after_me.0)
      continues same_made = subst (λ (k : Known). IsContinued k (own_of after_me.0)) (sym knows_same) (record {
        saw = saw_more slot own.before emptied current own.idle taken_then new.session new.changes stays.same_member stays.counted after_me given_is stays.saw;
        made = sym (made_same slot own.before emptied current own.idle taken_then new.session new.changes stays.same_member stays.counted after_me given_is same_made);
      })

      pub answers_then : (first : List Entry) → me.0.first ≡ first → (op : Op) → key_of op < 2 ^ 64 → (answer : Answer) → AnswersInMap (opening_of (arc_value current.map)) op current.session.member new.session.member answer
          → AnswersFrom first op slot (own_of me.0) (own_of after_me.0) answer
      answers_then first same_first op inside answer i =
          let all = in_order_all slot own.before emptied current own.idle taken_then new.session new.changes stays.same_member stays.counted after_me given_is first (sym first_same ∙ same_first) op inside answer i in
          subst (λ (k : Known). AnswersFrom first op slot k (own_of after_me.0) answer) (sym knows_same)
          (record { before = all.0; saw = all.1; answers = all.2; goes_on = all.3; made = all.4 })

-- ---- a session of which the seat took the slot, and gave it back

module _ (slot : ℕ) (me at_slot : SlotSeat) (idle : IsIdle slot me) (taken : HasTakenSlot slot me at_slot) where
  pub has_own : HasOwnSlot slot at_slot
  has_own = record { before = me; idle = idle; taken = taken }

  pub first_at_slot : at_slot.0.first ≡ me.0.first
  first_at_slot = ap (λ (m : SlotSeat). m.0.first) taken.1.is

  pub knows_at_slot : own_of at_slot.0 ≡ own_of me.0
  knows_at_slot = ap (λ (m : SlotSeat). own_of m.0) taken.1.is

  pub as_before : (after_me : SlotSeat) → IsIdleAgain slot at_slot after_me → IsIdleAgain slot me after_me
  as_before after_me again = record {
    idle = again.idle;
    authors = again.authors;
    same_first = again.same_first ∙ first_at_slot;
    same_slots = again.same_slots ∙ ap (λ (m : SlotSeat). m.0.slots) taken.1.is;
    saw = subst (λ (k : Known). IsPrefix k.seen (own_of after_me.0).seen) knows_at_slot again.saw;
    made = again.made ∙ ap (λ (k : Known). k.made) knows_at_slot;
  }

pub same_beside_seen : (old new : Session) → new.seat.table_id ≡ old.seat.table_id → new.slot ≡ old.slot → IsIdleAgain old.slot old.seat.me new.seat.me → IsSameBesideSeen old new
same_beside_seen old new table place again = record {
  saw = again.saw;
  made = again.made;
  same_slot = record { same_table = table; same_first = again.same_first; same_place = place };
}
