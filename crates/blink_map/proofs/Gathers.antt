-- A renewal takes the slots one after another, and gives them back from the last one on.
use Rattle.std.proofs.Common.{◌≡◌, inl, ℕ, suc, ◌+◌, ◌<◌, ◌^◌, Option, Some, None, List, [], ◌∷◌, ◌++◌, length, length-append, refl, sym, ap, ◌∙◌, subst, ⊎_elim, arith}
use mathlib.Core.Option.{some, some-ne-none}
use mathlib.Core.List.{IsPrefix}
use lib.ListN.{get_elem?}
use Rattle.atomic_table.specs.Table.{rest}
use Rattle.atomic_table.specs.declared.Seat.{Seat}
use Rattle.atomic_table.proofs.Lists.{at_last, at_longer}
use Rattle.blink_batch.specs.declared.Entry.{Entry}
use Rattle.blink_live.specs.declared.view.Change.{Change}
use Rattle.blink_live.specs.{made_at}
use Rattle.blink_live.proofs.Offered.{prefix_of_prefix}
use Rattle.blink_generation.specs.{made_by, seen_by}
use Rattle.blink_map.specs.declared.growing.GrowingMap.{GrowingMap}
use Rattle.blink_map.specs.declared.slots.Current.{Current}
use Rattle.blink_map.specs.declared.slots.Generation.{Generation}
use Rattle.blink_map.specs.declared.slots.Known.{Known}
use Rattle.blink_map.specs.declared.slots.SlotView.{SlotView}
use Rattle.blink_map.specs.Laid.{slot_behind}
use Rattle.blink_map.specs.Rule.{Account, IsCurrentAt, IsGeneration, SlotSeat, known_of}
use Rattle.blink_map.specs.Renewing.{HasHeardAll, IsRenewing, IsTakenFor, MaySeeMore, slots_out}
use Rattle.blink_map.specs.Sessions.{opening_of, places_of}
use Rattle.blink_map.specs.Steps.{CanGive, Taken, front_of, has_given, with_known}
use Rattle.blink_map.proofs.Basics.{at_end, front_at, in_list, length_front, prefix_behind, prefix_refl, while_there}
use Rattle.blink_map.proofs.CallsOfSessions.{still_its}
use Rattle.blink_map.proofs.NoChangeMore.{behind_inside}
use Rattle.blink_map.proofs.OutSlots.{head_rest}

abbrev SlotsSeat : Type 0
SlotsSeat = Seat (Option Current) SlotView

-- ---- the session of a taken slot

-- the count is right still
pub counted_still : (held then : Current) → MaySeeMore held then → (held.changes + 1 < 2 ^ 64 → length (made_by held.session) ≡ held.changes) → then.changes + 1 < 2 ^ 64 → length (made_by then.session) ≡ then.changes
counted_still held then more was few = ap (λ (l : List Change). length l) more.made ∙ (was (subst (λ (n : ℕ). n + 1 < 2 ^ 64) more.same_changes few) ∙ sym more.same_changes)

-- it may see more
pub sees_more : (now : Generation) (taken : List Account) (level slot : ℕ) (held then : Current) → IsTakenFor now taken level slot held → MaySeeMore held then → IsTakenFor now taken level slot then
sees_more now taken level slot held then one more = record {
  known = one.known;
  there = one.there;
  its = record {
    same_map = more.same_map ∙ one.its.same_map;
    its_own = still_its now.map held.session then.session one.its.its_own more.same_member;
    its_place = more.same_member.same_place ∙ one.its.its_place;
    counted = counted_still held then more one.its.counted;
  };
  is = record {
    saw = prefix_of_prefix one.known.seen (now.past ++ seen_by held.session) (now.past ++ seen_by then.session) one.is.saw (prefix_behind now.past (seen_by held.session) (seen_by then.session) more.saw);
    made = one.is.made ∙ ap (λ (l : List Change). made_at slot now.past ++ l) (sym more.made);
  };
}

-- one more slot is taken
longer : (now : Generation) (taken : List Account) (one : Account) (level slot : ℕ) (held : Current) → IsTakenFor now taken level slot held → IsTakenFor now (taken ++ one ∷ []) level slot held
longer now taken one level slot held was = record { known = was.known; there = at_longer taken (one ∷ []) level (slot, was.known) was.there; its = was.its; is = was.is }

-- the last one is given back
shorter : (now : Generation) (taken : List Account) (level slot : ℕ) (held : Current) → suc level < length taken → IsTakenFor now taken level slot held → IsTakenFor now (front_of taken) level slot held
shorter now taken level slot held inside was = record { known = was.known; there = front_at taken (slot, was.known) level was.there inside; its = was.its; is = was.is }

-- the slot was just taken
just_taken : (now : Generation) (taken : List Account) (level slot : ℕ) (held : Current) → length taken ≡ level → IsCurrentAt now slot held → IsTakenFor now (taken ++ (slot, known_of now.past slot held) ∷ []) level slot held
just_taken now taken level slot held long its = record {
  known = known_of now.past slot held;
  there = at_last taken (slot, known_of now.past slot held) level long;
  its = its;
  is = record { saw = prefix_refl (known_of now.past slot held).seen; made = refl };
}

-- ---- slots are taken

-- the first one
pub begun : (map : GrowingMap) (old new : SlotsSeat) (copier : ℕ) (lead : Current) → old.table_id ≡ map.table.shared.table_id → new.table_id ≡ old.table_id → old.me.0.first ≡ opening_of map → old.me.0.slots ≡ places_of map → old.me.0.accounts ≡ [] → old.me.0.taken ≡ [] → old.me.1 ≡ [] → copier < places_of map
    → Taken copier lead None old.me new.me → IsRenewing map new copier lead []
begun map old new copier lead its same first slots no_account none_taken none_out inside taken =
    let known : Known = known_of taken.now.past copier lead in
    let now_taken : new.me.0.taken ≡ (copier, known) ∷ [] = ap (λ (m : SlotSeat). m.0.taken) taken.is ∙ ap (λ (l : List Account). l ++ (copier, known) ∷ []) none_taken in
    record {
      now = taken.now;
      same_table = same ∙ its;
      same_first = ap (λ (m : SlotSeat). m.0.first) taken.is ∙ first;
      same_slots = ap (λ (m : SlotSeat). m.0.slots) taken.is ∙ slots;
      no_account = ap (λ (m : SlotSeat). m.0.accounts) taken.is ∙ no_account;
      is_now = ap (λ (m : SlotSeat). m.0.now) taken.is;
      is_generation = subst (λ (n : ℕ). IsGeneration (opening_of map) n taken.now) slots (subst (λ (l : List Entry). IsGeneration l old.me.0.slots taken.now) first taken.is_generation);
      width = ap (λ (l : List Account). length l) now_taken;
      in_range = inside;
      inside = (let within = inside in omega (arith, within));
      first_one = subst (λ (l : List Account). IsTakenFor taken.now l 0 copier lead) (sym now_taken) (just_taken taken.now [] 0 copier lead refl taken.its);
      each = λ k held e. absurd (some-ne-none held (sym e));
      out = ap (λ (m : SlotSeat). m.1) taken.is ∙ ap (λ (l : List (ℕ × Option Current)). let all : List (ℕ × Option Current) = (copier, None) ∷ l in all) none_out;
    }

-- the copier's session may see more
pub lead_sees_more : (map : GrowingMap) (seat : SlotsSeat) (copier : ℕ) (lead then : Current) (others : List Current) → IsRenewing map seat copier lead others → MaySeeMore lead then → IsRenewing map seat copier then others
lead_sees_more map seat copier lead then others r more = record {
  now = r.now;
  same_table = r.same_table;
  same_first = r.same_first;
  same_slots = r.same_slots;
  no_account = r.no_account;
  is_now = r.is_now;
  is_generation = r.is_generation;
  width = r.width;
  in_range = r.in_range;
  inside = r.inside;
  first_one = sees_more r.now seat.me.0.taken 0 copier lead then r.first_one more;
  each = r.each;
  out = r.out;
}

-- the next one
module _ (map : GrowingMap) (old new : SlotsSeat) (copier : ℕ) (lead : Current) (others : List Current) (r : IsRenewing map old copier lead others) (same : new.table_id ≡ old.table_id) where
  module _ (held then : Current) (slot : ℕ) (is_next : slot ≡ slot_behind copier (length others)) (inside : suc (length others) < places_of map) (taken : Taken slot held None old.me new.me) (more : MaySeeMore held then) where
    same_now : r.now ≡ taken.now
    same_now = taken.same_now r.now r.is_now

    abbrev one : Account
    one = (slot, known_of taken.now.past slot held)

    then_taken : new.me.0.taken ≡ old.me.0.taken ++ one ∷ []
    then_taken = ap (λ (m : SlotSeat). m.0.taken) taken.is

    long : length (others ++ then ∷ []) ≡ suc (length others)
    long = let e = length-append others (then ∷ []) in omega (arith, e)

    then_held : IsTakenFor r.now (old.me.0.taken ++ one ∷ []) (suc (length others)) (slot_behind copier (length others)) then
    then_held = subst (λ (n : ℕ). IsTakenFor r.now (old.me.0.taken ++ one ∷ []) (suc (length others)) n then) is_next
        (subst (λ (g : Generation). IsTakenFor g (old.me.0.taken ++ one ∷ []) (suc (length others)) slot then) (sym same_now)
        (sees_more taken.now (old.me.0.taken ++ one ∷ []) (suc (length others)) slot held then (just_taken taken.now old.me.0.taken (suc (length others)) slot held r.width taken.its) more))

    each_then : (k : ℕ) (other : Current) → get_elem? (others ++ then ∷ []) k ≡ some other → IsTakenFor r.now (old.me.0.taken ++ one ∷ []) (suc k) (slot_behind copier k) other
    each_then k other e = ⊎_elim
        (λ (was : get_elem? others k ≡ some other). longer r.now old.me.0.taken one (suc k) (slot_behind copier k) other (r.each k other was))
        (λ (last : (k ≡ length others) × (then ≡ other)). subst (λ (n : ℕ). IsTakenFor r.now (old.me.0.taken ++ one ∷ []) (suc n) (slot_behind copier n) other) (sym last.0) (subst (IsTakenFor r.now (old.me.0.taken ++ one ∷ []) (suc (length others)) (slot_behind copier (length others))) last.1 then_held))
        (at_end others then other k e)

    pub one_more_taken : IsRenewing map new copier lead (others ++ then ∷ [])
    one_more_taken = record {
      now = r.now;
      same_table = same ∙ r.same_table;
      same_first = ap (λ (m : SlotSeat). m.0.first) taken.is ∙ r.same_first;
      same_slots = ap (λ (m : SlotSeat). m.0.slots) taken.is ∙ r.same_slots;
      no_account = ap (λ (m : SlotSeat). m.0.accounts) taken.is ∙ r.no_account;
      is_now = ap (λ (m : SlotSeat). m.0.now) taken.is ∙ ap (λ (g : Generation). Some g) (sym same_now);
      is_generation = r.is_generation;
      width = let all = length-append old.me.0.taken (one ∷ []) in let whole = ap (λ (l : List Account). length l) then_taken in let before = r.width in let n = long in omega (arith, all, whole, before, n);
      in_range = r.in_range;
      inside = let n = long in omega (arith, n, inside);
      first_one = subst (λ (l : List Account). IsTakenFor r.now l 0 copier lead) (sym then_taken) (longer r.now old.me.0.taken one 0 copier lead r.first_one);
      each = λ k other e. subst (λ (l : List Account). IsTakenFor r.now l (suc k) (slot_behind copier k) other) (sym then_taken) (each_then k other e);
      out = ap (λ (m : SlotSeat). m.1) taken.is
          ∙ (ap (λ (l : List (ℕ × Option Current)). let all : List (ℕ × Option Current) = (slot, None) ∷ l in all) r.out
          ∙ (ap (λ (n : ℕ). let all : List (ℕ × Option Current) = (n, None) ∷ slots_out copier (length others) in all) is_next
          ∙ ap (λ (n : ℕ). slots_out copier n) (sym long)));
    }

-- what was heard from others is heard still, and from one more
pub heard_more : (lead then : Current) (others : List Current) (held : Current) → HasHeardAll lead others → IsPrefix (seen_by lead.session) (seen_by then.session) → IsPrefix (seen_by held.session) (seen_by then.session) → HasHeardAll then (others ++ held ∷ [])
heard_more lead then others held heard more its k other e = ⊎_elim
    (λ (was : get_elem? others k ≡ some other). prefix_of_prefix (seen_by other.session) (seen_by lead.session) (seen_by then.session) (heard k other was) more)
    (λ (last : (k ≡ length others) × (held ≡ other)). subst (λ (c : Current). IsPrefix (seen_by c.session) (seen_by then.session)) last.1 its)
    (at_end others held other k e)

pub heard_then : (lead then : Current) (others : List Current) → HasHeardAll lead others → IsPrefix (seen_by lead.session) (seen_by then.session) → HasHeardAll then others
heard_then lead then others heard more k other e = prefix_of_prefix (seen_by other.session) (seen_by lead.session) (seen_by then.session) (heard k other e) more

-- ---- slots are given back

-- the last one
module _ (map : GrowingMap) (old : SlotsSeat) (copier : ℕ) (lead : Current) (others : List Current) (held : Current) (r : IsRenewing map old copier lead (others ++ held ∷ [])) where
  abbrev last : ℕ
  last = slot_behind copier (length others)

  long_all : length (others ++ held ∷ []) ≡ suc (length others)
  long_all = let e = length-append others (held ∷ []) in omega (arith, e)

  last_one : IsTakenFor r.now old.me.0.taken (suc (length others)) last held
  last_one = r.each (length others) held (at_last others held (length others) refl)

  out_last : old.me.1 ≡ (last, None) ∷ slots_out copier (length others)
  out_last = r.out ∙ ap (λ (n : ℕ). slots_out copier n) long_all

  pub last_in_range : last < places_of map
  last_in_range = behind_inside copier (length others) (places_of map) (let n = long_all in let inside = r.inside in omega (arith, n, inside))

  pub can_give_last : CanGive last old.me held
  can_give_last = record {
    level = suc (length others);
    known = last_one.known;
    now = r.now;
    last = r.width ∙ ap suc long_all;
    taken = last_one.there;
    is_now = r.is_now;
    its = last_one.its;
    saw = last_one.is.saw;
    made = inl last_one.is.made;
    out = head_rest last None old.me.1 (slots_out copier (length others)) out_last;
  }

  module _ (new : SlotsSeat) (known : Known) (same : new.table_id ≡ old.table_id) (given : new.me ≡ (has_given old.me.0 last known, rest old.me.1)) where
    front_long : length (front_of old.me.0.taken) ≡ suc (length others)
    front_long = length_front old.me.0.taken (suc (length others)) (r.width ∙ ap suc long_all)

    front_is : new.me.0.taken ≡ front_of old.me.0.taken
    front_is = ap (λ (m : SlotSeat). m.0.taken) given

    front_for : (level slot : ℕ) (other : Current) → level < suc (length others) → IsTakenFor r.now old.me.0.taken level slot other → IsTakenFor r.now new.me.0.taken level slot other
    front_for level slot other inside was = subst (λ (l : List Account). IsTakenFor r.now l level slot other) (sym front_is) (shorter r.now old.me.0.taken level slot other (let w = r.width in let n = long_all in omega (arith, w, n, inside)) was)

    pub last_given : IsRenewing map new copier lead others
    last_given = record {
      now = r.now;
      same_table = same ∙ r.same_table;
      same_first = ap (λ (m : SlotSeat). m.0.first) given ∙ r.same_first;
      same_slots = ap (λ (m : SlotSeat). m.0.slots) given ∙ r.same_slots;
      no_account = ap (λ (m : SlotSeat). m.0.accounts) given ∙ ap (λ (l : List Account). with_known last known l) r.no_account;
      is_now = ap (λ (m : SlotSeat). m.0.now) given ∙ (while_there (front_of old.me.0.taken) old.me.0.now (let n = front_long in omega (arith, n)) ∙ r.is_now);
      is_generation = r.is_generation;
      width = ap (λ (l : List Account). length l) front_is ∙ front_long;
      in_range = r.in_range;
      inside = (let n = long_all in let within = r.inside in omega (arith, n, within));
      first_one = front_for 0 copier lead (omega arith) r.first_one;
      each = λ k other e. front_for (suc k) (slot_behind copier k) other (let within = in_list others k other e in omega (arith, within)) (r.each k other (at_longer others (held ∷ []) k other e));
      out = ap (λ (m : SlotSeat). m.1) given ∙ ap (λ (l : List (ℕ × Option Current)). rest l) out_last;
    }

-- the first one
pub can_give_first : (map : GrowingMap) (old : SlotsSeat) (copier : ℕ) (lead : Current) → IsRenewing map old copier lead [] → CanGive copier old.me lead
can_give_first map old copier lead r = record {
  level = 0;
  known = r.first_one.known;
  now = r.now;
  last = r.width;
  taken = r.first_one.there;
  is_now = r.is_now;
  its = r.first_one.its;
  saw = r.first_one.is.saw;
  made = inl r.first_one.is.made;
  out = head_rest copier None old.me.1 [] r.out;
}

-- ---- the slot wasn't taken

pub still_renewing : (map : GrowingMap) (old new : SlotsSeat) (copier : ℕ) (lead : Current) (others : List Current) → new.table_id ≡ old.table_id → new.me ≡ old.me → IsRenewing map old copier lead others → IsRenewing map new copier lead others
still_renewing map old new copier lead others same me r = record {
  now = r.now;
  same_table = same ∙ r.same_table;
  same_first = ap (λ (m : SlotSeat). m.0.first) me ∙ r.same_first;
  same_slots = ap (λ (m : SlotSeat). m.0.slots) me ∙ r.same_slots;
  no_account = ap (λ (m : SlotSeat). m.0.accounts) me ∙ r.no_account;
  is_now = ap (λ (m : SlotSeat). m.0.now) me ∙ r.is_now;
  is_generation = r.is_generation;
  width = ap (λ (m : SlotSeat). length m.0.taken) me ∙ r.width;
  in_range = r.in_range;
  inside = r.inside;
  first_one = subst (λ (m : SlotSeat). IsTakenFor r.now m.0.taken 0 copier lead) (sym me) r.first_one;
  each = λ k held e. subst (λ (m : SlotSeat). IsTakenFor r.now m.0.taken (suc k) (slot_behind copier k) held) (sym me) (r.each k held e);
  out = ap (λ (m : SlotSeat). m.1) me ∙ r.out;
}
