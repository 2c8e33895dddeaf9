-- The next map goes on from all that the sessions of the current one have seen, and its sessions can lie in the slots.
use Rattle.std.proofs.Common.{◌≡◌, ℕ, zero, suc, ◌<◌, ◌^◌, Option, List, [], ◌++◌, length, append-nil, refl, sym, ap, ◌∙◌, subst, ⊎_elim, arith}
use mathlib.Core.Option.{some, some-injective}
use mathlib.Core.List.{IsPrefix}
use lib.ListN.{get_elem?}
use Rattle.std.specs.Arc.{arc_value}
use Rattle.atomic_table.specs.declared.Seat.{Seat}
use Rattle.blink_batch.specs.declared.Entry.{Entry}
use Rattle.blink_batch.specs.{pointer_of}
use Rattle.blink_live.specs.declared.view.Change.{Change}
use Rattle.blink_live.specs.{after, made_at}
use Rattle.blink_live.proofs.Offered.{made_at-append, made_between, prefix_of_prefix}
use Rattle.blink_generation.specs.declared.map.Map.{Map}
use Rattle.blink_generation.specs.declared.map.Session.{Session as MapSession}
use Rattle.blink_generation.specs.{IsSameBesideSeen, IsSessionOf, made_by, opening_of as opening_of_map, place_of, seen_by}
use Rattle.blink_map.specs.declared.growing.GrowingMap.{GrowingMap}
use Rattle.blink_map.specs.declared.slots.Current.{Current}
use Rattle.blink_map.specs.declared.slots.Generation.{Generation}
use Rattle.blink_map.specs.declared.slots.Known.{Known}
use Rattle.blink_map.specs.declared.slots.SlotView.{SlotView}
use Rattle.blink_map.specs.Closing.{HasEnded}
use Rattle.blink_map.specs.Laid.{IsFirstIn, slot_behind}
use Rattle.blink_map.specs.Rule.{Account, IsGeneration, SlotSeat, generation_of}
use Rattle.blink_map.specs.Renewing.{AreEntriesSeen, AreNext, AreOfOneMap, HasHeardAll, HasSeenOwn, HaveSeenOwn, IsCopied, IsRenewing, IsTakenFor, slots_out}
use Rattle.blink_map.specs.Sessions.{opening_of, places_of}
use Rattle.blink_map.specs.Steps.{AreAllTaken, Follows, Switched}
use Rattle.blink_map.proofs.Basics.{in_list, prefix_behind, prefix_refl, there_is}
use Rattle.blink_map.proofs.CallsOfSessions.{knows_all, whole_list}
use Rattle.blink_map.proofs.NoChangeMore.{IsBehind, one_or_behind}

abbrev SlotsSeat : Type 0
SlotsSeat = Seat (Option Current) SlotView

-- ---- what was known in a taken slot is in the longer list

-- the session of the slot, of which all is seen by the one that leads
module _ (now : Generation) (taken : List Account) (level slot : ℕ) (held lead : Current) (one : IsTakenFor now taken level slot held) (heard : IsPrefix (seen_by held.session) (seen_by lead.session)) (own : HasSeenOwn lead held) where
  abbrev all_seen : List Change
  all_seen = now.past ++ seen_by lead.session

  pub known_is_seen : IsPrefix one.known.seen all_seen
  known_is_seen = prefix_of_prefix one.known.seen (now.past ++ seen_by held.session) all_seen one.is.saw (prefix_behind now.past (seen_by held.session) (seen_by lead.session) heard)

  own_at_slot : made_at slot (seen_by lead.session) ≡ made_by held.session
  own_at_slot = ap (λ (n : ℕ). made_at n (seen_by lead.session)) (sym one.its.its_place) ∙ own

  pub known_is_made : one.known.made ≡ made_at slot all_seen
  known_is_made = one.is.made ∙ (ap (λ (l : List Change). made_at slot now.past ++ l) (sym own_at_slot) ∙ sym (made_at-append slot now.past (seen_by lead.session)))

-- the slot is one of those taken
abbrev IsThere : List Account → ℕ → Type 0
IsThere taken slot = (k : ℕ) × (known : Known) × (get_elem? taken k ≡ some (slot, known))

same_known : (taken : List Account) (level slot : ℕ) (known : Known) (one : Account) → get_elem? taken level ≡ some (slot, known) → get_elem? taken level ≡ some one → (slot, known) ≡ one
same_known taken level slot known one there is = some-injective (slot, known) one (sym there ∙ is)

module _ (map : GrowingMap) (seat : SlotsSeat) (copier : ℕ) (lead : Current) (others : List Current) (r : IsRenewing map seat copier lead others) where
  -- all slots are taken
  pub all_taken : suc (length others) ≡ places_of map → AreAllTaken (places_of map) seat.me.0.taken
  all_taken all = record { each = each }
    where
      each : (slot : ℕ) → slot < places_of map → IsThere seat.me.0.taken slot
      each slot inside = ⊎_elim
          (λ (same : slot ≡ copier). subst (IsThere seat.me.0.taken) (sym same) (0, r.first_one.known, r.first_one.there))
          (λ (is : IsBehind copier (length others) slot).
          let held = there_is others is.0 is.1 in
          let one = r.each is.0 held.0 held.1 in
          subst (IsThere seat.me.0.taken) is.2 (suc is.0, one.known, one.there))
          (one_or_behind copier (length others) slot (let within = r.in_range in omega (arith, all, within)) (omega (arith, all, inside)))

  lead_seen_own : HasSeenOwn lead lead
  lead_seen_own = lead.session.member.authors.0

  module _ (heard : HasHeardAll lead others) (own : HaveSeenOwn lead others) where
    abbrev all_changes : List Change
    all_changes = r.now.past ++ seen_by lead.session

    pub saw_all : (k : ℕ) (one : Account) → get_elem? seat.me.0.taken k ≡ some one → IsPrefix one.1.seen all_changes
    saw_all zero one is = subst (λ (a : Account). IsPrefix a.1.seen all_changes) (same_known seat.me.0.taken 0 copier r.first_one.known one r.first_one.there is)
        (known_is_seen r.now seat.me.0.taken 0 copier lead lead r.first_one (prefix_refl (seen_by lead.session)) lead_seen_own)
    saw_all (suc k) one is =
        let held = there_is others k (let inside = in_list seat.me.0.taken (suc k) one is in let w = r.width in omega (arith, inside, w)) in
        let its = r.each k held.0 held.1 in
        subst (λ (a : Account). IsPrefix a.1.seen all_changes) (same_known seat.me.0.taken (suc k) (slot_behind copier k) its.known one its.there is)
        (known_is_seen r.now seat.me.0.taken (suc k) (slot_behind copier k) held.0 lead its (heard k held.0 held.1) (own k held.0 held.1))

    pub made_all : (k : ℕ) (one : Account) → get_elem? seat.me.0.taken k ≡ some one → one.1.made ≡ made_at one.0 all_changes
    made_all zero one is = subst (λ (a : Account). a.1.made ≡ made_at a.0 all_changes) (same_known seat.me.0.taken 0 copier r.first_one.known one r.first_one.there is)
        (known_is_made r.now seat.me.0.taken 0 copier lead lead r.first_one (prefix_refl (seen_by lead.session)) lead_seen_own)
    made_all (suc k) one is =
        let held = there_is others k (let inside = in_list seat.me.0.taken (suc k) one is in let w = r.width in omega (arith, inside, w)) in
        let its = r.each k held.0 held.1 in
        subst (λ (a : Account). a.1.made ≡ made_at a.0 all_changes) (same_known seat.me.0.taken (suc k) (slot_behind copier k) its.known one its.there is)
        (known_is_made r.now seat.me.0.taken (suc k) (slot_behind copier k) held.0 lead its (heard k held.0 held.1) (own k held.0 held.1))

    -- the entries are what the whole list leaves
    pub kept_all : (entries : List Entry) → AreEntriesSeen lead entries → (key : ℕ) → key < 2 ^ 64 → pointer_of entries key ≡ after (pointer_of (opening_of map)) all_changes key
    kept_all entries kept key inside = kept key inside
        ∙ (ap (λ (m : Map). after (pointer_of (opening_of_map m)) (seen_by lead.session) key) r.first_one.its.same_map
        ∙ whole_list (opening_of map) (places_of map) r.now r.is_generation (seen_by lead.session) key inside)

    module _ (entries : List Entry) (kept : AreEntriesSeen lead entries) (first : Current) (rest : List Current) (next : AreNext entries (places_of map) copier first rest) where
      goes_on : (key : ℕ) → key < 2 ^ 64 → pointer_of (opening_of_map next.map) key ≡ after (pointer_of (opening_of map)) all_changes key
      goes_on key inside = ap (λ (l : List Entry). pointer_of l key) next.opened ∙ kept_all entries kept key inside

      is_next : IsGeneration (opening_of map) (places_of map) (generation_of next.map all_changes)
      is_next = record {
        goes_on = goes_on;
        authors = knows_all (opening_of map) (places_of map) copier r.now lead r.is_generation r.first_one.its;
        places = next.places;
      }

      same_map : generation_of next.map all_changes ≡ generation_of (arc_value first.map) all_changes
      same_map = ap (λ (m : Map). generation_of m all_changes) (sym next.first_one.same_map)

      follows_here : Follows seat.me.0 (generation_of next.map all_changes)
      follows_here = record {
        is_generation = subst (λ (l : List Entry). IsGeneration l seat.me.0.slots (generation_of next.map all_changes)) (sym r.same_first) (subst (λ (n : ℕ). IsGeneration (opening_of map) n (generation_of next.map all_changes)) (sym r.same_slots) is_next);
        saw = saw_all;
        made = made_all;
      }

      pub next_follows : Follows seat.me.0 (generation_of (arc_value first.map) all_changes)
      next_follows = subst (λ (g : Generation). Follows seat.me.0 g) same_map follows_here

-- ---- the seat has switched to the next map

module _ (map : GrowingMap) (old new : SlotsSeat) (copier : ℕ) (lead : Current) (others : List Current) (r : IsRenewing map old copier lead others) (same : new.table_id ≡ old.table_id) (entries : List Entry) (first : Current) (rest : List Current)
    (next : AreNext entries (places_of map) copier first rest) (all : suc (length others) ≡ places_of map) (switched : Switched (arc_value first.map) old.me new.me) where
  abbrev then_now : Generation
  then_now = generation_of (arc_value first.map) switched.past

  same_width : length rest ≡ length others
  same_width = let w = next.width in omega (arith, w, all)

  -- the first session of a place of the next map can lie in its slot
  for_first : (level slot : ℕ) (was held : Current) → IsTakenFor r.now old.me.0.taken level slot was → IsFirstIn next.map slot held → IsTakenFor then_now old.me.0.taken level slot held
  for_first level slot was held one its = record {
    known = one.known;
    there = one.there;
    its = record {
      same_map = its.same_map ∙ sym next.first_one.same_map;
      its_own = subst (λ (m : Map). IsSessionOf m held.session) (sym next.first_one.same_map) its.first.its_own;
      its_place = its.first.its_place;
      counted = λ few. ap (λ (l : List Change). length l) its.first.none_made ∙ sym its.none_counted;
    };
    is = record {
      saw = prefix_of_prefix one.known.seen switched.past (switched.past ++ seen_by held.session) (switched.follows.saw level (slot, one.known) one.there) (seen_by held.session, refl);
      made = switched.follows.made level (slot, one.known) one.there ∙ (sym (append-nil (made_at slot switched.past)) ∙ ap (λ (l : List Change). made_at slot switched.past ++ l) (sym its.first.none_made));
    };
  }

  then_taken : new.me.0.taken ≡ old.me.0.taken
  then_taken = ap (λ (m : SlotSeat). m.0.taken) switched.is

  each_then : (k : ℕ) (held : Current) → get_elem? rest k ≡ some held → IsTakenFor then_now new.me.0.taken (suc k) (slot_behind copier k) held
  each_then k held e =
      let was = there_is others k (let inside = in_list rest k held e in let w = same_width in omega (arith, inside, w)) in
      subst (λ (l : List Account). IsTakenFor then_now l (suc k) (slot_behind copier k) held) (sym then_taken) (for_first (suc k) (slot_behind copier k) was.0 held (r.each k was.0 was.1) (next.each k held e))

  pub is_switched_to : IsRenewing map new copier first rest
  is_switched_to = record {
    now = then_now;
    same_table = same ∙ r.same_table;
    same_first = ap (λ (m : SlotSeat). m.0.first) switched.is ∙ r.same_first;
    same_slots = ap (λ (m : SlotSeat). m.0.slots) switched.is ∙ r.same_slots;
    no_account = ap (λ (m : SlotSeat). m.0.accounts) switched.is ∙ r.no_account;
    is_now = ap (λ (m : SlotSeat). m.0.now) switched.is;
    is_generation = subst (λ (l : List Entry). IsGeneration l (places_of map) then_now) r.same_first (subst (λ (n : ℕ). IsGeneration old.me.0.first n then_now) r.same_slots switched.follows.is_generation);
    width = ap (λ (l : List Account). length l) then_taken ∙ (r.width ∙ ap suc (sym same_width));
    in_range = r.in_range;
    inside = (let w = same_width in let inside = r.inside in omega (arith, w, inside));
    first_one = subst (λ (l : List Account). IsTakenFor then_now l 0 copier first) (sym then_taken) (for_first 0 copier lead first r.first_one next.first_one);
    each = each_then;
    out = ap (λ (m : SlotSeat). m.1) switched.is ∙ (r.out ∙ ap (λ (n : ℕ). slots_out copier n) (sym same_width));
  }

-- ---- a session has seen, of the changes at another's place, exactly what that one has made

pub own_between : (held lead then : MapSession) → IsPrefix (seen_by held) (seen_by lead) → IsPrefix (seen_by lead) (seen_by then) → IsSameBesideSeen held then → made_at (place_of held) (seen_by lead) ≡ made_by held
own_between held lead then before told same =
    made_between (place_of held) (seen_by held) (seen_by lead) (seen_by then) (made_by held) before told held.member.authors.0
    (ap (λ (n : ℕ). made_at n (seen_by then)) (sym same.same_member.same_place) ∙ (then.member.authors.0 ∙ same.made))

-- ---- the sessions in the slots are of one map

pub of_one_map : (map : GrowingMap) (seat : SlotsSeat) (copier : ℕ) (lead : Current) (others : List Current) → IsRenewing map seat copier lead others → IsSessionOf (arc_value lead.map) lead.session × AreOfOneMap lead others
of_one_map map seat copier lead others r =
    let same = r.first_one.its.same_map in (
      subst (λ (m : Map). IsSessionOf m lead.session) (sym same) r.first_one.its.its_own,
      λ k held is. subst (λ (m : Map). IsSessionOf m held.session) (sym same) (r.each k held is).its.its_own,
    )

-- ---- all that was known in the slots is in one list

pub has_ended : (map : GrowingMap) (old : SlotsSeat) (copier : ℕ) (lead : Current) (others : List Current) (entries : List Entry) → IsCopied map old copier lead others entries → HaveSeenOwn lead others → old.me.0.accounts ≡ [] → HasEnded map old entries
has_ended map old copier lead others entries copied own none =
    let r = copied.renewing in
    record {
      final = r.now.past ++ seen_by lead.session;
      same_table = r.same_table;
      same_slots = r.same_slots;
      no_account = none;
      all = all_taken map old copier lead others r copied.all;
      saw = saw_all map old copier lead others r copied.heard own;
      made = made_all map old copier lead others r copied.heard own;
      authors = knows_all (opening_of map) (places_of map) copier r.now lead r.is_generation r.first_one.its;
      kept = kept_all map old copier lead others r copied.heard own entries (copied.kept own);
    }
