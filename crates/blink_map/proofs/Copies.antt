-- A renewal copies the entries while searches go on. Where no more changes are counted afterwards, the copy has all of them.
use Rattle.std.proofs.Common.{◌≡◌, ℕ, suc, ◌+◌, ◌<◌, ◌≤◌, ◌^◌, Option, List, [], length, append-nil, refl, sym, ap, ◌∙◌, subst, ⊎_elim, arith}
use mathlib.Core.Option.{some}
use lib.ListN.{get_elem?}
use Rattle.std.specs.Arc.{arc_value}
use Rattle.atomic_table.specs.declared.Seat.{Seat}
use Rattle.blink_batch.specs.declared.Entry.{Entry}
use Rattle.blink_batch.specs.{pointer_of}
use Rattle.blink_live.specs.declared.view.Change.{Change}
use Rattle.blink_live.specs.{after, made_at}
use Rattle.blink_live.proofs.Offered.{prefix_of_prefix}
use Rattle.blink_generation.specs.declared.map.Map.{Map}
use Rattle.blink_generation.specs.{made_by, opening_of as opening_of_map, place_of, seen_by}
use Rattle.blink_map.specs.declared.growing.GrowingMap.{GrowingMap}
use Rattle.blink_map.specs.declared.slots.Current.{Current}
use Rattle.blink_map.specs.declared.slots.SlotView.{SlotView}
use Rattle.blink_map.specs.Counts.{changes_of}
use Rattle.blink_map.specs.Laid.{slot_behind}
use Rattle.blink_map.specs.Renewing.{AreEntriesSeen, HasHeardAll, HaveSeenOwn, IsCopied, IsNoted, IsRenewing, MaySeeMore, made_behind, sum_of}
use Rattle.blink_map.specs.Sessions.{opening_of, places_of}
use Rattle.blink_map.proofs.CallsOfSessions.{saw_authors, saw_own}
use Rattle.blink_map.proofs.Gathers.{heard_then, lead_sees_more}
use Rattle.blink_map.proofs.NoChangeMore.{IsBehind, counted_at_least, counted_at_most, made_more, no_change_more, none_greater, one_of_counted, one_or_behind, sum_at_most}

abbrev SlotsSeat : Type 0
SlotsSeat = Seat (Option Current) SlotView

-- ---- a session that may see more, and more again

pub sees_same : (held : Current) → MaySeeMore held held
sees_same held = record { same_map = refl; saw = ([], append-nil (seen_by held.session)); made = refl; same_member = record { same_table = refl; same_plan = refl; same_place = refl }; same_changes = refl }

pub sees_twice : (one two three : Current) → MaySeeMore one two → MaySeeMore two three → MaySeeMore one three
sees_twice one two three a b = record {
  same_map = b.same_map ∙ a.same_map;
  saw = prefix_of_prefix (seen_by one.session) (seen_by two.session) (seen_by three.session) a.saw b.saw;
  made = b.made ∙ a.made;
  same_member = record {
    same_table = b.same_member.same_table ∙ a.same_member.same_table;
    same_plan = b.same_member.same_plan ∙ a.same_member.same_plan;
    same_place = b.same_member.same_place ∙ a.same_member.same_place;
  };
  same_changes = b.same_changes ∙ a.same_changes;
}

-- ---- the changes are counted before

module _ (map : GrowingMap) (seat : SlotsSeat) (copier : ℕ) (lead : Current) (others : List Current) (r : IsRenewing map seat copier lead others) where
  -- the changes of a session that are counted are those that it has made
  counted_made : (k : ℕ) (held : Current) → get_elem? others k ≡ some held → changes_of others + 1 < 2 ^ 64 → length (made_by held.session) ≡ held.changes
  counted_made k held is few = (r.each k held is).its.counted (let one = one_of_counted others k held is in omega (arith, one, few))

  pub is_noted : (noted : ℕ) → HasHeardAll lead others → suc (length others) ≡ places_of map → (noted + 1 < 2 ^ 64 → noted ≡ changes_of others) → IsNoted (places_of map) copier lead noted
  is_noted noted heard all counted = record {
    count = length others;
    width = all;
    saw = λ few.
        let same = counted few in
        let most = counted_at_most others (made_behind copier (seen_by lead.session)) (each (subst (λ (n : ℕ). n + 1 < 2 ^ 64) same few)) in
        omega (arith, same, most);
  }
    where
      each : changes_of others + 1 < 2 ^ 64 → (k : ℕ) (held : Current) → get_elem? others k ≡ some held → held.changes ≤ made_behind copier (seen_by lead.session) k
      each few k held is =
          let its = (r.each k held is).its in
          let made = counted_made k held is few in
          let own = ap (λ (l : List Change). length l) (saw_own (opening_of map) (places_of map) (slot_behind copier k) r.now held r.is_generation its) in
          let more = made_more (slot_behind copier k) (seen_by held.session) (seen_by lead.session) (heard k held is) in
          omega (arith, made, own, more)

  -- ---- and after

  module _ (before : Current) (since : MaySeeMore before lead) (noted : ℕ) (then : IsNoted (places_of map) copier before noted) (few : noted + 1 < 2 ^ 64) (same : noted ≡ changes_of others) (all : suc (length others) ≡ places_of map) (own : HaveSeenOwn lead others) where
    abbrev f : ℕ → ℕ
    f = made_behind copier (seen_by before.session)

    abbrev g : ℕ → ℕ
    g = made_behind copier (seen_by lead.session)

    grows : (k : ℕ) → f k ≤ g k
    grows k = made_more (slot_behind copier k) (seen_by before.session) (seen_by lead.session) since.saw

    made_now : (k : ℕ) (held : Current) → get_elem? others k ≡ some held → g k ≤ held.changes
    made_now k held is =
        let its = (r.each k held is).its in
        let made = counted_made k held is (subst (λ (n : ℕ). n + 1 < 2 ^ 64) same few) in
        let seen = ap (λ (l : List Change). length l) (ap (λ (n : ℕ). made_at n (seen_by lead.session)) (sym its.its_place) ∙ own k held is) in
        omega (arith, made, seen)

    sums : sum_of then.count g ≤ sum_of then.count f
    sums =
        let same_count : length others ≡ then.count = let width = then.width in omega (arith, width, all) in
        let least : sum_of then.count g ≤ changes_of others = subst (λ (n : ℕ). sum_of n g ≤ changes_of others) same_count (counted_at_least others g made_now) in
        let most = then.saw few in
        omega (arith, same, least, most)

    lead_place : place_of before.session ≡ copier
    lead_place = sym since.same_member.same_place ∙ r.first_one.its.its_place

    lead_made : made_at copier (seen_by lead.session) ≡ made_at copier (seen_by before.session)
    lead_made = saw_own (opening_of map) (places_of map) copier r.now lead r.is_generation r.first_one.its
        ∙ (since.made ∙ (sym before.session.member.authors.0 ∙ ap (λ (n : ℕ). made_at n (seen_by before.session)) lead_place))

    no_more : (slot : ℕ) → slot < places_of map → length (made_at slot (seen_by lead.session)) ≤ length (made_at slot (seen_by before.session))
    no_more slot inside = ⊎_elim
        (λ (is : slot ≡ copier). let here = ap (λ (l : List Change). length l) lead_made in subst (λ (n : ℕ). length (made_at n (seen_by lead.session)) ≤ length (made_at n (seen_by before.session))) (sym is) (omega (arith, here)))
        (λ (is : IsBehind copier then.count slot). subst (λ (n : ℕ). length (made_at n (seen_by lead.session)) ≤ length (made_at n (seen_by before.session))) is.2 (none_greater then.count f g grows sums is.0 is.1))
        (one_or_behind copier then.count slot (let width = then.width in let within = r.in_range in omega (arith, width, within)) (let width = then.width in omega (arith, width, inside)))

    pub all_seen : seen_by before.session ≡ seen_by lead.session
    all_seen = no_change_more (places_of map) (seen_by before.session) (seen_by lead.session) since.saw (saw_authors (opening_of map) (places_of map) copier r.now lead r.is_generation r.first_one.its) no_more

    pub entries_still : (entries : List Entry) → AreEntriesSeen before entries → AreEntriesSeen lead entries
    entries_still entries kept key inside =
        kept key inside
        ∙ (ap (λ (m : Map). after (pointer_of (opening_of_map m)) (seen_by before.session) key) (sym since.same_map)
        ∙ ap (λ (l : List Change). after (pointer_of (opening_of_map (arc_value lead.map))) l key) all_seen)

  pub is_copied : (before : Current) (since : MaySeeMore before lead) (noted : ℕ) → IsNoted (places_of map) copier before noted → noted + 1 < 2 ^ 64 → noted ≡ changes_of others → suc (length others) ≡ places_of map → HasHeardAll lead others
      → (entries : List Entry) → AreEntriesSeen before entries → IsCopied map seat copier lead others entries
  is_copied before since noted then few same all heard entries kept = record {
    renewing = r;
    heard = heard;
    all = all;
    kept = λ own. entries_still before since noted then few same all own entries kept;
  }

  -- the entries were copied when all slots were taken
  pub is_copied_anew : (later : Current) → MaySeeMore lead later → HasHeardAll lead others → suc (length others) ≡ places_of map → (entries : List Entry) → AreEntriesSeen later entries → IsCopied map seat copier later others entries
  is_copied_anew later more heard all entries kept = record {
    renewing = lead_sees_more map seat copier lead later others r more;
    heard = heard_then lead later others heard more.saw;
    all = all;
    kept = λ own. kept;
  }

-- what was noted is noted still, when the copier has seen more
pub noted_still : (slots copier noted : ℕ) (lead later : Current) → IsNoted slots copier lead noted → MaySeeMore lead later → IsNoted slots copier later noted
noted_still slots copier noted lead later is more = record {
  count = is.count;
  width = is.width;
  saw = λ few.
      let was = is.saw few in
      let grown = sum_at_most is.count (made_behind copier (seen_by lead.session)) (made_behind copier (seen_by later.session)) (λ k. made_more (slot_behind copier k) (seen_by lead.session) (seen_by later.session) more.saw) in
      omega (arith, was, grown);
}
