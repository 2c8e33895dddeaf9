-- A record that is stored behind all that its seat knows of a leaf's row, and then counted, makes the next version of the leaf.
use Rattle.std.proofs.Common.{◌≡◌, ℕ, ◌+◌, ◌*◌, ◌<◌, ◌≤◌, Option, Some, List, [], ◌∷◌, ◌++◌, length, length-append, refl, sym, ap, ◌∙◌, subst, arith}
use mathlib.Core.List.{append-nil}
use Rattle.atomic_table.specs.declared.Seat.{Seat}
use Rattle.blink_batch.specs.declared.Op.{Op}
use Rattle.blink_page.specs.{PlainPage}
use Rattle.blink_rows.specs.{counted, page_after, page_word, page_words, record_words, records_in, row_in}
use Rattle.blink_rows.specs.declared.limits.TheConstants.{HEAD_WORDS, KIND_LIMIT, MAX_RECORDS, RECORD_LIMIT, ROW_WORDS}
use Rattle.blink_rows.specs.declared.log.Record.{Record}
use Rattle.blink_rows.specs.declared.naming.Records.{Records}
use Rattle.blink_rows.proofs.Offered.{counts_in_range}
use Rattle.blink_machine.specs.{PlainMachine, page_out}
use Rattle.blink_live.specs.declared.descent.Descent.{Descent}
use Rattle.blink_live.specs.declared.descent.Spot.{Spot}
use Rattle.blink_live.specs.declared.live.Live.{Live}
use Rattle.blink_live.specs.declared.room.Room.{Room}
use Rattle.blink_live.specs.declared.view.Appending.{Appending}
use Rattle.blink_live.specs.declared.view.View.{View}
use Rattle.blink_live.specs.Additions.{CountsAdded, IsNextWord}
use Rattle.blink_live.specs.Seats.{HasSameNumber, ReadsVersion}
use Rattle.blink_live.specs.Shelves.{IsShelved}
use Rattle.blink_live.specs.Straight.{IsToChange, added_nothing, changing}
use Rattle.blink_live.specs.Updating.{HasDecided, HasLeft, IsUnderWay, IsUpdating, UsesSpareFirst, decided, not_yet}
use Rattle.blink_live.specs.Views.{SeatState, adds_one, for_call}
use Rattle.blink_live.specs.Words.{IsVersion}
use Rattle.blink_live.proofs.changed.RowsAreLent.{shelved_so}
use Rattle.blink_live.proofs.changed.UpdatesGoOn as on
use Rattle.blink_live.proofs.found.RecordsInRow.{base_long, behind_long, count_is}
use Rattle.blink_live.proofs.table.VersionsOfPages.{counts_one_more, next_word, same_row, version_more}

added_decided : (op : Op) (first v : View) (m : PlainMachine) (appends : Option Appending) → HasDecided op first v m → HasDecided op first (record v { appends = appends }) m
added_decided op first v m appends (not_yet none is) = not_yet none is
added_decided op first v m appends (decided given) = decided given

-- a word that is stored behind the row's leaves the operation where it is
has_added : {live : Live} {op : Op} {first seat : Seat ℕ View} {m : PlainMachine} {room : Room} → IsUnderWay live op first seat m room → (next : Seat ℕ View) → HasSameNumber seat next → (appends : Option Appending) → next.me ≡ (record seat.me.0 { appends = appends }, seat.me.1) → IsUnderWay live op first next m room
has_added {live} {op} {first} {seat} {m} {room} is next same appends now = record {
  can = is.can;
  same_number = (same.0 ∙ is.same_number.0, same.1 ∙ is.same_number.1);
  updating = subst (λ (x : SeatState). IsUpdating op (for_call first.me.0 op, first.me.1) x m) (sym now) record {
    same = (on.same_call_trans (for_call first.me.0 op) seat.me.0 (record seat.me.0 { appends = appends }) is.updating.same.0 refl, is.updating.same.1);
    saw = is.updating.saw;
    knows_own = record { state = is.updating.knows_own.state; changes = is.updating.knows_own.changes };
    operation = is.updating.operation;
    same_op = is.updating.same_op;
    next = is.updating.next;
    has_decided = added_decided op (for_call first.me.0 op) seat.me.0 m appends is.updating.has_decided;
    past_descent = is.updating.past_descent;
    answers_at_end = is.updating.answers_at_end;
  };
  room_is = subst (λ (x : SeatState). (room.rows ≡ x.0.call.rows) × (room.pages ≡ x.0.call.pages)) (sym now) is.room_is;
  latch_number = is.latch_number;
  shelved = subst (λ (x : SeatState). IsShelved room.shelf x.0) (sym now) (shelved_so room.shelf seat.me.0 (record seat.me.0 { appends = appends }) refl refl is.shelved);
  left = subst (λ (x : SeatState). HasLeft room.shelf (for_call first.me.0 op).call x.0.call m) (sym now) is.left;
  spare_first = subst (λ (x : SeatState). UsesSpareFirst first.me.0 x.0) (sym now) is.spare_first;
}

module _ {live : Live} {op : Op} {descent : Descent} {first seat : Seat ℕ View} {room : Room} {spot : Spot} {r : Record} (to : IsToChange live op descent first seat room spot r) (few : (records_in spot.word).count < MAX_RECORDS)
    (inside : HEAD_WORDS + 2 * (spot.base + (records_in spot.word).count + 1) ≤ ROW_WORDS) where
  abbrev its : ReadsVersion seat.me spot.word to.page
  its = to.version

  abbrev machine : PlainMachine
  machine = changing live.fan op descent spot to.page r

  fits_row : HEAD_WORDS + 2 * (length its.base.entries + (records_in spot.word).count + 1) ≤ ROW_WORDS
  fits_row = let same = to.base in omega (arith, same, inside)

  -- all that the seat knows of the row
  long : length (page_words its.base ++ seat.me.0.behind) ≡ 6 + 2 * (spot.base + (records_in spot.word).count)
  long =
      let one : length (page_words its.base ++ seat.me.0.behind) ≡ length (page_words its.base) + length seat.me.0.behind = length-append (page_words its.base) seat.me.0.behind in
      let base = base_long its in
      let behind = behind_long its in
      let many = count_is its in
      let same = to.base in
      omega (arith, one, base, behind, many, same)

  pub key_next : (place : ℕ) → place ≡ 6 + 2 * (spot.base + (records_in spot.word).count) → IsNextWord (row_in spot.word) place seat.me
  key_next place is = record {
    a = added_nothing descent.leaf spot.word;
    content = page_words its.base;
    appends = to.appends;
    reads = its.reads;
    same_row = refl;
    next = is ∙ (sym long ∙ ap (λ (ws : List ℕ). length ws) (sym (append-nil (page_words its.base ++ seat.me.0.behind))));
  }

  -- a page word has room for what it counts then
  pub told_in_range : (told : Records) → told ≡ counted (its.version.records ++ r ∷ []) → (told.count < RECORD_LIMIT) × (told.kinds < KIND_LIMIT)
  told_in_range told counts =
      let many = count_is its in
      let longer : length (its.version.records ++ r ∷ []) ≡ length its.version.records + 1 = length-append its.version.records (r ∷ []) in
      subst (λ (x : Records). (x.count < RECORD_LIMIT) × (x.kinds < KIND_LIMIT)) (sym counts) (counts_in_range (its.version.records ++ r ∷ []) (omega (arith, many, longer, few)))

  -- the key is stored
  module _ (keyed : Seat ℕ View) (key : keyed.me ≡ (adds_one seat.me.0 (added_nothing descent.leaf spot.word) r.key, seat.me.1)) where
    abbrev pub with_key : Appending
    with_key = record { number = descent.leaf; word = spot.word; words = r.key ∷ [] }

    pub key_added : keyed.me.0.appends ≡ Some with_key
    key_added = ap (λ (x : SeatState). x.0.appends) key

    pub under_way_keyed : HasSameNumber seat keyed → IsUnderWay live op first keyed machine room
    under_way_keyed same = has_added to.under_way keyed same (Some with_key) key

    pub pointer_next : (place : ℕ) → place ≡ 6 + 2 * (spot.base + (records_in spot.word).count) + 1 → IsNextWord (row_in spot.word) place keyed.me
    pointer_next place is = record {
      a = with_key;
      content = page_words its.base;
      appends = key_added;
      reads = ap (λ (x : SeatState). x.0.reads) key ∙ its.reads;
      same_row = refl;
      next =
          let known = long in
          let longer : length ((page_words its.base ++ seat.me.0.behind) ++ r.key ∷ []) ≡ length (page_words its.base ++ seat.me.0.behind) + 1 = length-append (page_words its.base ++ seat.me.0.behind) (r.key ∷ []) in
          let here : place ≡ length ((page_words its.base ++ seat.me.0.behind) ++ r.key ∷ []) = omega (arith, is, known, longer) in
          here ∙ ap (λ (x : SeatState). length ((page_words its.base ++ x.0.behind) ++ r.key ∷ [])) (sym key);
    }

    -- and the pointer
    module _ (both : Seat ℕ View) (pointer : both.me ≡ (adds_one keyed.me.0 with_key r.pointer, keyed.me.1)) where
      abbrev pub with_both : Appending
      with_both = record { number = descent.leaf; word = spot.word; words = r.key ∷ r.pointer ∷ [] }

      pub both_is : both.me ≡ (record seat.me.0 { appends = Some with_both }, seat.me.1)
      both_is = pointer ∙ ap (λ (x : SeatState). let y : SeatState = (adds_one x.0 with_key r.pointer, x.1) in y) key

      pub under_way_then : HasSameNumber seat both → IsUnderWay live op first both machine room
      under_way_then same = has_added to.under_way both same (Some with_both) both_is

      -- the page word counts it
      module _ (told : Records) (counts : told ≡ counted (its.version.records ++ r ∷ [])) where
        next_is : next_word its.version its.lawful r to.fits few fits_row ≡ page_word (row_in spot.word) told
        next_is = ap (page_word (row_in spot.word)) (sym counts)

        behind_is : seat.me.0.behind ≡ both.me.0.behind
        behind_is = ap (λ (x : SeatState). x.0.behind) (sym both_is)

        pub record_counted : CountsAdded descent.leaf (page_word (row_in spot.word) told) both.me (page_out machine 0)
        record_counted = record {
          a = with_both;
          base = its.base;
          appends = ap (λ (x : SeatState). x.0.appends) both_is;
          same_number = refl;
          reads = ap (λ (x : SeatState). x.0.reads) both_is ∙ its.reads;
          same_row = ap row_in (sym next_is) ∙ same_row its.version its.lawful r to.fits few fits_row;
          more = subst (λ (k : ℕ). (records_in spot.word).count < (records_in k).count) next_is (counts_one_more its.version its.lawful r to.fits few fits_row);
          version = subst (λ (t : ℕ × (List ℕ × PlainPage)). IsVersion t.0 its.base (t.1.0 ++ record_words r) t.1.1) (λ i. (next_is i, (behind_is i, page_after to.page r))) (version_more its.version its.lawful r to.fits few fits_row);
        }
