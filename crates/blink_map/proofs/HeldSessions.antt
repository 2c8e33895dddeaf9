-- What a session knows when it is held, and when it is released.
use Rattle.std.proofs.Common.{◌≡◌, ℕ, suc, ◌<◌, inr, Option, Some, None, List, [], ◌∷◌, ◌++◌, length, refl, sym, ap, ◌∙◌, subst, append_assoc, arith}
use Rattle.std.specs.Prelude.{◌^◌, drop, take}
use Rattle.std.proofs.lemmas.List.{take-append-drop}
use Rattle.std.proofs.Math.Seq.{take-append_seam, take-length}
use mathlib.Core.List.{IsPrefix}
use mathlib.Core.Option.{some}
use lib.ListN.{get_elem?}
use Rattle.std.specs.Arc.{arc_value}
use Rattle.atomic_table.specs.declared.Seat.{Seat}
use Rattle.atomic_table.specs.Table.{rest}
use Rattle.blink_batch.specs.declared.Answer.{Answer}
use Rattle.blink_batch.specs.declared.Entry.{Entry}
use Rattle.blink_batch.specs.declared.Op.{Op}
use Rattle.blink_batch.specs.{answer_at, key_of, pointer_of}
use Rattle.blink_live.specs.declared.view.Change.{Change}
use Rattle.blink_live.specs.{HaveAuthors, IsReport, IsReportBack, IsSnapshot, after, changes_made, made_at}
use Rattle.blink_live.proofs.Offered.{prefix_of_prefix}
use Rattle.blink_generation.specs.declared.map.Session.{Session as MapSession}
use Rattle.blink_generation.specs.{AnswersAsSeen, AnswersInOrder, IsSameMember, made_by, opening_of, place_of, seen_by}
use Rattle.blink_map.specs.declared.slots.Current.{Current}
use Rattle.blink_map.specs.declared.slots.Generation.{Generation}
use Rattle.blink_map.specs.declared.slots.Known.{Known}
use Rattle.blink_map.specs.declared.slots.SlotView.{SlotView}
use Rattle.blink_map.specs.Held.{GoesOnFrom, IsHeld, held_in}
use Rattle.blink_map.specs.Holding.{AnswersFrom}
use Rattle.blink_map.specs.Own.{IsIdle, KnowsAuthors, own_in, own_of}
use Rattle.blink_map.specs.Rule.{Account, IsContinued, IsCurrentAt, IsGeneration, SlotSeat, known_of}
use Rattle.blink_map.specs.Steps.{CanGive, Taken, front_of, has_given, has_taken, past_of, while_some, with_known}
use Rattle.blink_map.specs.Taking.{StaysCurrent}
use Rattle.blink_map.proofs.Basics.{prefix_behind, with_own}
use Rattle.blink_map.proofs.CallsOfSessions.{IsCounted, held_with, knows_all, knows_own, moved_on, none_counted, still_current, whole_list}

-- ---- one list goes on from another

pub goes_on_from : (old new : List Change) → IsPrefix old new → GoesOnFrom old new
goes_on_from old new more = ap (take (length old)) (sym more.1) ∙ take-append_seam old more.0

pub is_prefix : (old new : List Change) → GoesOnFrom old new → IsPrefix old new
is_prefix old new is = (drop (length old) new, ap (λ (l : List Change). l ++ drop (length old) new) (sym is) ∙ take-append-drop (length old) new)

-- ---- a session is held

module _ (slot : ℕ) (me out : SlotSeat) (current : Current) (idle : IsIdle slot me) (taken : Taken slot current None me out) where
  abbrev known : Known
  known = known_of taken.now.past slot current

  view_is : out.0 ≡ has_taken me.0 taken.now (slot, known)
  view_is = ap (λ (m : SlotSeat). m.0) taken.is

  past_is : past_of out.0.now ≡ taken.now.past
  past_is = ap (λ (v : SlotView). past_of v.now) view_is

  now_is : taken.now ≡ held_in out current
  now_is = λ i. record { map = sym taken.its.same_map i; past = sym past_is i }

  taken_is : out.0.taken ≡ (slot, known) ∷ []
  taken_is = ap (λ (v : SlotView). v.taken) view_is ∙ ap (λ (l : List Account). l ++ (slot, known) ∷ []) idle.none_taken

  known_is : own_in out.0.taken ≡ known_of (past_of out.0.now) slot current
  known_is = ap own_in taken_is ∙ ap (λ (past : List Change). known_of past slot current) (sym past_is)

  own_is : own_of out.0 ≡ own_of me.0
  own_is = ap own_of view_is

  pub is_held : IsHeld slot out current
  is_held = record {
    alone = ap (λ (v : SlotView). v.accounts) view_is ∙ (idle.alone ∙ ap (λ (k : Known). let l : List Account = (slot, k) ∷ [] in l) (sym own_is));
    is_now = ap (λ (v : SlotView). v.now) view_is ∙ ap (λ (g : Generation). Some g) now_is;
    is_generation = subst (λ (v : SlotView). IsGeneration v.first v.slots (held_in out current)) (sym view_is) (subst (IsGeneration me.0.first me.0.slots) now_is taken.is_generation);
    its = subst (λ (g : Generation). IsCurrentAt g slot current) now_is taken.its;
    taken = taken_is ∙ ap (λ (k : Known). let l : List Account = (slot, k) ∷ [] in l) (sym (ap own_in taken_is));
    goes_on = subst (λ (k : Known). GoesOnFrom k.seen (known_of (past_of out.0.now) slot current).seen) (sym known_is) (take-length (known_of (past_of out.0.now) slot current).seen);
    out = ap (λ (m : SlotSeat). m.1) taken.is ∙ ap (λ (l : List (ℕ × Option Current)). let all : List (ℕ × Option Current) = (slot, None) ∷ l in all) idle.none_out;
  }

  pub held_knows : IsContinued (own_of me.0) (known_of (past_of out.0.now) slot current)
  held_knows = subst (λ (past : List Change). IsContinued (own_of me.0) (known_of past slot current)) (sym past_is) (taken.own 0 (own_of me.0) (ap (λ (l : List Account). get_elem? l 0) idle.alone))

  pub held_first : out.0.first ≡ me.0.first
  held_first = ap (λ (v : SlotView). v.first) view_is

  pub held_slots : out.0.slots ≡ me.0.slots
  held_slots = ap (λ (v : SlotView). v.slots) view_is

-- ---- a held session is released

module _ (slot : ℕ) (me : SlotSeat) (current : Current) (held : IsHeld slot me current) where
  abbrev known_then : Known
  known_then = known_of (past_of me.0.now) slot current

  pub can_release : CanGive slot me current
  can_release = record {
    level = 0;
    known = own_in me.0.taken;
    now = held_in me current;
    last = ap (λ (l : List Account). length l) held.taken;
    taken = ap (λ (l : List Account). get_elem? l 0) held.taken;
    is_now = held.is_now;
    its = held.its;
    saw = is_prefix (own_in me.0.taken).seen known_then.seen held.goes_on;
    made = inr (0, own_of me.0, ap (λ (l : List Account). get_elem? l 0) held.alone);
    out = held.out ∙ (λ i. (slot, None) ∷ sym (ap (λ (l : List (ℕ × Option Current)). rest l) held.out) i);
  }

  module _ (then : SlotSeat) (is : then ≡ (has_given me.0 slot known_then, rest me.1)) where
    accounts_is : then.0.accounts ≡ (slot, known_then) ∷ []
    accounts_is = ap (λ (m : SlotSeat). m.0.accounts) is ∙ (ap (with_known slot known_then) held.alone ∙ with_own slot known_then (own_of me.0))

    pub released_knows : own_of then.0 ≡ known_then
    released_knows = ap (λ (l : List Account). own_in l) accounts_is

    front_is : front_of me.0.taken ≡ []
    front_is = ap (λ (l : List Account). front_of l) held.taken

    pub is_idle : IsIdle slot then
    is_idle = record {
      alone = accounts_is ∙ ap (λ (k : Known). let l : List Account = (slot, k) ∷ [] in l) (sym released_knows);
      none_now = ap (λ (m : SlotSeat). m.0.now) is ∙ ap (λ (l : List Account). while_some l me.0.now) front_is;
      none_taken = ap (λ (m : SlotSeat). m.0.taken) is ∙ front_is;
      none_out = ap (λ (m : SlotSeat). m.1) is ∙ ap (λ (l : List (ℕ × Option Current)). rest l) held.out;
    }

    pub released_first : then.0.first ≡ me.0.first
    released_first = ap (λ (m : SlotSeat). m.0.first) is

    pub released_slots : then.0.slots ≡ me.0.slots
    released_slots = ap (λ (m : SlotSeat). m.0.slots) is

    pub released_authors : KnowsAuthors slot then.0
    released_authors = record {
      own = subst (λ (k : Known). made_at slot k.seen ≡ k.made) (sym released_knows) (knows_own me.0.first me.0.slots slot (held_in me current) current held.is_generation held.its);
      all = subst (λ (n : ℕ). HaveAuthors n (own_of then.0).seen) (sym released_slots) (subst (λ (k : Known). HaveAuthors me.0.slots k.seen) (sym released_knows) (knows_all me.0.first me.0.slots slot (held_in me current) current held.is_generation held.its));
    }

-- ---- a call of a held session

module _ (slot : ℕ) (me : SlotSeat) (current : Current) (held : IsHeld slot me current) (session : MapSession) where
  abbrev past : List Change
  past = past_of me.0.now

  -- one that may have made changes, of which so many are counted
  pub held_counted : (changes : ℕ) → IsPrefix (seen_by current.session) (seen_by session) → IsSameMember current.session.member session.member → IsCounted current session changes → IsHeld slot me (held_with current session changes)
  held_counted changes more same counted = record {
    alone = held.alone;
    is_now = held.is_now;
    is_generation = held.is_generation;
    its = still_current (held_in me current) slot current session changes held.its same counted;
    taken = held.taken;
    goes_on = goes_on_from (own_in me.0.taken).seen (past ++ seen_by session)
        (prefix_of_prefix (own_in me.0.taken).seen (past ++ seen_by current.session) (past ++ seen_by session) (is_prefix (own_in me.0.taken).seen (past ++ seen_by current.session) held.goes_on) (prefix_behind past (seen_by current.session) (seen_by session) more));
    out = held.out;
  }

  pub held_again : IsPrefix (seen_by current.session) (seen_by session) → IsSameMember current.session.member session.member → made_by session ≡ made_by current.session → IsHeld slot me (held_with current session current.changes)
  held_again more same made = held_counted current.changes more same (none_counted current session made)

  pub knows_more : IsPrefix (seen_by current.session) (seen_by session) → made_by session ≡ made_by current.session → IsContinued (known_of past slot current) (known_of past slot (held_with current session current.changes))
  knows_more more same = record { saw = prefix_behind past (seen_by current.session) (seen_by session) more; made = ap (λ (l : List Change). made_at slot past ++ l) (sym same) }

  -- what the current map's list leaves is what the whole list leaves of the first entries
  module _ (first : List Entry) (same_first : me.0.first ≡ first) where
    pub left_by_whole : (changes : List Change) (key : ℕ) → key < 2 ^ 64 → after (pointer_of (opening_of (arc_value current.map))) changes key ≡ after (pointer_of first) (past ++ changes) key
    left_by_whole changes key inside = whole_list me.0.first me.0.slots (held_in me current) held.is_generation changes key inside ∙ ap (λ (l : List Entry). after (pointer_of l) (past ++ changes) key) same_first

    pub report_whole : (lo stop : ℕ) (entries : List Entry) → ((key : ℕ) → key < stop → key < 2 ^ 64) → IsReport (opening_of (arc_value current.map)) (seen_by current.session) (seen_by session) lo stop entries
        → IsReport first (past ++ seen_by current.session) (past ++ seen_by session) lo stop entries
    report_whole lo stop entries fits report = record {
      front = λ key. past ++ report.front key;
      fronts = record {
        ascend = λ key greater order. prefix_behind past (report.front key) (report.front greater) (report.fronts.ascend key greater order);
        from_old = λ key. prefix_behind past (seen_by current.session) (report.front key) (report.fronts.from_old key);
        to_new = λ key. prefix_behind past (report.front key) (seen_by session) (report.fronts.to_new key);
      };
      exact = λ key from below. report.exact key from below ∙ left_by_whole (report.front key) key (fits key below);
      ascending = report.ascending;
      between = report.between;
    }

    pub report_back_whole : (lo hi : ℕ) (entries : List Entry) → hi < 2 ^ 64 → IsReportBack (opening_of (arc_value current.map)) (seen_by current.session) (seen_by session) lo hi entries
        → IsReportBack first (past ++ seen_by current.session) (past ++ seen_by session) lo hi entries
    report_back_whole lo hi entries fits report = record {
      front = λ key. past ++ report.front key;
      fronts = record {
        descend = λ key greater order. prefix_behind past (report.front greater) (report.front key) (report.fronts.descend key greater order);
        from_old = λ key. prefix_behind past (seen_by current.session) (report.front key) (report.fronts.from_old key);
        to_new = λ key. prefix_behind past (report.front key) (seen_by session) (report.fronts.to_new key);
      };
      exact = λ key from up_to. report.exact key from up_to ∙ left_by_whole (report.front key) key (omega (arith, fits, up_to));
      descending = report.descending;
      between = report.between;
    }

    pub snapshot_whole : (lo hi : ℕ) (entries : List Entry) → hi < 2 ^ 64 → IsSnapshot (opening_of (arc_value current.map)) (seen_by session) lo hi entries → IsSnapshot first (past ++ seen_by session) lo hi entries
    snapshot_whole lo hi entries fits snapshot = record {
      exact = λ key from up_to. snapshot.exact key from up_to ∙ left_by_whole (seen_by session) key (omega (arith, fits, up_to));
      ascending = snapshot.ascending;
      between = snapshot.between;
    }

    pub answers_whole : (op : Op) → key_of op < 2 ^ 64 → (answer : Answer) → AnswersInOrder (opening_of (arc_value current.map)) op current.session.member session.member answer
        → AnswersFrom first op slot (known_of past slot current) (known_of past slot (held_with current session current.changes)) answer
    answers_whole op inside answer i =
        let kept : Option ℕ = after (pointer_of (opening_of (arc_value current.map))) i.before (key_of op) in
        let whole : Option ℕ = after (pointer_of first) (past ++ i.before) (key_of op) in
        let same : kept ≡ whole = left_by_whole i.before (key_of op) inside in
        let own : changes_made (place_of current.session) op kept ≡ changes_made slot op whole = ap (λ (n : ℕ). changes_made n op kept) held.its.its_place ∙ ap (changes_made slot op) same in
        record {
          before = past ++ i.before;
          saw = prefix_behind past (seen_by current.session) i.before i.saw;
          answers = i.answers ∙ ap (answer_at op) same;
          goes_on = subst (λ (l : List Change). IsPrefix ((past ++ i.before) ++ l) (past ++ seen_by session)) own
              (subst (λ (l : List Change). IsPrefix l (past ++ seen_by session)) (sym (append_assoc past i.before (changes_made (place_of current.session) op kept)))
              (prefix_behind past (i.before ++ changes_made (place_of current.session) op kept) (seen_by session) i.goes_on));
          made = ap (λ (l : List Change). made_at slot past ++ l) i.made
              ∙ (sym (append_assoc (made_at slot past) (made_by current.session) (changes_made (place_of current.session) op kept))
              ∙ ap (λ (l : List Change). (made_at slot past ++ made_by current.session) ++ l) own);
        }

    -- and so are the answers to several keys
    pub answers_as_seen_whole : (old : List Change) (keys : List ℕ) (answers : List (Option ℕ)) (new : List Change) → ((k : ℕ) (key : ℕ) → get_elem? keys k ≡ some key → key < 2 ^ 64) → AnswersAsSeen (opening_of (arc_value current.map)) old keys answers new
        → AnswersAsSeen first (past ++ old) keys answers (past ++ new)
    answers_as_seen_whole old [] [] new fit is = prefix_behind past old new is
    answers_as_seen_whole old (key ∷ keys) (answer ∷ answers) new fit is = (
      past ++ is.0,
      prefix_behind past old is.0 is.1,
      is.2 ∙ left_by_whole is.0 key (fit 0 key refl),
      answers_as_seen_whole is.0 keys answers new (λ k other there. fit (suc k) other there) is.3,
    )
    answers_as_seen_whole old [] (answer ∷ answers) new fit is = is
    answers_as_seen_whole old (key ∷ keys) [] new fit is = is

-- ---- an operation that is made in place

module _ (slot : ℕ) (me : SlotSeat) (current : Current) (held : IsHeld slot me current) (new : Current) (stays : StaysCurrent current new) where
  pub held_changed : IsHeld slot me new
  held_changed = subst (IsHeld slot me) (sym (moved_on current new stays)) (held_counted slot me current held new.session new.changes stays.saw stays.same_member stays.counted)

-- ---- an operation that ends after it has waited

-- a held session that is put together again
pub held_moved : (slot other : ℕ) (seat place : Seat (Option Current) SlotView) (current is : Current) → other ≡ slot → place ≡ seat → is ≡ current → IsHeld slot seat.me current → IsHeld other place.me is
held_moved slot other seat place current is same_slot same_seat same held =
    subst (λ (n : ℕ). IsHeld n place.me is) (sym same_slot) (subst (λ (s : Seat (Option Current) SlotView). IsHeld slot s.me is) (sym same_seat) (subst (IsHeld slot seat.me) (sym same) held))
