-- What a call of the current map's session tells of a session.
use Rattle.std.proofs.Common.{◌≡◌, ℕ, zero, suc, ◌+◌, ◌<◌, inr, Bool, true, false, Option, Some, None, List, [], ◌∷◌, ◌++◌, length, length-append, refl, sym, ap, ◌∙◌, subst, append_assoc, append-nil, arith}
use Rattle.std.specs.Prelude.{if◌then◌else◌, ◌==◌, ◌^◌, IfSome}
use Rattle.blink_batch.specs.declared.Answer.{Answer}
use Rattle.blink_batch.specs.declared.Op.{Op}
use Rattle.blink_batch.specs.{FitsWords, answer_at, cell_after, key_of}
use Rattle.blink_batch.specs.declared.Op.TheVariants.{Delete, DeleteExact, Exchange, Find, Insert, Replace}
use Rattle.blink_generation.specs.{AnswersInOrder, HasTried, IsSameBesideRoom, IsSameMember, IsSessionOf, IsUnchangedBy, made_by, opening_of, place_of, seen_by}
use mathlib.Core.List.{IsPrefix}
use lib.ListN.{get_elem?}
use Rattle.std.specs.Arc.{arc_value}
use Rattle.atomic_table.specs.Table.{rest}
use Rattle.blink_batch.specs.declared.Entry.{Entry}
use Rattle.blink_batch.specs.{pointer_of}
use Rattle.blink_live.specs.{HaveAuthors, IsReport, IsReportBack, IsSnapshot, StoppedFull, after, changes_made, has_changed, made_at, put, stop_of}
use Rattle.blink_live.specs.declared.view.Change.{Change}
use Rattle.blink_live.specs.declared.view.Plan.{Plan}
use Rattle.blink_live.proofs.Offered.{after-append, made_at-append, prefix_of_prefix}
use Rattle.blink_generation.specs.declared.map.Map.{Map}
use Rattle.blink_generation.specs.declared.map.Session.{Session as MapSession}
use Rattle.blink_map.specs.declared.slots.Current.{Current}
use Rattle.blink_map.specs.declared.slots.Generation.{Generation}
use Rattle.blink_map.specs.declared.slots.Known.{Known}
use Rattle.blink_map.specs.Counts.{made_with}
use Rattle.blink_map.specs.Own.{IsIdle, KnowsAuthors, own_of}
use Rattle.blink_map.specs.Rule.{Account, IsContinued, IsCurrentAt, IsGeneration, SlotSeat, known_of}
use Rattle.blink_map.specs.Steps.{CanGive, Taken, front_of, has_given, past_of, while_some, with_known}
use Rattle.blink_map.specs.Taking.{StaysCurrent}
use Rattle.blink_map.proofs.Basics.{prefix_behind, with_own}

-- a key before which a scan stopped is one of 64 bits
pub fits_below : (lo hi places filled : ℕ) (next : Option ℕ) → hi < 2 ^ 64 → IfSome next (StoppedFull lo hi places filled) → (key : ℕ) → key < stop_of hi next → key < 2 ^ 64
fits_below lo hi places filled None fits stopped key below = omega (arith, fits, below)
fits_below lo hi places filled (Some next) fits stopped key below = let before = stopped.2 in omega (arith, fits, before, below)

put_same : (f g : ℕ → Option ℕ) (at : ℕ) (x : Option ℕ) (key : ℕ) → f key ≡ g key → put f at x key ≡ put g at x key
put_same f g at x key same = ap (λ (y : Option ℕ). if key == at then x else y) same

-- what two maps have of a key is the same after the same changes
pub after_same : (f g : ℕ → Option ℕ) (changes : List Change) (key : ℕ) → f key ≡ g key → after f changes key ≡ after g changes key
after_same f g [] key same = same
after_same f g (change ∷ more) key same = after_same (put f change.key change.pointer) (put g change.key change.pointer) more key (put_same f g change.key change.pointer key same)

-- what a map's list leaves of its opening entries, the whole list leaves of the first ones
pub whole_list : (first : List Entry) (slots : ℕ) (g : Generation) → IsGeneration first slots g → (seen : List Change) (key : ℕ) → key < 2 ^ 64 → after (pointer_of (opening_of g.map)) seen key ≡ after (pointer_of first) (g.past ++ seen) key
whole_list first slots g is seen key inside = after_same (pointer_of (opening_of g.map)) (after (pointer_of first) g.past) seen key (is.goes_on key inside) ∙ sym (after-append (pointer_of first) g.past seen key)

-- the session is the map's still
pub still_its : (map : Map) (old new : MapSession) → IsSessionOf map old → IsSameMember old.member new.member → IsSessionOf map new
still_its map old new its same = record { member = record { same_table = same.same_table ∙ its.member.same_table; same_plan = same.same_plan ∙ its.member.same_plan } }

-- a session that may have made changes, of which so many are counted
abbrev pub held_with : Current → MapSession → ℕ → Current
held_with held session changes = record held { session = session; changes = changes }

-- the session of the current map that a change has left
pub moved_on : (old new : Current) → StaysCurrent old new → new ≡ held_with old new.session new.changes
moved_on old new stays = λ i. record { map = stays.same_map i; session = new.session; number = stays.same_number i; changes = new.changes }

-- the count is right after a call, if it was before
abbrev pub IsCounted : Current → MapSession → ℕ → Type 0
IsCounted held session changes = (held.changes + 1 < 2 ^ 64 → length (made_by held.session) ≡ held.changes) → changes + 1 < 2 ^ 64 → length (made_by session) ≡ changes

pub still_current : (g : Generation) (slot : ℕ) (held : Current) (session : MapSession) (changes : ℕ) → IsCurrentAt g slot held → IsSameMember held.session.member session.member → IsCounted held session changes → IsCurrentAt g slot (held_with held session changes)
still_current g slot held session changes its same counted = record {
  same_map = its.same_map;
  its_own = still_its g.map held.session session its.its_own same;
  its_place = same.same_place ∙ its.its_place;
  counted = counted its.counted;
}

-- a session to which nothing was done
pub same_session : (session : MapSession) → IsSameMember session.member session.member
same_session session = record { same_table = refl; same_plan = refl; same_place = refl }

-- a call that made no change
pub none_counted : (held : Current) (session : MapSession) → made_by session ≡ made_by held.session → IsCounted held session held.changes
none_counted held session same was few = ap (λ (l : List Change). length l) same ∙ was few

-- an answer tells how many changes were made
made_long : (place : ℕ) (op : Op) (kept : Option ℕ) → length (changes_made place op kept) ≡ made_with (answer_at op kept)
made_long place op kept = by_test (has_changed (answer_at op kept))
  where
    by_test : (b : Bool) → length (if b then (let l : List Change = record { author = place; key = key_of op; pointer = cell_after op kept } ∷ [] in l) else []) ≡ (if b then 1 else 0)
    by_test true = refl
    by_test false = refl

-- an operation that was answered
pub answer_counted : (held : Current) (session : MapSession) (place : ℕ) (op : Op) (kept : Option ℕ) (answer : Answer) (changes : ℕ) → answer ≡ answer_at op kept → made_by session ≡ made_by held.session ++ changes_made place op kept
    → (changes + 1 < 2 ^ 64 → changes ≡ held.changes + made_with answer) → IsCounted held session changes
answer_counted held session place op kept answer changes is made counted was few =
    let now = counted few in
    let one : length (changes_made place op kept) ≡ made_with answer = made_long place op kept ∙ ap made_with (sym is) in
    let long = length-append (made_by held.session) (changes_made place op kept) in
    let whole = ap (λ (l : List Change). length l) made in
    let before = was (omega (arith, few, now)) in
    omega (arith, now, one, long, whole, before)

-- what an operation has answered, by what a session knew before and knows now
abbrev pub InOrder : List Entry → Op → ℕ → Known → Known → Answer → Type 0
InOrder first op slot old new answer =
    (before : List Change) × IsPrefix old.seen before × (answer ≡ answer_at op (after (pointer_of first) before (key_of op)))
    × IsPrefix (before ++ changes_made slot op (after (pointer_of first) before (key_of op))) new.seen × (new.made ≡ old.made ++ changes_made slot op (after (pointer_of first) before (key_of op)))

pub key_fits : (op : Op) → FitsWords op → key_of op < 2 ^ 64
key_fits (Find key) fits = fits
key_fits (Insert key pointer) fits = fits.0
key_fits (Delete key) fits = fits
key_fits (Replace key pointer) fits = fits.0
key_fits (Exchange key expected pointer) fits = fits.0
key_fits (DeleteExact key expected) fits = fits.0

-- the map's session after an operation, or after a refusal
pub record IsAfter (old new : MapSession) : Type 0 where
  pub saw : IsPrefix (seen_by old) (seen_by new)
  pub same_member : IsSameMember old.member new.member

pub saw_answer : (opening : List Entry) (op : Op) (old new : MapSession) (answer : Answer) → AnswersInOrder opening op old.member new.member answer → IsPrefix (seen_by old) (seen_by new)
saw_answer opening op old new answer i =
    let made : List Change = changes_made (place_of old) op (after (pointer_of opening) i.before (key_of op)) in
    prefix_of_prefix (seen_by old) i.before (seen_by new) i.saw (prefix_of_prefix i.before (i.before ++ made) (seen_by new) (made, refl) i.goes_on)

pub in_order_counted : (opening : List Entry) (op : Op) (held : Current) (new : MapSession) (answer : Answer) (changes : ℕ) → AnswersInOrder opening op held.session.member new.member answer
    → (changes + 1 < 2 ^ 64 → changes ≡ held.changes + made_with answer) → IsCounted held new changes
in_order_counted opening op held new answer changes i counted = answer_counted held new (place_of held.session) op (after (pointer_of opening) i.before (key_of op)) answer changes i.answers i.made counted

-- a refused operation has changed nothing
unchanged_but_room : (old new : MapSession) → IsSameBesideRoom old new → HasTried old new
unchanged_but_room old new same = record { saw = ([], append-nil (seen_by old) ∙ sym same.seen); made = same.made; same_member = same.same_member }

pub has_tried : (op : Op) (old new : MapSession) → IsUnchangedBy op old new → HasTried old new
has_tried (Find key) old new same = unchanged_but_room old new same
has_tried (Insert key pointer) old new tried = tried
has_tried (Delete key) old new same = unchanged_but_room old new same
has_tried (Replace key pointer) old new same = unchanged_but_room old new same
has_tried (Exchange key expected pointer) old new same = unchanged_but_room old new same
has_tried (DeleteExact key expected) old new same = unchanged_but_room old new same

-- what a session of the map has seen of its own, and of others
module _ (first : List Entry) (slots slot : ℕ) (g : Generation) (held : Current) (is : IsGeneration first slots g) (its : IsCurrentAt g slot held) where
  same_places : held.session.member.seat.me.0.plan.places ≡ slots
  same_places = ap (λ (p : Plan). p.places) its.its_own.member.same_plan ∙ (sym g.map.live.places_are ∙ is.places)

  -- each change that it has seen was made at one of the slots
  pub saw_authors : HaveAuthors slots (seen_by held.session)
  saw_authors = subst (λ (n : ℕ). HaveAuthors n (seen_by held.session)) same_places held.session.member.authors.1

  pub saw_own : made_at slot (seen_by held.session) ≡ made_by held.session
  saw_own = ap (λ (n : ℕ). made_at n (seen_by held.session)) (sym its.its_place) ∙ held.session.member.authors.0

  pub knows_own : made_at slot (known_of g.past slot held).seen ≡ (known_of g.past slot held).made
  knows_own = made_at-append slot g.past (seen_by held.session) ∙ ap (λ (l : List Change). made_at slot g.past ++ l) saw_own

  pub knows_all : HaveAuthors slots (known_of g.past slot held).seen
  knows_all = both g.past (seen_by held.session) is.authors saw_authors
    where
      both : (one other : List Change) → HaveAuthors slots one → HaveAuthors slots other → HaveAuthors slots (one ++ other)
      both [] other all_one all_other k d inside = all_other k d inside
      both (x ∷ one) other all_one all_other zero d inside = all_one 0 d (omega arith)
      both (x ∷ one) other all_one all_other (suc k) d inside = both one other (λ j e within. all_one (suc j) e (omega (arith, within))) all_other k d (omega (arith, inside))

module _ (slot : ℕ) (me out : SlotSeat) (held : Current) (idle : IsIdle slot me) (taken : Taken slot held None me out) (session : MapSession) (changes : ℕ) (same : IsSameMember held.session.member session.member) (counted : IsCounted held session changes) where
  abbrev held_then : Current
  held_then = held_with held session changes

  abbrev known_then : Known
  known_then = known_of taken.now.past slot held_then

  its_then : IsCurrentAt taken.now slot held_then
  its_then = still_current taken.now slot held session changes taken.its same counted

  own : IsContinued (own_of me.0) (known_of taken.now.past slot held)
  own = taken.own 0 (own_of me.0) (ap (λ (l : List Account). get_elem? l 0) idle.alone)

  taken_is : out.0.taken ≡ (slot, known_of taken.now.past slot held) ∷ []
  taken_is = ap (λ (m : SlotSeat). m.0.taken) taken.is ∙ ap (λ (l : List Account). l ++ (slot, known_of taken.now.past slot held) ∷ []) idle.none_taken

  out_is : out.1 ≡ (slot, None) ∷ []
  out_is = ap (λ (m : SlotSeat). m.1) taken.is ∙ ap (λ (l : List (ℕ × Option Current)). let all : List (ℕ × Option Current) = (slot, None) ∷ l in all) idle.none_out

  pub can_give : IsPrefix (seen_by held.session) (seen_by session) → CanGive slot out held_then
  can_give more = record {
    level = 0;
    known = known_of taken.now.past slot held;
    now = taken.now;
    last = ap (λ (l : List Account). length l) taken_is;
    taken = ap (λ (l : List Account). get_elem? l 0) taken_is;
    is_now = ap (λ (m : SlotSeat). m.0.now) taken.is;
    its = its_then;
    saw = prefix_behind taken.now.past (seen_by held.session) (seen_by session) more;
    made = inr (0, own_of me.0, ap (λ (m : SlotSeat). get_elem? m.0.accounts 0) taken.is ∙ ap (λ (l : List Account). get_elem? l 0) idle.alone);
    out = out_is ∙ (λ i. (slot, None) ∷ sym (ap (λ (l : List (ℕ × Option Current)). rest l) out_is) i);
  }

  module _ (after_me : SlotSeat) (is : after_me ≡ (has_given out.0 slot (known_of (past_of out.0.now) slot held_then), rest out.1)) where
    now_is : out.0.now ≡ Some taken.now
    now_is = ap (λ (m : SlotSeat). m.0.now) taken.is

    given_is : known_of (past_of out.0.now) slot held_then ≡ known_then
    given_is = ap (λ (n : Option Generation). known_of (past_of n) slot held_then) now_is

    accounts_is : after_me.0.accounts ≡ (slot, known_then) ∷ []
    accounts_is =
        ap (λ (m : SlotSeat). m.0.accounts) is
        ∙ (ap (λ (k : Known). with_known slot k out.0.accounts) given_is
        ∙ (ap (λ (m : SlotSeat). with_known slot known_then m.0.accounts) taken.is
        ∙ (ap (with_known slot known_then) idle.alone ∙ with_own slot known_then (own_of me.0))))

    pub known_is : own_of after_me.0 ≡ known_then
    known_is = ap (λ (l : List Account). Rattle.blink_map.specs.Own.own_in l) accounts_is

    front_is : front_of out.0.taken ≡ []
    front_is = ap (λ (l : List Account). front_of l) taken_is

    pub idle_again : IsIdle slot after_me
    idle_again = record {
      alone = accounts_is ∙ ap (λ (k : Known). let l : List Account = (slot, k) ∷ [] in l) (sym known_is);
      none_now = ap (λ (m : SlotSeat). m.0.now) is ∙ ap (λ (l : List Account). while_some l out.0.now) front_is;
      none_taken = ap (λ (m : SlotSeat). m.0.taken) is ∙ front_is;
      none_out = ap (λ (m : SlotSeat). m.1) is ∙ ap (λ (l : List (ℕ × Option Current)). rest l) out_is;
    }

    pub first_again : after_me.0.first ≡ me.0.first
    first_again = ap (λ (m : SlotSeat). m.0.first) is ∙ ap (λ (m : SlotSeat). m.0.first) taken.is

    pub slots_again : after_me.0.slots ≡ me.0.slots
    slots_again = ap (λ (m : SlotSeat). m.0.slots) is ∙ ap (λ (m : SlotSeat). m.0.slots) taken.is

    pub authors_again : KnowsAuthors slot after_me.0
    authors_again = record {
      own = subst (λ (k : Known). made_at slot k.seen ≡ k.made) (sym known_is) (knows_own me.0.first me.0.slots slot taken.now held_then taken.is_generation its_then);
      all = subst (λ (n : ℕ). HaveAuthors n (own_of after_me.0).seen) (sym slots_again) (subst (λ (k : Known). HaveAuthors me.0.slots k.seen) (sym known_is) (knows_all me.0.first me.0.slots slot taken.now held_then taken.is_generation its_then));
    }

    seen_is : (own_of after_me.0).seen ≡ taken.now.past ++ seen_by session
    seen_is = ap (λ (k : Known). k.seen) known_is

    pub saw_more : IsPrefix (seen_by held.session) (seen_by session) → IsPrefix (own_of me.0).seen (own_of after_me.0).seen
    saw_more more = subst (IsPrefix (own_of me.0).seen) (sym seen_is) (prefix_of_prefix (own_of me.0).seen (taken.now.past ++ seen_by held.session) (taken.now.past ++ seen_by session) own.saw (prefix_behind taken.now.past (seen_by held.session) (seen_by session) more))

    pub made_more : (more : List Change) → made_by session ≡ made_by held.session ++ more → (own_of after_me.0).made ≡ (own_of me.0).made ++ more
    made_more more is_more =
        ap (λ (k : Known). k.made) known_is
        ∙ (ap (λ (l : List Change). made_at slot taken.now.past ++ l) is_more
        ∙ (sym (append_assoc (made_at slot taken.now.past) (made_by held.session) more)
        ∙ ap (λ (l : List Change). l ++ more) (sym own.made)))

    pub made_same : made_by session ≡ made_by held.session → (own_of after_me.0).made ≡ (own_of me.0).made
    made_same same_made = made_more [] (same_made ∙ sym (append-nil (made_by held.session))) ∙ append-nil (own_of me.0).made

    -- what the map's own list leaves is what the whole list leaves of the first entries
    pub left_by_all : (first : List Entry) → me.0.first ≡ first → (changes : List Change) (key : ℕ) → key < 2 ^ 64 → after (pointer_of (opening_of (arc_value held.map))) changes key ≡ after (pointer_of first) (taken.now.past ++ changes) key
    left_by_all first same_first changes key inside = ap (λ (m : Map). after (pointer_of (opening_of m)) changes key) taken.its.same_map
        ∙ (whole_list me.0.first me.0.slots taken.now taken.is_generation changes key inside
        ∙ ap (λ (l : List Entry). after (pointer_of l) (taken.now.past ++ changes) key) same_first)

    pub tells : (first : List Entry) → me.0.first ≡ first → (shown : Option ℕ) (key : ℕ) → key < 2 ^ 64 → shown ≡ after (pointer_of (opening_of (arc_value held.map))) (seen_by session) key → shown ≡ after (pointer_of first) (own_of after_me.0).seen key
    tells first same_first shown key inside told = told ∙ (left_by_all first same_first (seen_by session) key inside ∙ ap (λ (l : List Change). after (pointer_of first) l key) (sym seen_is))

    -- and what the map's session has answered, this session has
    module _ (first : List Entry) (same_first : me.0.first ≡ first) (op : Op) (inside : key_of op < 2 ^ 64) (answer : Answer) (i : AnswersInOrder (opening_of (arc_value held.map)) op held.session.member session.member answer) where
      abbrev kept : Option ℕ
      kept = after (pointer_of (opening_of (arc_value held.map))) i.before (key_of op)

      abbrev pub before_all : List Change
      before_all = taken.now.past ++ i.before

      abbrev pub kept_all : Option ℕ
      kept_all = after (pointer_of first) before_all (key_of op)

      kept_same : kept ≡ kept_all
      kept_same = left_by_all first same_first i.before (key_of op) inside

      own_changes : changes_made (place_of held.session) op kept ≡ changes_made slot op kept_all
      own_changes = ap (λ (n : ℕ). changes_made n op kept) taken.its.its_place ∙ ap (changes_made slot op) kept_same

      pub saw_all : IsPrefix (own_of me.0).seen before_all
      saw_all = prefix_of_prefix (own_of me.0).seen (taken.now.past ++ seen_by held.session) before_all own.saw (prefix_behind taken.now.past (seen_by held.session) i.before i.saw)

      pub answers_all : answer ≡ answer_at op kept_all
      answers_all = i.answers ∙ ap (answer_at op) kept_same

      pub goes_on_all : IsPrefix (before_all ++ changes_made slot op kept_all) (own_of after_me.0).seen
      goes_on_all =
          subst (IsPrefix (before_all ++ changes_made slot op kept_all)) (sym seen_is)
          (subst (λ (l : List Change). IsPrefix (before_all ++ l) (taken.now.past ++ seen_by session)) own_changes
          (subst (λ (l : List Change). IsPrefix l (taken.now.past ++ seen_by session)) (sym (append_assoc taken.now.past i.before (changes_made (place_of held.session) op kept)))
          (prefix_behind taken.now.past (i.before ++ changes_made (place_of held.session) op kept) (seen_by session) i.goes_on)))

      pub made_all : (own_of after_me.0).made ≡ (own_of me.0).made ++ changes_made slot op kept_all
      made_all = made_more (changes_made (place_of held.session) op kept) i.made ∙ ap (λ (l : List Change). (own_of me.0).made ++ l) own_changes

      pub in_order_all : InOrder first op slot (own_of me.0) (own_of after_me.0) answer
      in_order_all = (before_all, saw_all, answers_all, goes_on_all, made_all)

    -- a report of the map's own list is one of the whole list
    pub report_all : (first : List Entry) → me.0.first ≡ first → (lo stop : ℕ) (entries : List Entry) → ((key : ℕ) → key < stop → key < 2 ^ 64) → IsReport (opening_of (arc_value held.map)) (seen_by held.session) (seen_by session) lo stop entries
        → IsReport first (own_of me.0).seen (own_of after_me.0).seen lo stop entries
    report_all first same_first lo stop entries fits report = record {
      front = λ key. taken.now.past ++ report.front key;
      fronts = record {
        ascend = λ key greater order. prefix_behind taken.now.past (report.front key) (report.front greater) (report.fronts.ascend key greater order);
        from_old = λ key. prefix_of_prefix (own_of me.0).seen (taken.now.past ++ seen_by held.session) (taken.now.past ++ report.front key) own.saw (prefix_behind taken.now.past (seen_by held.session) (report.front key) (report.fronts.from_old key));
        to_new = λ key. subst (IsPrefix (taken.now.past ++ report.front key)) (sym seen_is) (prefix_behind taken.now.past (report.front key) (seen_by session) (report.fronts.to_new key));
      };
      exact = λ key from below. report.exact key from below ∙ left_by_all first same_first (report.front key) key (fits key below);
      ascending = report.ascending;
      between = report.between;
    }

    -- and so is a backward report
    pub report_back_all : (first : List Entry) → me.0.first ≡ first → (lo hi : ℕ) (entries : List Entry) → hi < 2 ^ 64 → IsReportBack (opening_of (arc_value held.map)) (seen_by held.session) (seen_by session) lo hi entries
        → IsReportBack first (own_of me.0).seen (own_of after_me.0).seen lo hi entries
    report_back_all first same_first lo hi entries fits report = record {
      front = λ key. taken.now.past ++ report.front key;
      fronts = record {
        descend = λ key greater order. prefix_behind taken.now.past (report.front greater) (report.front key) (report.fronts.descend key greater order);
        from_old = λ key. prefix_of_prefix (own_of me.0).seen (taken.now.past ++ seen_by held.session) (taken.now.past ++ report.front key) own.saw (prefix_behind taken.now.past (seen_by held.session) (report.front key) (report.fronts.from_old key));
        to_new = λ key. subst (IsPrefix (taken.now.past ++ report.front key)) (sym seen_is) (prefix_behind taken.now.past (report.front key) (seen_by session) (report.fronts.to_new key));
      };
      exact = λ key from up_to. report.exact key from up_to ∙ left_by_all first same_first (report.front key) key (omega (arith, fits, up_to));
      descending = report.descending;
      between = report.between;
    }

    -- and a snapshot of it one of the whole list
    pub snapshot_all : (first : List Entry) → me.0.first ≡ first → (lo hi : ℕ) (entries : List Entry) → hi < 2 ^ 64 → IsSnapshot (opening_of (arc_value held.map)) (seen_by session) lo hi entries → IsSnapshot first (own_of after_me.0).seen lo hi entries
    snapshot_all first same_first lo hi entries fits snapshot = record {
      exact = λ key from up_to. tells first same_first (pointer_of entries key) key (omega (arith, fits, up_to)) (snapshot.exact key from up_to);
      ascending = snapshot.ascending;
      between = snapshot.between;
    }
