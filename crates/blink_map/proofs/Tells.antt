-- A seat with the sessions of two slots lets the one tell the other.
use Rattle.std.proofs.Common.{◌≡◌, ◌≢◌, ℕ, inl, Bool, true, false, Option, Some, None, List, [], ◌∷◌, ◌++◌, append-nil, length, refl, sym, ap, ◌∙◌, subst, eq-eqb, ne_eqb, arith}
use Rattle.std.proofs.lemmas.Bool.{false≢true}
use Rattle.std.specs.Prelude.{if◌then◌else◌, ◌==◌}
use mathlib.Core.List.{IsPrefix}
use lib.ListN.{get_elem?}
use Rattle.std.specs.Arc.{arc_value}
use Rattle.atomic_table.specs.Table.{rest}
use Rattle.blink_batch.specs.declared.Entry.{Entry}
use Rattle.blink_live.specs.declared.view.Change.{Change}
use Rattle.blink_live.specs.{HaveAuthors, made_at}
use Rattle.blink_live.proofs.Offered.{prefix_of_prefix}
use Rattle.blink_generation.specs.declared.map.Map.{Map}
use Rattle.blink_generation.specs.{IsSessionOf, seen_by}
use Rattle.blink_map.specs.declared.slots.Current.{Current}
use Rattle.blink_map.specs.declared.slots.Generation.{Generation}
use Rattle.blink_map.specs.declared.slots.Known.{Known}
use Rattle.blink_map.specs.Own.{IsIdle, KnowsAuthors, own_in, own_of}
use Rattle.blink_map.specs.Renewing.{MaySeeMore}
use Rattle.blink_map.specs.Rule.{Account, IsContinued, IsCurrentAt, IsGeneration, SlotSeat, known_of}
use Rattle.blink_map.specs.Steps.{AreCompared, CanGive, Taken, behind_first, first_alone, first_in, front_of, has_given, past_of, together, while_some, with_known, without_first}
use Rattle.blink_map.specs.Telling.{EitherWay, HasBoth, HasTold, HasToldBetween, HasToldSeat, IsIdleWith, IsTold, KnowsAuthorsOf}
use Rattle.blink_map.proofs.Basics.{prefix_behind}
use Rattle.blink_map.proofs.CallsOfSessions.{knows_all, knows_own}
use Rattle.blink_map.proofs.Gathers.{counted_still}

-- what was known, and what is known by a session that may have seen more
continued : (past : List Change) (slot : ℕ) (own : Known) (held later : Current) → IsContinued own (known_of past slot held) → MaySeeMore held later → IsContinued own (known_of past slot later)
continued past slot own held later is more = record {
  saw = prefix_of_prefix own.seen (past ++ seen_by held.session) (past ++ seen_by later.session) is.saw (prefix_behind past (seen_by held.session) (seen_by later.session) more.saw);
  made = is.made ∙ ap (λ (l : List Change). made_at slot past ++ l) (sym more.made);
}

current : (g : Generation) (slot : ℕ) (held later : Current) → IsCurrentAt g slot held → MaySeeMore held later → IsCurrentAt g slot later
current g slot held later its more = record {
  same_map = more.same_map ∙ its.same_map;
  its_own = record { member = record { same_table = more.same_member.same_table ∙ its.its_own.member.same_table; same_plan = more.same_member.same_plan ∙ its.its_own.member.same_plan } };
  its_place = more.same_member.same_place ∙ its.its_place;
  counted = counted_still held later more its.counted;
}

authors_of : (slots slot : ℕ) (g : Generation) (held : Current) (first : List Entry) → IsGeneration first slots g → IsCurrentAt g slot held → KnowsAuthorsOf slots slot (known_of g.past slot held)
authors_of slots slot g held first is its = record { own = knows_own first slots slot g held is its; all = knows_all first slots slot g held is its }

module _ (lower upper : ℕ) (me0 me1 me2 : SlotSeat) (low high : Current) (none_now : me0.0.now ≡ None) (none_taken : me0.0.taken ≡ []) (none_out : me0.1 ≡ []) (t1 : Taken lower low None me0 me1) (t2 : Taken upper high None me1 me2) where
  pub same_now : t1.now ≡ t2.now
  same_now = t2.same_now t1.now (ap (λ (m : SlotSeat). m.0.now) t1.is)

  pub high_here : IsCurrentAt t1.now upper high
  high_here = subst (λ (g : Generation). IsCurrentAt g upper high) (sym same_now) t2.its

  pub one_map : arc_value high.map ≡ arc_value low.map
  one_map = high_here.same_map ∙ sym t1.its.same_map

  pub low_of_map : IsSessionOf (arc_value low.map) low.session
  low_of_map = subst (λ (m : Map). IsSessionOf m low.session) (sym t1.its.same_map) t1.its.its_own

  pub high_of_map : IsSessionOf (arc_value low.map) high.session
  high_of_map = subst (λ (m : Map). IsSessionOf m high.session) (sym t1.its.same_map) high_here.its_own

  abbrev known_low : Known
  known_low = known_of t1.now.past lower low

  abbrev known_high : Known
  known_high = known_of t2.now.past upper high

  taken_one : me1.0.taken ≡ (lower, known_low) ∷ []
  taken_one = ap (λ (m : SlotSeat). m.0.taken) t1.is ∙ ap (λ (l : List Account). l ++ (lower, known_low) ∷ []) none_taken

  taken_both : me2.0.taken ≡ (lower, known_low) ∷ (upper, known_high) ∷ []
  taken_both = ap (λ (m : SlotSeat). m.0.taken) t2.is ∙ ap (λ (l : List Account). l ++ (upper, known_high) ∷ []) taken_one

  out_one : me1.1 ≡ (lower, None) ∷ []
  out_one = ap (λ (m : SlotSeat). m.1) t1.is ∙ ap (λ (l : List (ℕ × Option Current)). let all : List (ℕ × Option Current) = (lower, None) ∷ l in all) none_out

  out_both : me2.1 ≡ (upper, None) ∷ (lower, None) ∷ []
  out_both = ap (λ (m : SlotSeat). m.1) t2.is ∙ ap (λ (l : List (ℕ × Option Current)). let all : List (ℕ × Option Current) = (upper, None) ∷ l in all) out_one

  now_both : me2.0.now ≡ Some t2.now
  now_both = ap (λ (m : SlotSeat). m.0.now) t2.is

  accounts_both : me2.0.accounts ≡ me0.0.accounts
  accounts_both = ap (λ (m : SlotSeat). m.0.accounts) t2.is ∙ ap (λ (m : SlotSeat). m.0.accounts) t1.is

  module _ (low_then high_then : Current) (low_more : MaySeeMore low low_then) (high_more : MaySeeMore high high_then) where
    pub can_give_upper : CanGive upper me2 high_then
    can_give_upper = record {
      level = 1;
      known = known_high;
      now = t2.now;
      last = ap (λ (l : List Account). length l) taken_both;
      taken = ap (λ (l : List Account). get_elem? l 1) taken_both;
      is_now = now_both;
      its = current t2.now upper high high_then t2.its high_more;
      saw = prefix_behind t2.now.past (seen_by high.session) (seen_by high_then.session) high_more.saw;
      made = inl (ap (λ (l : List Change). made_at upper t2.now.past ++ l) (sym high_more.made));
      out = out_both ∙ (λ i. (upper, None) ∷ sym (ap (λ (l : List (ℕ × Option Current)). rest l) out_both) i);
    }

    abbrev high_known : Known
    high_known = known_of t1.now.past upper high_then

    abbrev low_known : Known
    low_known = known_of t1.now.past lower low_then

    high_is : known_of (past_of me2.0.now) upper high_then ≡ high_known
    high_is = ap (λ (n : Option Generation). known_of (past_of n) upper high_then) now_both ∙ ap (λ (g : Generation). known_of g.past upper high_then) (sym same_now)

    module _ (me3 : SlotSeat) (is3 : me3 ≡ (has_given me2.0 upper (known_of (past_of me2.0.now) upper high_then), rest me2.1)) where
      taken_three : me3.0.taken ≡ (lower, known_low) ∷ []
      taken_three = ap (λ (m : SlotSeat). m.0.taken) is3 ∙ ap (λ (l : List Account). front_of l) taken_both

      now_three : me3.0.now ≡ Some t1.now
      now_three = ap (λ (m : SlotSeat). m.0.now) is3 ∙ (ap (λ (l : List Account). while_some (front_of l) me2.0.now) taken_both ∙ (now_both ∙ ap (λ (g : Generation). Some g) (sym same_now)))

      out_three : me3.1 ≡ (lower, None) ∷ []
      out_three = ap (λ (m : SlotSeat). m.1) is3 ∙ ap (λ (l : List (ℕ × Option Current)). rest l) out_both

      accounts_three : me3.0.accounts ≡ with_known upper high_known me0.0.accounts
      accounts_three = ap (λ (m : SlotSeat). m.0.accounts) is3 ∙ (ap (λ (k : Known). with_known upper k me2.0.accounts) high_is ∙ ap (with_known upper high_known) accounts_both)

      pub can_give_lower : CanGive lower me3 low_then
      can_give_lower = record {
        level = 0;
        known = known_low;
        now = t1.now;
        last = ap (λ (l : List Account). length l) taken_three;
        taken = ap (λ (l : List Account). get_elem? l 0) taken_three;
        is_now = now_three;
        its = current t1.now lower low low_then t1.its low_more;
        saw = prefix_behind t1.now.past (seen_by low.session) (seen_by low_then.session) low_more.saw;
        made = inl (ap (λ (l : List Change). made_at lower t1.now.past ++ l) (sym low_more.made));
        out = out_three ∙ (λ i. (lower, None) ∷ sym (ap (λ (l : List (ℕ × Option Current)). rest l) out_three) i);
      }

      module _ (me4 : SlotSeat) (is4 : me4 ≡ (has_given me3.0 lower (known_of (past_of me3.0.now) lower low_then), rest me3.1)) (upwards : Bool) (told : IsTold upwards low high low_then high_then) (own_low own_high : Known) (idle : IsIdleWith lower upper own_low own_high me0) where
        low_is : known_of (past_of me3.0.now) lower low_then ≡ low_known
        low_is = ap (λ (n : Option Generation). known_of (past_of n) lower low_then) now_three

        accounts_four : me4.0.accounts ≡ with_known lower low_known (with_known upper high_known me0.0.accounts)
        accounts_four = ap (λ (m : SlotSeat). m.0.accounts) is4 ∙ (ap (λ (k : Known). with_known lower k me3.0.accounts) low_is ∙ ap (with_known lower low_known) accounts_three)

        own_low_is : IsContinued own_low known_low
        own_low_is = t1.own idle.i own_low idle.low_there

        own_high_is : IsContinued own_high (known_of t1.now.past upper high)
        own_high_is = subst (λ (g : Generation). IsContinued own_high (known_of g.past upper high)) (sym same_now) (t2.own idle.j own_high (ap (λ (m : SlotSeat). get_elem? m.0.accounts idle.j) t1.is ∙ idle.high_there))

        told_then : (up : Bool) → IsTold up low high low_then high_then → EitherWay up (IsPrefix own_low.seen high_known.seen) (IsPrefix own_high.seen low_known.seen)
        told_then true prefix = prefix_of_prefix own_low.seen (t1.now.past ++ seen_by low.session) high_known.seen own_low_is.saw (prefix_behind t1.now.past (seen_by low.session) (seen_by high_then.session) prefix)
        told_then false prefix = prefix_of_prefix own_high.seen (t1.now.past ++ seen_by high.session) low_known.seen own_high_is.saw (prefix_behind t1.now.past (seen_by high.session) (seen_by low_then.session) prefix)

        same_view_first : me4.0.first ≡ me0.0.first
        same_view_first = ap (λ (m : SlotSeat). m.0.first) is4 ∙ (ap (λ (m : SlotSeat). m.0.first) is3 ∙ (ap (λ (m : SlotSeat). m.0.first) t2.is ∙ ap (λ (m : SlotSeat). m.0.first) t1.is))

        same_view_slots : me4.0.slots ≡ me0.0.slots
        same_view_slots = ap (λ (m : SlotSeat). m.0.slots) is4 ∙ (ap (λ (m : SlotSeat). m.0.slots) is3 ∙ (ap (λ (m : SlotSeat). m.0.slots) t2.is ∙ ap (λ (m : SlotSeat). m.0.slots) t1.is))

        front_none : front_of me3.0.taken ≡ []
        front_none = ap (λ (l : List Account). front_of l) taken_three

        pub told_between : HasToldBetween lower upper upwards true own_low own_high me0 me4
        told_between = record {
          low_then = low_known;
          high_then = high_known;
          accounts = accounts_four;
          same_first = same_view_first;
          same_slots = same_view_slots;
          none_now = ap (λ (m : SlotSeat). m.0.now) is4 ∙ ap (λ (l : List Account). while_some l me3.0.now) front_none;
          none_taken = ap (λ (m : SlotSeat). m.0.taken) is4 ∙ front_none;
          none_out = ap (λ (m : SlotSeat). m.1) is4 ∙ ap (λ (l : List (ℕ × Option Current)). rest l) out_three;
          low_more = continued t1.now.past lower own_low low low_then own_low_is low_more;
          high_more = continued t1.now.past upper own_high high high_then own_high_is high_more;
          low_authors = λ _. authors_of me0.0.slots lower t1.now low_then me0.0.first t1.is_generation (current t1.now lower low low_then t1.its low_more);
          high_authors = λ _. authors_of me0.0.slots upper t1.now high_then me0.0.first t1.is_generation (current t1.now upper high high_then high_here high_more);
          told = λ _. told_then upwards told;
        }

-- ---- the one isn't told

knows_still : (known : Known) → IsContinued known known
knows_still known = record { saw = ([], append-nil known.seen); made = refl }

-- the seat is as it was
pub none_told : (lower upper : ℕ) (upwards : Bool) (low high : Known) (me after : SlotSeat) → after ≡ me → IsIdleWith lower upper low high me → HasToldBetween lower upper upwards false low high me after
none_told lower upper upwards low high me after same idle = record {
  low_then = low;
  high_then = high;
  accounts = ap (λ (m : SlotSeat). m.0.accounts) same ∙ sym (ap (with_known lower low) idle.high_once ∙ idle.low_once);
  same_first = ap (λ (m : SlotSeat). m.0.first) same;
  same_slots = ap (λ (m : SlotSeat). m.0.slots) same;
  none_now = ap (λ (m : SlotSeat). m.0.now) same ∙ idle.none_now;
  none_taken = ap (λ (m : SlotSeat). m.0.taken) same ∙ idle.none_taken;
  none_out = ap (λ (m : SlotSeat). m.1) same ∙ idle.none_out;
  low_more = knows_still low;
  high_more = knows_still high;
  low_authors = λ knows. knows;
  high_authors = λ knows. knows;
  told = λ done. absurd (false≢true done);
}

-- the seat has taken one slot, and gives it back
module _ (slot : ℕ) (me0 me1 : SlotSeat) (held : Current) (none_taken : me0.0.taken ≡ []) (t : Taken slot held None me0 me1) where
  abbrev known_there : Known
  known_there = known_of t.now.past slot held

  only_taken : me1.0.taken ≡ (slot, known_there) ∷ []
  only_taken = ap (λ (m : SlotSeat). m.0.taken) t.is ∙ ap (λ (l : List Account). l ++ (slot, known_there) ∷ []) none_taken

  is_out : me1.1 ≡ (slot, None) ∷ me0.1
  is_out = ap (λ (m : SlotSeat). m.1) t.is

  now_then : me1.0.now ≡ Some t.now
  now_then = ap (λ (m : SlotSeat). m.0.now) t.is

  pub can_give_only : CanGive slot me1 held
  can_give_only = record {
    level = 0;
    known = known_there;
    now = t.now;
    last = ap (λ (l : List Account). length l) only_taken;
    taken = ap (λ (l : List Account). get_elem? l 0) only_taken;
    is_now = now_then;
    its = t.its;
    saw = ([], append-nil known_there.seen);
    made = inl refl;
    out = is_out ∙ (λ i. (slot, None) ∷ sym (ap (λ (l : List (ℕ × Option Current)). rest l) is_out) i);
  }

  -- of two sessions the lower one was taken
  module _ (upper : ℕ) (upwards : Bool) (low high : Known) (idle : IsIdleWith slot upper low high me0) (me2 : SlotSeat) (is : me2 ≡ (has_given me1.0 slot (known_of (past_of me1.0.now) slot held), rest me1.1)) where
    knows_it : known_of (past_of me1.0.now) slot held ≡ known_there
    knows_it = ap (λ (n : Option Generation). known_of (past_of n) slot held) now_then

    accounts_back : me2.0.accounts ≡ with_known slot known_there me0.0.accounts
    accounts_back = ap (λ (m : SlotSeat). m.0.accounts) is ∙ (ap (λ (k : Known). with_known slot k me1.0.accounts) knows_it ∙ ap (λ (m : SlotSeat). with_known slot known_there m.0.accounts) t.is)

    front_empty : front_of me1.0.taken ≡ []
    front_empty = ap (λ (l : List Account). front_of l) only_taken

    pub given_back_untold : HasToldBetween slot upper upwards false low high me0 me2
    given_back_untold = record {
      low_then = known_there;
      high_then = high;
      accounts = accounts_back ∙ ap (with_known slot known_there) (sym idle.high_once);
      same_first = ap (λ (m : SlotSeat). m.0.first) is ∙ ap (λ (m : SlotSeat). m.0.first) t.is;
      same_slots = ap (λ (m : SlotSeat). m.0.slots) is ∙ ap (λ (m : SlotSeat). m.0.slots) t.is;
      none_now = ap (λ (m : SlotSeat). m.0.now) is ∙ ap (λ (l : List Account). while_some l me1.0.now) front_empty;
      none_taken = ap (λ (m : SlotSeat). m.0.taken) is ∙ front_empty;
      none_out = ap (λ (m : SlotSeat). m.1) is ∙ (ap (λ (l : List (ℕ × Option Current)). rest l) is_out ∙ idle.none_out);
      low_more = t.own idle.i low idle.low_there;
      high_more = knows_still high;
      low_authors = λ _. authors_of me0.0.slots slot t.now held me0.0.first t.is_generation t.its;
      high_authors = λ knows. knows;
      told = λ done. absurd (false≢true done);
    }

-- ---- the accounts of both

abbrev two : ℕ → ℕ → Known → Known → List Account
two to from there here = (to, there) ∷ (from, here) ∷ []

test_self : (slot : ℕ) (a b : Account) → (if slot == slot then a else b) ≡ a
test_self slot a b = ap (λ (t : Bool). let x : Account = if t then a else b in x) (eq-eqb slot slot refl)

test_other : (slot other : ℕ) (a b : Account) → slot ≢ other → (if slot == other then a else b) ≡ b
test_other slot other a b differ = ap (λ (t : Bool). let x : Account = if t then a else b in x) (ne_eqb slot other differ)

with_first : (to from : ℕ) (there here later : Known) → to ≢ from → with_known to later (two to from there here) ≡ two to from later here
with_first to from there here later differ i = test_self to (to, later) (to, there) i ∷ test_other from to (to, later) (from, here) (λ e. differ (sym e)) i ∷ []

with_second : (to from : ℕ) (there here later : Known) → to ≢ from → with_known from later (two to from there here) ≡ two to from there later
with_second to from there here later differ i = test_other to from (from, later) (to, there) differ i ∷ test_self from (from, later) (from, here) i ∷ []

pub both_from_lower : (to from : ℕ) (there here there_then here_then : Known) → to ≢ from → with_known from here_then (with_known to there_then (two to from there here)) ≡ two to from there_then here_then
both_from_lower to from there here there_then here_then differ = ap (with_known from here_then) (with_first to from there here there_then differ) ∙ with_second to from there_then here here_then differ

pub both_to_lower : (to from : ℕ) (there here there_then here_then : Known) → to ≢ from → with_known to there_then (with_known from here_then (two to from there here)) ≡ two to from there_then here_then
both_to_lower to from there here there_then here_then differ = ap (with_known to there_then) (with_second to from there here here_then differ) ∙ with_first to from there here_then there_then differ

-- ---- who has both has them in either order, and each once

knows_first : (to from : ℕ) (theirs own : Known) (me : SlotSeat) → HasBoth from to own theirs me → with_known to theirs me.0.accounts ≡ me.0.accounts
knows_first to from theirs own me has = ap (with_known to theirs) has.accounts ∙ (with_first to from theirs own theirs has.differ ∙ sym has.accounts)

knows_second : (to from : ℕ) (theirs own : Known) (me : SlotSeat) → HasBoth from to own theirs me → with_known from own me.0.accounts ≡ me.0.accounts
knows_second to from theirs own me has = ap (with_known from own) has.accounts ∙ (with_second to from theirs own own has.differ ∙ sym has.accounts)

pub idle_upwards : (from to : ℕ) (own theirs : Known) (me : SlotSeat) → HasBoth from to own theirs me → IsIdleWith from to own theirs me
idle_upwards from to own theirs me has = record {
  i = 1;
  j = 0;
  low_there = ap (λ (l : List Account). get_elem? l 1) has.accounts;
  high_there = ap (λ (l : List Account). get_elem? l 0) has.accounts;
  low_once = knows_second to from theirs own me has;
  high_once = knows_first to from theirs own me has;
  none_now = has.none_now;
  none_taken = has.none_taken;
  none_out = has.none_out;
}

pub idle_downwards : (from to : ℕ) (own theirs : Known) (me : SlotSeat) → HasBoth from to own theirs me → IsIdleWith to from theirs own me
idle_downwards from to own theirs me has = record {
  i = 0;
  j = 1;
  low_there = ap (λ (l : List Account). get_elem? l 0) has.accounts;
  high_there = ap (λ (l : List Account). get_elem? l 1) has.accounts;
  low_once = knows_first to from theirs own me has;
  high_once = knows_second to from theirs own me has;
  none_now = has.none_now;
  none_taken = has.none_taken;
  none_out = has.none_out;
}

pub told_upwards : (from to : ℕ) (done : Bool) (own theirs : Known) (old new : SlotSeat) → HasBoth from to own theirs old → HasToldBetween from to true done own theirs old new → HasTold from to done own theirs old new
told_upwards from to done own theirs old new has t = record {
  own_then = t.low_then;
  theirs_then = t.high_then;
  both = record {
    accounts = t.accounts ∙ (ap (λ (l : List Account). with_known from t.low_then (with_known to t.high_then l)) has.accounts ∙ both_from_lower to from theirs own t.high_then t.low_then has.differ);
    differ = has.differ;
    none_now = t.none_now;
    none_taken = t.none_taken;
    none_out = t.none_out;
  };
  same_first = t.same_first;
  same_slots = t.same_slots;
  own_more = t.low_more;
  theirs_more = t.high_more;
  own_authors = t.low_authors;
  theirs_authors = t.high_authors;
  told = t.told;
}

pub told_downwards : (from to : ℕ) (done : Bool) (own theirs : Known) (old new : SlotSeat) → HasBoth from to own theirs old → HasToldBetween to from false done theirs own old new → HasTold from to done own theirs old new
told_downwards from to done own theirs old new has t = record {
  own_then = t.high_then;
  theirs_then = t.low_then;
  both = record {
    accounts = t.accounts ∙ (ap (λ (l : List Account). with_known to t.low_then (with_known from t.high_then l)) has.accounts ∙ both_to_lower to from theirs own t.low_then t.high_then has.differ);
    differ = has.differ;
    none_now = t.none_now;
    none_taken = t.none_taken;
    none_out = t.none_out;
  };
  same_first = t.same_first;
  same_slots = t.same_slots;
  own_more = t.high_more;
  theirs_more = t.low_more;
  own_authors = t.high_authors;
  theirs_authors = t.low_authors;
  told = t.told;
}

-- ---- seats are joined for it, and parted again

-- the seat with both sessions
pub joined_both : (from to : ℕ) (old other joined compared : SlotSeat) → IsIdle from old → IsIdle to other → joined ≡ (together old.0 other.0, old.1) → compared ≡ joined → AreCompared joined.0 → HasBoth from to (own_of old.0) (own_of other.0) compared
joined_both from to old other joined compared idle other_idle is same known =
    let accounts : joined.0.accounts ≡ (to, own_of other.0) ∷ (from, own_of old.0) ∷ [] =
    ap (λ (m : SlotSeat). m.0.accounts) is
    ∙ (ap (λ (l : List Account). l ++ old.0.accounts) other_idle.alone
    ∙ ap (λ (l : List Account). (to, own_of other.0) ∷ l) idle.alone) in
    record {
      accounts = ap (λ (m : SlotSeat). m.0.accounts) same ∙ accounts;
      differ = λ equal.
          let e = known.apart 0 1 (to, own_of other.0) (from, own_of old.0) (ap (λ (l : List Account). get_elem? l 0) accounts) (ap (λ (l : List Account). get_elem? l 1) accounts) equal in
          omega (arith, e);
      none_now = ap (λ (m : SlotSeat). m.0.now) same ∙ (ap (λ (m : SlotSeat). m.0.now) is ∙ idle.none_now);
      none_taken = ap (λ (m : SlotSeat). m.0.taken) same ∙ (ap (λ (m : SlotSeat). m.0.taken) is ∙ idle.none_taken);
      none_out = ap (λ (m : SlotSeat). m.1) same ∙ (ap (λ (m : SlotSeat). m.1) is ∙ idle.none_out);
    }

-- a session alone
alone_again : (slot : ℕ) (known : Known) (me : SlotSeat) → me.0.accounts ≡ (slot, known) ∷ [] → own_of me.0 ≡ known
alone_again slot known me is = ap (λ (l : List Account). own_in l) is

idle_alone : (slot : ℕ) (known : Known) (me : SlotSeat) → me.0.accounts ≡ (slot, known) ∷ [] → me.0.now ≡ None → me.0.taken ≡ [] → me.1 ≡ [] → IsIdle slot me
idle_alone slot known me is now taken out = record {
  alone = is ∙ ap (λ (k : Known). let l : List Account = (slot, k) ∷ [] in l) (sym (alone_again slot known me is));
  none_now = now;
  none_taken = taken;
  none_out = out;
}

knows_alone : (slots slot : ℕ) (known : Known) (me : SlotSeat) → me.0.accounts ≡ (slot, known) ∷ [] → me.0.slots ≡ slots → KnowsAuthorsOf slots slot known → KnowsAuthors slot me.0
knows_alone slots slot known me is same knows =
    let own = alone_again slot known me is in
    record {
      own = subst (λ (k : Known). made_at slot k.seen ≡ k.made) (sym own) knows.own;
      all = subst (λ (n : ℕ). HaveAuthors n (own_of me.0).seen) (sym same) (subst (λ (k : Known). HaveAuthors slots k.seen) (sym own) knows.all);
    }

pub told_seat : (from to : ℕ) (done : Bool) (old other joined compared later new told : SlotSeat) → joined ≡ (together old.0 other.0, old.1) → compared ≡ joined → HasTold from to done (own_of old.0) (own_of other.0) compared later → new ≡ (without_first later.0, later.1) → told ≡ (first_alone later.0, [])
    → KnowsAuthorsOf old.0.slots from (own_of old.0) → KnowsAuthorsOf old.0.slots to (own_of other.0) → HasToldSeat from to done old other new told
told_seat from to done old other joined compared later new told is same t left right knows other_knows =
    let has = t.both in
    let new_accounts : new.0.accounts ≡ (from, t.own_then) ∷ [] = ap (λ (m : SlotSeat). m.0.accounts) left ∙ ap (λ (l : List Account). behind_first l) has.accounts in
    let told_accounts : told.0.accounts ≡ (to, t.theirs_then) ∷ [] = ap (λ (m : SlotSeat). m.0.accounts) right ∙ ap (λ (l : List Account). first_in l) has.accounts in
    let first : later.0.first ≡ old.0.first = t.same_first ∙ (ap (λ (m : SlotSeat). m.0.first) same ∙ ap (λ (m : SlotSeat). m.0.first) is) in
    let before : compared.0.slots ≡ old.0.slots = ap (λ (m : SlotSeat). m.0.slots) same ∙ ap (λ (m : SlotSeat). m.0.slots) is in
    let slots : later.0.slots ≡ old.0.slots = t.same_slots ∙ before in
    let new_slots : new.0.slots ≡ compared.0.slots = ap (λ (m : SlotSeat). m.0.slots) left ∙ t.same_slots in
    let told_slots : told.0.slots ≡ compared.0.slots = ap (λ (m : SlotSeat). m.0.slots) right ∙ t.same_slots in
    let then_knows = t.own_authors (subst (λ (n : ℕ). KnowsAuthorsOf n from (own_of old.0)) (sym before) knows) in
    let then_theirs = t.theirs_authors (subst (λ (n : ℕ). KnowsAuthorsOf n to (own_of other.0)) (sym before) other_knows) in
    record {
      idle = idle_alone from t.own_then new new_accounts (ap (λ (m : SlotSeat). m.0.now) left ∙ has.none_now) (ap (λ (m : SlotSeat). m.0.taken) left ∙ has.none_taken) (ap (λ (m : SlotSeat). m.1) left ∙ has.none_out);
      told_idle = idle_alone to t.theirs_then told told_accounts (ap (λ (m : SlotSeat). m.0.now) right) (ap (λ (m : SlotSeat). m.0.taken) right) (ap (λ (m : SlotSeat). m.1) right);
      same_first = (ap (λ (m : SlotSeat). m.0.first) left ∙ first, ap (λ (m : SlotSeat). m.0.first) right ∙ first);
      same_slots = (ap (λ (m : SlotSeat). m.0.slots) left ∙ slots, ap (λ (m : SlotSeat). m.0.slots) right ∙ slots);
      more = subst (IsContinued (own_of old.0)) (sym (alone_again from t.own_then new new_accounts)) t.own_more;
      told_more = subst (IsContinued (own_of other.0)) (sym (alone_again to t.theirs_then told told_accounts)) t.theirs_more;
      authors = knows_alone compared.0.slots from t.own_then new new_accounts new_slots then_knows;
      told_authors = knows_alone compared.0.slots to t.theirs_then told told_accounts told_slots then_theirs;
      hears = λ is_done. subst (λ (k : Known). IsPrefix (own_of old.0).seen k.seen) (sym (alone_again to t.theirs_then told told_accounts)) (t.told is_done);
    }
