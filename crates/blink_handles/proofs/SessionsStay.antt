-- What a session knows goes on from call to call.
use Rattle.std.proofs.Common.{Result, Ok, Err, IfErr, OnOk, ◌≡◌, ◌∙◌, ◌||◌, Bool, IfSome, IsTrue, false, true, Option, Some, None, is_some, is_none, List, ◌++◌, append_assoc, append-nil, [], ap, inl, inr, refl, sym, subst}
use mathlib.Core.List.{IsPrefix}
use Rattle.std.specs.Arc.{arc_value}
use Rattle.std.specs.declared.alloc.Global.{Global}
use Rattle.std.specs.declared.sync.Arc.{Arc}
use Rattle.blink_batch.specs.declared.Answer.{Answer}
use Rattle.blink_batch.specs.declared.Entry.{Entry}
use Rattle.blink_batch.specs.declared.Op.{Op}
use Rattle.std.specs.Prelude.{ℕ}
use Rattle.blink_map.specs.declared.error.GrowError.{GrowError}
use Rattle.blink_map.specs.declared.growing.GrowingMap.{GrowingMap}
use Rattle.blink_map.specs.declared.growing.Session.{Session}
use Rattle.blink_map.specs.declared.held.Held.{Held}
use Rattle.blink_map.specs.declared.slots.Known.{Known}
use Rattle.blink_map.specs.{AnswersFrom, HasSamePlace, HasSameSlot, IsAnswered, IsAnsweredHeld, IsContinued, IsHeldOf, IsHeldOn, IsRefusalOf, IsSameBesideSeen, IsSameSession, IsSessionOf, held_of, is_fixed, known_by, known_to, opening_of, place_of, place_of_held}
use Rattle.blink_handles.specs.declared.map_refusal.MapRefusal.{MapRefusal}
use Rattle.blink_handles.specs.declared.map_refusal.MapRefusal.TheVariants as refused
use Rattle.blink_handles.specs.declared.session_owner.NotMade.{NotMade}
use Rattle.blink_handles.specs.declared.session_owner.NotMade.TheVariants.{Full, Refused}
use Rattle.blink_handles.specs.declared.session_owner.SessionOwner.{SessionOwner}
use Rattle.blink_handles.specs.declared.session_owner.UnderWay.{UnderWay}
use Rattle.blink_handles.specs.declared.shared_map.SharedMap.{SharedMap}
use Rattle.blink_handles.specs.MapCodes.{refusal_of}
use Rattle.blink_handles.specs.declared.raw.RawAnswer.{RawAnswer}
use Rattle.blink_handles.specs.Raw.{raw_answer}
use Rattle.blink_handles.specs.Sessions.{Answers, EndsFrom, HasAnswered, IsAdvanceRefusal, IsAtHand, IsAway, IsChangeRefusal, IsEmpty, IsGripped, IsNotMade, IsOwnSession, IsOfSame, IsRested, IsShortage, IsTakenOut, IsUnderWay, IsUnderWayIn, IsUntouched, KnowsSame, SeesMore, StaysAtHand, in_map, known_in, known_of, place_among, place_in}

pub prefix_through : {A : Type 0} (old mid new : List A) → IsPrefix old mid → IsPrefix mid new → IsPrefix old new
prefix_through {A} old mid new one other = (one.0 ++ other.0, sym (append_assoc old one.0 other.0) ∙ (ap (λ (l : List A). l ++ other.0) one.1 ∙ other.1))

pub same_prefix : {A : Type 0} (l : List A) → IsPrefix l l
same_prefix l = ([], append-nil l)

pub continued_through : (old mid new : Known) → IsContinued old mid → IsContinued mid new → IsContinued old new
continued_through old mid new one other = record {
  saw = prefix_through old.seen mid.seen new.seen one.saw other.saw;
  made = one.made ∙ other.made;
}

pub continued_same : (old new : Known) → new ≡ old → IsContinued old new
continued_same old new is = subst (λ (known : Known). IsContinued old known) (sym is) (record { saw = same_prefix old.seen; made = refl })

-- the answer to one who knew more is one to him who knew less, and made the same
pub answers_sooner : (opening : List Entry) (op : Op) (place : ℕ) (old mid new : Known) (answer : Answer) → IsContinued old mid → AnswersFrom opening op place mid new answer
    → AnswersFrom opening op place old new answer
answers_sooner opening op place old mid new answer on answers = record {
  before = answers.before;
  saw = prefix_through old.seen mid.seen answers.before on.saw answers.saw;
  answers = answers.answers;
  goes_on = answers.goes_on;
  made = rw on.made answers.made;
}

-- ---- whose it is

pub held_of_map : (map : GrowingMap) (old new : Held) → IsHeldOf map old → HasSamePlace old.seat old.slot new.seat new.slot → IsHeldOf map new
held_of_map map old new its same = record { same_table = same.same_table ∙ its.same_table; same_first = same.same_first ∙ its.same_first }

-- ---- what is there, and what isn't

-- where an operation is under way, no session is there
module _ (owner : SessionOwner) (doing : UnderWay) (its : IsOwnSession owner) (is : owner.under_way ≡ Some doing) where
  none_else : (free : Option Session) (held : Option Held) → (is_some free || is_some held) ≡ false → (free ≡ None) × (held ≡ None)
  none_else None None neither = (refl, refl)
  none_else None (Some held) neither = absurd (cc neither)
  none_else (Some session) held neither = absurd (cc neither)

  pub not_at_hand : (owner.free ≡ None) × (owner.held ≡ None)
  not_at_hand = none_else owner.free owner.held (its.one ∙ ap is_none is)

  pub knows_from : known_in owner ≡ known_by (held_of doing.pending)
  knows_from = λ i. known_of (not_at_hand.0 i) (not_at_hand.1 i) (is i)

  pub place_from : place_in owner ≡ place_of_held (held_of doing.pending)
  place_from = λ i. place_among (not_at_hand.0 i) (not_at_hand.1 i) (is i)

pub map_taken : {old new : SessionOwner} → IsTakenOut old new → in_map new ≡ in_map old
map_taken taken = ap (λ (shared : Arc SharedMap Global). (arc_value shared).map) taken.same_map

-- ---- a session that reads where it is

-- one that is free, or held, has no operation under way
idle : (any : Bool) (under_way : Option UnderWay) → any ≡ is_none under_way → any ≡ true → is_some under_way ≡ false
idle any None one there = refl
idle any (Some doing) one there = absurd (cc (one, there))

busy : (under_way : Option UnderWay) → false ≡ is_none under_way → is_some under_way ≡ true
busy None is = absurd (cc is)
busy (Some doing) is = refl

module _ (old : SessionOwner) (its : IsOwnSession old) where
  module _ (before now : Session) (is : old.free ≡ Some before) where
    abbrev pub free_now : SessionOwner
    free_now = record old { free = Some now }

    free_idle : is_some old.under_way ≡ false
    free_idle = idle (is_some old.free || is_some old.held) old.under_way its.one (ap (λ (free : Option Session). is_some free || is_some old.held) is)

    pub was_free : known_in old ≡ known_to before
    was_free = λ i. known_of (is i) old.held old.under_way

    free_place : HasSameSlot before now → place_in free_now ≡ place_in old
    free_place same = same.same_place ∙ sym (λ i. place_among (is i) old.held old.under_way)

    pub sees_free : IsSameBesideSeen before now → SeesMore old free_now
    sees_free same = record {
      same = record { same_map = refl; same_place = free_place same.same_slot };
      at_hand = record { was = free_idle; is = free_idle };
      knows = subst (λ (known : Known). IsContinued known (known_to now)) (sym was_free) (record { saw = same.saw; made = sym same.made });
    }

    pub answers_free : (op : Op) (answer : Answer) → IsAnswered (in_map old) op before now answer → Answers op old free_now (raw_answer answer)
    answers_free op answer answered =
        let i = answered.in_order in
        let here : AnswersFrom (opening_of (in_map old)) op (place_of before) (known_to before) (known_to now) answer =
        record { before = i.before; saw = i.saw; answers = i.answers; goes_on = i.goes_on; made = i.made } in
        record {
          was = free_idle;
          ended = record {
            at_hand = free_idle;
            answer = answer;
            its_answer = refl;
            in_order = subst (λ (x : ℕ × Known). AnswersFrom (opening_of (in_map old)) op x.0 x.1 (known_to now) answer) (λ i. (sym (λ j. place_among (is j) old.held old.under_way) i, sym was_free i)) here;
            same = record { same_map = refl; same_place = free_place answered.same_slot };
          };
        }

    pub away_free : IsSameSession before now → IsAway old free_now refused.Busy
    away_free same = record {
      stays = record {
        same = record { same_map = refl; same_place = free_place same.same_slot };
        knows = (λ i. record { seen = same.seen i; made = same.made i }) ∙ sym was_free;
      };
      why = inl (refl, record { was = free_idle; is = free_idle });
    }

  module _ (before now : Held) (not_free : old.free ≡ None) (is : old.held ≡ Some before) where
    abbrev pub held_now : SessionOwner
    held_now = record old { held = Some now }

    held_idle : is_some old.under_way ≡ false
    held_idle = idle (is_some old.free || is_some old.held) old.under_way its.one (λ i. is_some (not_free i) || is_some (is i))

    pub was_held : known_in old ≡ known_by before
    was_held = λ i. known_of (not_free i) (is i) old.under_way

    pub held_knows : known_in held_now ≡ known_by now
    held_knows = λ i. known_of (not_free i) (Some now) old.under_way

    was_held_at : place_in old ≡ place_of_held before
    was_held_at = λ i. place_among (not_free i) (is i) old.under_way

    held_place : HasSamePlace before.seat before.slot now.seat now.slot → place_in held_now ≡ place_in old
    held_place same = (λ i. place_among (not_free i) (Some now) old.under_way) ∙ (same.same_place ∙ sym was_held_at)

    pub answers_held : (op : Op) (answer : Answer) → IsAnsweredHeld (in_map old) op before now answer → Answers op old held_now (raw_answer answer)
    answers_held op answer answered = record {
      was = held_idle;
      ended = record {
        at_hand = held_idle;
        answer = answer;
        its_answer = refl;
        in_order = subst (λ (x : ℕ × Known × Known). AnswersFrom (opening_of (in_map old)) op x.0 x.1 x.2 answer) (λ i. (sym was_held_at i, sym was_held i, sym held_knows i)) answered.in_order;
        same = record { same_map = refl; same_place = held_place answered.same_place };
      };
    }

    pub sees_held : IsHeldOn before now → SeesMore old held_now
    sees_held on = record {
      same = record { same_map = refl; same_place = held_place on.same_place };
      at_hand = record { was = held_idle; is = held_idle };
      knows = subst (λ (x : Known × Known). IsContinued x.0 x.1) (λ i. (sym was_held i, sym held_knows i)) on.knows;
    }

  -- where neither is there, an operation is under way
  pub away_busy : old.free ≡ None → old.held ≡ None → IsAway old old refused.UnderWay
  away_busy not_free not_held = record {
    stays = record { same = record { same_map = refl; same_place = refl }; knows = refl };
    why = inr (refl, busy old.under_way (sym (λ i. is_some (not_free i) || is_some (not_held i)) ∙ its.one), refl);
  }

-- what is said of an answer that may be there
pub if_some : {A : Type 0} (found : Option A) (P Q : A → Type 0) → ((a : A) → P a → Q a) → IfSome found P → IfSome found Q
if_some (Some a) P Q on was = on a was
if_some None P Q on was = was

pub on_ok : {A E : Type 0} (outcome : Result A E) (P Q : Type 0) → (P → Q) → OnOk outcome P → OnOk outcome Q
on_ok (Ok a) P Q on was = on was
on_ok (Err e) P Q on was = was

pub on_err : {A E : Type 0} (outcome : Result A E) (P Q : E → Type 0) → ((e : E) → P e → Q e) → IfErr outcome P → IfErr outcome Q
on_err (Ok a) P Q on was = was
on_err (Err e) P Q on was = on e was

-- where nothing is there, a session of the map is put back
pub own_again : (owner : SessionOwner) (session : Session) → IsEmpty owner → IsSessionOf (in_map owner) session → IsOwnSession (record owner { free = Some session })
own_again owner session empty its = record {
  its_session = its;
  its_held = subst (λ (held : Option Held). IfSome held (IsHeldOf (in_map owner))) (sym empty.not_held) tt;
  its_operation = subst (λ (doing : Option UnderWay). IfSome doing (IsUnderWayIn (in_map owner))) (sym empty.no_operation) tt;
  one = ap is_none (sym empty.no_operation);
  not_two = ap is_some empty.not_held;
}

-- ---- a session that is held for a call

-- what a call has made of the held session is what the owner knows, once it is put back
pub known_at_rest : (old mid new : SessionOwner) (held now : Held) → IsGripped old held → in_map mid ≡ in_map old → IsContinued (known_by held) (known_by now)
    → place_of_held now ≡ place_of_held held → IsRested now mid new → SeesMore old new
known_at_rest old mid new held now gripped same on place rested = record {
  at_hand = record { was = gripped.at_hand; is = rested.at_hand };
  same = record { same_map = rested.same_map ∙ same; same_place = rested.same_place ∙ (place ∙ gripped.same_place) };
  knows = subst (λ (known : Known). IsContinued (known_in old) known) (sym rested.knows)
      (continued_through (known_in old) (known_by held) (known_by now) gripped.knows on);
}

-- an operation of a held session, of this place, has ended, and the session is put back
pub ended_at_rest : (old mid new : SessionOwner) (op : Op) (held now : Held) (answer : Answer) (given : RawAnswer) (before : Known) → place_of_held held ≡ place_in old → IsContinued before (known_by held)
    → in_map mid ≡ in_map old → IsAnsweredHeld (in_map old) op held now answer → IsRested now mid new → given ≡ raw_answer answer → HasAnswered op (place_in old) before old new given
ended_at_rest old mid new op held now answer given before place knows same answered rested is =
    let order = answers_sooner (opening_of (in_map old)) op (place_of_held held) before (known_by held) (known_by now) answer knows answered.in_order in
    let here : AnswersFrom (opening_of (in_map old)) op (place_in old) before (known_by now) answer =
    subst (λ (place : ℕ). AnswersFrom (opening_of (in_map old)) op place before (known_by now) answer) place order in
    record {
      at_hand = rested.at_hand;
      answer = answer;
      its_answer = is;
      in_order = subst (λ (known : Known). AnswersFrom (opening_of (in_map old)) op (place_in old) before known answer) (sym rested.knows) here;
      same = record { same_map = rested.same_map ∙ same; same_place = rested.same_place ∙ (answered.same_place.same_place ∙ place) };
    }

pub same_through : (old mid new : SessionOwner) → IsOfSame old mid → IsOfSame mid new → IsOfSame old new
same_through old mid new one other = record { same_map = other.same_map ∙ one.same_map; same_place = other.same_place ∙ one.same_place }

pub sees_through : (old mid new : SessionOwner) → SeesMore old mid → SeesMore mid new → SeesMore old new
sees_through old mid new one other = record {
  same = same_through old mid new one.same other.same;
  at_hand = record { was = one.at_hand.was; is = other.at_hand.is };
  knows = continued_through (known_in old) (known_in mid) (known_in new) one.knows other.knows;
}

-- one that is at hand has seen what it has seen
pub sees_itself : (owner : SessionOwner) → IsAtHand owner → SeesMore owner owner
sees_itself owner at_hand = record {
  same = record { same_map = refl; same_place = refl };
  at_hand = record { was = at_hand; is = at_hand };
  knows = continued_same (known_in owner) (known_in owner) refl;
}

pub sees_same : (old new : SessionOwner) → StaysAtHand old new → KnowsSame old new → SeesMore old new
sees_same old new at_hand knows = record {
  same = knows.same;
  at_hand = at_hand;
  knows = continued_same (known_in old) (known_in new) knows.knows;
}

-- an answer to one who has only seen more since is one to him who began
pub answered_through : (old mid new : SessionOwner) (op : Op) (given : RawAnswer) → IsOfSame old mid → IsContinued (known_in old) (known_in mid)
    → HasAnswered op (place_in mid) (known_in mid) mid new given → HasAnswered op (place_in old) (known_in old) old new given
answered_through old mid new op given same knows ended =
    let opening : opening_of (in_map mid) ≡ opening_of (in_map old) = ap opening_of same.same_map in
    let order = subst (λ (first : List Entry). AnswersFrom first op (place_in mid) (known_in mid) (known_in new) ended.answer) opening ended.in_order in
    let here = subst (λ (place : ℕ). AnswersFrom (opening_of (in_map old)) op place (known_in mid) (known_in new) ended.answer) same.same_place order in
    record {
      at_hand = ended.at_hand;
      answer = ended.answer;
      its_answer = ended.its_answer;
      in_order = answers_sooner (opening_of (in_map old)) op (place_in old) (known_in old) (known_in mid) (known_in new) ended.answer knows here;
      same = same_through old mid new same ended.same;
    }

pub answers_through : (old mid new : SessionOwner) (op : Op) (given : RawAnswer) → SeesMore old mid → Answers op mid new given → Answers op old new given
answers_through old mid new op given sees answers = record { was = sees.at_hand.was; ended = answered_through old mid new op given sees.same sees.knows answers.ended }

-- after one that was tried in place, and isn't made
pub answers_untouched : (old mid new : SessionOwner) (op : Op) (given : RawAnswer) → IsUntouched old mid → Answers op mid new given → Answers op old new given
answers_untouched old mid new op given (inl sees) answers = answers_through old mid new op given sees answers
answers_untouched old mid new op given (inr same) answers = subst (λ (owner : SessionOwner). Answers op owner new given) same answers

-- ---- why a change isn't made

-- a session that can't be held changes nothing
pub away_refuses : (op : Op) (old new : SessionOwner) (refusal : MapRefusal) → IsAway old new refusal → IsChangeRefusal op old new refusal
away_refuses op old new refusal away = elim away.why [
  | inl waits ↦ inr (inr (inr (inl waits.0)), sees_same old new waits.1 away.stays)
  | inr under_way ↦ inl (under_way.0, inr (under_way.1, under_way.2))
]

-- what the map lacked then it lacks now
pub shortage_through : (old mid : SessionOwner) (refusal : MapRefusal) → IsOfSame old mid → IsShortage (in_map mid) refusal → IsShortage (in_map old) refusal
shortage_through old mid refusal same short = subst (λ (map : GrowingMap). IsShortage map refusal) same.same_map short

pub refused_through : (op : Op) (old mid new : SessionOwner) (refusal : MapRefusal) → SeesMore old mid → IsChangeRefusal op mid new refusal → IsChangeRefusal op old new refusal
refused_through op old mid new refusal sees (inl (is, inl busy)) = inl (
  is,
  inl (record {
    was = sees.at_hand.was;
    pending = busy.pending;
    is = busy.is;
    same_op = busy.same_op;
    same = same_through old mid new sees.same busy.same;
    knows = continued_through (known_in old) (known_in mid) (known_in new) sees.knows busy.knows;
  }),
)
refused_through op old mid new refusal sees (inl (is, inr under_way)) = absurd (cc (sees.at_hand.is, under_way.0))
refused_through op old mid new refusal sees (inr why) = inr (shortage_through old mid refusal sees.same why.0, sees_through old mid new sees why.1)

pub not_made_untouched : (op : Op) (old mid new : SessionOwner) (why : NotMade) → IsUntouched old mid → IsNotMade op mid new why → IsNotMade op old new why
not_made_untouched op old mid new (Refused refusal) (inl sees) not_made = refused_through op old mid new refusal sees not_made
not_made_untouched op old mid new (Full number) (inl sees) not_made = sees_through old mid new sees not_made
not_made_untouched op old mid new why (inr same) not_made = subst (λ (owner : SessionOwner). IsNotMade op owner new why) same not_made

-- the map couldn't be renewed
pub not_renewed : (op : Op) (old new : SessionOwner) (refusal : GrowError) → IsRefusalOf (in_map new) refusal → SeesMore old new → IsChangeRefusal op old new (refusal_of refusal)
not_renewed op old new refusal (inl (inl is)) sees = inr (inl (ap refusal_of is), sees)
not_renewed op old new refusal (inl (inr (inl is))) sees = inr (inr (inl (ap refusal_of is)), sees)
not_renewed op old new refusal (inl (inr (inr is))) sees = inr (inr (inr (inl (ap refusal_of is))), sees)
not_renewed op old new refusal (inr full) sees =
    let fixed = subst (λ (map : GrowingMap). IsTrue (is_fixed map)) sees.same.same_map full.1 in
    inr (inr (inr (inr (inr (ap refusal_of full.0, fixed)))), sees)

-- what a change makes of its renewals
pub ruleset renewals = (answers_through, refused_through, not_renewed, sees_through, sees_itself)

-- ---- a session that has no operation to go on with

-- an advance leaves it as it was
module _ (old new : SessionOwner) (answer : RawAnswer) where
  as_it_was : (doing : Option UnderWay) → is_some doing ≡ false → (outcome : Result (Unit {0}) MapRefusal) → OnOk outcome (EndsFrom doing old new answer) → IfErr outcome (IsAdvanceRefusal doing old new) → new ≡ old
  as_it_was None idle (Ok done) ended refused = absurd ended
  as_it_was None idle (Err refusal) ended refused = refused.1
  as_it_was (Some doing) idle outcome ended refused = absurd (cc idle)

  pub idle_after : (outcome : Result (Unit {0}) MapRefusal) → OnOk outcome (EndsFrom old.under_way old new answer) → IfErr outcome (IsAdvanceRefusal old.under_way old new) → IsAtHand old → IsAtHand new
  idle_after outcome ended refused idle = subst IsAtHand (sym (as_it_was old.under_way idle outcome ended refused)) idle

-- and where it is neither free nor held it wasn't at hand
pub was_under_way : (first last : SessionOwner) → IsOwnSession last → last.free ≡ None → last.held ≡ None → (IsAtHand first → IsAtHand last) → IsUnderWay first
was_under_way first last its not_free not_held stays = by first.under_way refl
  where
    away : is_none last.under_way ≡ false
    away = sym its.one ∙ (λ i. is_some (not_free i) || is_some (not_held i))

    busy_then : (doing : Option UnderWay) → is_none doing ≡ false → is_some doing ≡ false → ⊥
    busy_then None busy idle = absurd (cc busy)
    busy_then (Some doing) busy idle = absurd (cc idle)

    by : (doing : Option UnderWay) → first.under_way ≡ doing → IsUnderWay first
    by (Some doing) is = ap is_some is
    by None is = absurd (busy_then last.under_way away (stays (ap is_some is)))
