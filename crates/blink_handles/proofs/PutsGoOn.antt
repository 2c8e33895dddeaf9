-- What the operations of a put make of their session.
use Rattle.std.proofs.Common.{Result, Ok, Err, IfErr, OnOk, ◌≡◌, ◌∙◌, ℕ, false, true, Option, Some, None, List, [], ◌++◌, append-nil, ap, inl, inr, refl, subst, sym}
use Rattle.std.specs.Prelude.{◌⊎◌, IfSome, is_none, is_some}
use Rattle.blink_batch.specs.declared.Op.{Op}
use Rattle.blink_batch.specs.declared.Op.TheVariants.{Insert, Replace}
use Rattle.blink_batch.specs.{answer_at, key_of, pointer_of}
use Rattle.blink_live.specs.declared.view.Change.{Change}
use Rattle.blink_live.specs.{after, changes_made}
use Rattle.blink_map.specs.declared.growing.Session.{Session}
use Rattle.blink_map.specs.declared.held.Held.{Held}
use Rattle.blink_map.specs.declared.held.PendingHeld.{PendingHeld}
use Rattle.blink_map.specs.declared.slots.Known.{Known}
use Rattle.blink_map.specs.{IsContinued, op_of, opening_of}
use Rattle.blink_handles.specs.declared.map_refusal.MapRefusal.{MapRefusal}
use Rattle.blink_handles.specs.declared.map_refusal.MapRefusal.TheVariants as refused
use Rattle.blink_handles.specs.declared.raw.RawAnswer.{RawAnswer}
use Rattle.blink_handles.specs.declared.raw.TheConstants.{INSERTED, REPLACED}
use Rattle.blink_handles.specs.declared.session_owner.SessionOwner.{SessionOwner}
use Rattle.blink_handles.specs.declared.session_owner.UnderWay.{UnderWay}
use Rattle.blink_handles.specs.Raw.{raw_answer}
use Rattle.blink_handles.specs.Sessions.{HasAnswered, HasPut, HasSeenMore, HasStepped, IsAtHand, IsChangeRefusal, IsNotPut, IsOfPut, IsOwnSession, IsStepRefusal, IsUnderWayIn, in_map, is_putting, known_in, known_of, place_among, place_in, put_in, tells_put}
use Rattle.blink_handles.proofs.SessionsStay.{answered_through, continued_same, continued_through, prefix_through, same_through, shortage_through}

-- ---- by the state of the key before

-- an insertion, or a replacement, has made its change just if its answer tells a put
abbrev pub TellsChange : ℕ → Op → Option ℕ → ℕ → RawAnswer → Type 0
TellsChange kind op there place given = ((tells_put given ≡ true) × (given.kind ≡ kind)) ⊎ ((tells_put given ≡ false) × (changes_made place op there ≡ []))

insertion_tells : (key pointer place : ℕ) (there : Option ℕ) (given : RawAnswer) → given ≡ raw_answer (answer_at (Insert key pointer) there) → TellsChange INSERTED (Insert key pointer) there place given
insertion_tells key pointer place None given is = inl (ap tells_put is, ap (λ (raw : RawAnswer). raw.kind) is)
insertion_tells key pointer place (Some pointer_there) given is = inr (ap tells_put is, refl)

replacement_tells : (key pointer place : ℕ) (there : Option ℕ) (given : RawAnswer) → given ≡ raw_answer (answer_at (Replace key pointer) there) → TellsChange REPLACED (Replace key pointer) there place given
replacement_tells key pointer place None given is = inr (ap tells_put is, refl)
replacement_tells key pointer place (Some pointer_there) given is = inl (ap tells_put is, ap (λ (raw : RawAnswer). raw.kind) is)

-- ---- one operation of a put

-- an operation that has made no change leaves a session that may have seen more
module _ (old new : SessionOwner) (op : Op) (given : RawAnswer) (ended : HasAnswered op (place_in old) (known_in old) old new given) where
  abbrev pub there : Option ℕ
  there = after (pointer_of (opening_of (in_map old))) ended.in_order.before (key_of op)

  pub answer_is : given ≡ raw_answer (answer_at op there)
  answer_is = ended.its_answer ∙ ap raw_answer ended.in_order.answers

  pub seen_only : changes_made (place_in old) op there ≡ [] → HasSeenMore old new
  seen_only none = record {
    at_hand = ended.at_hand;
    same = ended.same;
    knows = record {
      saw = prefix_through (known_in old).seen ended.in_order.before (known_in new).seen ended.in_order.saw
          (prefix_through ended.in_order.before (ended.in_order.before ++ changes_made (place_in old) op there) (known_in new).seen (changes_made (place_in old) op there, refl) ended.in_order.goes_on);
      made = sym (ended.in_order.made ∙ (ap (λ (l : List Change). (known_in old).made ++ l) none ∙ append-nil (known_in old).made));
    };
  }

module _ (old new : SessionOwner) (key pointer : ℕ) (given : RawAnswer) where
  abbrev EndedBy : Op → Type 0
  EndedBy op = HasAnswered op (place_in old) (known_in old) old new given

  has_put_if : (kind : ℕ) (op : Op) (ended : EndedBy op) → TellsChange kind op (there old new op given ended) (place_in old) given → tells_put given ≡ true → given.kind ≡ kind
  has_put_if kind op ended (inl made) is = made.1
  has_put_if kind op ended (inr none) is = absurd (cc (is, none.0))

  seen_if : (kind : ℕ) (op : Op) (ended : EndedBy op) → TellsChange kind op (there old new op given ended) (place_in old) given → tells_put given ≡ false → HasSeenMore old new
  seen_if kind op ended (inl made) is = absurd (cc (is, made.0))
  seen_if kind op ended (inr none) is = seen_only old new op given ended none.1

  inserts_tell : (ended : EndedBy (Insert key pointer)) → TellsChange INSERTED (Insert key pointer) (there old new (Insert key pointer) given ended) (place_in old) given
  inserts_tell ended = insertion_tells key pointer (place_in old) (there old new (Insert key pointer) given ended) given (answer_is old new (Insert key pointer) given ended)

  replaces_tell : (ended : EndedBy (Replace key pointer)) → TellsChange REPLACED (Replace key pointer) (there old new (Replace key pointer) given ended) (place_in old) given
  replaces_tell ended = replacement_tells key pointer (place_in old) (there old new (Replace key pointer) given ended) given (answer_is old new (Replace key pointer) given ended)

  pub put_answered : (op : Op) → IsOfPut key pointer op → tells_put given ≡ true → EndedBy op → HasPut key pointer old new given
  put_answered op (inl inserts) is has =
      let ended : EndedBy (Insert key pointer) = subst EndedBy inserts has in
      inl (has_put_if INSERTED (Insert key pointer) ended (inserts_tell ended) is, ended)
  put_answered op (inr replaces) is has =
      let ended : EndedBy (Replace key pointer) = subst EndedBy replaces has in
      inr (has_put_if REPLACED (Replace key pointer) ended (replaces_tell ended) is, ended)

  pub put_tried : (op : Op) → IsOfPut key pointer op → tells_put given ≡ false → EndedBy op → HasSeenMore old new
  put_tried op (inl inserts) is has =
      let ended : EndedBy (Insert key pointer) = subst EndedBy inserts has in
      seen_if INSERTED (Insert key pointer) ended (inserts_tell ended) is
  put_tried op (inr replaces) is has =
      let ended : EndedBy (Replace key pointer) = subst EndedBy replaces has in
      seen_if REPLACED (Replace key pointer) ended (replaces_tell ended) is

-- ---- one after another

pub seen_itself : (owner : SessionOwner) → IsAtHand owner → HasSeenMore owner owner
seen_itself owner at_hand = record {
  at_hand = at_hand;
  same = record { same_map = refl; same_place = refl };
  knows = continued_same (known_in owner) (known_in owner) refl;
}

module _ (old mid new : SessionOwner) (first : HasSeenMore old mid) where
  pub seen_through : HasSeenMore mid new → HasSeenMore old new
  seen_through then = record {
    at_hand = then.at_hand;
    same = same_through old mid new first.same then.same;
    knows = continued_through (known_in old) (known_in mid) (known_in new) first.knows then.knows;
  }

  pub put_through : (key pointer : ℕ) (given : RawAnswer) → HasPut key pointer mid new given → HasPut key pointer old new given
  put_through key pointer given (inl put) = inl (put.0, answered_through old mid new (Insert key pointer) given first.same first.knows put.1)
  put_through key pointer given (inr put) = inr (put.0, answered_through old mid new (Replace key pointer) given first.same first.knows put.1)

  pub not_put_through : (key pointer : ℕ) (refusal : MapRefusal) → IsNotPut key pointer mid new refusal → IsNotPut key pointer old new refusal
  not_put_through key pointer refusal (inl on) = inl (
    on.0,
    record {
      pending = on.1.pending;
      is = on.1.is;
      same = same_through old mid new first.same on.1.same;
      knows = continued_through (known_in old) (known_in mid) (known_in new) first.knows on.1.knows;
    },
  )
  not_put_through key pointer refusal (inr why) = inr (shortage_through old mid refusal first.same why.0, seen_through why.1)

-- the operation that comes next may be one of several in vain
pub put_then : (old mid new : SessionOwner) (key pointer : ℕ) (op : Op) (given : RawAnswer) → HasSeenMore old mid → IsOfPut key pointer op → tells_put given ≡ true
    → HasAnswered op (place_in mid) (known_in mid) mid new given → HasPut key pointer old new given
put_then old mid new key pointer op given seen of_put is ended = put_through old mid new seen key pointer given (put_answered mid new key pointer given op of_put is ended)

pub tried_then : (old mid new : SessionOwner) (key pointer : ℕ) (op : Op) (given : RawAnswer) → HasSeenMore old mid → IsOfPut key pointer op → tells_put given ≡ false
    → HasAnswered op (place_in mid) (known_in mid) mid new given → HasSeenMore old new
tried_then old mid new key pointer op given seen of_put is ended = seen_through old mid new seen (put_tried mid new key pointer given op of_put is ended)

-- other sessions were always between
pub never_put : (old new : SessionOwner) (key pointer : ℕ) → HasSeenMore old new → IsNotPut key pointer old new refused.Busy
never_put old new key pointer seen = inr (inr (inr (inl refl)), seen)

pub ruleset puts = (seen_itself, put_then, tried_then, not_put_through, never_put)

-- ---- a put that goes on

same_knowledge : (put : ℕ × ℕ) (free : Option Session) (held : Option Held) (doing : Option UnderWay) → known_of free held (is_putting put doing) ≡ known_of free held doing
same_knowledge put (Some session) held doing = refl
same_knowledge put None (Some held) doing = refl
same_knowledge put None None (Some doing) = refl
same_knowledge put None None None = refl

same_place : (put : ℕ × ℕ) (free : Option Session) (held : Option Held) (doing : Option UnderWay) → place_among free held (is_putting put doing) ≡ place_among free held doing
same_place put (Some session) held doing = refl
same_place put None (Some held) doing = refl
same_place put None None (Some doing) = refl
same_place put None None None = refl

same_none : (put : ℕ × ℕ) (doing : Option UnderWay) → is_none doing ≡ is_none (is_putting put doing)
same_none put None = refl
same_none put (Some doing) = refl

nothing_put : (put : ℕ × ℕ) (doing : Option UnderWay) → is_some doing ≡ false → is_putting put doing ≡ doing
nothing_put put None at_hand = refl
nothing_put put (Some doing) at_hand = absurd (cc at_hand)

-- the operation under way, or another one
abbrev op_in : Op → Option UnderWay → Op
op_in other None = other
op_in other (Some doing) = op_of doing.pending

module _ (put : ℕ × ℕ) (old mid : SessionOwner) (op : Op) (refusal : MapRefusal) (was : IsAtHand old) where
  abbrev pub marked : SessionOwner
  marked = record mid { under_way = is_putting put mid.under_way }

  -- where the operation goes on, the put does
  pub not_put_by : IsChangeRefusal op old mid refusal → IsNotPut put.0 put.1 old marked refusal
  not_put_by (inl (is, inl busy)) = inl (
    is,
    record {
      pending = busy.pending;
      is = ap (is_putting put) busy.is;
      same = record { same_map = busy.same.same_map; same_place = same_place put mid.free mid.held mid.under_way ∙ busy.same.same_place };
      knows = subst (λ (known : Known). IsContinued (known_in old) known) (sym (same_knowledge put mid.free mid.held mid.under_way)) busy.knows;
    },
  )
  not_put_by (inl (is, inr under_way)) = absurd (cc (was, under_way.0))
  not_put_by (inr why) = inr (
    why.0,
    subst (HasSeenMore old) (sym (λ i. record mid { under_way = nothing_put put mid.under_way why.1.at_hand.is i }))
        (record { at_hand = why.1.at_hand.is; same = why.1.same; knows = why.1.knows }),
  )

  its_put : IsOfPut put.0 put.1 op → (doing : Option UnderWay) → IfSome doing (IsUnderWayIn (in_map mid)) → (pending : PendingHeld) → doing ≡ Some (record { pending = pending; put = None }) → op_of pending ≡ op
      → IfSome (is_putting put doing) (IsUnderWayIn (in_map mid))
  its_put of_put None its pending is same_op = tt
  its_put of_put (Some doing) its pending is same_op = record {
    its_own = its.its_own;
    of_put = subst (IsOfPut put.0 put.1) (sym (ap (op_in op) is ∙ same_op)) of_put;
  }

  pub own_putting : IsOwnSession mid → IsOfPut put.0 put.1 op → IsChangeRefusal op old mid refusal → IsOwnSession marked
  own_putting its of_put (inl (is, inl busy)) = record {
    its_session = its.its_session;
    its_held = its.its_held;
    its_operation = its_put of_put mid.under_way its.its_operation busy.pending busy.is busy.same_op;
    one = its.one ∙ same_none put mid.under_way;
    not_two = its.not_two;
  }
  own_putting its of_put (inl (is, inr under_way)) = absurd (cc (was, under_way.0))
  own_putting its of_put (inr why) = subst IsOwnSession (sym (λ i. record mid { under_way = nothing_put put mid.under_way why.1.at_hand.is i })) its

-- ---- a put under way

module _ (put : ℕ × ℕ) (old new : SessionOwner) where
  -- its operation goes on, and so does it
  pub not_stepped : (doing : Option UnderWay) (refusal : MapRefusal) → put_in doing ≡ Some put → IsStepRefusal doing old new refusal → IsNotPut put.0 put.1 old new refusal
  not_stepped None refusal putting why = absurd (cc putting)
  not_stepped (Some doing) refusal putting why = inl (
    why.0,
    record {
      pending = why.1.now;
      is = why.1.is ∙ ap (λ (p : Option (ℕ × ℕ)). Some (record { pending = why.1.now; put = p })) putting;
      same = why.1.same.same;
      knows = continued_same (known_in old) (known_in new) why.1.same.knows;
    },
  )

  its_op : (doing : UnderWay) (of_put : IfSome doing.put (λ p. IsOfPut p.0 p.1 (op_of doing.pending))) → doing.put ≡ Some put → IsOfPut put.0 put.1 (op_of doing.pending)
  its_op doing of_put putting = subst (λ (p : Option (ℕ × ℕ)). IfSome p (λ q. IsOfPut q.0 q.1 (op_of doing.pending))) putting of_put

  module _ (given : RawAnswer) where
    -- its operation has ended, and has put nothing
    pub tried_by_step : (doing : Option UnderWay) → IfSome doing (IsUnderWayIn (in_map old)) → put_in doing ≡ Some put → tells_put given ≡ false → HasStepped doing old new given → HasSeenMore old new
    tried_by_step None under putting is ended = absurd ended
    tried_by_step (Some doing) under putting is ended = put_tried old new put.0 put.1 given (op_of doing.pending) (its_op doing under.of_put putting) is ended

    -- its operation has put the pointer
    pub put_by_step : (doing : Option UnderWay) → IfSome doing (IsUnderWayIn (in_map old)) → put_in doing ≡ Some put → tells_put given ≡ true → HasStepped doing old new given → HasPut put.0 put.1 old new given
    put_by_step None under putting is ended = absurd ended
    put_by_step (Some doing) under putting is ended = put_answered old new put.0 put.1 given (op_of doing.pending) (its_op doing under.of_put putting) is ended

-- ---- by the outcome of a call

pub on_ok : {E P Q : Type 0} (outcome : Result (Unit {0}) E) → (P → Q) → OnOk outcome P → OnOk outcome Q
on_ok (Ok done) then holds = then holds
on_ok (Err refusal) then holds = tt

pub if_err : {E : Type 0} {P Q : E → Type 0} (outcome : Result (Unit {0}) E) → ((refusal : E) → P refusal → Q refusal) → IfErr outcome P → IfErr outcome Q
if_err (Ok done) then holds = tt
if_err (Err refusal) then holds = then refusal holds
