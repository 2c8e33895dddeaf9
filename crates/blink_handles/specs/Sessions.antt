-- A session behind a handle: what the calls make of it, and why they are refused. What a session has seen and made is
-- what it knows (`Known`), whether it is free, held, or has an operation under way.
use Rattle.std.specs.Prelude.{◌≡◌, ◌⊎◌, ◌||◌, ◌&&◌, ◌==◌, ℕ, Bool, false, IsTrue, Option, Some, None, IfSome, IsNone, IsSome, List, [], is_none, is_some}
use Rattle.std.specs.Arc.{arc_value}
use Rattle.blink_batch.specs.declared.Answer.{Answer}
use Rattle.blink_batch.specs.declared.Entry.{Entry}
use Rattle.blink_batch.specs.declared.Op.{Op}
use Rattle.blink_batch.specs.declared.Op.TheVariants.{Insert, Replace}
use Rattle.blink_batch.specs.{pointer_of}
use Rattle.blink_live.specs.{after}
use Rattle.blink_map.specs.declared.growing.GrowingMap.{GrowingMap}
use Rattle.blink_map.specs.declared.held.Held.{Held}
use Rattle.blink_map.specs.declared.growing.Session.{Session}
use Rattle.blink_map.specs.declared.held.PendingHeld.{PendingHeld}
use Rattle.blink_map.specs.declared.slots.Known.{Known}
use Rattle.blink_map.specs.{AnswersFrom, IsContinued, IsHeldOf, IsPendingOf, IsSessionOf, held_of, is_fixed, known_by, known_to, op_of, opening_of, place_of, place_of_held, stock_of_held}
use Rattle.blink_handles.specs.declared.raw.RawAnswer.{RawAnswer}
use Rattle.blink_handles.specs.declared.raw.RawScanned.{RawScanned}
use Rattle.blink_handles.specs.declared.raw.RawStock.{RawStock}
use Rattle.blink_handles.specs.declared.raw.RawTaken.{RawTaken}
use Rattle.blink_handles.specs.declared.raw.TheConstants.{INSERTED, REPLACED}
use Rattle.blink_handles.specs.declared.map_refusal.MapRefusal.{MapRefusal}
use Rattle.blink_handles.specs.declared.map_refusal.MapRefusal.TheVariants as refused
use Rattle.blink_handles.specs.declared.session_owner.SessionOwner.{SessionOwner}
use Rattle.blink_handles.specs.declared.session_owner.UnderWay.{UnderWay}
use Rattle.blink_handles.specs.declared.session_owner.NotMade.{NotMade}
use Rattle.blink_handles.specs.declared.session_owner.NotMade.TheVariants.{Refused, Full}
use Rattle.blink_handles.specs.Raw.{raw_answer, raw_shown, raw_stock}
use Rattle.blink_handles.specs.Reports.{HasReported, HasReportedBack, TellsTaken}

-- the map
abbrev pub in_map : SessionOwner → GrowingMap
in_map owner = (arc_value owner.shared).map

-- the operation is one of a put: it inserts, or replaces
abbrev pub IsOfPut : ℕ → ℕ → Op → Type 0
IsOfPut key pointer op = (op ≡ Insert key pointer) ⊎ (op ≡ Replace key pointer)

-- what is under way is of this map, and is of the put that it is to be of
pub record IsUnderWayIn (map : GrowingMap) (doing : UnderWay) : Type 0 where
  pub its_own : IsPendingOf map doing.pending
  pub of_put : IfSome doing.put (λ put. IsOfPut put.0 put.1 (op_of doing.pending))

-- a handle that a call has filled has a session of its map, free or held, or its operation: one of the three is always there between
-- calls, and never two
pub record IsOwnSession (owner : SessionOwner) : Type 0 where
  pub its_session : IfSome owner.free (IsSessionOf (in_map owner))
  pub its_held : IfSome owner.held (IsHeldOf (in_map owner))
  pub its_operation : IfSome owner.under_way (IsUnderWayIn (in_map owner))
  pub one : (is_some owner.free || is_some owner.held) ≡ is_none owner.under_way
  pub not_two : (is_some owner.free && is_some owner.held) ≡ false

-- within a call none is there
pub record IsEmpty (owner : SessionOwner) : Type 0 where
  pub not_free : owner.free ≡ None
  pub not_held : owner.held ≡ None
  pub no_operation : owner.under_way ≡ None

-- what it knows: where an operation is under way, what it knew before
abbrev pub known_of : Option Session → Option Held → Option UnderWay → Known
known_of (Some session) held under_way = known_to session
known_of None (Some held) under_way = known_by held
known_of None None (Some doing) = known_by (held_of doing.pending)
known_of None None None = record { seen = []; made = [] }

abbrev pub known_in : SessionOwner → Known
known_in owner = known_of owner.free owner.held owner.under_way

-- the number of its place, by which its changes are known
abbrev pub place_among : Option Session → Option Held → Option UnderWay → ℕ
place_among (Some session) held under_way = place_of session
place_among None (Some held) under_way = place_of_held held
place_among None None (Some doing) = place_of_held (held_of doing.pending)
place_among None None None = 0

abbrev pub place_in : SessionOwner → ℕ
place_in owner = place_among owner.free owner.held owner.under_way

-- no operation is under way
abbrev pub IsAtHand : SessionOwner → Type 0
IsAtHand owner = IsNone owner.under_way

-- an operation is under way
abbrev pub IsUnderWay : SessionOwner → Type 0
IsUnderWay owner = IsSome owner.under_way

-- no operation was under way, and none is
pub record StaysAtHand (old new : SessionOwner) : Type 0 where
  pub was : IsAtHand old
  pub is : IsAtHand new

-- the session is that of the same place, of the same map
pub record IsOfSame (old new : SessionOwner) : Type 0 where
  pub same_map : in_map new ≡ in_map old
  pub same_place : place_in new ≡ place_in old

-- no operation is under way. It may have seen more, and has made no change
pub record SeesMore (old new : SessionOwner) : Type 0 where
  pub same : IsOfSame old new
  pub at_hand : StaysAtHand old new
  pub knows : IsContinued (known_in old) (known_in new)

-- it knows what it knew
pub record KnowsSame (old new : SessionOwner) : Type 0 where
  pub same : IsOfSame old new
  pub knows : known_in new ≡ known_in old

-- the session that is held now goes on from what was there
pub record IsGripped (old : SessionOwner) (held : Held) : Type 0 where
  pub at_hand : IsAtHand old
  pub same_place : place_of_held held ≡ place_in old
  pub knows : IsContinued (known_in old) (known_by held)

-- what was there is taken out
pub record IsTakenOut (old new : SessionOwner) : Type 0 where
  pub same_map : new.shared ≡ old.shared
  pub same_keeps : new.keeps ≡ old.keeps
  pub empty : IsEmpty new

-- the held session is put back
pub record IsRested (held : Held) (old new : SessionOwner) : Type 0 where
  pub at_hand : IsAtHand new
  pub same_map : in_map new ≡ in_map old
  pub same_place : place_in new ≡ place_of_held held
  pub knows : known_in new ≡ known_by held

-- why a session can't be held: the map was renewed, or about to be, at each look, and it knows what it knew; or an operation is under
-- way, and then nothing changes
pub record IsAway (old new : SessionOwner) (refusal : MapRefusal) : Type 0 where
  pub stays : KnowsSame old new
  pub why : ((refusal ≡ refused.Busy) × StaysAtHand old new) ⊎ ((refusal ≡ refused.UnderWay) × IsUnderWay old × (new ≡ old))

-- ---- look-ups

-- the key is looked up after the changes that the session has seen by the end of the call
pub record Finds (key : ℕ) (old new : SessionOwner) (given : RawAnswer) : Type 0 where
  pub answer : given ≡ raw_shown (after (pointer_of (opening_of (in_map old))) (known_in new).seen key)
  pub sees : SeesMore old new

-- a range is scanned
pub record Scans (lo hi : ℕ) (old new : SessionOwner) (places filled : List Entry) (given : RawScanned) : Type 0 where
  pub from : Known
  pub sees_from : IsContinued (known_in old) from
  pub reported : HasReported (opening_of (in_map old)) from.seen (known_in new).seen lo hi places filled given
  pub sees : SeesMore old new

-- the same backwards
pub record ScansBack (lo hi : ℕ) (old new : SessionOwner) (places filled : List Entry) (given : RawScanned) : Type 0 where
  pub from : Known
  pub sees_from : IsContinued (known_in old) from
  pub reported : HasReportedBack (opening_of (in_map old)) from.seen (known_in new).seen lo hi places filled given
  pub sees : SeesMore old new

-- a snapshot of a range is taken, or couldn't be
pub record Takes (lo hi : ℕ) (old new : SessionOwner) (places filled : List Entry) (given : RawTaken) : Type 0 where
  pub told : TellsTaken (opening_of (in_map old)) (known_in new).seen lo hi places filled given
  pub sees : SeesMore old new

-- memory was refused; or the session can't be held
abbrev pub IsTakeRefusal : SessionOwner → SessionOwner → MapRefusal → Type 0
IsTakeRefusal old new refusal = ((refusal ≡ refused.OutOfMemory) × SeesMore old new) ⊎ IsAway old new refusal

-- ---- what the session has

-- the session was held for the call, and this was its stock then
pub record TellsStock (old new : SessionOwner) (given : RawStock) : Type 0 where
  pub held : Held
  pub its_own : IsHeldOf (in_map old) held
  pub stock : given ≡ raw_stock (stock_of_held held)
  pub knows : known_in new ≡ known_by held
  pub sees : SeesMore old new

-- ---- operations that change the map

-- the operation of one who knew this has ended, with this answer, and none is under way
pub record HasAnswered (op : Op) (place : ℕ) (before : Known) (old new : SessionOwner) (given : RawAnswer) : Type 0 where
  pub at_hand : IsAtHand new
  pub answer : Answer
  pub its_answer : given ≡ raw_answer answer
  pub in_order : AnswersFrom (opening_of (in_map old)) op place before (known_in new) answer
  pub same : IsOfSame old new

-- a session that was at hand has made this operation
pub record Answers (op : Op) (old new : SessionOwner) (given : RawAnswer) : Type 0 where
  pub was : IsAtHand old
  pub ended : HasAnswered op (place_in old) (known_in old) old new given

-- an operation that was tried isn't made: the session may have seen more; or nothing was done
abbrev pub IsUntouched : SessionOwner → SessionOwner → Type 0
IsUntouched old new = SeesMore old new ⊎ (new ≡ old)

-- the operation of a session that was at hand has begun, and goes on at the next call
pub record IsBusyWith (op : Op) (old new : SessionOwner) : Type 0 where
  pub was : IsAtHand old
  pub pending : PendingHeld
  pub is : new.under_way ≡ Some (record { pending = pending; put = None })
  pub same_op : op_of pending ≡ op
  pub same : IsOfSame old new
  pub knows : IsContinued (known_in old) (known_in new)

-- why the operation isn't made, if it hasn't begun: the map is full only where its room is fixed
abbrev pub IsShortage : GrowingMap → MapRefusal → Type 0
IsShortage map refusal =
    (refusal ≡ refused.OutOfMemory) ⊎ (refusal ≡ refused.TooLarge) ⊎ (refusal ≡ refused.Busy) ⊎ (refusal ≡ refused.RowsBusy) ⊎ ((refusal ≡ refused.Full) × IsTrue (is_fixed map))

-- why the operation hasn't ended: it goes on at the next call, or another one was under way, and then nothing changes; or it isn't made,
-- and the session may have seen more
abbrev pub IsChangeRefusal : Op → SessionOwner → SessionOwner → MapRefusal → Type 0
IsChangeRefusal op old new refusal =
    ((refusal ≡ refused.UnderWay) × (IsBusyWith op old new ⊎ (IsUnderWay old × (new ≡ old)))) ⊎ (IsShortage (in_map old) refusal × SeesMore old new)

-- the same of one map: or this is full
abbrev pub IsNotMade : Op → SessionOwner → SessionOwner → NotMade → Type 0
IsNotMade op old new (Refused refusal) = IsChangeRefusal op old new refusal
IsNotMade op old new (Full number) = SeesMore old new

-- ---- an entry that is put

-- an operation of the put has ended with this answer: it has inserted, or it has replaced
abbrev pub HasPut : ℕ → ℕ → SessionOwner → SessionOwner → RawAnswer → Type 0
HasPut key pointer old new given =
    ((given.kind ≡ INSERTED) × HasAnswered (Insert key pointer) (place_in old) (known_in old) old new given)
    ⊎ ((given.kind ≡ REPLACED) × HasAnswered (Replace key pointer) (place_in old) (known_in old) old new given)

-- whether the answer is one of the two
abbrev pub tells_put : RawAnswer → Bool
tells_put given = (given.kind == INSERTED) || (given.kind == REPLACED)

-- a session that was at hand has put the entry
pub record Puts (key pointer : ℕ) (old new : SessionOwner) (given : RawAnswer) : Type 0 where
  pub was : IsAtHand old
  pub ended : HasPut key pointer old new given

-- no operation is under way now. The session may have seen more, and has made no change
pub record HasSeenMore (old new : SessionOwner) : Type 0 where
  pub at_hand : IsAtHand new
  pub same : IsOfSame old new
  pub knows : IsContinued (known_in old) (known_in new)

-- the put goes on at the next call. The session may have seen more, and has made no change so far
pub record IsPuttingOn (key pointer : ℕ) (old new : SessionOwner) : Type 0 where
  pub pending : PendingHeld
  pub is : new.under_way ≡ Some (record { pending = pending; put = Some (key, pointer) })
  pub same : IsOfSame old new
  pub knows : IsContinued (known_in old) (known_in new)

-- why a put hasn't ended: it goes on at the next call; or nothing is put
abbrev pub IsNotPut : ℕ → ℕ → SessionOwner → SessionOwner → MapRefusal → Type 0
IsNotPut key pointer old new refusal =
    ((refusal ≡ refused.UnderWay) × IsPuttingOn key pointer old new) ⊎ (IsShortage (in_map old) refusal × HasSeenMore old new)

-- the put of a session that was at hand hasn't ended; or an operation was under way, and then nothing changes
abbrev pub IsPutRefusal : ℕ → ℕ → SessionOwner → SessionOwner → MapRefusal → Type 0
IsPutRefusal key pointer old new refusal =
    (IsAtHand old × IsNotPut key pointer old new refusal) ⊎ ((refusal ≡ refused.UnderWay) × IsUnderWay old × (new ≡ old))

-- what is to be put, if an operation of a put is under way
abbrev pub put_in : Option UnderWay → Option (ℕ × ℕ)
put_in None = None
put_in (Some doing) = doing.put

-- what is under way is of a put from now on
abbrev pub is_putting : ℕ × ℕ → Option UnderWay → Option UnderWay
is_putting put None = None
is_putting put (Some doing) = Some (record { pending = doing.pending; put = Some put })

-- ---- an operation or a put that goes on

-- the operation under way has ended, with this answer
abbrev pub HasStepped : Option UnderWay → SessionOwner → SessionOwner → RawAnswer → Type 0
HasStepped (Some doing) old new given = HasAnswered (op_of doing.pending) (place_in old) (known_in old) old new given
HasStepped None old new given = ⊥

-- it is under way still
pub record StaysBusy (before : UnderWay) (old new : SessionOwner) : Type 0 where
  pub now : PendingHeld
  pub is : new.under_way ≡ Some (record { pending = now; put = before.put })
  pub same_op : op_of now ≡ op_of before.pending
  pub same : KnowsSame old new

-- it hasn't ended, or there is none, and then nothing changes
abbrev pub IsStepRefusal : Option UnderWay → SessionOwner → SessionOwner → MapRefusal → Type 0
IsStepRefusal (Some doing) old new refusal = (refusal ≡ refused.UnderWay) × StaysBusy doing old new
IsStepRefusal None old new refusal = (refusal ≡ refused.Idle) × (new ≡ old)

-- what was under way has ended with this answer: the put, if it was one
abbrev pub Ends : Option (ℕ × ℕ) → Option UnderWay → SessionOwner → SessionOwner → RawAnswer → Type 0
Ends None doing old new given = HasStepped doing old new given
Ends (Some put) doing old new given = HasPut put.0 put.1 old new given

abbrev pub EndsFrom : Option UnderWay → SessionOwner → SessionOwner → RawAnswer → Type 0
EndsFrom doing old new given = Ends (put_in doing) doing old new given

-- why it hasn't ended
abbrev pub IsNotEnded : Option (ℕ × ℕ) → Option UnderWay → SessionOwner → SessionOwner → MapRefusal → Type 0
IsNotEnded None doing old new refusal = IsStepRefusal doing old new refusal
IsNotEnded (Some put) doing old new refusal = IsNotPut put.0 put.1 old new refusal

abbrev pub IsAdvanceRefusal : Option UnderWay → SessionOwner → SessionOwner → MapRefusal → Type 0
IsAdvanceRefusal doing old new refusal = IsNotEnded (put_in doing) doing old new refusal
