-- What an operation that changes the tree makes of a member.
use Rattle.std.specs.Prelude.{◌≡◌, ℕ, ◌+◌, ◌≤◌, Option, Some, None}
use mathlib.Core.List.{IsPrefix}
use Rattle.atomic_table.specs.declared.Seat.{Seat}
use Rattle.blink_batch.specs.declared.Answer.{Answer}
use Rattle.blink_batch.specs.declared.Op.{Op}
use Rattle.blink_machine.specs.{PlainMachine}
use Rattle.blink_machine.specs.declared.machine.State.TheVariants as state
use Rattle.blink_live.specs.declared.descent.Changed.{Changed}
use Rattle.blink_live.specs.declared.descent.Changed.TheVariants.{Ended, Rests}
use Rattle.blink_live.specs.declared.live.Live.{Live}
use Rattle.blink_live.specs.declared.room.Room.{Room as CallRoom}
use Rattle.blink_live.specs.declared.view.View.{View}
use Rattle.blink_live.specs.{HasSameNumber, IsUnderWay, IsWaiting, free_in, is_busy, length_of, opening_of, pages_of, rows_of, rows_on}
use Rattle.blink_generation.specs.declared.member.Member.{Member}
use Rattle.blink_generation.specs.declared.member.UnderWay.{UnderWay}
use Rattle.blink_generation.specs.Sessions.{AnswersInOrder, IsSameMember, made_by_member, seen_of_member}

-- the operation has answered, and the member has used no more rows and page numbers than it may need
pub record HasChanged (live : Live) (op : Op) (old new : Member) (answer : Answer) : Type 0 where
  pub in_order : AnswersInOrder (opening_of live) op old new answer
  pub rows : (new.rows.stop ≡ old.rows.stop) × (new.rows.next ≤ old.rows.next + rows_of op)
  pub pages : (new.pages.stop ≡ old.pages.stop) × (new.pages.next ≤ old.pages.next + pages_of op)
  pub same_member : IsSameMember old new

-- the operation was given up: the member has made no change, and may have seen more
pub record HasOnlySeen (old new : Member) : Type 0 where
  pub saw : IsPrefix (seen_of_member old) (seen_of_member new)
  pub made : made_by_member new ≡ made_by_member old
  pub same_member : IsSameMember old new

-- the operation has answered, or it was given up
abbrev pub HasTurnedOut : Live → Op → Member → Member → Option Answer → Type 0
HasTurnedOut live op old new (Some answer) = HasChanged live op old new answer
HasTurnedOut live op old new None = HasOnlySeen old new

-- the rows that a member has in all, those that are on their way back too; and those that it may write now
abbrev pub rows_in_all : Member → ℕ
rows_in_all member = length_of member.rows + rows_on member.room.shelf

abbrev pub rows_at_hand : Member → ℕ
rows_at_hand member = length_of member.rows + free_in member.room.shelf

-- the member has seen and made what it had, and no fewer rows and page numbers. It has more of them only of a kind of which it had
-- fewer than these at hand
pub record HasDrawn (rows pages : ℕ) (old new : Member) : Type 0 where
  pub rows_kept : rows_in_all old ≤ rows_in_all new
  pub at_hand : rows_at_hand old ≤ rows_at_hand new
  pub rows_short : rows ≤ rows_at_hand old → rows_in_all new ≡ rows_in_all old
  pub pages_kept : length_of old.pages ≤ length_of new.pages
  pub pages_short : pages ≤ length_of old.pages → new.pages ≡ old.pages
  pub seen : seen_of_member new ≡ seen_of_member old
  pub made : made_by_member new ≡ made_by_member old
  pub same_member : IsSameMember old new

-- the operation of a member, which was `old` before, is under way at this seat: it is as if it had begun with the mark that the
-- member's place has
pub record HasSetOut (live : Live) (op : Op) (old : Member) (seat : Seat ℕ View) (m : PlainMachine) (room : CallRoom) : Type 0 where
  pub first : Seat ℕ View
  pub mark : ℕ
  pub marked : first.me ≡ (is_busy old.seat.me.0 mark, old.seat.me.1)
  pub same_number : HasSameNumber old.seat first
  pub under_way : IsUnderWay live op first seat m room

-- it has ended with its answer, or has to wait
abbrev pub HasComeOut : Live → Op → Member → Seat ℕ View → CallRoom → Changed → Type 0
HasComeOut live op old seat room (Ended answer) = (m : PlainMachine) × HasSetOut live op old seat m room × (m.state ≡ state.Ended) × (m.answer ≡ Some answer)
HasComeOut live op old seat room (Rests resting) = HasSetOut live op old seat resting room × IsWaiting resting

-- and since then the place was marked as one whose operation rests
pub record HasComeToRest (live : Live) (op : Op) (old : Member) (seat : Seat ℕ View) (m : PlainMachine) (room : CallRoom) : Type 0 where
  pub awake : Seat ℕ View
  pub set_out : HasSetOut live op old awake m room
  pub same_number : HasSameNumber awake seat
  pub rests : seat.me ≡ (is_busy awake.me.0 1, awake.me.1)

-- what the member has beside its seat is as it was
pub record HasBeside (old : Member) (now : UnderWay) : Type 0 where
  pub rows : now.rows ≡ old.rows
  pub pages : now.pages ≡ old.pages
  pub place : now.place ≡ old.place

-- the operation takes steps, or rests
pub record IsAtWork (live : Live) (op : Op) (old : Member) (now : UnderWay) : Type 0 where
  pub set_out : HasSetOut live op old now.seat now.machine now.room
  pub beside : HasBeside old now

pub record IsAtRest (live : Live) (op : Op) (old : Member) (now : UnderWay) : Type 0 where
  pub rest : HasComeToRest live op old now.seat now.machine now.room
  pub beside : HasBeside old now
