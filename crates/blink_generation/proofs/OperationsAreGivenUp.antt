-- An operation that was given up, or has ended, and what its member has then.
use Rattle.std.proofs.Common.{◌≡◌, ℕ, ◌<◌, Option, Some, None, IfNone, IfSome}
use Rattle.atomic_table.specs.declared.Seat.{Seat}
use Rattle.blink_batch.specs.declared.Answer.{Answer}
use Rattle.blink_batch.specs.declared.Op.{Op}
use Rattle.blink_live.specs.declared.descent.Changed.TheVariants.{Ended}
use Rattle.blink_live.specs.declared.live.Live.{Live}
use Rattle.blink_live.specs.declared.room.Room.{Room as CallRoom}
use Rattle.blink_live.specs.declared.view.View.{View}
use Rattle.blink_live.specs.{CanGiveBack, HasCome, HasGivenUp, HasSameNumber, IsPassSeat, gives_back, is_busy, span}
use Rattle.blink_generation.specs.declared.member.Member.{Member}
use Rattle.blink_generation.specs.Changing.{HasSetOut, HasTurnedOut}
use Rattle.blink_generation.specs.Places.{IsMemberOf}
use Rattle.blink_generation.proofs.MembersComeBack.{IsIdleAgain, gives, has_changed, has_only_seen, is_idle_again, is_idle_given_up, its_end, its_place, its_seat, left_gives, left_idle, left_place, left_seat}

-- the seat can take back what its operation hasn't used, and is its member's then
pub record ComesBack (live : Live) (op : Op) (old : Member) (seat : Seat ℕ View) (room : CallRoom) (given : Option Answer) : Type 0 where
  pub its_own : IsPassSeat live seat.table_id seat.me
  pub can : CanGiveBack seat.me.0
  pub ended : seat.me.0.operation ≡ None
  pub place : (old.place ≡ seat.me.0.place) × (old.place < live.places)
  pub idle : (new : Seat ℕ View) → new.me ≡ (is_busy (gives_back seat.me.0) 0, seat.me.1) → IsIdleAgain old room new
  pub turned_out : (new : Member) → HasSameNumber seat new.seat → new.seat.me ≡ (is_busy (gives_back seat.me.0) 0, seat.me.1)
      → new.rows ≡ span room.rows.next old.rows.stop → new.pages ≡ span room.pages.next old.pages.stop → HasTurnedOut live op old new given

module _ (live : Live) (op : Op) (old : Member) (first seat : Seat ℕ View) (room : CallRoom) (mark : ℕ) (its : IsMemberOf live old) (marked : first.me ≡ (is_busy old.seat.me.0 mark, old.seat.me.1)) (same : HasSameNumber old.seat first) where
  pub comes_back : (given : Option Answer) → IfSome given (λ answer. HasCome live op first seat room (Ended answer)) → IfNone given (HasGivenUp live op first seat room) → ComesBack live op old seat room given
  comes_back (Some answer) came none =
      let out : HasSetOut live op old seat came.0 room = record { first = first; mark = mark; marked = marked; same_number = same; under_way = came.1 } in
      let end = its_end out answer came.2 came.3 in record {
        its_own = its_seat out;
        can = gives out;
        ended = end.idle;
        place = its_place out its;
        idle = λ new back. is_idle_again out answer new end back;
        turned_out = λ new same_seat back rows pages. has_changed out answer new its end same_seat back rows pages;
      }
  comes_back None some kept =
      let out : HasSetOut live op old kept.last kept.m room = record { first = first; mark = mark; marked = marked; same_number = same; under_way = kept.under_way } in record {
        its_own = left_seat out kept.no_answer seat kept.same_number kept.idle;
        can = left_gives out kept.no_answer seat kept.same_number kept.idle;
        ended = left_idle out kept.no_answer seat kept.same_number kept.idle;
        place = left_place out kept.no_answer seat kept.same_number kept.idle its;
        idle = λ new back. is_idle_given_up out kept.no_answer seat kept.same_number kept.idle new back;
        turned_out = λ new same_seat back rows pages. has_only_seen out kept.no_answer seat kept.same_number kept.idle new same_seat back;
      }
