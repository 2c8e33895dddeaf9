-- What an export makes of a session by which it runs an operation that changes the tree.
use Rattle.std.specs.Prelude.{◌≡◌, ◌≢◌, ℕ}
use Rattle.blink_batch.specs.declared.Op.{Op}
use Rattle.blink_handles.specs.declared.raw.RawAnswer.{RawAnswer}
use Rattle.blink_handles.specs.declared.session_owner.SessionOwner.{SessionOwner}
use Rattle.blink_handles.specs.Codes.{TellsWhy}
use Rattle.blink_handles.specs.MapCodes as map
use Rattle.blink_handles.specs.Sessions.{Answers, IsChangeRefusal, IsOwnSession}

-- a session's operation has ended with the answer, or the code tells why it hasn't, and then the place of the answer is as it was
pub record ChangesMap (op : Op) (old new : SessionOwner) (before given : RawAnswer) (code : ℕ) : Type 0 where
  pub its_own : IsOwnSession new
  pub answered : code ≡ 0 → Answers op old new given
  pub refused : TellsWhy map.code_of (IsChangeRefusal op old new) code
  pub unchanged : code ≢ 0 → given ≡ before
