-- The caller's array has the entries of a snapshot that was taken.
use Rattle.std.proofs.Common.{ℕ, Option, Some, None, List, inl, inr}
use Rattle.std.specs.Prelude.{IfNone, IfSome}
use Rattle.blink_batch.specs.declared.Entry.{Entry}
use Rattle.blink_live.specs.declared.view.Change.{Change}
use Rattle.blink_live.specs.{IsSnapshot}
use Rattle.blink_handles.specs.declared.raw.RawTaken.{RawTaken}
use Rattle.blink_handles.specs.Reports.{AreTaken, IsNotTaken, TellsTaken}

pub tells_taken : {X : Type 0} (found : Option X) (items : X → List Entry) (opening : List Entry) (seen : List Change) (lo hi : ℕ) (before now : List Entry) (given : RawTaken) → IfSome found (λ x. IsSnapshot opening seen lo hi (items x))
    → IfNone found (IsNotTaken before now given) → IfSome found (λ x. AreTaken (items x) before now given) → TellsTaken opening seen lo hi before now given
tells_taken None items opening seen lo hi before now given snapshot none some = inl none
tells_taken (Some x) items opening seen lo hi before now given snapshot none some = inr (items x, snapshot, some)
