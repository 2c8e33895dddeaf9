-- A handle may go to another thread, since a box of what it owns may.
use mathlib.Core.Path.{sym, subst, ◌∙◌}
use base.Shift.{Keyless}
use denote.Param.Send.{IsSend}
use Rattle.std.proofs.Crossing.{Box-send}
use Rattle.blink_c.proofs.HandleKind.{Kind, handle_row}

pub sends : (K : Kind) → IsSend K.Owner → IsSend (handle_row K)
sends K owner = record {
  owned = λ h us. subst Keyless (sym (K.owns_box h us ∙ K.box_is (K.as_box h) us)) ((Box-send K.Owner owner).owned (K.as_box h) us);
  leaving = λ k h w. tt;
}
