-- The code of each refusal. All that are for want of memory have one code.
use Rattle.std.specs.Prelude.{ℕ}
use Rattle.blink_live.specs.declared.error.LiveError.{LiveError}
use Rattle.blink_live.specs.declared.error.LiveError.TheVariants.{OutOfMemory, Taken, NoAllowance, DealOutOfMemory, Missing, TooLarge}
use Rattle.blink_live.specs.declared.error.PassError.{PassError}
use Rattle.blink_live.specs.declared.error.PassError.TheVariants.{NotYours, Spent}
use Rattle.blink_live.specs.declared.error.HandError.{HandError}
use Rattle.blink_live.specs.declared.error.HandError.TheVariants.{NotYours as KeyNotYours, OutOfMemory as NoMemory}

abbrev pub code_of : LiveError → ℕ
code_of OutOfMemory = 41
code_of (Taken key) = 51
code_of NoAllowance = 52
code_of DealOutOfMemory = 41
code_of Missing = 56
code_of TooLarge = 57

abbrev pub code_of_pass : PassError → ℕ
code_of_pass NotYours = 54
code_of_pass Spent = 55

abbrev pub code_of_hand : HandError → ℕ
code_of_hand (KeyNotYours key) = 58
code_of_hand NoMemory = 41
