-- The code of each refusal.
use Rattle.std.specs.Prelude.{ℕ}
use Rattle.blink_index.specs.declared.error.IndexError.{IndexError}
use Rattle.blink_index.specs.declared.error.IndexError.TheVariants.{BadFan, OutOfMemory}
use Rattle.blink_index.specs.declared.error.EditError.{EditError}
use Rattle.blink_index.specs.declared.error.SortedError.{SortedError}

abbrev pub code_of : IndexError → ℕ
code_of BadFan = 40
code_of OutOfMemory = 41

abbrev pub code_of_edit : EditError → ℕ
code_of_edit EditError.OutOfMemory = 41
code_of_edit EditError.TooLarge = 32

abbrev pub code_of_sorted : SortedError → ℕ
code_of_sorted SortedError.BadFan = 40
code_of_sorted (SortedError.NotAscending place) = 42
code_of_sorted SortedError.TooLarge = 32
code_of_sorted SortedError.OutOfMemory = 41
