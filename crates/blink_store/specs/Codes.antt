-- The code of each refusal.
use Rattle.std.specs.Prelude.{ℕ}
use Rattle.blink_store.specs.declared.error.StoreError.{StoreError}
use Rattle.blink_store.specs.declared.error.StoreError.TheVariants.{OutOfMemory, OutOfPages}

abbrev pub code_of : StoreError → ℕ
code_of OutOfMemory = 20
code_of OutOfPages = 21
