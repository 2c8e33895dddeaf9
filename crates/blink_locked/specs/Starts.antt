-- The workers whose threads are started: the first ones, one after another, up to the first that can't be started.
use Rattle.std.specs.Prelude.{◌≡◌, ◌<◌, ◌⊎◌, ℕ, List, Some, length, slice_get}
use Rattle.blink_settings.specs.declared.error.RunError.{RunError}
use Rattle.blink_settings.specs.declared.error.RunError.TheVariants.{OutOfMemory, Worker}

-- the fact holds of each element at its place
abbrev pub AtEach : {A : Type 0} → (ℕ → A → Type 0) → List A → Type 0
AtEach {A} S xs = (place : ℕ) (x : A) → slice_get xs place ≡ Some x → S place x

-- the refusal names the worker after those that have handles
abbrev pub TellsNext : {A : Type 0} → List A → ℕ → RunError → Type 0
TellsNext {A} handles workers error = (error ≡ Worker (length handles)) × length handles < workers

-- why the threads of this many workers aren't all started: memory was refused, or one of them couldn't be started
abbrev pub IsStartRefusal : ℕ → RunError → Type 0
IsStartRefusal workers error = (error ≡ OutOfMemory) ⊎ ((worker : ℕ) × worker < workers × (error ≡ Worker worker))
