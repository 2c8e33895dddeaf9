-- The code of each refusal, and of a call's outcome; and what a code tells.
use Rattle.std.specs.Prelude.{◌≡◌, ◌≢◌, ◌⊎◌, ℕ, Result, Ok, Err}
use Rattle.blink_handles.specs.declared.refusal.TheConstants.{DONE}
use Rattle.blink_handles.specs.declared.refusal.Refusal.{Refusal}
use Rattle.blink_handles.specs.declared.refusal.Refusal.TheVariants.{TooMany, WrongLength, UnknownOperation, TooLarge, BadFan, OutOfMemory, Shared}

abbrev pub code_of : Refusal → ℕ
code_of TooMany = 1
code_of WrongLength = 3
code_of UnknownOperation = 11
code_of TooLarge = 32
code_of BadFan = 40
code_of OutOfMemory = 41
code_of Shared = 43

-- the code of an outcome, where `code` gives that of a refusal
abbrev pub code_of_outcome : {R : Type 0} → (R → ℕ) → Result (Unit {0}) R → ℕ
code_of_outcome code (Ok done) = DONE
code_of_outcome code (Err refusal) = code refusal

-- a nonzero result is the code of a refusal that holds
abbrev pub TellsWhy : {R : Type 0} → (R → ℕ) → (R → Type 0) → ℕ → Type 0
TellsWhy {R} code why given = given ≢ 0 → (refusal : R) × (given ≡ code refusal) × why refusal

-- ---- the refusals of calls that have two

-- a new index is refused for its fan, or for lack of memory
abbrev pub IsNewFault : Refusal → Type 0
IsNewFault refusal = (refusal ≡ BadFan) ⊎ (refusal ≡ OutOfMemory)

-- a result that is neither 0 nor the code of a bad fan is that of lack of memory
abbrev pub TellsNewFault : ℕ → Type 0
TellsNewFault given = given ≢ 0 → given ≢ code_of BadFan → given ≡ code_of OutOfMemory
