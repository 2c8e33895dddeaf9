-- What the code of a call tells.
use Rattle.std.proofs.Common.{◌≡◌, ◌≢◌, ℕ, Result, Ok, Err, IfErr, OnErr, OnOk, sym, ◌∙◌}
use Rattle.blink_handles.specs.Codes.{TellsWhy, code_of_outcome}

-- code 0 tells what holds of a call that isn't refused, where no refusal has this code
pub on_done : {R P : Type 0} (code : R → ℕ) → ((refusal : R) → code refusal ≡ 0 → ⊥) → (outcome : Result (Unit {0}) R) (given : ℕ)
    → given ≡ code_of_outcome code outcome → OnOk outcome P → given ≡ 0 → P
on_done code not_done (Ok done) given is holds zero = holds
on_done code not_done (Err refusal) given is holds zero = absurd (not_done refusal (sym is ∙ zero))

-- any other code tells why the call is refused
pub told_why : {R : Type 0} (code : R → ℕ) (why : R → Type 0) (outcome : Result (Unit {0}) R) (given : ℕ) → given ≡ code_of_outcome code outcome
    → IfErr outcome why → TellsWhy code why given
told_why code why (Ok done) given is holds refused = absurd (refused is)
told_why code why (Err refusal) given is holds refused = (refusal, is, holds)

-- then what a refused call leaves is so
pub on_refusal : {R P : Type 0} (code : R → ℕ) (outcome : Result (Unit {0}) R) (given : ℕ) → given ≡ code_of_outcome code outcome → OnErr outcome P → given ≢ 0 → P
on_refusal code (Ok done) given is holds refused = absurd (refused is)
on_refusal code (Err refusal) given is holds refused = holds
