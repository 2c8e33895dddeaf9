use Rattle.std.proofs.Common.{Ok, Err, IsErrOf, refl}
use Rattle.blink_locked.proofs.book.Book.settle.Goals as goal

never_refused : {T E : Type 0} (value : T) (error : E) → IsErrOf {T = T} (Ok value) error → ⊥
never_refused value error is = absurd (cc)

same_refusal : {T U E : Type 0} (refusal error : E) → IsErrOf {T = T} (Err refusal) error → IsErrOf {T = U} (Err refusal) error
same_refusal refusal error is = cc

-- a run with a result has ended, so no worker has left early
pub returns-in-Ok-clause-foreign : goal.returns-in-Ok-clause-foreign
returns-in-Ok-clause-foreign g c = (λ is. absurd (never_refused _ _ is), λ early. absurd (early.left (c.in-Ok.ensures.ended refl)))

-- the refusal is that of the answers
pub returns-in-Err-clause-foreign : goal.returns-in-Err-clause-foreign
returns-in-Err-clause-foreign g c = (λ is. c.in-Err.ensures.foreign.0 (same_refusal _ _ is), λ early. same_refusal _ _ (c.in-Err.ensures.foreign.1 early))
