-- Why a run is refused whose operations make a batch.
use Rattle.std.proofs.Common.{◌≡◌, ℕ, ◌≤◌, Option, Some, IsSome, List, [], ◌∷◌, length, refl, sym, subst}
use Rattle.std.proofs.lemmas.List.Elements.{All-cons, All-nil}
use Rattle.blink_batch.specs.declared.Op.{Op}
use Rattle.blink_batch.specs.declared.batch.TheConstants.{BATCH_LIMIT}
use Rattle.blink_store.specs.{PlainStore}
use Rattle.blink_handles.specs.declared.raw.RawOperation.{RawOperation}
use Rattle.blink_handles.specs.declared.refusal.Refusal.{Refusal}
use Rattle.blink_handles.specs.declared.refusal.Refusal.TheVariants.{TooMany, WrongLength, UnknownOperation, TooLarge, BadFan, OutOfMemory, Shared}
use Rattle.blink_handles.specs.Raw.{AreOperations, op_of}
use Rattle.blink_handles.specs.Runs.{AreKnown, IsRunRefusal, IsStartRefusal}

-- numbers that mean operations have known kinds
pub kinds_known : (raws : List RawOperation) (ops : List Op) → AreOperations raws ops → AreKnown raws
kinds_known [] ops same = All-nil (λ (raw : RawOperation). IsSome (op_of raw))
kinds_known (raw ∷ raws) [] same = absurd (cc)
kinds_known (raw ∷ raws) (op ∷ ops) same =
    let first : op_of raw ≡ Some op = cc in
    let rest : AreOperations raws ops = cc in
    All-cons (λ (other : RawOperation). IsSome (op_of other)) raw raws (subst (λ (meant : Option Op). IsSome meant) (sym first) refl) (kinds_known raws ops rest)

-- the refusal of a batch over the index is one of the run
pub refused_at_start : (before : PlainStore) (raws : List RawOperation) (places : ℕ) (ops : List Op) → places ≡ length raws → length raws ≤ BATCH_LIMIT → AreOperations raws ops
    → (refusal : Refusal) → IsStartRefusal before ops refusal → IsRunRefusal before raws places refusal
refused_at_start before raws places ops same limit meant TooMany why = absurd why
refused_at_start before raws places ops same limit meant WrongLength why = absurd why
refused_at_start before raws places ops same limit meant UnknownOperation why = absurd why
refused_at_start before raws places ops same limit meant TooLarge why = (same, limit, (ops, meant, why))
refused_at_start before raws places ops same limit meant BadFan why = absurd why
refused_at_start before raws places ops same limit meant OutOfMemory why = (same, (limit, kinds_known raws ops meant))
refused_at_start before raws places ops same limit meant Shared why = absurd why
