use Rattle.std.proofs.Common.{◌≡◌, ◌↔◌, ℕ, List, Ok, Err, IsErrOf, length, count_by, inl, inr, subst, sym}
use Rattle.std.proofs.lemmas.Result.{err_from_is_err_and}
use Rattle.blink_batch.specs.declared.Op.{Op}
use Rattle.blink_batch.specs.{is_insert}
use Rattle.blink_index.specs.{map_of}
use Rattle.blink_locked.specs.{IsStartRefusal, MayRefuse}
use Rattle.blink_page.specs.{ExceedsPageLimit}
use Rattle.blink_run.proofs.LanesTogether.{given_answers, merged_entries, passes_are_its}
use Rattle.blink_settings.specs.declared.error.RunError.{RunError}
use Rattle.blink_settings.specs.declared.error.RunError.TheVariants.{Foreign, OutOfMemory, TooLarge}
use Rattle.blink_steps.specs.{IsTooLarge}
use Rattle.blink_store.specs.{PlainStore}
use Rattle.blink_run.proofs.live.run_live.Goals as goal

never_refused : {T E : Type 0} (value : T) (error : E) → IsErrOf {T = T} (Ok value) error → ⊥
never_refused value error is = absurd (cc)

-- a table was opened, so the batch isn't too large
fits : {T E : Type 0} (before : PlainStore) (ops : List Op) (inserts : ℕ) (value : T) (error : E) → inserts ≡ count_by is_insert ops → (IsErrOf {T = T} (Ok value) error ↔ ExceedsPageLimit (length before.pages) inserts)
    → IsTooLarge before ops → ⊥
fits before ops inserts value error counted exact large = never_refused value error (exact.1 (subst (λ (n : ℕ). ExceedsPageLimit (length before.pages) n) (sym counted) large))

-- ---- threads that aren't all started

module _ {T : Type 0} (workers : ℕ) (error : RunError) (refusal : IsStartRefusal workers error) where
  never_large : IsErrOf {T = T} (Err error) TooLarge → ⊥
  never_large is = elim refusal [ inl memory ↦ absurd (cc) | inr (worker, below, named) ↦ absurd (cc) ]

  never_foreign : IsErrOf {T = T} (Err error) Foreign → ⊥
  never_foreign is = elim refusal [ inl memory ↦ absurd (cc) | inr (worker, below, named) ↦ absurd (cc) ]

may_refuse : (workers : ℕ) (before : PlainStore) (ops : List Op) (error : RunError) → IsStartRefusal workers error → (IsTooLarge before ops → ⊥) → MayRefuse workers before ops error
may_refuse workers before ops error refusal fit = elim refusal [
  | inl memory ↦ subst (MayRefuse workers before ops) (sym memory) fit
  | inr (worker, below, named) ↦ subst (MayRefuse workers before ops) (sym named) (fit, below)
]

memory_never_large : {T : Type 0} → IsErrOf {T = T} (Err OutOfMemory) TooLarge → ⊥
memory_never_large is = absurd (cc)

memory_never_foreign : {T : Type 0} → IsErrOf {T = T} (Err OutOfMemory) Foreign → ⊥
memory_never_foreign is = absurd (cc)

-- ---- the clauses

pub returns-in_err-passes-clause-too_large : goal.returns-in_err-passes-clause-too_large
returns-in_err-passes-clause-too_large g c =
    let passed = err_from_is_err_and c.from_residual.result c.from_residual.ensures.1 in
    rw (passed.1, passed.2) (
      λ is. absurd (never_large _ _ c.in_err-passes.ensures.refused is),
      λ large. absurd (fits c.args.index.now c.args.batch.now _ _ _ c.allowance_of.ensures.inserts c.in-Ok.ensures.too_large large),
    )

pub returns-in_err-passes-clause-refused : goal.returns-in_err-passes-clause-refused
returns-in_err-passes-clause-refused g c =
    let passed = err_from_is_err_and c.from_residual.result c.from_residual.ensures.1 in
    rw (passed.1, passed.2) (may_refuse _ c.args.index.now c.args.batch.now _ c.in_err-passes.ensures.refused (fits c.args.index.now c.args.batch.now _ _ _ c.allowance_of.ensures.inserts c.in-Ok.ensures.too_large))

pub returns-in_err-passes-clause-not_foreign : goal.returns-in_err-passes-clause-not_foreign
returns-in_err-passes-clause-not_foreign g c =
    let passed = err_from_is_err_and c.from_residual.result c.from_residual.ensures.1 in
    rw (passed.1, passed.2) (never_foreign _ _ c.in_err-passes.ensures.refused)

pub returns-in-Ok-close-clause-too_large : goal.returns-in-Ok-close-clause-too_large
returns-in-Ok-close-clause-too_large g c = (
  λ is. absurd (never_refused _ _ is),
  λ large. absurd (fits c.args.index.now c.args.batch.now _ _ _ c.allowance_of.ensures.inserts c.in-Ok.ensures.too_large large),
)

pub returns-in-Ok-close-clause-not_foreign : goal.returns-in-Ok-close-clause-not_foreign
returns-in-Ok-close-clause-not_foreign g c = never_refused _ _

pub returns-in-Err-OutOfMemory-clause-too_large : goal.returns-in-Err-OutOfMemory-clause-too_large
returns-in-Err-OutOfMemory-clause-too_large g c = (
  λ is. absurd (memory_never_large is),
  λ large. absurd (fits c.args.index.now c.args.batch.now _ _ _ c.allowance_of.ensures.inserts c.in-Ok.ensures.too_large large),
)

pub returns-in-Err-OutOfMemory-clause-refused : goal.returns-in-Err-OutOfMemory-clause-refused
returns-in-Err-OutOfMemory-clause-refused g c = fits c.args.index.now c.args.batch.now _ _ _ c.allowance_of.ensures.inserts c.in-Ok.ensures.too_large

pub returns-in-Err-OutOfMemory-clause-not_foreign : goal.returns-in-Err-OutOfMemory-clause-not_foreign
returns-in-Err-OutOfMemory-clause-not_foreign g c = memory_never_foreign

pub close-requires-clause-its_passes : goal.close-requires-clause-its_passes
close-requires-clause-its_passes g c =
    passes_are_its c.in-Ok.opened.0 c.args.batch.now c.args.cut.now.workers c.args.cut.now.lanes c.in_ok-passes.passes.items c.in_ok-passes.answers.items c.requires.cut c.in_ok-passes.ensures.run

pub returns-in-Ok-close-clause-answers : goal.returns-in-Ok-close-clause-answers
returns-in-Ok-close-clause-answers g c =
    given_answers c.in-Ok.opened.0 c.args.batch.now c.args.cut.now.workers c.args.cut.now.lanes c.in_ok-passes.passes.items c.in_ok-passes.answers.items c.requires.cut c.in_ok-passes.ensures.run
    (map_of c.args.index.now) c.in-Ok.ensures.opened.same_opening

pub returns-in-Ok-close-clause-map : goal.returns-in-Ok-close-clause-map
returns-in-Ok-close-clause-map g c =
    merged_entries c.in-Ok.opened.0 c.args.batch.now c.args.cut.now.workers c.args.cut.now.lanes c.in_ok-passes.passes.items c.in_ok-passes.answers.items c.requires.cut c.in_ok-passes.ensures.run
    (map_of c.args.index.now) (map_of c.in-Ok-close.closed) c.run_passes.new.keeper c.in-Ok.ensures.opened.same_opening c.in_ok-passes.ensures.dealt c.in-Ok-close.ensures.entries
    c.entries_ascend.ensures c.entries_ascend-in-Ok-close.ensures
