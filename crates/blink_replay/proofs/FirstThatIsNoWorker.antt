-- The first number of a schedule that is no worker's.
use Rattle.std.proofs.Common.{◌≡◌, ◌<◌, ◌≤◌, ◌↔◌, ℕ, List, [], ◌∷◌, ◌++◌, All, Option, Result, Err, IfErr, sym, ◌∙◌, subst, arith}
use Rattle.std.proofs.lemmas.List.Elements.{All-head, All-tail}
use Rattle.blink_steps.specs.{IsFirstNoWorker}
use Rattle.blink_steps.specs.declared.StepError.TheVariants as step
use Rattle.blink_replay.specs.ServedReplay.{TellsWorkersFault}
use Rattle.blink_settings.specs.declared.error.ServeError.{ServeError}
use Rattle.blink_settings.specs.declared.error.ServeError.TheVariants as serve

module _ (workers : ℕ) where
  abbrev AreWorkers : List ℕ → Type 0
  AreWorkers numbers = All (λ worker. worker < workers) numbers

  -- a list has one first number that is none
  one_of : (a b : ℕ) (prefix other rest after : List ℕ) → prefix ++ a ∷ rest ≡ other ++ b ∷ after → AreWorkers prefix → AreWorkers other → workers ≤ a → workers ≤ b → a ≡ b
  one_of a b [] [] rest after same before before_other no_a no_b = cc
  one_of a b [] (x ∷ other) rest after same before before_other no_a no_b =
      let first : a ≡ x = cc in
      let below = All-head (λ worker. worker < workers) x other before_other in
      absurd (omega arith)
  one_of a b (x ∷ prefix) [] rest after same before before_other no_a no_b =
      let first : x ≡ b = cc in
      let below = All-head (λ worker. worker < workers) x prefix before in
      absurd (omega arith)
  one_of a b (x ∷ prefix) (y ∷ other) rest after same before before_other no_a no_b =
      let others : prefix ++ a ∷ rest ≡ other ++ b ∷ after = cc in
      one_of a b prefix other rest after others (All-tail (λ worker. worker < workers) x prefix before) (All-tail (λ worker. worker < workers) y other before_other) no_a no_b

  pub one_first : (schedule : List ℕ) (a b : ℕ) → IsFirstNoWorker workers schedule a → IsFirstNoWorker workers schedule b → a ≡ b
  one_first schedule a b one other =
      one_of a b one.prefix other.prefix one.rest other.rest (sym one.parts ∙ other.parts) one.workers_before other.workers_before one.no_worker other.no_worker

  -- where all numbers are workers there is none
  none_of : (a : ℕ) (prefix rest : List ℕ) → AreWorkers (prefix ++ a ∷ rest) → workers ≤ a → ⊥
  none_of a [] rest all no_worker = let below = All-head (λ worker. worker < workers) a rest all in absurd (omega arith)
  none_of a (x ∷ prefix) rest all no_worker = none_of a prefix rest (All-tail (λ worker. worker < workers) x (prefix ++ a ∷ rest) all) no_worker

  pub none_first : (schedule : List ℕ) (a : ℕ) → AreWorkers schedule → IsFirstNoWorker workers schedule a → ⊥
  none_first schedule a all first = none_of a first.prefix first.rest (subst AreWorkers first.parts all) first.no_worker

  -- so none is told, if the schedule isn't at fault
  pub none_told : (schedule : List ℕ) → AreWorkers schedule → (to_read : Option (List ℕ)) (result : Result (Unit {0}) ServeError) → IfErr result (TellsWorkersFault to_read)
      → (worker : ℕ) → (result ≡ Err (serve.Step (step.NoWorker worker))) ↔ IsFirstNoWorker workers schedule worker
  none_told schedule all to_read result fault worker = (
    λ same. absurd (subst (λ (answer : Result (Unit {0}) ServeError). IfErr answer (TellsWorkersFault to_read)) same fault),
    λ first. absurd (none_first schedule worker all first),
  )
