use Rattle.std.proofs.Common.{◌≡◌, ℕ, List, Result, IfErr, IsErrOf, inl, inr, refl}
use Rattle.std.proofs.lemmas.Result.{IfErr-at_err, MatchResult-weaker}
use Rattle.blink_batch.specs.declared.Op.{Op}
use Rattle.blink_batch.specs.declared.Part.{Part}
use Rattle.blink_batch.specs.declared.Part.TheVariants.{Batch, Page, Scan}
use Rattle.blink_replay.specs.{IsBatchFault, IsPartFault}
use Rattle.blink_run.specs.BySettings.{RefusesPart}
use Rattle.blink_settings.specs.{PlainSettings}
use Rattle.blink_settings.specs.declared.error.ServeError.{ServeError}
use Rattle.blink_settings.specs.declared.error.ServeError.TheVariants as serve
use Rattle.blink_store.specs.{PlainStore}
use Rattle.blink_run.proofs.script.Service.text_of_part.Goals as goal

-- ---- a batch that isn't run

fault_of_part : (ops : List Op) (number : ℕ) (error : ServeError) → IsBatchFault number error → IsPartFault (Batch ops) number error
fault_of_part ops number error told = elim told [ inl (fault, named) ↦ rw named (refl, refl) | inr memory ↦ rw memory tt ]

no_output : (number : ℕ) → IsBatchFault number serve.Output → ⊥
no_output number told = elim told [ inl (fault, named) ↦ absurd (cc) | inr memory ↦ absurd (cc) ]

pub returns-in-Batch : goal.returns-in-Batch
returns-in-Batch g c = rw c.in-Batch.is (record {
  text = c.batch_text.ensures.text;
  map = c.batch_text.ensures.map;
  by_settings = c.batch_text.ensures.by_settings;
  fault = MatchResult-weaker c.batch_text.result c.batch_text.ensures.fault (λ _ _. tt) (fault_of_part c.in-Batch.batch c.args.number);
  not_run = c.batch_text.ensures.not_run;
  no_writer = λ is. no_output c.args.number (IfErr-at_err (IsBatchFault c.args.number) is c.batch_text.ensures.fault);
})

-- ---- memory that is refused for the lines of a scan or a page

memory_of_part : (part : Part) (number : ℕ) (error : ServeError) → error ≡ serve.OutOfMemory → IsPartFault part number error
memory_of_part part number error memory = rw memory tt

memory_not_run : (settings : PlainSettings) (before : PlainStore) (part : Part) (error : ServeError) → error ≡ serve.OutOfMemory → RefusesPart settings before part error
memory_not_run settings before (Batch ops) error memory = rw memory tt
memory_not_run settings before part error memory = rw memory tt

module _ {T : Type 0} (settings : PlainSettings) (before : PlainStore) (part : Part) (number : ℕ) (result : Result T ServeError) (refused : IfErr result (λ error. error ≡ serve.OutOfMemory)) where
  fault : IfErr result (IsPartFault part number)
  fault = MatchResult-weaker result refused (λ _ _. tt) (memory_of_part part number)

  not_run : IfErr result (RefusesPart settings before part)
  not_run = MatchResult-weaker result refused (λ _ _. tt) (memory_not_run settings before part)

  no_writer : IsErrOf result serve.Output → ⊥
  no_writer is = let told : serve.Output ≡ serve.OutOfMemory = IfErr-at_err (λ error. error ≡ serve.OutOfMemory) is refused in absurd (cc)

pub returns-in-Scan : goal.returns-in-Scan
returns-in-Scan g c =
    let result = c.scan_text.result in
    let text = c.scan_text.ensures.text in
    let refused = c.scan_text.ensures.refused in
    rw c.in-Scan.is (record {
      text = rw c.scan.ensures.entries at text;
      map = MatchResult-weaker result text (λ _ _. refl) (λ _ _. tt);
      by_settings = MatchResult-weaker result text (λ _ _. refl) (λ _ _. tt);
      fault = fault c.args.self.now.settings.now c.args.index.now (Scan c.in-Scan.lo c.in-Scan.hi) c.args.number result refused;
      not_run = not_run c.args.self.now.settings.now c.args.index.now (Scan c.in-Scan.lo c.in-Scan.hi) c.args.number result refused;
      no_writer = no_writer c.args.self.now.settings.now c.args.index.now (Scan c.in-Scan.lo c.in-Scan.hi) c.args.number result refused;
    })

pub returns-in-Page : goal.returns-in-Page
returns-in-Page g c =
    let result = c.scan_text-in-Page.result in
    let text = c.scan_text-in-Page.ensures.text in
    let refused = c.scan_text-in-Page.ensures.refused in
    rw c.in-Page.is (record {
      text = rw c.page.ensures.entries at text;
      map = MatchResult-weaker result text (λ _ _. refl) (λ _ _. tt);
      by_settings = MatchResult-weaker result text (λ _ _. refl) (λ _ _. tt);
      fault = fault c.args.self.now.settings.now c.args.index.now (Page c.in-Page.lo c.in-Page.n) c.args.number result refused;
      not_run = not_run c.args.self.now.settings.now c.args.index.now (Page c.in-Page.lo c.in-Page.n) c.args.number result refused;
      no_writer = no_writer c.args.self.now.settings.now c.args.index.now (Page c.in-Page.lo c.in-Page.n) c.args.number result refused;
    })
