use Rattle.std.proofs.Common.{◌≡◌, ℕ, List, Option, Ok, refl, subst, sym}
use Rattle.std.proofs.lemmas.Result.{err_from_is_err_and}
use Rattle.blink_batch.specs.declared.Part.{Part}
use Rattle.blink_batch.specs.{ReadsAs}
use Rattle.blink_replay.proofs.Offered.{fault_told, lines_left, none_written, serves_script}
use Rattle.blink_run.specs.BySettings.{RunsPartsBy, StopsAt, TellsRun, TellsRunOf}
use Rattle.blink_settings.specs.{PlainSettings}
use Rattle.blink_settings.specs.declared.error.ServeError.{ServeError}
use Rattle.blink_settings.specs.declared.error.ServeError.TheVariants as serve
use Rattle.blink_store.specs.{PlainStore, new_store}
use Rattle.blink_run.proofs.script.serve_index.Goals as goal

-- which run was refused, told of what was read
tells_run : (settings : PlainSettings) (to_read : Option (List ℕ)) (before : PlainStore) (parts : List Part) (error : ServeError) → before ≡ new_store settings.fan → ReadsAs to_read (Ok parts)
    → TellsRun settings before parts error → TellsRunOf settings to_read error
tells_run settings to_read before parts (serve.Run number fault) new reads stops = λ read known. (parts, reads read known, subst (λ (store : PlainStore). StopsAt settings store parts number fault) new stops)
tells_run settings to_read before parts (serve.Script fault) new reads stops = tt
tells_run settings to_read before parts (serve.Step fault) new reads stops = tt
tells_run settings to_read before parts serve.Output new reads stops = tt
tells_run settings to_read before parts serve.OutOfMemory new reads stops = tt

-- no index is made, and nothing is written
pub returns-in_err-index-clause-left : goal.returns-in_err-index-clause-left
returns-in_err-index-clause-left g c =
    let passed = err_from_is_err_and c.from_residual-in_err-index.result c.from_residual-in_err-index.ensures.1 in
    rw (passed.1, passed.2) (none_written g.W.Write.contents (g.R.Read.remaining c.args.reader.now) c.args.writer.now c.args.writer.now c.in_ok-script.script.parts.items c.in_ok-script.ensures.script refl)

-- all parts are served
pub returns-in-Ok-clause-served : goal.returns-in-Ok-clause-served
returns-in-Ok-clause-served g c =
    let to_read = g.R.Read.remaining c.args.reader.now in
    let reads = subst (λ (parts : List Part). ReadsAs to_read (Ok parts)) (sym c.deref.ensures.value) c.in_ok-script.ensures.script in
    serves_script g.W.Write.contents to_read c.args.writer.now c.serve_script.new.tracked_writer c.deref.result.now reads (rw c.in_ok-index.ensures.empty at c.in-Ok.ensures.served)

-- some aren't
pub returns-clause-left : goal.returns-clause-left
returns-clause-left g c =
    let to_read = g.R.Read.remaining c.args.reader.now in
    let reads = subst (λ (parts : List Part). ReadsAs to_read (Ok parts)) (sym c.deref.ensures.value) c.in_ok-script.ensures.script in
    lines_left g.W.Write.contents to_read c.args.writer.now c.serve_script.new.tracked_writer c.deref.result.now reads c.in-Err.error (rw c.in_ok-index.ensures.empty at c.in-Err.ensures.left)

pub returns-in-Ok-clause-by_settings : goal.returns-in-Ok-clause-by_settings
returns-in-Ok-clause-by_settings g c =
    let to_read = g.R.Read.remaining c.args.reader.now in
    let reads = subst (λ (parts : List Part). ReadsAs to_read (Ok parts)) (sym c.deref.ensures.value) c.in_ok-script.ensures.script in
    λ read known. (c.deref.result.now, reads read known, subst (λ (store : PlainStore). RunsPartsBy c.args.settings.now store c.deref.result.now c.serve_script.new.index) c.in_ok-index.ensures.index c.in-Ok.ensures.by_settings)

pub returns-clause-fault : goal.returns-clause-fault
returns-clause-fault g c =
    let to_read = g.R.Read.remaining c.args.reader.now in
    let reads = subst (λ (parts : List Part). ReadsAs to_read (Ok parts)) (sym c.deref.ensures.value) c.in_ok-script.ensures.script in
    fault_told g.W.Write.contents to_read c.args.writer.now c.serve_script.new.tracked_writer c.deref.result.now reads c.in-Err.error (rw c.in_ok-index.ensures.empty at c.in-Err.ensures.left)

pub returns-clause-not_run : goal.returns-clause-not_run
returns-clause-not_run g c =
    let to_read = g.R.Read.remaining c.args.reader.now in
    let reads = subst (λ (parts : List Part). ReadsAs to_read (Ok parts)) (sym c.deref.ensures.value) c.in_ok-script.ensures.script in
    tells_run c.args.settings.now to_read _ c.deref.result.now c.in-Err.error c.in_ok-index.ensures.index reads c.in-Err.ensures.not_run
