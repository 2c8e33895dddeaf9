-- Parts that are run as the settings say, one more at a time, and the one that isn't.
use Rattle.std.proofs.Common.{◌≡◌, ℕ, ◌+◌, ◌<◌, List, [], ◌∷◌, ◌++◌, count_by, length, get_or, take, drop, refl, ap, subst, sym, ◌∙◌, arith}
use Rattle.std.proofs.lemmas.List.{take-append-drop, drop_more}
use Rattle.blink_batch.specs.declared.Part.{Part}
use Rattle.blink_batch.specs.declared.Part.TheVariants.{Batch, Scan, Page}
use Rattle.blink_store.specs.{PlainStore}
use Rattle.blink_run.specs.BySettings.{RefusesPart, RunsPartBy, RunsPartsBy, StopsAt, TellsRun}
use Rattle.blink_replay.specs.{IsPartFault, is_batch}
use Rattle.blink_settings.specs.{PlainSettings}
use Rattle.blink_settings.specs.declared.error.RunError.{RunError}
use Rattle.blink_settings.specs.declared.error.ServeError.{ServeError}
use Rattle.blink_settings.specs.declared.error.ServeError.TheVariants as serve

pub runs_one_more : (settings : PlainSettings) (before between after : PlainStore) (parts : List Part) (part : Part) → RunsPartsBy settings before parts between
    → RunsPartBy settings between part after → RunsPartsBy settings before (parts ++ part ∷ []) after
runs_one_more settings before between after [] part same one = (after, subst (λ (store : PlainStore). RunsPartBy settings store part after) same one, refl)
runs_one_more settings before between after (first ∷ parts) part runs one =
    (runs.0, runs.1, runs_one_more settings runs.0 between after parts part runs.2 one)

module _ (settings : PlainSettings) (before between : PlainStore) (parts : List Part) (i : ℕ) (part : Part) (within : i < length parts) (here : get_or parts i part ≡ part)
    (ran : RunsPartsBy settings before (take i parts) between) (number batches : ℕ) (so_far : batches ≡ count_by is_batch (take i parts)) (counted : number ≡ batches + count_by is_batch (part ∷ [])) where
  -- the parts are those before this one, this one, and others
  in_order : (p : Part) → get_or parts i part ≡ p → parts ≡ take i parts ++ p ∷ drop (i + 1) parts
  in_order p at = sym (take-append-drop i parts) ∙ ap (λ (rest : List Part). take i parts ++ rest) (drop_more parts i part within ∙ ap (λ (p : Part). p ∷ drop (i + 1) parts) at)

  -- a batch that is refused has its number, and comes after those that were run
  stops_here : (p : Part) → get_or parts i part ≡ p → (told : ℕ) (fault : RunError) → number ≡ batches + count_by is_batch (p ∷ []) → told ≡ number → RefusesPart settings between p (serve.Run told fault)
      → StopsAt settings before parts told fault
  stops_here (Batch ops) at told fault number_is same refuses = record {
    prefix = take i parts;
    ops = ops;
    rest = drop (i + 1) parts;
    in_order = in_order (Batch ops) at;
    its_number = omega (arith, number_is, same, so_far);
    between = between;
    ran = ran;
    refused = refuses;
  }
  stops_here (Scan lo hi) at told fault number_is same refuses = absurd refuses
  stops_here (Page lo n) at told fault number_is same refuses = absurd refuses

  -- after so many parts the next one isn't served
  pub stops_at : (error : ServeError) → IsPartFault part number error → RefusesPart settings between part error → TellsRun settings before parts error
  stops_at (serve.Run told fault) its refuses = stops_here part here told fault counted its.0 refuses
  stops_at (serve.Script fault) its refuses = tt
  stops_at (serve.Step fault) its refuses = tt
  stops_at serve.Output its refuses = tt
  stops_at serve.OutOfMemory its refuses = tt
