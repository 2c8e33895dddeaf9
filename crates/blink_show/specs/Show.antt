-- The text of a script's replay, to be looked at.
use Rattle.std.specs.Prelude.{◌≡◌, ℕ, List, [], ◌∷◌, ◌++◌, Option, Ok, codes, count_by}
use Rattle.std.specs.Fmt.{decimal}
use Rattle.std.specs.Io.KnownBytes.{Keeps}
use Rattle.blink_batch.specs.declared.Op.{Op}
use Rattle.blink_batch.specs.declared.Part.{Part}
use Rattle.blink_batch.specs.declared.Part.TheVariants.{Batch}
use Rattle.blink_batch.specs.{script_of}
use Rattle.blink_replay.specs.{IsPrefixOf, WritesText, is_batch, HaveRunParts}
use Rattle.blink_settings.specs.declared.error.ServeError.{ServeError}
use Rattle.blink_settings.specs.declared.error.ServeError.TheVariants as serve
use Rattle.blink_store.specs.{PlainStore, new_store}
use Rattle.blink_steps.specs.{PlainWorld}
use Rattle.blink_show.specs.Batch.{ShowsBatch}
use Rattle.blink_show.specs.Turns.{ShowsDrawn, ShowsSchedule}

-- this batch is the last of some parts
pub record IsLastBatch (parts prefix : List Part) (ops : List Op) : Type 0 where
  pub rest : List Part
  pub in_order : parts ≡ prefix ++ Batch ops ∷ rest
  pub last : count_by is_batch rest ≡ 0

-- the text of some parts over a tree: that of the last batch, over the tree that the parts before it leave; without a batch the
-- text is empty
pub data ShowsParts (workers : ℕ) (asked : PlainWorld → PlainWorld → List ℕ → Type 0) (start : PlainStore) (parts : List Part) (text : List ℕ) : Type 0 where
  no_batch : count_by is_batch parts ≡ 0 → text ≡ [] → ShowsParts workers asked start parts text
  last_batch : (prefix : List Part) (ops : List Op) (before : PlainStore) → IsLastBatch parts prefix ops → HaveRunParts workers start prefix before
      → ShowsBatch workers asked before ops text → ShowsParts workers asked start parts text

-- the first two lines: the workers and the fan
abbrev pub sizes_text : ℕ → ℕ → List ℕ
sizes_text workers fan = codes "workers " ++ (decimal workers ++ (codes "\nfan " ++ (decimal fan ++ codes "\n")))

-- the text between a head and a tail, of records that are a script
pub record IsTextOf (head tail : List ℕ) (workers fan : ℕ) (asked : PlainWorld → PlainWorld → List ℕ → Type 0) (records : List (List (List ℕ))) (text : List ℕ) : Type 0 where
  pub parts : List Part
  pub a_script : script_of records ≡ Ok parts
  pub frames : List ℕ
  pub shows : ShowsParts workers asked (new_store fan) parts frames
  pub its_text : text ≡ head ++ ((sizes_text workers fan ++ frames) ++ tail)

-- the text for a schedule's turns
abbrev pub IsShowText : List ℕ → List ℕ → ℕ → ℕ → List ℕ → List (List (List ℕ)) → List ℕ → Type 0
IsShowText head tail workers fan schedule records text =
    IsTextOf head tail workers fan (λ (start world : PlainWorld) (turns : List ℕ). ShowsSchedule start schedule world turns) records text

-- the text for the turns that a seed draws
abbrev pub IsSeedText : List ℕ → List ℕ → ℕ → ℕ → ℕ → List (List (List ℕ)) → List ℕ → Type 0
IsSeedText head tail workers fan seed records text = IsTextOf head tail workers fan (ShowsDrawn seed) records text

-- nothing was written, unless the writer failed: then a prefix of such a text was
abbrev pub LeavesShow : (List (List (List ℕ)) → List ℕ → Type 0) → Option (List ℕ) → ServeError → Option (List ℕ) → Option (List ℕ) → Type 0
LeavesShow is_text to_read serve.Output before after = WritesText (IsPrefixOf is_text) to_read before after
LeavesShow is_text to_read error before after = Keeps before after

-- such a text of parts stands after the text before it
abbrev pub AddsParts : ℕ → (PlainWorld → PlainWorld → List ℕ → Type 0) → PlainStore → List Part → List ℕ → List ℕ → Type 0
AddsParts workers asked start parts old new = (text : List ℕ) × ShowsParts workers asked start parts text × (new ≡ old ++ text)
