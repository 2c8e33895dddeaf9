-- The text of a script's replay, from head to tail.
use Rattle.std.proofs.Common.{◌≡◌, ◌++◌, ◌∙◌, ℕ, List, Option, Some, Ok, ap}
use Rattle.blink_batch.specs.declared.Part.{Part}
use Rattle.blink_batch.specs.{ReadsAs, records_of}
use Rattle.blink_store.specs.{new_store}
use Rattle.blink_steps.specs.{PlainWorld}
use Rattle.blink_show.specs.Show.{AddsParts, IsTextOf, sizes_text}

module _ (head tail : List ℕ) (workers fan : ℕ) (asked : PlainWorld → PlainWorld → List ℕ → Type 0) (to_read : Option (List ℕ)) (parts : List Part) where
  pub is_show_text : (new text : List ℕ) → ReadsAs to_read (Ok parts) → AddsParts workers asked (new_store fan) parts (sizes_text workers fan) new → text ≡ new
      → (read : List ℕ) → to_read ≡ Some read → IsTextOf head tail workers fan asked (records_of read) (head ++ (text ++ tail))
  is_show_text new text reads adds same_text = λ read known. record {
    parts = parts;
    a_script = reads read known;
    frames = adds.0;
    shows = adds.1;
    its_text = ap (λ (middle : List ℕ). head ++ (middle ++ tail)) (same_text ∙ adds.2);
  }
