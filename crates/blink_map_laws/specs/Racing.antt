-- Two insertions of one absent key into a map that nobody else changes.
use Rattle.std.specs.Prelude.{◌≡◌, ◌⊎◌, ℕ}
use Rattle.blink_batch.specs.declared.Answer.{Answer}
use Rattle.blink_batch.specs.declared.Answer.TheVariants.{Exists, Inserted}

-- exactly one of the two was answered `Inserted`; the other one, that the key has the first one's pointer
abbrev pub OneIsInserted : (first_pointer second_pointer : ℕ) (first second : Answer) → Type 0
OneIsInserted first_pointer second_pointer first second = ((first ≡ Inserted) × (second ≡ Exists first_pointer)) ⊎ ((first ≡ Exists second_pointer) × (second ≡ Inserted))
