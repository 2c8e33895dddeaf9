-- Why an index isn't made of entries that have to ascend, as the caller is told.
use Rattle.std.specs.Prelude.{◌≡◌, ℕ, List}
use Rattle.blink_batch.specs.declared.Entry.{Entry}
use Rattle.blink_index.specs.{IsSortedRefusal, code_of_sorted}
use Rattle.blink_index.specs.declared.SortedError.{SortedError}
use Rattle.blink_index.specs.declared.SortedError.TheVariants.{NotAscending}

-- the code of the refusal, and the first place whose key isn't above the one before
pub record TellsSortedFault (fan : ℕ) (entries : List Entry) (code place : ℕ) : Type 0 where
  pub refusal : SortedError
  pub its_code : code ≡ code_of_sorted refusal
  pub fault : IsSortedRefusal fan entries refusal
  pub its_place : (unsorted : ℕ) → refusal ≡ NotAscending unsorted → place ≡ unsorted
