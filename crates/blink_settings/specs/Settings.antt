-- The settings of a script's run, and the worker of each key.
use Rattle.std.specs.Prelude.{ℕ, ◌-◌, ◌*◌, ◌/◌, ◌%◌, ◌^◌, List, map}
use Rattle.std.specs.List.{range_with_len}
use Rattle.blink_batch.specs.declared.Op.{Op}
use Rattle.blink_batch.specs.{MayWork, key_of, lanes_by_ranges}
use Rattle.blink_page.specs.{IsBadFan}
use Rattle.blink_settings.specs.declared.settings.Driver.{Driver}
use Rattle.blink_settings.specs.declared.settings.CutKind.{CutKind}
use Rattle.blink_settings.specs.declared.settings.CutKind.TheVariants.{Residue, Ranges}

-- the workers, the greatest number of entries in a page, how batches are cut, and how the workers share the tree
pub record PlainSettings : Type 0 where
  pub workers : ℕ
  pub fan : ℕ
  pub cut : CutKind
  pub driver : Driver

-- a run may have this many workers, and a tree this fan
abbrev pub IsAllowed : ℕ → ℕ → Type 0
IsAllowed workers fan = MayWork workers × ¬ IsBadFan fan

-- the worker of a key is its remainder
abbrev pub lanes_by_residue : ℕ → List Op → List ℕ
lanes_by_residue workers ops = map (λ op. key_of op % workers) ops

-- the greatest keys of as many ranges as there are workers, without the last: each a multiple of the same width
abbrev pub even_bounds : ℕ → List ℕ
even_bounds workers = map (λ number. number * ((2 ^ 64 - 1) / workers)) (range_with_len 1 (workers - 1))

-- the worker of each operation
abbrev pub lanes_by : CutKind → ℕ → List Op → List ℕ
lanes_by Residue workers ops = lanes_by_residue workers ops
lanes_by Ranges workers ops = lanes_by_ranges (even_bounds workers) ops
