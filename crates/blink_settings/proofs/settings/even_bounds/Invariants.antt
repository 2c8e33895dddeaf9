use Rattle.std.proofs.Common.{◌≡◌, ◌≤◌, ◌+◌, ◌*◌, map}
use Rattle.std.specs.List.{range_with_len}
use Rattle.std.specs.Vec.{vec_capacity, vec_len}
use Rattle.blink_settings.proofs.settings.even_bounds.Given as goal

-- the bounds so far are of the ranges so far, and the others have their room
abbrev pub invariant-loop-number : goal.invariant-loop-number
invariant-loop-number l = record {
  within : l.number ≤ l.workers;
  counted : vec_len l.bounds + 1 ≡ l.number;
  bounds : l.bounds.items ≡ map (λ number. number * l.width) (range_with_len 1 (vec_len l.bounds));
  room : l.workers ≤ vec_capacity l.bounds;
}
