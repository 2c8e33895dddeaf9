use Rattle.std.proofs.Common.{◌≡◌, ◌++◌, map, slice_get, string_bytes}
use Rattle.std.specs.List.{flat_map, range_with_len}
use Rattle.blink_show.specs.Frames.{unless_same}
use Rattle.blink_show.proofs.frame.push_changed.Given as goal

-- the lines so far were added, where they aren't the same
abbrev pub invariant-loop-place : goal.invariant-loop-place
invariant-loop-place l = string_bytes l.text ≡ string_bytes l.initial.text ++ flat_map (λ place. unless_same (slice_get (map string_bytes l.old) place) (slice_get (map string_bytes l.new) place)) (range_with_len 0 l.place)
