-- A place's part of what the pool has left is at most that of all.
use Rattle.std.proofs.Common.{ℕ, ◌≤◌, ◌/◌, ◌*◌, inl, inr, arith}
use Rattle.std.proofs.Math.Nat.{div-mul-le_self}
use Rattle.std.proofs.lemmas.Nat.{le-div}
use Rattle.blink_generation.specs.Drawing.{IsPart}

divided : (few many by : ℕ) → 1 ≤ by → few ≤ many → few / by ≤ many / by
divided few many by some less = let whole : (few / by) * by ≤ few = div-mul-le_self few by in le-div (few / by) many by some (omega (arith, whole, less))

pub part_of_all : (left all places least drawn : ℕ) → 1 ≤ places → left ≤ all → IsPart left places least drawn → IsPart all places least drawn
part_of_all left all places least drawn some less (inl needed) = inl needed
part_of_all left all places least drawn some less (inr part) = let more = divided (left / 2) (all / 2) places some (divided left all 2 (omega arith) less) in inr (omega (arith, part, more))

-- fewer are one too
pub part_of_fewer : (all places least fewer_least drawn fewer : ℕ) → fewer ≤ drawn → fewer_least ≤ least → IsPart all places fewer_least drawn → IsPart all places least fewer
part_of_fewer all places least fewer_least drawn fewer less needs (inl needed) = inl (omega (arith, needed, less, needs))
part_of_fewer all places least fewer_least drawn fewer less needs (inr part) = inr (omega (arith, part, less))
