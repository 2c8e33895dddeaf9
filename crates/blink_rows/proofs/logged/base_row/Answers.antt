use Rattle.std.proofs.Common.{◌≡◌, ℕ, zero, suc, replicate, get_or, refl, arith}
use Rattle.blink_rows.specs.declared.limits.TheConstants.{ROW_WORDS}
use Rattle.blink_rows.proofs.logged.base_row.Goals as goal

zeros : (count n : ℕ) → get_or {A = ℕ} (replicate count 0) n 0 ≡ 0
zeros zero n = refl
zeros (suc count) zero = refl
zeros (suc count) (suc n) = zeros count n

pub loop-n-init : goal.loop-n-init
loop-n-init c = record { width = refl; copied = λ n below. absurd (omega (arith, below)); rest = λ n behind. zeros ROW_WORDS n }
