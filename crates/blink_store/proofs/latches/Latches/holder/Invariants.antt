use Rattle.std.proofs.Common.{ℕ, ◌<◌}
use Rattle.blink_store.specs.Latches.{Holds}
use Rattle.blink_store.proofs.latches.Latches.holder.Given as goal

-- no worker before this one holds the page
abbrev pub invariant-loop-worker : goal.invariant-loop-worker
invariant-loop-worker l = (before : ℕ) → before < l.worker → Holds l.self-inside.held before l.page → ⊥
