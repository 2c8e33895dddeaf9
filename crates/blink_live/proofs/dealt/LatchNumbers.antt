-- A pass with rows has a latch number that no pass before it has, nor one after it.
use Rattle.std.proofs.Common.{◌≡◌, ℕ, ◌+◌, ◌<◌, ◌≤◌, List, ap, arith}
use Rattle.blink_rows.specs.declared.span.Span.{Span}
use Rattle.blink_live.specs.declared.live.Keeper.{Keeper}
use Rattle.blink_live.specs.declared.live.Live.{Live}
use Rattle.blink_live.specs.declared.live.Pass.{Pass}
use Rattle.blink_live.specs.Deals.{HasDealt, IsDealt, rows_for}
use Rattle.blink_live.specs.Handles.{latch_number_of}

-- it is one of the rows that the keeper had
pub latch_number-from_keeper : (live : Live) (old : Keeper) (keys : List ℕ) (inserts deletes : ℕ) (pass : Pass) → IsDealt live old keys inserts deletes pass → 1 ≤ rows_for inserts deletes → old.rows.next ≤ latch_number_of pass
latch_number-from_keeper live old keys inserts deletes pass dealt some_row =
    let stop : pass.rows.stop ≡ old.rows.next + rows_for inserts deletes = ap (λ (rows : Span). rows.stop) dealt.rows in
    omega (arith, stop, some_row)

-- and none that the keeper has then
pub latch_number-before_rest : (live : Live) (old new : Keeper) (keys : List ℕ) (inserts deletes : ℕ) (pass : Pass) → IsDealt live old keys inserts deletes pass → HasDealt live old new keys inserts deletes → 1 ≤ rows_for inserts deletes
    → latch_number_of pass < new.rows.next
latch_number-before_rest live old new keys inserts deletes pass dealt rest some_row =
    let stop : pass.rows.stop ≡ old.rows.next + rows_for inserts deletes = ap (λ (rows : Span). rows.stop) dealt.rows in
    let next : new.rows.next ≡ old.rows.next + rows_for inserts deletes = ap (λ (rows : Span). rows.next) rest.rows in
    omega (arith, stop, next, some_row)
