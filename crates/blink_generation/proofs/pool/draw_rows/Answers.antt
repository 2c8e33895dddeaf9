use Rattle.std.proofs.Common.{◌+◌, arith}
use Rattle.blink_live.specs.{length_of}
use Rattle.blink_generation.proofs.PartsOfThePool.{part_of_all}
use Rattle.blink_generation.proofs.pool.draw_rows.Goals as goal

pub returns-then-exchange_rows-clause-part : goal.returns-then-exchange_rows-clause-part
returns-then-exchange_rows-clause-part c =
    let live = c.args.live.now in
    let end = c.rows_in_pool.ensures.end in
    part_of_all (length_of c.rows_in_pool.result) (live.counts.rows + 1) live.places c.args.least (length_of c.in_ok-drawn.drawn) c.requires.common (omega (arith, end)) c.in_ok-drawn.ensures.part
