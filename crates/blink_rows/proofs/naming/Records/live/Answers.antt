use Rattle.std.proofs.Common.{ap, arith}
use Rattle.std.specs.Int.Bits.{bit_and}
use Rattle.std.specs.Int.Count.{ones}
use Rattle.blink_rows.specs.declared.naming.Records.{Records}
use Rattle.blink_rows.proofs.RecordCounts.{length-content}
use Rattle.blink_rows.proofs.naming.Records.live.Goals as goal

pub returns : goal.returns
returns c fan page records fit few same base =
    let kinds = ap (λ (t : Records). t.kinds) same in
    let all = length-content fan page records fit few in
    omega (arith, c.saturating_sub.ensures, all, base, ap (λ n. ones (bit_and n 5592405)) kinds, ap (λ n. ones (bit_and n 11184810)) kinds)
