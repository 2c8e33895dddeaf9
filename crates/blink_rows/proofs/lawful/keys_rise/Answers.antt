use Rattle.std.proofs.Common.{◌≡◌, ◌<◌, true, length, arith}
use Rattle.blink_rows.proofs.LawfulParts.{rises_at}
use Rattle.blink_rows.proofs.lawful.keys_rise.Goals as goal
use Rattle.blink_rows.proofs.lawful.keys_rise.Goals.{then-not-is_above-via-then-not-is_above, then-not-is_above-via-else-not-is_above+then-key-high}

pub returns-then-not-is_above : goal.returns-then-not-is_above
returns-then-not-is_above c = (
  (λ wrong. absurd (cc)),
  (λ rises.
      let inside : c.loop-key.key-index < length c.args.entries.now = omega arith in
      let at = rises_at _ c.args.entries.now c.loop-key.key-index c.args.high (0, 0) inside (c.loop-key.invariant.rest_decides.0 rises) in
      elim c.then-not-is_above.branch [ then-not-is_above-via-then-not-is_above w ↦ let yes : c.is_above.result ≡ true = c.is_above.ensures.1 at.0 in cc | then-not-is_above-via-else-not-is_above+then-key-high w ↦ absurd (omega (arith, at.1)) ]),
)
