use Rattle.std.proofs.Common.{◌≡◌, ◌-◌, suc, length, arith}
use Rattle.blink_page.specs.{next_key}
use Rattle.blink_entries.proofs.StretchOfScan.{all_up_to}
use Rattle.std.proofs.Common.{sym}
use Rattle.blink_entries.proofs.back.not_above.Goals as goal

pub returns-then-entries-count-clause-entries : goal.returns-then-entries-count-clause-entries
returns-then-entries-count-clause-entries c =
    let long : length c.args.entries.now ≡ suc (length c.args.entries.now - 1) = omega (arith, c.if-count-gt0.true) in
    sym (all_up_to c.args.hi 0 c.args.entries.now (next_key 0 c.args.entries.now) (length c.args.entries.now - 1) c.requires long c.if-entries-count.true)
