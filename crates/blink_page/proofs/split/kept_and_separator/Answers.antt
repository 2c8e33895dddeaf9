use Rattle.std.proofs.Common.{◌≤◌, length, sym, arith}
use Rattle.blink_page.specs.Split.{kept_count}
use Rattle.blink_page.proofs.HalvesOfSplit.{separator_of-get_or}
use Rattle.blink_page.proofs.split.kept_and_separator.Goals as goal

-- the separator stands last among the entries that stay
pub returns-clause-separator : goal.returns-clause-separator
returns-clause-separator c =
    let room : kept_count c.args.fan ≤ length c.args.whole.now = omega (arith, c.requires.overfull, c.requires.fan) in
    rw c.from.ensures (sym (separator_of-get_or c.args.fan c.args.whole.now room))
