use Rattle.std.proofs.Common.{◌≡◌, rules}
use Rattle.blink_batch.specs.Same.{same_operations, same_operations-Decides}
use Rattle.blink_batch.proofs.batch.BatchPartialEq.eq.Goals as goal

-- the test holds exactly of equal lists
pub returns-clause-exact : goal.returns-clause-exact
returns-clause-exact c =
    let value : c.eq.result ≡ same_operations c.args.self.now c.args.other.now = search rules in
    rw value (same_operations-Decides c.args.self.now c.args.other.now)
