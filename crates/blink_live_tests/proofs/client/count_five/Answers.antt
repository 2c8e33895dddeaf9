use Rattle.std.proofs.Common.{◌≡◌, ◌<◌, ◌≤◌, ℕ, Contains, subst, arith}
use Rattle.blink_live.specs.{keys_of}
use Rattle.blink_live_tests.proofs.client.count_five.Goals as goal

pub count_own-count-requires-clause-own_range : goal.count_own-count-requires-clause-own_range
count_own-count-requires-clause-own_range g c key low high = let is : 5 ≡ key = omega (arith, low, high) in subst (Contains (keys_of c.args.pass.now)) is c.requires.own_key
