use Rattle.std.proofs.Common.{refl}
use Rattle.blink_steps.proofs.shared.Shared.write_prime.Goals as goal

pub returns : goal.returns
returns c = λ worker. rw (c.requires, ← c.self.view_is, c.set_prime.ensures.prime) (refl, c.done.ensures, c.prime_out.ensures, refl, refl)
