use Rattle.std.proofs.Common.{◌≡◌, List, ℕ, refl, ap, subst, ◌∙◌}
use Rattle.blink_steps.specs.Acts.{PlainShared}
use Rattle.blink_machine.specs.{SeesPrime}
use Rattle.blink_steps.proofs.shared.Shared.read_prime.Goals as goal

pub returns-then-saw_prime : goal.returns-then-saw_prime
returns-then-saw_prime c =
    let prime : c.prime.result.now ≡ c.args.self.now.store.prime = c.prime.ensures.prime ∙ ap (λ (shared : PlainShared). shared.store.prime) c.self.view_is in
    let sees = subst (λ (read : List ℕ). SeesPrime c.args.machine.now read c.saw_prime.new.self) prime c.if-saw_prime.ensures.moved in
    λ worker. rw c.requires.needs (refl, sees, refl)
