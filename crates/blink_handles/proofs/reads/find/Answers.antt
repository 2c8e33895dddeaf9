use Rattle.std.proofs.Common.{◌↔◌, ℕ, Option, IsSome, IsTrue, subst}
use Rattle.blink_handles.proofs.Found.{is_found}
use Rattle.blink_handles.proofs.reads.find.Goals as goal

pub returns-clause-found : goal.returns-clause-found
returns-clause-found c =
    subst (λ (there : Option ℕ). IsTrue c.is_some.result ↔ IsSome there) c.find-found.ensures.pointer
    (is_found c.find-found.result c.is_some.result c.is_some.ensures)
