use Rattle.std.proofs.Common.{◌≡◌, ◌∙◌, None, Some, subst, sym, arith}
use Rattle.blink_store.specs.Latches.{IsHeldByOne, IsHeldBelow, holder_of}
use Rattle.blink_page.proofs.Offered.{none_unless_some}
use Rattle.blink_store.proofs.ChangedHolders.{latched_held_by_one, changed_held_below, latched_changes}
use Rattle.blink_store.proofs.latches.Latches.try_latch.Goals as goal

pub invariant_of-self : goal.invariant_of-self
invariant_of-self c =
    let one : IsHeldByOne c.args.self.now = subst IsHeldByOne c.self.view_is c.self.invariant.0 in
    let free : holder_of c.args.self.now c.args.page ≡ None = sym c.holder.ensures.holder ∙ none_unless_some c.holder.result cc in
    rw (c.self.view_is, c.from.ensures) (
      latched_held_by_one c.args.self.now one c.args.worker c.args.page c.requires.worker c.requires.holds_none free,
      changed_held_below c.args.self.now c.self.inside.reach c.max-self-inside.result c.args.worker (Some c.args.page) one
          (subst (λ held. IsHeldBelow held c.self.inside.reach) c.self.view_is c.self.invariant.1)
          c.requires.worker (omega (arith, c.max-self-inside.ensures, c.self.invariant.1.inside, c.requires.worker)) (omega (arith, c.max-self-inside.ensures)) (λ page same. omega (arith, c.max-self-inside.ensures)),
    )

pub returns-clause-held : goal.returns-clause-held
returns-clause-held c =
    let one : IsHeldByOne c.args.self.now = subst IsHeldByOne c.self.view_is c.self.invariant.0 in
    let free : holder_of c.args.self.now c.args.page ≡ None = sym c.holder.ensures.holder ∙ none_unless_some c.holder.result cc in
    rw (c.self.view_is, c.from.ensures)
    (latched_changes c.args.self.now one c.args.worker c.args.page c.requires.worker c.requires.holds_none free)
