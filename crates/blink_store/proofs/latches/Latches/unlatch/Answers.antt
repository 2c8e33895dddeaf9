use Rattle.std.proofs.Common.{◌≡◌, Option, ℕ, None, Some, subst, arith}
use Rattle.blink_store.specs.Latches.{IsHeldByOne, IsHeldBelow}
use Rattle.blink_store.proofs.HoldersOfPages.{holder_inside}
use Rattle.blink_store.proofs.ChangedHolders.{unlatched_held_by_one, changed_held_below, unlatched_changes}
use Rattle.blink_store.proofs.latches.Latches.unlatch.Goals as goal

pub bounds-self-inside-from : goal.bounds-self-inside-from
bounds-self-inside-from c =
    let one : IsHeldByOne c.args.self.now = subst IsHeldByOne c.self.view_is c.self.invariant.0 in
    omega (arith, holder_inside c.args.self.now one c.args.worker c.args.page c.requires)

pub invariant_of-self : goal.invariant_of-self
invariant_of-self c =
    let one : IsHeldByOne c.args.self.now = subst IsHeldByOne c.self.view_is c.self.invariant.0 in
    rw (c.self.view_is, c.from.ensures) (
      unlatched_held_by_one c.args.self.now one c.args.worker c.args.page c.requires,
      changed_held_below c.args.self.now c.self.inside.reach c.self.inside.reach c.args.worker None one
          (subst (λ held. IsHeldBelow held c.self.inside.reach) c.self.view_is c.self.invariant.1)
          (holder_inside c.args.self.now one c.args.worker c.args.page c.requires)
          c.self.invariant.1.inside (omega arith) (λ page same. let e : ◌≡◌ {A = Option ℕ} None (Some page) = same in cc),
    )

pub returns : goal.returns
returns c =
    let one : IsHeldByOne c.args.self.now = subst IsHeldByOne c.self.view_is c.self.invariant.0 in
    rw (c.self.view_is, c.from.ensures) (unlatched_changes c.args.self.now one c.args.worker c.args.page c.requires)
