use Rattle.std.proofs.Common.{◌≤◌, length, subst, sym}
use Rattle.blink_page.specs.{IsLawfulPage}
use Rattle.blink_page.specs.declared.limits.TheConstants.{MAX_FAN}
use Rattle.blink_store.specs.Store.{PlainStore, HasPage}
use Rattle.blink_store.proofs.PagesAfterChange.{lawful_for, lawful-write, writes-write}
use Rattle.blink_store.proofs.PagesByNumber.{keeps_by_write}
use Rattle.blink_store.proofs.store.Store.write.Goals as goal

pub invariant_of-self : goal.invariant_of-self
invariant_of-self c =
    let few = subst (λ (store : PlainStore). length c.args.page.entries ≤ store.fan) (sym c.self.view_is) c.requires.at_most_fan in
    let page = subst (IsLawfulPage MAX_FAN) c.page.view_is c.page.invariant in
    lawful-write _ c.args.page _ c.self.invariant (lawful_for _ c.args.page page few)

pub returns-clause-written : goal.returns-clause-written
returns-clause-written c =
    let exists = subst (λ (store : PlainStore). HasPage store c.args.n) (sym c.self.view_is) c.requires.exists in
    rw (← c.self.view_is) (writes-write _ c.args.page c.args.n exists)

pub returns-clause-kept : goal.returns-clause-kept
returns-clause-kept c = keeps_by_write _ _ c.args.page c.args.n (returns-clause-written c) c.requires.same_floor_and_level
