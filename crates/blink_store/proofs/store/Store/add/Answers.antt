use Rattle.std.proofs.Common.{◌≡◌, ◌≤◌, ◌+◌, length, subst, sym, ap, ◌∙◌}
use Rattle.std.specs.Result.{is_ok}
use Rattle.blink_page.specs.{IsLawfulPage}
use Rattle.blink_page.specs.declared.limits.TheConstants.{MAX_FAN, MAX_PAGE}
use Rattle.blink_store.specs.Store.{PlainStore}
use Rattle.blink_store.proofs.PagesAfterChange.{lawful_for, lawful-add, writes-add, keeps-add}
use Rattle.blink_store.proofs.store.Store.add.Goals.{in-Ok, in-Err}
use Rattle.blink_store.proofs.store.Store.add.Goals as goal

-- the store before
abbrev old : goal.Joined-push → PlainStore
old c = record { fan = c.self.inside.fan; prime = c.self.inside.prime; pages = c.self.inside.pages.items }

-- its pages were counted
counted : (c : goal.Joined-push) → c.pages-count.result ≡ length c.self.inside.pages.items
counted c = c.pages-count.ensures.count ∙ ap (λ (store : PlainStore). length store.pages) (sym c.self.view_is)

pub invariant_of-self : goal.invariant_of-self
invariant_of-self c =
    let few = subst (λ (store : PlainStore). length c.args.page.entries ≤ store.fan) (sym c.self.view_is) c.requires in
    let page = subst (IsLawfulPage MAX_FAN) c.page.view_is c.page.invariant in
    let room = λ (full : length c.self.inside.pages.items ≡ MAX_PAGE). c.if-count-eq-MAX_PAGE.false (counted c ∙ full) in
    rw c.push.ensures.items (lawful-add (old c) c.args.page _ c.self.invariant (lawful_for _ c.args.page page few) room)

pub returns-clause-written : goal.returns-clause-written
returns-clause-written c = elim c.match-push.branch [
  | in-Ok w ↦
      let number = ap (λ n. n + 1) (sym (counted c)) in
      rw (w.result-is, ← c.self.view_is, w.in-Ok.ensures.items) (writes-add (old c) c.args.page (c.pages-count.result + 1) number)
  | in-Err w ↦ rw w.result-is tt
]

pub returns-clause-kept : goal.returns-clause-kept
returns-clause-kept c = rw (← c.self.view_is, c.push.ensures.items) (keeps-add (old c) c.args.page (is_ok c.push.result))
