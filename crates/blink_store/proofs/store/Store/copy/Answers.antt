use Rattle.std.proofs.Common.{◌≡◌, ◌+◌, ◌<◌, List, length, get_or, subst, sym, ap, ◌∙◌, arith}
use Rattle.std.proofs.lemmas.List.{take_all, take_more}
use Rattle.blink_page.specs.{PlainPage}
use Rattle.blink_store.specs.Store.{PlainStore, IsLawfulStore}
use Rattle.blink_store.proofs.store.Store.copy.Goals as goal

pub loop-page-preserved : goal.loop-page-preserved
loop-page-preserved c =
    let here = c.loop-page.page-index in
    let pages = c.deref-page-items.ensures.value ∙ ap (λ (store : PlainStore). store.pages) c.self.view_is in
    let inside = subst (λ (xs : List PlainPage). here < length xs) pages c.loop-page-test.true in
    let copied = c.copy.ensures ∙ c.page-item.is ∙ ap (λ (xs : List PlainPage). get_or xs here c.page-item.result) pages in
    record {
      first_pages = rw (c.push_reserved.ensures.items, c.loop-page.invariant.first_pages, copied)
          (sym (take_more c.args.self.now.pages here c.page-item.result inside));
      room = rw c.push_reserved.ensures.capacity c.loop-page.invariant.room;
      as_many = c.push_reserved.ensures.len ∙ ap (λ n. n + 1) c.loop-page.invariant.as_many;
    }

-- after the loop all pages are there
all_pages : (c : goal.After-copy-2) → c.loop-page.pages.items ≡ c.self.inside.pages.items
all_pages c =
    let pages = ap (λ (store : PlainStore). store.pages) c.self.view_is in
    let long = ap length (c.deref-page-items.ensures.value ∙ pages) in
    c.loop-page.invariant.first_pages
    ∙ take_all c.loop-page.page-index c.args.self.now.pages (omega (arith, long, c.loop-page-test.false)) ∙ sym pages

pub returns-clause-store : goal.returns-clause-store
returns-clause-store c = (λ i. record { fan = c.self.inside.fan; prime = c.copy-2.ensures i; pages = all_pages c i }) ∙ c.self.view_is

-- what equals a lawful store is one
pub invariant_of-result : goal.invariant_of-result
invariant_of-result c = subst IsLawfulStore (c.self.view_is ∙ sym (returns-clause-store c)) c.self.invariant
