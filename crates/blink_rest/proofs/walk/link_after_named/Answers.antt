use Rattle.std.proofs.Common.{◌≡◌, ℕ, Option, take, ap, sym, subst, ◌∙◌, arith}
use Rattle.blink_page.specs.{PlainPage}
use Rattle.blink_store.specs.{page_of}
use Rattle.blink_store.proofs.Offered.{has_page}
use Rattle.blink_rest.specs.Walk.{NamesFirst}
use Rattle.blink_rest.proofs.ComparedLevels.{names_nothing, names_more, names_other, tail_there}
use Rattle.blink_rest.proofs.walk.link_after_named.Goals.{then-separator-page-via-then-separator-page, then-separator-page-via-else-separator-page+then-child-from}
use Rattle.blink_rest.proofs.walk.link_after_named.Goals as goal

pub loop-separator-init : goal.loop-separator-init
loop-separator-init c = names_nothing c.args.store.now.fan (page_of c.args.store.now) c.args.first c.requires

pub returns-in_default-clause-differs : goal.returns-in_default-clause-differs
returns-in_default-clause-differs c =
    names_other c.args.store.now.fan (page_of c.args.store.now) c.args.entries.now c.loop-separator.separator-index c.args.first c.loop-separator.below (omega arith) c.loop-separator.invariant
    (λ number page link. absurd (cc (sym c.in_default.is, link)))

pub read-page-requires : goal.read-page-requires
read-page-requires c =
    let left = subst (λ (link : Option ℕ). NamesFirst c.args.store.now.fan (page_of c.args.store.now) (take c.loop-separator.separator-index c.args.entries.now) c.args.first link) c.in-Some.is c.loop-separator.invariant in
    let it = tail_there c.args.store.now.fan (page_of c.args.store.now) c.in-Some.number (left.rest, left.left) in
    has_page c.args.store.now c.in-Some.number it.0 it.1

pub returns-then-separator-page-clause-differs : goal.returns-then-separator-page-clause-differs
returns-then-separator-page-clause-differs c =
    names_other c.args.store.now.fan (page_of c.args.store.now) c.args.entries.now c.loop-separator.separator-index c.args.first c.loop-separator.below (omega arith) c.loop-separator.invariant
    (λ number page link there high same.
    let numbers : c.in-Some.number ≡ number = cc (sym c.in-Some.is, link) in
    let pages : c.read-page.result.now ≡ page = cc (c.read-page.ensures.page, there, numbers) in
    let highs : c.page.inside.high ≡ page.high = ap (λ (p : PlainPage). p.high) (c.page.view_is ∙ pages) in
    elim c.then-separator-page.branch [
      | then-separator-page-via-then-separator-page w ↦ w.if-separator-page.true (high ∙ sym highs)
      | then-separator-page-via-else-separator-page+then-child-from w ↦ w.if-child-from.true (same ∙ sym numbers ∙ sym w.from.ensures)
    ])

pub loop-separator-preserved : goal.loop-separator-preserved
loop-separator-preserved c =
    let left = subst (λ (link : Option ℕ). NamesFirst c.args.store.now.fan (page_of c.args.store.now) (take c.loop-separator.separator-index c.args.entries.now) c.args.first link) c.in-Some.is c.loop-separator.invariant in
    rw (ap (λ (p : PlainPage). p.right) c.page.view_is)
    (names_more c.args.store.now.fan (page_of c.args.store.now) c.args.entries.now c.loop-separator.separator-index c.args.first c.in-Some.number c.read-page.result.now (omega arith) left c.read-page.ensures.page
    (c.if-separator-page.false ∙ ap (λ (p : PlainPage). p.high) c.page.view_is) (c.if-child-from.false ∙ c.from.ensures))
