use Rattle.std.proofs.Common.{◌≡◌, ◌+◌, ℕ, Option, Some, length, ap, sym, subst, ◌∙◌, arith}
use Rattle.blink_page.specs.{PlainPage}
use Rattle.blink_store.specs.{page_of}
use Rattle.blink_store.proofs.Offered.{has_page}
use Rattle.blink_rest.specs.Walk.{IsInLine}
use Rattle.blink_rest.proofs.WalkAlongLevel.{Walked, walked_on, walked_whole, walked_out, walked_within, store_numbered}
use Rattle.blink_rest.proofs.walk.chain_length.Goals as goal

at_link : (c : goal.After-link-in-Some-1) → Walked c.args.store.now.fan (page_of c.args.store.now) c.args.level c.args.leftmost c.loop-link.floor (Some c.in-Some.number) c.loop-link.count
at_link c = subst (λ (link : Option ℕ). Walked c.args.store.now.fan (page_of c.args.store.now) c.args.level c.args.leftmost c.loop-link.floor link c.loop-link.count) c.in-Some.is c.loop-link.invariant

in_line : (c : goal.After-link-in-Some-1) → IsInLine (page_of c.args.store.now) c.in-Some.number c.args.level c.loop-link.floor
in_line c = c.is_in_line.ensures.in_line.0 c.if-not-is_in_line.false

met : (c : goal.After-link-in-Some-1) → Walked c.args.store.now.fan (page_of c.args.store.now) c.args.level c.args.leftmost (Some c.page.inside.high) c.page.inside.right (c.loop-link.count + 1)
met c =
    let same : (in_line c).page ≡ c.read-page.result.now = cc ((in_line c).there, c.read-page.ensures.page) in
    rw (ap (λ (p : PlainPage). p.high) c.page.view_is, ap (λ (p : PlainPage). p.right) c.page.view_is)
    (walked_on c.args.store.now.fan (page_of c.args.store.now) c.args.level c.args.leftmost c.loop-link.floor c.in-Some.number c.loop-link.count c.read-page.result.now
    (at_link c) c.read-page.ensures.page (ap (λ (p : PlainPage). p.level) (sym same) ∙ (in_line c).same_level) (ap (λ (p : PlainPage). p.floor) (sym same) ∙ (in_line c).same_floor) c.read-page.ensures.lawful)

pub overflow_add-count : goal.overflow_add-count
overflow_add-count c =
    let few = walked_within c.args.store.now.fan (page_of c.args.store.now) c.args.level c.args.leftmost (length c.args.store.now.pages) (c.loop-link.count + 1) (Some c.page.inside.high) c.page.inside.right (store_numbered c.args.store.now) (met c) in
    omega (arith, few, c.is_in_line.ensures.few_pages.1)

pub returns-then-not-is_in_line : goal.returns-then-not-is_in_line
returns-then-not-is_in_line c =
    walked_out c.args.store.now.fan (page_of c.args.store.now) c.args.level c.args.leftmost c.loop-link.floor c.in-Some.number c.loop-link.count
    (subst (λ (link : Option ℕ). Walked c.args.store.now.fan (page_of c.args.store.now) c.args.level c.args.leftmost c.loop-link.floor link c.loop-link.count) c.in-Some.is c.loop-link.invariant)
    (λ inside. cc (c.is_in_line.ensures.in_line.1 inside, c.if-not-is_in_line.true))

pub read-page-requires : goal.read-page-requires
read-page-requires c =
    let inside = c.is_in_line.ensures.in_line.0 c.if-not-is_in_line.false in
    has_page c.args.store.now c.in-Some.number inside.page inside.there

pub loop-link-preserved : goal.loop-link-preserved
loop-link-preserved c = met c

pub returns : goal.returns
returns c =
    walked_whole c.args.store.now.fan (page_of c.args.store.now) c.args.level c.args.leftmost c.loop-link.floor c.loop-link.count
    (subst (λ (link : Option ℕ). Walked c.args.store.now.fan (page_of c.args.store.now) c.args.level c.args.leftmost c.loop-link.floor link c.loop-link.count) c.in_default.is c.loop-link.invariant)
