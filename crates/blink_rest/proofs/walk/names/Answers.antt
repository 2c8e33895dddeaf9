use Rattle.std.proofs.Common.{◌≡◌, ℕ, Option, Some, List, ap, subst, ◌∙◌}
use Rattle.blink_page.specs.{PlainPage}
use Rattle.blink_store.specs.{page_of}
use Rattle.blink_store.proofs.Offered.{has_page}
use Rattle.blink_rest.specs.Walk.{NamesFirst, NamesNone}
use Rattle.blink_rest.proofs.ComparedLevels.{Compared, compared_none, compared_more, compared_other, over, tail_there, fewer_left}
use Rattle.blink_rest.proofs.walk.names.Goals as goal

at_link : (c : goal.After-above-in-Some-1) → Compared c.args.store.now.fan (page_of c.args.store.now) c.args.upper c.args.lower (Some c.in-Some.number) c.loop-above.below
at_link c = subst (λ (above : Option ℕ). Compared c.args.store.now.fan (page_of c.args.store.now) c.args.upper c.args.lower above c.loop-above.below) c.in-Some.is c.loop-above.invariant

pub loop-above-init : goal.loop-above-init
loop-above-init c = compared_none c.args.store.now.fan (page_of c.args.store.now) c.args.upper c.args.lower c.requires.upper c.requires.lower

pub read-page-requires : goal.read-page-requires
read-page-requires c =
    let left = subst (λ (above : Option ℕ). Compared c.args.store.now.fan (page_of c.args.store.now) c.args.upper c.args.lower above c.loop-above.below) c.in-Some.is c.loop-above.invariant in
    let it = tail_there c.args.store.now.fan (page_of c.args.store.now) c.in-Some.number (left.uppers_left, left.left_above) in
    has_page c.args.store.now c.in-Some.number it.0 it.1

entries : (c : goal.After-above-in-Some-1) → c.deref.result.now ≡ c.read-page.result.now.entries
entries c = c.deref.ensures.0 ∙ ap (λ (p : PlainPage). p.entries) c.page.view_is

pub returns-in-None : goal.returns-in-None
returns-in-None c =
    let entries : c.deref.result.now ≡ c.read-page.result.now.entries = c.deref.ensures.0 ∙ ap (λ (p : PlainPage). p.entries) c.page.view_is in
    let so_far = subst (λ (above : Option ℕ). Compared c.args.store.now.fan (page_of c.args.store.now) c.args.upper c.args.lower above c.loop-above.below) c.in-Some.is c.loop-above.invariant in
    let none = subst (λ (es : List (ℕ × ℕ)). NamesNone c.args.store.now.fan (page_of c.args.store.now) es c.loop-above.below) entries c.in-None.ensures.differs in (
      λ never. absurd (cc never),
      λ names. absurd (compared_other c.args.store.now.fan (page_of c.args.store.now) c.args.upper c.args.lower c.in-Some.number c.read-page.result.now c.loop-above.below so_far c.read-page.ensures.page none names),
    )

pub loop-above-smaller : goal.loop-above-smaller
loop-above-smaller c =
    let it = at_link c in
    rw (ap (λ (p : PlainPage). p.right) c.page.view_is, c.in-Some.is)
    (fewer_left c.args.store.now.fan (page_of c.args.store.now) c.in-Some.number c.read-page.result.now (it.uppers_left, it.left_above) c.read-page.ensures.page)

pub loop-above-preserved : goal.loop-above-preserved
loop-above-preserved c =
    let next = subst (λ (es : List (ℕ × ℕ)). NamesFirst c.args.store.now.fan (page_of c.args.store.now) es c.loop-above.below c.in-Some-link_after_named.after) (entries c) c.in-Some-link_after_named.ensures.named in
    rw (ap (λ (p : PlainPage). p.right) c.page.view_is)
    (compared_more c.args.store.now.fan (page_of c.args.store.now) c.args.upper c.args.lower c.in-Some.number c.read-page.result.now c.loop-above.below c.in-Some-link_after_named.after (at_link c) c.read-page.ensures.page next)

pub returns : goal.returns
returns c =
    let so_far = subst (λ (above : Option ℕ). Compared c.args.store.now.fan (page_of c.args.store.now) c.args.upper c.args.lower above c.loop-above.below) c.in_default.is c.loop-above.invariant in
    over c.args.store.now.fan (page_of c.args.store.now) c.args.upper c.args.lower c.loop-above.below c.is_none.result so_far c.is_none.ensures
