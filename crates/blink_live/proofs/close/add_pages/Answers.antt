use Rattle.std.proofs.Common.{◌≡◌, ◌+◌, ◌≤◌, ◌++◌, ℕ, [], ◌∷◌, length, ap, sym, subst, ◌∙◌, arith}
use Rattle.std.specs.Prelude.{IfSome}
use Rattle.std.specs.Mem.Slots.{slots_items}
use Rattle.blink_page.specs.{IsPageNumber, PlainPage}
use Rattle.blink_page.specs.declared.limits.TheConstants.{MAX_FAN}
use Rattle.blink_live.specs.Renumbered.{child_count, page_anew}
use Rattle.blink_live.proofs.gathered.PagesAreAdded.{found_left, left_none, left_on, page_to_come}
use Rattle.blink_live.proofs.gathered.RenumberedPageIsLawful.{length-entries_anew}
use Rattle.blink_live.proofs.close.add_pages.Goals as goal

pub page_at-page-requires-clause-kept : goal.page_at-page-requires-clause-kept
page_at-page-requires-clause-kept c =
    let fan = c.args.store.now.fan in let number = c.in-Some.number in let pages = c.loop-link.store.pages in
    let few : fan ≤ MAX_FAN = omega (arith, c.pages-next.ensures.lawful.fan_in_range.1, c.loop-link.invariant.same_fan) in
    let come = c.requires.pages in
    let left = c.loop-link.invariant.left come.level come.floor come.cells come.are in
    page_to_come c.args.counts.now (slots_items c.args.closed.now.words) fan few come.level left.floor c.loop-link.link (length pages) c.loop-link.child number left.rest c.in-Some.is left.to_come

pub renumbered-requires-clause-next : goal.renumbered-requires-clause-next
renumbered-requires-clause-next c =
    let fan = c.args.store.now.fan in let number = c.in-Some.number in let pages = c.loop-link.store.pages in let page = c.page_at-page.result in
    let few : fan ≤ MAX_FAN = omega (arith, c.pages-next.ensures.lawful.fan_in_range.1, c.loop-link.invariant.same_fan) in
    let come = c.requires.pages in
    let left = c.loop-link.invariant.left come.level come.floor come.cells come.are in
    let found = found_left c.args.counts.now (slots_items c.args.closed.now.words) fan come.level c.loop-link.link c.loop-link.child number pages _ page few c.in-Some.is c.page_at-page.ensures left in
    subst (λ (n : ℕ). IfSome page.right (λ _. IsPageNumber (n + 2))) (sym c.pages-next.ensures.count) found.next_number

pub renumbered-requires-clause-room_for_children : goal.renumbered-requires-clause-room_for_children
renumbered-requires-clause-room_for_children c =
    let fan = c.args.store.now.fan in let number = c.in-Some.number in let pages = c.loop-link.store.pages in let page = c.page_at-page.result in
    let few : fan ≤ MAX_FAN = omega (arith, c.pages-next.ensures.lawful.fan_in_range.1, c.loop-link.invariant.same_fan) in
    let come = c.requires.pages in
    let left = c.loop-link.invariant.left come.level come.floor come.cells come.are in
    (found_left c.args.counts.now (slots_items c.args.closed.now.words) fan come.level c.loop-link.link c.loop-link.child number pages _ page few c.in-Some.is c.page_at-page.ensures left).room_for_children

pub add-requires-clause-at_most_fan : goal.add-requires-clause-at_most_fan
add-requires-clause-at_most_fan c =
    let fan = c.args.store.now.fan in let number = c.in-Some.number in let pages = c.loop-link.store.pages in let page = c.page_at-page.result in
    let few : fan ≤ MAX_FAN = omega (arith, c.pages-next.ensures.lawful.fan_in_range.1, c.loop-link.invariant.same_fan) in
    let come = c.requires.pages in
    let left = c.loop-link.invariant.left come.level come.floor come.cells come.are in
    let found = found_left c.args.counts.now (slots_items c.args.closed.now.words) fan come.level c.loop-link.link c.loop-link.child number pages _ page few c.in-Some.is c.page_at-page.ensures left in
    let same : length c.renumbered.result.entries ≡ length page.entries
    = ap (λ (p : PlainPage). length p.entries) c.renumbered.ensures ∙ length-entries_anew page.level c.loop-link.child page.entries in
    omega (arith, same, found.lawful.at_most_fan, c.loop-link.invariant.same_fan)

-- the page is the first of those that were left
pub loop-link-preserved : goal.loop-link-preserved
loop-link-preserved c =
    let fan = c.args.store.now.fan in
    let few : fan ≤ MAX_FAN = omega (arith, c.pages-next.ensures.lawful.fan_in_range.1, c.loop-link.invariant.same_fan) in
    let words = slots_items c.args.closed.now.words in
    let page = c.page_at-page.result in
    let pages = c.loop-link.store.pages in
    let added : pages ++ page_anew (length pages + 2) c.loop-link.child page ∷ [] ≡ c.add.new.store.pages
    = ap (λ (n : ℕ). pages ++ page_anew (n + 2) c.loop-link.child page ∷ []) (sym c.pages-next.ensures.count)
    ∙ ap (λ (p : PlainPage). pages ++ p ∷ []) (sym c.renumbered.ensures) ∙ sym c.in_ok-add.ensures.pages in
    let right : page.right ≡ c.page.inside.right = ap (λ (p : PlainPage). p.right) (sym c.page.view_is) in
    let count : c.loop-link.child + child_count page.level page.entries ≡ c.loop-link.child + c.child_count-children.result
    = ap (λ (n : ℕ). c.loop-link.child + n) (sym c.child_count-children.ensures) in
    record {
      same_fan = c.add.ensures.fan ∙ c.loop-link.invariant.same_fan;
      left = λ level floor cells are.
          let left = c.loop-link.invariant.left level floor cells are in
          let on = left_on c.args.counts.now words fan level c.loop-link.link c.loop-link.child c.in-Some.number pages _ page few c.in-Some.is c.page_at-page.ensures left in
          rw (← right, ← count, ← added) on;
    }

pub returns-clause-pages : goal.returns-clause-pages
returns-clause-pages c = λ level floor cells are.
    left_none c.args.counts.now (slots_items c.args.closed.now.words) c.args.store.now.fan level c.loop-link.link c.loop-link.child c.loop-link.store.pages _ c.in_default.is
    (c.loop-link.invariant.left level floor cells are)
