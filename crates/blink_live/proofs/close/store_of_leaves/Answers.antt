use Rattle.std.proofs.Common.{◌≡◌, ◌<◌, ℕ, Option, Some, None, [], ◌∷◌, length, set, refl, ap, sym, subst, ◌∙◌, arith}
use Rattle.std.specs.Prelude.{slice_get}
use Rattle.std.specs.Mem.Slots.{slots_items}
use Rattle.blink_page.specs.{PlainPage, empty_leaf}
use Rattle.blink_store.specs.{PlainStore}
use Rattle.blink_store.proofs.Offered.{pages-write}
use Rattle.blink_live.specs.ToCome.{AreToCome, HasPagesToCome}
use Rattle.blink_live.specs.Renumbered.{page_anew}
use Rattle.blink_live.proofs.gathered.PagesAreAdded.{NextPage, all_leaves, found_page, page_to_come, rest_of_leaves}
use Rattle.blink_live.proofs.gathered.RenumberedPageIsLawful.{length-entries_anew}
use Rattle.blink_live.proofs.close.store_of_leaves.Goals as goal

pub page_at-page-requires-clause-kept : goal.page_at-page-requires-clause-kept
page_at-page-requires-clause-kept c =
    let leaves = c.requires.leaves in
    page_to_come c.args.counts.now (slots_items c.args.closed.now.words) c.args.fan c.requires.fan.1 0 None (Some c.args.leftmost) 0 1 c.args.leftmost leaves.0 refl leaves.1

-- the first leaf
first_leaf : (c : goal.After-renumbered) → NextPage c.args.counts.now (slots_items c.args.closed.now.words) c.args.fan 0 None 0 1 c.args.leftmost c.page_at-page.result c.requires.leaves.0
first_leaf c =
    found_page c.args.counts.now (slots_items c.args.closed.now.words) c.args.fan c.requires.fan.1 0 None (Some c.args.leftmost) 0 1 c.args.leftmost c.requires.leaves.0 c.page_at-page.result refl
    c.requires.leaves.1 c.page_at-page.ensures

pub write-requires-clause-same_floor_and_level : goal.write-requires-clause-same_floor_and_level
write-requires-clause-same_floor_and_level c = λ old there.
    let next = first_leaf c in
    let first : ◌≡◌ {A = Option PlainPage} (Some empty_leaf) (Some old) = sym (ap (λ (s : PlainStore). slice_get s.pages 0) c.in-Ok.ensures.store) ∙ there in
    let same : empty_leaf ≡ old = cc in (
      ap (λ (p : PlainPage). p.floor) c.renumbered.ensures ∙ next.same_floor ∙ ap (λ (p : PlainPage). p.floor) same,
      ap (λ (p : PlainPage). p.level) c.renumbered.ensures ∙ next.same_level ∙ ap (λ (p : PlainPage). p.level) same,
    )

pub write-requires-clause-at_most_fan : goal.write-requires-clause-at_most_fan
write-requires-clause-at_most_fan c =
    let page = c.page_at-page.result in
    let same : length c.renumbered.result.entries ≡ length page.entries
    = ap (λ (p : PlainPage). length p.entries) c.renumbered.ensures ∙ length-entries_anew page.level 1 page.entries in
    let fan : c.in-Ok.store.fan ≡ c.args.fan = ap (λ (s : PlainStore). s.fan) c.in-Ok.ensures.store in
    omega (arith, same, fan, (first_leaf c).lawful.at_most_fan)

pub add_pages-requires-clause-pages : goal.add_pages-requires-clause-pages
add_pages-requires-clause-pages c =
    let words = slots_items c.args.closed.now.words in
    let page = c.page_at-page.result in
    let leaves = c.requires.leaves in
    let next = found_page c.args.counts.now words c.args.fan c.requires.fan.1 0 None (Some c.args.leftmost) 0 1 c.args.leftmost leaves.0 page refl leaves.1 c.page_at-page.ensures in
    let come : HasPagesToCome c.args.counts.now words c.args.fan page.right 1 1 = record {
      level = 0;
      floor = Some page.high;
      cells = next.rest;
      are = rest_of_leaves c.args.counts.now words c.args.fan 0 None c.args.leftmost page leaves.0 next.same_level next;
    } in
    let fan : c.write.new.self.fan ≡ c.args.fan = c.write.ensures.written.same_fan ∙ ap (λ (s : PlainStore). s.fan) c.in-Ok.ensures.store in
    let count : length c.write.new.self.pages ≡ 1 = c.write.ensures.count ∙ ap (λ (s : PlainStore). length s.pages) c.in-Ok.ensures.store in
    let right : c.page.inside.right ≡ page.right = ap (λ (p : PlainPage). p.right) c.page.view_is in
    rw (fan, count, right) come

pub returns-clause-pages : goal.returns-clause-pages
returns-clause-pages c = λ level floor cells are.
    let words = slots_items c.args.closed.now.words in
    let page = c.page_at-page.result in
    let leaves = c.requires.leaves in
    let own = found_page c.args.counts.now words c.args.fan c.requires.fan.1 0 None (Some c.args.leftmost) 0 1 c.args.leftmost leaves.0 page refl leaves.1 c.page_at-page.ensures in
    let next = found_page c.args.counts.now words c.args.fan c.requires.fan.1 level floor (Some c.args.leftmost) 0 1 c.args.leftmost cells page refl are c.page_at-page.ensures in
    let rest = rest_of_leaves c.args.counts.now words c.args.fan level floor c.args.leftmost page cells own.same_level next in
    let fan : c.args.fan ≡ c.write.new.self.fan = sym (c.write.ensures.written.same_fan ∙ ap (λ (s : PlainStore). s.fan) c.in-Ok.ensures.store) in
    let count : 1 ≡ length c.write.new.self.pages = sym (c.write.ensures.count ∙ ap (λ (s : PlainStore). length s.pages) c.in-Ok.ensures.store) in
    let right : page.right ≡ c.page.inside.right = ap (λ (p : PlainPage). p.right) (sym c.page.view_is) in
    let to_come : AreToCome c.args.counts.now words c.write.new.self.fan level (Some page.high) c.page.inside.right (length c.write.new.self.pages) 1 next.rest
    = subst (λ (f : ℕ). AreToCome c.args.counts.now words f level (Some page.high) c.page.inside.right (length c.write.new.self.pages) 1 next.rest) fan
    (subst (λ (l : Option ℕ). AreToCome c.args.counts.now words c.args.fan level (Some page.high) l (length c.write.new.self.pages) 1 next.rest) right
    (subst (λ (n : ℕ). AreToCome c.args.counts.now words c.args.fan level (Some page.high) page.right n 1 next.rest) count rest)) in
    let inside : 0 < length c.in-Ok.store.pages = omega (arith, count, c.write.ensures.count) in
    let written : c.write.new.self.pages ≡ page_anew 2 1 page ∷ []
    = pages-write c.in-Ok.store c.write.new.self c.renumbered.result 0 inside c.write.ensures.written
    ∙ ap (λ (s : PlainStore). set s.pages 0 c.renumbered.result) c.in-Ok.ensures.store
    ∙ ap (λ (p : PlainPage). p ∷ []) c.renumbered.ensures in
    all_leaves c.args.counts.now words c.args.fan level floor c.args.leftmost page cells c.write.new.self.pages c.add_pages.new.store.pages own.same_level next written
    (c.in_ok-add_pages.ensures.pages level (Some page.high) next.rest to_come)
