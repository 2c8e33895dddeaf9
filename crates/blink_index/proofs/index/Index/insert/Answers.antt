use Rattle.std.proofs.Common.{◌≡◌, ◌*◌, ◌≤◌, ◌∙◌, length, ap, sym, subst, arith}
use Rattle.blink_page.specs.declared.limits.TheConstants.{MAX_FAN, MAX_PAGE}
use Rattle.blink_rest.specs.{IsMapOf}
use Rattle.blink_store.specs.{IsLawfulStore, PlainStore}
use Rattle.blink_entries.specs.Index.{map_of}
use Rattle.blink_entries.proofs.Offered.{counted}
use Rattle.blink_index.proofs.CountsOfMaps.{insertion_counts}
use Rattle.blink_index.proofs.index.Index.insert.Goals.{After-put}
use Rattle.blink_index.proofs.index.Index.insert.Goals as goal

-- there are few entries, since there are few pages
few : (c : After-put) → c.self.inside.count ≤ MAX_PAGE * MAX_FAN
few c =
    let store = c.rest.result.now in
    let tree = c.rest.ensures.tree in
    let map : IsMapOf store (map_of store) = subst (λ (s : PlainStore). IsMapOf s (map_of s)) (sym tree) c.rest.ensures.map in
    let count = c.pages.ensures.count in
    let range = c.pages.ensures.in_range.1 in
    let lawful : IsLawfulStore store = subst IsLawfulStore c.store.ensures.store c.pages.ensures.lawful in
    let pages : length c.store.result.now.pages ≡ length store.pages = ap (λ (s : PlainStore). length s.pages) c.store.ensures.store in
    let numbers : length store.pages ≤ MAX_PAGE = omega (arith, count, range, pages) in
    let most : length (map_of store) ≤ MAX_PAGE * MAX_FAN = counted store (map_of store) c.store.ensures.at_rest map numbers lawful.fan_in_range.1 in
    let own : c.self.inside.count ≡ length (map_of store) = c.self.invariant ∙ ap (λ (s : PlainStore). length (map_of s)) (c.self.view_is ∙ sym tree) in
    omega (arith, most, own)

pub overflow_add-self : goal.overflow_add-self
overflow_add-self c = let most = few (goal.at.overflow_add-self c).After-put in omega (arith, most)

pub invariant_of-self : goal.invariant_of-self
invariant_of-self c = let more = insertion_counts c.self.inside.rest c.put.new.rest c.args.key c.args.pointer c.in-Done.ensures.added in omega (arith, more, c.self.invariant)

pub overflow_add-self-in-Ok : goal.overflow_add-self-in-Ok
overflow_add-self-in-Ok c = let most = few (goal.at.overflow_add-self-in-Ok c).After-put in omega (arith, most)

-- a leaf that is full is as it was before the split
pub invariant_of-self-in-Ok : goal.invariant_of-self-in-Ok
invariant_of-self-in-Ok c =
    let more = insertion_counts c.put.new.rest c.split.new.rest c.args.key c.args.pointer c.in-Ok.ensures.added in
    let before = ap (λ (s : PlainStore). length (map_of s)) c.in-Full.ensures.unchanged in
    omega (arith, more, before, c.self.invariant)
