use Rattle.std.proofs.Common.{◌≡◌, ◌+◌, ◌-◌, ◌<◌, ◌≤◌, ◌++◌, ℕ, Some, List, [], ◌∷◌, suc, length, drop, get_or, ap, sym, subst, ◌∙◌, arith, length-append}
use Rattle.std.specs.Mem.Slots.{slots_items}
use Rattle.blink_page.specs.declared.limits.TheConstants.{MAX_PAGE}
use Rattle.blink_rest.specs.{AreLevels}
use Rattle.blink_rows.specs.{AreBounded}
use Rattle.blink_store.specs.{PlainStore}
use Rattle.blink_live.specs.Gathered.{HasTheEntries, IsNumberedInOrder}
use Rattle.blink_live.specs.ToCome.{AddsPages, HasLeavesToCome, HasPagesToCome}
use Rattle.blink_live.proofs.gathered.StoreIsTheTree.{first_of_prime, next_of_prime, is_the_tree}
use Rattle.blink_live.proofs.gathered.LevelsAreAdded.{LevelsLeft, leaves_to_come, leaves_added, level_to_come, level_added}
use Rattle.blink_live.proofs.gathered.PagesAreAdded.{room_for_one}
use Rattle.blink_live.proofs.close.gather.Goals as goal

pub store_of_leaves-requires-clause-leaves : goal.store_of_leaves-requires-clause-leaves
store_of_leaves-requires-clause-leaves c =
    let counts = c.args.counts.now in let words = slots_items c.args.closed.now.words in let prime = c.args.prime.now in let fan = c.args.fan in
    let bounded : counts.numbers ≤ MAX_PAGE + 1 = (subst AreBounded c.counts.view_is c.counts.invariant).numbers_bounded in
    let read : c.deref.result.now ≡ prime = c.deref.ensures.0 ∙ c.prime.view_is in
    let some : 0 < length prime = omega (arith, c.prime.invariant.0, ap length c.prime.view_is) in
    let rest = c.requires.rest in
    let are = subst (λ (ns : List ℕ). AreLevels fan ns rest.pages rest.at_rest.0) (first_of_prime prime some) rest.at_rest.1 in
    subst (λ (ns : List ℕ). HasLeavesToCome counts words fan (get_or ns 0 0)) (sym read)
    (leaves_to_come counts words fan rest.pages rest.kept (get_or prime 0 0) (drop 1 prime) rest.at_rest.0 bounded are)

pub loop-level-init : goal.loop-level-init
loop-level-init c =
    let counts = c.args.counts.now in let words = slots_items c.args.closed.now.words in let prime = c.args.prime.now in let fan = c.args.fan in
    let bounded : counts.numbers ≤ MAX_PAGE + 1 = (subst AreBounded c.counts.view_is c.counts.invariant).numbers_bounded in
    let read : c.deref.result.now ≡ prime = c.deref.ensures.0 ∙ c.prime.view_is in
    let some : 0 < length prime = omega (arith, c.prime.invariant.0, ap length c.prime.view_is) in
    let stored = c.in_ok-store.store.pages in
    let adds = subst (λ (ns : List ℕ). AddsPages counts words fan (Some (get_or ns 0 0)) 1 [] stored) read c.in_ok-store.ensures.pages in
    record {
      same_fan = c.in_ok-store.ensures.fan;
      one_each = ap length c.new-firsts.ensures;
      left = λ pages levels kept are.
          let parts = subst (λ (ns : List ℕ). AreLevels fan ns pages levels) (first_of_prime prime some) are in
          subst (λ (firsts : List ℕ). LevelsLeft counts words fan pages (drop 1 prime) 1 1 stored firsts levels) (sym c.new-firsts.ensures)
          (leaves_added counts words fan pages kept (get_or prime 0 0) (drop 1 prime) levels stored bounded parts adds);
    }

-- the next level of the tree in the words
pub add_pages-requires-clause-pages : goal.add_pages-requires-clause-pages
add_pages-requires-clause-pages c =
    let counts = c.args.counts.now in let words = slots_items c.args.closed.now.words in let prime = c.args.prime.now in let fan = c.args.fan in
    let read : c.deref-in-loop-level.result.now ≡ prime = c.deref-in-loop-level.ensures.0 ∙ c.prime.view_is in
    let level = c.loop-level.level in
    let inside : level < length prime = omega (arith, c.loop-level-test.true, c.len-level-end.ensures.value, ap length c.prime.view_is) in
    let rest = c.requires.rest in
    let stored = c.loop-level.store.pages in
    let left = subst (λ (ns : List ℕ). LevelsLeft counts words fan rest.pages ns level c.loop-level.child stored c.loop-level.firsts rest.at_rest.0) (next_of_prime prime level inside)
    (c.loop-level.invariant.left rest.pages rest.at_rest.0 rest.kept rest.at_rest.1) in
    let come = level_to_come counts words fan rest.pages rest.kept (get_or prime level 0) (drop (suc level) prime) level c.loop-level.child stored c.loop-level.firsts rest.at_rest.0 left in
    subst (λ (f : ℕ). HasPagesToCome counts words f (Some (get_or c.deref-in-loop-level.result.now level 0)) (length stored) c.loop-level.child) (sym c.loop-level.invariant.same_fan)
    (subst (λ (ns : List ℕ). HasPagesToCome counts words fan (Some (get_or ns level 0)) (length stored) c.loop-level.child) (sym read) come)

pub grow-requires-clause-page_number : goal.grow-requires-clause-page_number
grow-requires-clause-page_number c =
    let counts = c.args.counts.now in let words = slots_items c.args.closed.now.words in let prime = c.args.prime.now in let fan = c.args.fan in
    let level = c.loop-level.level in
    let inside : level < length prime = omega (arith, c.loop-level-test.true, c.len-level-end.ensures.value, ap length c.prime.view_is) in
    let rest = c.requires.rest in
    let stored = c.loop-level.store.pages in
    let left = subst (λ (ns : List ℕ). LevelsLeft counts words fan rest.pages ns level c.loop-level.child stored c.loop-level.firsts rest.at_rest.0) (next_of_prime prime level inside)
    (c.loop-level.invariant.left rest.pages rest.at_rest.0 rest.kept rest.at_rest.1) in
    let come = level_to_come counts words fan rest.pages rest.kept (get_or prime level 0) (drop (suc level) prime) level c.loop-level.child stored c.loop-level.firsts rest.at_rest.0 left in
    let room : length stored < MAX_PAGE = room_for_one counts words fan come.level come.floor (length stored) c.loop-level.child (get_or prime level 0) come.cells come.are in
    (omega arith, omega (arith, room, c.pages-first.ensures.count))

-- a level fewer is left
pub loop-level-preserved : goal.loop-level-preserved
loop-level-preserved c =
    let counts = c.args.counts.now in let words = slots_items c.args.closed.now.words in let prime = c.args.prime.now in let fan = c.args.fan in
    let read : c.deref-in-loop-level.result.now ≡ prime = c.deref-in-loop-level.ensures.0 ∙ c.prime.view_is in
    let level = c.loop-level.level in let child = c.loop-level.child in let firsts = c.loop-level.firsts in
    let inside : level < length prime = omega (arith, c.loop-level-test.true, c.len-level-end.ensures.value, ap length c.prime.view_is) in
    let stored = c.loop-level.store.pages in let new = c.add_pages.new.store.pages in
    let adds = subst (λ (f : ℕ). AddsPages counts words f (Some (get_or prime level 0)) child stored new) c.loop-level.invariant.same_fan
    (subst (λ (ns : List ℕ). AddsPages counts words c.loop-level.store.fan (Some (get_or ns level 0)) child stored new) read c.in_ok-add_pages.ensures.pages) in
    let first : suc (length stored) ≡ c.pages-first.result + 1 = omega (arith, c.pages-first.ensures.count) in
    let grown : firsts ++ suc (length stored) ∷ [] ≡ c.grow.new.self = ap (λ (n : ℕ). firsts ++ n ∷ []) first ∙ sym c.grow.ensures in
    let next : suc level ≡ level + 1 = omega arith in
    record {
      same_fan = c.add_pages.ensures.fan ∙ c.loop-level.invariant.same_fan;
      one_each = omega (arith, ap length grown, c.loop-level.invariant.one_each, length-append firsts (suc (length stored) ∷ []));
      left = λ pages levels kept are.
          let left = subst (λ (ns : List ℕ). LevelsLeft counts words fan pages ns level child stored firsts levels) (next_of_prime prime level inside) (c.loop-level.invariant.left pages levels kept are) in
          let added = level_added counts words fan pages kept (get_or prime level 0) (drop (suc level) prime) level child stored new firsts levels left adds in
          subst (λ (l : ℕ). LevelsLeft counts words fan pages (drop l prime) (level + 1) (c.pages-first.result + 1) new c.grow.new.self levels) next
          (subst (λ (n : ℕ). LevelsLeft counts words fan pages (drop (suc level) prime) (level + 1) n new c.grow.new.self levels) first
          (subst (λ (ns : List ℕ). LevelsLeft counts words fan pages (drop (suc level) prime) (level + 1) (suc (length stored)) new ns levels) grown added));
    }

pub of-requires : goal.of-requires
of-requires c =
    let prime = c.args.prime.now in
    let past : length prime ≤ c.loop-level.level = omega (arith, c.loop-level-test.false, c.len-level-end.ensures.value, ap length c.prime.view_is) in
    (is_the_tree c.args.counts.now (slots_items c.args.closed.now.words) c.args.fan prime c.loop-level.firsts c.loop-level.level c.loop-level.child c.loop-level.store c.set_prime.new.self
    (subst AreBounded c.counts.view_is c.counts.invariant) c.requires.rest past c.loop-level.invariant.same_fan c.set_prime.ensures.prime c.loop-level.invariant.left).at_rest

pub returns-clause-entries : goal.returns-clause-entries
returns-clause-entries c =
    let counts = c.args.counts.now in let words = slots_items c.args.closed.now.words in let prime = c.args.prime.now in
    let past : length prime ≤ c.loop-level.level = omega (arith, c.loop-level-test.false, c.len-level-end.ensures.value, ap length c.prime.view_is) in
    subst (HasTheEntries counts words c.args.fan prime) (sym c.of.ensures)
    (is_the_tree counts words c.args.fan prime c.loop-level.firsts c.loop-level.level c.loop-level.child c.loop-level.store c.set_prime.new.self
    (subst AreBounded c.counts.view_is c.counts.invariant) c.requires.rest past c.loop-level.invariant.same_fan c.set_prime.ensures.prime c.loop-level.invariant.left).entries

pub returns-clause-numbered : goal.returns-clause-numbered
returns-clause-numbered c =
    let prime = c.args.prime.now in
    let past : length prime ≤ c.loop-level.level = omega (arith, c.loop-level-test.false, c.len-level-end.ensures.value, ap length c.prime.view_is) in
    subst IsNumberedInOrder (sym c.of.ensures)
    (is_the_tree c.args.counts.now (slots_items c.args.closed.now.words) c.args.fan prime c.loop-level.firsts c.loop-level.level c.loop-level.child c.loop-level.store c.set_prime.new.self
    (subst AreBounded c.counts.view_is c.counts.invariant) c.requires.rest past c.loop-level.invariant.same_fan c.set_prime.ensures.prime c.loop-level.invariant.left).in_order

pub returns-clause-few : goal.returns-clause-few
returns-clause-few c =
    let prime = c.args.prime.now in
    let past : length prime ≤ c.loop-level.level = omega (arith, c.loop-level-test.false, c.len-level-end.ensures.value, ap length c.prime.view_is) in
    subst (λ (store : PlainStore). length store.pages ≤ c.args.counts.now.numbers - 1) (sym c.of.ensures)
    (is_the_tree c.args.counts.now (slots_items c.args.closed.now.words) c.args.fan prime c.loop-level.firsts c.loop-level.level c.loop-level.child c.loop-level.store c.set_prime.new.self
    (subst AreBounded c.counts.view_is c.counts.invariant) c.requires.rest past c.loop-level.invariant.same_fan c.set_prime.ensures.prime c.loop-level.invariant.left).few
