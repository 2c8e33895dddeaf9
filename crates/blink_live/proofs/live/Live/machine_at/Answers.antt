use Rattle.std.proofs.Common.{◌≡◌, ℕ, ◌+◌, ◌-◌, ◌<◌, ◌≤◌, List, [], length, take, None, sym, ap, ◌∙◌, subst, arith}
use Rattle.blink_page.specs.declared.search.Way.TheVariants.{Down, Here}
use Rattle.blink_machine.specs.{PlainMachine, SeesOnItsWay, SeesTop, TellsWay, need_at}
use Rattle.blink_live.specs.Straight.{page_at}
use Rattle.blink_live.proofs.found.DescentsOfChanges.{at_its_leaf, descending}
use Rattle.blink_live.proofs.changed.MachinesAreMade as made
use Rattle.blink_live.proofs.live.Live.machine_at.Goals as goal

pub loop-place-init : goal.loop-place-init
loop-place-init c =
    let fan : ℕ = c.args.self.now.fan in
    let levels : ℕ = c.len-levels.result in
    let after : PlainMachine = c.saw_top.new.self in
    let sees = subst (λ (m : PlainMachine). SeesTop m levels c.page_at.result after) c.new-machine.ensures c.saw_top.ensures in
    let all : levels ≡ levels - 0 = omega arith in
    made.begins_at_top fan c.args.op levels c.page_at.result after sees ∙ (λ i. descending fan c.args.op [] (c.page_at.ensures i) (all i))

pub saw_way-requires-clause-on_its_way : goal.saw_way-requires-clause-on_its_way
saw_way-requires-clause-on_its_way c = (page_at c.args.descent.now c.loop-place.place, c.len-levels.result - c.loop-place.place, ap (λ (m : PlainMachine). m.state) c.loop-place.invariant)

pub saw_way-requires-clause-read : goal.saw_way-requires-clause-read
saw_way-requires-clause-read c =
    let level : ℕ = c.len-levels.result - c.loop-place.place in
    let child : ℕ = c.page_at-in-loop-place.result in
    let inner : 0 < level = omega (arith, c.loop-place-test.true) in (
      made.page_above level child,
      subst (λ (m : PlainMachine). TellsWay m (made.page_above level child) (Down child) None) (sym c.loop-place.invariant)
          (made.tells_down c.args.self.now.fan c.args.op (take c.loop-place.place c.args.descent.now.above.items) (page_at c.args.descent.now c.loop-place.place) level c.requires.fits child inner c.requires.updates),
    )

pub loop-place-preserved : goal.loop-place-preserved
loop-place-preserved c =
    let fan : ℕ = c.args.self.now.fan in
    let place : ℕ = c.loop-place.place in
    let level : ℕ = c.len-levels.result - place in
    let number : ℕ = page_at c.args.descent.now place in
    let above : List ℕ = take place c.args.descent.now.above.items in
    let child : ℕ = c.page_at-in-loop-place.result in
    let after : PlainMachine = c.saw_way.new.self in
    let is = c.loop-place.invariant in
    let inner : 0 < level = omega (arith, c.loop-place-test.true) in
    let inside : place < length c.args.descent.now.above.items = let value = c.len-levels.ensures.value in omega (arith, value, c.loop-place-test.true) in
    let tells = subst (λ (m : PlainMachine). TellsWay m (made.page_above level child) (Down child) None) (sym is) (made.tells_down fan c.args.op above number level c.requires.fits child inner c.requires.updates) in
    let sees : SeesOnItsWay (descending fan c.args.op above number level) number (made.page_above level child) after =
    subst (λ (m : PlainMachine). SeesOnItsWay m number (made.page_above level child) after) is (c.saw_way.ensures number (made.page_above level child) (ap (λ (m : PlainMachine). need_at m.state) is) tells) in
    let lower : level - 1 ≡ c.len-levels.result - (place + 1) = omega arith in
    made.goes_down_to fan c.args.op above number level c.requires.fits child inner after sees
    ∙ (λ i. descending fan c.args.op (made.more_above c.args.descent.now place inside i) (c.page_at-in-loop-place.ensures i) (lower i))

pub saw_way-requires-2-clause-read : goal.saw_way-requires-2-clause-read
saw_way-requires-2-clause-read c =
    let place : ℕ = c.loop-place.place in
    let fan : ℕ = c.args.self.now.fan in
    let above : List ℕ = take place c.args.descent.now.above.items in
    let low : c.len-levels.result - place ≡ 0 = omega (arith, c.loop-place-test.false) in
    let is = c.loop-place.invariant ∙ ap (descending fan c.args.op above (page_at c.args.descent.now place)) low in
    (made.leaf_page, subst (λ (m : PlainMachine). TellsWay m made.leaf_page Here None) (sym is) (made.tells_here fan c.args.op above (page_at c.args.descent.now place) c.requires.fits c.requires.updates))

pub returns : goal.returns
returns c =
    let place : ℕ = c.loop-place.place in
    let fan : ℕ = c.args.self.now.fan in
    let above : List ℕ = take place c.args.descent.now.above.items in
    let number : ℕ = page_at c.args.descent.now place in
    let after : PlainMachine = c.saw_way-2.new.self in
    let low : c.len-levels.result - place ≡ 0 = omega (arith, c.loop-place-test.false) in
    let past : length c.args.descent.now.above.items ≤ place = let value = c.len-levels.ensures.value in omega (arith, value, c.loop-place-test.false) in
    let is = c.loop-place.invariant ∙ ap (descending fan c.args.op above number) low in
    let tells = subst (λ (m : PlainMachine). TellsWay m made.leaf_page Here None) (sym is) (made.tells_here fan c.args.op above number c.requires.fits c.requires.updates) in
    let sees : SeesOnItsWay (descending fan c.args.op above number 0) number made.leaf_page after =
    subst (λ (m : PlainMachine). SeesOnItsWay m number made.leaf_page after) is (c.saw_way-2.ensures number made.leaf_page (ap (λ (m : PlainMachine). need_at m.state) is) tells) in
    made.goes_here fan c.args.op above number c.requires.fits c.requires.updates after sees
    ∙ (λ i. at_its_leaf fan c.args.op (made.all_above c.args.descent.now place past i) (made.leaf_last c.args.descent.now place past i))
