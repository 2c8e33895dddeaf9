use Rattle.std.proofs.Common.{◌≢◌, ℕ, false, refl, sym, subst, ◌∙◌, arith}
use Rattle.std.specs.Bool.{IsTrue}
use Rattle.blink_machine.specs.declared.machine.State.TheVariants.{Ended}
use Rattle.blink_machine.specs.{PlainMachine, need_at}
use Rattle.blink_index.specs.Drive.{ActsOn, CanActOn}
use Rattle.blink_entries.specs.Index.{store_of}
use Rattle.blink_index.proofs.alone.UnderWay.{can_begin, can_go_on, edited_at_end, fewer_left, own_fan, room_left, under_way_at_first, under_way_still}
use Rattle.blink_index.proofs.drive.run.Goals as goal

not_true : IsTrue false → ⊥
not_true is = cc

pub act-requires-clause-can : goal.act-requires-clause-can
act-requires-clause-can c =
    let start = store_of c.args.fan c.args.prime.now c.args.pages.now.items in
    let can = can_begin start c.args.op c.requires.lawful c.requires.at_rest c.requires.words c.requires.numbers in
    subst (λ (m : PlainMachine). CanActOn (need_at m.state) (store_of m.fan c.args.prime.now c.args.pages.now.items) m) (sym c.new-machine.ensures) can

pub steps-init : goal.steps-init
steps-init c =
    let start = store_of c.args.fan c.args.prime.now c.args.pages.now.items in
    let acts = subst (λ (m : PlainMachine). ActsOn (need_at m.state) (store_of m.fan c.args.prime.now c.args.pages.now.items) m c.act.new.machine (store_of m.fan c.act.new.prime c.act.new.pages.items))
    c.new-machine.ensures c.act.ensures.acts in
    record {
      under_way = under_way_at_first start c.args.op c.requires.lawful c.requires.at_rest c.requires.words c.requires.numbers (store_of c.args.fan c.act.new.prime c.act.new.pages.items) c.act.new.machine acts;
      room = c.act.ensures.capacity;
    }

pub act-requires-in-steps-clause-can : goal.act-requires-in-steps-clause-can
act-requires-in-steps-clause-can c =
    let start = store_of c.args.fan c.args.prime.now c.args.pages.now.items in
    let store = store_of c.args.fan c.steps.prime c.steps.pages.items in
    let goes : c.steps.machine.state ≢ Ended = λ ends. not_true (c.steps-test.ensures.1 ends) in
    let at = c.steps.invariant.under_way in
    let fan = own_fan start c.args.op c.requires.lawful c.requires.at_rest c.requires.words c.requires.numbers store c.steps.machine at goes in
    subst (λ (n : ℕ). CanActOn (need_at c.steps.machine.state) (store_of n c.steps.prime c.steps.pages.items) c.steps.machine) (sym fan)
    (can_go_on start c.args.op c.requires.lawful c.requires.at_rest c.requires.words c.requires.numbers store c.steps.machine at goes)

pub act-requires-in-steps-clause-room : goal.act-requires-in-steps-clause-room
act-requires-in-steps-clause-room c = λ needs.
    let start = store_of c.args.fan c.args.prime.now c.args.pages.now.items in
    let store = store_of c.args.fan c.steps.prime c.steps.pages.items in
    let goes : c.steps.machine.state ≢ Ended = λ ends. not_true (c.steps-test.ensures.1 ends) in
    let left = room_left start c.args.op c.requires.lawful c.requires.at_rest c.requires.words c.requires.numbers store c.steps.machine c.steps.invariant.under_way goes needs in
    omega (arith, left, c.steps.invariant.room, c.requires.room)

-- the step, on the tree's own store
acted : (c : goal.After-act-in-steps) → ActsOn (need_at c.steps.machine.state) (store_of c.args.fan c.steps.prime c.steps.pages.items) c.steps.machine c.act-in-steps.new.machine
    (store_of c.args.fan c.act-in-steps.new.prime c.act-in-steps.new.pages.items)
acted c =
    let start = store_of c.args.fan c.args.prime.now c.args.pages.now.items in
    let store = store_of c.args.fan c.steps.prime c.steps.pages.items in
    let goes : c.steps.machine.state ≢ Ended = λ ends. not_true (c.steps-test.ensures.1 ends) in
    let fan = own_fan start c.args.op c.requires.lawful c.requires.at_rest c.requires.words c.requires.numbers store c.steps.machine c.steps.invariant.under_way goes in
    subst (λ (n : ℕ). ActsOn (need_at c.steps.machine.state) (store_of n c.steps.prime c.steps.pages.items) c.steps.machine c.act-in-steps.new.machine
    (store_of n c.act-in-steps.new.prime c.act-in-steps.new.pages.items)) fan c.act-in-steps.ensures.acts

pub steps-smaller : goal.steps-smaller
steps-smaller c =
    let start = store_of c.args.fan c.args.prime.now c.args.pages.now.items in
    let store = store_of c.args.fan c.steps.prime c.steps.pages.items in
    let goes : c.steps.machine.state ≢ Ended = λ ends. not_true (c.steps-test.ensures.1 ends) in
    fewer_left start c.args.op c.requires.lawful c.requires.at_rest c.requires.words c.requires.numbers store c.steps.machine c.steps.invariant.under_way goes
    (store_of c.args.fan c.act-in-steps.new.prime c.act-in-steps.new.pages.items) c.act-in-steps.new.machine (acted c)

pub steps-preserved : goal.steps-preserved
steps-preserved c =
    let start = store_of c.args.fan c.args.prime.now c.args.pages.now.items in
    let store = store_of c.args.fan c.steps.prime c.steps.pages.items in
    let goes : c.steps.machine.state ≢ Ended = λ ends. not_true (c.steps-test.ensures.1 ends) in
    record {
      under_way = under_way_still start c.args.op c.requires.lawful c.requires.at_rest c.requires.words c.requires.numbers store c.steps.machine c.steps.invariant.under_way goes
          (store_of c.args.fan c.act-in-steps.new.prime c.act-in-steps.new.pages.items) c.act-in-steps.new.machine (acted c);
      room = c.act-in-steps.ensures.capacity ∙ c.steps.invariant.room;
    }

pub returns-clause-edited : goal.returns-clause-edited
returns-clause-edited c =
    let start = store_of c.args.fan c.args.prime.now c.args.pages.now.items in
    edited_at_end start c.args.op c.requires.lawful c.requires.at_rest c.requires.words c.requires.numbers (store_of c.args.fan c.steps.prime c.steps.pages.items) c.steps.machine c.steps.invariant.under_way (c.steps-test.ensures.0 refl)
