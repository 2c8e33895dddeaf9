use Rattle.std.proofs.Common.{◌<◌, ◌≤◌, ℕ, List, length, get_or, ap, sym, subst, ◌∙◌, arith}
use Rattle.std.proofs.lemmas.Option.{get_or_from_slice_get}
use Rattle.blink_machine.specs.{is_page_read}
use Rattle.blink_steps.specs.World.{PlainWorld, IsWorld}
use Rattle.blink_steps.proofs.bounds.CountedTurns.{moves_of-few}
use Rattle.blink_steps.proofs.worlds.WorldPromises.{counted, promises, shaped, short}
use Rattle.blink_steps.proofs.world.World.reads_of.Goals as goal

pub bounds-reads-op : goal.bounds-reads-op
bounds-reads-op c =
    let lists = shaped (record { run = c.self.inside.run; schedule = c.self.inside.schedule.items }) c.self.invariant in
    let within = subst (λ (world : PlainWorld). c.args.op < length world.run.ops) (sym c.self.view_is) c.requires in
    omega (arith, lists.a_read_count_each, ap (λ (xs : List ℕ). length xs) c.reads.ensures)

pub returns-clause-count : goal.returns-clause-count
returns-clause-count c start is_world =
    ap (λ (xs : List ℕ). get_or xs c.args.op 0) (c.reads.ensures ∙ ap (λ (world : PlainWorld). world.run.outcome.reads) c.self.view_is)
    ∙ get_or_from_slice_get c.args.self.now.run.outcome.reads c.args.op _ 0 ((counted start c.args.self.now is_world).reads c.args.op c.requires)

pub returns-clause-promised : goal.returns-clause-promised
returns-clause-promised c start is_world = promises start _ is_world

-- a find reads no page twice, and has no latch
pub returns-clause-of_find : goal.returns-clause-of_find
returns-clause-of_find c key find =
    let is = subst IsWorld c.self.view_is c.self.invariant in
    subst (λ count. count ≤ length c.args.self.now.run.shared.store.pages) (sym (returns-clause-count c is.0 is.1))
    ((short is.0 c.args.self.now is.1).reads_of_find c.args.op key find)

-- each read is a step
pub returns-clause-at_most : goal.returns-clause-at_most
returns-clause-at_most c =
    let is = subst IsWorld c.self.view_is c.self.invariant in
    let moves = (short is.0 c.args.self.now is.1).moves c.args.op in
    let few = moves_of-few is_page_read is.1.history c.args.op in
    let count = returns-clause-count c is.0 is.1 in
    omega (arith, moves, few, count)
