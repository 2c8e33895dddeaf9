use Rattle.std.proofs.Common.{◌≡◌, ◌<◌, ◌%◌, ◌∙◌, ℕ, Some, length, ap, sym, subst, rules}
use Rattle.std.proofs.lemmas.Option.{slice_get-get_or}
use Rattle.std.specs.List.{slice_get}
use Rattle.rand_xoshiro.specs.SplitMix64.{mix_u64}
use Rattle.blink_steps.proofs.Offered as worlds
use Rattle.blink_steps.proofs.Offered.{invariant}
use Rattle.blink_show.proofs.MoversAreThose.{IsMoverBelow, each_moves, nobody_moves}
use Rattle.blink_show.proofs.draw.draw.Goals as goal

-- where no worker would move, all operations have ended
pub returns-then-is_empty-clause-drawn : goal.returns-then-is_empty-clause-drawn
returns-then-is_empty-clause-drawn c =
    let run = c.args.world.now.run in
    let its = invariant c.args.world.now c.schedule-lawful.ensures.of_its_schedule in
    let none : length c.in_ok-movers.movers.items ≡ 0 = search rules in
    worlds.nobody_moves run its.0 its.1 (nobody_moves run run.assignment.workers c.in_ok-movers.movers.items c.in_ok-movers.ensures none)

-- the place is one of theirs
within : (c : goal.After-drop-movers-2) → c.next_word.result % c.len.result < length c.in_ok-movers.movers.items
within c = search rules

-- the one at the place that the word leaves is drawn
pub returns-clause-drawn : goal.returns-clause-drawn
returns-clause-drawn c =
    let items = c.in_ok-movers.movers.items in
    let word : c.next_word.result ≡ (mix_u64 c.args.chance.now).0 = ap (λ (both : ℕ × ℕ). both.0) c.next_word.ensures in
    let len : c.len.result ≡ length items = search rules in
    let at : slice_get items (c.next_word.result % c.len.result) ≡ Some c.index.result.now =
    slice_get-get_or items (c.next_word.result % c.len.result) c.index.result.now (within c) ∙ ap Some (sym c.index.ensures) in
    record {
      movers = items;
      are_movers = c.in_ok-movers.ensures;
      at_place = rw (word, len) at at;
    }

-- and would move
its : (c : goal.After-drop-movers-2) → IsMoverBelow c.args.world.now.run c.args.world.now.run.assignment.workers c.index.result.now
its c =
    let run = c.args.world.now.run in
    let items = c.in_ok-movers.movers.items in
    subst (IsMoverBelow run run.assignment.workers) (sym c.index.ensures)
    (each_moves run run.assignment.workers items c.in_ok-movers.ensures (c.next_word.result % c.len.result) c.index.result.now (within c))

pub returns-clause-moves : goal.returns-clause-moves
returns-clause-moves c = (its c).1

pub returns-clause-a_worker : goal.returns-clause-a_worker
returns-clause-a_worker c = (its c).0
