use Rattle.std.proofs.Common.{◌∙◌, List, ℕ, refl, sym, subst, codes, get_or, string_bytes, arith}
use Rattle.std.specs.Bool.{⊤}
use Rattle.std.proofs.lemmas.List.{take_more}
use Rattle.blink_show.proofs.TurnsAreShown.{AddsTurns, none_yet, one_more}
use Rattle.blink_show.proofs.turns.show_schedule.Goals as goal

pub loop-worker-init : goal.loop-worker-init
loop-worker-init c = record {
  kept = c.requires.kept;
  same_assignment = refl;
  shown = none_yet (codes "turn ") (λ turns run worker. ⊤) c.args.world.now (string_bytes c.args.film.now.text);
}

-- one turn more is shown
pub loop-worker-preserved : goal.loop-worker-preserved
loop-worker-preserved c =
    let so_far = c.loop-worker.invariant in
    let worker = get_or c.args.schedule.now c.loop-worker.worker-index 0 in
    let more = one_more (codes "turn ") (λ turns run worker. ⊤) c.args.world.now c.loop-worker.world c.step.new.self _ (string_bytes c.args.film.now.text) (string_bytes c.loop-worker.film.text) (string_bytes c.turn.new.self.text) worker c.in_ok-step.step
    so_far.shown tt c.in_ok-step.ensures.step (c.in_ok-turn.ensures.text c.loop-worker.world.run so_far.kept) in
    record {
      kept = c.in_ok-turn.ensures.kept;
      same_assignment = c.step.ensures.same_batch.same_assignment ∙ so_far.same_assignment;
      shown = subst (λ (prefix : List ℕ). AddsTurns (codes "turn ") (λ turns run worker. ⊤) c.args.world.now prefix c.step.new.self (string_bytes c.args.film.now.text) (string_bytes c.turn.new.self.text))
          (sym (take_more c.args.schedule.now c.loop-worker.worker-index 0 (omega (arith, c.loop-worker-test.true)))) more;
    }
