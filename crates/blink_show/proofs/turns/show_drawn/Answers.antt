use Rattle.std.proofs.Common.{◌≡◌, ◌∙◌, ◌++◌, ℕ, List, [], ◌∷◌, suc, refl, ap, subst, codes, length, string_bytes, arith}
use Rattle.std.proofs.lemmas.List.{length_push}
use Rattle.rand_xoshiro.specs.SplitMix64.{next_state}
use Rattle.blink_steps.proofs.Offered.{nearer}
use Rattle.blink_show.specs.Draw.{DrawsAt, IsDrawn, state_after}
use Rattle.blink_show.proofs.TurnsAreShown.{none_yet, one_more}
use Rattle.blink_show.proofs.turns.show_drawn.Goals as goal

pub loop-worker-init : goal.loop-worker-init
loop-worker-init c = record {
  kept = c.requires.kept;
  same_assignment = refl;
  schedule = [];
  shown = none_yet (codes "turn ") (IsDrawn c.args.seed) c.args.world.now (string_bytes c.args.film.now.text);
  words = c.seed_from_u64-chance.ensures.same;
}

-- one word more is drawn
word_more : (seed word next : ℕ) (schedule : List ℕ) (worker : ℕ) → word ≡ state_after seed (length schedule) → next ≡ next_state word → next ≡ state_after seed (length (schedule ++ worker ∷ []))
word_more seed word next schedule worker is moved =
    let longer : suc (length schedule) ≡ length (schedule ++ worker ∷ []) = omega (arith, length_push schedule worker) in
    moved ∙ ap next_state is ∙ ap (state_after seed) longer

-- one turn more is shown
pub loop-worker-preserved : goal.loop-worker-preserved
loop-worker-preserved c =
    let so_far = c.loop-worker.invariant in
    let drawn = subst (λ (state : ℕ). DrawsAt state c.loop-worker.world.run c.in-Some.worker) so_far.words (rw c.in-Some.is at c.in_ok-worker.ensures.drawn) in
    record {
      kept = c.in_ok-turn.ensures.kept;
      same_assignment = c.step.ensures.same_batch.same_assignment ∙ so_far.same_assignment;
      schedule = so_far.schedule ++ c.in-Some.worker ∷ [];
      shown = one_more (codes "turn ") (IsDrawn c.args.seed) c.args.world.now c.loop-worker.world c.step.new.self so_far.schedule (string_bytes c.args.film.now.text) (string_bytes c.loop-worker.film.text) (string_bytes c.turn.new.self.text) c.in-Some.worker c.in_ok-step.step
          so_far.shown drawn c.in_ok-step.ensures.step (c.in_ok-turn.ensures.text c.loop-worker.world.run so_far.kept);
      words = word_more c.args.seed c.loop-worker.chance c.draw.new.chance so_far.schedule c.in-Some.worker so_far.words (rw c.in-Some.is at c.in_ok-worker.ensures.next);
    }

-- and fewer steps are left
pub loop-worker-smaller : goal.loop-worker-smaller
loop-worker-smaller c =
    let is = c.in_ok-worker.ensures.lawful in
    nearer is.0 c.loop-worker.world c.step.new.self c.in-Some.worker c.in_ok-step.step is.1 c.in_ok-step.ensures.step (rw c.in-Some.is at c.in_ok-worker.ensures.moves)
