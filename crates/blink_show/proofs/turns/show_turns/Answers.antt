use Rattle.std.proofs.Common.{List, ℕ, OnOk, subst, string_bytes}
use Rattle.blink_show.specs.Turns.{AddsDrawn, AddsSchedule}
use Rattle.blink_show.proofs.turns.show_turns.Goals as goal

-- the turns stand behind the first frame
pub returns-in-Schedule-clause-text : goal.returns-in-Schedule-clause-text
returns-in-Schedule-clause-text c =
    let shown = c.show_schedule.new in
    rw c.in-Schedule.is (subst (λ (before : List ℕ). OnOk c.show_schedule.result (AddsSchedule c.args.world.now c.in-Schedule.schedule.now shown.world before (string_bytes shown.film.text))) c.in_ok-first.ensures.text c.show_schedule.ensures.text)

pub returns-in-Seed-clause-text : goal.returns-in-Seed-clause-text
returns-in-Seed-clause-text c =
    let shown = c.show_drawn.new in
    rw c.in-Seed.is (subst (λ (before : List ℕ). OnOk c.show_drawn.result (AddsDrawn c.in-Seed.seed c.args.world.now shown.world before (string_bytes shown.film.text))) c.in_ok-first.ensures.text c.show_drawn.ensures.text)
