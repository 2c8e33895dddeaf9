-- The origin of the turns before the finish: a schedule, or a seed.
use Rattle.std.specs.Prelude.{◌≡◌, ℕ, ◌<◌, List, ◌++◌, All, ⊤}
use Rattle.blink_steps.specs.{PlainWorld}
use Rattle.blink_show.specs.Turns.{ShowsDrawn, ShowsSchedule}
use Rattle.blink_show.specs.declared.turns.Turns.{Turns}
use Rattle.blink_show.specs.declared.turns.Turns.TheVariants.{Schedule, Seed}

-- such turns lead from one world to another, and this is the text of their frames
abbrev pub ShowsAsked : Turns → PlainWorld → PlainWorld → List ℕ → Type 0
ShowsAsked (Schedule schedule) start world text = ShowsSchedule start schedule.now world text
ShowsAsked (Seed seed) start world text = ShowsDrawn seed start world text

-- that text stands after the text before it
abbrev pub AddsAsked : Turns → PlainWorld → PlainWorld → List ℕ → List ℕ → Type 0
AddsAsked turns start world old new = (text : List ℕ) × ShowsAsked turns start world text × (new ≡ old ++ text)

-- each number of a schedule is a worker's
abbrev pub AreOfWorkers : ℕ → Turns → Type 0
AreOfWorkers workers (Schedule schedule) = All (λ worker. worker < workers) schedule.now
AreOfWorkers workers (Seed seed) = ⊤
