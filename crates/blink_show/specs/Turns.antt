-- Turns one after another, with a frame for each.
use Rattle.std.specs.Prelude.{◌≡◌, ℕ, List, [], ◌∷◌, ◌++◌, codes, ⊤}
use Rattle.blink_machine.specs.declared.Step.{Step}
use Rattle.blink_steps.specs.{IsFirstMover, PlainRun, PlainWorld, HasEnded, TakesStep}
use Rattle.blink_show.specs.Draw.{IsDrawn}
use Rattle.blink_show.specs.Frames.{frame}

-- turns of these workers, each of which may have its turn after those before it, lead from one world to another, and this is the
-- text of their frames
pub data Shows (word : List ℕ) (may : List ℕ → PlainRun → ℕ → Type 0) (start : PlainWorld) : List ℕ → PlainWorld → List ℕ → Type 0 where
  no_turn : Shows word may start [] start []
  one_turn : (schedule text longer more : List ℕ) (worker : ℕ) (step : Step) (before after : PlainWorld) → Shows word may start schedule before text → may schedule before.run worker
      → TakesStep before worker step after → longer ≡ schedule ++ worker ∷ [] → more ≡ text ++ frame word before.run worker step after.run → Shows word may start longer after more

-- the turns of a schedule
abbrev pub ShowsSchedule : PlainWorld → List ℕ → PlainWorld → List ℕ → Type 0
ShowsSchedule = Shows (codes "turn ") (λ turns run worker. ⊤)

-- turns, each of the first worker that would move then
abbrev pub ShowsFinish : PlainWorld → PlainWorld → List ℕ → Type 0
ShowsFinish start finished text = (workers : List ℕ) × Shows (codes "finish ") (λ turns. IsFirstMover) start workers finished text

-- turns of workers that this seed draws, one after another, until all operations have ended
abbrev pub ShowsDrawn : ℕ → PlainWorld → PlainWorld → List ℕ → Type 0
ShowsDrawn seed start ended text = (schedule : List ℕ) × Shows (codes "turn ") (IsDrawn seed) start schedule ended text × HasEnded ended.run

-- the text of these frames stands after the text before it
abbrev pub AddsSchedule : PlainWorld → List ℕ → PlainWorld → List ℕ → List ℕ → Type 0
AddsSchedule start schedule world old new = (text : List ℕ) × ShowsSchedule start schedule world text × (new ≡ old ++ text)

abbrev pub AddsFinish : PlainWorld → PlainWorld → List ℕ → List ℕ → Type 0
AddsFinish start finished old new = (text : List ℕ) × ShowsFinish start finished text × (new ≡ old ++ text)

abbrev pub AddsDrawn : ℕ → PlainWorld → PlainWorld → List ℕ → List ℕ → Type 0
AddsDrawn seed start ended old new = (text : List ℕ) × ShowsDrawn seed start ended text × (new ≡ old ++ text)
