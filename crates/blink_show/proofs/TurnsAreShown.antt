-- Turns with their frames, one after another.
use Rattle.std.proofs.Common.{◌≡◌, ℕ, List, [], ◌∷◌, ◌++◌, refl, ap, sym, ◌∙◌, append_assoc, append-nil}
use Rattle.blink_machine.specs.declared.Step.{Step}
use Rattle.blink_steps.specs.{PlainRun, PlainWorld, TakesStep}
use Rattle.blink_show.specs.Frames.{frame}
use Rattle.blink_show.specs.Turns.{Shows, no_turn, one_turn}

-- a word and then more are added behind what was there
pub behind : (old prefix word more new : List ℕ) → prefix ≡ old ++ word → new ≡ prefix ++ more → new ≡ old ++ (word ++ more)
behind old prefix word more new to_prefix to_new = to_new ∙ ap (λ (text : List ℕ). text ++ more) to_prefix ∙ append_assoc old word more

module _ (word : List ℕ) (may : List ℕ → PlainRun → ℕ → Type 0) where
  -- the text of turns so far is added behind what was there
  abbrev pub AddsTurns : PlainWorld → List ℕ → PlainWorld → List ℕ → List ℕ → Type 0
  AddsTurns start schedule world old new = (text : List ℕ) × Shows word may start schedule world text × (new ≡ old ++ text)

  pub none_yet : (world : PlainWorld) (old : List ℕ) → AddsTurns world [] world old old
  none_yet world old = ([], no_turn, sym (append-nil old))

  -- one turn more is one frame more
  pub one_more : (start before after : PlainWorld) (schedule old so_far new : List ℕ) (worker : ℕ) (step : Step) → AddsTurns start schedule before old so_far → may schedule before.run worker → TakesStep before worker step after
      → new ≡ so_far ++ frame word before.run worker step after.run → AddsTurns start (schedule ++ worker ∷ []) after old new
  one_more start before after schedule old so_far new worker step adds allowed takes added =
      let line = frame word before.run worker step after.run in (
        adds.0 ++ line,
        one_turn schedule adds.0 (schedule ++ worker ∷ []) (adds.0 ++ line) worker step before after adds.1 allowed takes refl refl,
        added ∙ ap (λ (text : List ℕ). text ++ line) adds.2 ∙ append_assoc old adds.0 line,
      )
