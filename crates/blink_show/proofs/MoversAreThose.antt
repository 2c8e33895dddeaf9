-- What is so of the workers that would move.
use Rattle.std.proofs.Common.{◌≡◌, ℕ, zero, suc, ◌+◌, ◌<◌, List, [], ◌∷◌, ◌++◌, length, inl, inr, refl, sym, ap, subst, All, arith}
use Rattle.std.proofs.lemmas.Bool.{cases_lt}
use Rattle.std.proofs.lemmas.List.{length_push}
use Rattle.std.proofs.lemmas.List.Elements.{All-push}
use Rattle.blink_steps.specs.{WouldMove, PlainRun}
use Rattle.blink_show.specs.Draw.{AddsMover, AreMovers}

module _ (run : PlainRun) where
  -- a worker below the number, who would move
  abbrev pub IsMoverBelow : ℕ → ℕ → Type 0
  IsMoverBelow most worker = (worker < most) × WouldMove run worker

  wider : (most : ℕ) (movers : List ℕ) → All (IsMoverBelow most) movers → All (IsMoverBelow (suc most)) movers
  wider most movers all = λ k d within. let its = all k d within in (omega (arith, its.0), its.1)

  -- each of those before a worker would move, and the worker, where it is added
  each_of_more : (worker : ℕ) (before movers : List ℕ) → All (IsMoverBelow (suc worker)) before → AddsMover run worker before movers → All (IsMoverBelow (suc worker)) movers
  each_of_more worker before movers all (AddsMover.moves moves is) = subst (All (IsMoverBelow (suc worker))) (sym is) (All-push (IsMoverBelow (suc worker)) before worker all (omega arith, moves))
  each_of_more worker before movers all (AddsMover.stays stays is) = subst (All (IsMoverBelow (suc worker))) (sym is) all

  -- each of them would move
  pub each_moves : (most : ℕ) (movers : List ℕ) → AreMovers run most movers → All (IsMoverBelow most) movers
  each_moves zero movers none = subst (All (IsMoverBelow zero)) (sym none) (λ k d within. absurd (omega arith))
  each_moves (suc worker) movers are = each_of_more worker are.0 movers (wider worker are.0 (each_moves worker are.0 are.1)) are.2

  -- where there are none, nobody would move
  none_of_more : (last worker : ℕ) (before movers : List ℕ) → length movers ≡ 0 → worker < suc last → (length before ≡ 0 → worker < last → ¬ WouldMove run worker)
      → AddsMover run last before movers → ¬ WouldMove run worker
  none_of_more last worker before movers none below earlier (AddsMover.moves moves is) = absurd (omega (arith, ap (length {A = ℕ}) is, length_push before last))
  none_of_more last worker before movers none below earlier (AddsMover.stays stays is) = elim (cases_lt worker last) [
    | inl lower ↦ earlier (omega (arith, ap (length {A = ℕ}) is)) lower
    | inr past ↦ let here : last ≡ worker = omega arith in subst (λ (n : ℕ). ¬ WouldMove run n) here stays
  ]

  pub nobody_moves : (most : ℕ) (movers : List ℕ) → AreMovers run most movers → length movers ≡ 0 → (worker : ℕ) → worker < most → ¬ WouldMove run worker
  nobody_moves zero movers are none worker below = absurd (omega arith)
  nobody_moves (suc last) movers are none worker below =
      none_of_more last worker are.0 movers none below (λ none_before lower. nobody_moves last are.0 are.1 none_before worker lower) are.2

  one_further : (worker : ℕ) (movers : List ℕ) → AreMovers run (suc worker) movers → AreMovers run (worker + 1) movers
  one_further worker movers are = let same : suc worker ≡ worker + 1 = omega arith in subst (λ (n : ℕ). AreMovers run n movers) same are

  -- one more worker is looked at
  pub mover_more : (worker : ℕ) (before movers : List ℕ) → AreMovers run worker before → WouldMove run worker → movers ≡ before ++ worker ∷ [] → AreMovers run (worker + 1) movers
  mover_more worker before movers are moves is = one_further worker movers (before, are, AddsMover.moves moves is)

  pub stayer_more : (worker : ℕ) (before : List ℕ) → AreMovers run worker before → ¬ WouldMove run worker → AreMovers run (worker + 1) before
  stayer_more worker before are stays = one_further worker before (before, are, AddsMover.stays stays refl)
