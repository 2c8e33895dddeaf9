-- A schedule is what the parts between the commas spell.
use Rattle.std.proofs.Common.{◌≡◌, ◌≢◌, ◌<◌, ◌∙◌, ℕ, List, [], ◌∷◌, Option, Some, None, Result, Ok, Err, length, map, sym, ap, arith, IfOk, MatchOption}
use Rattle.std.specs.Borrow.{Bor}
use Rattle.std.proofs.lemmas.Simd.{map-map}
use Rattle.blink_command.specs.Value.{IsSchedule, parts_of, worker_of}

-- what a part spells
abbrev pub worker_at : Bor (List ℕ) → Option ℕ
worker_at part = worker_of part.now

module _ {V E : Type 0} (items : V → List ℕ) where
  -- the parts of a text that isn't empty decide of its schedule
  pub from_parts : (text : List ℕ) (parts : List (Bor (List ℕ))) (result : Result (Option V) E) → 0 < length text → map (λ part. part.now) parts ≡ parts_of text
      → IfOk result (λ found. MatchOption found ((workers : List ℕ) → map worker_at parts ≢ map Some workers) (λ workers. map worker_at parts ≡ map Some (items workers)))
      → IfOk result (λ found. MatchOption found ((schedule : List ℕ) → ¬ IsSchedule text schedule) (λ schedule. IsSchedule text (items schedule)))
  from_parts [] parts result some cut spelled = absurd (omega arith)
  from_parts (byte ∷ rest) parts (Err error) some cut spelled = tt
  from_parts (byte ∷ rest) parts (Ok None) some cut spelled = λ schedule turns.
      spelled schedule (sym (map-map worker_of (λ (part : Bor (List ℕ)). part.now) parts) ∙ ap (map worker_of) cut ∙ turns)
  from_parts (byte ∷ rest) parts (Ok (Some workers)) some cut spelled =
      ap (map worker_of) (sym cut) ∙ map-map worker_of (λ (part : Bor (List ℕ)). part.now) parts ∙ spelled
