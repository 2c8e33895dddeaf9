-- What a call's contract says of its refusals, from what the refusals of its parts say.
use Rattle.std.proofs.Common.{◌≡◌, ◌↔◌, Result, Ok, Err, ap, ◌∙◌}

-- a call that returns a value refuses with nothing
pub no_refusal : {T E P : Type 0} (value : T) (other : E) → ¬ P → (◌≡◌ {A = Result T E} (Ok value) (Err other)) ↔ P
no_refusal value other never = (λ refused. absurd (cc), λ p. absurd (never p))

-- the refusal of a part is the call's
pub passed_on : {T U E P : Type 0} (result : Result T E) (passed : Result U E) (refusal other : E) → result ≡ Err refusal → passed ≡ Err refusal → (result ≡ Err other) ↔ P → (passed ≡ Err other) ↔ P
passed_on result passed refusal other is passed_is told = (
  λ refused. told.0 (let same : refusal ≡ other = cc in is ∙ ap Err same),
  λ p. let told_so = told.1 p in let same : refusal ≡ other = cc in passed_is ∙ ap Err same,
)

-- the refusal of a part comes back beside what the call was given
pub beside : {S T U E P : Type 0} (kept : S) (result : Result T E) (refusal other : E) → result ≡ Err refusal → (result ≡ Err other) ↔ P → (◌≡◌ {A = Result U (S × E)} (Err (kept, refusal)) (Err (kept, other))) ↔ P
beside {S} {T} {U} {E} {P} kept result refusal other is told = (
  λ refused. told.0 (let both : ◌≡◌ {A = S × E} (kept, refusal) (kept, other) = cc in is ∙ ap (λ (x : S × E). Err x.1) both),
  λ p. let told_so = told.1 p in let same : refusal ≡ other = cc in λ i. Err (kept, same i),
)
