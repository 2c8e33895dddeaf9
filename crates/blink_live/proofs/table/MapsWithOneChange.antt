-- A map of keys with another value at one.
use Rattle.std.proofs.Common.{◌≡◌, ◌≢◌, ℕ, refl, sym, ap, ◌∙◌, eq-eqb, ne_eqb}
use native.Mathlib.Decide.{ℕ_discrete}
use Rattle.std.specs.Prelude.{if◌then◌else◌}
use Rattle.blink_live.specs.Changes.{put}

pub put_here : {X : Type 0} (f : ℕ → X) (n : ℕ) (x : X) → put f n x n ≡ x
put_here f n x = ap (λ b. if b then x else f n) (eq-eqb n n refl)

pub put_else : {X : Type 0} (f : ℕ → X) (n m : ℕ) (x : X) → m ≢ n → put f n x m ≡ f m
put_else f n m x ne = ap (λ b. if b then x else f m) (ne_eqb m n ne)

-- with the value that it has there it is the same
pub put_same : {X : Type 0} (f : ℕ → X) (n : ℕ) (x : X) → f n ≡ x → (m : ℕ) → put f n x m ≡ f m
put_same f n x is m = elim (ℕ_discrete m n) [
  | yes here ↦ ap (put f n x) here ∙ put_here f n x ∙ sym (ap f here ∙ is)
  | no apart ↦ put_else f n m x apart
]
