-- How many passes are out when a seat changes its role, or there is one seat more.
use Rattle.std.proofs.Common.{◌≡◌, ◌⊎◌, ℕ, zero, suc, ◌+◌, List, [], ◌∷◌, ◌++◌, length, set, refl, sym, ap, ⊎_elim, inl, inr, arith}
use mathlib.Core.Option.{some, some-ne-none, some-injective}
use lib.ListN.{get_elem?}
use Rattle.blink_live.specs.declared.view.View.{View}
use Rattle.blink_live.specs.Rule.{pass_count, passes_in}

-- the last of a list is at its end
pub at_end : {A : Type 0} (l : List A) (a b : A) (i : ℕ) → get_elem? (l ++ a ∷ []) i ≡ some b → (get_elem? l i ≡ some b) ⊎ ((i ≡ length l) × (a ≡ b))
at_end [] a b zero e = inr (refl, some-injective a b e)
at_end [] a b (suc i) e = absurd (some-ne-none b (sym e))
at_end (x ∷ l) a b zero e = inl e
at_end (x ∷ l) a b (suc i) e = ⊎_elim (λ t. inl t) (λ (t : (i ≡ length l) × (a ≡ b)). inr (ap suc t.0, t.1)) (at_end l a b i e)

pub passes_more : (views : List View) (v : View) → passes_in (views ++ v ∷ []) ≡ passes_in views + pass_count v.role
passes_more [] v = omega arith
passes_more (x ∷ views) v = let e : passes_in (views ++ v ∷ []) ≡ passes_in views + pass_count v.role = passes_more views v in omega (arith, e)

pub passes_role : (views : List View) (i : ℕ) (v w : View) → get_elem? views i ≡ some v → passes_in (set views i w) + pass_count v.role ≡ passes_in views + pass_count w.role
passes_role [] i v w at = absurd (some-ne-none v (sym at))
passes_role (x ∷ views) zero v w at = let e : pass_count x.role ≡ pass_count v.role = ap (λ (y : View). pass_count y.role) (some-injective x v at) in omega (arith, e)
passes_role (x ∷ views) (suc i) v w at = let e : passes_in (set views i w) + pass_count v.role ≡ passes_in views + pass_count w.role = passes_role views i v w at in omega (arith, e)
