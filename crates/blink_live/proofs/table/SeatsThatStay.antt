-- One seat gets another view, and the others stay as they are.
use Rattle.std.proofs.Common.{◌≡◌, ◌≢◌, ℕ, zero, suc, ◌+◌, ◌<◌, List, [], ◌∷◌, length, set, refl, sym, ap, ◌∙◌, subst, ⊎_elim, arith}
use mathlib.Core.Option.{some, some-ne-none, some-injective}
use mathlib.Core.Logic.{dite}
use native.Mathlib.Decide.{ℕ_discrete}
use lib.ListN.{get_elem?}
use Rattle.atomic_table.proofs.Lists.{at_set, set_here, set_else}
use Rattle.blink_live.specs.declared.view.Plan.{Plan}
use Rattle.blink_live.specs.declared.view.Role.{Role}
use Rattle.blink_live.specs.declared.view.View.{View}
use Rattle.blink_live.specs.Rule.{pass_count, passes_in, AreCounted}

pub at_inside : {A : Type 0} (l : List A) (i : ℕ) (a : A) → get_elem? l i ≡ some a → i < length l
at_inside [] i a e = absurd (some-ne-none a (sym e))
at_inside (y ∷ l) zero a e = omega arith
at_inside (y ∷ l) (suc i) a e = let t : i < length l = at_inside l i a e in omega arith

pub at_put : {A : Type 0} (l : List A) (i : ℕ) (a b : A) → get_elem? l i ≡ some a → get_elem? (set l i b) i ≡ some b
at_put l i a b e = set_here l i b (at_inside l i a e)

-- what holds of the new view and of all others holds of all
pub views_stay : (K : ℕ → View → Type 0) (vs : List View) (me : ℕ) (w : View) → K me w → ((j : ℕ) (d : View) → j ≢ me → get_elem? vs j ≡ some d → K j d)
    → (j : ℕ) (d : View) → get_elem? (set vs me w) j ≡ some d → K j d
views_stay K vs me w mine others j d e = ⊎_elim (λ (t : (j ≡ me) × (w ≡ d)). subst (λ (x : ℕ × View). K x.0 x.1) (λ i. (sym t.0 i, t.1 i)) mine)
    (λ (t : (j ≢ me) × (get_elem? vs j ≡ some d)). others j d t.0 t.1) (at_set vs me j w d e)

pub passes_set : (vs : List View) (i : ℕ) (v w : View) → get_elem? vs i ≡ some v → w.role ≡ v.role → passes_in (set vs i w) ≡ passes_in vs
passes_set [] i v w at same = refl
passes_set (x ∷ vs) zero v w at same = ap (λ (r : Role). pass_count r + passes_in vs) (same ∙ ap (λ (y : View). y.role) (sym (some-injective x v at)))
passes_set (x ∷ vs) (suc i) v w at same = ap (λ (k : ℕ). pass_count x.role + k) (passes_set vs i v w at same)

-- a seat with another view of the same role and plan
pub counted_stays : (vs : List View) (i : ℕ) (v w : View) → get_elem? vs i ≡ some v → w.role ≡ v.role → w.plan ≡ v.plan → AreCounted vs → AreCounted (set vs i w)
counted_stays vs i v w at same same_plan h = dite (ℕ_discrete 0 i)
    (λ e.
    let is : v ≡ h.keeper = some-injective v h.keeper (sym at ∙ (sym (ap (get_elem? vs) e) ∙ h.first)) in
    record {
      keeper = w;
      dealt = h.dealt;
      back = h.back;
      first = ap (get_elem? (set vs i w)) e ∙ at_put vs i v w at;
      role = same ∙ (ap (λ (y : View). y.role) is ∙ h.role);
      counted = λ owned. ap (λ (k : ℕ). k + h.back) (passes_set vs i v w at same) ∙ h.counted (ap (λ (p : Plan). p.places) (sym (same_plan ∙ ap (λ (y : View). y.plan) is)) ∙ owned);
    })
    (λ ne. record {
      keeper = h.keeper;
      dealt = h.dealt;
      back = h.back;
      first = set_else vs i 0 w ne ∙ h.first;
      role = h.role;
      counted = λ owned. ap (λ (k : ℕ). k + h.back) (passes_set vs i v w at same) ∙ h.counted owned;
    })
