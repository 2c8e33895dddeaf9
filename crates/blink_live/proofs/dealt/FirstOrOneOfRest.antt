-- An element of a list is its first, or one of the rest.
use Rattle.std.proofs.Common.{◌≡◌, zero, suc, List, ◌∷◌, arith}
use Rattle.std.specs.Prelude.{Contains}

pub contains_case : {A : Type 0} {C : Type 0} (first : A) (rest : List A) (x : A) → Contains (first ∷ rest) x → (first ≡ x → C) → (Contains rest x → C) → C
contains_case first rest x (zero, inside, is) at_first in_rest = at_first is
contains_case first rest x (suc k, inside, is) at_first in_rest = in_rest (k, omega (arith, inside), is)
