-- The tests of a look-up.
use Rattle.std.proofs.Common.{◌≡◌, ◌↔◌, ℕ, Bool, Option, Some, None, IsSome, IsTrue, sym, subst}
use Rattle.std.specs.Option.{is_some}

-- a look-up's test is true exactly if something is found
pub is_found : (there : Option ℕ) (test : Bool) → test ≡ is_some there → IsTrue test ↔ IsSome there
is_found None test is = subst (λ (b : Bool). IsTrue b ↔ IsSome {T = ℕ} None) (sym is) (search, search)
is_found (Some x) test is = subst (λ (b : Bool). IsTrue b ↔ IsSome (Some x)) (sym is) (search, search)
