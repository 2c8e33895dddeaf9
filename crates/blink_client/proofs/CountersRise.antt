-- An exchange of the pointer that a pass expects of its own key raises it, or the pass has no deletion left.
use Rattle.std.proofs.Common.{◌≡◌, ℕ, true, false, true≢false, List, Some, refl, sym, ◌∙◌}
use Rattle.std.specs.Prelude.{IsErrOf, OnErr, OnOk}
use Rattle.std.specs.Result.{is_err}
use Rattle.std.specs.declared.result.Result.{Result}
use Rattle.std.specs.declared.result.Result.TheVariants.{Ok, Err}
use Rattle.std.proofs.lemmas.Bool.{eq-eqb}
use Rattle.blink_batch.specs.declared.Answer.{Answer}
use Rattle.blink_batch.specs.declared.Entry.{Entry}
use Rattle.blink_batch.specs.declared.Op.TheVariants.{Exchange}
use Rattle.blink_batch.specs.{map_after, pointer_of}
use Rattle.blink_batch.proofs.Offered.{pointer_of-map_after_own}
use Rattle.blink_live.specs.declared.PassError.{PassError}
use Rattle.blink_live.specs.declared.PassError.TheVariants.{NotYours, Spent}

-- where a call isn't refused
pub when_ok : {T E P : Type 0} (r : Result T E) → false ≡ is_err r → OnOk r P → P
when_ok (Ok x) is p = p
when_ok (Err e) is p = absurd (true≢false (sym is))

-- where it is, the pass has its key
pub is_spent : (r : Result Answer PassError) → true ≡ is_err r → (IsErrOf r NotYours → ⊥) → IsErrOf r Spent
is_spent (Ok answer) is yours = absurd (true≢false is)
is_spent (Err NotYours) is yours = absurd (yours refl)
is_spent (Err Spent) is yours = refl

-- and nothing has changed
pub refused_same : {T E P : Type 0} (r : Result T E) → true ≡ is_err r → OnErr r P → P
refused_same (Ok x) is p = absurd (true≢false is)
refused_same (Err e) is p = p

-- the map after an exchange that finds what it expects
pub exchanged : (map : List Entry) (key expected pointer : ℕ) → pointer_of map key ≡ Some expected → pointer_of (map_after map (Exchange key expected pointer)) key ≡ Some pointer
exchanged map key expected pointer there =
    pointer_of-map_after_own map (Exchange key expected pointer) key refl ∙ rw (there, eq-eqb expected expected refl) refl
