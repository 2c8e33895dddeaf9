-- What a replacement and an exchange have in common.
use Rattle.std.proofs.Common.{◌≡◌, ℕ, ◌<◌, ◌^◌, Some, List, inl, inr, refl, ap, ◌∙◌, subst}
use Rattle.std.proofs.lemmas.Bool.{eq-eqb}
use Rattle.blink_operation.specs.declared.Entry.{Entry}
use Rattle.blink_operation.specs.declared.Op.{Op}
use Rattle.blink_operation.specs.{FitsWords, key_of, map_at, pointer_with}
use Rattle.blink_operation.specs.PlainMap.{replaced}
use Rattle.blink_machine.specs.declared.machine.Job.TheVariants.{Leaf}
use Rattle.blink_machine.specs.Table.{Brings, Swaps}

-- the key is the operation's
pub swaps-key : (op : Op) (key new found : ℕ) → Swaps op key new found → key_of op ≡ key
swaps-key op key new found (inl is) = ap key_of is
swaps-key op key new found (inr is) = ap key_of is

-- and so is the new pointer
pub swaps-pointer : (op : Op) (key new found : ℕ) → Swaps op key new found → pointer_with op ≡ new
swaps-pointer op key new found (inl is) = ap pointer_with is
swaps-pointer op key new found (inr is) = ap pointer_with is

-- which is a number of 64 bits
pub swaps-fits : (op : Op) (key new found : ℕ) → Swaps op key new found → FitsWords op → new < 2 ^ 64
swaps-fits op key new found (inl is) words = (subst FitsWords is words).1
swaps-fits op key new found (inr is) words = (subst FitsWords is words).1

-- neither adds an entry
pub swaps_bring_nothing : (op : Op) (key new found : ℕ) → Swaps op key new found → Brings op Leaf → ⊥
swaps_bring_nothing op key new found (inl is) brings = subst (λ o. Brings o Leaf) is brings
swaps_bring_nothing op key new found (inr is) brings = subst (λ o. Brings o Leaf) is brings

-- on the map both replace the pointer that is found
pub map_at-swaps : (op : Op) (key new found : ℕ) (map : List Entry) → Swaps op key new found → map_at op (Some found) map ≡ replaced map key new
map_at-swaps op key new found map (inl is) = ap (λ o. map_at o (Some found) map) is
map_at-swaps op key new found map (inr is) = ap (λ o. map_at o (Some found) map) is ∙ rw (eq-eqb found found refl) refl
