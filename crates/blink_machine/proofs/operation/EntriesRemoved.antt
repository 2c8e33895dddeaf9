-- What a deletion and a deletion of an expected pointer have in common.
use Rattle.std.proofs.Common.{◌≡◌, ℕ, Some, List, inl, inr, refl, ap, ◌∙◌, subst}
use Rattle.std.proofs.lemmas.Bool.{eq-eqb}
use Rattle.blink_operation.specs.declared.Entry.{Entry}
use Rattle.blink_operation.specs.declared.Op.{Op}
use Rattle.blink_operation.specs.{key_of, map_at}
use Rattle.blink_operation.specs.PlainMap.{removed}
use Rattle.blink_machine.specs.declared.machine.Job.TheVariants.{Leaf}
use Rattle.blink_machine.specs.Table.{Brings, Removes, Swaps}

-- the key is the operation's
pub removes-key : (op : Op) (key found : ℕ) → Removes op key found → key_of op ≡ key
removes-key op key found (inl is) = ap key_of is
removes-key op key found (inr is) = ap key_of is

-- neither replaces a pointer
pub removes_no_swap : (op : Op) (key found other new kept : ℕ) → Removes op key found → Swaps op other new kept → ⊥
removes_no_swap op key found other new kept (inl is) (inl swaps) = cc
removes_no_swap op key found other new kept (inl is) (inr swaps) = cc
removes_no_swap op key found other new kept (inr is) (inl swaps) = cc
removes_no_swap op key found other new kept (inr is) (inr swaps) = cc

-- or adds an entry
pub removes_bring_nothing : (op : Op) (key found : ℕ) → Removes op key found → Brings op Leaf → ⊥
removes_bring_nothing op key found (inl is) brings = subst (λ o. Brings o Leaf) is brings
removes_bring_nothing op key found (inr is) brings = subst (λ o. Brings o Leaf) is brings

-- on the map both remove the entry that is found
pub map_at-removes : (op : Op) (key found : ℕ) (map : List Entry) → Removes op key found → map_at op (Some found) map ≡ removed map key
map_at-removes op key found map (inl is) = ap (λ o. map_at o (Some found) map) is
map_at-removes op key found map (inr is) = ap (λ o. map_at o (Some found) map) is ∙ rw (eq-eqb found found refl) refl
