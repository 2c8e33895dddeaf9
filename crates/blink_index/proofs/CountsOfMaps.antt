-- How many entries a plain map has after an operation.
use Rattle.std.proofs.Common.{◌≡◌, ◌≢◌, ℕ, ◌+◌, ◌<◌, cond, Option, Some, None, IsSome, is_some, List, [], ◌∷◌, length, refl, sym, subst, ap, ◌∙◌, ⊎_elim, arith}
use Rattle.std.proofs.lemmas.Bool.{cases_eq}
use Rattle.std.specs.List.{AllByRecursion}
use Rattle.std.proofs.lemmas.Bool.Decides.{nat_tests}
use Rattle.blink_operation.specs.declared.Answer.TheVariants.{Inserted}
use Rattle.blink_operation.specs.declared.Entry.{Entry}
use Rattle.blink_operation.specs.declared.Op.TheVariants.{Delete, Insert, Replace}
use Rattle.blink_operation.specs.PlainMap.{added, removed, replaced}
use Rattle.blink_operation.specs.{IsAscending, answer_at, entry, map_at, pointer_of}
use Rattle.blink_store.specs.{PlainStore}
use Rattle.blink_index.specs.Edit.{IsEdited}
use Rattle.blink_entries.specs.Index.{map_of}

-- an added entry is one more
length-added : (map : List Entry) (new : Entry) → length (added map new) ≡ length map + 1
length-added [] new = refl
length-added (e ∷ es) new = grind (arith, nat_tests, length-added es new)

-- another pointer is none more
length-replaced : (map : List Entry) (key pointer : ℕ) → length (replaced map key pointer) ≡ length map
length-replaced [] key pointer = refl
length-replaced (e ∷ es) key pointer = grind (arith, nat_tests, length-replaced es key pointer)

-- a key below all others isn't among them
removed-below : (map : List Entry) (key : ℕ) → AllByRecursion (λ after. key < after.key) map → length (removed map key) ≡ length map
removed-below [] key below = refl
removed-below (e ∷ es) key below = grind (arith, nat_tests, below.0, removed-below es key below.1)

-- a removed entry is one fewer
length-removed : (map : List Entry) (key : ℕ) → IsAscending map → IsSome (pointer_of map key) → length (removed map key) + 1 ≡ length map
length-removed [] key ascending found = cc
length-removed (e ∷ es) key ascending found =
    ⊎_elim
    (λ (same : e.key ≡ key).
    let rest : length (removed es key) ≡ length es = removed-below es key (subst (λ (k : ℕ). AllByRecursion (λ after. k < after.key) es) same ascending.0) in
    grind (arith, nat_tests, same, rest))
    (λ (other : e.key ≢ key).
    let there : IsSome (pointer_of es key) = grind (arith, nat_tests, other, found) in
    let rest : length (removed es key) + 1 ≡ length es = length-removed es key ascending.1 there in
    grind (arith, nat_tests, other, rest))
    (cases_eq e.key key)

module _ (old new : PlainStore) where
  pub insertion_counts : (key pointer : ℕ) → IsEdited old new (Insert key pointer) Inserted → length (map_of new) ≡ length (map_of old) + 1
  insertion_counts key pointer edited = ap length edited.maps ∙ at (pointer_of (map_of old) key) edited.answers
    where
      at : (kept : Option ℕ) → Inserted ≡ answer_at (Insert key pointer) kept → length (map_at (Insert key pointer) kept (map_of old)) ≡ length (map_of old) + 1
      at None answers = length-added (map_of old) (entry key pointer)
      at (Some kept) answers = cc

  pub replacement_counts : (key pointer : ℕ) (kept : Option ℕ) → IsEdited old new (Replace key pointer) (answer_at (Replace key pointer) kept) → length (map_of new) ≡ length (map_of old)
  replacement_counts key pointer kept edited = ap length edited.maps ∙ at (pointer_of (map_of old) key)
    where
      at : (there : Option ℕ) → length (map_at (Replace key pointer) there (map_of old)) ≡ length (map_of old)
      at None = refl
      at (Some there) = length-replaced (map_of old) key pointer

  pub deletion_counts : (key : ℕ) (kept : Option ℕ) → IsAscending (map_of old) → IsEdited old new (Delete key) (answer_at (Delete key) kept) → length (map_of new) + cond (is_some kept) 1 0 ≡ length (map_of old)
  deletion_counts key kept ascending edited = ap (λ (m : List Entry). length m + cond (is_some kept) 1 0) edited.maps ∙ at kept (pointer_of (map_of old) key) refl edited.answers
    where
      at : (kept there : Option ℕ) → there ≡ pointer_of (map_of old) key → answer_at (Delete key) kept ≡ answer_at (Delete key) there → length (map_at (Delete key) there (map_of old)) + cond (is_some kept) 1 0 ≡ length (map_of old)
      at None None is answers = omega arith
      at None (Some there) is answers = cc
      at (Some kept) None is answers = cc
      at (Some kept) (Some there) is answers = length-removed (map_of old) key ascending (ap is_some (sym is))
