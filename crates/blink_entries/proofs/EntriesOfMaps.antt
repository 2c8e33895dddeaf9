-- A plain map's entries, its look-ups and what a find answers say the same.
use Rattle.std.proofs.Common.{◌≡◌, ℕ, zero, suc, ◌<◌, Bool, Option, Some, None, List, [], ◌∷◌, sym, ap, ◌∙◌, subst, eq-eqb, ne_eqb, arith}
use Rattle.std.specs.Prelude.{Contains, if◌then◌else◌}
use Rattle.std.specs.List.{AllByRecursion}
use mathlib.Core.Logic.{dite}
use native.Mathlib.Decide.{ℕ_discrete}
use Rattle.blink_operation.specs.declared.Answer.TheVariants.{Found}
use Rattle.blink_operation.specs.declared.Entry.{Entry}
use Rattle.blink_operation.specs.declared.Op.TheVariants.{Find}
use Rattle.blink_operation.specs.{answer_at, answer_of, entry, pointer_of, IsAscending}

-- a key and the pointer that it maps to are an entry
pub entry-from_pointer : (map : List Entry) (key pointer : ℕ) → pointer_of map key ≡ Some pointer → Contains map (entry key pointer)
entry-from_pointer [] key pointer is = absurd (cc)
entry-from_pointer (e ∷ rest) key pointer is = dite (ℕ_discrete e.key key)
    (λ same.
    let kept : Some e.pointer ≡ Some pointer = sym (ap (λ (b : Bool). if b then Some e.pointer else pointer_of rest key) (eq-eqb e.key key same)) ∙ is in
    let same_pointer : e.pointer ≡ pointer = cc in
    (zero, omega arith, λ i. record { key = same i; pointer = same_pointer i }))
    (λ differ.
    let there = entry-from_pointer rest key pointer (sym (ap (λ (b : Bool). if b then Some e.pointer else pointer_of rest key) (ne_eqb e.key key differ)) ∙ is) in
    (suc there.0, let inside = there.1 in omega (arith, inside), there.2))

above_first : (first : Entry) (rest : List Entry) (x : Entry) → AllByRecursion (λ (after : Entry). first.key < after.key) rest → Contains rest x → first.key < x.key
above_first first [] x all is = absurd (let inside = is.1 in omega (arith, inside))
above_first first (e ∷ rest) x all (zero, inside, is) = subst (λ (y : Entry). first.key < y.key) is all.0
above_first first (e ∷ rest) x all (suc k, inside, is) = above_first first rest x all.1 (k, omega (arith, inside), is)

-- and an entry's key maps to its pointer, since keys ascend
pub pointer-from_entry : (map : List Entry) (key pointer : ℕ) → IsAscending map → Contains map (entry key pointer) → pointer_of map key ≡ Some pointer
pointer-from_entry [] key pointer ascending is = absurd (let inside = is.1 in omega (arith, inside))
pointer-from_entry (e ∷ rest) key pointer ascending (zero, inside, is) =
    ap (λ (b : Bool). if b then Some e.pointer else pointer_of rest key) (eq-eqb e.key key (ap (λ (x : Entry). x.key) is)) ∙ ap (λ (x : Entry). Some x.pointer) is
pointer-from_entry (e ∷ rest) key pointer ascending (suc k, inside, is) =
    let there : Contains rest (entry key pointer) = (k, omega (arith, inside), is) in
    let above : e.key < key = above_first e rest (entry key pointer) ascending.0 there in
    ap (λ (b : Bool). if b then Some e.pointer else pointer_of rest key) (ne_eqb e.key key (λ same. omega (arith, same, above))) ∙ pointer-from_entry rest key pointer ascending.1 there

-- a find answers with what is kept
pub found-from_pointer : (map : List Entry) (key pointer : ℕ) → pointer_of map key ≡ Some pointer → answer_of map (Find key) ≡ Found pointer
found-from_pointer map key pointer is = ap (answer_at (Find key)) is

pub pointer-from_found : (map : List Entry) (key pointer : ℕ) → answer_of map (Find key) ≡ Found pointer → pointer_of map key ≡ Some pointer
pointer-from_found map key pointer = kept (pointer_of map key)
  where
    kept : (there : Option ℕ) → answer_at (Find key) there ≡ Found pointer → there ≡ Some pointer
    kept (Some other) is = cc
    kept None is = absurd (cc)
