-- The entries of a tree as a plain map: looked up, added to, removed from and replaced alike.
use Rattle.std.proofs.Common.{◌≡◌, ℕ, ◌<◌, cond, eqb, Some, None, List, [], ◌∷◌, refl, ap, arith}
use Rattle.std.specs.List.{AllByRecursion}
use Rattle.std.proofs.lemmas.Bool.Decides.{nat_tests}
use Rattle.blink_operation.specs.declared.Entry.{Entry}
use Rattle.blink_operation.specs.{entry, IsAscending, pointer_of}
use Rattle.blink_operation.specs.PlainMap as map
use Rattle.blink_page.specs.{value_at, added, removed, replaced}
use Rattle.blink_machine.specs.TreeMap.{pairs_of}

-- the tree maps a key as the map does
pub value_at-pairs_of : (key : ℕ) (entries : List Entry) → value_at key (pairs_of entries) ≡ pointer_of entries key
value_at-pairs_of key [] = refl
value_at-pairs_of key (e ∷ es) = ap (λ rest. cond (eqb e.key key) (Some e.pointer) rest) (value_at-pairs_of key es)

-- an entry with a new key is added alike
pub added-pairs_of : (key value : ℕ) (entries : List Entry) → pointer_of entries key ≡ None → added (key, value) (pairs_of entries) ≡ pairs_of (map.added entries (entry key value))
added-pairs_of key value [] absent = refl
added-pairs_of key value (e ∷ es) absent =
    let rest : pointer_of es key ≡ None → added (key, value) (pairs_of es) ≡ pairs_of (map.added es (entry key value)) = added-pairs_of key value es in
    grind (arith, nat_tests, rest)

-- of ascending keys all the later ones stay
removed-above : (key : ℕ) (entries : List Entry) → AllByRecursion (λ (after : Entry). key < after.key) entries → map.removed entries key ≡ entries
removed-above key [] above = refl
removed-above key (e ∷ es) above =
    let here : key < e.key = above.0 in
    let rest : map.removed es key ≡ es = removed-above key es above.1 in
    grind (arith, nat_tests, here, rest)

-- and an entry is removed alike
pub removed-pairs_of : (key : ℕ) (entries : List Entry) → IsAscending entries → removed key (pairs_of entries) ≡ pairs_of (map.removed entries key)
removed-pairs_of key [] ascending = refl
removed-pairs_of key (e ∷ es) ascending =
    let rest : removed key (pairs_of es) ≡ pairs_of (map.removed es key) = removed-pairs_of key es ascending.1 in
    let above : map.removed es e.key ≡ es = removed-above e.key es ascending.0 in
    grind (arith, nat_tests, rest, above)

-- and a pointer is replaced alike
pub replaced-pairs_of : (key pointer : ℕ) (entries : List Entry) → replaced (key, pointer) (pairs_of entries) ≡ pairs_of (map.replaced entries key pointer)
replaced-pairs_of key pointer [] = refl
replaced-pairs_of key pointer (e ∷ es) =
    let rest : replaced (key, pointer) (pairs_of es) ≡ pairs_of (map.replaced es key pointer) = replaced-pairs_of key pointer es in
    grind (arith, nat_tests, rest)
