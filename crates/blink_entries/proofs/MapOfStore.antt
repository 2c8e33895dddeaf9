-- The plain map of a store at rest: the entries of its tree, and nothing else.
use Rattle.std.proofs.Common.{◌≡◌, ℕ, Some, List, [], ◌∷◌, cond, eqb, refl, sym, ap, ◌∙◌, subst}
use Rattle.blink_operation.specs.{pointer_of}
use Rattle.blink_page.specs.{value_at}
use Rattle.blink_store.specs.{PlainStore, page_of}
use Rattle.blink_rest.specs.{AreEntries, entries_along, IsMapOf, entries_from, pairs_of}
use Rattle.blink_rest.proofs.Offered.{entries_at_start, entries_from-pairs_of}
use Rattle.blink_entries.specs.Index.{level_of, map_of, cells_of}
use Rattle.blink_entries.specs.Laws.{MapIsKept, NoOtherMapIsKept}
use Rattle.blink_entries.proofs.PagesAlongLinks.{cells_of-chain}

-- a look-up in the one is a look-up in the other
pub pointer_of-entries_from : (key : ℕ) (pairs : List (ℕ × ℕ)) → pointer_of (entries_from pairs) key ≡ value_at key pairs
pointer_of-entries_from key [] = refl
pointer_of-entries_from key (pair ∷ pairs) = ap (λ rest. cond (eqb pair.0 key) (Some pair.1) rest) (pointer_of-entries_from key pairs)

-- the entries of a tree are those of the pages of its level 0
pub entries_of_level : (store : PlainStore) (entries : List (ℕ × ℕ)) → AreEntries store.fan store.prime (page_of store) entries → entries_along (level_of store 0) ≡ entries
entries_of_level store entries are =
    ap entries_along (ap (cells_of store) are.is_first ∙ cells_of-chain store 0 are.leftmost are.leaves are.chain) ∙ sym are.joined

-- so they are the pairs of the plain map
pub map_of-entries : (store : PlainStore) (entries : List (ℕ × ℕ)) → AreEntries store.fan store.prime (page_of store) entries → map_of store ≡ entries_from entries
map_of-entries store entries are = ap entries_from (entries_of_level store entries are)

pub no_other_map_is_kept : NoOtherMapIsKept
no_other_map_is_kept store entries at_rest are = sym (map_of-entries store (pairs_of entries) are ∙ entries_from-pairs_of entries)

pub the_map_is_kept : MapIsKept
the_map_is_kept store at_rest =
    let found = entries_at_start store at_rest in
    subst (IsMapOf store) (no_other_map_is_kept store found.0 at_rest found.1.kept) found.1
