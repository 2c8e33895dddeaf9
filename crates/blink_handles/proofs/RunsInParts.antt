-- A run of operations and then of others.
use Rattle.std.proofs.Common.{◌≡◌, ℕ, List, [], ◌∷◌, ◌++◌, drop, map, refl, take, ap, sym, ◌∙◌}
use Rattle.std.proofs.lemmas.List.{map-append, take-append-drop}
use Rattle.blink_batch.specs.declared.Entry.{Entry}
use Rattle.blink_batch.specs.declared.Op.{Op}
use Rattle.blink_batch.specs.{map_after, map_after_all}
use Rattle.blink_handles.specs.declared.raw.RawEntry.{RawEntry}
use Rattle.blink_handles.specs.Raw.{insertion_of}

pub map_after_all-append : (m : List Entry) (ops others : List Op) → map_after_all m (ops ++ others) ≡ map_after_all (map_after_all m ops) others
map_after_all-append m [] others = refl
map_after_all-append m (op ∷ ops) others = map_after_all-append (map_after m op) ops others

-- where some first entries are inserted, the rest makes of the map what all make of the map before
pub rest_makes_all : (before after : List Entry) (left part rest : List RawEntry) (k : ℕ) → part ≡ take k left → rest ≡ drop k left
    → after ≡ map_after_all before (map insertion_of part) → map_after_all after (map insertion_of rest) ≡ map_after_all before (map insertion_of left)
rest_makes_all before after left part rest k is_part is_rest is_after =
    ap (λ (m : List Entry). map_after_all m (map insertion_of rest)) is_after
    ∙ sym (map_after_all-append before (map insertion_of part) (map insertion_of rest))
    ∙ ap (map_after_all before) (sym (map-append insertion_of part rest))
    ∙ (λ i. map_after_all before (map insertion_of (is_part i ++ is_rest i)))
    ∙ ap (λ (all : List RawEntry). map_after_all before (map insertion_of all)) (take-append-drop k left)
