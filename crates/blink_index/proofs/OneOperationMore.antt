-- The first operations of a list, one more at a time.
use Rattle.std.proofs.Common.{◌≡◌, ◌<◌, ◌+◌, ◌++◌, ◌∷◌, [], ℕ, List, length, take, get_or, add-one, refl, ap, arith}
use Rattle.std.specs.Prelude.{if◌then◌else◌}
use Rattle.std.specs.List.{count_by}
use Rattle.std.proofs.Math.Seq.{take-suc}
use Rattle.std.proofs.lemmas.List.Sums.{sum_by-append}
use Rattle.blink_operation.specs.declared.Answer.{Answer}
use Rattle.blink_operation.specs.declared.Entry.{Entry}
use Rattle.blink_operation.specs.declared.Op.{Op}
use Rattle.blink_store.specs.{PlainStore}
use Rattle.blink_index.specs.Edit.{HasPagesFor}
use Rattle.blink_operation.specs.{answer_of, answers, is_insert, map_after, map_after_all}

answers-push : (map : List Entry) (ops : List Op) (op : Op) → answers map (ops ++ op ∷ []) ≡ answers map ops ++ answer_of (map_after_all map ops) op ∷ []
answers-push map [] op = refl
answers-push map (first ∷ ops) op = ap (λ (rest : List Answer). answer_of map first ∷ rest) (answers-push (map_after map first) ops op)

map_after_all-push : (map : List Entry) (ops : List Op) (op : Op) → map_after_all map (ops ++ op ∷ []) ≡ map_after (map_after_all map ops) op
map_after_all-push map [] op = refl
map_after_all-push map (first ∷ ops) op = map_after_all-push (map_after map first) ops op

pub answers-one_more : (map : List Entry) (ops : List Op) (i : ℕ) (d : Op) → i < length ops
    → answers map (take (i + 1) ops) ≡ answers map (take i ops) ++ answer_of (map_after_all map (take i ops)) (get_or ops i d) ∷ []
answers-one_more map ops i d inside = rw (add-one, take-suc ops i d inside, answers-push) refl

pub map_after_all-one_more : (map : List Entry) (ops : List Op) (i : ℕ) (d : Op) → i < length ops
    → map_after_all map (take (i + 1) ops) ≡ map_after (map_after_all map (take i ops)) (get_or ops i d)
map_after_all-one_more map ops i d inside = rw (add-one, take-suc ops i d inside, map_after_all-push) refl

-- the pages that the operations may need, and those that one more may need
pub one_more_page_for : (ops : List Op) (i : ℕ) (d : Op) (before mid after : PlainStore) → i < length ops → HasPagesFor (take i ops) before mid → HasPagesFor (get_or ops i d ∷ []) mid after
    → HasPagesFor (take (i + 1) ops) before after
one_more_page_for ops i d before mid after inside few more =
    let count : count_by is_insert (take (i + 1) ops) ≡ count_by is_insert (take i ops) + count_by is_insert (get_or ops i d ∷ [])
    = rw (add-one, take-suc ops i d inside) (sum_by-append (λ (op : Op). if is_insert op then 1 else 0) (take i ops) (get_or ops i d ∷ [])) in
    omega (arith, few, more, count)
