-- Cuts by a function of the key.
use Rattle.std.proofs.Common.{◌≡◌, ◌<◌, ◌≤◌, ◌+◌, ◌∙◌, ◌++◌, ℕ, zero, suc, ◌∷◌, [], List, length, map, get_or, take, refl, sym, ap, add-one, arith}
use Rattle.std.proofs.Math.Seq.{take-suc}
use Rattle.std.specs.List.{zip, All}
use Rattle.std.proofs.lemmas.List.{length-map, map-append, take_all}
use Rattle.blink_operation.specs.declared.operation.Op.{Op}
use Rattle.blink_operation.specs.Operation.{key_of}
use Rattle.blink_batch.specs.Cut.{IsLawfulCut}

module _ (worker_of : ℕ → ℕ) where
  -- beside each operation stands the worker of its key
  worker_beside : (ops : List Op) (i : ℕ) (d : Op × ℕ) → i < length (zip ops (map (λ op. worker_of (key_of op)) ops))
      → (get_or (zip ops (map (λ op. worker_of (key_of op)) ops)) i d).1 ≡ worker_of (key_of (get_or (zip ops (map (λ op. worker_of (key_of op)) ops)) i d).0)
  worker_beside [] i d in_range = absurd (omega arith)
  worker_beside (op ∷ ops) zero d in_range = refl
  worker_beside (op ∷ ops) (suc i) d in_range = worker_beside ops i d (omega arith)

  -- each lane is the worker of a key
  all_workers : (P : ℕ → Type 0) → ((key : ℕ) → P (worker_of key)) → (ops : List Op) → All P (map (λ op. worker_of (key_of op)) ops)
  all_workers P holds [] i d in_range = absurd (omega arith)
  all_workers P holds (op ∷ ops) zero d in_range = holds (key_of op)
  all_workers P holds (op ∷ ops) (suc i) d in_range = all_workers P holds ops i d (omega arith)

  -- a cut by a function of the key to the workers is lawful
  pub lawful_by_key : (ops : List Op) (workers : ℕ) → ((key : ℕ) → worker_of key < workers) → IsLawfulCut ops workers (map (λ op. worker_of (key_of op)) ops)
  lawful_by_key ops workers below = record {
    a_lane_each = length-map ops (λ op. worker_of (key_of op));
    lanes_are_workers = all_workers (λ lane. lane < workers) below ops;
    one_worker_a_key = λ i j d before in_range same.
        worker_beside ops i d (omega arith) ∙ ap worker_of same ∙ sym (worker_beside ops j d in_range);
  }

  -- the lanes of the first operations, one more at a time
  pub one_lane_more : (ops : List Op) (i : ℕ) (d : Op) (lanes more : List ℕ) (key lane : ℕ) → i < length ops → lanes ≡ map (λ op. worker_of (key_of op)) (take i ops) → key ≡ key_of (get_or ops i d)
      → lane ≡ worker_of key → more ≡ lanes ++ lane ∷ [] → more ≡ map (λ op. worker_of (key_of op)) (take (i + 1) ops)
  one_lane_more ops i d lanes more key lane in_range so_far read its pushed = rw (pushed, so_far, its, read) (sym (rw (add-one, take-suc ops i d in_range, map-append) refl))

  -- and of them all
  pub lanes_of_all : (ops its : List Op) (i : ℕ) (lanes : List ℕ) → length its ≤ i → its ≡ ops → lanes ≡ map (λ op. worker_of (key_of op)) (take i its) → lanes ≡ map (λ op. worker_of (key_of op)) ops
  lanes_of_all ops its i lanes past same so_far = so_far ∙ ap (map (λ op. worker_of (key_of op))) (take_all i its past ∙ same)
