-- What a lane needs, from what was gathered of its operations.
use Rattle.std.proofs.Common.{◌≡◌, ◌↔◌, ℕ, ◌<◌, List, [], length, map, count_by, get_or, sym, ap, ◌∙◌, subst}
use Rattle.std.specs.List.{Contains}
use Rattle.std.proofs.lemmas.List.{get_or-map, get_or_default, length-map}
use Rattle.blink_batch.specs.declared.Op.{Op}
use Rattle.blink_batch.specs.declared.Op.TheVariants.{Find}
use Rattle.blink_batch.specs.{is_insert, key_of}
use Rattle.blink_live.specs.{NoneIsTaken}
use Rattle.blink_run.specs.declared.live.needs.Needs.{Needs}
use Rattle.blink_run.specs.Lanes.{IsKeyOfOne, IsNeeded, uses_deletion}

-- the operations' keys are those that one of them has
pub keys_of_operations : (ops : List Op) (key : ℕ) → Contains (map key_of ops) key ↔ IsKeyOfOne ops key
keys_of_operations ops key = (
  λ there.
      let inside : there.0 < length ops = subst (λ (n : ℕ). there.0 < n) (length-map ops key_of) there.1 in
      let op = get_or ops there.0 (Find key) in
      (op, (there.0, inside, get_or_default ops there.0 op (Find key) inside), sym (get_or-map key_of ops there.0 (Find key) key inside) ∙ there.2),
  λ one.
      let inside : one.1.0 < length ops = one.1.1 in (
        one.1.0,
        subst (λ (n : ℕ). one.1.0 < n) (sym (length-map ops key_of)) inside,
        get_or-map key_of ops one.1.0 one.0 key inside ∙ ap key_of one.1.2 ∙ one.2,
      ),
)

-- the gathered keys, each once, and the counts are what the operations need
pub needed_from_gathered : (ops : List Op) (needs : Needs) (gathered : List ℕ) → gathered ≡ map key_of ops → ((key : ℕ) → Contains needs.keys.items key ↔ Contains gathered key) → NoneIsTaken [] needs.keys.items
    → needs.operations ≡ length ops → needs.inserts ≡ count_by is_insert ops → needs.deletes ≡ count_by uses_deletion ops → IsNeeded ops needs
needed_from_gathered ops needs gathered all same once as_many inserts deletes = record {
  keys = λ key. (
    λ there. (keys_of_operations ops key).0 (subst (λ (keys : List ℕ). Contains keys key) all ((same key).0 there)),
    λ one. (same key).1 (subst (λ (keys : List ℕ). Contains keys key) (sym all) ((keys_of_operations ops key).1 one)),
  );
  each_once = once;
  as_many = as_many;
  inserts = inserts;
  deletes = deletes;
}
