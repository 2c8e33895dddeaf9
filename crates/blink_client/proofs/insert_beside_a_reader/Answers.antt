use Rattle.std.proofs.Common.{◌≡◌, ◌⊎◌, ℕ, false, true≢false, Option, Some, List, [], ◌∷◌, ◌++◌, map, inl, inr, refl, ap, sym, ◌∙◌, subst}
use Rattle.std.specs.Prelude.{Contains, OnOk}
use mathlib.Core.List.{IsPrefix}
use Rattle.std.specs.Result.{is_err}
use Rattle.std.specs.declared.result.Result.{Result}
use Rattle.std.specs.declared.result.Result.TheVariants.{Ok, Err}
use Rattle.blink_batch.specs.declared.Op.TheVariants.{Insert}
use Rattle.blink_batch.specs.{pointer_of}
use Rattle.blink_live.specs.{changes_made, last_state, states_of, IsChangedBy, keys_of, opening_of, own_changes_of, place_of, seen_changes_of, seen_of}
use Rattle.blink_live.proofs.Offered.{after-exactly, after-last_state, own_changes-own_key, prefix_of_prefix, states_of-prefix}
use Rattle.blink_client.proofs.insert_beside_a_reader.Goals as goal

when_ok : {T E P : Type 0} (r : Result T E) → false ≡ is_err r → OnOk r P → P
when_ok (Ok x) is p = p
when_ok (Err e) is p = absurd (true≢false (sym is))

-- of one state a prefix has none, or that one
of_one : (first state : Option ℕ) (states : List (Option ℕ)) → IsPrefix states (state ∷ []) → (last_state first states ≡ first) ⊎ (last_state first states ≡ state)
of_one first state [] is = inl refl
of_one first state (x ∷ []) is = inr (let e = is.1 in cc)
of_one first state (x ∷ y ∷ rest) is = absurd (let e = is.1 in cc)

pub returns : goal.returns
returns g c =
    let key : ℕ = c.args.key in
    let kept = pointer_of (opening_of c.args.live.now) in
    let changed : IsChangedBy (Insert key c.args.pointer) c.args.one.now c.side_by_side-inserted.new.one = when_ok c.side_by_side-inserted.result.0 c.if-is_err.ensures.value c.side_by_side-inserted.ensures.changed in
    let mine : Contains (keys_of c.side_by_side-inserted.new.one) key = subst (λ (keys : List ℕ). Contains keys key) (sym changed.same_keys) c.requires.own_key in
    let own : own_changes_of c.side_by_side-inserted.new.one key ≡ Some c.args.pointer ∷ [] =
    own_changes-own_key (Insert key c.args.pointer) c.args.one.now c.side_by_side-inserted.new.one changed
    ∙ (ap (λ k. own_changes_of c.args.one.now key ++ map (λ change. change.pointer) (changes_made (place_of c.args.one.now) (Insert key c.args.pointer) k)) c.requires.new_key
    ∙ ap (λ (states : List (Option ℕ)). states ++ Some c.args.pointer ∷ []) c.requires.none_made) in
    let no_more : IsPrefix (seen_changes_of c.glance-told.new.pass key) (own_changes_of c.side_by_side-inserted.new.one key) =
    subst (IsPrefix (seen_changes_of c.glance-told.new.pass key)) (ap (states_of key) c.tell.ensures.from.same_changes)
    (c.tell-2.ensures.own_before.1 key (subst (λ (keys : List ℕ). Contains keys key) (sym c.tell.ensures.from.same_keys) mine)) in
    let earlier : IsPrefix (seen_of c.side_by_side-inserted.new.other) (seen_of c.glance-told.new.pass) =
    prefix_of_prefix (seen_of c.side_by_side-inserted.new.other) (seen_of c.tell.new.to) (seen_of c.glance-told.new.pass) c.tell.ensures.to.saw c.glance-told.ensures.same.saw in
    let by_then : IsPrefix (seen_changes_of c.side_by_side-inserted.new.other key) (Some c.args.pointer ∷ []) =
    subst (IsPrefix (seen_changes_of c.side_by_side-inserted.new.other key)) own
    (prefix_of_prefix (seen_changes_of c.side_by_side-inserted.new.other key) (seen_changes_of c.glance-told.new.pass key) (own_changes_of c.side_by_side-inserted.new.one key) (states_of-prefix key (seen_of c.side_by_side-inserted.new.other) (seen_of c.glance-told.new.pass) earlier) no_more) in
    let meanwhile = c.side_by_side-inserted.ensures.state ∙ after-last_state kept (seen_of c.side_by_side-inserted.new.other) key in
    record {
      shown = (
        elim (of_one (kept key) (Some c.args.pointer) (seen_changes_of c.side_by_side-inserted.new.other key) by_then) [
          | inl none ↦ inl (meanwhile ∙ (none ∙ c.requires.not_there))
          | inr one ↦ inr (meanwhile ∙ one)
        ],
        c.glance-told.ensures.state ∙ (after-exactly kept key (seen_of c.tell.new.to) (seen_of c.glance-told.new.pass) (own_changes_of c.side_by_side-inserted.new.one key) (c.tell.ensures.own_after key mine) c.glance-told.ensures.same.saw no_more
            ∙ ap (last_state (kept key)) own),
      );
    }
