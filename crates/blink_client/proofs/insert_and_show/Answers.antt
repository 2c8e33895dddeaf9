use Rattle.std.proofs.Common.{◌≡◌, ℕ, false, true≢false, Some, List, [], ◌∷◌, ◌++◌, map, ap, sym, ◌∙◌, subst}
use Rattle.std.specs.Prelude.{Contains, OnOk}
use mathlib.Core.List.{IsPrefix}
use Rattle.std.specs.Result.{is_err}
use Rattle.std.specs.declared.result.Result.{Result}
use Rattle.std.specs.declared.result.Result.TheVariants.{Ok, Err}
use Rattle.blink_batch.specs.declared.Op.TheVariants.{Insert}
use Rattle.blink_batch.specs.{pointer_of}
use Rattle.blink_live.specs.{changes_made, last_state, states_of, IsChangedBy, keys_of, opening_of, own_changes_of, place_of, seen_changes_of, seen_of}
use Rattle.blink_live.proofs.Offered.{after-exactly, last_state-push, own_changes-own_key}
use Rattle.blink_client.proofs.insert_and_show.Goals as goal

when_ok : {T E P : Type 0} (r : Result T E) → false ≡ is_err r → OnOk r P → P
when_ok (Ok x) is p = p
when_ok (Err e) is p = absurd (true≢false (sym is))

pub returns : goal.returns
returns g c =
    let key : ℕ = c.args.key in
    let kept = pointer_of (opening_of c.args.live.now) in
    let changed : IsChangedBy (Insert key c.args.pointer) c.args.one.now c.insert.new.pass = when_ok c.insert.result c.if-is_err.ensures.value c.insert.ensures.changed in
    let mine : Contains (keys_of c.insert.new.pass) key = subst (λ (keys : List ℕ). Contains keys key) (sym changed.same_keys) c.requires.own_key in
    let own : own_changes_of c.insert.new.pass key ≡ own_changes_of c.args.one.now key ++ Some c.args.pointer ∷ [] =
    own_changes-own_key (Insert key c.args.pointer) c.args.one.now c.insert.new.pass changed ∙ ap (λ k. own_changes_of c.args.one.now key ++ map (λ change. change.pointer) (changes_made (place_of c.args.one.now) (Insert key c.args.pointer) k)) c.requires.new_key in
    let no_more : IsPrefix (seen_changes_of c.glance-shown.new.pass key) (own_changes_of c.insert.new.pass key) =
    subst (IsPrefix (seen_changes_of c.glance-shown.new.pass key)) (ap (states_of key) c.tell.ensures.from.same_changes)
    (c.tell-2.ensures.own_before.1 key (subst (λ (keys : List ℕ). Contains keys key) (sym c.tell.ensures.from.same_keys) mine)) in
    record {
      shown = c.glance-shown.ensures.state ∙ (after-exactly kept key (seen_of c.tell.new.to) (seen_of c.glance-shown.new.pass) (own_changes_of c.insert.new.pass key) (c.tell.ensures.own_after key mine) c.glance-shown.ensures.same.saw no_more
          ∙ (ap (last_state (kept key)) own ∙ last_state-push (kept key) (own_changes_of c.args.one.now key) (Some c.args.pointer)));
    }
