-- What an operation adds to its pass's own changes, key by key.
use Rattle.std.proofs.Common.{◌≡◌, ◌≢◌, ℕ, Bool, true, false, Option, List, [], ◌∷◌, ◌++◌, map, refl, ap, ◌∙◌, subst, eq-eqb}
use Rattle.std.specs.Prelude.{if◌then◌else◌, Contains}
use mathlib.Core.List.{append-nil}
use Rattle.blink_batch.specs.declared.Op.{Op}
use Rattle.blink_batch.specs.{answer_at, cell_after, key_of, pointer_of}
use Rattle.blink_live.specs.declared.live.Pass.{Pass}
use Rattle.blink_live.specs.declared.view.Change.{Change}
use Rattle.blink_live.specs.Changes.{states_of, changes_made, has_changed}
use Rattle.blink_live.specs.Handles.{IsChangedBy, changes_by, keys_of, own_changes_of, place_of, seen_changes_of, share_of}
use Rattle.blink_live.proofs.changed.ChangesAreTheMaps.{states_of-append, none_of_other}

states_if : (is_made : Bool) (change : Change) → states_of change.key (if is_made then change ∷ [] else []) ≡ map (λ (made : Change). made.pointer) (if is_made then change ∷ [] else [])
states_if true change = ap (λ (b : Bool). if b then change.pointer ∷ [] else []) (eq-eqb change.key change.key refl)
states_if false change = refl

-- all that it changes is its own key
states_made : (author : ℕ) (op : Op) (kept : Option ℕ) → states_of (key_of op) (changes_made author op kept) ≡ map (λ (change : Change). change.pointer) (changes_made author op kept)
states_made author op kept = states_if (has_changed (answer_at op kept)) (record { author = author; key = key_of op; pointer = cell_after op kept })

pub own_changes-own_key : (op : Op) (old new : Pass) → IsChangedBy op old new
    → own_changes_of new (key_of op) ≡ own_changes_of old (key_of op) ++ map (λ (change : Change). change.pointer) (changes_made (place_of old) op (pointer_of (share_of old) (key_of op)))
own_changes-own_key op old new changed =
    let made : List Change = changes_made (place_of old) op (pointer_of (share_of old) (key_of op)) in
    ap (states_of (key_of op)) changed.changes
    ∙ (states_of-append (key_of op) (changes_by old) made
    ∙ ap (λ (states : List (Option ℕ)). own_changes_of old (key_of op) ++ states) (states_made (place_of old) op (pointer_of (share_of old) (key_of op))))

pub own_changes-other_key : (op : Op) (old new : Pass) (key : ℕ) → IsChangedBy op old new → key_of op ≢ key → own_changes_of new key ≡ own_changes_of old key
own_changes-other_key op old new key changed differ =
    let made : List Change = changes_made (place_of old) op (pointer_of (share_of old) (key_of op)) in
    ap (states_of key) changed.changes
    ∙ (states_of-append key (changes_by old) made
    ∙ (ap (λ (states : List (Option ℕ)). own_changes_of old key ++ states) (none_of_other (place_of old) op (pointer_of (share_of old) (key_of op)) key differ)
    ∙ append-nil (own_changes_of old key)))

-- between any two calls a pass has seen of its own keys exactly its own changes
pub own_changes-are_seen : (pass : Pass) (key : ℕ) → Contains (keys_of pass) key → seen_changes_of pass key ≡ own_changes_of pass key
own_changes-are_seen pass key mine = pass.own_seen key (subst (λ (keys : List ℕ). Contains keys key) pass.keys_are mine)
