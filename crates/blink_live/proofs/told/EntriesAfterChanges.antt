-- The entries after some changes map each key as the changes leave it.
use Rattle.std.proofs.Common.{◌≡◌, ◌≢◌, ℕ, Option, Some, None, List, [], ◌∷◌, refl, sym, ap, ◌∙◌, subst}
use mathlib.Core.Logic.{dite}
use native.Mathlib.Decide.{ℕ_discrete}
use Rattle.blink_batch.specs.declared.Entry.{Entry}
use Rattle.blink_batch.specs.declared.Op.TheVariants.{Delete, Insert}
use Rattle.blink_batch.specs.{cell_after, map_after, pointer_of}
use Rattle.blink_batch.proofs.Offered.{pointer_of-map_after_own, pointer_of-map_after_other}
use Rattle.blink_live.specs.declared.view.Change.{Change}
use Rattle.blink_live.specs.Changes.{put, after, entries_after, last_state, states_of, with_pointer}
use Rattle.blink_live.proofs.table.MapsWithOneChange.{put_here, put_else}
use Rattle.blink_live.proofs.told.StatesOfKeys.{after-last_state}

-- where a key has the same states after two lists of changes, it maps to the same
pub after-same_states : (f : ℕ → Option ℕ) (one other : List Change) (key : ℕ) → states_of key one ≡ states_of key other → after f one key ≡ after f other key
after-same_states f one other key same = after-last_state f one key ∙ (ap (last_state (f key)) same ∙ sym (after-last_state f other key))

after-same_first : (f g : ℕ → Option ℕ) (changes : List Change) (key : ℕ) → f key ≡ g key → after f changes key ≡ after g changes key
after-same_first f g changes key same =
    after-last_state f changes key ∙ (ap (λ (first : Option ℕ). last_state first (states_of key changes)) same ∙ sym (after-last_state g changes key))

pub with_pointer-own : (entries : List Entry) (key : ℕ) (pointer : Option ℕ) → pointer_of (with_pointer entries key pointer) key ≡ pointer
with_pointer-own entries key None = pointer_of-map_after_own entries (Delete key) key refl
with_pointer-own entries key (Some pointer) =
    pointer_of-map_after_own (map_after entries (Delete key)) (Insert key pointer) key refl ∙ ap (cell_after (Insert key pointer)) (pointer_of-map_after_own entries (Delete key) key refl)

pub with_pointer-other : (entries : List Entry) (at : ℕ) (pointer : Option ℕ) (key : ℕ) → at ≢ key → pointer_of (with_pointer entries at pointer) key ≡ pointer_of entries key
with_pointer-other entries at None key differ = pointer_of-map_after_other entries (Delete at) key differ
with_pointer-other entries at (Some pointer) key differ =
    pointer_of-map_after_other (map_after entries (Delete at)) (Insert at pointer) key differ ∙ pointer_of-map_after_other entries (Delete at) key differ

with_pointer-put : (entries : List Entry) (at : ℕ) (pointer : Option ℕ) (key : ℕ) → pointer_of (with_pointer entries at pointer) key ≡ put (pointer_of entries) at pointer key
with_pointer-put entries at pointer key = dite (ℕ_discrete at key)
    (λ own. subst (λ (k : ℕ). pointer_of (with_pointer entries at pointer) k ≡ put (pointer_of entries) at pointer k) own
    (with_pointer-own entries at pointer ∙ sym (put_here (pointer_of entries) at pointer)))
    (λ differ. with_pointer-other entries at pointer key differ ∙ sym (put_else (pointer_of entries) at key pointer (λ e. differ (sym e))))

pub entries_after-state : (entries : List Entry) (changes : List Change) (key : ℕ) → pointer_of (entries_after entries changes) key ≡ after (pointer_of entries) changes key
entries_after-state entries [] key = refl
entries_after-state entries (change ∷ rest) key =
    entries_after-state (with_pointer entries change.key change.pointer) rest key
    ∙ after-same_first (pointer_of (with_pointer entries change.key change.pointer)) (put (pointer_of entries) change.key change.pointer) rest key (with_pointer-put entries change.key change.pointer key)
