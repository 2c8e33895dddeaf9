-- The change that an operation makes does to the entries, key by key, what the operation does to the map.
use Rattle.std.proofs.Common.{◌≡◌, ◌≢◌, ℕ, zero, suc, Bool, true, false, Option, Some, None, List, [], ◌∷◌, ◌++◌, refl, sym, ap, ◌∙◌, subst, eq-eqb, ne_eqb, inl, inr, arith}
use Rattle.std.specs.Prelude.{if◌then◌else◌}
use Rattle.std.proofs.lemmas.Bool.{cases_eq}
use mathlib.Core.Logic.{dite}
use native.Mathlib.Decide.{ℕ_discrete}
use Rattle.blink_batch.specs.declared.Entry.{Entry}
use Rattle.blink_batch.specs.declared.Op.{Op}
use Rattle.blink_batch.specs.declared.Op.TheVariants.{DeleteExact, Exchange, Find}
use Rattle.blink_batch.specs.{answer_at, cell_after, key_of, map_after, map_at, pointer_of}
use Rattle.blink_batch.proofs.Offered.{pointer_of-map_after_own, pointer_of-map_after_other}
use Rattle.blink_machine.specs.{Expects}
use Rattle.blink_live.specs.declared.view.Change.{Change}
use Rattle.blink_live.specs.Changes.{put, after, states_of, changes_made, has_changed}
use Rattle.blink_live.proofs.table.AccountsStay.{AreBy}
use Rattle.blink_live.proofs.table.MapsWithOneChange.{put_here, put_else}

pub after-append : (f : ℕ → Option ℕ) (xs ys : List Change) (key : ℕ) → after f (xs ++ ys) key ≡ after (after f xs) ys key
after-append f [] ys key = refl
after-append f (change ∷ xs) ys key = after-append (put f change.key change.pointer) xs ys key

pub states_of-append : (key : ℕ) (xs ys : List Change) → states_of key (xs ++ ys) ≡ states_of key xs ++ states_of key ys
states_of-append key [] ys = refl
states_of-append key (change ∷ xs) ys = dite (ℕ_discrete change.key key)
    (λ e.
    ap (λ (b : Bool). if b then change.pointer ∷ states_of key (xs ++ ys) else states_of key (xs ++ ys)) (eq-eqb change.key key e)
    ∙ (ap (λ (l : List (Option ℕ)). change.pointer ∷ l) (states_of-append key xs ys)
    ∙ ap (λ (b : Bool). (if b then change.pointer ∷ states_of key xs else states_of key xs) ++ states_of key ys) (sym (eq-eqb change.key key e))))
    (λ ne.
    ap (λ (b : Bool). if b then change.pointer ∷ states_of key (xs ++ ys) else states_of key (xs ++ ys)) (ne_eqb change.key key ne)
    ∙ (states_of-append key xs ys
    ∙ ap (λ (b : Bool). (if b then change.pointer ∷ states_of key xs else states_of key xs) ++ states_of key ys) (sym (ne_eqb change.key key ne))))

-- an operation that doesn't answer that it made a change leaves the state of its key, and the map
stays_unchanged : (op : Op) (kept : Option ℕ) → has_changed (answer_at op kept) ≡ false → cell_after op kept ≡ kept
stays_unchanged (Find key) kept none = refl
stays_unchanged (Exchange key expected pointer) (Some kept) none = elim (cases_eq kept expected) [
  | inl same ↦ (let changed = rw (eq-eqb kept expected same) at none in absurd (cc))
  | inr differs ↦ rw (ne_eqb kept expected differs) refl
]
stays_unchanged (DeleteExact key expected) (Some kept) none = elim (cases_eq kept expected) [
  | inl same ↦ (let changed = rw (eq-eqb kept expected same) at none in absurd (cc))
  | inr differs ↦ rw (ne_eqb kept expected differs) refl
]
stays_unchanged op (Some kept) none = cc
stays_unchanged op None none = cc

pub map_unchanged : (op : Op) (kept : Option ℕ) (map : List Entry) → has_changed (answer_at op kept) ≡ false → map_at op kept map ≡ map
map_unchanged (Find key) kept map none = refl
map_unchanged (Exchange key expected pointer) (Some kept) map none = elim (cases_eq kept expected) [
  | inl same ↦ (let changed = rw (eq-eqb kept expected same) at none in absurd (cc))
  | inr differs ↦ rw (ne_eqb kept expected differs) refl
]
map_unchanged (DeleteExact key expected) (Some kept) map none = elim (cases_eq kept expected) [
  | inl same ↦ (let changed = rw (eq-eqb kept expected same) at none in absurd (cc))
  | inr differs ↦ rw (ne_eqb kept expected differs) refl
]
map_unchanged op (Some kept) map none = cc
map_unchanged op None map none = cc

-- an operation that doesn't find the pointer that it expects answers so
pub refusal_changes_nothing : (op : Op) (key expected : ℕ) (kept : Option ℕ) → Expects op key expected → (kept ≡ Some expected → ⊥) → has_changed (answer_at op kept) ≡ false
refusal_changes_nothing op key expected (Some kept) (inl is) differs = rw (is.1, ne_eqb kept expected (λ same. differs (ap Some same))) refl
refusal_changes_nothing op key expected (Some kept) (inr is) differs = rw (is, ne_eqb kept expected (λ same. differs (ap Some same))) refl
refusal_changes_nothing op key expected None (inl is) differs = rw is.1 refl
refusal_changes_nothing op key expected None (inr is) differs = rw is refl

-- one change or none, at another key and at its own
module _ (change : Change) where
  abbrev at_most : Bool → List Change
  at_most is_made = if is_made then change ∷ [] else []

  none_else : (is_made : Bool) (key : ℕ) → change.key ≢ key → states_of key (at_most is_made) ≡ []
  none_else true key differ = ap (λ (b : Bool). if b then change.pointer ∷ [] else []) (ne_eqb change.key key differ)
  none_else false key differ = refl

  stays_else : (f : ℕ → Option ℕ) (is_made : Bool) (key : ℕ) → change.key ≢ key → after f (at_most is_made) key ≡ f key
  stays_else f true key differ = put_else f change.key key change.pointer (λ e. differ (sym e))
  stays_else f false key differ = refl

  becomes_here : (f : ℕ → Option ℕ) (is_made : Bool) → (is_made ≡ false → f change.key ≡ change.pointer) → after f (at_most is_made) change.key ≡ change.pointer
  becomes_here f true is = put_here f change.key change.pointer
  becomes_here f false is = is refl

-- what an operation changes, where it changes something
abbrev change_of : ℕ → Op → Option ℕ → Change
change_of author op kept = record { author = author; key = key_of op; pointer = cell_after op kept }

pub none_made : (author : ℕ) (op : Op) (kept : Option ℕ) → has_changed (answer_at op kept) ≡ false → changes_made author op kept ≡ []
none_made author op kept none = ap (at_most (change_of author op kept)) none

-- its author is the operation's
by_author : (change : Change) (is_made : Bool) → AreBy change.author (at_most change is_made)
by_author change true zero d inside = refl
by_author change true (suc k) d inside = absurd (omega (arith, inside))
by_author change false k d inside = absurd (omega (arith, inside))

pub all_by_author : (author : ℕ) (op : Op) (kept : Option ℕ) → AreBy author (changes_made author op kept)
all_by_author author op kept = by_author (change_of author op kept) (has_changed (answer_at op kept))

-- of another key nothing is changed
pub none_of_other : (author : ℕ) (op : Op) (kept : Option ℕ) (key : ℕ) → key_of op ≢ key → states_of key (changes_made author op kept) ≡ []
none_of_other author op kept key differ = none_else (change_of author op kept) (has_changed (answer_at op kept)) key differ

pub other_stays : (author : ℕ) (f : ℕ → Option ℕ) (op : Op) (kept : Option ℕ) (key : ℕ) → key_of op ≢ key → after f (changes_made author op kept) key ≡ f key
other_stays author f op kept key differ = stays_else (change_of author op kept) f (has_changed (answer_at op kept)) key differ

-- and of its own key as the cell is
own_becomes : (author : ℕ) (f : ℕ → Option ℕ) (op : Op) (kept : Option ℕ) → f (key_of op) ≡ kept → after f (changes_made author op kept) (key_of op) ≡ cell_after op kept
own_becomes author f op kept is = becomes_here (change_of author op kept) f (has_changed (answer_at op kept)) (λ none. is ∙ sym (stays_unchanged op kept none))

-- so where a map maps the operation's key and this one to what the changes leave, the map after the operation maps it to what they leave with its own
pub map_is_changed : (author : ℕ) (opening : ℕ → Option ℕ) (log : List Change) (map : List Entry) (op : Op) (kept : Option ℕ) → pointer_of map (key_of op) ≡ kept → after opening log (key_of op) ≡ kept
    → (key : ℕ) → pointer_of map key ≡ after opening log key → pointer_of (map_after map op) key ≡ after opening (log ++ changes_made author op kept) key
map_is_changed author opening log map op kept in_map in_log key is =
    sym (after-append opening log (changes_made author op kept) key ∙ dite (ℕ_discrete (key_of op) key)
    (λ own. subst (λ (k : ℕ). after (after opening log) (changes_made author op kept) k ≡ pointer_of (map_after map op) k) own
    (own_becomes author (after opening log) op kept in_log ∙ (ap (cell_after op) (sym in_map) ∙ sym (pointer_of-map_after_own map op (key_of op) refl))))
    (λ differ. other_stays author (after opening log) op kept key differ ∙ (sym is ∙ sym (pointer_of-map_after_other map op key differ))))
