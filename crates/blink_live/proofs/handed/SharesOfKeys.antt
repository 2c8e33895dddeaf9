-- What a share says of a key once it has some keys of another share.
use Rattle.std.proofs.Common.{◌≡◌, ◌≢◌, ℕ, Bool, true, false, Option, List, [], ◌∷◌, ◌++◌, refl, sym, ap, ◌∙◌, subst, eq-eqb, ne_eqb, true≢false}
use Rattle.std.specs.Prelude.{if◌then◌else◌, filter, not}
use mathlib.Core.List.{append-nil}
use mathlib.Core.Logic.{dite}
use native.Mathlib.Decide.{ℕ_discrete}
use Rattle.blink_batch.specs.declared.Entry.{Entry}
use Rattle.blink_batch.specs.{pointer_of}
use Rattle.blink_live.specs.declared.view.Change.{Change}
use Rattle.blink_live.specs.Changes.{states_of, with_pointer}
use Rattle.blink_live.specs.Parcels.{changes_but, with_those}
use Rattle.blink_live.specs.Views.{changes_of, is_among}
use Rattle.blink_live.proofs.changed.ChangesAreTheMaps.{states_of-append}
use Rattle.blink_live.proofs.dealt.KeysOfShare.{among_first, among_rest}
use Rattle.blink_live.proofs.told.EntriesAfterChanges.{with_pointer-own, with_pointer-other}

-- ---- changes of the keys that pass a test

abbrev those : (ℕ → Bool) → List Change → List Change
those test changes = filter (λ (change : Change). test change.key) changes

states_kept : (test : ℕ → Bool) (changes : List Change) (key : ℕ) → test key ≡ true → states_of key (those test changes) ≡ states_of key changes
states_kept test [] key is = refl
states_kept test (change ∷ rest) key is = dite (ℕ_discrete change.key key)
    (λ same.
    ap (λ (b : Bool). states_of key (if b then change ∷ those test rest else those test rest)) (ap test same ∙ is)
    ∙ (ap (λ (b : Bool). if b then change.pointer ∷ states_of key (those test rest) else states_of key (those test rest)) (eq-eqb change.key key same)
    ∙ (ap (λ (states : List (Option ℕ)). change.pointer ∷ states) (states_kept test rest key is)
    ∙ sym (ap (λ (b : Bool). if b then change.pointer ∷ states_of key rest else states_of key rest) (eq-eqb change.key key same)))))
    (λ ne.
    kept (test change.key) ne
    ∙ (states_kept test rest key is
    ∙ sym (ap (λ (b : Bool). if b then change.pointer ∷ states_of key rest else states_of key rest) (ne_eqb change.key key ne))))
  where
    kept : (b : Bool) → change.key ≢ key → states_of key (if b then change ∷ those test rest else those test rest) ≡ states_of key (those test rest)
    kept true ne = ap (λ (b : Bool). if b then change.pointer ∷ states_of key (those test rest) else states_of key (those test rest)) (ne_eqb change.key key ne)
    kept false ne = refl

states_gone : (test : ℕ → Bool) (changes : List Change) (key : ℕ) → test key ≡ false → states_of key (those test changes) ≡ []
states_gone test [] key is = refl
states_gone test (change ∷ rest) key is = dite (ℕ_discrete change.key key)
    (λ same. ap (λ (b : Bool). states_of key (if b then change ∷ those test rest else those test rest)) (ap test same ∙ is) ∙ states_gone test rest key is)
    (λ ne. gone (test change.key) ne ∙ states_gone test rest key is)
  where
    gone : (b : Bool) → change.key ≢ key → states_of key (if b then change ∷ those test rest else those test rest) ≡ states_of key (those test rest)
    gone true ne = ap (λ (b : Bool). if b then change.pointer ∷ states_of key (those test rest) else states_of key (those test rest)) (ne_eqb change.key key ne)
    gone false ne = refl

-- ---- the changes of two shares

-- of the other share's keys these are the other's changes
pub states_theirs : (keys : List ℕ) (theirs mine : List Change) (key : ℕ) → is_among keys key ≡ true → states_of key (changes_of keys theirs ++ changes_but keys mine) ≡ states_of key theirs
states_theirs keys theirs mine key among =
    states_of-append key (changes_of keys theirs) (changes_but keys mine)
    ∙ ((λ i. states_kept (is_among keys) theirs key among i ++ states_gone (λ (k : ℕ). not (is_among keys k)) mine key (ap not among) i)
    ∙ append-nil (states_of key theirs))

-- and of the others the share's own
pub states_mine : (keys : List ℕ) (theirs mine : List Change) (key : ℕ) → is_among keys key ≡ false → states_of key (changes_of keys theirs ++ changes_but keys mine) ≡ states_of key mine
states_mine keys theirs mine key apart =
    states_of-append key (changes_of keys theirs) (changes_but keys mine)
    ∙ (λ i. states_gone (is_among keys) theirs key apart i ++ states_kept (λ (k : ℕ). not (is_among keys k)) mine key (ap not apart) i)

-- ---- their entries

pub with_those-own : (keys : List ℕ) (others entries : List Entry) (key : ℕ) → is_among keys key ≡ true → pointer_of (with_those keys others entries) key ≡ pointer_of others key
with_those-own [] others entries key is = absurd (true≢false (sym is))
with_those-own (first ∷ rest) others entries key is = dite (ℕ_discrete first key)
    (λ same. subst (λ (k : ℕ). pointer_of (with_pointer (with_those rest others entries) first (pointer_of others first)) k ≡ pointer_of others k) same
    (with_pointer-own (with_those rest others entries) first (pointer_of others first)))
    (λ ne. with_pointer-other (with_those rest others entries) first (pointer_of others first) key ne ∙ with_those-own rest others entries key (sym (among_rest first rest key ne) ∙ is))

pub with_those-other : (keys : List ℕ) (others entries : List Entry) (key : ℕ) → is_among keys key ≡ false → pointer_of (with_those keys others entries) key ≡ pointer_of entries key
with_those-other [] others entries key is = refl
with_those-other (first ∷ rest) others entries key is =
    let ne : first ≢ key = λ e. true≢false (sym (among_first first rest key e) ∙ is) in
    with_pointer-other (with_those rest others entries) first (pointer_of others first) key ne ∙ with_those-other rest others entries key (sym (among_rest first rest key ne) ∙ is)
