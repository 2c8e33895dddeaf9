-- The entries of some keys, and their changes.
use Rattle.std.proofs.Common.{◌≡◌, ◌≢◌, ℕ, zero, suc, Bool, true, false, Option, Some, List, [], ◌∷◌, refl, sym, ap, ◌∙◌, eq-eqb, ne_eqb, true≢false, arith}
use Rattle.std.specs.Prelude.{if◌then◌else◌, ◌||◌, Contains}
use Rattle.std.specs.List.Sorted.{IsPermutation}
use Rattle.std.proofs.lemmas.List.Sorted.{Contains-permutation, IsPermutation-sym}
use mathlib.Core.Logic.{dite}
use native.Mathlib.Decide.{ℕ_discrete}
use Rattle.blink_batch.specs.declared.Entry.{Entry}
use Rattle.blink_batch.specs.{pointer_of}
use Rattle.blink_live.specs.declared.view.Change.{Change}
use Rattle.blink_live.specs.declared.view.View.{View}
use Rattle.blink_live.specs.Changes.{states_of}
use Rattle.blink_live.specs.Views.{SawItsOwn, is_among, entries_of, changes_of, gets_first}

-- ---- one of some keys

pub among_first : (first : ℕ) (rest : List ℕ) (key : ℕ) → first ≡ key → is_among (first ∷ rest) key ≡ true
among_first first rest key e = ap (λ (b : Bool). b || is_among rest key) (eq-eqb first key e)

pub among_rest : (first : ℕ) (rest : List ℕ) (key : ℕ) → first ≢ key → is_among (first ∷ rest) key ≡ is_among rest key
among_rest first rest key ne = ap (λ (b : Bool). b || is_among rest key) (ne_eqb first key ne)

pub among_from_contains : (keys : List ℕ) (key : ℕ) → Contains keys key → is_among keys key ≡ true
among_from_contains [] key is = absurd (let inside = is.1 in omega (arith, inside))
among_from_contains (first ∷ rest) key (zero, inside, is) = among_first first rest key is
among_from_contains (first ∷ rest) key (suc k, inside, is) = dite (ℕ_discrete first key)
    (λ e. among_first first rest key e)
    (λ ne. among_rest first rest key ne ∙ among_from_contains rest key (k, omega (arith, inside), is))

pub contains_from_among : (keys : List ℕ) (key : ℕ) → is_among keys key ≡ true → Contains keys key
contains_from_among [] key is = absurd (true≢false (sym is))
contains_from_among (first ∷ rest) key is = dite (ℕ_discrete first key)
    (λ e. (0, omega arith, e))
    (λ ne. let there = contains_from_among rest key (sym (among_rest first rest key ne) ∙ is) in (suc there.0, let inside = there.1 in omega (arith, inside), there.2))

-- ---- the entries of some keys

pub entries_of_keep : (keys : List ℕ) (entries : List Entry) (key : ℕ) → is_among keys key ≡ true → pointer_of (entries_of keys entries) key ≡ pointer_of entries key
entries_of_keep keys [] key is = refl
entries_of_keep keys (e ∷ rest) key is = dite (ℕ_discrete e.key key)
    (λ same.
    let has : is_among keys e.key ≡ true = ap (is_among keys) same ∙ is in
    ap (λ (b : Bool). pointer_of (if b then e ∷ entries_of keys rest else entries_of keys rest) key) has
    ∙ (ap (λ (b : Bool). if b then Some e.pointer else pointer_of (entries_of keys rest) key) (eq-eqb e.key key same)
    ∙ sym (ap (λ (b : Bool). if b then Some e.pointer else pointer_of rest key) (eq-eqb e.key key same))))
    (λ ne.
    kept (is_among keys e.key) ne
    ∙ (entries_of_keep keys rest key is
    ∙ sym (ap (λ (b : Bool). if b then Some e.pointer else pointer_of rest key) (ne_eqb e.key key ne))))
  where
    kept : (b : Bool) → e.key ≢ key → pointer_of (if b then e ∷ entries_of keys rest else entries_of keys rest) key ≡ pointer_of (entries_of keys rest) key
    kept true ne = ap (λ (b : Bool). if b then Some e.pointer else pointer_of (entries_of keys rest) key) (ne_eqb e.key key ne)
    kept false ne = refl

-- ---- the changes of some keys

pub changes_of_keep : (keys : List ℕ) (changes : List Change) (key : ℕ) → is_among keys key ≡ true → states_of key (changes_of keys changes) ≡ states_of key changes
changes_of_keep keys [] key is = refl
changes_of_keep keys (change ∷ rest) key is = dite (ℕ_discrete change.key key)
    (λ same.
    let has : is_among keys change.key ≡ true = ap (is_among keys) same ∙ is in
    ap (λ (b : Bool). states_of key (if b then change ∷ changes_of keys rest else changes_of keys rest)) has
    ∙ (ap (λ (b : Bool). if b then change.pointer ∷ states_of key (changes_of keys rest) else states_of key (changes_of keys rest)) (eq-eqb change.key key same)
    ∙ (ap (λ (states : List (Option ℕ)). change.pointer ∷ states) (changes_of_keep keys rest key is)
    ∙ sym (ap (λ (b : Bool). if b then change.pointer ∷ states_of key rest else states_of key rest) (eq-eqb change.key key same)))))
    (λ ne.
    kept (is_among keys change.key) ne
    ∙ (changes_of_keep keys rest key is
    ∙ sym (ap (λ (b : Bool). if b then change.pointer ∷ states_of key rest else states_of key rest) (ne_eqb change.key key ne))))
  where
    kept : (b : Bool) → change.key ≢ key → states_of key (if b then change ∷ changes_of keys rest else changes_of keys rest) ≡ states_of key (changes_of keys rest)
    kept true ne = ap (λ (b : Bool). if b then change.pointer ∷ states_of key (changes_of keys rest) else states_of key (changes_of keys rest)) (ne_eqb change.key key ne)
    kept false ne = refl

-- so a new pass has seen of its keys exactly the changes of its share
pub new_saw_its_own : (v : View) (rows pages : ℕ) (keys : List ℕ) → SawItsOwn (gets_first v rows pages keys)
new_saw_its_own v rows pages keys key has = sym (changes_of_keep keys v.seen key (among_from_contains keys key has))

-- ---- the same keys in another order have the same entries, and the same changes

same_among : (keys others : List ℕ) → IsPermutation keys others → (key : ℕ) → is_among others key ≡ is_among keys key
same_among keys others moved key = go (is_among others key) refl (is_among keys key) refl
  where
    go : (a : Bool) → is_among others key ≡ a → (b : Bool) → is_among keys key ≡ b → a ≡ b
    go true is_a true is_b = refl
    go true is_a false is_b = absurd (true≢false (sym (among_from_contains keys key (Contains-permutation others keys key (IsPermutation-sym keys others moved) (contains_from_among others key is_a))) ∙ is_b))
    go false is_a true is_b = absurd (true≢false (sym (among_from_contains others key (Contains-permutation keys others key moved (contains_from_among keys key is_b))) ∙ is_a))
    go false is_a false is_b = refl

pub same_entries : (keys others : List ℕ) → IsPermutation keys others → (entries : List Entry) → entries_of others entries ≡ entries_of keys entries
same_entries keys others moved [] = refl
same_entries keys others moved (e ∷ rest) = λ i. if same_among keys others moved e.key i then e ∷ same_entries keys others moved rest i else same_entries keys others moved rest i

pub same_changes : (keys others : List ℕ) → IsPermutation keys others → (changes : List Change) → changes_of others changes ≡ changes_of keys changes
same_changes keys others moved [] = refl
same_changes keys others moved (c ∷ rest) = λ i. if same_among keys others moved c.key i then c ∷ same_changes keys others moved rest i else same_changes keys others moved rest i
