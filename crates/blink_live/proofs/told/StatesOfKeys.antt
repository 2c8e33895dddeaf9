-- What lists of changes say of one key: a longer list gives it more states, and the last of them is what it maps to.
use Rattle.std.proofs.Common.{◌≡◌, ℕ, Bool, Option, List, [], ◌∷◌, ◌++◌, refl, sym, ap, ◌∙◌, subst, eq-eqb, ne_eqb}
use Rattle.std.specs.Prelude.{if◌then◌else◌}
use mathlib.Core.List.{IsPrefix}
use mathlib.Core.Logic.{dite}
use native.Mathlib.Decide.{ℕ_discrete}
use Rattle.blink_live.specs.declared.view.Change.{Change}
use Rattle.blink_live.specs.Changes.{put, after, states_of, last_state}
use Rattle.blink_live.proofs.changed.ChangesAreTheMaps.{states_of-append}
use Rattle.blink_live.proofs.table.MapsWithOneChange.{put_else}

-- a prefix of a list gives a key a prefix of its states
pub states_of-prefix : (key : ℕ) (seen more : List Change) → IsPrefix seen more → IsPrefix (states_of key seen) (states_of key more)
states_of-prefix key seen more is = (states_of key is.0, sym (states_of-append key seen is.0) ∙ ap (states_of key) is.1)

-- the key maps to the last of its states
pub after-last_state : (f : ℕ → Option ℕ) (changes : List Change) (key : ℕ) → after f changes key ≡ last_state (f key) (states_of key changes)
after-last_state f [] key = refl
after-last_state f (change ∷ rest) key = after-last_state (put f change.key change.pointer) rest key ∙ dite (ℕ_discrete change.key key)
    (λ e.
    ap (λ (b : Bool). last_state (if b then change.pointer else f key) (states_of key rest)) (eq-eqb key change.key (sym e))
    ∙ sym (ap (λ (b : Bool). last_state (f key) (if b then change.pointer ∷ states_of key rest else states_of key rest)) (eq-eqb change.key key e)))
    (λ ne.
    ap (λ (state : Option ℕ). last_state state (states_of key rest)) (put_else f change.key key change.pointer (λ e. ne (sym e)))
    ∙ sym (ap (λ (b : Bool). last_state (f key) (if b then change.pointer ∷ states_of key rest else states_of key rest)) (ne_eqb change.key key ne)))

-- two lists, each a prefix of the other, are one
pub prefixes_of_each_other : {A : Type 0} (first second : List A) → IsPrefix first second → IsPrefix second first → first ≡ second
prefixes_of_each_other [] [] one two = refl
prefixes_of_each_other [] (y ∷ second) one two = absurd (let e = two.1 in cc)
prefixes_of_each_other (x ∷ first) [] one two = absurd (let e = one.1 in cc)
prefixes_of_each_other (x ∷ first) (y ∷ second) one two =
    let same : x ≡ y = let e = one.1 in cc in
    let rest : first ≡ second = prefixes_of_each_other first second (one.0, let e = one.1 in cc) (two.0, let e = two.1 in cc) in
    λ i. same i ∷ rest i

-- so where a key's states were these at first, and later are no more, the key maps to the last of these
pub after-exactly : (f : ℕ → Option ℕ) (key : ℕ) (first later : List Change) (states : List (Option ℕ)) → states_of key first ≡ states → IsPrefix first later → IsPrefix (states_of key later) states → after f later key ≡ last_state (f key) states
after-exactly f key first later states at_first prefix no_more =
    let no_fewer : IsPrefix states (states_of key later) = subst (λ (list : List (Option ℕ)). IsPrefix list (states_of key later)) at_first (states_of-prefix key first later prefix) in
    after-last_state f later key ∙ ap (last_state (f key)) (prefixes_of_each_other (states_of key later) states no_more no_fewer)

-- the last of states to which one was added is that one
pub last_state-push : (first : Option ℕ) (states : List (Option ℕ)) (state : Option ℕ) → last_state first (states ++ state ∷ []) ≡ state
last_state-push first [] state = refl
last_state-push first (next ∷ states) state = last_state-push next states state
