-- In a growing map in which all sessions but those of one place have made no change, each change was made there.
use Rattle.std.proofs.Common.{◌≡◌, ◌⊎◌, ⊎_elim, ℕ, Option, None, Some, List, [], ◌∷◌, ◌++◌, Bool, length, length-append, refl, sym, ap, ◌∙◌, subst, eq-eqb, arith}
use Rattle.std.specs.Prelude.{All, Any, if◌then◌else◌}
use mathlib.Core.List.{IsPrefix}
use Rattle.blink_batch.specs.declared.Op.TheVariants.{Insert}
use Rattle.blink_live.specs.declared.view.Change.{Change}
use Rattle.blink_live.specs.{after, changes_made, made_at}
use Rattle.blink_live.proofs.Offered.{AreBy, prefix_of_prefix}
use Rattle.blink_generation.specs.{change_to}
use Rattle.blink_map.specs.declared.growing.Session.{Session}
use Rattle.blink_map.specs.{made_by, place_of}
use Rattle.blink_map_laws.proofs.OnlyTwo.{not_made}

pub only_by : (place : ℕ) (sessions : List Session) (final : List Change) → All (λ (s : Session). (made_by s ≡ []) ⊎ (place_of s ≡ place)) sessions
    → All (λ (change : Change). Any (λ (s : Session). place_of s ≡ change.author) sessions) final → All (λ (s : Session). made_at (place_of s) final ≡ made_by s) sessions
    → AreBy place final
only_by place sessions final few theirs made k d inside =
    let it = theirs k d inside in
    let session : Session = it.1 in
    let its_made : made_at (place_of session) final ≡ made_by session = subst (λ (s : Session). made_at (place_of s) final ≡ made_by s) it.3 (made it.0 it.1 it.2) in
    ⊎_elim
    (λ (none : made_by session ≡ []). absurd (not_made (place_of session) final (its_made ∙ none) k d inside (sym it.4)))
    (λ (same : place_of session ≡ place). sym it.4 ∙ same)
    (subst (λ (s : Session). (made_by s ≡ []) ⊎ (place_of s ≡ place)) it.3 (few it.0 it.1 it.2))

-- a prefix of no changes
pub no_prefix : (seen : List Change) → IsPrefix seen [] → seen ≡ []
no_prefix [] is = refl
no_prefix (x ∷ xs) is = let e = is.1 in absurd (cc)

-- a list of no length
no_length : (xs : List Change) → length xs ≡ 0 → xs ≡ []
no_length [] none = refl
no_length (x ∷ xs) none = absurd (omega (arith, none))

-- what comes before one change that is all there is
none_before : (before : List Change) (change : Change) (more : List Change) → (before ++ change ∷ []) ++ more ≡ change ∷ [] → before ≡ []
none_before [] change more is = refl
none_before (x ∷ xs) change more is =
    let one = ap (λ (l : List Change). length l) is in
    let longer = length-append ((x ∷ xs) ++ change ∷ []) more in
    let long = length-append (x ∷ xs) (change ∷ []) in
    absurd (omega (arith, one, longer, long))

-- where one insertion of an absent key is all that was made, whoever has seen it has seen the key with its pointer
module _ (start : ℕ → Option ℕ) (place key pointer : ℕ) (absent : start key ≡ None) (before seen : List Change) where
  pub shown : (kept : Option ℕ) → after start before key ≡ kept → (made final : List Change) → made ≡ changes_made place (Insert key pointer) kept → final ≡ made
      → IsPrefix (before ++ made) seen → IsPrefix seen final → after start seen key ≡ Some pointer
  shown (Some there) kept_is made final made_is is goes_on saw =
      let none : before ++ made ≡ [] =
      no_prefix (before ++ made) (subst (λ (l : List Change). IsPrefix (before ++ made) l) (is ∙ made_is) (prefix_of_prefix (before ++ made) seen final goes_on saw)) in
      let none_first : before ≡ [] = empty before made none in
      let e : None ≡ Some there = sym absent ∙ (ap (λ (l : List Change). after start l key) (sym none_first) ∙ kept_is) in
      absurd (cc)
    where
      empty : (xs ys : List Change) → xs ++ ys ≡ [] → xs ≡ []
      empty [] ys e = refl
      empty (x ∷ xs) ys e = absurd (cc)
  shown None kept_is made final made_is is goes_on saw =
      let change : Change = change_to place key pointer in
      let whole : IsPrefix (before ++ change ∷ []) (change ∷ []) =
      subst (λ (l : List Change). IsPrefix (before ++ l) l) made_is (subst (λ (l : List Change). IsPrefix (before ++ made) l) is (prefix_of_prefix (before ++ made) seen final goes_on saw)) in
      let none : before ≡ [] = none_before before change whole.0 whole.1 in
      let least : IsPrefix (change ∷ []) seen = subst (λ (l : List Change). IsPrefix (l ++ change ∷ []) seen) none (subst (λ (l : List Change). IsPrefix (before ++ l) seen) made_is goes_on) in
      let most : IsPrefix seen (change ∷ []) = subst (λ (l : List Change). IsPrefix seen l) (is ∙ made_is) saw in
      ap (λ (l : List Change). after start l key) (same seen least most) ∙ put_there
    where
      put_there : after start (change_to place key pointer ∷ []) key ≡ Some pointer
      put_there = ap (λ (b : Bool). if b then Some pointer else start key) (eq-eqb key key refl)

      -- a list between a list and itself is that list
      same : (l : List Change) → IsPrefix (change_to place key pointer ∷ []) l → IsPrefix l (change_to place key pointer ∷ []) → l ≡ change_to place key pointer ∷ []
      same l least most =
          let one = ap (λ (l : List Change). length l) least.1 in
          let longer = length-append (change_to place key pointer ∷ []) least.0 in
          let other = ap (λ (l : List Change). length l) most.1 in
          let long = length-append l most.0 in
          let none : least.0 ≡ [] = no_length least.0 (omega (arith, one, longer, other, long)) in
          sym least.1 ∙ ap (λ (m : List Change). change_to place key pointer ∷ m) none
