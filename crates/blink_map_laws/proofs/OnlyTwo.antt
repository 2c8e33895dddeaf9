-- In a growing map whose sessions are all as they were dealt but two, each change was made by one of the two.
use Rattle.std.proofs.Common.{◌≡◌, ◌≢◌, inl, inr, ◌<◌, ℕ, zero, suc, ◌+◌, Result, Ok, List, [], ◌∷◌, ◌++◌, get_or, length, refl, sym, ap, ◌∙◌, subst, eq-eqb, ne_eqb, arith}
use Rattle.std.specs.Prelude.{All, Bool, IfOk, if◌then◌else◌}
use Rattle.std.proofs.lemmas.List.{get_or_append_left, get_or_at, length_push}
use Rattle.std.proofs.lemmas.List.Elements.{All-push}
use mathlib.Core.Logic.{dite}
use native.Mathlib.Decide.{ℕ_discrete}
use Rattle.blink_live.specs.declared.view.Change.{Change}
use Rattle.blink_live.specs.{made_at}
use Rattle.blink_map.specs.declared.growing.GrowingMap.{GrowingMap}
use Rattle.blink_map.specs.declared.growing.Session.{Session}
use Rattle.blink_map.specs.{AreFirstSessions, HasSameSlot, IsFirstAt, IsListOf, IsSessionOf, made_by, place_of, places_of}
use Rattle.blink_map_laws.proofs.NobodyElse.{got, there_is}
use Rattle.blink_map_laws.proofs.OneIsFirst.{AreByTwo}

-- what a result holds
pub in_ok : {X E : Type 0} (r : Result X E) (P : X → Type 0) (x : X) → r ≡ Ok x → IfOk r P → P x
in_ok {X = X} {E = E} r P x is holds = subst (λ (q : Result X E). IfOk q P) is holds

-- ---- a list with two more behind it

module _ (rest : List Session) (b a d : Session) where
  pub width : length ((rest ++ b ∷ []) ++ a ∷ []) ≡ length rest + 2
  width = let one = length_push rest b in let two = length_push (rest ++ b ∷ []) a in omega (arith, one, two)

  pub at_last : get_or ((rest ++ b ∷ []) ++ a ∷ []) (length rest + 1) d ≡ a
  at_last = get_or_at (rest ++ b ∷ []) a [] d (length rest + 1) (length_push rest b)

  pub before_last : get_or ((rest ++ b ∷ []) ++ a ∷ []) (length rest) d ≡ b
  before_last = let one = length_push rest b in get_or_append_left (rest ++ b ∷ []) (a ∷ []) d (length rest) (omega (arith, one)) ∙ get_or_at rest b [] d (length rest) refl

  pub early : (k : ℕ) → k < length rest → get_or ((rest ++ b ∷ []) ++ a ∷ []) k d ≡ get_or rest k d
  early k inside = let one = length_push rest b in get_or_append_left (rest ++ b ∷ []) (a ∷ []) d k (omega (arith, one, inside)) ∙ get_or_append_left rest (b ∷ []) d k inside

-- ---- whose the changes are

-- where no change was made at a place, none of them has it
pub not_made : (place : ℕ) (final : List Change) → made_at place final ≡ [] → (k : ℕ) (d : Change) → k < length final → (get_or final k d).author ≢ place
not_made place [] none k d inside same = absurd (omega (arith, inside))
not_made place (change ∷ rest) none k d inside same = dite (ℕ_discrete change.author place)
    (λ is. absurd (let e : change ∷ made_at place rest ≡ [] = sym (ap (λ (b : Bool). if b then change ∷ made_at place rest else made_at place rest) (eq-eqb change.author place is)) ∙ none in cc))
    (λ is_not. at k inside same is_not (λ n within. not_made place rest (fewer is_not) n d within))
  where
    later : change.author ≢ place → made_at place (change ∷ rest) ≡ made_at place rest
    later differ = ap (λ (b : Bool). if b then change ∷ made_at place rest else made_at place rest) (ne_eqb change.author place differ)

    fewer : change.author ≢ place → made_at place rest ≡ []
    fewer is_not = sym (later is_not) ∙ none

    at : (k : ℕ) → k < length (change ∷ rest) → (get_or (change ∷ rest) k d).author ≡ place → change.author ≢ place → ((n : ℕ) → n < length rest → (get_or rest n d).author ≢ place) → ⊥
    at zero within same differ others = differ same
    at (suc n) within same differ others = others n (omega (arith, within)) same

pub still_its : (map : GrowingMap) (old new : Session) → IsSessionOf map old → HasSameSlot old new → IsSessionOf map new
still_its map old new its same = record { same_table = same.same_table ∙ its.same_table; same_first = same.same_first ∙ its.same_first }

module _ (map : GrowingMap) (rest : List Session) (other one : Session) (first : AreFirstSessions map ((rest ++ other ∷ []) ++ one ∷ [])) where
  pub first_at : (k : ℕ) (d : Session) → k < length ((rest ++ other ∷ []) ++ one ∷ []) → IsFirstAt map k (get_or ((rest ++ other ∷ []) ++ one ∷ []) k d)
  first_at k d inside =
      let it = there_is ((rest ++ other ∷ []) ++ one ∷ []) k inside in
      subst (IsFirstAt map k) (sym (got ((rest ++ other ∷ []) ++ one ∷ []) k it.0 d it.1)) (first.each k it.0 it.1)

  pub ones_first : IsFirstAt map (length rest + 1) one
  ones_first = let long = width rest other one one in subst (IsFirstAt map (length rest + 1)) (at_last rest other one one) (first_at (length rest + 1) one (omega (arith, long)))

  pub others_first : IsFirstAt map (length rest) other
  others_first = let long = width rest other one one in subst (IsFirstAt map (length rest)) (before_last rest other one one) (first_at (length rest) one (omega (arith, long)))

  -- all that come back are the map's
  pub all_its : (new_other new_one : Session) → HasSameSlot other new_other → HasSameSlot one new_one → All (IsSessionOf map) ((rest ++ new_other ∷ []) ++ new_one ∷ [])
  all_its new_other new_one others ones =
      let long = width rest other one one in
      All-push (IsSessionOf map) (rest ++ new_other ∷ []) new_one
      (All-push (IsSessionOf map) rest new_other
      (λ k d inside. (subst (IsFirstAt map k) (early rest other one d k inside) (first_at k d (omega (arith, long, inside)))).its_own)
      (still_its map other new_other others_first.its_own others))
      (still_its map one new_one ones_first.its_own ones)

  module _ (new_other new_one : Session) (final : List Change) (closed : IsListOf map ((rest ++ new_other ∷ []) ++ new_one ∷ []) final) where
    pub none_at : (place : ℕ) → place < length rest → made_at place final ≡ []
    none_at place inside =
        let long = width rest other one one in
        let wide = width rest new_other new_one one in
        let session : Session = get_or rest place one in
        let is : IsFirstAt map place session = subst (IsFirstAt map place) (early rest other one one place inside) (first_at place one (omega (arith, long, inside))) in
        let its : made_at (place_of session) final ≡ made_by session =
        subst (λ (s : Session). made_at (place_of s) final ≡ made_by s) (early rest new_other new_one one place inside) (closed.made place one (omega (arith, wide, inside))) in
        ap (λ (p : ℕ). made_at p final) (sym is.its_place) ∙ (its ∙ is.none_made)

    pub by_the_two : AreByTwo (place_of one) (place_of other) final
    by_the_two k d inside =
        let change : Change = get_or final k d in
        let in_range : change.author < places_of map = closed.authors k d inside in
        let long = width rest other one one in
        let all = first.width in
        let ones = ones_first.its_place in
        let others = others_first.its_place in
        dite (ℕ_discrete change.author (place_of one)) (λ is. inl is)
        (λ not_one. dite (ℕ_discrete change.author (place_of other)) (λ is. inr is)
        (λ not_other. absurd (not_made change.author final (none_at change.author (omega (arith, in_range, long, all, ones, others, not_one, not_other))) k d inside refl)))
