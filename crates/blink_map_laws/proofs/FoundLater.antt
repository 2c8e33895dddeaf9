-- What the last sessions of a map find, where the others are as they were dealt, from its opening to its close.
use Rattle.std.proofs.Common.{◌≡◌, ◌⊎◌, inl, inr, ℕ, Option, None, Some, List, [], ◌∷◌, ◌++◌, refl, sym, ap, ◌∙◌, subst, arith}
use Rattle.std.specs.Prelude.{All, Any}
use Rattle.std.proofs.lemmas.List.{length_push}
use Rattle.std.proofs.lemmas.List.Elements.{All-pop, All-push, All-weaker}
use mathlib.Core.List.{IsPrefix}
use Rattle.blink_batch.specs.declared.Answer.{Answer}
use Rattle.blink_batch.specs.declared.Entry.{Entry}
use Rattle.blink_batch.specs.declared.Op.TheVariants.{Insert}
use Rattle.blink_batch.specs.{pointer_of}
use Rattle.blink_live.specs.declared.view.Change.{Change}
use Rattle.blink_live.specs.{after, changes_made, made_at}
use Rattle.blink_live.proofs.Offered.{made_here, prefix_of_prefix}
use Rattle.blink_map.specs.declared.growing.GrowingMap.{GrowingMap}
use Rattle.blink_map.specs.declared.growing.Session.{Session}
use Rattle.blink_map.specs.{AreFirstSessions, IsAnswered, IsClosedWith, IsSameBesideSeen, IsSessionOf, made_by, opening_of, place_of, seen_by}
use Rattle.blink_map_laws.proofs.AllCameBack.{all_theirs}
use Rattle.blink_map_laws.proofs.HeldFor.{its_after}
use Rattle.blink_map_laws.proofs.NobodyElse.{got, there_is}
use Rattle.blink_map_laws.proofs.OnlyOne.{no_prefix, only_by, shown}
use Rattle.blink_map_laws.proofs.OnlyTwo.{not_made, still_its}

-- the session is one of the map's, and has made no change
abbrev pub IsUnused : GrowingMap → Session → Type 0
IsUnused map session = IsSessionOf map session × (made_by session ≡ [])

unused : (map : GrowingMap) (sessions : List Session) → AreFirstSessions map sessions → All (IsUnused map) sessions
unused map sessions first k d inside =
    let it = there_is sessions k inside in
    let is = first.each k it.0 it.1 in
    subst (IsUnused map) (sym (got sessions k it.0 d it.1)) (is.its_own, is.none_made)

-- a session that has only seen more has made no change still
unused_after : (map : GrowingMap) (old new : Session) → IsUnused map old → IsSameBesideSeen old new → IsUnused map new
unused_after map old new is same = (its_after map old new is.0 same, same.made ∙ is.1)

-- where no session has made a change there is none
nobody : (sessions : List Session) (final : List Change) → All (λ (s : Session). made_by s ≡ []) sessions
    → All (λ (change : Change). Any (λ (s : Session). place_of s ≡ change.author) sessions) final → All (λ (s : Session). made_at (place_of s) final ≡ made_by s) sessions
    → final ≡ []
nobody sessions [] none theirs made = refl
nobody sessions (change ∷ more) none theirs made =
    let it = theirs 0 change (omega arith) in
    let session : Session = it.1 in
    let its_made : made_at (place_of session) (change ∷ more) ≡ [] =
    subst (λ (s : Session). made_at (place_of s) (change ∷ more) ≡ []) it.3 (made it.0 it.1 it.2 ∙ none it.0 it.1 it.2) in
    absurd (not_made (place_of session) (change ∷ more) its_made 0 change (omega arith) (sym it.4))

-- the last one looks a key up
module _ (map : GrowingMap) (rest : List Session) (session new : Session) (first : AreFirstSessions map (rest ++ session ∷ [])) (same : IsSameBesideSeen session new) where
  all_unused : All (IsUnused map) (rest ++ new ∷ [])
  all_unused =
      let parts = All-pop (IsUnused map) (rest ++ session ∷ []) rest (Some session) refl (unused map (rest ++ session ∷ []) first) in
      All-push (IsUnused map) rest new parts.0 (unused_after map session new parts.1 same)

  pub ones_its : All (IsSessionOf map) (rest ++ new ∷ [])
  ones_its = All-weaker (IsUnused map) (IsSessionOf map) (λ s is. is.0) (rest ++ new ∷ []) all_unused

  pub finds_opening : (entries : List Entry) (key : ℕ) → IsClosedWith map (rest ++ new ∷ []) entries → after (pointer_of (opening_of map)) (seen_by new) key ≡ pointer_of (opening_of map) key
  finds_opening entries key closed =
      let were = first.width in
      let old_width = length_push rest session in
      let new_width = length_push rest new in
      let theirs = all_theirs map (rest ++ new ∷ []) entries ones_its (omega (arith, were, old_width, new_width)) closed in
      let none : closed.final ≡ [] =
      nobody (rest ++ new ∷ []) closed.final (All-weaker (IsUnused map) (λ (s : Session). made_by s ≡ []) (λ s is. is.1) (rest ++ new ∷ []) all_unused) theirs closed.is_list.made in
      let saw : IsPrefix (seen_by new) closed.final = (All-pop (λ (s : Session). IsPrefix (seen_by s) closed.final) (rest ++ new ∷ []) rest (Some new) refl closed.is_list.saw).1 in
      ap (λ (l : List Change). after (pointer_of (opening_of map)) l key) (no_prefix (seen_by new) (subst (λ (l : List Change). IsPrefix (seen_by new) l) none saw))

-- the last one inserts a key, and the one before it is told, and looks the key up
module _ (map : GrowingMap) (rest : List Session) (other one : Session) (first : AreFirstSessions map ((rest ++ other ∷ []) ++ one ∷ []))
    (key pointer : ℕ) (answer : Answer) (inserted told new : Session) (is : IsAnswered map (Insert key pointer) one inserted answer) (one_same : IsSameBesideSeen inserted told) where
  parts : All (IsUnused map) (rest ++ other ∷ []) × IsUnused map one
  parts = let both = All-pop (IsUnused map) ((rest ++ other ∷ []) ++ one ∷ []) (rest ++ other ∷ []) (Some one) refl (unused map ((rest ++ other ∷ []) ++ one ∷ []) first) in (both.0, both.1)

  pub its_inserted : IsSessionOf map inserted
  its_inserted = still_its map one inserted parts.1.0 is.same_slot

  module _ (other_same : IsSameBesideSeen other new) where
    rest_unused : All (IsUnused map) (rest ++ new ∷ [])
    rest_unused =
        let both = All-pop (IsUnused map) (rest ++ other ∷ []) rest (Some other) refl parts.0 in
        All-push (IsUnused map) rest new both.0 (unused_after map other new both.1 other_same)

    pub all_its : All (IsSessionOf map) ((rest ++ new ∷ []) ++ told ∷ [])
    all_its =
        All-push (IsSessionOf map) (rest ++ new ∷ []) told (All-weaker (IsUnused map) (IsSessionOf map) (λ s it. it.0) (rest ++ new ∷ []) rest_unused)
        (its_after map inserted told its_inserted one_same)

    its_place : place_of told ≡ place_of one
    its_place = one_same.same_slot.same_place ∙ is.same_slot.same_place

    abbrev was : Option ℕ
    was = after (pointer_of (opening_of map)) is.in_order.before key

    abbrev own : List Change
    own = changes_made (place_of one) (Insert key pointer) was

    few : All (λ (s : Session). (made_by s ≡ []) ⊎ (place_of s ≡ place_of one)) ((rest ++ new ∷ []) ++ told ∷ [])
    few =
        All-push (λ (s : Session). (made_by s ≡ []) ⊎ (place_of s ≡ place_of one)) (rest ++ new ∷ []) told
        (All-weaker (IsUnused map) (λ (s : Session). (made_by s ≡ []) ⊎ (place_of s ≡ place_of one)) (λ s it. inl it.1) (rest ++ new ∷ []) rest_unused)
        (inr its_place)

    pub finds_inserted : (entries : List Entry) → pointer_of (opening_of map) key ≡ None → IsPrefix (seen_by inserted) (seen_by new) → IsClosedWith map ((rest ++ new ∷ []) ++ told ∷ []) entries
        → after (pointer_of (opening_of map)) (seen_by new) key ≡ Some pointer
    finds_inserted entries absent is_told closed =
        let all : List Session = (rest ++ new ∷ []) ++ told ∷ [] in
        let were = first.width in
        let a = length_push (rest ++ other ∷ []) one in
        let b = length_push rest other in
        let c = length_push (rest ++ new ∷ []) told in
        let d = length_push rest new in
        let theirs = all_theirs map all entries all_its (omega (arith, were, a, b, c, d)) closed in
        let ends_saw = All-pop (λ (s : Session). IsPrefix (seen_by s) closed.final) all (rest ++ new ∷ []) (Some told) refl closed.is_list.saw in
        let others_saw : IsPrefix (seen_by new) closed.final = (All-pop (λ (s : Session). IsPrefix (seen_by s) closed.final) (rest ++ new ∷ []) rest (Some new) refl ends_saw.0).1 in
        let ones_made : made_at (place_of told) closed.final ≡ made_by told =
        (All-pop (λ (s : Session). made_at (place_of s) closed.final ≡ made_by s) all (rest ++ new ∷ []) (Some told) refl closed.is_list.made).1 in
        let all_made : closed.final ≡ own =
        sym (made_here (place_of one) closed.final (only_by (place_of one) all closed.final few theirs closed.is_list.made))
        ∙ (ap (λ (p : ℕ). made_at p closed.final) (sym its_place)
        ∙ (ones_made ∙ (one_same.made ∙ (is.in_order.made ∙ ap (λ (l : List Change). l ++ own) parts.1.1)))) in
        shown (pointer_of (opening_of map)) (place_of one) key pointer absent is.in_order.before (seen_by new) was refl own closed.final refl all_made
        (prefix_of_prefix (is.in_order.before ++ own) (seen_by inserted) (seen_by new) is.in_order.goes_on is_told) others_saw
