-- Where all sessions of a growing map have come back, each place is one of theirs.
use Rattle.std.proofs.Common.{◌≡◌, ◌≢◌, ℕ, suc, zero, ◌<◌, Bool, true, false, eqb, List, [], ◌∷◌, length, get_or, map, All, AllPairs, Any, refl, sym, ◌∙◌, subst, arith}
use Rattle.std.specs.List.{list_any}
use Rattle.std.proofs.lemmas.Bool.{eq-eqb, eqb-true, true≢false}
use Rattle.std.proofs.lemmas.Bool.Decides.{Decides-eqb}
use Rattle.std.proofs.lemmas.List.{get_or-map, length-map}
use Rattle.std.proofs.lemmas.List.Elements.{Contains-get_or}
use Rattle.std.proofs.lemmas.List.Folds.{Any-from_list_any, list_any-from_Any}
use Rattle.std.proofs.lemmas.Map.Made.{IsDistinct-from_AllPairs}
use Rattle.std.proofs.lemmas.Map.Steps.{length-le_from_distinct_below}
use Rattle.blink_batch.specs.declared.Entry.{Entry}
use Rattle.blink_live.specs.declared.view.Change.{Change}
use Rattle.blink_map.specs.declared.growing.GrowingMap.{GrowingMap}
use Rattle.blink_map.specs.declared.growing.Session.{Session}
use Rattle.blink_map.specs.{IsClosedWith, IsSessionOf, place_of, places_of}
use Rattle.blink_map_laws.specs.Whole.{AreOnlyTheirs}

-- no session has the place, where the test finds none
none_has : (place : ℕ) (sessions : List Session) → list_any (λ (session : Session). eqb place (place_of session)) sessions ≡ false → All (λ (session : Session). place ≢ place_of session) sessions
none_has place sessions none k d inside =
    let it = Contains-get_or sessions k d inside in
    let session : Session = get_or sessions k d in
    λ same. true≢false (sym (list_any-from_Any (λ (session : Session). eqb place (place_of session)) sessions (it.0, session, it.1, it.2, eq-eqb place (place_of session) same)) ∙ none)

-- with a place that none of them has their places are all different
apart_with : (place : ℕ) (sessions : List Session) → AllPairs (λ (one other : Session). place_of one ≢ place_of other) sessions → All (λ (session : Session). place ≢ place_of session) sessions
    → AllPairs (λ (one other : ℕ). one ≢ other) (place ∷ map place_of sessions)
apart_with place [] apart none i j d less inside = absurd (omega (arith, less, inside))
apart_with place (first ∷ rest) apart none zero zero d less inside = absurd (omega (arith, less))
apart_with place (first ∷ rest) apart none (suc i) zero d less inside = absurd (omega (arith, less))
apart_with place (first ∷ rest) apart none zero (suc j) d less inside =
    let width = length-map rest place_of in
    let within : j < length (first ∷ rest) = omega (arith, inside, width) in
    λ same. none j first within (same ∙ get_or-map place_of (first ∷ rest) j first d within)
apart_with place (first ∷ rest) apart none (suc i) (suc j) d less inside =
    let width = length-map rest place_of in
    let within : j < length (first ∷ rest) = omega (arith, inside, width) in
    let before : i < length (first ∷ rest) = omega (arith, less, within) in
    λ same. apart i j first (omega (arith, less)) within (sym (get_or-map place_of (first ∷ rest) i first d before) ∙ (same ∙ get_or-map place_of (first ∷ rest) j first d within))

-- and below the number of places
all_below : (places place : ℕ) (sessions : List Session) → place < places → All (λ (session : Session). place_of session < places) sessions → All (λ (p : ℕ). p < places) (place ∷ map place_of sessions)
all_below places place [] inside all zero d within = inside
all_below places place (first ∷ rest) inside all zero d within = inside
all_below places place [] inside all (suc k) d within = absurd (omega (arith, within))
all_below places place (first ∷ rest) inside all (suc k) d within =
    let width = length-map rest place_of in
    let k_within : k < length (first ∷ rest) = omega (arith, within, width) in
    subst (λ (p : ℕ). p < places) (sym (get_or-map place_of (first ∷ rest) k first d k_within)) (all k first k_within)

below : (places : ℕ) (numbers : List ℕ) → All (λ (p : ℕ). p < places) numbers → (q : ℕ) → list_any (eqb q) numbers ≡ true → q < places
below places numbers all q found =
    let it = Any-from_list_any (eqb q) numbers found in
    let it_below : it.1 < places = subst (λ (p : ℕ). p < places) it.3 (all it.0 it.1 it.2) in
    subst (λ (p : ℕ). p < places) (sym (eqb-true q it.1 it.4)) it_below

-- as many sessions as there are places, no two of which have one place, have each of the places
pub has_session : (places place : ℕ) (sessions : List Session) → place < places → length sessions ≡ places → AllPairs (λ (one other : Session). place_of one ≢ place_of other) sessions
    → All (λ (session : Session). place_of session < places) sessions → Any (λ (session : Session). place_of session ≡ place) sessions
has_session places place sessions inside width apart all = by (list_any test sessions) refl
  where
    test : Session → Bool
    test session = eqb place (place_of session)

    by : (found : Bool) → list_any test sessions ≡ found → Any (λ (session : Session). place_of session ≡ place) sessions
    by true found = let it = Any-from_list_any test sessions found in (it.0, it.1, it.2, it.3, sym (eqb-true place (place_of it.1) it.4))
    by false found =
        let numbers : List ℕ = place ∷ map place_of sessions in
        let most = length-le_from_distinct_below numbers places (IsDistinct-from_AllPairs Decides-eqb numbers (apart_with place sessions apart (none_has place sessions found))) (below places numbers (all_below places place sessions inside all)) in
        let count = length-map sessions place_of in
        absurd (omega (arith, most, count, width))

-- the session's place is one of the map's
place_inside : (its : GrowingMap) (session : Session) → IsSessionOf its session → place_of session < places_of its
place_inside its session is = let same : session.seat.table_id.slots ≡ places_of its = (let table = is.same_table in cc) in let inside = session.in_range in omega (arith, same, inside)

-- so each change was made at the place of one of the sessions
pub all_theirs : (its : GrowingMap) (sessions : List Session) (entries : List Entry) → All (IsSessionOf its) sessions → length sessions ≡ places_of its → (closed : IsClosedWith its sessions entries)
    → All (λ (change : Change). Any (λ (session : Session). place_of session ≡ change.author) sessions) closed.final
all_theirs its sessions entries are width closed k d inside =
    has_session (places_of its) (get_or closed.final k d).author sessions (closed.is_list.authors k d inside) width closed.is_list.apart (λ n e within. place_inside its (get_or sessions n e) (are n e within))

pub only_theirs : (its : GrowingMap) (sessions : List Session) (entries : List Entry) → All (IsSessionOf its) sessions → length sessions ≡ places_of its → IsClosedWith its sessions entries → AreOnlyTheirs its sessions entries
only_theirs its sessions entries are width closed = record {
  final = closed.final;
  theirs = all_theirs its sessions entries are width closed;
  made = closed.is_list.made;
  kept = closed.kept;
}
