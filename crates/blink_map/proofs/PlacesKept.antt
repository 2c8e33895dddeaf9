-- Entering, taking a slot and giving it back keep the rule of the places.
use Rattle.std.proofs.Common.{◌≡◌, ◌≢◌, ℕ, ◌<◌, Option, Some, None, List, [], ◌∷◌, length, replicate, set, refl, sym, ap, ◌∙◌, subst, length-set, get_or-set_same, get_or-set_other, eqb, arith}
use Rattle.std.proofs.lemmas.List.{get_or-replicate, length-map, length-replicate}
use Rattle.std.specs.Prelude.{slice_index}
use mathlib.Core.Option.{Option as Maybe, some, none}
use mathlib.Core.Logic.{dite}
use native.Mathlib.Decide.{ℕ_discrete}
use prog.Atomic.{either}
use lib.ListN.{get_elem?}
use lib.Seq.{set-get_or}
use Rattle.atomic_table.specs.Seated.{TableId}
use Rattle.atomic_table.specs.Table.{State, Act, Valid, stepped, carried_after, keeps, takes, gives, step, put_back, rest, opening, Allows, Enters}
use Rattle.atomic_table.proofs.Lists.{set_here, set_else, exchanged, some_there}
use Rattle.blink_batch.specs.declared.Entry.{Entry}
use Rattle.blink_map.specs.declared.growing.GrowingMap.{GrowingMap}
use Rattle.blink_map.specs.declared.growing.Session.{Session}
use Rattle.blink_map.specs.declared.places.Visitor.{Visitor}
use Rattle.blink_map.specs.Resting.{ArePlaces, PlaceSeat, takes_session, takes_space, visitor, visits}
use Rattle.blink_map.specs.Sessions.{IsSessionOf, opening_of}

abbrev Slots : Type 0
Slots = List (Maybe (Option Session))

-- ---- no word changes

pub still : (map : GrowingMap) (s : State (Option Session) Visitor) (place : ℕ) (views : List Visitor) → ArePlaces map s → ArePlaces map record { words = set s.words place (slice_index s.words place); homes = s.homes; views = views }
still map s place views are =
    subst (λ (words : List ℕ). ArePlaces map record { words = words; homes = s.homes; views = views }) (sym (set-get_or s.words place 0)) (record { width = are.width; rests = are.rests; vacant = are.vacant })

pub visits_places : (map : GrowingMap) (slots place : ℕ) → Enters (ArePlaces map) slots place (λ n w. visits (step slots place 0 0 none) (visitor, []) n (w, []))
visits_places map slots place s are homes small = (visitor, record { width = are.width; rests = are.rests; vacant = are.vacant }, tt)

pub opening_places : (map : GrowingMap) (count : ℕ) (words : List ℕ) → words ≡ replicate count 0 → ArePlaces map (opening words (replicate count None) visitor)
opening_places map count words zeros = record {
  width = ap (λ (l : List ℕ). length l) zeros ∙ (length-replicate {A = ℕ} count 0 ∙ (sym (length-replicate {A = Option Session} count None) ∙ sym (length-map (replicate count None) (λ (m : Option Session). some m))));
  rests = λ place inside is.
      let within : place < count = let long = length-map (replicate count None) (λ (m : Option Session). some m) in let all = length-replicate {A = Option Session} count None in omega (arith, inside, long, all) in
      absurd (let zero : slice_index words place ≡ 0 = ap (λ (l : List ℕ). slice_index l place) zeros ∙ get_or-replicate count place 0 0 within in let one : 0 ≡ 1 = sym zero ∙ is in omega (arith, one));
  vacant = λ place inside is. some_there (replicate count None) place (let long = length-map (replicate count None) (λ (m : Option Session). some m) in omega (arith, inside, long));
}

-- ---- the word and the slot of one place change

module _ (map : GrowingMap) (s : State (Option Session) Visitor) (are : ArePlaces map s) (place x : ℕ) (slot : Maybe (Option Session)) (inside : place < length s.homes)
    (rests_here : x ≡ 1 → (session : Session) × (slot ≡ some (Some session)) × IsSessionOf map session) (vacant_here : x ≡ 0 → (left : Option Session) × (slot ≡ some left)) where
  abbrev words : List ℕ
  words = set s.words place x

  abbrev homes : Slots
  homes = set s.homes place slot

  word_here : slice_index words place ≡ x
  word_here = get_or-set_same s.words place x 0 (let wide = are.width in omega (arith, wide, inside))

  word_else : (other : ℕ) → other ≢ place → slice_index words other ≡ slice_index s.words other
  word_else other differ = get_or-set_other s.words place other x 0 differ

  was_inside : (other : ℕ) → other < length homes → other < length s.homes
  was_inside other within = let long = length-set s.homes place slot in omega (arith, long, within)

  slot_here : (other : ℕ) (value : Option Session) → other ≡ place → slot ≡ some value → get_elem? homes other ≡ some (some value)
  slot_here other value same is = ap (get_elem? homes) same ∙ (set_here s.homes place slot inside ∙ ap (λ (m : Maybe (Option Session)). some m) is)

  rests_then : (other : ℕ) → other < length homes → slice_index words other ≡ 1 → (session : Session) × (get_elem? homes other ≡ some (some (Some session))) × IsSessionOf map session
  rests_then other within is = dite (ℕ_discrete other place)
      (λ same. let its = rests_here (sym word_here ∙ (ap (slice_index words) (sym same) ∙ is)) in (its.0, slot_here other (Some its.0) same its.1, its.2))
      (λ differ. let was = are.rests other (was_inside other within) (sym (word_else other differ) ∙ is) in (was.0, set_else s.homes place other slot differ ∙ was.1, was.2))

  vacant_then : (other : ℕ) → other < length homes → slice_index words other ≡ 0 → (left : Option Session) × (get_elem? homes other ≡ some (some left))
  vacant_then other within is = dite (ℕ_discrete other place)
      (λ same. let its = vacant_here (sym word_here ∙ (ap (slice_index words) (sym same) ∙ is)) in (its.0, slot_here other its.0 same its.1))
      (λ differ. let was = are.vacant other (was_inside other within) (sym (word_else other differ) ∙ is) in (was.0, set_else s.homes place other slot differ ∙ was.1))

  pub is_kept : (views : List Visitor) → ArePlaces map record { words = words; homes = homes; views = views }
  is_kept views = record {
    width = length-set s.words place x ∙ (are.width ∙ sym (length-set s.homes place slot));
    rests = rests_then;
    vacant = vacant_then;
  }

-- ---- a slot is taken

pub session_is_taken : (map : GrowingMap) (slots id place : ℕ) (me : PlaceSeat) (table : TableId) (first : List Entry) → table ≡ map.table.shared.table_id → first ≡ opening_of map → place < slots
    → Allows (ArePlaces map) slots id me place (λ n. either (eqb n 1) 2 n) (takes_session table first (step slots place 1 2 none) me)
session_is_taken map slots id place me table first same_table same_first inside s are homes at small =
    let found : ℕ = slice_index s.words place in
    exchanged found 1 2 (λ (k : ℕ). (w : Visitor) × (a : Act (Option Session)) × Valid s.homes me.1 a × ArePlaces map (stepped s place k id me.1 w a) × takes_session table first (step slots place 1 2 none) me found (w, carried_after me.1 a))
    (λ rests.
    let within : place < length s.homes = omega (arith, homes, inside) in
    let its = are.rests place within rests in (
      me.0,
      takes place (Some its.0),
      its.1,
      is_kept map s are place 2 none within (λ one. absurd (omega (arith, one))) (λ zero. absurd (omega (arith, zero))) (set s.views id me.0),
      record {
        got = λ one. (its.0, record { same_table = its.2.same_table ∙ sym same_table; same_first = its.2.same_first ∙ sym same_first }, refl);
        lost = λ other. absurd (other rests);
      },
    ))
    (λ other. (me.0, keeps, tt, still map s place (set s.views id me.0) are, record { got = λ one. absurd (other one); lost = λ differ. refl }))

pub space_is_taken : (map : GrowingMap) (slots id place : ℕ) (me : PlaceSeat) → place < slots → Allows (ArePlaces map) slots id me place (λ n. either (eqb n 0) 2 n) (takes_space (step slots place 0 2 none) me)
space_is_taken map slots id place me inside s are homes at small =
    let found : ℕ = slice_index s.words place in
    exchanged found 0 2 (λ (k : ℕ). (w : Visitor) × (a : Act (Option Session)) × Valid s.homes me.1 a × ArePlaces map (stepped s place k id me.1 w a) × takes_space (step slots place 0 2 none) me found (w, carried_after me.1 a))
    (λ free.
    let within : place < length s.homes = omega (arith, homes, inside) in
    let its = are.vacant place within free in (
      me.0,
      takes place its.0,
      its.1,
      is_kept map s are place 2 none within (λ one. absurd (omega (arith, one))) (λ zero. absurd (omega (arith, zero))) (set s.views id me.0),
      record { got = λ zero. (its.0, refl); lost = λ other. absurd (other free) },
    ))
    (λ other. (me.0, keeps, tt, still map s place (set s.views id me.0) are, record { got = λ zero. absurd (other zero); lost = λ differ. refl }))

-- ---- and given back

module _ (map : GrowingMap) (slots id place : ℕ) (me : PlaceSeat) (value : Option Session) (held : me.1 ≡ (place, value) ∷ []) (inside : place < slots) where
  given : (x : ℕ) → (x ≡ 1 → (session : Session) × (value ≡ Some session) × IsSessionOf map session) → Allows (ArePlaces map) slots id me place (λ n. x) (λ n. visits (step slots place x 0 none) me x)
  given x rests s are homes at small = (
    me.0,
    gives,
    tt,
    subst (λ (l : List (ℕ × Option Session)). ArePlaces map record { words = set s.words place x; homes = put_back s.homes l; views = set s.views id me.0 }) (sym held)
        (is_kept map s are place x (some value) (omega (arith, homes, inside))
        (λ one. let its = rests one in (its.0, ap (λ (m : Option Session). some m) its.1, its.2)) (λ zero. (value, refl)) (set s.views id me.0)),
    tt,
  )

  -- as space, or with a session that rests there
  pub space_is_given : Allows (ArePlaces map) slots id me place (λ n. 0) (λ n. visits (step slots place 0 0 none) me 0)
  space_is_given = given 0 (λ one. absurd (omega (arith, one)))

  pub session_is_given : (session : Session) → value ≡ Some session → IsSessionOf map session → Allows (ArePlaces map) slots id me place (λ n. 1) (λ n. visits (step slots place 1 0 none) me 1)
  session_is_given session is its = given 1 (λ one. (session, is, its))

-- ---- the one slot that a seat has

pub only_slot : (place : ℕ) (value : Option Session) (slots : List (ℕ × Option Session)) → slots ≡ (place, value) ∷ [] → slots ≡ (place, value) ∷ rest slots
only_slot place value slots is = is ∙ ap (λ (others : List (ℕ × Option Session)). let all : List (ℕ × Option Session) = (place, value) ∷ others in all) (sym (ap (λ (l : List (ℕ × Option Session)). rest l) is))

pub slot_then : (place : ℕ) (value new : Option Session) (slots : List (ℕ × Option Session)) → slots ≡ (place, value) ∷ [] → (place, new) ∷ rest slots ≡ (place, new) ∷ []
slot_then place value new slots is = ap (λ (l : List (ℕ × Option Session)). let all : List (ℕ × Option Session) = (place, new) ∷ rest l in all) is
