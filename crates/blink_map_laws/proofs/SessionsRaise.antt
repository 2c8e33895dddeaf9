-- What raises make of the list of changes that a session has seen.
use Rattle.std.proofs.Common.{◌≡◌, ℕ, ◌+◌, Option, Some, List, [], ◌∷◌, ◌++◌, length, refl, sym, ap, ◌∙◌, subst, append_assoc, length-append, arith}
use Rattle.std.proofs.lemmas.List.{append_cancel_left}
use mathlib.Core.List.{IsPrefix, append-nil}
use Rattle.blink_batch.specs.{pointer_of}
use Rattle.blink_live.specs.declared.view.Change.{Change}
use Rattle.blink_live.specs.{after, made_at, put}
use Rattle.blink_live.proofs.Offered.{made_at-append}
use Rattle.blink_map.specs.declared.growing.GrowingMap.{GrowingMap}
use Rattle.blink_map.specs.declared.growing.Session.{Session}
use Rattle.blink_generation.specs.{change_to}
use Rattle.blink_map.specs.{HasSameSlot, IsSameBesideSeen, made_by, opening_of, place_of, seen_by}
use Rattle.blink_map_laws.specs.Counting.{AreRaises, IsRaise}
use Rattle.blink_map_laws.specs.Counting.{HasRaised, IsPut, IsRaisedTo}
use Rattle.blink_map_laws.proofs.RaisesAdd.{after_both, made_first, none_raised, raised_both}

saw_own : (session : Session) → made_at (place_of session) (seen_by session) ≡ made_by session
saw_own session = session.authors.own

no_length : (xs : List Change) → length xs ≡ 0 → xs ≡ []
no_length [] none = refl
no_length (x ∷ xs) none = absurd (omega (arith, none))

pub same_twice : (old middle new : Session) → HasSameSlot old middle → HasSameSlot middle new → HasSameSlot old new
same_twice old middle new one two = record { same_table = two.same_table ∙ one.same_table; same_first = two.same_first ∙ one.same_first; same_place = two.same_place ∙ one.same_place }

-- what a session has seen beside what it had seen: its own changes are those that it has made since
own_later : (old new : Session) (later own : List Change) → place_of new ≡ place_of old → seen_by old ++ later ≡ seen_by new → made_by new ≡ made_by old ++ own → made_at (place_of old) later ≡ own
own_later old new later own same sees made =
    let place : ℕ = place_of old in
    append_cancel_left (made_by old) (made_at place later) own
    (ap (λ (l : List Change). l ++ made_at place later) (sym (saw_own old))
    ∙ (sym (made_at-append place (seen_by old) later)
    ∙ (ap (made_at place) sees
    ∙ (ap (λ (p : ℕ). made_at p (seen_by new)) (sym same) ∙ (saw_own new ∙ made)))))

-- a session that has tried has raised nothing
pub raised_none : (map : GrowingMap) (key : ℕ) (old new : Session) → IsSameBesideSeen old new → HasRaised map key 0 old new
raised_none map key old new tried =
    let later : List Change = tried.saw.0 in
    let none : made_at (place_of old) later ≡ [] = own_later old new later [] tried.same_slot.same_place tried.saw.1 (tried.made ∙ sym (append-nil (made_by old))) in
    record {
      later = later;
      sees = tried.saw.1;
      raises = none_raised (place_of old) key (after (pointer_of (opening_of map)) (seen_by old)) later none;
      made = tried.made ∙ (sym (append-nil (made_by old)) ∙ ap (λ (l : List Change). made_by old ++ l) (sym none));
      counted = ap (λ (l : List Change). length l) none;
      same_slot = tried.same_slot;
    }

-- the changes behind and before the one that a session has made
alone : (place : ℕ) (change : Change) (first last : List Change) → change.author ≡ place → made_at place (first ++ change ∷ last) ≡ change ∷ [] → (made_at place first ≡ []) × (made_at place last ≡ [])
alone place change first last is own =
    let parts : made_at place (first ++ change ∷ last) ≡ made_at place first ++ change ∷ made_at place last = made_at-append place first (change ∷ last) ∙ ap (λ (l : List Change). made_at place first ++ l) (made_first place change last is) in
    let long = length-append (made_at place first) (change ∷ made_at place last) in
    let one : length (made_at place first ++ change ∷ made_at place last) ≡ 1 = ap (λ (l : List Change). length l) (sym parts ∙ own) in
    (no_length (made_at place first) (omega (arith, long, one)), no_length (made_at place last) (omega (arith, long, one)))

-- one that has put the next number has raised once
pub raised_one : (map : GrowingMap) (key value : ℕ) (old new : Session) → IsRaisedTo map key old new value → HasRaised map key 1 old new
raised_one map key value old new is =
    let opening : ℕ → Option ℕ = pointer_of (opening_of map) in
    let is_put : IsPut map key value old new (Some is.0) = is.2 in
    let place : ℕ = place_of old in
    let seen : List Change = seen_by old in
    let state : ℕ → Option ℕ = after opening seen in
    let change : Change = change_to place key value in
    let first : List Change = is_put.saw.0 in
    let last : List Change = is_put.goes_on.0 in
    let sees : seen ++ (first ++ change ∷ last) ≡ seen_by new =
    sym (append_assoc seen first (change ∷ last))
    ∙ (ap (λ (l : List Change). l ++ change ∷ last) is_put.saw.1
    ∙ (sym (append_assoc is_put.before (change ∷ []) last) ∙ is_put.goes_on.1)) in
    let own : made_at place (first ++ change ∷ last) ≡ change ∷ [] = own_later old new (first ++ change ∷ last) (change ∷ []) is_put.same_slot.same_place sees is_put.made in
    let others = alone place change first last refl own in
    let there : after state first key ≡ Some is.0 =
    ap (λ (s : ℕ → Option ℕ). s key) (sym (after_both opening seen first)) ∙ (ap (λ (l : List Change). after opening l key) is_put.saw.1 ∙ sym is_put.was_there) in
    let raise : IsRaise key (after state first key) change = record { same_key = refl; value = is.0; there = there; raised = ap (λ (n : ℕ). Some n) is.1 } in
    record {
      later = first ++ change ∷ last;
      sees = sees;
      raises = raised_both place key state first (change ∷ last) (none_raised place key state first others.0) (λ same. raise, none_raised place key (put (after state first) key (Some value)) last others.1);
      made = is_put.made ∙ ap (λ (l : List Change). made_by old ++ l) (sym own);
      counted = ap (λ (l : List Change). length l) own;
      same_slot = is_put.same_slot;
    }

-- raises after others
pub raised_then : (map : GrowingMap) (key first second : ℕ) (old middle new : Session) → HasRaised map key first old middle → HasRaised map key second middle new → HasRaised map key (first + second) old new
raised_then map key first second old middle new one two =
    let opening : ℕ → Option ℕ = pointer_of (opening_of map) in
    let place : ℕ = place_of old in
    let same : place_of middle ≡ place = one.same_slot.same_place in
    let own : made_at place (one.later ++ two.later) ≡ made_at place one.later ++ made_at place two.later = made_at-append place one.later two.later in
    let long = length-append (made_at place one.later) (made_at place two.later) in
    let count_one = one.counted in
    let count_two : length (made_at place two.later) ≡ second = ap (λ (p : ℕ). length (made_at p two.later)) (sym same) ∙ two.counted in
    record {
      later = one.later ++ two.later;
      sees = sym (append_assoc (seen_by old) one.later two.later) ∙ (ap (λ (l : List Change). l ++ two.later) one.sees ∙ two.sees);
      raises = raised_both place key (after opening (seen_by old)) one.later two.later one.raises
          (subst (λ (s : ℕ → Option ℕ). AreRaises place key s two.later) (ap (after opening) (sym one.sees) ∙ after_both opening (seen_by old) one.later)
          (subst (λ (p : ℕ). AreRaises p key (after opening (seen_by middle)) two.later) same two.raises));
      made = two.made
          ∙ (ap (λ (l : List Change). l ++ made_at (place_of middle) two.later) one.made
          ∙ (append_assoc (made_by old) (made_at place one.later) (made_at (place_of middle) two.later)
          ∙ (ap (λ (p : ℕ). made_by old ++ (made_at place one.later ++ made_at p two.later)) same ∙ ap (λ (l : List Change). made_by old ++ l) (sym own))));
      counted = ap (λ (l : List Change). length l) own ∙ (long ∙ (let sum : length (made_at place one.later) + length (made_at place two.later) ≡ first + second = omega (arith, count_one, count_two) in sum));
      same_slot = same_twice old middle new one.same_slot two.same_slot;
    }

-- all that a session has raised stands in a longer list, behind a list that has what it had made before, where the longer list has no
-- other change of it
pub raised_in : (map : GrowingMap) (key count : ℕ) (old new : Session) (seen later final : List Change) → HasRaised map key count old new → IsPrefix seen (seen_by old) → made_at (place_of old) seen ≡ made_by old → IsPrefix (seen_by new) final
    → made_at (place_of new) final ≡ made_by new → seen ++ later ≡ final → AreRaises (place_of old) key (after (pointer_of (opening_of map)) seen) later × (length (made_at (place_of old) later) ≡ count)
raised_in map key count old new seen later final is had before comes made is_final =
    let opening : ℕ → Option ℕ = pointer_of (opening_of map) in
    let place : ℕ = place_of old in
    let first : List Change = had.0 in
    let last : List Change = comes.0 in
    let state : ℕ → Option ℕ = after opening seen in
    let whole : seen ++ (first ++ (is.later ++ last)) ≡ seen ++ later =
    sym (append_assoc seen first (is.later ++ last))
    ∙ (ap (λ (l : List Change). l ++ (is.later ++ last)) had.1
    ∙ (sym (append_assoc (seen_by old) is.later last) ∙ (ap (λ (l : List Change). l ++ last) is.sees ∙ (comes.1 ∙ sym is_final)))) in
    let parts : first ++ (is.later ++ last) ≡ later = append_cancel_left seen (first ++ (is.later ++ last)) later whole in
    let none_first : made_at place first ≡ [] =
    append_cancel_left (made_at place seen) (made_at place first) []
    (sym (made_at-append place seen first) ∙ (ap (made_at place) had.1 ∙ (saw_own old ∙ (sym before ∙ sym (append-nil (made_at place seen)))))) in
    let none_last : made_at place last ≡ [] =
    append_cancel_left (made_at place (seen_by new)) (made_at place last) []
    (sym (made_at-append place (seen_by new) last)
    ∙ (ap (made_at place) comes.1
    ∙ (ap (λ (p : ℕ). made_at p final) (sym is.same_slot.same_place)
    ∙ (made ∙ (sym (saw_own new) ∙ (ap (λ (p : ℕ). made_at p (seen_by new)) is.same_slot.same_place ∙ sym (append-nil (made_at place (seen_by new))))))))) in
    let own : made_at place later ≡ made_at place is.later =
    ap (made_at place) (sym parts)
    ∙ (made_at-append place first (is.later ++ last)
    ∙ (ap (λ (l : List Change). l ++ made_at place (is.later ++ last)) none_first
    ∙ (made_at-append place is.later last ∙ (ap (λ (l : List Change). made_at place is.later ++ l) none_last ∙ append-nil (made_at place is.later))))) in
    let middle : AreRaises place key (after state first) is.later =
    subst (λ (s : ℕ → Option ℕ). AreRaises place key s is.later) (ap (after opening) (sym had.1) ∙ after_both opening seen first) is.raises in
    let raises : AreRaises place key state (first ++ (is.later ++ last)) =
    raised_both place key state first (is.later ++ last) (none_raised place key state first none_first)
    (raised_both place key (after state first) is.later last middle (none_raised place key (after (after state first) is.later) last none_last)) in
    (subst (AreRaises place key state) parts raises, ap (λ (l : List Change). length l) own ∙ is.counted)
