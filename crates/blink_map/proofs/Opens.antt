-- Sessions are laid into slots, and dealt.
use Rattle.std.proofs.Common.{◌≡◌, ℕ, zero, suc, ◌+◌, ◌-◌, ◌<◌, Option, Some, None, List, [], ◌∷◌, ◌++◌, ◌≤◌, ◌⊎◌, length, drop, take, get_or, length-append, refl, sym, ap, ◌∙◌, subst, ⊎_elim, inl, inr, arith}
use Rattle.std.specs.Prelude.{slice_index_or, All, reverse}
use Rattle.std.proofs.lemmas.List.{reverse-append}
use mathlib.Core.Option.{some, some-injective, some-ne-none}
use mathlib.Core.Logic.{dite}
use native.Mathlib.Decide.{ℕ_discrete}
use lib.ListN.{get_elem?}
use Rattle.std.proofs.lemmas.Bool.{cases_lt}
use Rattle.std.specs.Arc.{arc_value}
use Rattle.atomic_table.proofs.Lists.{at_last, at_longer}
use Rattle.blink_batch.specs.declared.Entry.{Entry}
use Rattle.blink_generation.specs.declared.map.Map.{Map}
use Rattle.blink_generation.specs.declared.map.Session.{Session as MapSession}
use Rattle.blink_generation.specs.{AreFirstSessions as AreFirstInMap}
use Rattle.blink_map.specs.declared.growing.GrowingMap.{GrowingMap}
use Rattle.blink_map.specs.declared.growing.Session.{Session}
use Rattle.blink_map.specs.declared.slots.Current.{Current}
use Rattle.blink_map.specs.declared.slots.SlotView.{SlotView}
use Rattle.blink_map.specs.Laid.{AreFirst, AreLaid, AreOthersIn, IsFirst, IsFirstIn, slot_behind}
use Rattle.blink_map.specs.Opening.{AreDealt, IsFirstAt, dealer}
use Rattle.blink_map.specs.Own.{IsIdle, KnowsAuthors, own_of}
use Rattle.blink_map.specs.Sessions.{IsSessionOf, opening_of, places_of}
use Rattle.blink_map.specs.Rule.{SlotSeat, fresh_accounts, nothing}
use Rattle.blink_map.specs.Steps.{first_alone, without_first}
use Rattle.blink_map.proofs.Basics.{at_end, in_list, some_or, there_is}

-- ---- a map that opens has 1 to 256 sessions

pub some_sessions : (count : ℕ) → ¬ ((count ≡ 0) ⊎ (256 < count)) → 1 ≤ count
some_sessions zero not_bad = absurd (not_bad (inl refl))
some_sessions (suc count) not_bad = omega arith

pub few_sessions : (count : ℕ) → ¬ ((count ≡ 0) ⊎ (256 < count)) → count ≤ 256
few_sessions count not_bad = elim (cases_lt 256 count) [
  | inl more ↦ absurd (not_bad (inr more))
  | inr few ↦ few
]

-- ---- sessions are laid

-- the first sessions of the places from this one on
abbrev pub AreFirstFrom : Map → ℕ → List MapSession → Type 0
AreFirstFrom map from sessions = (k : ℕ) (session : MapSession) → get_elem? sessions k ≡ some session → IsFirst map (from + k) session

at_place : {A : Type 0} (l : List A) (i : ℕ) (a d : A) → get_elem? l i ≡ some a → slice_index_or l i d ≡ a
at_place [] i a d e = absurd (some-ne-none a (sym e))
at_place (x ∷ xs) zero a d e = some-injective x a e
at_place (x ∷ xs) (suc i) a d e = at_place xs i a d e

pub first_dealt : (map : Map) (sessions : List MapSession) → AreFirstInMap map sessions → AreFirst map sessions
first_dealt map sessions dealt place session is =
    let inside = in_list sessions place session is in
    let width = dealt.width in
    let one = dealt.each place session (omega (arith, inside, width)) in
    let same : slice_index_or sessions place session ≡ session = at_place sessions place session session is in
    subst (IsFirst map place) same record { its_own = record { member = one.its_own }; its_place = one.its_place; none_seen = one.none_seen; none_made = one.none_made }

-- the one that is taken from the end of a list that lies the other way round
popped_order : {A : Type 0} (old new : List A) (last : A) → old ≡ new ++ last ∷ [] → reverse old ≡ last ∷ reverse new
popped_order old new last is = ap reverse is ∙ reverse-append new (last ∷ [])

pub popped_first : (map : Map) (from : ℕ) (old new : List MapSession) (session : MapSession) → old ≡ new ++ session ∷ [] → AreFirstFrom map from (reverse old) → IsFirst map from session
popped_first map from old new session is are =
    let same : from + 0 ≡ from = omega arith in
    subst (λ (n : ℕ). IsFirst map n session) same (are 0 session (ap (λ (l : List MapSession). get_elem? l 0) (popped_order old new session is)))

pub first_from_popped : (map : Map) (from : ℕ) (old new : List MapSession) (session : MapSession) → old ≡ new ++ session ∷ [] → AreFirstFrom map from (reverse old) → AreFirstFrom map (from + 1) (reverse new)
first_from_popped map from old new session is are k one e =
    let same : from + suc k ≡ from + 1 + k = omega arith in
    subst (λ (n : ℕ). IsFirst map n one) same (are (suc k) one (ap (λ (l : List MapSession). get_elem? l (suc k)) (popped_order old new session is) ∙ e))

-- one more slot is laid
pub laid_more : (map : Map) (slots : List (Option Current)) (held : Current) → AreLaid map slots → IsFirstIn map (length slots) held → AreLaid map (slots ++ Some held ∷ [])
laid_more map slots held laid its slot inside = dite (ℕ_discrete slot (length slots))
    (λ same. (held, at_last slots (Some held) slot (sym same), subst (λ (n : ℕ). IsFirstIn map n held) (sym same) its))
    (λ other.
    let long = length-append slots (Some held ∷ []) in
    let one = laid slot (omega (arith, inside, long, other)) in
    (one.0, at_longer slots (Some held ∷ []) slot (Some one.0) one.1, one.2))

pub none_laid : (map : Map) → AreLaid map []
none_laid map slot inside = absurd (omega (arith, inside))

-- ---- sessions are dealt

pub account_next : (slots dealt : ℕ) → dealt < slots → fresh_accounts dealt (slots - dealt) ≡ (dealt, nothing) ∷ fresh_accounts (suc dealt) (slots - suc dealt)
account_next slots dealt inside = let count : slots - dealt ≡ suc (slots - suc dealt) = omega (arith, inside) in ap (fresh_accounts dealt) count

pub dealt_next : (first : List Entry) (slots dealt : ℕ) → dealt < slots → without_first (dealer first slots dealt) ≡ dealer first slots (suc dealt)
dealt_next first slots dealt inside = λ i. record (dealer first slots dealt) { accounts = Rattle.blink_map.specs.Steps.behind_first (account_next slots dealt inside i) }

-- a seat alone
abbrev pub alone : List Entry → ℕ → ℕ → SlotView
alone first slots slot = record { first = first; slots = slots; accounts = (slot, nothing) ∷ []; now = Rattle.std.specs.Prelude.None; taken = [] }

pub dealt_alone : (first : List Entry) (slots dealt : ℕ) → dealt < slots → first_alone (dealer first slots dealt) ≡ alone first slots dealt
dealt_alone first slots dealt inside = λ i. record (alone first slots dealt) { accounts = Rattle.blink_map.specs.Steps.first_in (account_next slots dealt inside i) }

pub alone_is_idle : (first : List Entry) (slots slot : ℕ) (me : SlotSeat) → me ≡ (alone first slots slot, []) → IsIdle slot me
alone_is_idle first slots slot me is = subst (IsIdle slot) (sym is) record { alone = refl; none_now = refl; none_taken = refl; none_out = refl }

pub alone_knows : (first : List Entry) (slots slot : ℕ) (v : SlotView) → v ≡ alone first slots slot → KnowsAuthors slot v
alone_knows first slots slot v is = subst (KnowsAuthors slot) (sym is) record { own = refl; all = λ k d inside. absurd (omega (arith, inside)) }

pub dealt_more : (map : GrowingMap) (sessions : List Session) (session : Session) → AreDealt map sessions → IsFirstAt map (length sessions) session → AreDealt map (sessions ++ session ∷ [])
dealt_more map sessions session dealt its place one is = ⊎_elim
    (λ (old : get_elem? sessions place ≡ some one). dealt place one old)
    (λ (new : (place ≡ length sessions) × (session ≡ one)). subst (λ (n : ℕ). IsFirstAt map n one) (sym new.0) (subst (IsFirstAt map (length sessions)) new.1 its))
    (at_end sessions session one place is)

pub none_dealt : (map : GrowingMap) → AreDealt map []
none_dealt map place one is = absurd (some-ne-none one (sym is))

pub dealt_then : (map : GrowingMap) (items new : List Session) (session : Session) → new ≡ items ++ session ∷ [] → AreDealt map items → session.seat.table_id ≡ map.table.shared.table_id → session.seat.me ≡ (alone (opening_of map) (places_of map) session.slot, [])
    → session.slot ≡ length items → AreDealt map new
dealt_then map items new session is dealt table me slot =
    subst (AreDealt map) (sym is) (dealt_more map items session dealt record {
      its_own = record { same_table = table; same_first = ap (λ (m : SlotSeat). m.0.first) me };
      its_place = slot;
      none_seen = ap (λ (m : SlotSeat). (own_of m.0).seen) me;
      none_made = ap (λ (m : SlotSeat). (own_of m.0).made) me;
    })

pub one_longer : (items new : List Session) (session : Session) (n : ℕ) → new ≡ items ++ session ∷ [] → length items ≡ n → length new ≡ n + 1
one_longer items new session n is width =
    let longer = ap (λ (l : List Session). length l) is in
    let long = length-append items (session ∷ []) in
    omega (arith, longer, long, width)

-- ---- sessions are held

-- the first sessions of the places but one, from this one of them on
abbrev pub AreFirstBehind : Map → ℕ → ℕ → List MapSession → Type 0
AreFirstBehind map copier from sessions = (k : ℕ) (session : MapSession) → get_elem? sessions k ≡ some session → IsFirst map (slot_behind copier (from + k)) session

without_one : {A : Type 0} (l : List A) (copier k : ℕ) (a : A) → copier < length l → get_elem? (take copier l ++ drop (suc copier) l) k ≡ some a → get_elem? l (slot_behind copier k) ≡ some a
without_one [] copier k a inside e = absurd (omega (arith, inside))
without_one (x ∷ xs) zero k a inside e = e
without_one (x ∷ xs) (suc copier) zero a inside e = e
without_one (x ∷ xs) (suc copier) (suc k) a inside e = without_one xs copier k a (omega (arith, inside)) e

pub all_but_one : (map : Map) (copier : ℕ) (old new : List MapSession) → copier < length old → new ≡ take copier old ++ drop (copier + 1) old → AreFirst map old → AreFirstBehind map copier 0 new
all_but_one map copier old new inside is are k session e =
    let next : copier + 1 ≡ suc copier = omega arith in
    let there : get_elem? (take copier old ++ drop (suc copier) old) k ≡ some session = sym (ap (λ (l : List MapSession). get_elem? l k) (is ∙ ap (λ (n : ℕ). take copier old ++ drop n old) next)) ∙ e in
    let same : k ≡ 0 + k = omega arith in
    subst (λ (n : ℕ). IsFirst map (slot_behind copier n) session) same (are (slot_behind copier k) session (without_one old copier k session inside there))

pub the_one : (map : Map) (copier : ℕ) (old : List MapSession) (session : MapSession) → copier < length old → session ≡ slice_index_or old copier session → AreFirst map old → IsFirst map copier session
the_one map copier old session inside is are =
    let one = there_is old copier inside in
    subst (IsFirst map copier) (sym (is ∙ at_place old copier one.0 session one.1)) (are copier one.0 one.1)

pub popped_behind : (map : Map) (copier from : ℕ) (old new : List MapSession) (session : MapSession) → old ≡ new ++ session ∷ [] → AreFirstBehind map copier from (reverse old) → IsFirst map (slot_behind copier from) session
popped_behind map copier from old new session is are =
    let same : from + 0 ≡ from = omega arith in
    subst (λ (n : ℕ). IsFirst map (slot_behind copier n) session) same (are 0 session (ap (λ (l : List MapSession). get_elem? l 0) (popped_order old new session is)))

pub first_behind_popped : (map : Map) (copier from : ℕ) (old new : List MapSession) (session : MapSession) → old ≡ new ++ session ∷ [] → AreFirstBehind map copier from (reverse old) → AreFirstBehind map copier (from + 1) (reverse new)
first_behind_popped map copier from old new session is are k one e =
    let same : from + suc k ≡ from + 1 + k = omega arith in
    subst (λ (n : ℕ). IsFirst map (slot_behind copier n) one) same (are (suc k) one (ap (λ (l : List MapSession). get_elem? l (suc k)) (popped_order old new session is) ∙ e))

pub one_more_held : (map : Map) (copier : ℕ) (others : List Current) (held : Current) → AreOthersIn map copier others → IsFirstIn map (slot_behind copier (length others)) held → AreOthersIn map copier (others ++ held ∷ [])
one_more_held map copier others held those its k other is = ⊎_elim
    (λ (old : get_elem? others k ≡ some other). those k other old)
    (λ (new : (k ≡ length others) × (held ≡ other)). subst (λ (n : ℕ). IsFirstIn map (slot_behind copier n) other) (sym new.0) (subst (IsFirstIn map (slot_behind copier (length others))) new.1 its))
    (at_end others held other k is)

pub none_held : (map : Map) (copier : ℕ) → AreOthersIn map copier []
none_held map copier k held is = absurd (some-ne-none held (sym is))

-- ---- the sessions that are dealt are the map's

pub all_its_own : (map : GrowingMap) (sessions : List Session) → AreDealt map sessions → All (IsSessionOf map) sessions
all_its_own map sessions dealt k d inside = (dealt k (get_or sessions k d) (some_or sessions k d inside)).its_own
