-- In a growing map whose sessions are all as they were dealt nobody has made a change.
use Rattle.std.proofs.Common.{◌≡◌, ◌<◌, ℕ, zero, suc, List, [], ◌∷◌, get_or, length, refl, sym, ap, ◌∙◌, subst, eq-eqb, arith}
use Rattle.std.specs.Prelude.{All, Bool, if◌then◌else◌}
use mathlib.Core.Option.{some, some-injective, some-ne-none}
use lib.ListN.{get_elem?}
use Rattle.blink_live.specs.declared.view.Change.{Change}
use Rattle.blink_live.specs.{HaveAuthors, made_at}
use Rattle.blink_map.specs.declared.growing.GrowingMap.{GrowingMap}
use Rattle.blink_map.specs.declared.growing.Session.{Session}
use Rattle.blink_map.specs.{AreFirstSessions, made_by, place_of, places_of}

-- what stands at a place of a list
pub there_is : (l : List Session) (i : ℕ) → i < length l → (a : Session) × (get_elem? l i ≡ some a)
there_is [] i h = absurd (omega arith)
there_is (x ∷ xs) zero h = (x, refl)
there_is (x ∷ xs) (suc i) h = there_is xs i (omega arith)

pub got : (l : List Session) (i : ℕ) (a d : Session) → get_elem? l i ≡ some a → get_or l i d ≡ a
got [] i a d e = absurd (some-ne-none a (sym e))
got (x ∷ xs) zero a d e = some-injective x a e
got (x ∷ xs) (suc i) a d e = got xs i a d e

-- where no change was made at a place there is none
pub no_change : (places : ℕ) (final : List Change) → HaveAuthors places final → ((place : ℕ) → place < places → made_at place final ≡ []) → final ≡ []
no_change places [] authors none = refl
no_change places (change ∷ rest) authors none =
    absurd (let e : change ∷ made_at change.author rest ≡ [] =
    sym (ap (λ (b : Bool). if b then change ∷ made_at change.author rest else made_at change.author rest) (eq-eqb change.author change.author refl)) ∙ none change.author (authors 0 change (omega arith)) in cc)

-- in a map whose sessions are all as they were dealt
pub none_at : (map : GrowingMap) (final : List Change) (sessions : List Session) → AreFirstSessions map sessions → All (λ (session : Session). made_at (place_of session) final ≡ made_by session) sessions
    → (place : ℕ) → place < places_of map → made_at place final ≡ []
none_at map final sessions dealt made place inside =
    let width = dealt.width in
    let within : place < length sessions = omega (arith, width, inside) in
    let it = there_is sessions place within in
    let session : Session = it.0 in
    let is = dealt.each place session it.1 in
    let same : get_or sessions place session ≡ session = got sessions place session session it.1 in
    let its : made_at (place_of session) final ≡ made_by session = subst (λ (s : Session). made_at (place_of s) final ≡ made_by s) same (made place session within) in
    ap (λ (p : ℕ). made_at p final) (sym is.its_place) ∙ (its ∙ is.none_made)
