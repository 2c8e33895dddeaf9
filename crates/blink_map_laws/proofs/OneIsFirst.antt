-- Of two insertions of an absent key one stands first in the list of changes, and the other finds it.
use Rattle.std.proofs.Common.{◌≡◌, ◌≢◌, ◌⊎◌, ⊎_elim, inl, inr, ℕ, zero, suc, ◌<◌, Bool, Option, Some, None, List, [], ◌∷◌, ◌++◌, length, refl, sym, ap, ◌∙◌, length-append, eq-eqb, ne_eqb, arith}
use Rattle.std.specs.Prelude.{All, if◌then◌else◌, slice_index_or}
use mathlib.Core.List.{IsPrefix}
use Rattle.blink_batch.specs.declared.Answer.{Answer}
use Rattle.blink_batch.specs.declared.Answer.TheVariants.{Exists, Inserted}
use Rattle.blink_batch.specs.declared.Op.TheVariants.{Insert}
use Rattle.blink_batch.specs.{answer_at}
use Rattle.blink_live.specs.declared.view.Change.{Change}
use Rattle.blink_live.specs.{after, changes_made, made_at}
use Rattle.blink_live.proofs.Offered.{AreBy, made_here}
use Rattle.blink_generation.specs.{change_to}
use Rattle.blink_map_laws.specs.Racing.{OneIsInserted}

-- a list of no length
no_length : (xs : List Change) → length xs ≡ 0 → xs ≡ []
no_length [] none = refl
no_length (x ∷ xs) none = absurd (omega (arith, none))

-- each change of the list is by one of two authors
abbrev pub AreByTwo : ℕ → ℕ → List Change → Type 0
AreByTwo one other changes = All (λ (change : Change). (change.author ≡ one) ⊎ (change.author ≡ other)) changes

-- an insertion among these changes, and all that its author has made of them
pub record Inserts (start : ℕ → Option ℕ) (author key pointer : ℕ) (changes : List Change) (answer : Answer) : Type 0 where
  pub before : List Change
  pub answers : answer ≡ answer_at (Insert key pointer) (after start before key)
  pub goes_on : IsPrefix (before ++ changes_made author (Insert key pointer) (after start before key)) changes
  pub made : made_at author changes ≡ changes_made author (Insert key pointer) (after start before key)

-- what the head of a list is
head_of : (x y : Change) (xs ys : List Change) → x ∷ xs ≡ y ∷ ys → (x ≡ y) × (xs ≡ ys)
head_of x y xs ys same = (cc, cc)

module _ (start : ℕ → Option ℕ) (one other key one_pointer other_pointer : ℕ) (differ : one ≢ other) (absent : start key ≡ None) where
  -- where a change of its own stands first, an insertion has made it
  made_first : (kept : Option ℕ) (change : Change) (own : List Change) (answer : Answer) → answer ≡ answer_at (Insert key one_pointer) kept → change ∷ own ≡ changes_made one (Insert key one_pointer) kept
      → (answer ≡ Inserted) × (change ≡ change_to one key one_pointer) × (own ≡ [])
  made_first (Some pointer) change own answer answers made = absurd (cc)
  made_first None change own answer answers made = let same = head_of change (change_to one key one_pointer) own [] made in (answers, same.0, same.1)

  -- none of the others is by the first author
  all_others : (changes : List Change) → AreByTwo one other changes → made_at one changes ≡ [] → AreBy other changes
  all_others [] by none k d inside = absurd (omega (arith, inside))
  all_others (change ∷ rest) by none k d inside = ⊎_elim
      (λ (is : change.author ≡ one). absurd (let e : change ∷ made_at one rest ≡ [] = sym (ap (λ (b : Bool). if b then change ∷ made_at one rest else made_at one rest) (eq-eqb change.author one is)) ∙ none in cc))
      (λ (is : change.author ≡ other).
      let fewer : made_at one rest ≡ [] = sym (ap (λ (b : Bool). if b then change ∷ made_at one rest else made_at one rest) (ne_eqb change.author one (λ e. differ (sym e ∙ is)))) ∙ none in
      at k d inside is (all_others rest (λ n e early. by (suc n) e (omega (arith, early))) fewer))
      (by 0 change (omega arith))
    where
      at : (k : ℕ) (d : Change) → k < length (change ∷ rest) → change.author ≡ other → AreBy other rest → (slice_index_or (change ∷ rest) k d).author ≡ other
      at zero d inside is all = is
      at (suc k) d inside is all = all k d (omega (arith, inside))

  -- the other finds the key
  other_finds : (change : Change) (rest : List Change) (before made : List Change) → change ≡ change_to one key one_pointer → rest ≡ made → IsPrefix (before ++ made) (change ∷ rest)
      → (kept : Option ℕ) → after start before key ≡ kept → made ≡ changes_made other (Insert key other_pointer) kept → kept ≡ Some one_pointer
  other_finds change rest [] made is same goes_on (Some pointer) kept_is made_is = absurd (let e : None ≡ Some pointer = sym absent ∙ kept_is in cc)
  other_finds change rest [] made is same goes_on None kept_is made_is =
      let own : change_to other key other_pointer ∷ ([] ++ goes_on.0) ≡ change ∷ rest = ap (λ (l : List Change). l ++ goes_on.0) (sym made_is) ∙ goes_on.1 in
      let first : change_to other key other_pointer ≡ change = (head_of (change_to other key other_pointer) change ([] ++ goes_on.0) rest own).0 in
      absurd (differ (sym (ap (λ (c : Change). c.author) (first ∙ is))))
  other_finds change rest (found ∷ more) made is same goes_on kept kept_is made_is =
      let both = head_of found change ((more ++ made) ++ goes_on.0) rest goes_on.1 in
      let longer = length-append (more ++ made) goes_on.0 in
      let long = length-append more made in
      let whole : length ((more ++ made) ++ goes_on.0) ≡ length made = ap (λ (l : List Change). length l) (both.1 ∙ same) in
      let none : more ≡ [] = no_length more (omega (arith, longer, long, whole)) in
      sym kept_is ∙ (ap (λ (l : List Change). after start l key) (λ i. (both.0 ∙ is) i ∷ none i) ∙ put_there)
    where
      put_there : after start (change_to one key one_pointer ∷ []) key ≡ Some one_pointer
      put_there = ap (λ (b : Bool). if b then Some one_pointer else start key) (eq-eqb key key refl)

  -- so the author of the first change is answered `Inserted`, and the other one that it exists
  first_wins : (change : Change) (rest : List Change) (mine others : Answer) → change.author ≡ one → AreByTwo one other rest → Inserts start one key one_pointer (change ∷ rest) mine → Inserts start other key other_pointer (change ∷ rest) others
      → (mine ≡ Inserted) × (others ≡ Exists one_pointer)
  first_wins change rest mine others is by first second =
      let own : change ∷ made_at one rest ≡ changes_made one (Insert key one_pointer) (after start first.before key) =
      sym (ap (λ (b : Bool). if b then change ∷ made_at one rest else made_at one rest) (eq-eqb change.author one is)) ∙ first.made in
      let won = made_first (after start first.before key) change (made_at one rest) mine first.answers own in
      let theirs : made_at other (change ∷ rest) ≡ rest =
      ap (λ (b : Bool). if b then change ∷ made_at other rest else made_at other rest) (ne_eqb change.author other (λ e. differ (sym is ∙ e))) ∙ made_here other rest (all_others rest by won.2) in
      let kept : after start second.before key ≡ Some one_pointer =
      other_finds change rest second.before (changes_made other (Insert key other_pointer) (after start second.before key)) won.1 (sym theirs ∙ second.made) second.goes_on (after start second.before key) refl refl in
      (won.0, second.answers ∙ ap (answer_at (Insert key other_pointer)) kept)

module _ (start : ℕ → Option ℕ) (one other key one_pointer other_pointer : ℕ) (differ : one ≢ other) (absent : start key ≡ None) where
  -- there is a first change
  some_change : (mine : Answer) → Inserts start one key one_pointer [] mine → ⊥
  some_change mine is = go is.before (changes_made one (Insert key one_pointer) (after start is.before key)) refl is.goes_on
    where
      go : (before made : List Change) → made ≡ changes_made one (Insert key one_pointer) (after start before key) → IsPrefix (before ++ made) [] → ⊥
      go (change ∷ before) made made_is goes_on = let e = goes_on.1 in cc
      go [] made made_is goes_on =
          let own : made ≡ change_to one key one_pointer ∷ [] = made_is ∙ ap (changes_made one (Insert key one_pointer)) absent in
          let e : (change_to one key one_pointer ∷ []) ++ goes_on.0 ≡ [] = ap (λ (l : List Change). l ++ goes_on.0) (sym own) ∙ goes_on.1 in
          cc

  pub one_is_inserted : (changes : List Change) (mine others : Answer) → AreByTwo one other changes → Inserts start one key one_pointer changes mine → Inserts start other key other_pointer changes others → OneIsInserted one_pointer other_pointer mine others
  one_is_inserted [] mine others by first second = absurd (some_change mine first)
  one_is_inserted (change ∷ rest) mine others by first second =
      let rest_by : AreByTwo one other rest = λ k d inside. by (suc k) d (omega (arith, inside)) in
      ⊎_elim
      (λ (is : change.author ≡ one). inl (first_wins start one other key one_pointer other_pointer differ absent change rest mine others is rest_by first second))
      (λ (is : change.author ≡ other).
      let turned : AreByTwo other one rest = λ k d inside. ⊎_elim (λ e. inr e) (λ e. inl e) (rest_by k d inside) in
      let won = first_wins start other one key other_pointer one_pointer (λ e. differ (sym e)) absent change rest others mine is turned second first in
      inr (won.1, won.0))
      (by 0 change (omega arith))
