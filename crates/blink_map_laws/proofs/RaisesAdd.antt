-- Where each change of a counter raises it by one, its last pointer is the first one and the number of changes.
use Rattle.std.proofs.Common.{◌≡◌, ◌≢◌, ⊎_elim, ℕ, suc, ◌+◌, Bool, Option, Some, List, [], ◌∷◌, ◌++◌, length, refl, sym, ap, ◌∙◌, eq-eqb, ne_eqb, arith}
use mathlib.Core.Logic.{dite}
use native.Mathlib.Decide.{ℕ_discrete}
use Rattle.std.specs.Prelude.{if◌then◌else◌}
use Rattle.blink_live.specs.declared.view.Change.{Change}
use Rattle.blink_live.specs.{after, made_at, put}
use Rattle.blink_map_laws.specs.Counting.{AreRaises, IsRaise}
use Rattle.blink_map_laws.proofs.OneIsFirst.{AreByTwo}

-- the whole states after two lists
pub after_both : (state : ℕ → Option ℕ) (xs ys : List Change) → after state (xs ++ ys) ≡ after (after state xs) ys
after_both state [] ys = refl
after_both state (change ∷ xs) ys = after_both (put state change.key change.pointer) xs ys

-- ---- which changes are made at a place

pub made_first : (place : ℕ) (change : Change) (rest : List Change) → change.author ≡ place → made_at place (change ∷ rest) ≡ change ∷ made_at place rest
made_first place change rest is = ap (λ (b : Bool). if b then change ∷ made_at place rest else made_at place rest) (eq-eqb change.author place is)

pub made_later : (place : ℕ) (change : Change) (rest : List Change) → change.author ≢ place → made_at place (change ∷ rest) ≡ made_at place rest
made_later place change rest is_not = ap (λ (b : Bool). if b then change ∷ made_at place rest else made_at place rest) (ne_eqb change.author place is_not)

-- ---- raises

pub none_raised : (place key : ℕ) (state : ℕ → Option ℕ) (changes : List Change) → made_at place changes ≡ [] → AreRaises place key state changes
none_raised place key state [] none = tt
none_raised place key state (change ∷ rest) none = dite (ℕ_discrete change.author place)
    (λ is. absurd (let e : change ∷ made_at place rest ≡ [] = sym (made_first place change rest is) ∙ none in cc))
    (λ is_not. (λ is. absurd (is_not is), none_raised place key (put state change.key change.pointer) rest (sym (made_later place change rest is_not) ∙ none)))

pub raised_both : (place key : ℕ) (state : ℕ → Option ℕ) (xs ys : List Change) → AreRaises place key state xs → AreRaises place key (after state xs) ys → AreRaises place key state (xs ++ ys)
raised_both place key state [] ys first second = second
raised_both place key state (change ∷ xs) ys first second = (first.0, raised_both place key (put state change.key change.pointer) xs ys first.1 second)

pub raised_behind : (place key : ℕ) (state : ℕ → Option ℕ) (xs ys : List Change) → AreRaises place key state (xs ++ ys) → AreRaises place key (after state xs) ys
raised_behind place key state [] ys all = all
raised_behind place key state (change ∷ xs) ys all = raised_behind place key (put state change.key change.pointer) xs ys all.1

module _ (one other key : ℕ) (differ : one ≢ other) where
  -- the changes are those of the two
  pub made_by_both : (changes : List Change) → AreByTwo one other changes → length changes ≡ length (made_at one changes) + length (made_at other changes)
  made_by_both [] by = refl
  made_by_both (change ∷ rest) by =
      let more = made_by_both rest (λ k d inside. by (suc k) d (omega (arith, inside))) in
      ⊎_elim
      (λ (is : change.author ≡ one).
      let its : length (made_at one (change ∷ rest)) ≡ length (change ∷ made_at one rest) = ap (λ (l : List Change). length l) (made_first one change rest is) in
      let not_its : length (made_at other (change ∷ rest)) ≡ length (made_at other rest) = ap (λ (l : List Change). length l) (made_later other change rest (λ e. differ (sym is ∙ e))) in
      omega (arith, more, its, not_its))
      (λ (is : change.author ≡ other).
      let its : length (made_at other (change ∷ rest)) ≡ length (change ∷ made_at other rest) = ap (λ (l : List Change). length l) (made_first other change rest is) in
      let not_its : length (made_at one (change ∷ rest)) ≡ length (made_at one rest) = ap (λ (l : List Change). length l) (made_later one change rest (λ e. differ (sym e ∙ is))) in
      omega (arith, more, its, not_its))
      (by 0 change (omega arith))

-- what one raise leaves
raised_once : (key value : ℕ) (state : ℕ → Option ℕ) (change : Change) → state key ≡ Some value → IsRaise key (state key) change → put state change.key change.pointer key ≡ Some (value + 1)
raised_once key value state change there is =
    let same : is.value ≡ value = let e : Some is.value ≡ Some value = sym is.there ∙ there in cc in
    ap (λ (b : Bool). if b then change.pointer else state key) (eq-eqb key change.key (sym is.same_key)) ∙ (is.raised ∙ ap (λ (n : ℕ). Some (n + 1)) same)

module _ (one other key : ℕ) where
  -- the pointer is raised by each change
  pub raised_by_each : (value : ℕ) (state : ℕ → Option ℕ) (changes : List Change) → AreByTwo one other changes → AreRaises one key state changes → AreRaises other key state changes → state key ≡ Some value
      → after state changes key ≡ Some (value + length changes)
  raised_by_each value state [] by ones others there = there ∙ ap (λ (n : ℕ). Some n) (omega arith)
  raised_by_each value state (change ∷ rest) by ones others there =
      let is : IsRaise key (state key) change = ⊎_elim (λ (e : change.author ≡ one). ones.0 e) (λ (e : change.author ≡ other). others.0 e) (by 0 change (omega arith)) in
      raised_by_each (value + 1) (put state change.key change.pointer) rest (λ k d inside. by (suc k) d (omega (arith, inside))) ones.1 others.1 (raised_once key value state change there is)
      ∙ ap (λ (n : ℕ). Some n) (omega arith)

-- so no raise of the two is lost
pub raised_by_both : (one other key value : ℕ) (state : ℕ → Option ℕ) (changes : List Change) → one ≢ other → AreByTwo one other changes → AreRaises one key state changes → AreRaises other key state changes → state key ≡ Some value
    → after state changes key ≡ Some (value + length (made_at one changes) + length (made_at other changes))
raised_by_both one other key value state changes differ by ones others there =
    let all = made_by_both one other key differ changes by in
    raised_by_each one other key value state changes by ones others there ∙ ap (λ (n : ℕ). Some n) (omega (arith, all))
