-- Lists, and functions of slots, with one place changed.
use Rattle.std.proofs.Common.{◌≡◌, ◌≢◌, ◌⊎◌, inl, inr, ℕ, zero, suc, ◌<◌, Option, Some, None, Bool, List, [], ◌∷◌, ◌++◌, length, set, append_assoc, append-nil, refl, sym, ap, ◌∙◌, subst, ⊎_elim, get_or, get_or-set_same, get_or-set_other, eq-eqb, ne_eqb, arith}
use Rattle.std.specs.Prelude.{IfSome, slice_index, ◌==◌, if◌then◌else◌}
use mathlib.Core.Option.{some, some-injective, some-ne-none}
use mathlib.Core.List.{IsPrefix}
use mathlib.Core.Logic.{dite}
use native.Mathlib.Decide.{ℕ_discrete}
use lib.ListN.{get_elem?}
use Rattle.atomic_table.proofs.Lists.{at_set}
use Rattle.blink_map.specs.declared.slots.Generation.{Generation}
use Rattle.blink_map.specs.declared.slots.Known.{Known}
use Rattle.blink_map.specs.declared.slots.SlotView.{SlotView}
use Rattle.blink_map.specs.Rule.{Account, word_of}
use Rattle.blink_map.specs.Steps.{front_of, while_some, with_known}

-- ---- words

pub word_here : (words : List ℕ) (slot word slots : ℕ) → length words ≡ word_of slots → slot < slots → slice_index (set words (word_of slot) word) (word_of slot) ≡ word
word_here words slot word slots wide inside = get_or-set_same words (word_of slot) word 0 (omega (arith, wide, inside))

pub word_else : (words : List ℕ) (slot word other : ℕ) → other ≢ slot → slice_index (set words (word_of slot) word) (word_of other) ≡ slice_index words (word_of other)
word_else words slot word other differ = get_or-set_other words (word_of slot) (word_of other) word 0 (λ e. differ (omega (arith, e)))

-- ---- a function of slots with another value at one slot

abbrev pub with_at : {A : Type 0} → (ℕ → A) → ℕ → A → ℕ → A
with_at f at x slot = dite (ℕ_discrete slot at) (λ same. x) (λ other. f slot)

pub at_here : {A : Type 0} (f : ℕ → A) (at : ℕ) (x : A) → with_at f at x at ≡ x
at_here {A} f at x = go (ℕ_discrete at at)
  where
    go : (d : Dec (at ≡ at)) → dite d (λ same. x) (λ other. f at) ≡ x
    go (yes e) = refl
    go (no ne) = absurd (ne refl)

pub at_else : {A : Type 0} (f : ℕ → A) (at : ℕ) (x : A) (slot : ℕ) → slot ≢ at → with_at f at x slot ≡ f slot
at_else {A} f at x slot differ = go (ℕ_discrete slot at)
  where
    go : (d : Dec (slot ≡ at)) → dite d (λ same. x) (λ other. f slot) ≡ f slot
    go (yes e) = absurd (differ e)
    go (no ne) = refl

-- ---- lists

-- what stands in a list with one more at its end
pub at_end : {A : Type 0} (l : List A) (a b : A) (i : ℕ) → get_elem? (l ++ a ∷ []) i ≡ some b → (get_elem? l i ≡ some b) ⊎ ((i ≡ length l) × (a ≡ b))
at_end [] a b zero e = inr (refl, some-injective a b e)
at_end [] a b (suc i) e = absurd (some-ne-none b (sym e))
at_end (x ∷ xs) a b zero e = inl e
at_end (x ∷ xs) a b (suc i) e = ⊎_elim (λ (t : get_elem? xs i ≡ some b). inl t) (λ (t : (i ≡ length xs) × (a ≡ b)). inr (ap suc t.0, t.1)) (at_end xs a b i e)

pub some_end : {A : Type 0} (l : List A) (a : A) → (l ++ a ∷ []) ≢ []
some_end [] a e = cc
some_end (x ∷ xs) a e = cc

pub there_is : {A : Type 0} (l : List A) (i : ℕ) → i < length l → (a : A) × (get_elem? l i ≡ some a)
there_is [] i h = absurd (omega arith)
there_is (x ∷ xs) zero h = (x, refl)
there_is (x ∷ xs) (suc i) h = there_is xs i (omega arith)

pub in_list : {A : Type 0} (l : List A) (i : ℕ) (a : A) → get_elem? l i ≡ some a → i < length l
in_list [] i a e = absurd (some-ne-none a (sym e))
in_list (x ∷ xs) zero a e = omega arith
in_list (x ∷ xs) (suc i) a e = let more = in_list xs i a e in omega (arith, more)

pub not_none : {A : Type 0} (l : List A) (i : ℕ) (a : A) → get_elem? l i ≡ some a → l ≢ []
not_none {A} l i a e empty = some-ne-none a (sym e ∙ ap (λ (m : List A). get_elem? m i) empty)

pub no_first : {A : Type 0} (l : List A) → l ≢ [] → 0 < length l
no_first [] there = absurd (there refl)
no_first (x ∷ xs) there = omega arith

-- all but the last
pub at_front : {A : Type 0} (l : List A) (a : A) (i : ℕ) → get_elem? (front_of l) i ≡ some a → (get_elem? l i ≡ some a) × (suc i < length l)
at_front [] a i e = absurd (some-ne-none a (sym e))
at_front (x ∷ []) a i e = absurd (some-ne-none a (sym e))
at_front (x ∷ y ∷ rest) a zero e = (e, omega arith)
at_front (x ∷ y ∷ rest) a (suc i) e = let more = at_front (y ∷ rest) a i e in (more.0, let m = more.1 in omega (arith, m))

pub front_stays : {A : Type 0} (l : List A) (n : Option Generation) (now : Generation) → while_some l n ≡ Some now → (n ≡ Some now) × (l ≢ [])
front_stays [] n now e = absurd (let f : None ≡ Some now = e in cc)
front_stays (x ∷ xs) n now e = (e, λ f. cc)

-- a longer list behind the same one
pub prefix_behind : {A : Type 0} (past one other : List A) → IsPrefix one other → IsPrefix (past ++ one) (past ++ other)
prefix_behind {A} past one other is = (is.0, append_assoc past one is.0 ∙ ap (λ (l : List A). past ++ l) is.1)

pub prefix_refl : {A : Type 0} (l : List A) → IsPrefix l l
prefix_refl l = ([], append-nil l)

-- ---- views with one changed

pub each_set : (views : List SlotView) (id : ℕ) (new : SlotView) (P : ℕ → SlotView → Type 0) → P id new → ((seat : ℕ) (w : SlotView) → seat ≢ id → get_elem? views seat ≡ some w → P seat w)
    → (seat : ℕ) (w : SlotView) → get_elem? (set views id new) seat ≡ some w → P seat w
each_set views id new P mine others seat w there = ⊎_elim
    (λ (t : (seat ≡ id) × (new ≡ w)). subst (λ (k : ℕ). P k w) (sym t.0) (subst (P id) t.1 mine))
    (λ (t : (seat ≢ id) × (get_elem? views seat ≡ some w)). others seat w t.0 t.1)
    (at_set views id seat new w there)

pub each_more : (views : List SlotView) (new : SlotView) (P : ℕ → SlotView → Type 0) → P (length views) new → ((seat : ℕ) (w : SlotView) → get_elem? views seat ≡ some w → P seat w)
    → (seat : ℕ) (w : SlotView) → get_elem? (views ++ new ∷ []) seat ≡ some w → P seat w
each_more views new P mine others seat w there = ⊎_elim
    (λ (old : get_elem? views seat ≡ some w). others seat w old)
    (λ (t : (seat ≡ length views) × (new ≡ w)). subst (λ (k : ℕ). P k w) (sym t.0) (subst (P (length views)) t.1 mine))
    (at_end views new w seat there)

-- ---- the account of one slot changed

-- where an account comes from
abbrev pub ComesFrom : ℕ → Known → Account → Account → Type 0
ComesFrom slot known old account = ((old.0 ≡ slot) × ((slot, known) ≡ account)) ⊎ ((old.0 ≢ slot) × (old ≡ account))

abbrev one_with : ℕ → Known → Account → Account
one_with slot known account = if account.0 == slot then (slot, known) else account

comes_from : (slot : ℕ) (known : Known) (old account : Account) → one_with slot known old ≡ account → ComesFrom slot known old account
comes_from slot known old account is = dite (ℕ_discrete old.0 slot)
    (λ same. inl (same, sym (ap (λ (b : Bool). let a : Account = if b then (slot, known) else old in a) (eq-eqb old.0 slot same)) ∙ is))
    (λ differ. inr (differ, sym (ap (λ (b : Bool). let a : Account = if b then (slot, known) else old in a) (ne_eqb old.0 slot differ)) ∙ is))

pub at_with : (slot : ℕ) (known : Known) (accounts : List Account) (k : ℕ) (account : Account) → get_elem? (with_known slot known accounts) k ≡ some account
    → (old : Account) × (get_elem? accounts k ≡ some old) × ComesFrom slot known old account
at_with slot known [] k account e = absurd (some-ne-none account (sym e))
at_with slot known (a ∷ more) zero account e = (a, refl, comes_from slot known a account (some-injective (one_with slot known a) account e))
at_with slot known (a ∷ more) (suc k) account e = at_with slot known more k account e

-- its slot is the same
pub same_slot : (slot : ℕ) (known : Known) (old account : Account) → ComesFrom slot known old account → old.0 ≡ account.0
same_slot slot known old account from = ⊎_elim
    (λ (t : (old.0 ≡ slot) × ((slot, known) ≡ account)). t.0 ∙ ap (λ (a : Account). a.0) t.1)
    (λ (t : (old.0 ≢ slot) × (old ≡ account)). ap (λ (a : Account). a.0) t.1)
    from

-- a session alone
pub with_own : (slot : ℕ) (known own : Known) → with_known slot known ((slot, own) ∷ []) ≡ (slot, known) ∷ []
with_own slot known own = ap (λ (b : Bool). let l : List Account = (if b then (slot, known) else (slot, own)) ∷ [] in l) (eq-eqb slot slot refl)

-- ---- all but the last

pub front_at : {A : Type 0} (l : List A) (a : A) (i : ℕ) → get_elem? l i ≡ some a → suc i < length l → get_elem? (front_of l) i ≡ some a
front_at [] a i e inside = absurd (some-ne-none a (sym e))
front_at (x ∷ []) a i e inside = absurd (omega (arith, inside))
front_at (x ∷ y ∷ rest) a zero e inside = e
front_at (x ∷ y ∷ rest) a (suc i) e inside = front_at (y ∷ rest) a i e (omega (arith, inside))

pub length_front : {A : Type 0} (l : List A) (n : ℕ) → length l ≡ suc n → length (front_of l) ≡ n
length_front [] n e = absurd (omega (arith, e))
length_front (x ∷ []) n e = omega (arith, e)
length_front (x ∷ y ∷ rest) zero e = absurd (omega (arith, e))
length_front (x ∷ y ∷ rest) (suc n) e = ap suc (length_front (y ∷ rest) n (omega (arith, e)))

pub while_there : {A : Type 0} (l : List A) (n : Option Generation) → 0 < length l → while_some l n ≡ n
while_there [] n there = absurd (omega (arith, there))
while_there (x ∷ xs) n there = refl

-- ---- the element before some others

pub at_middle : {A : Type 0} (l : List A) (a : A) (more : List A) → get_elem? (l ++ (a ∷ more)) (length l) ≡ some a
at_middle [] a more = refl
at_middle (x ∷ xs) a more = at_middle xs a more

-- ---- the element at a place

pub some_or : {A : Type 0} (l : List A) (k : ℕ) (d : A) → k < length l → get_elem? l k ≡ some (get_or l k d)
some_or [] k d inside = absurd (omega (arith, inside))
some_or (x ∷ xs) zero d inside = refl
some_or (x ∷ xs) (suc k) d inside = some_or xs k d (omega (arith, inside))

-- ---- a value that may be there

pub if_some : {A : Type 0} (found : Option A) (P Q : A → Type 0) → ((a : A) → P a → Q a) → IfSome found P → IfSome found Q
if_some (Some a) P Q on was = on a was
if_some None P Q on was = was
