-- A run cut by keys: what it answers and leaves at a key is what the operations on that key do to the one cell.
use Rattle.std.proofs.Common.{subst, map, ◌≡◌, ℕ, ◌<◌, List, [], ◌∷◌, eqb, ltb, not, Some, None, refl, ap, sym, ◌∙◌, inl, inr, arith}
use Rattle.std.proofs.lemmas.Bool.{cases_eq, eq-eqb, ne_eqb, cases_order, ltb-true, cond_both}
use Rattle.std.proofs.lemmas.Bool.Decides.{nat_tests}
use Rattle.std.specs.List.{AllByRecursion, zip, filter}
use Rattle.blink_operation.specs.declared.entry.Entry.{Entry}
use Rattle.blink_operation.specs.declared.operation.Op.{Op}
use Rattle.blink_operation.specs.declared.operation.Op.TheVariants.{Find, Insert, Delete, Replace, Exchange, DeleteExact}
use Rattle.blink_operation.specs.declared.operation.Answer.{Answer}
use Rattle.blink_operation.specs.PlainMap.{entry, IsAscending, pointer_of, added, removed, replaced}
use Rattle.blink_operation.specs.Operation.{key_of, answer_at, cell_after, map_at, answer_of, map_after, answers, map_after_all}
use Rattle.blink_batch.specs.Cell.{cell_answers, cell_after_all, is_on_key, on_key}

-- a key that was absent maps to the pointer of the entry added
pub pointer_of-added : (m : List Entry) (k p : ℕ) → pointer_of m k ≡ None → pointer_of (added m (entry k p)) k ≡ Some p
pointer_of-added [] k p none = rw (eq-eqb k k refl)
pointer_of-added (e ∷ es) k p none =
    let rest : pointer_of es k ≡ None → pointer_of (added es (entry k p)) k ≡ Some p = pointer_of-added es k p in
    grind (arith, nat_tests, rest)

-- and leaves the other keys alone
pub pointer_of-added_elsewhere : (m : List Entry) (k p q : ℕ) → (k ≡ q → ⊥) → pointer_of (added m (entry k p)) q ≡ pointer_of m q
pointer_of-added_elsewhere [] k p q other = rw (ne_eqb k q other)
pointer_of-added_elsewhere (e ∷ es) k p q other =
    let rest : pointer_of (added es (entry k p)) q ≡ pointer_of es q = pointer_of-added_elsewhere es k p q other in
    grind (arith, nat_tests, rest)

-- a key whose entry is removed maps to nothing
pub pointer_of-removed : (m : List Entry) (k : ℕ) → pointer_of (removed m k) k ≡ None
pointer_of-removed [] k = refl
pointer_of-removed (e ∷ es) k =
    let rest : pointer_of (removed es k) k ≡ None = pointer_of-removed es k in
    grind (arith, nat_tests, rest)

-- and the other keys are left alone
pub pointer_of-removed_elsewhere : (m : List Entry) (k q : ℕ) → (k ≡ q → ⊥) → pointer_of (removed m k) q ≡ pointer_of m q
pointer_of-removed_elsewhere [] k q other = refl
pointer_of-removed_elsewhere (e ∷ es) k q other =
    let rest : pointer_of (removed es k) q ≡ pointer_of es q = pointer_of-removed_elsewhere es k q other in
    grind (arith, nat_tests, rest)

-- a key whose pointer is replaced maps to the new one
pub pointer_of-replaced : (m : List Entry) (k p there : ℕ) → pointer_of m k ≡ Some there → pointer_of (replaced m k p) k ≡ Some p
pointer_of-replaced [] k p there kept = absurd (cc)
pointer_of-replaced (e ∷ es) k p there kept =
    let rest : pointer_of es k ≡ Some there → pointer_of (replaced es k p) k ≡ Some p = pointer_of-replaced es k p there in
    grind (arith, nat_tests, rest)

-- and the other keys are left alone
pub pointer_of-replaced_elsewhere : (m : List Entry) (k p q : ℕ) → (k ≡ q → ⊥) → pointer_of (replaced m k p) q ≡ pointer_of m q
pointer_of-replaced_elsewhere [] k p q other = refl
pointer_of-replaced_elsewhere (e ∷ es) k p q other =
    let rest : pointer_of (replaced es k p) q ≡ pointer_of es q = pointer_of-replaced_elsewhere es k p q other in
    grind (arith, nat_tests, rest)

-- an operation on a key does to it what it does to the cell alone
pub pointer_of-map_after_own : (m : List Entry) (op : Op) (k : ℕ) → key_of op ≡ k → pointer_of (map_after m op) k ≡ cell_after op (pointer_of m k)
pointer_of-map_after_own m (Find key) k own = refl
pointer_of-map_after_own m (Insert key p) k own = subst (λ (q : ℕ). pointer_of (map_after m (Insert key p)) q ≡ cell_after (Insert key p) (pointer_of m q)) own ((elim (pointer_of m key) as (λ kept. pointer_of m key ≡ kept → pointer_of (map_at (Insert key p) kept m) key ≡ cell_after (Insert key p) kept) [ Some there ↦ λ h. h | None ↦ λ h. pointer_of-added m key p h ]) refl)
pointer_of-map_after_own m (Delete key) k own = subst (λ (q : ℕ). pointer_of (map_after m (Delete key)) q ≡ None) own ((elim (pointer_of m key) as (λ kept. pointer_of m key ≡ kept → pointer_of (map_at (Delete key) kept m) key ≡ None) [ Some there ↦ λ h. pointer_of-removed m key | None ↦ λ h. h ]) refl)
pointer_of-map_after_own m (Replace key p) k own = subst (λ (q : ℕ). pointer_of (map_after m (Replace key p)) q ≡ cell_after (Replace key p) (pointer_of m q)) own ((elim (pointer_of m key) as (λ kept. pointer_of m key ≡ kept → pointer_of (map_at (Replace key p) kept m) key ≡ cell_after (Replace key p) kept) [ Some there ↦ λ h. pointer_of-replaced m key p there h | None ↦ λ h. h ]) refl)
pointer_of-map_after_own m (Exchange key e p) k own = subst (λ (q : ℕ). pointer_of (map_after m (Exchange key e p)) q ≡ cell_after (Exchange key e p) (pointer_of m q)) own
    ((elim (pointer_of m key) as (λ kept. pointer_of m key ≡ kept → pointer_of (map_at (Exchange key e p) kept m) key ≡ cell_after (Exchange key e p) kept) [
      | Some there ↦ λ h. elim (cases_eq there e) [ inl same ↦ rw (eq-eqb there e same) (pointer_of-replaced m key p there h) | inr other ↦ rw (ne_eqb there e other) h ]
      | None ↦ λ h. h
    ]) refl)
pointer_of-map_after_own m (DeleteExact key e) k own = subst (λ (q : ℕ). pointer_of (map_after m (DeleteExact key e)) q ≡ cell_after (DeleteExact key e) (pointer_of m q)) own
    ((elim (pointer_of m key) as (λ kept. pointer_of m key ≡ kept → pointer_of (map_at (DeleteExact key e) kept m) key ≡ cell_after (DeleteExact key e) kept) [
      | Some there ↦ λ h. elim (cases_eq there e) [ inl same ↦ rw (eq-eqb there e same) (pointer_of-removed m key) | inr other ↦ rw (ne_eqb there e other) h ]
      | None ↦ λ h. h
    ]) refl)

-- and leaves every other key alone
pub pointer_of-map_after_other : (m : List Entry) (op : Op) (k : ℕ) → (key_of op ≡ k → ⊥) → pointer_of (map_after m op) k ≡ pointer_of m k
pointer_of-map_after_other m (Find key) k other = refl
pointer_of-map_after_other m (Insert key p) k other = elim (pointer_of m key) as (λ kept. pointer_of (map_at (Insert key p) kept m) k ≡ pointer_of m k) [ Some there ↦ refl | None ↦ pointer_of-added_elsewhere m key p k other ]
pointer_of-map_after_other m (Delete key) k other = elim (pointer_of m key) as (λ kept. pointer_of (map_at (Delete key) kept m) k ≡ pointer_of m k) [ Some there ↦ pointer_of-removed_elsewhere m key k other | None ↦ refl ]
pointer_of-map_after_other m (Replace key p) k other = elim (pointer_of m key) as (λ kept. pointer_of (map_at (Replace key p) kept m) k ≡ pointer_of m k) [ Some there ↦ pointer_of-replaced_elsewhere m key p k other | None ↦ refl ]
pointer_of-map_after_other m (Exchange key e p) k other = elim (pointer_of m key) as (λ kept. pointer_of (map_at (Exchange key e p) kept m) k ≡ pointer_of m k) [
  | Some there ↦ elim (cases_eq there e) [ inl same ↦ rw (eq-eqb there e same) (pointer_of-replaced_elsewhere m key p k other) | inr differs ↦ rw (ne_eqb there e differs) refl ]
  | None ↦ refl
]
pointer_of-map_after_other m (DeleteExact key e) k other = elim (pointer_of m key) as (λ kept. pointer_of (map_at (DeleteExact key e) kept m) k ≡ pointer_of m k) [
  | Some there ↦ elim (cases_eq there e) [ inl same ↦ rw (eq-eqb there e same) (pointer_of-removed_elsewhere m key k other) | inr differs ↦ rw (ne_eqb there e differs) refl ]
  | None ↦ refl
]

-- ---- ascending keys

-- what holds of each element still holds when it is weakened
pub every_weaker : {X : Type 0} (P Q : X → Type 0) → ((x : X) → P x → Q x) → (xs : List X) → AllByRecursion P xs → AllByRecursion Q xs
every_weaker P Q weaker [] all = tt
every_weaker P Q weaker (x ∷ xs) all = (weaker x all.0, every_weaker P Q weaker xs all.1)

-- what holds of the entries and of one more holds with it added
every-added : (P : Entry → Type 0) (m : List Entry) (new : Entry) → P new → AllByRecursion P m → AllByRecursion P (added m new)
every-added P [] new here all = (here, tt)
every-added P (e ∷ es) new here all = cond_both (ltb new.key e.key) (new ∷ e ∷ es) (e ∷ added es new) (AllByRecursion P) (λ _. (here, all)) (λ _. (all.0, every-added P es new here all.1))

-- an entry added under a key that had none leaves the keys ascending
pub IsAscending-added : (m : List Entry) (k p : ℕ) → pointer_of m k ≡ None → IsAscending m → IsAscending (added m (entry k p))
IsAscending-added [] k p none ascending = (tt, tt)
IsAscending-added (e ∷ es) k p none ascending = cond_both (ltb k e.key) (entry k p ∷ e ∷ es) (e ∷ added es (entry k p)) IsAscending
    (λ before. let here : k < e.key = ltb-true k e.key before in ((here, every_weaker (λ after. e.key < after.key) (λ after. k < after.key) (λ after h. omega arith) es ascending.0), ascending))
    (λ behind. let here : e.key < k = grind (arith, nat_tests) in let rest : pointer_of es k ≡ None = grind (arith, nat_tests) in
    (every-added (λ after. e.key < after.key) es (entry k p) here ascending.0, IsAscending-added es k p rest ascending.1))

-- what holds of the entries holds without one
every-removed : (P : Entry → Type 0) (m : List Entry) (k : ℕ) → AllByRecursion P m → AllByRecursion P (removed m k)
every-removed P [] k all = tt
every-removed P (e ∷ es) k all = cond_both (not (eqb e.key k)) (e ∷ removed es k) (removed es k) (AllByRecursion P) (λ _. (all.0, every-removed P es k all.1)) (λ _. every-removed P es k all.1)

-- a map without the entry of a key ascends too
pub IsAscending-removed : (m : List Entry) (k : ℕ) → IsAscending m → IsAscending (removed m k)
IsAscending-removed [] k ascending = tt
IsAscending-removed (e ∷ es) k ascending = cond_both (not (eqb e.key k)) (e ∷ removed es k) (removed es k) IsAscending
    (λ _. (every-removed (λ after. e.key < after.key) es k ascending.0, IsAscending-removed es k ascending.1))
    (λ _. IsAscending-removed es k ascending.1)

-- a replaced pointer leaves keys above a bound there
above-replaced : (low : ℕ) (m : List Entry) (k p : ℕ) → AllByRecursion (λ after. low < after.key) m → AllByRecursion (λ after. low < after.key) (replaced m k p)
above-replaced low [] k p all = tt
above-replaced low (e ∷ es) k p all = elim (cases_eq e.key k) [
  | inl same ↦ rw (eq-eqb e.key k same) (subst (λ (n : ℕ). low < n) same all.0, all.1)
  | inr other ↦ rw (ne_eqb e.key k other) (all.0, above-replaced low es k p all.1)
]

-- and the map ascending
pub IsAscending-replaced : (m : List Entry) (k p : ℕ) → IsAscending m → IsAscending (replaced m k p)
IsAscending-replaced [] k p ascending = tt
IsAscending-replaced (e ∷ es) k p ascending = elim (cases_eq e.key k) [
  | inl same ↦ rw (eq-eqb e.key k same) (subst (λ (n : ℕ). AllByRecursion (λ after. n < after.key) es) same ascending.0, ascending.1)
  | inr other ↦ rw (ne_eqb e.key k other) (above-replaced e.key es k p ascending.0, IsAscending-replaced es k p ascending.1)
]

-- so an operation leaves the keys ascending
pub IsAscending-map_after : (m : List Entry) (op : Op) → IsAscending m → IsAscending (map_after m op)
IsAscending-map_after m (Find key) ascending = ascending
IsAscending-map_after m (Insert key p) ascending = (elim (pointer_of m key) as (λ kept. pointer_of m key ≡ kept → IsAscending (map_at (Insert key p) kept m)) [ Some there ↦ λ h. ascending | None ↦ λ h. IsAscending-added m key p h ascending ]) refl
IsAscending-map_after m (Delete key) ascending = elim (pointer_of m key) as (λ kept. IsAscending (map_at (Delete key) kept m)) [ Some there ↦ IsAscending-removed m key ascending | None ↦ ascending ]
IsAscending-map_after m (Replace key p) ascending = elim (pointer_of m key) as (λ kept. IsAscending (map_at (Replace key p) kept m)) [ Some there ↦ IsAscending-replaced m key p ascending | None ↦ ascending ]
IsAscending-map_after m (Exchange key e p) ascending = elim (pointer_of m key) as (λ kept. IsAscending (map_at (Exchange key e p) kept m)) [
  | Some there ↦ elim (cases_eq there e) [ inl same ↦ rw (eq-eqb there e same) (IsAscending-replaced m key p ascending) | inr differs ↦ rw (ne_eqb there e differs) ascending ]
  | None ↦ ascending
]
IsAscending-map_after m (DeleteExact key e) ascending = elim (pointer_of m key) as (λ kept. IsAscending (map_at (DeleteExact key e) kept m)) [
  | Some there ↦ elim (cases_eq there e) [ inl same ↦ rw (eq-eqb there e same) (IsAscending-removed m key ascending) | inr differs ↦ rw (ne_eqb there e differs) ascending ]
  | None ↦ ascending
]

-- and so does a run of them
pub IsAscending-map_after_all : (m : List Entry) (ops : List Op) → IsAscending m → IsAscending (map_after_all m ops)
IsAscending-map_after_all m [] ascending = ascending
IsAscending-map_after_all m (op ∷ ops) ascending = IsAscending-map_after_all (map_after m op) ops (IsAscending-map_after m op ascending)

-- a key below all of the map's maps to nothing
pub pointer_of-below : (m : List Entry) (k : ℕ) → AllByRecursion (λ e. k < e.key) m → pointer_of m k ≡ None
pointer_of-below [] k below = refl
pointer_of-below (e ∷ es) k below = let here : k < e.key = below.0 in rw (ne_eqb e.key k (λ same. omega arith)) (pointer_of-below es k below.1)

pointer_of-first : (e : Entry) (es : List Entry) (k : ℕ) → e.key ≡ k → pointer_of (e ∷ es) k ≡ Some e.pointer
pointer_of-first e es k same = rw (eq-eqb e.key k same)

pointer_of-rest : (e : Entry) (es : List Entry) (k : ℕ) → (e.key ≡ k → ⊥) → pointer_of (e ∷ es) k ≡ pointer_of es k
pointer_of-rest e es k other = rw (ne_eqb e.key k other)

same_entry : (d e : Entry) → d.key ≡ e.key → d.pointer ≡ e.pointer → d ≡ e
same_entry d e keys pointers = λ i. record { key = keys i; pointer = pointers i }

-- a key that one map begins with isn't mapped alike by a map that begins above it
least_is_only_its_own : (d : Entry) (ds : List Entry) (e : Entry) (es : List Entry) → d.key < e.key → IsAscending (e ∷ es) → pointer_of (d ∷ ds) d.key ≡ pointer_of (e ∷ es) d.key → ⊥
least_is_only_its_own d ds e es less ascending same =
    let first = pointer_of-first d ds d.key refl in
    let none = pointer_of-below (e ∷ es) d.key (less, every_weaker (λ after. e.key < after.key) (λ after. d.key < after.key) (λ after h. omega arith) es ascending.0) in
    cc

-- two ascending maps that keep the same under every key are one
pub same_map_from_pointers : (m n : List Entry) → IsAscending m → IsAscending n → ((k : ℕ) → pointer_of m k ≡ pointer_of n k) → m ≡ n
same_map_from_pointers [] [] up_m up_n same = refl
same_map_from_pointers [] (e ∷ es) up_m up_n same = let first = pointer_of-first e es e.key refl in let h = same e.key in absurd (cc)
same_map_from_pointers (d ∷ ds) [] up_m up_n same = let first = pointer_of-first d ds d.key refl in let h = same d.key in absurd (cc)
same_map_from_pointers (d ∷ ds) (e ∷ es) up_m up_n same = elim (cases_order d.key e.key) [
  | inl keys ↦
      let first = pointer_of-first d ds d.key refl in let second = pointer_of-first e es d.key (sym keys) in let at_first = same d.key in
      let pointers : d.pointer ≡ e.pointer = cc in
      let rest : ds ≡ es = same_map_from_pointers ds es up_m.1 up_n.1 (λ k. elim (cases_eq d.key k) [
        | inl here ↦ pointer_of-below ds k (subst (λ (q : ℕ). AllByRecursion (λ after. q < after.key) ds) here up_m.0) ∙ sym (pointer_of-below es k (subst (λ (q : ℕ). AllByRecursion (λ after. q < after.key) es) (sym keys ∙ here) up_n.0))
        | inr other ↦ sym (pointer_of-rest d ds k other) ∙ same k ∙ pointer_of-rest e es k (λ h. other (keys ∙ h))
      ]) in
      let heads : d ≡ e = same_entry d e keys pointers in cc
  | inr (inl less) ↦ absurd (least_is_only_its_own d ds e es less up_n (same d.key))
  | inr (inr more) ↦ absurd (least_is_only_its_own e es d ds more up_m (sym (same e.key)))
]

-- ---- the cut

-- what a run leaves under a key is what the operations on that key leave in its cell
pub pointer_of-map_after_all : (m : List Entry) (ops : List Op) (k : ℕ) → pointer_of (map_after_all m ops) k ≡ cell_after_all (pointer_of m k) (on_key k ops)
pointer_of-map_after_all m [] k = refl
pointer_of-map_after_all m (op ∷ ops) k = pointer_of-map_after_all (map_after m op) ops k ∙ elim (cases_eq (key_of op) k) [
  | inl own ↦ rw (eq-eqb (key_of op) k own, pointer_of-map_after_own m op k own)
  | inr other ↦ rw (ne_eqb (key_of op) k other, pointer_of-map_after_other m op k other)
]

-- and what a run answers to the operations on a key is what they answer on its cell alone: here each x stands for the operation at x
pub answers_on_key : {X : Type 0} (at : X → Op) (m : List Entry) (xs : List X) (k : ℕ) → filter (λ (answered : X × Answer). is_on_key k (at answered.0)) (zip xs (answers m (map at xs))) ≡ zip (filter (λ x. is_on_key k (at x)) xs) (cell_answers (pointer_of m k) (map at (filter (λ x. is_on_key k (at x)) xs)))
answers_on_key at m [] k = refl
answers_on_key at m (x ∷ xs) k = elim (cases_eq (key_of (at x)) k) [
  | inl own ↦
      let here : answer_of m (at x) ≡ answer_at (at x) (pointer_of m k) = ap (λ q. answer_at (at x) (pointer_of m q)) own in
      rw (eq-eqb (key_of (at x)) k own, here, ← pointer_of-map_after_own m (at x) k own) (ap (λ r. (x, answer_at (at x) (pointer_of m k)) ∷ r) (answers_on_key at (map_after m (at x)) xs k))
  | inr other ↦ rw (ne_eqb (key_of (at x)) k other, ← pointer_of-map_after_other m (at x) k other) (answers_on_key at (map_after m (at x)) xs k)
]
