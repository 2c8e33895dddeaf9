-- The records that were read of a text are a prefix of all its records, and all of them once no more comes.
use Rattle.std.proofs.Common.{◌≡◌, inl, inr, ◌<◌, ◌+◌, ◌++◌, ◌∷◌, [], ℕ, zero, suc, List, length, true, false, Some, None, refl, sym, ap, ◌∙◌, arith, append_assoc, append-nil}
use Rattle.std.specs.Prelude.{if◌then◌else◌}
use Rattle.std.proofs.lemmas.Bool.{cases_Bool}
use Rattle.csv.specs.Machine.{Read, ends_at_end, is_end, next_record, step}
use Rattle.csv.specs.Reading.{Reached, records, records_from}
use Rattle.csv.specs.declared.parser.Config.{Config}
use Rattle.csv.specs.declared.parser.State.{State}
use Rattle.csv.specs.declared.parser.State.TheVariants as st
use Rattle.csv.proofs.ReadFacts.{reached-more}

-- a step that ends a record leaves none begun
step_closed : (cfg : Config) (s : State) (c : ℕ) → is_end (step cfg s c).1 ≡ true → ends_at_end (step cfg s c).0 ≡ false
step_closed cfg st.StartRecord c e = grind arith
step_closed cfg st.StartField c e = grind arith
step_closed cfg st.InField c e = grind arith
step_closed cfg st.InQuoted c e = grind arith
step_closed cfg st.AfterQuote c e = grind arith
step_closed cfg st.InEscape c e = grind arith
step_closed cfg st.InComment c e = grind arith
step_closed cfg st.AfterCr c e = grind arith

-- one for a record that the end of the text would end
abbrev pub begun : State → ℕ
begun s = if ends_at_end s then 1 else 0

-- the bytes to come, and the record that is begun
abbrev pub weight : State → List ℕ → ℕ
weight s xs = length xs + begun s

-- at most one record is begun
begun_below : (s : State) → begun s < 2
begun_below s = grind arith

-- each record that is read lowers the weight
pub record_lowers : (cfg : Config) (s : State) (fields : List (List ℕ)) (field xs : List ℕ) (p : Read)
    → next_record cfg s fields field xs ≡ Some p → weight p.1 p.2 < weight s xs
unfolding next_record
record_lowers cfg s fields field [] p e = elim (cases_Bool (ends_at_end s)) [
  | inl ends ↦
      let q = rw ends at e in
      let state : st.StartRecord ≡ p.1 = cc q in
      let left : [] ≡ p.2 = cc q in
      rw (← state, ← left, ends) (omega arith)
  | inr none ↦ cc (rw none at e)
]
record_lowers cfg s fields field (c ∷ rest) p e = elim (cases_Bool (is_end (step cfg s c).1)) [
  | inl ends ↦
      let q = rw ends at e in
      let state : (step cfg s c).0 ≡ p.1 = cc q in
      let left : rest ≡ p.2 = cc q in
      rw (← state, ← left, step_closed cfg s c ends) (omega arith)
  | inr more ↦
      let later = record_lowers cfg (step cfg s c).0 _ _ rest p (rw more at e) in
      let one = begun_below (step cfg s c).0 in
      omega arith
]

-- with more fuel than weight, the records of a text are the rows so far and, with such fuel again, those to come
pub reached_splits : (cfg : Config) (n : ℕ) (s s2 : State) (xs ys : List ℕ) (rows : List (List (List ℕ)))
    → weight s xs < n → Reached cfg s xs rows s2 ys
    → (k : ℕ) × (weight s2 ys < k) × (records_from cfg n s xs ≡ rows ++ records_from cfg k s2 ys)
unfolding Reached records_from
reached_splits cfg n s s2 xs ys [] lt h = rw (← h.0, ← h.1) (n, lt, refl)
reached_splits cfg zero s s2 xs ys (r ∷ rs) lt h = absurd (omega arith)
reached_splits cfg (suc n) s s2 xs ys (r ∷ rs) lt h =
    let lower = record_lowers cfg s [] [] xs h.0 h.1 in
    let more = reached_splits cfg n h.0.1 s2 h.0.2 ys rs (omega arith) h.3 in
    (more.0, more.1, rw (h.1, h.2) (ap (λ t. h.0.0 ∷ t) more.2))

-- the rows read so far are a prefix of the text's records
pub reached_prefix : (cfg : Config) (s2 : State) (xs ys : List ℕ) (rows : List (List (List ℕ)))
    → Reached cfg st.StartRecord xs rows s2 ys → (rest : List (List (List ℕ))) × (records cfg xs ≡ rows ++ rest)
reached_prefix cfg s2 xs ys rows h =
    let split = reached_splits cfg (length xs + 1) st.StartRecord s2 xs ys rows (omega arith) h in
    (records_from cfg split.0 s2 ys, split.2)

-- so are they with the record that comes next
pub reached_prefix_next : (cfg : Config) (s2 : State) (xs ys : List ℕ) (rows : List (List (List ℕ))) (p : Read)
    → Reached cfg st.StartRecord xs rows s2 ys → next_record cfg s2 [] [] ys ≡ Some p
    → (rest : List (List (List ℕ))) × (records cfg xs ≡ rows ++ p.0 ∷ rest)
reached_prefix_next cfg s2 xs ys rows p h e =
    let prefix = reached_prefix cfg p.1 xs p.2 (rows ++ p.0 ∷ []) (reached-more cfg st.StartRecord s2 xs ys rows p h e) in
    (prefix.0, prefix.1 ∙ append_assoc rows (p.0 ∷ []) prefix.0)

-- where no record comes next, none are listed, whatever the fuel
records_end : (cfg : Config) (n : ℕ) (s : State) (xs : List ℕ) → next_record cfg s [] [] xs ≡ None → records_from cfg n s xs ≡ []
unfolding records_from
records_end cfg zero s xs e = refl
records_end cfg (suc n) s xs e = rw e refl

-- where no record comes next, the rows are all the records of the text
pub reached_all : (cfg : Config) (s2 : State) (xs ys : List ℕ) (rows : List (List (List ℕ)))
    → Reached cfg st.StartRecord xs rows s2 ys → next_record cfg s2 [] [] ys ≡ None → rows ≡ records cfg xs
reached_all cfg s2 xs ys rows h e =
    let split = reached_splits cfg (length xs + 1) st.StartRecord s2 xs ys rows (omega arith) h in
    sym (split.2 ∙ ap (λ t. rows ++ t) (records_end cfg split.0 s2 ys e) ∙ append-nil rows)
