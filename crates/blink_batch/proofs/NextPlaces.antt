-- A worker's next place, as a scan of the lanes finds it, and the places of its lane before and after it.
use Rattle.std.proofs.Common.{◌≡◌, ℕ, zero, suc, ◌+◌, ◌<◌, ◌≤◌, List, length, get_or, true, false, Option, Some, None, ap, sym, ◌∙◌, subst, inl, inr, arith}
use Rattle.std.proofs.lemmas.Bool.{cases_eq, cases_lt, eq-eqb, ne_eqb, eqb-true}
use Rattle.std.proofs.lemmas.List.{drop_all, drop_more}
use Rattle.std.proofs.lemmas.Option.{slice_get-get_or}
use Rattle.std.specs.List.{slice_get}
use Rattle.blink_batch.specs.Order.{next_place, is_worker}

-- ---- the scan

-- a place whose lane is the worker's is a place of the worker
pub is_worker-own : (lanes : List ℕ) (worker i : ℕ) → i < length lanes → get_or lanes i 0 ≡ worker → is_worker worker (slice_get lanes i) ≡ true
is_worker-own lanes worker i within own = rw (slice_get-get_or lanes i 0 within) (eq-eqb (get_or lanes i 0) worker own)

-- a place whose lane is another's is none of the worker's
pub is_worker-other : (lanes : List ℕ) (worker i : ℕ) → i < length lanes → (get_or lanes i 0 ≡ worker → ⊥) → is_worker worker (slice_get lanes i) ≡ false
is_worker-other lanes worker i within other = rw (slice_get-get_or lanes i 0 within) (ne_eqb (get_or lanes i 0) worker other)

-- a place of the worker's has its lane
pub lane_from_is_worker : (lanes : List ℕ) (worker place : ℕ) → is_worker worker (slice_get lanes place) ≡ true → slice_get lanes place ≡ Some worker
lane_from_is_worker lanes worker place own = told worker (slice_get lanes place) own
  where
    told : (worker : ℕ) (lane : Option ℕ) → is_worker worker lane ≡ true → lane ≡ Some worker
    told worker None own = absurd (cc)
    told worker (Some lane) own = ap Some (eqb-true lane worker own)

-- the place where the scan stands is the next, if its lane is the worker's
pub next_place-here : (lanes : List ℕ) (worker i : ℕ) → i < length lanes → get_or lanes i 0 ≡ worker → next_place lanes worker i ≡ Some i
next_place-here lanes worker i within own = rw (drop_more lanes i 0 within, is_worker-own lanes worker i within own)

-- and else the scan goes on
pub next_place-further : (lanes : List ℕ) (worker i : ℕ) → i < length lanes → (get_or lanes i 0 ≡ worker → ⊥) → next_place lanes worker i ≡ next_place lanes worker (i + 1)
next_place-further lanes worker i within other = rw (drop_more lanes i 0 within, is_worker-other lanes worker i within other)

-- at the lanes' end there is no next place
pub next_place-end : (lanes : List ℕ) (worker i : ℕ) → length lanes ≤ i → next_place lanes worker i ≡ None
next_place-end lanes worker i past = rw (drop_all i lanes past)

-- ---- what the next place is

-- it isn't before the scan's start, is within the lanes, and has the worker's lane
pub next_place_is : (lanes : List ℕ) (worker place next : ℕ) → next_place lanes worker place ≡ Some next → (place ≤ next) × (next < length lanes) × (slice_get lanes next ≡ Some worker)
next_place_is lanes worker place next found = scan (length lanes) lanes worker place next (omega arith) found
  where
    scan : (fuel : ℕ) (lanes : List ℕ) (worker place next : ℕ) → length lanes ≤ fuel + place → next_place lanes worker place ≡ Some next → (place ≤ next) × (next < length lanes) × (slice_get lanes next ≡ Some worker)
    scan zero lanes worker place next near found = let none = next_place-end lanes worker place (omega arith) in absurd (cc)
    scan (suc fuel) lanes worker place next near found = elim (cases_lt place (length lanes)) [
      | inr past ↦ let none = next_place-end lanes worker place past in absurd (cc)
      | inl within ↦ elim (cases_eq (get_or lanes place 0) worker) [
        | inl own ↦
            let here = next_place-here lanes worker place within own in
            let same : place ≡ next = cc in
            subst (λ (n : ℕ). (place ≤ n) × (n < length lanes) × (slice_get lanes n ≡ Some worker)) same (omega arith, within, lane_from_is_worker lanes worker place (is_worker-own lanes worker place within own))
        | inr other ↦
            let rest = scan fuel lanes worker (place + 1) next (omega arith) (sym (next_place-further lanes worker place within other) ∙ found) in
            let above : place + 1 ≤ next = rest.0 in
            (omega arith, rest.1, rest.2)
      ]
    ]
