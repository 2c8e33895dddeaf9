-- The table of last places: a walk through one of its buckets, the table of nothing, and what the last place on a key tells.
use Rattle.std.proofs.Common.{◌≡◌, ℕ, zero, suc, ◌+◌, ◌<◌, ◌≤◌, List, length, get_or, set, replicate, Option, None, Some, ap, sym, ◌∙◌, subst, inl, inr, arith}
use Rattle.std.proofs.lemmas.Bool.{cases_eq, cases_lt}
use Rattle.std.proofs.lemmas.List.{get_or-replicate, get_or-set_other, get_or-set_same}
use Rattle.blink_operation.specs.declared.operation.Op.{Op}
use Rattle.blink_batch.specs.Cut.{IsSplitKey, key_at}
use Rattle.blink_batch.specs.declared.last_places.LastPlaces.{LastPlaces}
use Rattle.blink_batch.specs.declared.last_places.TheConstants.{BUCKETS}
use Rattle.blink_batch.specs.LastPlaces.{AreLastPlaces, IsInBucket, IsLastBefore, IsLastPlace, IsOnKey, bucket_of}

-- ---- a walk through the bucket of a key

-- where a walk through the bucket of a place's key stands: the places from `end` on are passed, and none of them is on the key
pub record IsWalk (ops : List Op) (place : ℕ) (next : Option ℕ) : Type 0 where
  pub end : ℕ
  pub within : end ≤ place
  pub is_next : IsLastBefore (IsInBucket ops (bucket_of (key_at ops place))) end next
  pub passed : (other : ℕ) → end ≤ other → other < place → ¬ IsOnKey ops (key_at ops place) other

-- the places that a walk may still come to
abbrev pub places_left : Option ℕ → ℕ
places_left None = zero
places_left (Some place) = suc place

-- fewer are left before a place than up to it
pub places_left-fewer : (IsSuch : ℕ → Type 0) (place : ℕ) (next : Option ℕ) → IsLastBefore IsSuch place next → places_left next < suc place
places_left-fewer IsSuch place None none = omega arith
places_left-fewer IsSuch place (Some earlier) is_last = let before : earlier < place = is_last.below in omega arith

-- ---- before the first place

-- a table of nothing has no place below the first
pub IsLastBefore-first : (IsSuch : ℕ → Type 0) (size i : ℕ) → i < size → IsLastBefore IsSuch 0 (get_or (replicate size None) i None)
IsLastBefore-first IsSuch size i within = rw (get_or-replicate {A = Option ℕ} size i None None within) (λ place below such. absurd (omega arith))

-- ---- a key in one lane so far

-- where no earlier key is split, a key isn't if the last operation on it is in the lane of this one
pub unsplit_by_last : (ops : List Op) (lanes : List ℕ) (place last : ℕ) → ((other : ℕ) → other < place → ¬ IsSplitKey ops lanes other)
    → IsLastPlace (IsOnKey ops (key_at ops place)) place last → get_or lanes last 0 ≡ get_or lanes place 0 → ¬ IsSplitKey ops lanes place
unsplit_by_last ops lanes place last whole is_last same_lane split = elim (cases_eq split.0 last) [
  | inl same ↦ split.1.other_lane (ap (λ (n : ℕ). get_or lanes n 0) same ∙ same_lane)
  | inr different ↦ elim (cases_lt split.0 last) [
    | inl before ↦ whole last is_last.below (
      split.0,
      record {
        before = before;
        same_key = split.1.same_key ∙ sym is_last.such;
        other_lane = λ same. split.1.other_lane (same ∙ same_lane);
      },
    )
    | inr after ↦ is_last.last split.0 (omega arith) split.1.before split.1.same_key
  ]
]

-- ---- one place more

-- a last place stays the last behind one that isn't such
one_more_is_not : (IsSuch : ℕ → Type 0) (end : ℕ) (last : Option ℕ) → (¬ IsSuch end) → IsLastBefore IsSuch end last → IsLastBefore IsSuch (end + 1) last
one_more_is_not IsSuch end None not none = λ place below such. elim (cases_eq place end) [
  | inl same ↦ not (subst IsSuch same such)
  | inr other ↦ none place (omega arith) such
]
one_more_is_not IsSuch end (Some place) not is_last = record {
  below = (let below = is_last.below in omega arith);
  such = is_last.such;
  last = λ later behind below such. elim (cases_eq later end) [
    | inl same ↦ not (subst IsSuch same such)
    | inr other ↦ is_last.last later behind (omega arith) such
  ];
}

-- the table with one place more
pub one_more_recorded : (ops : List Op) (place : ℕ) (table : LastPlaces) → place < length table.earlier → length table.lasts ≡ BUCKETS → bucket_of (key_at ops place) < BUCKETS → AreLastPlaces ops place table
    → AreLastPlaces ops (place + 1) record { lasts = set table.lasts (bucket_of (key_at ops place)) (Some place); earlier = set table.earlier place (get_or table.lasts (bucket_of (key_at ops place)) None) }
one_more_recorded ops place table within long inside so_far =
    let own = bucket_of (key_at ops place) in
    record {
      of_buckets = λ bucket below. elim (cases_eq bucket own) [
        | inl same ↦
            let now : get_or (set table.lasts own (Some place)) bucket None ≡ Some place = rw same (get_or-set_same table.lasts own (Some place) None (omega arith)) in
            rw now (record { below = omega arith; such = sym same; last = λ later behind before such. absurd (omega arith) })
        | inr other ↦ rw (get_or-set_other table.lasts own bucket (Some place) None other) (one_more_is_not (IsInBucket ops bucket) place _ (λ such. other (sym such)) (so_far.of_buckets bucket below))
      ];
      of_places = λ earlier below. elim (cases_eq earlier place) [
        | inl same ↦
            rw (same, get_or-set_same table.earlier place (get_or table.lasts own None) None within) (so_far.of_buckets own inside)
        | inr other ↦ rw (get_or-set_other table.earlier place earlier (get_or table.lasts own None) None other) (so_far.of_places earlier (omega arith))
      ];
    }
