-- The last earlier place of a batch on each key, in a table of buckets.
use Rattle.std.specs.Prelude.{ℕ, ◌≡◌, ◌<◌, ◌*◌, ◌/◌, ◌%◌, ◌^◌, List, Option, None, Some, slice_index_or}
use Rattle.blink_operation.specs.declared.operation.Op.{Op}
use Rattle.blink_batch.specs.declared.last_places.LastPlaces.{LastPlaces}
use Rattle.blink_batch.specs.declared.last_places.TheConstants.{BUCKETS}
use Rattle.blink_batch.specs.Cut.{key_at}

-- the bucket of a key: the upper 13 of 64 bits of its product with 2 ^ 64 over the golden ratio
unfoldable pub bucket_of : ℕ → ℕ
bucket_of key = key * 11400714819323198485 % 2 ^ 64 / 2 ^ 51

-- the operation at a place is on the key
abbrev pub IsOnKey : List Op → ℕ → ℕ → Type 0
IsOnKey ops key place = key_at ops place ≡ key

-- the key of the operation at a place falls into the bucket
abbrev pub IsInBucket : List Op → ℕ → ℕ → Type 0
IsInBucket ops bucket place = bucket_of (key_at ops place) ≡ bucket

-- the place is the last such place below the end
pub record IsLastPlace (IsSuch : ℕ → Type 0) (end place : ℕ) : Type 0 where
  pub below : place < end
  pub such : IsSuch place
  pub last : (later : ℕ) → place < later → later < end → ¬ IsSuch later

-- the last such place below the end, or None if no place is such
abbrev pub IsLastBefore : (ℕ → Type 0) → ℕ → Option ℕ → Type 0
IsLastBefore IsSuch end None = (place : ℕ) → place < end → ¬ IsSuch place
IsLastBefore IsSuch end (Some place) = IsLastPlace IsSuch end place

-- each bucket has its last place below the end, and each place below the end has the one before it in its bucket
pub record AreLastPlaces (ops : List Op) (end : ℕ) (table : LastPlaces) : Type 0 where
  pub of_buckets : (bucket : ℕ) → bucket < BUCKETS → IsLastBefore (IsInBucket ops bucket) end (slice_index_or table.lasts bucket None)
  pub of_places : (place : ℕ) → place < end → IsLastBefore (IsInBucket ops (bucket_of (key_at ops place))) place (slice_index_or table.earlier place None)
