-- The caller's arrays after a scan or a dump, and what the caller is told of a scan.
use Rattle.std.specs.Prelude.{ℕ, Option, Some, None, List, [], ◌∷◌, ◌++◌, length, drop, take, slice_get, nat_le, if◌then◌else◌}
use Rattle.blink_batch.specs.declared.Entry.{Entry}
use Rattle.blink_handles.specs.declared.raw.RawEntry.{RawEntry}
use Rattle.blink_handles.specs.declared.raw.RawScanned.{RawScanned}
use Rattle.blink_handles.specs.Raw.{raw_entry, raw_next}

-- the places of an array, the first of them with entries, as far as there are places
abbrev pub overlaid : List Entry → List RawEntry → List RawEntry
overlaid [] places = places
overlaid (e ∷ entries) [] = []
overlaid (e ∷ entries) (place ∷ places) = raw_entry e ∷ overlaid entries places

-- the entry's key
abbrev pub key_in : Option Entry → Option ℕ
key_in None = None
key_in (Some e) = Some e.key

-- what the caller is told where a scan finds these entries, and there are so many places: how many were filled, and the key of the
-- first entry for which there was no place
abbrev pub told_of : List Entry → ℕ → RawScanned
told_of found places = raw_next (length (take places found)) (key_in (slice_get found places))

-- the places of an array, the first of them with a text, if the whole text fits
abbrev pub put_if_fits : List ℕ → List ℕ → List ℕ
put_if_fits text places = if nat_le (length text) (length places) then text ++ drop (length text) places else places
