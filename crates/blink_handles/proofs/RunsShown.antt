-- A run of entries in the places of an array, as far as it has them, and what the caller is told when a scan has ended.
use Rattle.std.proofs.Common.{◌≡◌, ℕ, zero, suc, ◌+◌, ◌<◌, ◌≤◌, ◌++◌, ◌∷◌, [], List, Some, None, length, take, drop, get_or, append_assoc, length-append, ⊎_elim, ap, refl, sym, ◌∙◌, arith}
use Rattle.std.specs.Prelude.{reverse, slice_get, slice_set}
use Rattle.std.proofs.lemmas.Bool.{cases_lt}
use Rattle.std.proofs.lemmas.List.{append-nil, length-take-le, map-append, reverse-append, take-append-drop, take_all, take_more}
use Rattle.std.proofs.lemmas.Option.{slice_get_past}
use Rattle.blink_batch.specs.declared.Entry.{Entry}
use Rattle.blink_batch.specs.{entry}
use Rattle.blink_rest.specs.{entries_from}
use Rattle.blink_handles.specs.declared.raw.RawEntry.{RawEntry}
use Rattle.blink_handles.specs.Filled.{key_in, overlaid, told_of}
use Rattle.blink_handles.specs.Raw.{raw_entry, raw_next}
use Rattle.blink_handles.proofs.Overlays.{overlaid-inside, overlaid-full}

-- there are as many
pub length-entries_from : (xs : List (ℕ × ℕ)) → length (entries_from xs) ≡ length xs
length-entries_from [] = refl
length-entries_from (x ∷ xs) = ap suc (length-entries_from xs)

-- the entries of a part and of the rest
entries_of_parts : (xs ys : List (ℕ × ℕ)) → entries_from (xs ++ ys) ≡ entries_from xs ++ entries_from ys
entries_of_parts xs ys = map-append (λ (x : ℕ × ℕ). entry x.0 x.1) xs ys

-- so many entries of a run stand behind those that were shown
length-shown : (shown : List Entry) (run : List (ℕ × ℕ)) (place : ℕ) → place ≤ length run → length (shown ++ entries_from (take place run)) ≡ length shown + place
length-shown shown run place inside =
    let parts = length-append shown (entries_from (take place run)) in
    let entries = length-entries_from (take place run) in
    let taken = length-take-le place run inside in
    omega (arith, parts, entries, taken)

-- one entry more of a run
pub run_more : (shown : List Entry) (run : List (ℕ × ℕ)) (place : ℕ) (places entries : List RawEntry) → place < length run → length shown + place < length places → entries ≡ overlaid (shown ++ entries_from (take place run)) places
    → slice_set entries (length shown + place) (raw_entry (entry (get_or run place (0, 0)).0 (get_or run place (0, 0)).1)) ≡ overlaid (shown ++ entries_from (take (place + 1) run)) places
run_more shown run place places entries inside room so_far =
    let e : Entry = entry (get_or run place (0, 0)).0 (get_or run place (0, 0)).1 in
    let front = entries_from (take place run) in
    let long : length (shown ++ front) ≡ length shown + place = length-shown shown run place (omega (arith, inside)) in
    let more : entries_from (take (place + 1) run) ≡ front ++ e ∷ [] = ap entries_from (take_more run place (0, 0) inside) ∙ entries_of_parts (take place run) (get_or run place (0, 0) ∷ []) in
    (λ i. slice_set (so_far i) (sym long i) (raw_entry e))
    ∙ (sym (overlaid-inside (shown ++ front) e places (omega (arith, long, room)))
    ∙ ap (λ (es : List Entry). overlaid es places) (append_assoc shown front (e ∷ []) ∙ ap (λ (es : List Entry). shown ++ es) (sym more)))

-- the whole run, as far as there are places
pub run_whole : (shown : List Entry) (run : List (ℕ × ℕ)) (place : ℕ) (places entries : List RawEntry) → place ≤ length run → (place < length run → length places ≤ length shown + place) → entries ≡ overlaid (shown ++ entries_from (take place run)) places
    → entries ≡ overlaid (shown ++ entries_from run) places
run_whole shown run place places entries inside full so_far =
    let front = entries_from (take place run) in
    ⊎_elim
    (λ (left : place < length run).
    let long : length (shown ++ front) ≡ length shown + place = length-shown shown run place inside in
    let no_room : length places ≤ length (shown ++ front) = (let f = full left in omega (arith, long, f)) in
    let whole : (shown ++ front) ++ entries_from (drop place run) ≡ shown ++ entries_from run = append_assoc shown front (entries_from (drop place run)) ∙ ap (λ (es : List Entry). shown ++ es) (sym (entries_of_parts (take place run) (drop place run)) ∙ ap entries_from (take-append-drop place run)) in
    so_far ∙ (sym (overlaid-full (shown ++ front) (entries_from (drop place run)) places no_room) ∙ ap (λ (es : List Entry). overlaid es places) whole))
    (λ (all : length run ≤ place). so_far ∙ ap (λ (xs : List (ℕ × ℕ)). overlaid (shown ++ entries_from xs) places) (take_all place run all))
    (cases_lt place (length run))

-- the entries of a run, the last first
pub entries_of_reverse : (xs : List (ℕ × ℕ)) → entries_from (reverse xs) ≡ reverse (entries_from xs)
entries_of_reverse [] = refl
entries_of_reverse (x ∷ xs) =
    let e : Entry = entry x.0 x.1 in
    ap entries_from (reverse-append (x ∷ []) xs) ∙ (entries_of_parts (reverse xs) (x ∷ []) ∙ (ap (λ (es : List Entry). es ++ e ∷ []) (entries_of_reverse xs) ∙ sym (reverse-append (e ∷ []) (entries_from xs))))

-- ---- what a scan is told to have done that gives these entries

-- the key behind those that were shown is one of the run's
key_of_run : (run : List (ℕ × ℕ)) (rest : List Entry) (room : ℕ) → room < length run → key_in (slice_get (entries_from run ++ rest) room) ≡ Some (get_or run room (0, 0)).0
key_of_run [] rest room inside = absurd (omega (arith, inside))
key_of_run (x ∷ run) rest zero inside = refl
key_of_run (x ∷ run) rest (suc room) inside = key_of_run run rest room (omega (arith, inside))

key_behind : (shown : List Entry) (run : List (ℕ × ℕ)) (rest : List Entry) (room n : ℕ) → n ≡ length shown + room → room < length run → key_in (slice_get (shown ++ (entries_from run ++ rest)) n) ≡ Some (get_or run room (0, 0)).0
key_behind [] run rest room n is inside = ap (λ (m : ℕ). key_in (slice_get (entries_from run ++ rest) m)) (omega (arith, is)) ∙ key_of_run run rest room inside
key_behind (x ∷ shown) run rest room zero is inside = absurd (omega (arith, is))
key_behind (x ∷ shown) run rest room (suc n) is inside = key_behind shown run rest room n (omega (arith, is)) inside

-- it filled all places, within this run
pub told_within : (found shown : List Entry) (run : List (ℕ × ℕ)) (rest : List Entry) (room places : ℕ) → found ≡ shown ++ (entries_from run ++ rest) → places ≡ length shown + room → room < length run
    → raw_next places (Some (get_or run room (0, 0)).0) ≡ told_of found places
told_within found shown run rest room places is many inside =
    let parts = length-append shown (entries_from run ++ rest) in
    let more = length-append (entries_from run) rest in
    let long = length-entries_from run in
    let filled : length (take places (shown ++ (entries_from run ++ rest))) ≡ places = length-take-le places (shown ++ (entries_from run ++ rest)) (omega (arith, parts, more, long, many, inside)) in
    let next = key_behind shown run rest room places many inside in
    (λ i. raw_next (sym filled i) (sym next i)) ∙ ap (λ (es : List Entry). told_of es places) (sym is)

-- it gave all entries
pub told_all : (found shown rest : List Entry) (filled places : ℕ) → found ≡ shown ++ rest → rest ≡ [] → filled ≡ length shown → filled ≤ places
    → raw_next filled None ≡ told_of found places
told_all found shown rest filled places is none counted fitted =
    let whole : found ≡ shown = is ∙ ap (λ (more : List Entry). shown ++ more) none ∙ append-nil shown in
    let fits : length shown ≤ places = omega (arith, counted, fitted) in
    (λ i. raw_next (counted i) None)
    ∙ (λ i. raw_next (length (sym (take_all places shown fits) i)) (key_in (sym (slice_get_past shown places fits) i)))
    ∙ ap (λ (es : List Entry). told_of es places) (sym whole)

-- the places have what the scan found, where the rest has no place
pub shown_full : (found shown more rest : List Entry) (places : List RawEntry) → found ≡ shown ++ (more ++ rest) → length places ≤ length (shown ++ more) → overlaid (shown ++ more) places ≡ overlaid found places
shown_full found shown more rest places is full =
    sym (overlaid-full (shown ++ more) rest places full) ∙ ap (λ (es : List Entry). overlaid es places) (append_assoc shown more rest ∙ sym is)

-- and where there is no rest
pub shown_all : (found shown rest : List Entry) (places : List RawEntry) → found ≡ shown ++ rest → rest ≡ [] → overlaid shown places ≡ overlaid found places
shown_all found shown rest places is none = ap (λ (es : List Entry). overlaid es places) (sym (is ∙ ap (λ (more : List Entry). shown ++ more) none ∙ append-nil shown))
