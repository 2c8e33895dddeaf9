-- The lines of entries.
use Rattle.std.proofs.Common.{◌≡◌, ◌≤◌, ◌++◌, ◌∷◌, [], ℕ, List, length, length-append, ap, ◌∙◌, arith}
use Rattle.std.specs.Fmt.{decimal}
use Rattle.std.specs.List.{flat_map}
use Rattle.std.proofs.lemmas.Grind.{flat_map-append}
use Rattle.std.proofs.lemmas.List.{append-nil}
use Rattle.blink_batch.specs.declared.Entry.{Entry}
use Rattle.blink_replay.specs.Text.{entry_line}

-- a line has a byte at least
line_long : (e : Entry) → 1 ≤ length (entry_line e)
line_long e =
    let whole = length-append (decimal e.key) (32 ∷ (decimal e.pointer ++ 10 ∷ [])) in
    omega arith

-- so there are no more entries than bytes
pub shown_few : (shown : List Entry) → length shown ≤ length (flat_map entry_line shown)
shown_few [] = omega arith
shown_few (e ∷ shown) =
    let whole = length-append (entry_line e) (flat_map entry_line shown) in
    let one = line_long e in
    let others = shown_few shown in
    omega arith

-- the lines of one entry more
pub line_more : (shown : List Entry) (e : Entry) → flat_map entry_line (shown ++ e ∷ []) ≡ flat_map entry_line shown ++ entry_line e
line_more shown e = flat_map-append entry_line shown (e ∷ []) ∙ ap (λ (line : List ℕ). flat_map entry_line shown ++ line) (append-nil (entry_line e))
