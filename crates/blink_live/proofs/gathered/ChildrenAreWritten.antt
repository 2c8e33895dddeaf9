-- Entries of which the first have other children.
use Rattle.std.proofs.Common.{◌≡◌, ℕ, ◌+◌, ◌<◌, ◌≤◌, zero, suc, List, [], ◌∷◌, length, get_or, set, drop, refl, ap, ◌∙◌, arith}
use Rattle.std.proofs.Math.Seq.{take-append_seam}
use Rattle.std.specs.List.{refill}
use Rattle.blink_live.proofs.gathered.RenumberedPageIsLawful.{length-with_children}
use Rattle.blink_live.specs.Renumbered.{entries_anew, with_children}

-- a list of which all places are written
pub refill_all : (xs ws : List (ℕ × ℕ)) → length ws ≡ length xs → refill (length xs) xs ws ≡ ws
refill_all xs ws same = rw (← same) (take-append_seam ws (drop (length ws) xs))

-- the entries of a page once its children are written, above the leaves and at a leaf
pub inner_entries : (level child : ℕ) (entries own read written result : List (ℕ × ℕ)) → 0 < level → own ≡ entries → read ≡ own → written ≡ with_children child read
    → result ≡ refill (length own) own written → result ≡ entries_anew level child entries
inner_entries zero child entries own read written result inner same as_read new all = absurd (omega arith)
inner_entries (suc level) child entries own read written result inner same as_read new all =
    let count : length written ≡ length own = ap length new ∙ length-with_children child read ∙ ap length as_read in
    all ∙ refill_all own written count ∙ new ∙ ap (with_children child) (as_read ∙ same)

pub leaf_entries : (level child : ℕ) (entries result : List (ℕ × ℕ)) → level ≤ 0 → result ≡ entries → result ≡ entries_anew level child entries
leaf_entries zero child entries result leaf same = same
leaf_entries (suc level) child entries result leaf same = absurd (omega arith)

-- the entries of which so many have the children from this one on
abbrev pub first_with_children : ℕ → ℕ → List (ℕ × ℕ) → List (ℕ × ℕ)
first_with_children zero child entries = entries
first_with_children (suc count) child [] = []
first_with_children (suc count) child (e ∷ rest) = (e.0, child) ∷ first_with_children count (suc child) rest

-- one entry more
pub first_more : (i child value : ℕ) (d : ℕ × ℕ) (entries : List (ℕ × ℕ)) → i < length entries → value ≡ child + i
    → set (first_with_children i child entries) i ((get_or (first_with_children i child entries) i d).0, value) ≡ first_with_children (suc i) child entries
first_more i child value d [] inside is = absurd (omega arith)
first_more zero child value d (e ∷ rest) inside is =
    let same : value ≡ child = omega arith in
    ap (λ (k : ℕ). (e.0, k) ∷ rest) same
first_more (suc i) child value d (e ∷ rest) inside is =
    ap (λ (es : List (ℕ × ℕ)). (e.0, child) ∷ es) (first_more i (suc child) value d rest (omega arith) (omega arith))

-- and all of them
pub first_all : (i child : ℕ) (entries : List (ℕ × ℕ)) → length entries ≤ i → first_with_children i child entries ≡ with_children child entries
first_all zero child [] all = refl
first_all (suc i) child [] all = refl
first_all zero child (e ∷ rest) all = absurd (omega arith)
first_all (suc i) child (e ∷ rest) all = ap (λ (es : List (ℕ × ℕ)). (e.0, child) ∷ es) (first_all i (suc child) rest (omega arith))

pub length-first : (i child : ℕ) (entries : List (ℕ × ℕ)) → length (first_with_children i child entries) ≡ length entries
length-first zero child entries = refl
length-first (suc i) child [] = refl
length-first (suc i) child (e ∷ rest) = ap suc (length-first i (suc child) rest)
