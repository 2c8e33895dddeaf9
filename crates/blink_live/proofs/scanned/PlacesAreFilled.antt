-- The places of a slice are filled with entries from the first on.
use Rattle.std.proofs.Common.{◌≡◌, ℕ, suc, ◌+◌, ◌-◌, ◌<◌, List, [], ◌∷◌, ◌++◌, length, take, drop, refl, sym, ap, ◌∙◌, subst, arith, append-nil, append_assoc, length-append, length-drop}
use borrow.Rule.Slice.PartMut.{mid_of, put_mid}
use Rattle.std.specs.Prelude.{set}
use Rattle.std.proofs.lemmas.List.{drop-drop, drop_all, drop_at, take_all, take_at}
use Rattle.blink_batch.specs.declared.Entry.{Entry}
use Rattle.blink_live.specs.Scanning.{IsFilled}

pub filled_none : (old : List Entry) → IsFilled [] old old
filled_none old = record { fits = omega arith; is = refl }

-- one place more
set_behind : (entries old : List Entry) (e : Entry) → length entries < length old → set (entries ++ drop (length entries) old) (length entries) e ≡ (entries ++ e ∷ []) ++ drop (suc (length entries)) old
set_behind [] [] e inside = absurd (omega (arith, inside))
set_behind [] (first ∷ old) e inside = refl
set_behind (one ∷ entries) [] e inside = absurd (omega (arith, inside))
set_behind (one ∷ entries) (first ∷ old) e inside = ap (λ (es : List Entry). one ∷ es) (set_behind entries old e (omega (arith, inside)))

pub filled_more : (entries old new : List Entry) (e : Entry) (filled : ℕ) → IsFilled entries old new → filled ≡ length entries → filled < length old → IsFilled (entries ++ e ∷ []) old (set new filled e)
filled_more entries old new e filled was count inside =
    let one_more : length (entries ++ e ∷ []) ≡ suc (length entries) = length-append entries (e ∷ []) ∙ (let sum : length entries + 1 ≡ suc (length entries) = omega arith in sum) in
    let there : length entries < length old = omega (arith, count, inside) in record {
      fits = omega (arith, one_more, there);
      is = (λ i. set (was.is i) (count i) e) ∙ set_behind entries old e there ∙ ap (λ (n : ℕ). (entries ++ e ∷ []) ++ drop n old) (sym one_more);
    }

-- the places behind are filled as a slice of their own
part_behind : (entries more old now part : List Entry) (filled : ℕ) → IsFilled entries old now → filled ≡ length entries → IsFilled more (drop filled now) part → IsFilled (entries ++ more) old (take filled now ++ part)
part_behind entries more old now part filled was count behind =
    let first : take filled now ≡ entries = ap (take filled) was.is ∙ take_at entries (drop (length entries) old) filled (sym count) in
    let rest : drop filled now ≡ drop filled old = ap (drop filled) was.is ∙ drop_at entries (drop (length entries) old) filled (sym count) ∙ ap (λ (n : ℕ). drop n old) (sym count) in
    let both : length (entries ++ more) ≡ length entries + length more = length-append entries more in
    let fits = behind.fits in
    let left : length (drop filled now) ≡ length old - filled = ap length rest ∙ length-drop filled old in
    let was_fits = was.fits in
    let sum : filled + length more ≡ length (entries ++ more) = omega (arith, count, both) in
    let part_is : part ≡ more ++ drop (length (entries ++ more)) old =
    behind.is ∙ ap (λ (es : List Entry). more ++ es) (ap (drop (length more)) rest ∙ drop-drop (length more) filled old ∙ ap (λ (n : ℕ). drop n old) sum) in record {
      fits = omega (arith, both, fits, left, count, was_fits);
      is = (λ i. first i ++ part_is i) ∙ sym (append_assoc entries more (drop (length (entries ++ more)) old));
    }

pub filled_behind : (entries more old now part : List Entry) (filled : ℕ) → IsFilled entries old now → filled ≡ length entries → IsFilled more (mid_of filled (length now - filled) now) part
    → IsFilled (entries ++ more) old (put_mid filled (length now - filled) now part)
filled_behind entries more old now part filled was count behind =
    let long : length (drop filled now) ≡ length now - filled = length-drop filled now in
    let all : take (length now - filled) (drop filled now) ≡ drop filled now = take_all (length now - filled) (drop filled now) (omega (arith, long)) in
    let none : drop (length now - filled) (drop filled now) ≡ [] = drop_all (length now - filled) (drop filled now) (omega (arith, long)) in
    subst (IsFilled (entries ++ more) old) (sym (ap (λ (es : List Entry). take filled now ++ (part ++ es)) none ∙ ap (λ (es : List Entry). take filled now ++ es) (append-nil part)))
    (part_behind entries more old now part filled was count (subst (λ (es : List Entry). IsFilled more es part) all behind))

-- what the slice has then
pub first_places : (entries old new : List Entry) (filled : ℕ) → IsFilled entries old new → filled ≡ length entries → take filled new ≡ entries
first_places entries old new filled is count = ap (take filled) is.is ∙ take_at entries (drop (length entries) old) filled (sym count)

pub other_places : (entries old new : List Entry) (filled : ℕ) → IsFilled entries old new → filled ≡ length entries → drop filled new ≡ drop filled old
other_places entries old new filled is count = ap (drop filled) is.is ∙ drop_at entries (drop (length entries) old) filled (sym count) ∙ ap (λ (n : ℕ). drop n old) (sym count)
