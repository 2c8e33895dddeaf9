-- Entries as words.
use Rattle.std.proofs.Common.{◌≡◌, ℕ, ◌+◌, ◌*◌, ◌<◌, List, [], ◌∷◌, ◌++◌, length, get_or, take, refl, ap, sym, ◌∙◌, append_assoc, arith}
use Rattle.std.proofs.lemmas.List.{take_more}
use Rattle.blink_rows.specs.Row.{flat}

-- two words for each entry
pub length-flat : (xs : List (ℕ × ℕ)) → length (flat xs) ≡ 2 * length xs
length-flat [] = refl
length-flat ((k, v) ∷ rest) = omega (arith, length-flat rest)

pub flat-append : (xs ys : List (ℕ × ℕ)) → flat (xs ++ ys) ≡ flat xs ++ flat ys
flat-append [] ys = refl
flat-append ((k, v) ∷ rest) ys = ap (λ ws. k ∷ v ∷ ws) (flat-append rest ys)

-- the words of one entry more
pub flat_more : (xs : List (ℕ × ℕ)) (i : ℕ) (d : ℕ × ℕ) → i < length xs → flat (take (i + 1) xs) ≡ flat (take i xs) ++ (get_or xs i d).0 ∷ (get_or xs i d).1 ∷ []
flat_more xs i d inside = ap flat (take_more xs i d inside) ∙ flat-append (take i xs) (get_or xs i d ∷ [])

-- words are those of one list of entries
pub same_from_flat : (xs ys : List (ℕ × ℕ)) → flat xs ≡ flat ys → xs ≡ ys
same_from_flat [] [] same = refl
same_from_flat [] ((k, v) ∷ ys) same = cc
same_from_flat ((k, v) ∷ xs) [] same = cc
same_from_flat ((k, v) ∷ xs) ((l, w) ∷ ys) same =
    let rest : flat xs ≡ flat ys = cc in
    let entries : xs ≡ ys = same_from_flat xs ys rest in
    cc

-- two words more
pub take_two_more : (ws : List ℕ) (i : ℕ) → 2 * i + 1 < length ws → take (2 * i) ws ++ get_or ws (2 * i) 0 ∷ get_or ws (2 * i + 1) 0 ∷ [] ≡ take (2 * (i + 1)) ws
take_two_more ws i inside =
    let first = take_more ws (2 * i) 0 (omega arith) in
    let second = take_more ws (2 * i + 1) 0 inside in
    let ends : 2 * i + 1 + 1 ≡ 2 * (i + 1) = omega arith in
    let joined = append_assoc (take (2 * i) ws) (get_or ws (2 * i) 0 ∷ []) (get_or ws (2 * i + 1) 0 ∷ []) in
    sym joined ∙ ap (λ xs. xs ++ get_or ws (2 * i + 1) 0 ∷ []) (sym first) ∙ sym second ∙ ap (λ n. take n ws) ends
