-- One line more, and one text more.
use Rattle.std.proofs.Common.{◌≡◌, ℕ, ◌+◌, List, [], ◌∷◌, ◌++◌, String, map, ap, sym, ◌∙◌, append_assoc, string_bytes}
use Rattle.std.specs.List.{flat_map, range_with_len}
use Rattle.std.specs.declared.alloc.Global.{Global}
use Rattle.std.proofs.lemmas.List.{flat_map_more, map-append, map-id}
use Rattle.std.proofs.lemmas.List.FromFn.{map-range_with_len_more}

-- a range has one number more at its end
pub range_more : (a n j : ℕ) → a + n ≡ j → range_with_len a (n + 1) ≡ range_with_len a n ++ j ∷ []
range_more a n j same =
    sym (map-id (range_with_len a (n + 1)))
    ∙ map-range_with_len_more (λ x. x) a n j same
    ∙ ap (λ (xs : List ℕ). xs ++ j ∷ []) (map-id (range_with_len a n))

-- the text of one element more
pub text_more : {X : Type 0} (f : X → List ℕ) (old so_far new : List ℕ) (xs : List X) (x : X) → so_far ≡ old ++ flat_map f xs → new ≡ so_far ++ f x → new ≡ old ++ flat_map f (xs ++ x ∷ [])
text_more f old so_far new xs x is_so_far added = added ∙ ap (λ (text : List ℕ). text ++ f x) is_so_far ∙ flat_map_more f old xs x

-- the line of one number more
pub line_more : (f : ℕ → List ℕ) (old lines more : List (String Global)) (line : String Global) (a n j : ℕ) → a + n ≡ j → map string_bytes lines ≡ map string_bytes old ++ map f (range_with_len a n) → more ≡ lines ++ line ∷ []
    → string_bytes line ≡ f j → map string_bytes more ≡ map string_bytes old ++ map f (range_with_len a (n + 1))
line_more f old lines more line a n j same so_far added is_line =
    let prefix = map string_bytes old in
    ap (λ (all : List (String Global)). map string_bytes all) added
    ∙ map-append string_bytes lines (line ∷ [])
    ∙ ap (λ (all : List (List ℕ)). all ++ string_bytes line ∷ []) so_far
    ∙ append_assoc prefix (map f (range_with_len a n)) (string_bytes line ∷ [])
    ∙ ap (λ (text : List ℕ). prefix ++ (map f (range_with_len a n) ++ text ∷ [])) is_line
    ∙ ap (λ (all : List (List ℕ)). prefix ++ all) (sym (map-range_with_len_more f a n j same))
