-- A map's entries in the opposite order of their keys.
use Rattle.std.proofs.Common.{◌≡◌, ℕ, ◌<◌, ◌≤◌, List, [], ◌∷◌, ◌++◌, inl, inr, None, refl, sym, ap, ◌∙◌, subst, arith}
use Rattle.std.specs.Prelude.{reverse}
use Rattle.std.specs.List.{AllByRecursion}
use Rattle.std.proofs.lemmas.Bool.{cases_eq}
use Rattle.std.proofs.lemmas.Bool.Decides.{nat_tests}
use Rattle.std.proofs.lemmas.Grind.{reverse_onto}
use Rattle.blink_batch.specs.declared.Entry.{Entry}
use Rattle.blink_batch.specs.{IsAscending, pointer_of}
use Rattle.blink_live.specs.ScanningBack.{IsDescending}

-- ---- one entry more at the end

all_with_last : (P : Entry → Type 0) (es : List Entry) (e : Entry) → AllByRecursion P es → P e → AllByRecursion P (es ++ e ∷ [])
all_with_last P [] e all its = (its, tt)
all_with_last P (first ∷ es) e all its = (all.0, all_with_last P es e all.1 its)

descends_to_last : (es : List Entry) (e : Entry) → IsDescending es → AllByRecursion (λ before. e.key < before.key) es → IsDescending (es ++ e ∷ [])
descends_to_last [] e descends above = (tt, tt)
descends_to_last (first ∷ es) e descends above = (all_with_last (λ behind. behind.key < first.key) es e descends.0 above.0, descends_to_last es e descends.1 above.1)

last_is_asked : (es : List Entry) (e : Entry) (key : ℕ) → pointer_of es key ≡ None → pointer_of (es ++ e ∷ []) key ≡ pointer_of (e ∷ []) key
last_is_asked [] e key none = refl
last_is_asked (first ∷ es) e key none =
    let further : pointer_of es key ≡ None → pointer_of (es ++ e ∷ []) key ≡ pointer_of (e ∷ []) key = last_is_asked es e key in
    grind (arith, nat_tests, none, further)

last_is_other : (es : List Entry) (e : Entry) (key : ℕ) → pointer_of (e ∷ []) key ≡ None → pointer_of (es ++ e ∷ []) key ≡ pointer_of es key
last_is_other [] e key other = other
last_is_other (first ∷ es) e key other =
    let further : pointer_of (es ++ e ∷ []) key ≡ pointer_of es key = last_is_other es e key other in
    grind (arith, nat_tests, further)

none_below : (es : List Entry) (least key : ℕ) → AllByRecursion (λ after. least < after.key) es → key ≤ least → pointer_of es key ≡ None
none_below [] least key above low = refl
none_below (first ∷ es) least key above low =
    let further : pointer_of es key ≡ None = none_below es least key above.1 low in
    let here = above.0 in
    grind (arith, nat_tests, further, here, low)

-- ---- all of them

turned_with : (e : Entry) (es : List Entry) → reverse (e ∷ es) ≡ reverse es ++ e ∷ []
turned_with e es = reverse_onto es e []

pub all_turned : (P : Entry → Type 0) (es : List Entry) → AllByRecursion P es → AllByRecursion P (reverse es)
all_turned P [] all = tt
all_turned P (e ∷ es) all = subst (AllByRecursion P) (sym (turned_with e es)) (all_with_last P (reverse es) e (all_turned P es all.1) all.0)

pub turned_descends : (es : List Entry) → IsAscending es → IsDescending (reverse es)
turned_descends [] ascends = tt
turned_descends (e ∷ es) ascends =
    subst IsDescending (sym (turned_with e es)) (descends_to_last (reverse es) e (turned_descends es ascends.1) (all_turned (λ after. e.key < after.key) es ascends.0))

pub turned_says : (es : List Entry) (key : ℕ) → IsAscending es → pointer_of (reverse es) key ≡ pointer_of es key
turned_says [] key ascends = refl
turned_says (e ∷ es) key ascends =
    let further : pointer_of (reverse es) key ≡ pointer_of es key = turned_says es key ascends.1 in
    ap (λ (xs : List Entry). pointer_of xs key) (turned_with e es) ∙ (elim (cases_eq e.key key) [
      | inl same ↦
          let none : pointer_of es key ≡ None = none_below es e.key key ascends.0 (omega (arith, same)) in
          last_is_asked (reverse es) e key (further ∙ none) ∙ grind (arith, nat_tests, same)
      | inr other ↦
          let none : pointer_of (e ∷ []) key ≡ None = grind (arith, nat_tests, other) in
          last_is_other (reverse es) e key none ∙ (further ∙ grind (arith, nat_tests, other))
    ])
