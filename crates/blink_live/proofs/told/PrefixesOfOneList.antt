-- Fronts of a list: a prefix of a prefix is one, and of two one is a prefix of the other.
use Rattle.std.proofs.Common.{◌≡◌, ◌⊎◌, List, [], ◌∷◌, ◌++◌, inl, inr, refl, sym, ap, ◌∙◌, append_assoc}
use mathlib.Core.List.{IsPrefix}

pub prefix_of_prefix : {A : Type 0} (first second third : List A) → IsPrefix first second → IsPrefix second third → IsPrefix first third
prefix_of_prefix {A} first second third one two = (one.0 ++ two.0, sym (append_assoc first one.0 two.0) ∙ (ap (λ (l : List A). l ++ two.0) one.1 ∙ two.1))

pub prefixes_of_one_list : {A : Type 0} (first second whole : List A) → IsPrefix first whole → IsPrefix second whole → IsPrefix first second ⊎ IsPrefix second first
prefixes_of_one_list [] second whole one two = inl (second, refl)
prefixes_of_one_list (x ∷ first) [] whole one two = inr (x ∷ first, refl)
prefixes_of_one_list (x ∷ first) (y ∷ second) [] one two = absurd (let e = one.1 in cc)
prefixes_of_one_list {A} (x ∷ first) (y ∷ second) (z ∷ whole) one two =
    let one_rest : first ++ one.0 ≡ whole = let e = one.1 in cc in
    let two_rest : second ++ two.0 ≡ whole = let e = two.1 in cc in
    let same : x ≡ y = let e = one.1 in let f = two.1 in cc in
    elim (prefixes_of_one_list first second whole (one.0, one_rest) (two.0, two_rest)) [
      | inl less ↦ inl (less.0, λ i. same i ∷ less.1 i)
      | inr more ↦ inr (more.0, λ i. sym same i ∷ more.1 i)
    ]
