-- Two postings in either order.
use Rattle.std.proofs.Common.{◌≡◌, ◌≢◌, ℕ, List, [], ◌∷◌, refl, arith}
use Rattle.std.proofs.lemmas.Bool.Decides.{nat_tests}
use Rattle.blink_page.specs.Entries.{posted}

pub postings_commute : (xs : List (ℕ × ℕ)) (first second : ℕ × ℕ) → first.0 ≢ second.0 → posted second (posted first xs) ≡ posted first (posted second xs)
postings_commute [] first second differ = refl
postings_commute ((u, d) ∷ rest) first second differ = grind (arith, nat_tests, postings_commute rest first second differ)
