-- In a map that only two sessions change, each by raises of one counter, no raise is lost.
use Rattle.std.proofs.Common.{◌≡◌, ℕ, ◌+◌, Some, List, [], ◌∷◌, ◌++◌, length, refl, ap, sym, ◌∙◌, subst, arith}
use mathlib.Core.List.{IsPrefix}
use Rattle.blink_batch.specs.{pointer_of}
use Rattle.blink_live.specs.declared.view.Change.{Change}
use Rattle.blink_live.specs.{after, made_at}
use Rattle.blink_map.specs.declared.growing.GrowingMap.{GrowingMap}
use Rattle.blink_map.specs.declared.growing.Session.{Session}
use Rattle.blink_map.specs.{AreFirstSessions, IsListOf, made_by, opening_of, place_of, seen_by}
use Rattle.blink_map_laws.specs.Counting.{AreRaises, HasRaised}
use Rattle.blink_map_laws.proofs.OnlyTwo.{at_last, before_last, by_the_two, ones_first, others_first, width}
use Rattle.blink_map_laws.proofs.RaisesAdd.{raised_by_both}
use Rattle.blink_map_laws.proofs.SessionsRaise.{raised_in}

module _ (map : GrowingMap) (rest : List Session) (other one : Session) (first : AreFirstSessions map ((rest ++ other ∷ []) ++ one ∷ [])) (new_other new_one : Session) (final : List Change)
    (closed : IsListOf map ((rest ++ new_other ∷ []) ++ new_one ∷ []) final) (key first_pointer by_one by_other : ℕ) (there : pointer_of (opening_of map) key ≡ Some first_pointer) (ones : HasRaised map key by_one one new_one) (others : HasRaised map key by_other other new_other) where
  -- all that a session has raised, in the whole list
  raised_of : (count : ℕ) (old new : Session) → HasRaised map key count old new → made_by old ≡ [] → IsPrefix (seen_by new) final → made_at (place_of new) final ≡ made_by new
      → AreRaises (place_of old) key (pointer_of (opening_of map)) final × (length (made_at (place_of old) final) ≡ count)
  raised_of count old new is none saw made = raised_in map key count old new [] final final is (seen_by old, refl) (sym none) saw made refl

  pub all_counted : after (pointer_of (opening_of map)) final key ≡ Some (first_pointer + by_one + by_other)
  all_counted =
      let wide = width rest new_other new_one one in
      let n : ℕ = length rest in
      let last = at_last rest new_other new_one one in
      let before = before_last rest new_other new_one one in
      let ones_place = (ones_first map rest other one first).its_place in
      let others_place = (others_first map rest other one first).its_place in
      let mine = raised_of by_one one new_one ones (ones_first map rest other one first).none_made
      (subst (λ (s : Session). IsPrefix (seen_by s) final) last (closed.saw (n + 1) one (omega (arith, wide))))
      (subst (λ (s : Session). made_at (place_of s) final ≡ made_by s) last (closed.made (n + 1) one (omega (arith, wide)))) in
      let theirs = raised_of by_other other new_other others (others_first map rest other one first).none_made
      (subst (λ (s : Session). IsPrefix (seen_by s) final) before (closed.saw n one (omega (arith, wide))))
      (subst (λ (s : Session). made_at (place_of s) final ≡ made_by s) before (closed.made n one (omega (arith, wide)))) in
      raised_by_both (place_of one) (place_of other) key first_pointer (pointer_of (opening_of map)) final (λ e. absurd (omega (arith, e, ones_place, others_place))) (by_the_two map rest other one first new_other new_one final closed) mine.0 theirs.0 there
      ∙ ap (λ (x : ℕ × ℕ). Some (first_pointer + x.0 + x.1)) (λ i. (mine.1 i, theirs.1 i))
