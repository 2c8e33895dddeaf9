-- In a map that only two sessions change, each by the insertion of one absent key, one of them wins.
use Rattle.std.proofs.Common.{◌≡◌, ℕ, ◌+◌, None, List, [], ◌∷◌, ◌++◌, length, ap, sym, ◌∙◌, subst, arith}
use mathlib.Core.List.{IsPrefix}
use Rattle.blink_batch.specs.declared.Answer.{Answer}
use Rattle.blink_batch.specs.declared.Op.TheVariants.{Insert}
use Rattle.blink_batch.specs.{pointer_of}
use Rattle.blink_live.specs.declared.view.Change.{Change}
use Rattle.blink_live.specs.{after, changes_made, made_at}
use Rattle.blink_live.proofs.Offered.{prefix_of_prefix}
use Rattle.blink_map.specs.declared.growing.GrowingMap.{GrowingMap}
use Rattle.blink_map.specs.declared.growing.Session.{Session}
use Rattle.blink_map.specs.{AreFirstSessions, IsAnswered, IsListOf, made_by, opening_of, place_of, seen_by}
use Rattle.blink_map_laws.specs.Racing.{OneIsInserted}
use Rattle.blink_map_laws.proofs.OneIsFirst.{Inserts, one_is_inserted}
use Rattle.blink_map_laws.proofs.OnlyTwo.{at_last, before_last, by_the_two, ones_first, others_first, width}

module _ (map : GrowingMap) (rest : List Session) (other one : Session) (first : AreFirstSessions map ((rest ++ other ∷ []) ++ one ∷ [])) (new_other new_one : Session) (final : List Change)
    (closed : IsListOf map ((rest ++ new_other ∷ []) ++ new_one ∷ []) final) (key one_pointer other_pointer : ℕ) (first_answer second_answer : Answer) (absent : pointer_of (opening_of map) key ≡ None)
    (ones : IsAnswered map (Insert key one_pointer) one new_one first_answer) (others : IsAnswered map (Insert key other_pointer) other new_other second_answer) where
  inserts : (pointer : ℕ) (old new : Session) (answer : Answer) → IsAnswered map (Insert key pointer) old new answer → made_by old ≡ [] → IsPrefix (seen_by new) final → made_at (place_of new) final ≡ made_by new
      → Inserts (pointer_of (opening_of map)) (place_of old) key pointer final answer
  inserts pointer old new answer is none saw made = record {
    before = is.in_order.before;
    answers = is.in_order.answers;
    goes_on = prefix_of_prefix (is.in_order.before ++ changes_made (place_of old) (Insert key pointer) (after (pointer_of (opening_of map)) is.in_order.before key)) (seen_by new) final is.in_order.goes_on saw;
    made = ap (λ (p : ℕ). made_at p final) (sym is.same_slot.same_place)
        ∙ (made ∙ (is.in_order.made ∙ ap (λ (l : List Change). l ++ changes_made (place_of old) (Insert key pointer) (after (pointer_of (opening_of map)) is.in_order.before key)) none));
  }

  pub one_wins : OneIsInserted one_pointer other_pointer first_answer second_answer
  one_wins =
      let wide = width rest new_other new_one one in
      let n : ℕ = length rest in
      let last = at_last rest new_other new_one one in
      let before = before_last rest new_other new_one one in
      let ones_place = (ones_first map rest other one first).its_place in
      let others_place = (others_first map rest other one first).its_place in
      one_is_inserted (pointer_of (opening_of map)) (place_of one) (place_of other) key one_pointer other_pointer
      (λ e. absurd (omega (arith, e, ones_place, others_place))) absent final first_answer second_answer (by_the_two map rest other one first new_other new_one final closed)
      (inserts one_pointer one new_one first_answer ones (ones_first map rest other one first).none_made
      (subst (λ (s : Session). IsPrefix (seen_by s) final) last (closed.saw (n + 1) one (omega (arith, wide))))
      (subst (λ (s : Session). made_at (place_of s) final ≡ made_by s) last (closed.made (n + 1) one (omega (arith, wide)))))
      (inserts other_pointer other new_other second_answer others (others_first map rest other one first).none_made
      (subst (λ (s : Session). IsPrefix (seen_by s) final) before (closed.saw n one (omega (arith, wide))))
      (subst (λ (s : Session). made_at (place_of s) final ≡ made_by s) before (closed.made n one (omega (arith, wide)))))
