use Rattle.std.proofs.Common.{◌∷◌, [], ◌++◌, ◌<◌, ◌^◌, List, sym, ap, ◌∙◌, subst, arith}
use Rattle.std.specs.Prelude.{All}
use Rattle.blink_batch.specs.declared.Entry.{Entry}
use Rattle.blink_batch.specs.{pointer_of}
use Rattle.blink_map.specs.declared.growing.GrowingMap.{GrowingMap}
use Rattle.blink_map.specs.declared.growing.Session.{Session}
use Rattle.blink_map.specs.{AreFirstSessions, IsListOf, IsSessionOf}
use Rattle.blink_map_laws.proofs.OnlyTwo.{all_its}
use Rattle.blink_map_laws.proofs.OnlyTwoRaise.{all_counted}
use Rattle.blink_map_laws.proofs.counter.count_by_two.Goals as goal

pub close-requires : goal.close-requires
close-requires g c =
    let map : GrowingMap = c.in_ok-map.map in
    let rest : List Session = c.pop-2.new.self.items in
    let one : Session = c.in-Some.one in
    let other : Session = c.in-Some-pop.other in
    let raised = c.both_raise-one in
    let dealt = c.in-Some.ensures.items ∙ ap (λ (l : List Session). l ++ one ∷ []) c.in-Some-pop.ensures.items in
    let first : AreFirstSessions map ((rest ++ other ∷ []) ++ one ∷ []) = subst (AreFirstSessions map) dealt c.in_ok-map.ensures.dealt in
    let items = c.in_ok-push-2.ensures ∙ ap (λ (l : List Session). l ++ raised.result.0.0 ∷ []) c.in_ok-push.ensures in
    record { its_own = subst (All (IsSessionOf map)) (sym items) (all_its map rest other one first raised.result.1.0 raised.result.0.0 raised.ensures.others.same_slot raised.ensures.ones.same_slot) }

pub returns-in-Ok : goal.returns-in-Ok
returns-in-Ok g c there is_there =
    let map : GrowingMap = c.in_ok-map.map in
    let rest : List Session = c.pop-2.new.self.items in
    let one : Session = c.in-Some.one in
    let other : Session = c.in-Some-pop.other in
    let raised = c.both_raise-one in
    let new_one : Session = raised.result.0.0 in
    let new_other : Session = raised.result.1.0 in
    let dealt = c.in-Some.ensures.items ∙ ap (λ (l : List Session). l ++ one ∷ []) c.in-Some-pop.ensures.items in
    let first : AreFirstSessions map ((rest ++ other ∷ []) ++ one ∷ []) = subst (AreFirstSessions map) dealt c.in_ok-map.ensures.dealt in
    let items = c.in_ok-push-2.ensures ∙ ap (λ (l : List Session). l ++ new_one ∷ []) c.in_ok-push.ensures in
    let closed = c.in-Ok.ensures.entries in
    let is_list : IsListOf map ((rest ++ new_other ∷ []) ++ new_one ∷ []) closed.final = subst (λ (l : List Session). IsListOf map l closed.final) items closed.is_list in
    let small : c.args.key < 2 ^ 64 = let fits = c.ranges.key.fits in omega (arith, fits) in
    closed.kept c.args.key small
    ∙ all_counted map rest other one first new_other new_one closed.final is_list c.args.key there raised.result.0.1 raised.result.1.1
    (ap (λ (l : List Entry). pointer_of l c.args.key) c.in_ok-map.ensures.opened ∙ is_there) raised.ensures.ones raised.ensures.others
