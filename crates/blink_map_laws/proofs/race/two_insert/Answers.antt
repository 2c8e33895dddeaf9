use Rattle.std.proofs.Common.{◌∷◌, [], ◌++◌, List, sym, ap, ◌∙◌, subst}
use Rattle.std.specs.Prelude.{All}
use Rattle.blink_batch.specs.declared.Entry.{Entry}
use Rattle.blink_batch.specs.declared.Op.TheVariants.{Insert}
use Rattle.blink_batch.specs.{pointer_of}
use Rattle.blink_map.specs.declared.growing.GrowingMap.{GrowingMap}
use Rattle.blink_map.specs.declared.growing.Session.{Session}
use Rattle.blink_map.specs.{AreFirstSessions, IsAnswered, IsListOf, IsSessionOf}
use Rattle.blink_map_laws.proofs.OnlyTwo.{all_its, in_ok}
use Rattle.blink_map_laws.proofs.OnlyTwoInsert.{one_wins}
use Rattle.blink_map_laws.proofs.race.two_insert.Goals as goal

pub close-requires : goal.close-requires
close-requires g c =
    let map : GrowingMap = c.in_ok-map.map in
    let rest : List Session = c.pop-2.new.self.items in
    let one : Session = c.in-Some.one in
    let other : Session = c.in-Some-pop.other in
    let dealt = c.in-Some.ensures.items ∙ ap (λ (l : List Session). l ++ one ∷ []) c.in-Some-pop.ensures.items in
    let first : AreFirstSessions map ((rest ++ other ∷ []) ++ one ∷ []) = subst (AreFirstSessions map) dealt c.in_ok-map.ensures.dealt in
    let ones = in_ok c.both_insert-one.result.0.1 (IsAnswered map (Insert c.args.key c.args.pointers.0) one c.both_insert-one.result.0.0) c.in_ok-first.first c.in_ok-first.was c.both_insert-one.ensures.ones in
    let others = in_ok c.both_insert-one.result.1.1 (IsAnswered map (Insert c.args.key c.args.pointers.1) other c.both_insert-one.result.1.0) c.in_ok-second.second c.in_ok-second.was c.both_insert-one.ensures.others in
    let items = c.in_ok-push-2.ensures ∙ ap (λ (l : List Session). l ++ c.both_insert-one.result.0.0 ∷ []) c.in_ok-push.ensures in
    record { its_own = subst (All (IsSessionOf map)) (sym items) (all_its map rest other one first c.both_insert-one.result.1.0 c.both_insert-one.result.0.0 others.same_slot ones.same_slot) }

pub returns-in-Ok : goal.returns-in-Ok
returns-in-Ok g c =
    let map : GrowingMap = c.in_ok-map.map in
    let rest : List Session = c.pop-2.new.self.items in
    let one : Session = c.in-Some.one in
    let other : Session = c.in-Some-pop.other in
    let new_one : Session = c.both_insert-one.result.0.0 in
    let new_other : Session = c.both_insert-one.result.1.0 in
    let dealt = c.in-Some.ensures.items ∙ ap (λ (l : List Session). l ++ one ∷ []) c.in-Some-pop.ensures.items in
    let first : AreFirstSessions map ((rest ++ other ∷ []) ++ one ∷ []) = subst (AreFirstSessions map) dealt c.in_ok-map.ensures.dealt in
    let ones = in_ok c.both_insert-one.result.0.1 (IsAnswered map (Insert c.args.key c.args.pointers.0) one new_one) c.in_ok-first.first c.in_ok-first.was c.both_insert-one.ensures.ones in
    let others = in_ok c.both_insert-one.result.1.1 (IsAnswered map (Insert c.args.key c.args.pointers.1) other new_other) c.in_ok-second.second c.in_ok-second.was c.both_insert-one.ensures.others in
    let items = c.in_ok-push-2.ensures ∙ ap (λ (l : List Session). l ++ new_one ∷ []) c.in_ok-push.ensures in
    let closed = c.in-Ok.ensures.entries in
    let is_list : IsListOf map ((rest ++ new_other ∷ []) ++ new_one ∷ []) closed.final = subst (λ (l : List Session). IsListOf map l closed.final) items closed.is_list in
    one_wins map rest other one first new_other new_one closed.final is_list c.args.key c.args.pointers.0 c.args.pointers.1 c.in_ok-first.first c.in_ok-second.second
    (ap (λ (l : List Entry). pointer_of l c.args.key) c.in_ok-map.ensures.opened ∙ c.requires.absent) ones others
