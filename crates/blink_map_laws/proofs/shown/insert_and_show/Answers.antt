use Rattle.std.proofs.Common.{◌≡◌, ◌∷◌, [], ◌++◌, None, List, sym, ap, ◌∙◌, subst}
use Rattle.std.specs.Prelude.{All}
use mathlib.Core.List.{IsPrefix}
use Rattle.blink_batch.specs.declared.Entry.{Entry}
use Rattle.blink_batch.specs.declared.Op.TheVariants.{Insert}
use Rattle.blink_batch.specs.{pointer_of}
use Rattle.blink_live.proofs.Offered.{prefix_of_prefix}
use Rattle.blink_index.specs.{map_of}
use Rattle.blink_map.specs.declared.growing.GrowingMap.{GrowingMap}
use Rattle.blink_map.specs.declared.growing.Session.{Session}
use Rattle.blink_map.specs.{AreFirstSessions, IsAnswered, IsClosedWith, IsSameBesideSeen, IsSessionOf, opening_of, seen_by}
use Rattle.blink_map_laws.proofs.FoundLater.{all_its, finds_inserted}
use Rattle.blink_map_laws.proofs.OnlyTwo.{in_ok}
use Rattle.blink_map_laws.proofs.TriesToRaise.{tried_twice}
use Rattle.blink_map_laws.proofs.shown.insert_and_show.Goals as goal

pub close-requires : goal.close-requires
close-requires g c =
    let map : GrowingMap = c.in_ok-map.map in
    let rest : List Session = c.pop-2.new.self.items in
    let one : Session = c.in-Some.one in
    let other : Session = c.in-Some-pop.other in
    let inserted : Session = c.change-one.result.0 in
    let told : Session = c.tell.new.from in
    let new : Session = c.find-found.new.session in
    let dealt = c.in-Some.ensures.items ∙ ap (λ (l : List Session). l ++ one ∷ []) c.in-Some-pop.ensures.items in
    let first : AreFirstSessions map ((rest ++ other ∷ []) ++ one ∷ []) = subst (AreFirstSessions map) dealt c.in_ok-map.ensures.dealt in
    let answered = in_ok c.change-one.result.1 (IsAnswered map (Insert c.args.key c.args.pointer) one inserted) c.in_ok-inserted.field-0 c.in_ok-inserted.was c.change-one.ensures.answered in
    let others : IsSameBesideSeen other new = tried_twice other c.tell.new.to new c.tell.ensures.to c.find-found.ensures.same in
    let items = c.in_ok-push-2.ensures ∙ ap (λ (l : List Session). l ++ told ∷ []) c.in_ok-push.ensures in
    record { its_own = subst (All (IsSessionOf map)) (sym items) (all_its map rest other one first c.args.key c.args.pointer c.in_ok-inserted.field-0 inserted told new answered c.tell.ensures.from others) }

pub returns-in-Ok : goal.returns-in-Ok
returns-in-Ok g c =
    let map : GrowingMap = c.in_ok-map.map in
    let rest : List Session = c.pop-2.new.self.items in
    let one : Session = c.in-Some.one in
    let other : Session = c.in-Some-pop.other in
    let inserted : Session = c.change-one.result.0 in
    let told : Session = c.tell.new.from in
    let new : Session = c.find-found.new.session in
    let dealt = c.in-Some.ensures.items ∙ ap (λ (l : List Session). l ++ one ∷ []) c.in-Some-pop.ensures.items in
    let first : AreFirstSessions map ((rest ++ other ∷ []) ++ one ∷ []) = subst (AreFirstSessions map) dealt c.in_ok-map.ensures.dealt in
    let answered = in_ok c.change-one.result.1 (IsAnswered map (Insert c.args.key c.args.pointer) one inserted) c.in_ok-inserted.field-0 c.in_ok-inserted.was c.change-one.ensures.answered in
    let others : IsSameBesideSeen other new = tried_twice other c.tell.new.to new c.tell.ensures.to c.find-found.ensures.same in
    let items = c.in_ok-push-2.ensures ∙ ap (λ (l : List Session). l ++ told ∷ []) c.in_ok-push.ensures in
    let entries : List Entry = map_of c.in-Ok.field-0 in
    let closed : IsClosedWith map ((rest ++ new ∷ []) ++ told ∷ []) entries = subst (λ (l : List Session). IsClosedWith map l entries) items c.in-Ok.ensures.entries in
    let is_told : IsPrefix (seen_by inserted) (seen_by new) = prefix_of_prefix (seen_by inserted) (seen_by c.tell.new.to) (seen_by new) c.tell.ensures.told c.find-found.ensures.same.saw in
    let absent : pointer_of (opening_of map) c.args.key ≡ None = ap (λ (l : List Entry). pointer_of l c.args.key) c.in_ok-map.ensures.opened ∙ c.requires.absent in
    c.find-found.ensures.state ∙ finds_inserted map rest other one first c.args.key c.args.pointer c.in_ok-inserted.field-0 inserted told new answered c.tell.ensures.from others entries absent is_told closed
