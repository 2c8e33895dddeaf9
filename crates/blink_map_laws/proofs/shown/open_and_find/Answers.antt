use Rattle.std.proofs.Common.{◌∷◌, [], ◌++◌, List, sym, ap, ◌∙◌, subst}
use Rattle.std.specs.Prelude.{All}
use Rattle.blink_batch.specs.declared.Entry.{Entry}
use Rattle.blink_batch.specs.{pointer_of}
use Rattle.blink_index.specs.{map_of}
use Rattle.blink_map.specs.declared.growing.GrowingMap.{GrowingMap}
use Rattle.blink_map.specs.declared.growing.Session.{Session}
use Rattle.blink_map.specs.{AreFirstSessions, IsClosedWith, IsSessionOf}
use Rattle.blink_map_laws.proofs.FoundLater.{finds_opening, ones_its}
use Rattle.blink_map_laws.proofs.shown.open_and_find.Goals as goal

pub close-requires : goal.close-requires
close-requires g c =
    let map : GrowingMap = c.in_ok-map.map in
    let rest : List Session = c.pop.new.self.items in
    let session : Session = c.in-Some.session in
    let new : Session = c.find-found.new.session in
    let first : AreFirstSessions map (rest ++ session ∷ []) = subst (AreFirstSessions map) c.in-Some.ensures.items c.in_ok-map.ensures.dealt in
    record { its_own = subst (All (IsSessionOf map)) (sym c.in_ok-push.ensures) (ones_its map rest session new first c.find-found.ensures.same) }

pub returns-in-Ok : goal.returns-in-Ok
returns-in-Ok g c =
    let map : GrowingMap = c.in_ok-map.map in
    let rest : List Session = c.pop.new.self.items in
    let session : Session = c.in-Some.session in
    let new : Session = c.find-found.new.session in
    let first : AreFirstSessions map (rest ++ session ∷ []) = subst (AreFirstSessions map) c.in-Some.ensures.items c.in_ok-map.ensures.dealt in
    let entries : List Entry = map_of c.in-Ok.field-0 in
    let closed : IsClosedWith map (rest ++ new ∷ []) entries = subst (λ (l : List Session). IsClosedWith map l entries) c.in_ok-push.ensures c.in-Ok.ensures.entries in
    c.find-found.ensures.state
    ∙ (finds_opening map rest session new first c.find-found.ensures.same entries c.args.key closed
    ∙ ap (λ (l : List Entry). pointer_of l c.args.key) c.in_ok-map.ensures.opened)
