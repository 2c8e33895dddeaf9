use Rattle.std.proofs.Common.{◌≡◌, ℕ, ◌+◌, List, Option, Some, [], ◌∷◌, ◌++◌, length, length-append, refl, sym, ap, subst, arith}
use Rattle.std.specs.Prelude.{reverse}
use Rattle.std.specs.Arc.{arc_value}
use Rattle.blink_generation.specs.declared.map.Map.{Map}
use Rattle.blink_generation.specs.declared.map.Session.{Session as MapSession}
use Rattle.blink_map.specs.declared.slots.Current.{Current}
use Rattle.blink_map.specs.Laid.{AreLaid, IsFirstIn}
use Rattle.blink_map.proofs.Opens.{AreFirstFrom, first_from_popped, laid_more, popped_first}
use Rattle.blink_map.proofs.open.lay.Goals as goal

pub loop-session-preserved : goal.loop-session-preserved
loop-session-preserved c =
    let map : Map = arc_value c.args.map.now in
    let old : List MapSession = c.loop-session.sessions.items in
    let new : List MapSession = c.pop.new.self.items in
    let slots : List (Option Current) = c.loop-session.slots.items in
    let session : MapSession = c.in-Some.session in
    let held : Current = record { map = c.in_ok-owner.owner; session = session; number = 0; changes = 0 } in
    let popped : old ≡ new ++ session ∷ [] = c.in-Some.ensures.items in
    let invariant = c.loop-session.invariant in
    let its = popped_first map (length slots) old new session popped invariant.first in
    let in_slot : IsFirstIn map (length slots) held = record { same_map = c.in_ok-owner.ensures; first = its; none_counted = refl } in
    let is = c.in_ok-lay_one.ensures in
    let longer = ap (λ (l : List (Option Current)). length l) is in
    let one_more = length-append slots (Some held ∷ []) in
    let next : length c.lay_one.new.slots.items ≡ length slots + 1 = omega (arith, longer, one_more) in
    let shorter = ap (λ (l : List MapSession). length l) popped in
    let one_less = length-append new (session ∷ []) in
    let width = invariant.width in
    record {
      first = subst (λ (n : ℕ). AreFirstFrom map n (reverse new)) (sym next) (first_from_popped map (length slots) old new session popped invariant.first);
      laid = subst (AreLaid map) (sym is) (laid_more map slots held invariant.laid in_slot);
      width = omega (arith, next, shorter, one_less, width);
    }
