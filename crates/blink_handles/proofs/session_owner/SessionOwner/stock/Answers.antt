use Rattle.std.proofs.Common.{◌∙◌, ap, refl, subst, sym}
use Rattle.blink_map.specs.declared.growing.GrowingMap.{GrowingMap}
use Rattle.blink_map.specs.{IsHeldOf, known_by}
use Rattle.blink_handles.specs.Raw.{raw_stock}
use Rattle.blink_handles.proofs.SessionsStay.{continued_same, known_at_rest, map_taken}
use Rattle.blink_handles.proofs.session_owner.SessionOwner.stock.Goals as goal

pub rest-requires-clause-its_own : goal.rest-requires-clause-its_own
rest-requires-clause-its_own c =
    let gripped = c.in_ok-held.ensures in
    subst (λ (map : GrowingMap). IsHeldOf map c.in_ok-held.held) (sym (map_taken gripped.taken)) gripped.its_own

pub returns-clause-told : goal.returns-clause-told
returns-clause-told c =
    let gripped = c.in_ok-held.ensures in
    let held = c.in_ok-held.held in
    let rested = c.rest.ensures.rested in
    record {
      held = held;
      its_own = gripped.its_own;
      stock = c.of.ensures ∙ ap raw_stock c.stock.ensures;
      knows = rested.knows;
      sees = known_at_rest c.args.self.now c.grip.new.self c.rest.new.self held held gripped.gripped (map_taken gripped.taken)
          (continued_same (known_by held) (known_by held) refl) refl rested;
    }
