use Rattle.std.proofs.Common.{sym, ◌∙◌, subst, arith}
use Rattle.blink_generation.specs.declared.map.Map.{Map}
use Rattle.blink_map.specs.Laid.{AreFirst, AreOthersIn, IsFirstIn}
use Rattle.blink_map.proofs.Opens.{first_dealt}
use Rattle.blink_map.proofs.next.open_next.Goals as goal

pub hold-requires-clause-first : goal.hold-requires-clause-first
hold-requires-clause-first c =
    let opened = c.in-Ok.opened in
    subst (λ (m : Map). AreFirst m opened.1.items) (sym c.in-Ok-new.ensures.ok) (first_dealt opened.0 opened.1.items c.in-Ok.ensures.dealt)

pub hold-requires-clause-in_range : goal.hold-requires-clause-in_range
hold-requires-clause-in_range c =
    let inside = c.requires.in_range in
    let width = c.in-Ok.ensures.dealt.width in
    let places = c.in-Ok.ensures.opened.places in
    let sessions = c.in-Some.ensures.sessions in
    omega (arith, inside, width, places, sessions)

pub returns-in-Ok-hold-clause-next : goal.returns-in-Ok-hold-clause-next
returns-in-Ok-hold-clause-next c =
    let same = c.in-Ok-new.ensures.ok in
    let opened = c.in-Ok.ensures.opened in
    let places = opened.places ∙ c.in-Some.ensures.sessions in
    record {
      map = c.in-Ok.opened.0;
      opened = opened.same_opening;
      places = places;
      width = c.in-Ok-hold.ensures.width ∙ (c.in-Ok.ensures.dealt.width ∙ places);
      first_one = subst (λ (m : Map). IsFirstIn m c.args.copier c.in-Ok-hold.held.0) same c.in-Ok-hold.ensures.first;
      each = subst (λ (m : Map). AreOthersIn m c.args.copier c.in-Ok-hold.held.1.items) same c.in-Ok-hold.ensures.others;
    }
