use Rattle.std.proofs.Common.{ℕ, ◌≤◌, sym, ap, ◌∙◌, subst}
use Rattle.std.specs.Arc.{arc_value}
use Rattle.blink_generation.specs.declared.map.Map.{Map}
use Rattle.blink_generation.specs.{opening_of, places_of}
use Rattle.blink_map.specs.Laid.{AreFirst}
use Rattle.blink_map.proofs.Opens.{all_its_own, few_sessions, first_dealt, some_sessions}
use Rattle.blink_map.proofs.growing.GrowingMap.open_in.Goals as goal

pub lay-requires : goal.lay-requires
lay-requires c =
    let opened = c.in-Ok.opened in
    record { first = subst (λ (m : Map). AreFirst m opened.1.items) (sym c.in-Ok-new.ensures.ok) (first_dealt opened.0 opened.1.items c.in-Ok.ensures.dealt) }

pub table_of-requires-clause-some : goal.table_of-requires-clause-some
table_of-requires-clause-some c =
    let opened = c.in-Ok.ensures in
    let width = c.in-Ok-lay.ensures.width ∙ (opened.dealt.width ∙ opened.opened.places) in
    subst (λ (n : ℕ). 1 ≤ n) (sym width) (some_sessions c.args.places (λ bad. cc (opened.sessions.1 bad)))

pub table_of-requires-clause-few : goal.table_of-requires-clause-few
table_of-requires-clause-few c =
    let opened = c.in-Ok.ensures in
    let width = c.in-Ok-lay.ensures.width ∙ (opened.dealt.width ∙ opened.opened.places) in
    subst (λ (n : ℕ). n ≤ 256) (sym width) (few_sessions c.args.places (λ bad. cc (opened.sessions.1 bad)))

pub table_of-requires-clause-laid : goal.table_of-requires-clause-laid
table_of-requires-clause-laid c =
    let same = c.in-Ok-new.ensures.ok in (
      arc_value c.in-Ok-new.map,
      ap opening_of same ∙ c.in-Ok.ensures.opened.same_opening,
      ap places_of same ∙ (sym c.in-Ok.ensures.dealt.width ∙ sym c.in-Ok-lay.ensures.width),
      c.in-Ok-lay.ensures.laid,
    )

pub returns-clause-its_own : goal.returns-clause-its_own
returns-clause-its_own c = all_its_own c.in_ok-map.map c.in-Ok-deal.sessions.items c.in-Ok-deal.ensures.each
