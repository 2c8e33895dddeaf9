use Rattle.std.proofs.Common.{◌-◌, sym, length, arith, ◌∙◌}
use Rattle.std.proofs.lemmas.Bool.{eqb-true}
use Rattle.blink_rows.proofs.LawfulParts.{last_key-place, values_from_places, places_from_values}
use Rattle.blink_rows.proofs.lawful.lead_down.Goals as goal

pub returns-then-last-high : goal.returns-then-last-high
returns-then-last-high c =
    let last = last_key-place c.args.entries.now (length c.args.entries.now - 1) (omega arith) in (
      (λ yes. (omega arith, last ∙ c.if-last-high.true, values_from_places c.args.entries.now (c.are_page_numbers.ensures.0 yes))),
      (λ down. c.are_page_numbers.ensures.1 (places_from_values c.args.entries.now down.2)),
    )

pub returns-else-last-high : goal.returns-else-last-high
returns-else-last-high c =
    let last = last_key-place c.args.entries.now (length c.args.entries.now - 1) (omega arith) in
    ((λ same. absurd (c.if-last-high.false (eqb-true _ _ same))), (λ down. absurd (c.if-last-high.false (sym last ∙ down.1))))
