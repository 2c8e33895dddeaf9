use Rattle.std.proofs.Common.{arith, rules}
use Rattle.blink_page.specs.{PlainPage}
use Rattle.blink_rows.proofs.LawfulParts.{children_from_parts, last_key_of_children}
use Rattle.blink_rows.proofs.lawful.is_lawful.Goals as goal

pub returns-else-level-eq0 : goal.returns-else-level-eq0
returns-else-level-eq0 c =
    let page : PlainPage = record { level = c.args.level; floor = c.args.floor; high = c.args.high; right = c.args.right; entries = c.args.entries.now } in (
      (λ yes.
          let down = c.lead_down.ensures.0 yes in
          let rises = c.keys_rise.ensures.0 c.if-not-keys_rise.false in
          record {
            level_in_range = c.requires.level;
            high_in_range = omega arith;
            floor_below_high = c.is_above.ensures.0 c.if-not-is_above.false;
            right_unless_last = search rules;
            right_is_number = c.requires.right;
            at_most_fan = c.requires.at_most_fan;
            keys_rise = rises;
            values_in_range = c.requires.values;
            inner = λ above. children_from_parts page rises down.0 down.1 down.2;
          }),
      (λ lawful.
          let has = lawful.inner (omega arith) in
          c.lead_down.ensures.1 (has.two_at_least, last_key_of_children page has, has.children)),
    )
