use Rattle.std.proofs.Common.{◌≡◌, ◌+◌, ◌<◌, ◌^◌, List, [], ◌∷◌, ◌++◌, take, get_or, sym, ap, ◌∙◌, arith}
use Rattle.std.proofs.lemmas.List.{take_more}
use Rattle.blink_map.specs.declared.slots.Current.{Current}
use Rattle.blink_map.specs.Counts.{changes_of}
use Rattle.blink_map.proofs.counts.count_all.Goals as goal

counted_more : (others : List Current) (held : Current) → changes_of (others ++ held ∷ []) ≡ changes_of others + held.changes
counted_more [] held = omega arith
counted_more (x ∷ others) held = let more = counted_more others held in omega (arith, more)

pub loop-held-preserved : goal.loop-held-preserved
loop-held-preserved c =
    let held : Current = c.held-item.result in
    let there = take_more c.args.sessions.now c.loop-held.held-index held c.loop-held-test.true in
    let is : get_or c.args.sessions.now c.loop-held.held-index held ≡ held = sym c.held-item.is in
    let before : List Current = take c.loop-held.held-index c.args.sessions.now in
    let more = ap changes_of (there ∙ ap (λ (x : Current). before ++ x ∷ []) is) ∙ counted_more before held in
    let sum = c.saturating_add-sum.ensures in
    record {
      sum = λ few.
          let fits : c.loop-held.sum + 1 < 2 ^ 64 = omega (arith, few, sum) in
          let was = c.loop-held.invariant.sum fits in
          omega (arith, few, sum, was, more);
    }
