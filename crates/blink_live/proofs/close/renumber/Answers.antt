use Rattle.std.proofs.Common.{◌≡◌, ◌+◌, ◌<◌, ℕ, List, suc, set, get_or, length, ap, arith, ◌∙◌}
use Rattle.blink_live.proofs.gathered.ChildrenAreWritten.{first_with_children, first_more, first_all, length-first}
use Rattle.blink_live.proofs.close.renumber.Goals as goal

pub loop-entry-preserved : goal.loop-entry-preserved
loop-entry-preserved c =
    let i = c.loop-entry.entry-index in
    let child = c.args.child in
    let so_far = c.loop-entry.invariant.done in
    let inside : i < length c.args.entries.now = omega (arith, ap length so_far, length-first i child c.args.entries.now) in
    let next : suc i ≡ i + 1 = omega arith in
    record {
      next_is = omega (arith, c.loop-entry.invariant.next_is);
      done = ap (λ (es : List (ℕ × ℕ)). set es i ((get_or es i (0, 0)).0, c.loop-entry.next)) so_far
          ∙ first_more i child c.loop-entry.next (0, 0) c.args.entries.now inside c.loop-entry.invariant.next_is
          ∙ ap (λ (k : ℕ). first_with_children k child c.args.entries.now) next;
    }

pub returns : goal.returns
returns c =
    let i = c.loop-entry.entry-index in
    let child = c.args.child in
    let so_far = c.loop-entry.invariant.done in
    so_far ∙ first_all i child c.args.entries.now (omega (arith, ap length so_far, length-first i child c.args.entries.now))
