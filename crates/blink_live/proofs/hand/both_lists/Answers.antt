use Rattle.std.proofs.Common.{◌++◌, ℕ, List, subst}
use Rattle.std.specs.List.Sorted.{IsPermutation}
use Rattle.blink_live.proofs.handed.KeysInList.{in_both}
use Rattle.blink_live.proofs.hand.both_lists.Goals as goal

pub returns-clause-all : goal.returns-clause-all
returns-clause-all c =
    let own : List ℕ = c.args.own.now in
    let merged : List ℕ = c.in_ok-merged.field-0.items in
    in_both own c.args.keys.now c.in_ok-handed.handed.items merged c.in_order-all.result.items
    (subst (λ (l : List ℕ). IsPermutation {X = ℕ} (own ++ l) merged) c.deref.ensures.value c.in_ok-merged.ensures.of_both) c.in_order-all.ensures.same c.in_ok-handed.ensures.same
