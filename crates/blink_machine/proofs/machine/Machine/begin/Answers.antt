use Rattle.std.proofs.Common.{◌≡◌, ℕ, ◌-◌, ◌<◌, Some, List, length, get_or, ap, sym, ◌∙◌, arith}
use Rattle.std.proofs.lemmas.Option.{slice_get-get_or}
use Rattle.blink_machine.specs.Table.{IsTopLeftmost}
use Rattle.blink_machine.proofs.machine.Machine.begin.Goals as goal

pub returns : goal.returns
returns c =
    let items : c.deref.result.now ≡ c.args.prime.now = c.deref.ensures.0 ∙ c.prime.view_is in
    let height : c.len-top.result ≡ length c.args.prime.now = c.len-top.ensures.value ∙ ap length c.prime.view_is in
    let some_level = c.prime.invariant.0 in
    let same : length c.prime.inside.leftmost.items ≡ length c.args.prime.now = ap length c.prime.view_is in
    let inside : c.len-top.result - 1 < length c.args.prime.now = omega (arith, height, some_level, same) in
    let top : IsTopLeftmost c.args.prime.now (c.len-top.result - 1) (get_or c.deref.result.now (c.len-top.result - 1) 0) = record {
      top = omega (arith, height, some_level, same);
      leftmost = slice_get-get_or c.args.prime.now (c.len-top.result - 1) 0 inside ∙ ap (λ (xs : List ℕ). Some (get_or xs (c.len-top.result - 1) 0)) (sym items);
    } in
    c.saw_top.ensures c.args.prime.now top
