use Rattle.std.proofs.Common.{◌≡◌, ◌+◌, length, get_or, ap, ◌∙◌, arith}
use Rattle.blink_machine.specs.declared.machine.Next.TheVariants.{Post}
use Rattle.blink_machine.specs.declared.machine.State.TheVariants.{Root, Leave}
use Rattle.blink_machine.specs.Machine.{PlainMachine, at_state}
use Rattle.blink_machine.specs.MachineView.{plain}
use Rattle.blink_machine.specs.Table.{IsTopLeftmost, asks_of_root, asks_of_other}
use Rattle.blink_machine.proofs.tree.PrimeAsList.{is_top_leftmost, not_top_leftmost}
use Rattle.blink_machine.proofs.machine.Machine.ask.Goals as goal
use Rattle.blink_machine.proofs.machine.Machine.ask.Goals.{else-len-level-via-then-len-level+else-deref-level, else-len-level-via-else-len-level}

pub returns-then-deref-level : goal.returns-then-deref-level
returns-then-deref-level c =
    let items : c.deref.result.now ≡ c.args.prime.now = c.deref.ensures.0 ∙ c.prime.view_is in
    let top : length c.args.prime.now ≡ c.args.debt.level + 1 = omega (arith, ap length c.prime.view_is, c.len.ensures.value, c.from-level.ensures) in
    let here : get_or c.args.prime.now c.args.debt.level 0 ≡ c.args.page = rw (items, c.from-level.ensures) at c.if-deref-level.true in
    asks_of_root c.args.page c.args.debt c.requires.state (is_top_leftmost c.args.prime.now c.args.debt.level c.args.page top here)
    (ap (λ prime. at_state (plain c.self.inside) (Root c.args.page c.args.debt prime)) c.copy.ensures
    ∙ ap (λ (m : PlainMachine). at_state m (Root c.args.page c.args.debt c.args.prime.now)) c.self.view_is)

pub returns-else-len-level : goal.returns-else-len-level
returns-else-len-level c =
    let other : ¬ IsTopLeftmost c.args.prime.now c.args.debt.level c.args.page = elim c.else-len-level.branch [
      | else-len-level-via-then-len-level+else-deref-level w ↦
          let items : w.deref.result.now ≡ c.args.prime.now = w.deref.ensures.0 ∙ c.prime.view_is in
          not_top_leftmost c.args.prime.now c.args.debt.level c.args.page (rw (items, c.from-level.ensures) at w.if-deref-level.false)
      | else-len-level-via-else-len-level w ↦ λ (is_top : IsTopLeftmost c.args.prime.now c.args.debt.level c.args.page).
          w.if-len-level.false (c.len.ensures.value ∙ ap length c.prime.view_is ∙ is_top.top ∙ omega (arith, c.from-level.ensures))
    ] in
    asks_of_other c.args.page c.args.debt c.requires.state other
    (ap (λ (m : PlainMachine). at_state m (Leave c.args.page (Post c.args.debt))) c.self.view_is)
