use Rattle.std.proofs.Common.{◌≡◌, ℕ, zero, suc, ◌+◌, ◌-◌, Option, Some, None, List, [], ◌∷◌, length, ap, ◌∙◌, arith}
use Rattle.std.specs.Prelude.{slice_get}
use Rattle.std.specs.List.{last_or}
use Rattle.blink_machine.specs.declared.machine.State.TheVariants.{Going}
use Rattle.blink_machine.specs.Machine.{PlainMachine}
use Rattle.blink_machine.specs.MachineView.{plain}
use Rattle.blink_machine.specs.Table.{begins}
use Rattle.blink_machine.proofs.machine.Machine.saw_top.Goals as goal

-- the last of a list whose length is known
last_at : (d : Option ℕ) (xs : List ℕ) (n x : ℕ) → length xs ≡ suc n → slice_get xs n ≡ Some x → last_or d xs ≡ Some x
last_at d [] n x long at = absurd (omega (arith, long))
last_at d (y ∷ []) zero x long at = at
last_at d (y ∷ []) (suc n) x long at = absurd (omega (arith, long))
last_at d (y ∷ z ∷ xs) zero x long at = absurd (omega (arith, long))
last_at d (y ∷ z ∷ xs) (suc n) x long at = last_at (Some y) (z ∷ xs) n x (omega (arith, long)) at

pub returns : goal.returns
returns c prime top =
    let high : length prime ≡ c.args.level + 1 = top.top in
    let level : c.args.level ≡ length prime - 1 = omega (arith, high) in
    begins c.args.page c.requires.state (last_at None prime c.args.level c.args.page (omega (arith, high)) top.leftmost)
    (ap (λ (pages : List ℕ). record (plain c.self.inside) { remembered = pages; state = Going c.args.page c.args.level }) c.new-self-inside.ensures
    ∙ (ap (λ (m : PlainMachine). record m { remembered = []; state = Going c.args.page c.args.level }) c.self.view_is
    ∙ ap (λ (n : ℕ). record c.args.self.now { remembered = []; state = Going c.args.page n }) level))
