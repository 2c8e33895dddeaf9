use Rattle.std.proofs.Common.{List, ℕ, [], ◌∷◌, ◌++◌, ap, sym, ◌∙◌}
use Rattle.blink_machine.specs.Machine.{PlainMachine}
use Rattle.blink_machine.specs.Table.{adds_root}
use Rattle.blink_machine.proofs.machine.Machine.prime_out.Goals as goal

pub returns : goal.returns
returns c =
    adds_root c.in-NewPrime.field-0 c.in-NewPrime.field-1 c.in-NewPrime.root c.in-NewPrime.read (sym (ap (λ (m : PlainMachine). m.state) c.self.view_is) ∙ c.in-NewPrime.is)
    (c.grow.ensures ∙ ap (λ (read : List ℕ). read ++ c.in-NewPrime.root ∷ []) c.copy-prime.ensures)
