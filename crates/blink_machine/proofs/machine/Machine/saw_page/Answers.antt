use Rattle.std.proofs.Common.{◌≡◌, ℕ, ap, subst, sym, ◌∙◌}
use Rattle.blink_page.specs.{PlainPage}
use Rattle.blink_machine.specs.declared.machine.Need.TheVariants.{ReadPage}
use Rattle.blink_machine.specs.declared.machine.State.TheVariants.{Going, Held}
use Rattle.blink_machine.specs.Machine.{PlainMachine, need_at}
use Rattle.blink_machine.specs.Table.{SeesOnItsWay, SeesUnderLatch, on_its_way, under_latch}
use Rattle.blink_machine.proofs.machine.Machine.saw_page.Goals as goal

pub returns-in-Going : goal.returns-in-Going
returns-in-Going c number needs =
    let state : c.args.self.now.state ≡ Going c.in-Going.number c.in-Going.level = sym (ap (λ (m : PlainMachine). m.state) c.self.view_is) ∙ c.in-Going.is in
    let same : ReadPage c.in-Going.number ≡ ReadPage number = sym (ap need_at state) ∙ needs in
    let own : c.in-Going.number ≡ number = cc in
    on_its_way (subst (λ (n : ℕ). SeesOnItsWay c.args.self.now n c.args.page.now c.read_on_its_way.new.self) own c.read_on_its_way.ensures)

pub returns-in-Held : goal.returns-in-Held
returns-in-Held c number needs =
    let state : c.args.self.now.state ≡ Held c.in-Held.number = sym (ap (λ (m : PlainMachine). m.state) c.self.view_is) ∙ c.in-Held.is in
    let same : ReadPage c.in-Held.number ≡ ReadPage number = sym (ap need_at state) ∙ needs in
    let own : c.in-Held.number ≡ number = cc in
    under_latch (state ∙ ap Held own) (subst (λ (n : ℕ). SeesUnderLatch c.args.self.now n c.args.page.now c.read_under_latch.new.self) own
    (subst (λ (page : PlainPage). SeesUnderLatch c.args.self.now c.in-Held.number page c.read_under_latch.new.self) c.copy.ensures c.read_under_latch.ensures))
