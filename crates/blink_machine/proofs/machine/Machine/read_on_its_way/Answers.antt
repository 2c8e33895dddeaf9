use Rattle.std.proofs.Common.{◌≡◌, ℕ, Option, ap, sym, ◌∙◌, subst}
use Rattle.blink_operation.specs.declared.Op.TheVariants.{Find}
use Rattle.blink_page.specs.{value_at, PlainPage, Leads}
use Rattle.blink_page.specs.declared.search.Way.{Way}
use Rattle.blink_page.specs.declared.search.Way.TheVariants.{Here}
use Rattle.blink_machine.specs.declared.machine.State.{State}
use Rattle.blink_machine.specs.declared.machine.State.TheVariants.{Going}
use Rattle.blink_machine.specs.OnTheWay.{TellsWay}
use Rattle.blink_machine.specs.Machine.{PlainMachine, level_read_at, need_at, target}
use Rattle.blink_machine.proofs.machine.Machine.read_on_its_way.Goals as goal

tells : (m : PlainMachine) (number level key : ℕ) (page : PlainPage) (way : Way) (kept : Option ℕ) → m.state ≡ Going number level → page.level ≡ level → key ≡ target m → Leads page key way
    → ((found : ℕ) → m.op ≡ Find found → way ≡ Here → value_at found page.entries ≡ kept) → TellsWay m page way kept
tells m number level key page way kept at has is leads maps = record {
  has_level = has ∙ sym (ap (λ (state : State). level_read_at state m.job) at);
  leads = subst (λ (k : ℕ). Leads page k way) is leads;
  maps = maps;
}

pub saw_way-requires-clause-read : goal.saw_way-requires-clause-read
saw_way-requires-clause-read c = (
  c.args.page.now,
  tells c.args.self.now c.args.number c.args.level c.target.result c.args.page.now c.way-way.result c.kept_at_end-kept.result c.requires.state c.requires.level c.target.ensures c.way-way.ensures c.kept_at_end-kept.ensures,
)

pub returns : goal.returns
returns c = c.saw_way.ensures c.args.number c.args.page.now (ap need_at c.requires.state)
    (tells c.args.self.now c.args.number c.args.level c.target.result c.args.page.now c.way-way.result c.kept_at_end-kept.result c.requires.state c.requires.level c.target.ensures c.way-way.ensures c.kept_at_end-kept.ensures)
