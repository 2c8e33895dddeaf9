use Rattle.std.proofs.Common.{◌≡◌, Some, refl, sym, ap, ◌∙◌}
use Rattle.blink_store.specs.{page_of}
use Rattle.blink_steps.specs.Acts.{PlainShared}
use Rattle.blink_steps.proofs.shared.Shared.read_page.Goals as goal

pub returns : goal.returns
returns c =
    let there : page_of c.args.self.now.store c.args.number ≡ Some c.read.result.now =
    sym (ap (λ (shared : PlainShared). page_of shared.store c.args.number) c.self.view_is) ∙ c.read.ensures.page in
    λ worker. rw c.requires.needs (refl, (c.read.result.now, there, c.saw_page.ensures c.args.number c.requires.needs), refl)
