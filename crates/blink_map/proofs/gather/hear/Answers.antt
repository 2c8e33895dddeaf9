use Rattle.std.proofs.Common.{List, [], append-nil, refl, sym, ◌∙◌, subst}
use mathlib.Core.List.{IsPrefix}
use Rattle.blink_live.specs.declared.view.Change.{Change}
use Rattle.blink_generation.specs.{seen_by}
use Rattle.blink_map.proofs.gather.hear.Goals as goal

pub returns-clause-heard : goal.returns-clause-heard
returns-clause-heard c = subst (λ (l : List Change). IsPrefix l (seen_by c.tell.new.to)) (sym c.tell.ensures.from.seen) c.tell.ensures.told

pub returns-clause-lead : goal.returns-clause-lead
returns-clause-lead c = let more = c.tell.ensures.to in record { same_map = refl; saw = more.saw; made = more.made; same_member = more.same_member; same_changes = refl }

pub returns-clause-held : goal.returns-clause-held
returns-clause-held c = let same = c.tell.ensures.from in record { same_map = refl; saw = ([], append-nil (seen_by c.args.held.session) ∙ sym same.seen); made = same.made; same_member = same.same_member; same_changes = refl }
