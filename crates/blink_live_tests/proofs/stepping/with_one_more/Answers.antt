use Rattle.std.proofs.Common.{List, sym, subst}
use Rattle.std.proofs.lemmas.List.Elements.{All-push}
use Rattle.std.specs.Prelude.{All}
use Rattle.blink_live.specs.{IsPendingOf}
use Rattle.blink_live.specs.declared.live.Pending.{Pending}
use Rattle.blink_live_tests.proofs.stepping.with_one_more.Goals as goal

pub returns : goal.returns
returns g c = subst (λ (all : List Pending). All (IsPendingOf c.args.live.now) all) (sym c.push.ensures) (All-push (IsPendingOf c.args.live.now) c.args.begun.now.items c.args.pending c.requires.others c.requires.one)
