use Rattle.std.proofs.Common.{◌≡◌}
use Rattle.blink_settings.specs.declared.settings.Driver.{Driver}
use Rattle.blink_settings.specs.declared.settings.Driver.TheVariants.{Locked, Live}
use Rattle.blink_run.proofs.run.run_batch.Goals as goal

never_both : (driver : Driver) → driver ≡ Locked → driver ≡ Live → ⊥
never_both driver locked live = absurd (cc)

pub returns-in-Locked-clause-not_foreign : goal.returns-in-Locked-clause-not_foreign
returns-in-Locked-clause-not_foreign g c = λ live. absurd (never_both c.args.driver c.in-Locked.is live)

pub returns-in-Locked-clause-replayed : goal.returns-in-Locked-clause-replayed
returns-in-Locked-clause-replayed g c = λ locked. c.run_locked.ensures.replayed

pub returns-in-Locked-clause-numbered : goal.returns-in-Locked-clause-numbered
returns-in-Locked-clause-numbered g c = λ live. absurd (never_both c.args.driver c.in-Locked.is live)

pub returns-in-Live-clause-not_foreign : goal.returns-in-Live-clause-not_foreign
returns-in-Live-clause-not_foreign g c = λ live. c.run_live.ensures.not_foreign

pub returns-in-Live-clause-replayed : goal.returns-in-Live-clause-replayed
returns-in-Live-clause-replayed g c = λ locked. absurd (never_both c.args.driver locked c.in-Live.is)

pub returns-in-Live-clause-numbered : goal.returns-in-Live-clause-numbered
returns-in-Live-clause-numbered g c = λ live. c.run_live.ensures.numbered
