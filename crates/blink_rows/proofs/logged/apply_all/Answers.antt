use Rattle.std.proofs.Common.{◌∙◌, subst, sym, arith}
use Rattle.blink_page.specs.{PlainPage}
use Rattle.blink_page.specs.declared.limits.TheConstants.{MAX_FAN}
use Rattle.blink_rows.specs.declared.log.Kind.TheVariants.{Replaced}
use Rattle.blink_rows.specs.declared.log.Record.{Record}
use Rattle.blink_rows.specs.Log.{Fits, page_after}
use Rattle.blink_rows.proofs.LogContent.{stands_at, more_fit, next_fits, next_page}
use Rattle.blink_rows.proofs.logged.apply_all.Goals as goal

pub returns-then-not-fits-clause-unfit : goal.returns-then-not-fits-clause-unfit
returns-then-not-fits-clause-unfit c is_false fit =
    let invariant = c.loop-change.invariant in
    let at = stands_at c.args.log.now c.loop-change.change-index (omega (arith, c.loop-change-test.true)) in
    let here = next_fits MAX_FAN c.args.page.now c.args.log.now c.loop-change.change-index at fit in
    let item : Fits MAX_FAN c.loop-change.page at.r = subst (λ (p : PlainPage). Fits MAX_FAN p at.r) (sym invariant.page) here in
    let yes = c.fits.ensures.1 (subst (Fits MAX_FAN c.loop-change.page) (sym (at.is _)) item) in
    cc

pub loop-change-preserved : goal.loop-change-preserved
loop-change-preserved c =
    let invariant = c.loop-change.invariant in
    let at = stands_at c.args.log.now c.loop-change.change-index (omega (arith, c.loop-change-test.true)) in
    let fits = c.fits.ensures.0 c.if-not-fits.false in
    let item : Fits MAX_FAN c.loop-change.page at.r = subst (Fits MAX_FAN c.loop-change.page) (at.is _) fits in
    let none : Record = record { kind = Replaced; key = 0; pointer = 0 } in
    record {
      fit = more_fit MAX_FAN c.args.page.now c.args.log.now c.loop-change.change-index at invariant.fit (subst (λ (p : PlainPage). Fits MAX_FAN p at.r) invariant.page item);
      page = c.apply.ensures ∙ ((λ i. page_after (invariant.page i) (at.is none i)) ∙ sym (next_page c.args.page.now c.args.log.now c.loop-change.change-index at));
    }
