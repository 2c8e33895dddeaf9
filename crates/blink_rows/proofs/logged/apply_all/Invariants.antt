use Rattle.std.proofs.Common.{◌≡◌, take}
use Rattle.blink_page.specs.declared.limits.TheConstants.{MAX_FAN}
use Rattle.blink_rows.specs.Log.{AllFit, page_with}
use Rattle.blink_rows.proofs.logged.apply_all.Given as goal

-- the changes up to here fit, and are made
abbrev pub invariant-loop-change : goal.invariant-loop-change
invariant-loop-change l = record {
  fit : AllFit MAX_FAN l.fn.page (take l.change-index l.log);
  page : l.page ≡ page_with l.fn.page (take l.change-index l.log);
}
