use Rattle.blink_live.proofs.scanned.ReportsGoBack.{backward_reports_tell}
use Rattle.blink_live.proofs.scan_back.backward_reports_tell.Goals as goal

pub returns : goal.returns
returns c = backward_reports_tell
