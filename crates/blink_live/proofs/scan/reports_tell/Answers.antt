use Rattle.blink_live.proofs.scanned.ReportsGoOn.{reports_tell}
use Rattle.blink_live.proofs.scan.reports_tell.Goals as goal

pub returns : goal.returns
returns c = reports_tell
