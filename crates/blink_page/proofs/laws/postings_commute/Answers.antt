use Rattle.blink_page.proofs.TwoPostings.{postings_commute}
use Rattle.blink_page.proofs.laws.postings_commute.Goals as goal

pub returns : goal.returns
returns c = postings_commute
