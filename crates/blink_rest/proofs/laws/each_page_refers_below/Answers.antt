use Rattle.blink_rest.proofs.EachLaw.{each_page_refers_below}
use Rattle.blink_rest.proofs.laws.each_page_refers_below.Goals as goal

pub returns : goal.returns
returns c = each_page_refers_below
