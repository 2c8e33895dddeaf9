use Rattle.blink_rest.proofs.EachLaw.{each_right_link_leads}
use Rattle.blink_rest.proofs.laws.each_right_link_leads.Goals as goal

pub returns : goal.returns
returns c = each_right_link_leads
