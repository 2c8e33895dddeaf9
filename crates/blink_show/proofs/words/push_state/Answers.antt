use Rattle.blink_show.proofs.words.push_state.Goals as goal

pub returns-in-Start : goal.returns-in-Start
returns-in-Start c = rw c.in-Start.is c.write.ensures.bytes

pub returns-in-Going : goal.returns-in-Going
returns-in-Going c = rw c.in-Going.is c.write-in-Going.ensures.bytes

pub returns-in-Want : goal.returns-in-Want
returns-in-Want c = rw c.in-Want.is c.write-in-Want.ensures.bytes

pub returns-in-Held : goal.returns-in-Held
returns-in-Held c = rw c.in-Held.is c.write-in-Held.ensures.bytes

pub returns-in-Change : goal.returns-in-Change
returns-in-Change c = rw c.in-Change.is c.write-in-Change.ensures.bytes

pub returns-in-SplitNew : goal.returns-in-SplitNew
returns-in-SplitNew c = rw c.in-SplitNew.is c.write-in-SplitNew.ensures.bytes

pub returns-in-SplitOld : goal.returns-in-SplitOld
returns-in-SplitOld c = rw c.in-SplitOld.is c.write-in-SplitOld.ensures.bytes

pub returns-in-AskPrime : goal.returns-in-AskPrime
returns-in-AskPrime c = rw c.in-AskPrime.is c.write-in-AskPrime.ensures.bytes

pub returns-in-Root : goal.returns-in-Root
returns-in-Root c = rw c.in-Root.is c.write-in-Root.ensures.bytes

pub returns-in-NewPrime : goal.returns-in-NewPrime
returns-in-NewPrime c = rw c.in-NewPrime.is c.write-in-NewPrime.ensures.bytes

pub returns-in-Leave : goal.returns-in-Leave
returns-in-Leave c = rw c.in-Leave.is c.write-in-Leave.ensures.bytes

pub returns-in-Posting : goal.returns-in-Posting
returns-in-Posting c = rw c.in-Posting.is c.write-in-Posting.ensures.bytes

pub returns-in-Ended : goal.returns-in-Ended
returns-in-Ended c = rw c.in-Ended.is c.write-in-Ended.ensures.bytes
