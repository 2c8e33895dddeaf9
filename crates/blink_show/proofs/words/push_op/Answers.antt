use Rattle.blink_show.proofs.words.push_op.Goals as goal

pub returns-in-Find : goal.returns-in-Find
returns-in-Find c = rw c.in-Find.is c.write.ensures.bytes

pub returns-in-Insert : goal.returns-in-Insert
returns-in-Insert c = rw c.in-Insert.is c.write-in-Insert.ensures.bytes

pub returns-in-Delete : goal.returns-in-Delete
returns-in-Delete c = rw c.in-Delete.is c.write-in-Delete.ensures.bytes

pub returns-in-Replace : goal.returns-in-Replace
returns-in-Replace c = rw c.in-Replace.is c.write-in-Replace.ensures.bytes

pub returns-in-Exchange : goal.returns-in-Exchange
returns-in-Exchange c = rw c.in-Exchange.is c.write-in-Exchange.ensures.bytes

pub returns-in-DeleteExact : goal.returns-in-DeleteExact
returns-in-DeleteExact c = rw c.in-DeleteExact.is c.write-in-DeleteExact.ensures.bytes
