use Rattle.blink_live.proofs.live.Live.insert.Goals as goal

-- So a wrong operation is refused without a search.

pub returns-clause-answer : goal.returns-clause-answer
returns-clause-answer g c = c.change.ensures.answer

pub returns-clause-changed : goal.returns-clause-changed
returns-clause-changed g c = c.change.ensures.changed
