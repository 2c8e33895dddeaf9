use Rattle.blink_index.proofs.index.Index.apply.Goals.{in-Ok, in-Err}
use Rattle.blink_index.proofs.index.Index.apply.Goals as goal

pub returns-clause-kept : goal.returns-clause-kept
returns-clause-kept c = elim c.match-reserve.branch [
  | in-Ok w ↦ rw w.self-is w.apply_each-refusal.ensures.kept
  | in-Err w ↦ rw w.self-is c.rest-rest.ensures.map
]
