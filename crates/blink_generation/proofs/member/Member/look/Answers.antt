use Rattle.std.proofs.Common.{rules}
use Rattle.blink_generation.proofs.member.Member.look.Goals as goal

-- what the check would search for by itself: a wrong body falls on an answer at once
pub search-answer-requires-clause-can_begin : goal.search-answer-requires-clause-can_begin
search-answer-requires-clause-can_begin c = search rules
