use Rattle.blink_machine.proofs.operation.ReadResults.{one_change, one_result_of_page, one_result_of_prime}
use Rattle.blink_machine.proofs.laws.reads_have_one_result.Goals as goal

pub returns-clause-of_prime : goal.returns-clause-of_prime
returns-clause-of_prime c = one_result_of_prime

pub returns-clause-of_page : goal.returns-clause-of_page
returns-clause-of_page c = one_result_of_page

pub returns-clause-change : goal.returns-clause-change
returns-clause-change c = one_change
