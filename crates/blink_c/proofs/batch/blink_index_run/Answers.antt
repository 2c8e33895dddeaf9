use Rattle.std.proofs.Common.{IfErr, length, subst}
use Rattle.blink_store.specs.{PlainStore}
use Rattle.blink_handles.specs.Codes.{code_of}
use Rattle.blink_handles.specs.{IsRunRefusal}
use Rattle.blink_c.proofs.Codes.{told_why}
use Rattle.blink_c.proofs.batch.blink_index_run.Goals as goal

pub returns-clause-refused : goal.returns-clause-refused
returns-clause-refused c =
    told_why code_of (IsRunRefusal c.args.index.now.value c.args.operations.now (length c.args.answers.now)) c.run.result c.code_of.result c.code_of.ensures
    (subst (λ (store : PlainStore). IfErr c.run.result (IsRunRefusal store c.args.operations.now (length c.args.answers.now))) c.get.ensures.value c.run.ensures.refused)
