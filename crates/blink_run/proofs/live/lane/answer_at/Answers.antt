use Rattle.std.proofs.Common.{subst, Contains, count_by, ◌≤◌, [], ◌∷◌, arith}
use Rattle.std.proofs.lemmas.Grind.{common_steps}
use Rattle.blink_batch.specs.declared.Op.{Op}
use Rattle.blink_batch.specs.{is_insert, key_of}
use Rattle.blink_live.specs.{inserts_left, deletes_left, keys_of}
use Rattle.blink_run.specs.Lanes.{uses_deletion}
use Rattle.blink_run.proofs.LaneRuns.{not_refused}
use Rattle.blink_run.proofs.live.lane.answer_at.Goals as goal

pub answer_of-requires : goal.answer_of-requires
answer_of-requires g c =
    let its = subst (λ (op : Op). Contains (keys_of c.args.pass.now) (key_of op)) c.in-Find.is c.requires.key in
    not_refused c.find.result (λ is. c.find.ensures.not_yours.0 is its) (λ is. let refusal = c.find.ensures.refused in grind (arith, common_steps))

pub answer_of-requires-in-Insert : goal.answer_of-requires-in-Insert
answer_of-requires-in-Insert g c =
    let its = subst (λ (op : Op). Contains (keys_of c.args.pass.now) (key_of op)) c.in-Insert.is c.requires.key in
    let some = subst (λ (op : Op). count_by is_insert (op ∷ []) ≤ inserts_left c.args.pass.now.pages) c.in-Insert.is c.requires.inserts in
    not_refused c.insert.result (λ is. c.insert.ensures.not_yours.0 is its) (λ is. let none = (c.insert.ensures.spent.0 is).1 in omega arith)

pub answer_of-requires-in-Delete : goal.answer_of-requires-in-Delete
answer_of-requires-in-Delete g c =
    let its = subst (λ (op : Op). Contains (keys_of c.args.pass.now) (key_of op)) c.in-Delete.is c.requires.key in
    let some = subst (λ (op : Op). count_by uses_deletion (op ∷ []) ≤ deletes_left c.args.pass.now.pages c.args.pass.now.rows) c.in-Delete.is c.requires.deletes in
    not_refused c.delete.result (λ is. c.delete.ensures.not_yours.0 is its) (λ is. let none = (c.delete.ensures.spent.0 is).1 in omega arith)

pub answer_of-requires-in-Replace : goal.answer_of-requires-in-Replace
answer_of-requires-in-Replace g c =
    let its = subst (λ (op : Op). Contains (keys_of c.args.pass.now) (key_of op)) c.in-Replace.is c.requires.key in
    let some = subst (λ (op : Op). count_by uses_deletion (op ∷ []) ≤ deletes_left c.args.pass.now.pages c.args.pass.now.rows) c.in-Replace.is c.requires.deletes in
    not_refused c.replace.result (λ is. c.replace.ensures.not_yours.0 is its) (λ is. let none = (c.replace.ensures.spent.0 is).1 in omega arith)

pub answer_of-requires-in-Exchange : goal.answer_of-requires-in-Exchange
answer_of-requires-in-Exchange g c =
    let its = subst (λ (op : Op). Contains (keys_of c.args.pass.now) (key_of op)) c.in-Exchange.is c.requires.key in
    let some = subst (λ (op : Op). count_by uses_deletion (op ∷ []) ≤ deletes_left c.args.pass.now.pages c.args.pass.now.rows) c.in-Exchange.is c.requires.deletes in
    not_refused c.exchange.result (λ is. c.exchange.ensures.not_yours.0 is its) (λ is. let none = (c.exchange.ensures.spent.0 is).1 in omega arith)

pub answer_of-requires-in-DeleteExact : goal.answer_of-requires-in-DeleteExact
answer_of-requires-in-DeleteExact g c =
    let its = subst (λ (op : Op). Contains (keys_of c.args.pass.now) (key_of op)) c.in-DeleteExact.is c.requires.key in
    let some = subst (λ (op : Op). count_by uses_deletion (op ∷ []) ≤ deletes_left c.args.pass.now.pages c.args.pass.now.rows) c.in-DeleteExact.is c.requires.deletes in
    not_refused c.delete_exact.result (λ is. c.delete_exact.ensures.not_yours.0 is its) (λ is. let none = (c.delete_exact.ensures.spent.0 is).1 in omega arith)
