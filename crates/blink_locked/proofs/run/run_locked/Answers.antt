use Rattle.std.proofs.Common.{ap, ◌∙◌, subst, sym}
use Rattle.blink_index.specs.{map_of}
use Rattle.blink_store.specs.{PlainStore}
use Rattle.blink_locked.specs.Run.{HasFewPagesMore, IsReplayed, IsSettled}
use Rattle.blink_steps.proofs.Offered.{one_thread_answers, one_thread_map}
use Rattle.blink_locked.proofs.BooksGoOn.{settled_done}
use Rattle.blink_locked.proofs.run.run_locked.Goals as goal

pub returns-clause-answers : goal.returns-clause-answers
returns-clause-answers g c =
    let settled = subst (λ (before : PlainStore). IsSettled before c.args.batch.now c.args.cut.now c.in_ok-tree.tree c.in_ok-tree.answers.items) c.rest.ensures.tree c.in_ok-tree.ensures.settled in
    one_thread_answers c.args.index.now c.in_ok-tree.tree c.args.batch.now c.in_ok-tree.answers.items (settled_done c.args.index.now c.in_ok-tree.tree c.args.batch.now c.args.cut.now c.in_ok-tree.answers.items settled) (map_of c.args.index.now) c.rest.ensures.map

pub returns-clause-map : goal.returns-clause-map
returns-clause-map g c =
    let settled = subst (λ (before : PlainStore). IsSettled before c.args.batch.now c.args.cut.now c.in_ok-tree.tree c.in_ok-tree.answers.items) c.rest.ensures.tree c.in_ok-tree.ensures.settled in
    ap map_of c.from_rest.ensures
    ∙ one_thread_map c.args.index.now c.in_ok-tree.tree c.args.batch.now c.in_ok-tree.answers.items (settled_done c.args.index.now c.in_ok-tree.tree c.args.batch.now c.args.cut.now c.in_ok-tree.answers.items settled) (map_of c.args.index.now) c.rest.ensures.map map_of c.no_other_map_is_kept.ensures

pub returns-clause-replayed : goal.returns-clause-replayed
returns-clause-replayed g c =
    let settled = subst (λ (before : PlainStore). IsSettled before c.args.batch.now c.args.cut.now c.in_ok-tree.tree c.in_ok-tree.answers.items) c.rest.ensures.tree c.in_ok-tree.ensures.settled in
    subst (λ (after : PlainStore). IsReplayed c.args.index.now c.args.batch.now c.args.cut.now after) (sym c.from_rest.ensures) settled.replayed

pub returns-clause-fan : goal.returns-clause-fan
returns-clause-fan g c =
    let settled = subst (λ (before : PlainStore). IsSettled before c.args.batch.now c.args.cut.now c.in_ok-tree.tree c.in_ok-tree.answers.items) c.rest.ensures.tree c.in_ok-tree.ensures.settled in
    ap (λ (store : PlainStore). store.fan) c.from_rest.ensures ∙ settled.same_fan

pub returns-clause-pages : goal.returns-clause-pages
returns-clause-pages g c =
    let settled = subst (λ (before : PlainStore). IsSettled before c.args.batch.now c.args.cut.now c.in_ok-tree.tree c.in_ok-tree.answers.items) c.rest.ensures.tree c.in_ok-tree.ensures.settled in
    subst (λ (after : PlainStore). HasFewPagesMore c.args.index.now c.args.batch.now after) (sym c.from_rest.ensures) settled.few_pages
