use Rattle.std.proofs.Common.{rules, Contains, sym, ◌∙◌, subst, true≢false}
use Rattle.blink_batch.specs.{key_of}
use Rattle.blink_live.specs.Handles.{keys_of}
use Rattle.blink_live.proofs.live.Pass.accepts.Goals as goal

-- Each goal on which a wrong test of the key falls has its answer here, so that the prover refuses such a test without a search.

pub returns-then-not-has-clause-not_yours : goal.returns-then-not-has-clause-not_yours
returns-then-not-has-clause-not_yours c =
    let foreign : ¬ Contains (keys_of c.args.self.now) (key_of c.args.op) = λ there. true≢false (sym (c.has.ensures.1 (subst (Contains (keys_of c.args.self.now)) (sym c.key.ensures) there)) ∙ c.if-not-has.true) in
    search (rules, foreign)

pub returns-then-not-has-clause-spent : goal.returns-then-not-has-clause-spent
returns-then-not-has-clause-spent c =
    let foreign : ¬ Contains (keys_of c.args.self.now) (key_of c.args.op) = λ there. true≢false (sym (c.has.ensures.1 (subst (Contains (keys_of c.args.self.now)) (sym c.key.ensures) there)) ∙ c.if-not-has.true) in
    search (rules, foreign)

pub returns-then-changes_left-eq0-clause-not_yours : goal.returns-then-changes_left-eq0-clause-not_yours
returns-then-changes_left-eq0-clause-not_yours c =
    let own : Contains (keys_of c.args.self.now) (key_of c.args.op) = subst (Contains (keys_of c.args.self.now)) c.key.ensures (c.has.ensures.0 c.if-not-has.false) in
    search (rules, own)

pub returns-then-changes_left-eq0-clause-spent : goal.returns-then-changes_left-eq0-clause-spent
returns-then-changes_left-eq0-clause-spent c =
    let own : Contains (keys_of c.args.self.now) (key_of c.args.op) = subst (Contains (keys_of c.args.self.now)) c.key.ensures (c.has.ensures.0 c.if-not-has.false) in
    search (rules, own)

pub returns-clause-own_key : goal.returns-clause-own_key
returns-clause-own_key c = subst (Contains (keys_of c.args.self.now)) c.key.ensures (c.has.ensures.0 c.if-not-has.false)

pub returns-clause-not_yours : goal.returns-clause-not_yours
returns-clause-not_yours c = search rules
