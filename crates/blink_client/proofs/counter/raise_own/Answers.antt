use Rattle.std.proofs.Common.{◌≡◌, ℕ, ◌+◌, Some, List, ap, sym, ◌∙◌, subst, inr, arith}
use Rattle.std.specs.Prelude.{Contains}
use Rattle.blink_batch.specs.declared.Op.TheVariants.{Exchange}
use Rattle.blink_batch.specs.{pointer_of}
use Rattle.blink_live.specs.declared.live.Pass.{Pass}
use Rattle.blink_live.specs.{deletes_left, IsChangedBy, IsPassOf, share_of}
use Rattle.blink_client.proofs.CountersRise.{exchanged, is_spent, refused_same, when_ok}
use Rattle.blink_client.proofs.counter.raise_own.Goals as goal

-- nothing is raised yet
pub loop-done-init : goal.loop-done-init
loop-done-init g c = record {
  its_own = c.requires.its_own;
  own_key = c.requires.own_key;
  raised = c.requires.begins ∙ ap (λ (n : ℕ). Some n) (omega arith);
}

-- an exchange that isn't refused finds what it expects
pub loop-done-preserved : goal.loop-done-preserved
loop-done-preserved g c =
    let before = c.loop-done.invariant in
    let expected : ℕ = c.args.from + c.loop-done.done in
    let pointer : ℕ = c.args.from + c.loop-done.done + 1 in
    let changed : IsChangedBy (Exchange c.args.key expected pointer) c.loop-done.pass c.exchange.new.pass =
    when_ok c.exchange.result c.if-is_err.ensures.value c.exchange.ensures.changed in
    record {
      its_own = (changed.same_table ∙ before.its_own.0, changed.same_plan ∙ before.its_own.1);
      own_key = subst (λ (keys : List ℕ). Contains keys c.args.key) (sym changed.same_keys) before.own_key;
      raised =
          ap (λ map. pointer_of map c.args.key) changed.share
          ∙ exchanged (share_of c.loop-done.pass) c.args.key expected pointer before.raised
          ∙ ap (λ (n : ℕ). Some n) (omega arith);
    }

-- one that is leaves the pass, which has no deletion left
pub returns-then-is_err-clause-raised : goal.returns-then-is_err-clause-raised
returns-then-is_err-clause-raised g c =
    let same : c.exchange.new.pass ≡ c.loop-done.pass = refused_same c.exchange.result c.if-is_err.ensures.value c.exchange.ensures.unchanged in
    ap (λ (pass : Pass). pointer_of (share_of pass) c.args.key) same ∙ c.loop-done.invariant.raised

pub returns-then-is_err-clause-all : goal.returns-then-is_err-clause-all
returns-then-is_err-clause-all g c =
    let same : c.exchange.new.pass ≡ c.loop-done.pass = refused_same c.exchange.result c.if-is_err.ensures.value c.exchange.ensures.unchanged in
    let spent = is_spent c.exchange.result c.if-is_err.ensures.value (λ is. c.exchange.ensures.not_yours.0 is c.loop-done.invariant.own_key) in
    inr (ap (λ (pass : Pass). deletes_left pass.pages pass.rows) same ∙ (c.exchange.ensures.spent.0 spent).1)

pub returns-then-is_err-clause-its_own : goal.returns-then-is_err-clause-its_own
returns-then-is_err-clause-its_own g c =
    let same : c.exchange.new.pass ≡ c.loop-done.pass = refused_same c.exchange.result c.if-is_err.ensures.value c.exchange.ensures.unchanged in
    subst (IsPassOf c.args.live.now) (sym same) c.loop-done.invariant.its_own

-- all is done
pub returns-clause-raised : goal.returns-clause-raised
returns-clause-raised g c = c.loop-done.invariant.raised ∙ ap (λ (n : ℕ). Some n) (omega arith)

pub returns-clause-its_own : goal.returns-clause-its_own
returns-clause-its_own g c = c.loop-done.invariant.its_own
