use Rattle.std.proofs.Common.{◌≡◌, length, drop, sym, ◌∙◌, subst, arith}
use Rattle.std.proofs.lemmas.List.{length-take-le, take_at}
use Rattle.blink_rows.specs.declared.log.Kind.{Kind}
use Rattle.blink_live.specs.Editing.{IsEdited}
use Rattle.blink_live.specs.Scanning.{IsCopied}
use Rattle.blink_live.proofs.edit.edit_one.Goals as goal

pub returns-in-Replaced-clause-copied : goal.returns-in-Replaced-clause-copied
returns-in-Replaced-clause-copied c known later is from stop low high was =
    let room = c.requires.room in
    let part = c.replace_one.new.copied in
    let long : length part ≡ c.args.filled = c.replace_one.ensures.width ∙ length-take-le c.args.filled c.args.leaf.now (omega (arith, room)) in
    subst (IsCopied later from stop) (sym (take_at part (drop c.args.filled c.args.leaf.now) c.args.filled long))
    (c.replace_one.ensures.copied known later (subst (λ (kind : Kind). IsEdited kind c.args.change.now.key c.args.change.now.pointer known later) c.in-Replaced.is is) from stop was)

pub returns-in-Added-clause-copied : goal.returns-in-Added-clause-copied
returns-in-Added-clause-copied c known later is =
    c.add_one.ensures.copied known later (subst (λ (kind : Kind). IsEdited kind c.args.change.now.key c.args.change.now.pointer known later) c.in-Added.is is)

pub returns-in-Removed-clause-copied : goal.returns-in-Removed-clause-copied
returns-in-Removed-clause-copied c known later is =
    c.remove_one.ensures.copied known later (subst (λ (kind : Kind). IsEdited kind c.args.change.now.key c.args.change.now.pointer known later) c.in-Removed.is is)
