use Rattle.std.proofs.Common.{◌≡◌, ◌+◌, List, [], ◌∷◌, ◌++◌, length, sym, ap, ◌∙◌, refl, append_assoc, arith}
use mathlib.Core.List.{append-nil}
use Rattle.blink_live.specs.declared.live.Pass.{Pass}
use Rattle.blink_live.specs.declared.view.View.{View}
use Rattle.blink_live.specs.declared.view.Role.{Role}
use Rattle.blink_live.specs.Merge.{shares_of}
use Rattle.blink_live.specs.Views.{SeatState, takes_more, takes_back, takes_all_back}
use Rattle.blink_live.proofs.closed.SharesComeBack.{none_back, one_more_back}
use Rattle.blink_live.proofs.live.Live.take_back.Goals as goal

pub take_one-requires-clause-keeper : goal.take_one-requires-clause-keeper
take_one-requires-clause-keeper c =
    let back = c.loop-pass.invariant.back in
    let keeper = c.requires.role in
    (keeper.0, keeper.1 + length (shares_of back.0), ap (λ (x : SeatState). x.0.role) back.2 ∙ ap (λ (r : Role). takes_more r (length (shares_of back.0))) keeper.2)

pub loop-pass-preserved : goal.loop-pass-preserved
loop-pass-preserved c =
    let back = c.loop-pass.invariant.back in
    let pass : Pass = c.in-Some.pass in
    let popped : c.loop-pass.passes.items ≡ c.pop.new.self.items ++ pass ∷ [] = c.in-Some.ensures.items in
    let v : View = c.args.seat.now.me.0 in record {
      same = (c.take_one.ensures.same.0 ∙ c.loop-pass.invariant.same.0, c.take_one.ensures.same.1 ∙ c.loop-pass.invariant.same.1);
      back = (
        pass ∷ back.0,
        back.1 ∙ (ap (λ (ps : List Pass). ps ++ back.0) popped ∙ append_assoc c.pop.new.self.items (pass ∷ []) back.0),
        c.take_one.ensures.back
            ∙ (ap (λ (x : SeatState). let y : SeatState = (takes_back x.0 pass.seat.me.0, x.1) in y) back.2
            ∙ (λ i. (one_more_back v pass.seat.me.0 (shares_of back.0) i, c.args.seat.now.me.1))),
      );
    }

pub loop-pass-init : goal.loop-pass-init
loop-pass-init c = record {
  same = (refl, refl);
  back = ([], sym (append-nil c.args.passes.items), λ i. (sym (none_back c.args.seat.now.me.0) i, c.args.seat.now.me.1));
}

none_left : (passes : List Pass) → length passes ≡ 0 → passes ≡ []
none_left [] none = refl
none_left (pass ∷ passes) none = absurd (omega (arith, none))

pub returns : goal.returns
returns c =
    let back = c.loop-pass.invariant.back in
    let none : length c.loop-pass.passes.items ≡ 0 = let zero_long = c.in_default.ensures.cases.0 in let ok = c.loop-pass.passes.ok in omega (arith, zero_long, ok) in
    let all : c.args.passes.items ≡ back.0 = back.1 ∙ ap (λ (ps : List Pass). ps ++ back.0) (none_left c.loop-pass.passes.items none) in
    record {
      same = c.loop-pass.invariant.same;
      back = back.2 ∙ ap (λ (ps : List Pass). let y : SeatState = (takes_all_back c.args.seat.now.me.0 (shares_of ps), c.args.seat.now.me.1) in y) (sym all);
    }
