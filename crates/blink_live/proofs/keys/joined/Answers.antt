use Rattle.std.proofs.Common.{rules, ℕ, List, ◌++◌, Result, Ok, Err, IfOk, Vec, Global, sym, subst}
use Rattle.std.specs.List.Sorted.{IsPermutation}
use Rattle.std.proofs.lemmas.List.Sorted.{IsPermutation-append_right, IsPermutation-trans}
use Rattle.blink_live.proofs.keys.joined.Goals as goal

through : {E : Type 0} (before after : List ℕ) (r : Result (Vec ℕ Global) E) → IsPermutation before after → IfOk r (λ all. IsPermutation after all.items) → IfOk r (λ all. IsPermutation before all.items)
through before after (Ok all) moved is = IsPermutation-trans before after all.items moved is
through before after (Err e) moved is = tt

pub returns : goal.returns
returns c =
    let keys : List ℕ = c.args.keys.now in
    let more : List ℕ = c.args.more.now in
    let sorted : IsPermutation more c.sort_unstable.new.self.items = subst (λ (all : List ℕ). IsPermutation {X = ℕ} all c.sort_unstable.new.self.items) (search rules) c.sort_unstable.ensures.permutation in
    let moved : IsPermutation more c.deref.result.now = subst (IsPermutation {X = ℕ} more) (sym c.deref.ensures.value) sorted in
    record { of_both = through (keys ++ more) (keys ++ c.deref.result.now) c.merged.result (IsPermutation-append_right keys more c.deref.result.now moved) c.merged.ensures.of_both }
