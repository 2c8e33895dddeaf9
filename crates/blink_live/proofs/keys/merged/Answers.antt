use Rattle.std.proofs.Common.{◌≡◌, ℕ, ◌-◌, List, ◌++◌, length, take, drop, get_or, ap, sym, ◌∙◌, subst, arith}
use Rattle.std.specs.List.Sorted.{IsPermutation}
use Rattle.std.proofs.lemmas.List.{length-drop, take_more, take_all, take-append-drop}
use Rattle.blink_live.proofs.dealt.KeysInOrder.{first_more, rest_more, second_more}
use Rattle.blink_live.proofs.keys.merged.Goals as goal

pub loop-other-preserved : goal.loop-other-preserved
loop-other-preserved c =
    let first : List ℕ = take c.loop-next.next c.args.keys.now in
    let second : List ℕ = take c.loop-other.other-index c.args.others.now in
    let x = get_or c.args.others.now c.loop-other.other-index 0 in
    let more = second_more first second c.loop-next.all.items c.loop-next.invariant.merged x in record {
      inside = c.loop-next.invariant.inside;
      merged = subst (λ (l : List ℕ × List ℕ). IsPermutation {X = ℕ} (first ++ l.0) l.1) (λ i. (sym (take_more c.args.others.now c.loop-other.other-index 0 c.loop-other-test.true) i, sym c.in_ok-push-2.ensures.items i)) more;
    }

pub loop-next-preserved : goal.loop-next-preserved
loop-next-preserved c =
    let first : List ℕ = take c.loop-next.next c.args.keys.now in
    let second : List ℕ = take c.loop-other.other-index c.args.others.now in
    let x = get_or c.args.keys.now c.loop-next.next 0 in
    let more = first_more first second c.loop-next.all.items c.loop-next.invariant.merged x in record {
      inside = let less = c.loop-next-test.true in omega (arith, less);
      merged = subst (λ (l : List ℕ × List ℕ). IsPermutation {X = ℕ} (l.0 ++ second) l.1) (λ i. (sym (take_more c.args.keys.now c.loop-next.next 0 c.loop-next-test.true) i, sym c.in_ok-push.ensures.items i)) more;
    }

pub returns : goal.returns
returns c =
    let keys : List ℕ = c.args.keys.now in
    let others : List ℕ = c.args.others.now in
    let n : ℕ = c.loop-other.next in
    let rest : List ℕ = take (length keys - n) (drop n keys) in
    let whole : rest ≡ drop n keys = take_all (length keys - n) (drop n keys) (let long = length-drop n keys in omega (arith, long)) in
    let keys_are : take n keys ++ rest ≡ keys = ap (λ (l : List ℕ). take n keys ++ l) whole ∙ take-append-drop n keys in
    let at_end : c.loop-other.other-index ≡ length others = omega (arith, c.loop-other-test.false, c.loop-other.auto.other-index-end) in
    let others_are : take c.loop-other.other-index others ≡ others = ap (λ (m : ℕ). take m others) at_end ∙ take_all (length others) others (omega arith) in
    let both = rest_more (take n keys) rest (take c.loop-other.other-index others) c.loop-other.all.items c.loop-other.invariant.merged in
    record { of_both = subst (λ (l : List ℕ × (List ℕ × List ℕ)). IsPermutation {X = ℕ} (l.0 ++ l.1.0) l.1.1) (λ i. (keys_are i, (others_are i, sym c.in_ok-extend_from_slice.ensures.items i))) both }
