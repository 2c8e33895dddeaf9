use Rattle.std.proofs.Common.{◌≡◌, ◌-◌, ◌++◌, ℕ, List, [], ◌∷◌, length, take, get_or, ap, sym, subst, ◌∙◌, arith}
use Rattle.std.proofs.lemmas.List.{take_all}
use Rattle.blink_page.specs.{IsLawfulPage, PlainPage}
use Rattle.blink_page.specs.declared.limits.TheConstants.{MAX_FAN}
use Rattle.blink_rest.specs.{names_for}
use Rattle.blink_entries.specs.Packed.{numbered}
use Rattle.blink_entries.specs.Packing.{floor_of_first, high_of_last}
use Rattle.blink_entries.proofs.packed.PagesOver.{floor_there, high_there, length-names, names_more}
use Rattle.blink_entries.proofs.pack.page_over.Goals as goal

pub push-requires : goal.push-requires
push-requires c =
    let test = c.loop-page-test.true in let few = c.requires.few in
    let count = ap length c.loop-page.invariant.named ∙ length-names c.args.child c.loop-page.page-index c.args.children.now (omega arith) in
    (omega arith, omega (arith, count, few, test))

pub loop-page-preserved : goal.loop-page-preserved
loop-page-preserved c =
    let i = c.loop-page.page-index in let pages = c.args.children.now in
    let number = c.loop-page.invariant.number in
    let high : c.page.inside.high ≡ (get_or pages i c.page-item.result).high = ap (λ (p : PlainPage). p.high) (c.page.view_is ∙ c.page-item.is) in
    record {
      named = c.push.ensures.items
          ∙ ap (λ (es : List (ℕ × ℕ)). es ++ (c.page.inside.high, c.loop-page.number) ∷ []) c.loop-page.invariant.named
          ∙ ap (λ (k : ℕ). names_for (numbered c.args.child (take i pages)) ++ (k, c.loop-page.number) ∷ []) high
          ∙ ap (λ (n : ℕ). names_for (numbered c.args.child (take i pages)) ++ ((get_or pages i c.page-item.result).high, n) ∷ []) number
          ∙ sym (names_more c.args.child i pages c.page-item.result c.loop-page-test.true);
      number = omega (arith, number);
    }

pub returns : goal.returns
returns c = λ i. record {
  level = c.args.level;
  floor = floor i;
  high = high i;
  right = c.args.right;
  entries = entries i;
}
  where
    floor : c.first.inside.floor ≡ floor_of_first c.args.children.now
    floor = ap (λ (p : PlainPage). p.floor) (c.first.view_is ∙ c.index-children-0.is) ∙ floor_there c.args.children.now c.index-children-0.result (let some = c.requires.some in omega (arith, some))

    high : c.last.inside.high ≡ high_of_last c.args.children.now
    high = ap (λ (p : PlainPage). p.high) (c.last.view_is ∙ c.index-children-children.is)
        ∙ high_there (length c.args.children.now - 1) c.args.children.now c.index-children-children.result (let some = c.requires.some in omega (arith, some))

    entries : c.loop-page.items.items ≡ names_for (numbered c.args.child c.args.children.now)
    entries = c.loop-page.invariant.named ∙ ap (λ (ps : List PlainPage). names_for (numbered c.args.child ps)) (take_all c.loop-page.page-index c.args.children.now (let test = c.loop-page-test.false in omega (arith, test)))

pub invariant_of-result : goal.invariant_of-result
invariant_of-result c = subst (IsLawfulPage MAX_FAN) (sym (returns c)) c.requires.lawful
