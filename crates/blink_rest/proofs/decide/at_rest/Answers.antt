use Rattle.std.proofs.Common.{◌≡◌, ◌+◌, ◌-◌, ◌<◌, ℕ, Option, List, MatchOption, length, get_or, eqb-true, eq-eqb, ap, sym, subst, ◌∙◌, arith}
use Rattle.blink_store.specs.{page_of}
use Rattle.blink_rest.specs.Walk.{HasNoChain, HasChain, HasNoNamedChain, HasNamedChain}
use Rattle.blink_rest.proofs.WalkAlongLevel.{store_numbered}
use Rattle.blink_rest.proofs.WalkDownLevels.{LevelsFrom, levels_top, levels_more, levels_count, levels_whole, rest_whole, rest_named, top_one, top_other}
use Rattle.blink_rest.proofs.decide.at_rest.Goals as goal

pub returns-then-ne : goal.returns-then-ne
returns-then-ne c =
    let own : c.behind-store.inside.leftmost.items ≡ c.args.store.now.prime = c.behind-store.view_is ∙ c.prime.ensures.prime in
    let read : c.deref.result.now ≡ c.args.store.now.prime = c.deref.ensures.0 ∙ own in
    let last : c.len-level.result - 1 + 1 ≡ length c.args.store.now.prime = omega (arith, c.len-level.ensures.value, ap length own, c.prime.ensures.some_level) in
    let found = subst (λ (ns : List ℕ). MatchOption c.chain_length.result (HasNoChain c.args.store.now.fan (page_of c.args.store.now) (c.len-level.result - 1) (get_or ns (c.len-level.result - 1) 0))
    (λ count. HasChain c.args.store.now.fan (page_of c.args.store.now) (c.len-level.result - 1) (get_or ns (c.len-level.result - 1) 0) count)) read c.chain_length.ensures in (
      λ never. absurd (cc never),
      λ rest. absurd (top_other c.args.store.now.fan (page_of c.args.store.now) c.args.store.now.prime (c.len-level.result - 1) c.chain_length.result c.ne.result last found c.ne.ensures c.if-ne.true rest),
    )

pub loop-level-init : goal.loop-level-init
loop-level-init c =
    let own : c.behind-store.inside.leftmost.items ≡ c.args.store.now.prime = c.behind-store.view_is ∙ c.prime.ensures.prime in
    let read : c.deref.result.now ≡ c.args.store.now.prime = c.deref.ensures.0 ∙ own in
    let last : c.len-level.result - 1 + 1 ≡ length c.args.store.now.prime = omega (arith, c.len-level.ensures.value, ap length own, c.prime.ensures.some_level) in
    let found = subst (λ (ns : List ℕ). MatchOption c.chain_length.result (HasNoChain c.args.store.now.fan (page_of c.args.store.now) (c.len-level.result - 1) (get_or ns (c.len-level.result - 1) 0))
    (λ count. HasChain c.args.store.now.fan (page_of c.args.store.now) (c.len-level.result - 1) (get_or ns (c.len-level.result - 1) 0) count)) read c.chain_length.ensures in
    let one = subst (λ (found : Option ℕ). MatchOption found (HasNoChain c.args.store.now.fan (page_of c.args.store.now) (c.len-level.result - 1) (get_or c.args.store.now.prime (c.len-level.result - 1) 0))
    (λ count. HasChain c.args.store.now.fan (page_of c.args.store.now) (c.len-level.result - 1) (get_or c.args.store.now.prime (c.len-level.result - 1) 0) count)) (top_one c.chain_length.result c.ne.result c.ne.ensures c.if-ne.false) found in
    record {
      in_range = omega (arith, last);
      levels = levels_top c.args.store.now.fan (page_of c.args.store.now) c.args.store.now.prime (c.len-level.result - 1) last one;
    }

next : (c : goal.In-Some) → LevelsFrom c.args.store.now.fan (page_of c.args.store.now) c.args.store.now.prime (c.loop-level.level - 1) (c.loop-level.count + c.in-Some.more)
next c =
    let read : c.deref-in-loop-level.result.now ≡ c.args.store.now.prime = c.deref-in-loop-level.ensures.0 ∙ c.behind-store.view_is ∙ c.prime.ensures.prime in
    let read_above : c.deref-in-loop-level-2.result.now ≡ c.args.store.now.prime = c.deref-in-loop-level-2.ensures.0 ∙ c.behind-store.view_is ∙ c.prime.ensures.prime in
    let same : c.loop-level.level ≡ c.loop-level.level - 1 + 1 = omega (arith, c.loop-level-test.true) in
    let from = subst (λ (level : ℕ). LevelsFrom c.args.store.now.fan (page_of c.args.store.now) c.args.store.now.prime level c.loop-level.count) same c.loop-level.invariant.levels in
    let found = subst (λ (ns : List ℕ). HasNamedChain c.args.store.now.fan (page_of c.args.store.now) (c.loop-level.level - 1) (get_or ns (c.loop-level.level - 1) 0) (get_or c.deref-in-loop-level-2.result.now (c.loop-level.level - 1 + 1) 0) c.in-Some.more) read c.in-Some.ensures in
    let found_too = subst (λ (ns : List ℕ). HasNamedChain c.args.store.now.fan (page_of c.args.store.now) (c.loop-level.level - 1) (get_or c.args.store.now.prime (c.loop-level.level - 1) 0) (get_or ns (c.loop-level.level - 1 + 1) 0) c.in-Some.more) read_above found in
    levels_more c.args.store.now.fan (page_of c.args.store.now) c.args.store.now.prime (c.loop-level.level - 1) c.loop-level.count c.in-Some.more (omega (arith, c.loop-level.invariant.in_range, c.loop-level-test.true)) from found_too

pub overflow_add-count : goal.overflow_add-count
overflow_add-count c =
    let few = levels_count c.args.store.now.fan (page_of c.args.store.now) c.args.store.now.prime (length c.args.store.now.pages) (c.loop-level.level - 1) (c.loop-level.count + c.in-Some.more) (store_numbered c.args.store.now) (next c) in
    omega (arith, few, c.pages-pages.ensures.in_range.1, c.pages-pages.ensures.count)

pub loop-level-preserved : goal.loop-level-preserved
loop-level-preserved c = record { in_range = omega (arith, c.loop-level.invariant.in_range, c.loop-level-test.true); levels = next c }

pub returns-in-None : goal.returns-in-None
returns-in-None c =
    let read : c.deref-in-loop-level.result.now ≡ c.args.store.now.prime = c.deref-in-loop-level.ensures.0 ∙ c.behind-store.view_is ∙ c.prime.ensures.prime in
    let read_above : c.deref-in-loop-level-2.result.now ≡ c.args.store.now.prime = c.deref-in-loop-level-2.ensures.0 ∙ c.behind-store.view_is ∙ c.prime.ensures.prime in
    let none = subst (λ (ns : List ℕ). HasNoNamedChain c.args.store.now.fan (page_of c.args.store.now) (c.loop-level.level - 1) (get_or ns (c.loop-level.level - 1) 0) (get_or c.deref-in-loop-level-2.result.now (c.loop-level.level - 1 + 1) 0)) read c.in-None.ensures in
    let none_too = subst (λ (ns : List ℕ). HasNoNamedChain c.args.store.now.fan (page_of c.args.store.now) (c.loop-level.level - 1) (get_or c.args.store.now.prime (c.loop-level.level - 1) 0) (get_or ns (c.loop-level.level - 1 + 1) 0)) read_above none in
    let inside : c.loop-level.level - 1 + 1 < length c.args.store.now.prime = omega (arith, c.loop-level.invariant.in_range, c.loop-level-test.true) in
    (λ never. absurd (cc never), λ rest. absurd (rest_named c.args.store.now.fan (page_of c.args.store.now) c.args.store.now.prime (c.loop-level.level - 1) inside rest none_too))

pub returns : goal.returns
returns c =
    let same : c.loop-level.level ≡ 0 = omega (arith, c.loop-level-test.false) in
    let from = subst (λ (level : ℕ). LevelsFrom c.args.store.now.fan (page_of c.args.store.now) c.args.store.now.prime level c.loop-level.count) same c.loop-level.invariant.levels in (
      λ equal. levels_whole c.args.store.now.fan (page_of c.args.store.now) c.args.store.now.prime (length c.args.store.now.pages) c.loop-level.count (store_numbered c.args.store.now) from (eqb-true _ _ equal ∙ c.pages-pages.ensures.count),
      λ rest. eq-eqb _ _ (rest_whole c.args.store.now.fan (page_of c.args.store.now) c.args.store.now.prime (length c.args.store.now.pages) c.loop-level.count (store_numbered c.args.store.now) from rest ∙ sym c.pages-pages.ensures.count),
    )
