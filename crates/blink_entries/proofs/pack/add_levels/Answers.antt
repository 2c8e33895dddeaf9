use Rattle.std.proofs.Common.{◌≡◌, ◌+◌, ◌-◌, ◌++◌, ℕ, List, [], ◌∷◌, suc, length, drop, ap, sym, subst, ◌∙◌, arith}
use Rattle.blink_entries.specs.Packing.{IsWhole, entries_in}
use Rattle.blink_entries.proofs.packed.TreeIsBuilt.{IsUnderWay, at_leaves, few_levels, next_number, numbers_over, one_level_more, top_count, top_whole}
use Rattle.blink_entries.proofs.pack.add_levels.Goals as goal

pub levels-init : goal.levels-init
levels-init c = record {
  so_far = subst (λ (ns : List ℕ). IsUnderWay c.args.fan ns c.args.pages.now.items (entries_in c.args.pages.now.items) (length c.args.pages.now.items) 0 0) (sym c.new-prime.ensures)
      (at_leaves c.args.fan c.args.pages.now.items c.requires.leaves);
}

pub overflow_add-level : goal.overflow_add-level
overflow_add-level c =
    let few = few_levels c.args.fan c.levels.prime c.levels.pages.items (entries_in c.args.pages.now.items) (length c.args.pages.now.items) c.levels.level c.levels.first c.levels.invariant.so_far c.requires.numbers
    (omega (arith, c.levels-test.true, c.len.ensures)) in
    omega (arith, few)

pub add_level-requires-clause-level : goal.add_level-requires-clause-level
add_level-requires-clause-level c =
    let few = few_levels c.args.fan c.levels.prime c.levels.pages.items (entries_in c.args.pages.now.items) (length c.args.pages.now.items) c.levels.level c.levels.first c.levels.invariant.so_far c.requires.numbers
    (omega (arith, c.levels-test.true, c.len.ensures)) in
    (omega arith, omega (arith, few))

pub add_level-requires-clause-below : goal.add_level-requires-clause-below
add_level-requires-clause-below c =
    let same : c.levels.level ≡ c.levels.level + 1 - 1 = omega arith in
    subst (λ (n : ℕ). IsWhole c.args.fan n (c.levels.first + 1) (drop c.levels.first c.levels.pages.items)) same
    (top_whole c.args.fan c.levels.prime c.levels.pages.items (entries_in c.args.pages.now.items) (length c.args.pages.now.items) c.levels.level c.levels.first c.levels.invariant.so_far)

pub add_level-requires-clause-numbers : goal.add_level-requires-clause-numbers
add_level-requires-clause-numbers c =
    numbers_over c.args.fan c.levels.prime c.levels.pages.items (entries_in c.args.pages.now.items) (length c.args.pages.now.items) c.levels.level c.levels.first c.levels.invariant.so_far c.requires.numbers
    (omega (arith, c.levels-test.true, c.len.ensures))

pub grow-requires-clause-room : goal.grow-requires-clause-room
grow-requires-clause-room c =
    let few = few_levels c.args.fan c.levels.prime c.levels.pages.items (entries_in c.args.pages.now.items) (length c.args.pages.now.items) c.levels.level c.levels.first c.levels.invariant.so_far c.requires.numbers
    (omega (arith, c.levels-test.true, c.len.ensures)) in
    let named = c.levels.invariant.so_far.named in
    omega (arith, few, named)

pub grow-requires-clause-page_number : goal.grow-requires-clause-page_number
grow-requires-clause-page_number c =
    let has = numbers_over c.args.fan c.levels.prime c.levels.pages.items (entries_in c.args.pages.now.items) (length c.args.pages.now.items) c.levels.level c.levels.first c.levels.invariant.so_far c.requires.numbers
    (omega (arith, c.levels-test.true, c.len.ensures)) in
    let top = top_count c.args.fan c.levels.prime c.levels.pages.items (entries_in c.args.pages.now.items) (length c.args.pages.now.items) c.levels.level c.levels.first c.levels.invariant.so_far in
    let number = next_number c.args.fan c.levels.first c.levels.pages.items has (omega (arith, top, c.levels-test.true, c.len.ensures)) in
    (omega arith, omega (arith, number, c.len-next.ensures))

pub levels-preserved : goal.levels-preserved
levels-preserved c =
    let pages = c.levels.pages.items in
    let count : length pages ≡ c.len-next.result = omega (arith, c.len-next.ensures) in
    let next : suc (length pages) ≡ c.len-next.result + 1 = omega (arith, count) in
    let prime : c.levels.prime ++ suc (length pages) ∷ [] ≡ c.grow.new.self = ap (λ (n : ℕ). c.levels.prime ++ n ∷ []) next ∙ sym c.grow.ensures in
    record {
      so_far = subst (λ (n : ℕ). IsUnderWay c.args.fan c.grow.new.self c.add_level.new.pages.items (entries_in c.args.pages.now.items) (length c.args.pages.now.items) (c.levels.level + 1) n) count
          (subst (λ (ns : List ℕ). IsUnderWay c.args.fan ns c.add_level.new.pages.items (entries_in c.args.pages.now.items) (length c.args.pages.now.items) (c.levels.level + 1) (length pages)) prime
          (one_level_more c.args.fan c.levels.prime pages (entries_in c.args.pages.now.items) (length c.args.pages.now.items) c.levels.level c.levels.first c.levels.invariant.so_far c.add_level.new.pages.items c.in_ok-add_level.ensures.added));
    }
