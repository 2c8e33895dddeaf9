use Rattle.std.proofs.Common.{length, ap, sym, subst, ◌∙◌, arith}
use Rattle.std.specs.Prelude.{All}
use Rattle.blink_page.specs.{IsPageNumber}
use Rattle.blink_entries.specs.Index.{map_of}
use Rattle.blink_entries.specs.Packed.{IsInOrder}
use Rattle.blink_entries.specs.Packing.{entries_in}
use Rattle.blink_entries.proofs.packed.BuiltIsAtRest.{all_lawful, at_rest, in_order, map_is, some_page}
use Rattle.blink_entries.proofs.pack.tree_over.Goals as goal

pub invariant_of-of : goal.invariant_of-of
invariant_of-of c =
    let prime = c.in_ok-prime.prime in let pages = c.add_levels.new.pages.items in
    let tree = c.in_ok-prime.ensures.tree in
    let numbers = c.requires.numbers in
    let few = c.in_ok-prime.ensures.few numbers.above numbers.enough in
    let range = numbers.in_range in
    record {
      fan_in_range = c.requires.fan;
      some_level = let some = c.prime.invariant.0 in let same = ap length c.prime.view_is in omega (arith, some, same);
      prime_numbers = subst (All IsPageNumber) c.prime.view_is c.prime.invariant.1;
      lawful_pages = all_lawful c.args.fan prime pages (entries_in c.args.pages.items) tree;
      count_in_range = (some_page c.args.fan prime pages (entries_in c.args.pages.items) tree, omega (arith, few, range));
    }

pub of-requires : goal.of-requires
of-requires c = at_rest c.args.fan c.in_ok-prime.prime c.add_levels.new.pages.items (entries_in c.args.pages.items) c.in_ok-prime.ensures.tree

pub returns-clause-map : goal.returns-clause-map
returns-clause-map c =
    ap map_of c.of.ensures ∙ map_is c.args.fan c.in_ok-prime.prime c.add_levels.new.pages.items (entries_in c.args.pages.items) c.in_ok-prime.ensures.tree

pub returns-clause-in_order : goal.returns-clause-in_order
returns-clause-in_order c =
    subst IsInOrder (sym c.of.ensures) (in_order c.args.fan c.in_ok-prime.prime c.add_levels.new.pages.items (entries_in c.args.pages.items) c.in_ok-prime.ensures.tree)
