use Rattle.std.proofs.Common.{◌≡◌, ℕ, ◌+◌, ◌*◌, true, List, [], length, count_by, inl, inr, ap, sym, subst, arith}
use Rattle.std.proofs.lemmas.Bool.{cases_lt}
use Rattle.blink_batch.specs.{is_insert}
use Rattle.blink_page.specs.declared.limits.TheConstants.{MAX_PAGE}
use Rattle.blink_store.specs.{PlainStore}
use Rattle.blink_steps.specs.World.{IsWorldOf, MayBegin}
use Rattle.blink_steps.proofs.worlds.WorldsGoFurther.{begins}
use Rattle.blink_steps.proofs.worlds.WorldPromises.{promises}
use Rattle.blink_steps.proofs.world.World.start.Goals as goal

may_begin : (c : goal.After-new-in-Ok) → MayBegin c.args.rest c.args.batch c.args.lanes
may_begin c = record {
  lawful_store = c.store-tree.ensures.lawful;
  at_rest = c.store-tree.ensures.at_rest;
  words = c.ops-words.ensures.words;
  lanes = c.lanes-allowed.ensures.workers;
  a_lane_each = c.requires.a_lane_each;
  numbers_suffice = elim (cases_lt MAX_PAGE (length c.args.rest.pages + 22 * count_by is_insert c.args.batch)) [
    | inl above ↦ (let too_large : c.exceeds_page_limit.result ≡ true = c.exceeds_page_limit.ensures.1 (omega (arith, above, c.pages.ensures.count, ap (λ (s : PlainStore). length s.pages) c.store-tree.ensures.store, c.inserts.ensures)) in let not = c.if-exceeds_page_limit.false in absurd (cc))
    | inr fits ↦ fits
  ];
}

is_world : (c : goal.After-new-in-Ok) → IsWorldOf c.args.rest (record { run = c.in-Ok.run'; schedule = [] })
is_world c = begins c.args.rest c.args.batch c.args.lanes c.in-Ok.run' (may_begin c) (rw (sym c.into_store.ensures) c.in-Ok.ensures)

pub invariant_of-result : goal.invariant_of-result
invariant_of-result c = (c.args.rest, subst (λ (xs : List ℕ). IsWorldOf c.args.rest (record { run = c.in-Ok.run'; schedule = xs })) (sym c.new-in-Ok.ensures.items) (is_world c))

pub returns-in-Ok-clause-promised : goal.returns-in-Ok-clause-promised
returns-in-Ok-clause-promised c start is_world = promises start _ is_world
