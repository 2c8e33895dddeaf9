use Rattle.std.proofs.Common.{◌≡◌, ◌≤◌, ◌∙◌, List, sym, subst, ap, arith}
use Rattle.blink_operation.specs.declared.Op.TheVariants.{Insert}
use Rattle.blink_operation.specs.{answer_at, answer_of}
use Rattle.blink_page.specs.{PlainPage}
use Rattle.blink_page.specs.declared.limits.TheConstants.{GREATEST_KEY}
use Rattle.blink_rest.specs.{IsStoreAtRest}
use Rattle.blink_store.specs.{PlainStore}
use Rattle.blink_entries.specs.Index.{store_of}
use Rattle.blink_index.specs.Edit.{IsEdited}
use Rattle.blink_entries.specs.Index.{map_of}
use Rattle.blink_entries.proofs.Offered.{the_map_is_kept}
use Rattle.blink_index.proofs.alone.EditsOfLeaves.{absent_if_split}
use Rattle.blink_index.proofs.edit.split.Goals as goal

pub invariant_of-rest : goal.invariant_of-rest
invariant_of-rest c =
    let same : store_of c.store.inside.fan c.store.inside.prime c.reserve.new.self.items ≡ c.rest.inside.store = ap (λ (pages : List PlainPage). store_of c.store.inside.fan c.store.inside.prime pages) c.reserve.ensures.items ∙ c.store.view_is in
    subst IsStoreAtRest (sym same) c.rest.invariant

pub run-requires-clause-at_rest : goal.run-requires-clause-at_rest
run-requires-clause-at_rest c =
    let same : store_of c.store.inside.fan c.store.inside.prime c.reserve.new.self.items ≡ c.rest.inside.store = ap (λ (pages : List PlainPage). store_of c.store.inside.fan c.store.inside.prime pages) c.reserve.ensures.items ∙ c.store.view_is in
    subst IsStoreAtRest (sym same) c.rest.invariant

pub returns-then-is_err-clause-kept : goal.returns-then-is_err-clause-kept
returns-then-is_err-clause-kept c =
    let same : store_of c.store.inside.fan c.store.inside.prime c.reserve.new.self.items ≡ c.rest.inside.store = ap (λ (pages : List PlainPage). store_of c.store.inside.fan c.store.inside.prime pages) c.reserve.ensures.items ∙ c.store.view_is in
    the_map_is_kept (store_of c.store.inside.fan c.store.inside.prime c.reserve.new.self.items) (subst IsStoreAtRest (sym same) c.rest.invariant)

pub returns-clause-added : goal.returns-clause-added
returns-clause-added c =
    let key = c.args.key in
    let after = store_of c.store.inside.fan c.run.new.prime c.run.new.pages.items in
    let same : store_of c.store.inside.fan c.store.inside.prime c.reserve.new.self.items ≡ c.args.rest.now =
    ap (λ (pages : List PlainPage). store_of c.store.inside.fan c.store.inside.prime pages) c.reserve.ensures.items ∙ c.store.view_is ∙ c.rest.view_is in
    let in_range : key ≤ GREATEST_KEY = omega (arith, c.ranges.key.fits) in
    let at_rest = subst IsStoreAtRest c.rest.view_is c.rest.invariant in
    let edited = subst (λ (s : PlainStore). IsEdited s after (Insert key c.args.pointer) (answer_of (map_of s) (Insert key c.args.pointer))) same c.run.ensures.edited in
    let absent = absent_if_split c.args.rest.now key at_rest in_range c.requires.splits in
    subst (IsEdited c.args.rest.now after (Insert key c.args.pointer)) (ap (answer_at (Insert key c.args.pointer)) absent) edited
