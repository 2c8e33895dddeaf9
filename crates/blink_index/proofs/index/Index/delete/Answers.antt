use Rattle.std.proofs.Common.{◌≡◌, ℕ, Option, Some, None, is_some, cond, ◌∙◌, ap, sym, subst, arith}
use mir.Val.{bool_byte}
use Rattle.blink_operation.specs.{IsAscending}
use Rattle.blink_store.specs.{PlainStore}
use Rattle.blink_entries.specs.Index.{map_of}
use Rattle.blink_index.proofs.CountsOfMaps.{deletion_counts}
use Rattle.blink_index.proofs.index.Index.delete.Goals as goal

-- one entry fewer, if the key was there
one_if_some : (kept : Option ℕ) (gone : ℕ) → gone ≡ bool_byte (is_some kept) → gone ≡ cond (is_some kept) 1 0
one_if_some None gone is = is
one_if_some (Some pointer) gone is = is

pub invariant_of-self : goal.invariant_of-self
invariant_of-self c =
    let ascending : IsAscending (map_of c.self.inside.rest) = subst (λ (store : PlainStore). IsAscending (map_of store)) (sym c.self.view_is) c.rest-rest.ensures.map.ascending in
    let fewer = deletion_counts c.self.inside.rest c.take-kept.new.rest c.args.key c.take-kept.result ascending c.take-kept.ensures.edited in
    let gone : c.from.result ≡ cond (is_some c.take-kept.result) 1 0 = one_if_some c.take-kept.result c.from.result (c.from.ensures ∙ ap bool_byte c.is_some.ensures) in
    omega (arith, fewer, gone, c.self.invariant)
