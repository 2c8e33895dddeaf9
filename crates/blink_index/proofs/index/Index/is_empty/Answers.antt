use Rattle.std.proofs.Common.{◌≡◌, List, [], ◌∷◌, length, eq-eqb, eqb-true, refl, sym, ap, ◌∙◌, arith}
use Rattle.blink_operation.specs.declared.Entry.{Entry}
use Rattle.blink_store.specs.{PlainStore}
use Rattle.blink_entries.specs.Index.{map_of}
use Rattle.blink_index.proofs.index.Index.is_empty.Goals as goal

none : (entries : List Entry) → length entries ≡ 0 → entries ≡ []
none [] no_length = refl
none (e ∷ es) no_length = absurd (omega (arith, no_length))

pub returns : goal.returns
returns c =
    let counted : c.self.inside.count ≡ length (map_of c.args.self.now) = c.self.invariant ∙ ap (λ (store : PlainStore). length (map_of store)) c.self.view_is in
    (λ zero. none (map_of c.args.self.now) (sym counted ∙ eqb-true c.self.inside.count 0 zero), λ empty. eq-eqb c.self.inside.count 0 (counted ∙ ap length empty))
