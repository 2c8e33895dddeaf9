use Rattle.std.proofs.Common.{◌≡◌, ℕ, suc, length, subst, arith}
use Rattle.blink_store.specs.{WritesPage}
use Rattle.blink_store.proofs.Offered.{pages-add}
use Rattle.blink_live.proofs.close.add.Goals as goal

pub returns-in-Ok-clause-pages : goal.returns-in-Ok-clause-pages
returns-in-Ok-clause-pages c =
    let next : c.in-Ok.field-0 ≡ suc (length c.args.store.now.pages) = omega (arith, c.in-Ok.ensures.number) in
    pages-add c.args.store.now c.add.new.self c.args.page
    (subst (λ (n : ℕ). WritesPage c.args.store.now c.add.new.self n c.args.page) next c.in-Ok.ensures.written)
