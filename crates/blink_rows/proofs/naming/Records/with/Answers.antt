use Rattle.std.proofs.Common.{◌≡◌, ◌+◌, ◌*◌, refl, sym, ap, ◌∙◌}
use denote.Enum.Declared.{tag_of}
use Rattle.blink_rows.specs.contracts.log.Kind.{the_type}
use Rattle.blink_rows.specs.declared.log.Kind.{Kind}
use Rattle.blink_rows.specs.declared.log.Kind.TheVariants.{Replaced, Added, Removed}
use Rattle.blink_rows.specs.declared.naming.Records.{Records}
use Rattle.blink_rows.specs.Log.{kind_number}
use Rattle.blink_rows.proofs.RecordCounts.{counted_more}
use Rattle.blink_rows.proofs.naming.Records.with.Goals as goal

-- the number that the code casts a kind to
number : (kind : Kind) → tag_of the_type kind ≡ kind_number kind
number Replaced = refl
number Added = refl
number Removed = refl

pub returns : goal.returns
returns c records r same kind =
    let count = ap (λ (t : Records). t.count) same in
    let kinds = ap (λ (t : Records). t.kinds) same in
    let its : tag_of the_type c.args.kind ≡ kind_number r.kind = number c.args.kind ∙ ap kind_number (sym kind) in
    (λ i. record { count = sym count i + 1; kinds = 4 * sym kinds i + its i }) ∙ sym (counted_more records r)
