use Rattle.std.proofs.Common.{◌≡◌, ◌∙◌, sym, subst}
use Rattle.std.proofs.lemmas.Iterator.{items_from_collect}
use Rattle.std.proofs.lemmas.Iterator.Consumers.{YieldsList-from_first}
use Rattle.std.proofs.lemmas.Result.{IfOk-weaker}
use Rattle.blink_rest.specs.{IsMapOf}
use Rattle.blink_entries.specs.Index.{map_of}
use Rattle.blink_entries.proofs.Offered.{scan_of_all}
use Rattle.blink_index.proofs.index.Index.entries.Goals as goal

pub returns-clause-map : goal.returns-clause-map
returns-clause-map c =
    items_from_collect c.collect.result c.collect.ensures.ran
    (YieldsList-from_first (λ x. x) (λ rest. rest) _ (c.scan.ensures.entries ∙ scan_of_all c.args.self.now c.scan.ensures.map))

-- what was collected is the map, which is kept
pub returns-clause-kept : goal.returns-clause-kept
returns-clause-kept c =
    IfOk-weaker c.collect.result (λ entries. entries.items ≡ map_of c.args.self.now) (λ entries. IsMapOf c.args.self.now entries.items)
    (λ entries same. subst (IsMapOf c.args.self.now) (sym same) c.scan.ensures.map) (returns-clause-map c)
