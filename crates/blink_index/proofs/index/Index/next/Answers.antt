use Rattle.std.proofs.Common.{ℕ, sym, ap, ◌∙◌}
use Rattle.std.specs.Prelude.{filter}
use Rattle.blink_index.specs.Ends.{first_of, is_above}
use Rattle.blink_entries.specs.Index.{map_of}
use Rattle.blink_index.proofs.EndsOfMaps.{none_above_greatest}
use Rattle.blink_index.proofs.index.Index.next.Goals as goal

pub returns-then-key-eq18446744073709551615 : goal.returns-then-key-eq18446744073709551615
returns-then-key-eq18446744073709551615 c =
    let none = none_above_greatest c.args.self.now c.rest-rest.ensures.map in
    sym (ap (λ (key : ℕ). first_of (filter (is_above key) (map_of c.args.self.now))) c.if-key-eq18446744073709551615.true ∙ ap first_of none)
