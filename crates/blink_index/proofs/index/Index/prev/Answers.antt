use Rattle.std.proofs.Common.{ℕ, sym, ap, ◌∙◌}
use Rattle.std.specs.Prelude.{filter}
use Rattle.blink_entries.specs.Index.{map_of}
use Rattle.blink_index.specs.Ends.{is_below, last_of}
use Rattle.blink_index.proofs.EndsOfMaps.{none_below_least}
use Rattle.blink_index.proofs.index.Index.prev.Goals as goal

pub returns-then-key-eq0 : goal.returns-then-key-eq0
returns-then-key-eq0 c =
    sym (ap (λ (key : ℕ). last_of (filter (is_below key) (map_of c.args.self.now))) c.if-key-eq0.true ∙ ap last_of (none_below_least (map_of c.args.self.now)))
