use Rattle.std.proofs.Common.{◌<◌, ◌∙◌, List, ap, length, subst, sym}
use Rattle.blink_batch.specs.declared.Entry.{Entry}
use Rattle.blink_index.specs.{is_within, map_of}
use Rattle.blink_handles.proofs.Overlays.{few_filtered}
use Rattle.blink_handles.proofs.reads.count.Goals as goal

pub count_entries-requires : goal.count_entries-requires
count_entries-requires c =
    subst (λ (entries : List Entry). length entries < 9223372036854775808) (sym c.scan.ensures.entries)
    (few_filtered (is_within c.args.lo c.args.hi) (map_of c.args.index.now) 9223372036854775808 c.few_entries.ensures)

pub returns : goal.returns
returns c = c.count_entries.ensures ∙ ap (λ (entries : List Entry). length entries) c.scan.ensures.entries
