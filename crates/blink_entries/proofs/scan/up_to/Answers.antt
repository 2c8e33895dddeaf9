use Rattle.std.proofs.Common.{◌≡◌, ◌<◌, ◌++◌, ℕ, List, length, append-nil, ap, sym, ◌∙◌, arith}
use Rattle.blink_operation.specs.declared.Entry.{Entry}
use Rattle.blink_rest.specs.{entries_from}
use Rattle.blink_entries.specs.Scan.{entries_after, entries_to}
use Rattle.blink_entries.proofs.StretchOfScan.{ends_in, goes_on}
use Rattle.blink_entries.proofs.WhereLinksLead.{no_link, no_link_no_entry}
use Rattle.blink_entries.proofs.packed.EntriesOfScan.{length-entries_from}
use Rattle.blink_entries.proofs.scan.up_to.Goals as goal

pub returns-then-part-entries-clause-entries : goal.returns-then-part-entries-clause-entries
returns-then-part-entries-clause-entries c store =
    let part = c.not_above-part.ensures.entries in
    let long = length-entries_from c.not_above-part.result.now in
    let fewer : length (entries_to c.args.hi c.args.entries.now) < length c.args.entries.now = omega (arith, c.if-part-entries.true, long, ap length part) in
    ends_in c.args.hi c.args.entries.now (entries_after store c.args.link) fewer ∙ (sym part
    ∙ (sym (append-nil (entries_from c.not_above-part.result.now)) ∙ ap (λ (es : List (ℕ × ℕ)). entries_from c.not_above-part.result.now ++ entries_to c.args.hi es) (sym (no_link_no_entry store))))

pub returns-then-part-entries-clause-link : goal.returns-then-part-entries-clause-link
returns-then-part-entries-clause-link c store is = no_link store

pub returns-else-part-entries-clause-entries : goal.returns-else-part-entries-clause-entries
returns-else-part-entries-clause-entries c store =
    let part = c.not_above-part.ensures.entries in
    let long = length-entries_from c.not_above-part.result.now in
    let all : length (entries_to c.args.hi c.args.entries.now) ≡ length c.args.entries.now = omega (arith, c.if-part-entries.false, long, ap length part, c.not_above-part.ensures.no_more) in
    goes_on c.args.hi c.args.entries.now (entries_after store c.args.link) all ∙ ap (λ (es : List Entry). es ++ entries_to c.args.hi (entries_after store c.args.link)) (sym part)
