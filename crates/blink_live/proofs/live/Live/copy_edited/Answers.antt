use Rattle.std.proofs.Common.{◌≡◌, ℕ, ◌+◌, ◌<◌, ◌≤◌, Option, Some, None, IfSome, List, take, refl, sym, ap, ◌∙◌, subst, arith}
use Rattle.std.specs.Prelude.{slice_index}
use Rattle.blink_rows.specs.declared.naming.Records.{Records}
use Rattle.blink_live.specs.Editing.{pointers_in}
use Rattle.blink_live.specs.Scanning.{IsCopied, stop_of}
use Rattle.blink_live.proofs.found.RecordsInRow.{all_inside}
use Rattle.blink_live.proofs.found.VersionsAreRead.{base_in}
use Rattle.blink_live.proofs.scanned.LeavesOfReplacements.{version_still}
use Rattle.blink_live.proofs.scanned.PlacesAreFilled.{first_places}
use Rattle.blink_live.proofs.table.VersionsOfPages.{same_head}
use Rattle.blink_live.proofs.live.Live.copy_edited.Goals.{in-Some, in-None}
use Rattle.blink_live.proofs.live.Live.copy_edited.Goals as goal

pub edit_in-filled-requires-clause-room : goal.edit_in-filled-requires-clause-room
edit_in-filled-requires-clause-room c =
    let is = c.requires.page.1 in
    let few = c.copy_row-copied.ensures.few is.base (base_in is c.row_in.ensures.row) in
    let many = ap (λ (r : Records). r.count) is.version.counts in
    let room = all_inside is in
    let places = c.requires.room in
    let long = c.copy_row-copied.auto.into in
    omega (arith, few, many, room, places, long)

-- the row that is read tells the high key
abbrev high_word : Option (ℕ × List ℕ) → ℕ
high_word None = 0
high_word (Some x) = slice_index x.1 3

pub returns-clause-copied : goal.returns-clause-copied
returns-clause-copied c page is =
    let row = c.row_in.ensures.row in
    let lo = c.args.range.lo in
    let hi = c.args.range.hi in
    let filled = c.copy_row-copied.result.filled in
    let next = c.copy_row-copied.result.next in
    let copied = c.copy_row-copied.ensures.copied is.base (pointers_in is.base) (base_in is row) (record {
      reaches = (let reaches = c.requires.page.2 in let head = (same_head c.requires.page.1.version).high in let same : c.requires.page.1.base.high ≡ is.base.high = ap high_word (sym c.requires.page.1.reads ∙ is.reads) in omega (arith, reaches, head, same));
      states = λ other low below. refl;
    }) in
    let first : IsCopied (pointers_in is.base) lo (stop_of hi next) (take filled c.copy_row-copied.new.into) = subst (IsCopied (pointers_in is.base) lo (stop_of hi next)) (sym (first_places copied.0 c.args.leaf.now c.copy_row-copied.new.into filled copied.1 copied.2)) copied.3 in
    let stop : c.match-copied.last + 1 ≡ stop_of hi next = elim c.match-copied.branch [
      | in-Some w ↦
          let last = w.last-is in
          let further = subst (λ (o : Option ℕ). IfSome o (λ n. (lo < n) × (n ≤ hi))) w.in-Some.is c.copy_row-copied.ensures.further in
          subst (λ (o : Option ℕ). c.match-copied.last + 1 ≡ stop_of hi o) (sym w.in-Some.is) (omega (arith, last, further.0))
      | in-None w ↦ let last = w.last-is in subst (λ (o : Option ℕ). c.match-copied.last + 1 ≡ stop_of hi o) (sym w.in-None.is) (omega (arith, last))
    ] in
    subst (λ (n : ℕ). IsCopied (pointers_in page) lo n (take c.edit_in-filled.result c.edit_in-filled.new.leaf)) stop
    (c.edit_in-filled.ensures.copied page (version_still c.copy_row-copied.ensures.same.2 is) (subst (λ (n : ℕ). IsCopied (pointers_in is.base) lo n (take filled c.copy_row-copied.new.into)) (sym stop) first))
