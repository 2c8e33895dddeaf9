use Rattle.std.proofs.Common.{◌≡◌, ◌++◌, ℕ, List, string_bytes, append_assoc, ap, sym, ◌∙◌}
use Rattle.blink_page.specs.{PlainPage}
use Rattle.blink_rest.specs.Chain.{Cell, cell}
use Rattle.blink_entries.specs.Dump.{line_of, level_text}
use Rattle.blink_entries.specs.Index.{cells_of}
use Rattle.blink_entries.proofs.WhereLinksLead.{link_page, leads_on}
use Rattle.blink_entries.proofs.dump.push_level.Goals as goal

pub read-page-requires : goal.read-page-requires
read-page-requires c = link_page c.args.store.now c.loop-link.link c.in-Some.number c.in-Some.is c.loop-link.invariant.is_link

pub loop-link-smaller : goal.loop-link-smaller
loop-link-smaller c =
    let on = leads_on c.args.store.now c.loop-link.link c.in-Some.number c.in-Some.is c.loop-link.invariant.is_link c.read-page.result.now c.read-page.ensures.page in
    rw (ap (λ (p : PlainPage). p.right) c.page.view_is) on.falls

-- the page's line is the first of those that were left
pub loop-link-preserved : goal.loop-link-preserved
loop-link-preserved c =
    let on = leads_on c.args.store.now c.loop-link.link c.in-Some.number c.in-Some.is c.loop-link.invariant.is_link c.read-page.result.now c.read-page.ensures.page in
    let line = line_of (cell c.in-Some.number c.read-page.result.now) in
    let rest = level_text (cells_of c.args.store.now c.read-page.result.now.right) in
    let added : string_bytes c.push_line.new.text ≡ string_bytes c.loop-link.text ++ line = c.in_ok-push_line.ensures in
    let joined : string_bytes c.push_line.new.text ++ rest ≡ string_bytes c.loop-link.text ++ level_text (cells_of c.args.store.now c.loop-link.link)
    = ap (λ (prefix : List ℕ). prefix ++ rest) added ∙ append_assoc (string_bytes c.loop-link.text) line rest
    ∙ ap (λ (cs : List Cell). string_bytes c.loop-link.text ++ level_text cs) (sym on.first) in
    rw (ap (λ (p : PlainPage). p.right) c.page.view_is) (record { is_link = on.onward; rest_is_left = joined ∙ c.loop-link.invariant.rest_is_left })
