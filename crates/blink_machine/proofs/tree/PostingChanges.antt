-- A separator is posted to an inner page.
use Rattle.std.proofs.Common.{◌≡◌, ◌≢◌, ℕ, ◌+◌, leb, Option, Some, None, is_some, List, [], ◌∷◌, inl, inr, ap, ◌∙◌, arith, append-nil}
use Rattle.std.proofs.lemmas.Bool.{cases_eq, cond_both}
use Rattle.blink_page.specs.{value_at, posted, IsKeyOf}
use Rattle.blink_page.specs.declared.limits.TheConstants.{GREATEST_KEY}
use Rattle.blink_page.proofs.Offered.{others_there, posted_there}
use Rattle.blink_rest.specs.{Pages, entries_along, Refers, BeginsAt, IsHighKey}
use Rattle.blink_rest.specs.Chain.{Cell}
use Rattle.blink_rest.proofs.Offered.{chain_covers}
use Rattle.blink_machine.specs.Tree.{IsTree}
use Rattle.blink_machine.specs.TreeWithDebts.{Levels}
use Rattle.blink_machine.proofs.tree.TreeStatements.{GainsSeparator, PostingKeeps}
use Rattle.blink_machine.proofs.tree.WherePagesStand.{Stands, stands_so}
use Rattle.blink_machine.proofs.tree.PageGivesWay.{cells_after, levels_after, levels_after-same, levels_after-other}
use Rattle.blink_machine.proofs.tree.EntriesAcross.{posted_across}
use Rattle.blink_machine.proofs.tree.PageReplaced.{is_replaced}

-- a posted high key, with the page that begins there, leads below like the rest
pub refers_posted : (lower : List Cell) (key child : ℕ) → IsHighKey lower key → BeginsAt lower child (Some key)
    → (floor : Option ℕ) (entries : List (ℕ × ℕ)) → Refers lower floor entries → Refers lower floor (posted (key, child) entries)
refers_posted lower key child high begins floor [] refers = tt
refers_posted lower key child high begins floor ((separator, old) ∷ rest) refers =
    cond_both (leb key separator) _ _ (Refers lower floor)
    (λ first. (high, refers.1, (refers.0, begins, refers.2)))
    (λ later. (refers.0, refers.1, refers_posted lower key child high begins (Some separator) rest refers.2))

module _ (fan : ℕ) (prime : List ℕ) (pages : Pages) (levels : Levels) (level : ℕ) (c : Cell) (tree : IsTree fan prime pages levels)
    (here : Stands fan prime pages levels (level + 1) c) (middle : List Cell) (key child : ℕ) (belongs : IsKeyOf c.page key)
    (same : entries_along middle ≡ posted (key, child) c.page.entries) where
  -- the entries of the level, with the posted one
  level_posted : entries_along (levels_after here middle (level + 1)) ≡ posted (key, child) (entries_along (levels (level + 1)))
  level_posted = ap entries_along (levels_after-same here middle) ∙ posted_across fan prime pages levels (level + 1) c here middle key belongs child (omega arith) same

  -- they lead below
  pub posted_refers : IsHighKey (levels level) key → BeginsAt (levels level) child (Some key) → (below : ℕ) → below + 1 ≡ level + 1 → Refers (levels below) None (entries_along (cells_after here middle))
  posted_refers high begins below next =
      let is : below ≡ level = omega arith in
      rw (is, posted_across fan prime pages levels (level + 1) c here middle key belongs child (omega arith) same)
      (refers_posted (levels level) key child high begins None (entries_along (levels (level + 1))) (tree.refers level))

  -- and each level has the separators that it had, and this one the posted one
  pub gains_separator : GainsSeparator levels (levels_after here middle) level key
  gains_separator =
      let covers = chain_covers fan (level + 1) here.leftmost pages (levels (level + 1)) (tree.chains.named (level + 1) here.leftmost here.is_leftmost) (omega arith) in
      let greatest = here.lawful.high_in_range in
      let below = belongs.1 in
      record {
        is_there = rw level_posted (posted_there key child 0 (entries_along (levels (level + 1))) (GREATEST_KEY + 1) covers (omega arith) (omega arith));
        others_same = λ other k apart. elim (cases_eq other level) [
          | inl is ↦ rw (is, level_posted) (others_there key child k (entries_along (levels (level + 1))) apart)
          | inr far ↦ (let away : other + 1 ≢ level + 1 = omega arith in ap (λ (cells : List Cell). is_some (value_at k (entries_along cells))) (levels_after-other here middle (other + 1) away))
        ];
        levels_same = λ other k far. (let away : other + 1 ≢ level + 1 = omega arith in ap (λ (cells : List Cell). value_at k (entries_along cells)) (levels_after-other here middle (other + 1) away));
      }

  -- the entries of the leaves are as they were
  pub leaves_same : entries_along (levels_after here middle 0) ≡ entries_along (levels 0)
  leaves_same = let away : 0 ≢ level + 1 = omega arith in ap entries_along (levels_after-other here middle 0 away)

-- one more separator in an inner page is one more in its level
pub posting_keeps : PostingKeeps
posting_keeps fan prime pages after levels level c page entry tree stands writes replaces belongs absent entries leads =
    let here = stands_so fan prime pages levels tree (level + 1) c stands in
    let now : List Cell = record { number = c.number; page = page } ∷ [] in
    let own : entries_along now ≡ posted entry c.page.entries = append-nil page.entries ∙ entries in
    record {
      new = levels_after here now;
      replaced = is_replaced fan prime pages after levels (level + 1) c page tree here writes replaces
          (posted_refers fan prime pages levels level c tree here now entry.0 entry.1 belongs own leads.is_high_key leads.begins);
      separators = gains_separator fan prime pages levels level c tree here now entry.0 entry.1 belongs own;
      same_entries = leaves_same fan prime pages levels level c tree here now entry.0 entry.1 belongs own;
    }
