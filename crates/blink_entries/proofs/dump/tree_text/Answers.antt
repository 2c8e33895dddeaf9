use Rattle.std.proofs.Common.{◌≡◌, ◌+◌, ◌-◌, ◌<◌, ◌++◌, ℕ, Some, List, length, get_or, string_bytes, ap, sym, subst, ◌∙◌, arith}
use Rattle.blink_entries.specs.Dump.{level_text}
use Rattle.blink_entries.specs.Index.{cells_of}
use Rattle.blink_entries.specs.Scan.{IsLinkOf}
use Rattle.blink_entries.proofs.LevelsAsLines.{IsTextDownTo, text_of_none, text_of_more, level_link}
use Rattle.blink_entries.proofs.dump.tree_text.Goals as goal
use Rattle.blink_entries.proofs.dump.tree_text.Goals.{After-deref}

pub loop-level-init : goal.loop-level-init
loop-level-init c =
    let own : c.behind-store.inside.leftmost.items ≡ c.args.store.now.prime = c.behind-store.view_is ∙ c.prime.ensures.prime in
    let count : c.len-level.result ≡ length c.args.store.now.prime = c.len-level.ensures.value ∙ ap length own in
    record {
      in_range = omega (arith, count);
      written = subst (IsTextDownTo c.args.store.now c.len-level.result) (sym c.new-text.ensures.bytes) (text_of_none c.args.store.now c.len-level.result count);
    }

pub push_level-requires : goal.push_level-requires
push_level-requires c =
    let read : c.deref.result.now ≡ c.args.store.now.prime = c.deref.ensures.0 ∙ c.behind-store.view_is ∙ c.prime.ensures.prime in
    let inside : c.loop-level.level - 1 < length c.args.store.now.prime = omega (arith, c.loop-level-test.true, c.loop-level.invariant.in_range) in
    subst (λ (ns : List ℕ). IsLinkOf c.args.store.now (Some (get_or ns (c.loop-level.level - 1) 0))) (sym read)
    (level_link c.args.store.now (c.loop-level.level - 1) inside c.requires)

-- the level's lines come after those of the levels above it
pub loop-level-preserved : goal.loop-level-preserved
loop-level-preserved c =
    let read : c.deref.result.now ≡ c.args.store.now.prime = c.deref.ensures.0 ∙ c.behind-store.view_is ∙ c.prime.ensures.prime in
    let level = c.loop-level.level - 1 in
    let inside : level < length c.args.store.now.prime = omega (arith, c.loop-level-test.true, c.loop-level.invariant.in_range) in
    let same : c.loop-level.level ≡ level + 1 = omega (arith, c.loop-level-test.true) in
    let added : string_bytes c.push_level.new.text ≡ string_bytes c.loop-level.text ++ level_text (cells_of c.args.store.now (Some (get_or c.args.store.now.prime level 0)))
    = c.in_ok-push_level.ensures ∙ ap (λ (ns : List ℕ). string_bytes c.loop-level.text ++ level_text (cells_of c.args.store.now (Some (get_or ns level 0)))) read in
    let above = subst (λ (k : ℕ). IsTextDownTo c.args.store.now k (string_bytes c.loop-level.text)) same c.loop-level.invariant.written in
    record {
      in_range = omega (arith, inside);
      written = subst (IsTextDownTo c.args.store.now level) (sym added) (text_of_more c.args.store.now level inside (string_bytes c.loop-level.text) above);
    }
