use Rattle.std.proofs.Common.{◌≡◌, ℕ, List, Option, length, sym, ap, ◌∙◌, subst, arith}
use Rattle.atomic_table.specs.Table.{opening}
use Rattle.blink_batch.specs.declared.Entry.{Entry}
use Rattle.blink_index.specs.{map_of}
use Rattle.blink_generation.specs.{opening_of}
use Rattle.blink_map.specs.declared.slots.Current.{Current}
use Rattle.blink_map.specs.Rule.{IsGrowing, opener, word_of}
use Rattle.blink_map.proofs.SlotsOpen.{free_words, slots_open}
use Rattle.blink_map.proofs.open.table_of.Goals as goal

pub new-requires : goal.new-requires
new-requires c =
    let first : List Entry = map_of c.of.result.value in
    let laid = c.requires.laid in
    let slots : List (Option Current) = c.args.slots.items in
    let long : c.args.slots.len ≡ length slots = let ok = c.args.slots.ok in omega (arith, ok) in
    let same : opening_of laid.0 ≡ first = laid.1 ∙ ap map_of (sym c.of.ensures) in
    let words : c.deref.result.now ≡ free_words (word_of (length slots)) = c.deref.ensures.value ∙ (c.in-Ok.ensures ∙ ap (λ (n : ℕ). free_words (word_of n)) (c.len-count.ensures ∙ long)) in
    subst (λ (p : List ℕ × ℕ). IsGrowing first (opening p.0 slots (opener first p.1))) (λ i. (sym words i, sym (c.len-count.ensures ∙ long) i))
    (slots_open first laid.0 slots same laid.2 laid.3)
