use Rattle.std.proofs.Common.{◌≡◌, ◌+◌, ◌*◌, ◌++◌, ◌∷◌, [], ◌∙◌, ap, take, get_or, length, arith}
use Rattle.std.proofs.lemmas.List.{length_push}
use Rattle.blink_rows.specs.Row.{flat}
use Rattle.blink_rows.proofs.EntriesAsWords.{flat-append, take_two_more}
use Rattle.blink_rows.proofs.LawfulParts.{values_push}
use Rattle.blink_rows.proofs.pages.entries_of.Goals as goal

pub loop-i-preserved : goal.loop-i-preserved
loop-i-preserved c =
    let before = c.loop-i.entries.items in
    let key = get_or c.args.words.now (2 * c.loop-i.i) 0 in
    let value = get_or c.args.words.now (2 * c.loop-i.i + 1) 0 in
    let pushed : c.push.new.self.items ≡ before ++ (key, value) ∷ [] = c.push.ensures.items in
    let grown : flat (before ++ (key, value) ∷ []) ≡ take (2 * (c.loop-i.i + 1)) c.args.words.now =
    flat-append before ((key, value) ∷ []) ∙ ap (λ ws. ws ++ key ∷ value ∷ []) c.loop-i.invariant.read ∙ take_two_more c.args.words.now c.loop-i.i (omega arith) in
    record {
      read = ap flat pushed ∙ grown;
      count = omega (arith, ap length pushed, length_push before (key, value));
      values = rw pushed (values_push _ _ before key value c.loop-i.invariant.values (omega arith) (omega (arith, c.type_inv.words (2 * c.loop-i.i + 1))));
    }
