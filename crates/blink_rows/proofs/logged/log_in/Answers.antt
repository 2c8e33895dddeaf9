use Rattle.std.proofs.Common.{◌≡◌, ◌+◌, ◌*◌, ◌<◌, ◌++◌, ◌∷◌, [], List, length, take, refl, sym, ap, ◌∙◌, subst, length-append, arith}
use Rattle.blink_rows.specs.declared.limits.TheConstants.{HEAD_WORDS, KIND_LIMIT}
use Rattle.blink_rows.specs.declared.log.Record.{Record}
use Rattle.blink_rows.specs.declared.naming.Records.{Records}
use Rattle.blink_rows.specs.Log.{BeginsWith, counted, row_words}
use Rattle.blink_rows.proofs.LogContent.{stands_at}
use Rattle.blink_rows.proofs.LogWords.{begins_more}
use Rattle.blink_rows.proofs.RecordCounts.{counts_in_range}
use Rattle.blink_rows.proofs.logged.log_in.Goals as goal

pub with-told-requires-clause-kinds : goal.with-told-requires-clause-kinds
with-told-requires-clause-kinds c =
    let invariant = c.loop-older.invariant in
    let range = counts_in_range c.loop-older.log.items (omega (arith, invariant.many, c.loop-older-test.true, c.requires.few)) in
    subst (λ (told : Records). told.kinds < KIND_LIMIT) invariant.counts range.1

pub loop-older-preserved : goal.loop-older-preserved
loop-older-preserved c =
    let invariant = c.loop-older.invariant in
    let older = c.loop-older.older in
    let log = c.loop-older.log.items in
    let r = c.record_at-record.result in
    let pushed : c.push.new.self.items ≡ log ++ r ∷ [] = c.push.ensures.items in record {
      many = ap (λ (l : List Record). length l) pushed ∙ (length-append log (r ∷ []) ∙ (let many = invariant.many in omega (arith, many)));
      counts = ap counted pushed ∙ sym (c.with-told.ensures log r invariant.counts refl);
      words = λ page begins base.
          let at : HEAD_WORDS + 2 * (c.args.base + older) ≡ HEAD_WORDS + 2 * (length page.entries + length log) = (let many = invariant.many in omega (arith, many, base)) in
          let more : BeginsWith c.args.words.now (row_words page (log ++ r ∷ [])) =
          begins_more page log r c.args.words.now (invariant.words page begins base) (HEAD_WORDS + 2 * (c.args.base + older)) at (sym c.record_at-record.ensures.words.0) (sym c.record_at-record.ensures.words.1) in
          subst (λ (l : List Record). BeginsWith c.args.words.now (row_words page l)) (sym pushed) more;
      same = λ all counts.
          let count : length all ≡ c.args.records.count = ap (λ (told : Records). told.count) counts in
          let there = stands_at all older (omega (arith, count, c.loop-older-test.true)) in
          let kind = c.record_at-record.ensures.kind (take older all) there.r there.newer (subst (λ (l : List Record). counted l ≡ c.args.records) there.whole counts) there.many in
          ap counted there.more ∙ sym (c.with-told.ensures (take older all) there.r (invariant.same all counts) (sym kind));
    }
