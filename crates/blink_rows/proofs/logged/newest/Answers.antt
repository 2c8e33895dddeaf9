use Rattle.std.proofs.Common.{◌≡◌, ℕ, ◌+◌, ◌-◌, ◌*◌, suc, ◌++◌, ◌∷◌, List, length, get_or, sym, ap, ◌∙◌, subst, arith}
use Rattle.blink_page.specs.{PlainPage}
use Rattle.blink_page.specs.declared.limits.TheConstants.{MAX_FAN}
use Rattle.blink_rows.specs.declared.limits.TheConstants.{HEAD_WORDS}
use Rattle.blink_rows.specs.declared.log.Record.{Record}
use Rattle.blink_rows.specs.declared.naming.Records.{Records}
use Rattle.blink_rows.specs.Log.{BeginsWith, IsLoggedRow, counted, pointer_after, row_words}
use Rattle.blink_rows.proofs.LogContent.{HasNext, IsLeft, next_left, next_says, none_left, passes_next}
use Rattle.blink_rows.proofs.LogWords.{read_record}
use Rattle.blink_rows.proofs.logged.newest.Goals as goal

-- the words that are read are the next record's
read : (page : PlainPage) (log : List Record) (words : List ℕ) (told : Records) (key base left : ℕ) → IsLoggedRow page log words told → base ≡ length page.entries → (next : HasNext key log left)
    → (get_or words (HEAD_WORDS + 2 * (base + left)) 0 ≡ next.r.key) × (get_or words (HEAD_WORDS + 2 * (base + left) + 1) 0 ≡ next.r.pointer)
read page log words told key base left row count next =
    read_record page next.older next.r next.newer words (subst (λ (l : List Record). BeginsWith words (row_words page l)) next.whole row.begins) (HEAD_WORDS + 2 * (base + left)) (let many = next.many in omega (arith, many, count))

pub loop-left-preserved : goal.loop-left-preserved
loop-left-preserved c page log row count =
    let left = c.loop-left.left - 1 in
    let more : c.loop-left.left ≡ suc left = omega (arith, c.loop-left-test.true) in
    let next = next_left c.args.key log left (subst (IsLeft c.args.key log) more (c.loop-left.invariant page log row count)) in
    let words = read page log c.args.words.now c.args.records c.args.key c.args.base left row count next in
    passes_next c.args.key log left next (λ same. c.if-record-key.false (c.record_at-record.ensures.words.0 ∙ (words.0 ∙ same)))

pub returns-then-record-key-clause-some : goal.returns-then-record-key-clause-some
returns-then-record-key-clause-some c page log row count =
    let left = c.loop-left.left - 1 in
    let more : c.loop-left.left ≡ suc left = omega (arith, c.loop-left-test.true) in
    let next = next_left c.args.key log left (subst (IsLeft c.args.key log) more (c.loop-left.invariant page log row count)) in
    let words = read page log c.args.words.now c.args.records c.args.key c.args.base left row count next in
    let key : c.record_at-record.result.key ≡ next.r.key = c.record_at-record.ensures.words.0 ∙ words.0 in
    let pointer : c.record_at-record.result.pointer ≡ next.r.pointer = c.record_at-record.ensures.words.1 ∙ words.1 in
    let counts : counted (next.older ++ next.r ∷ next.newer) ≡ c.args.records = subst (λ (l : List Record). counted l ≡ c.args.records) next.whole row.counts in
    let kind : c.record_at-record.result.kind ≡ next.r.kind = c.record_at-record.ensures.kind next.older next.r next.newer counts next.many in
    let same : c.record_at-record.result ≡ next.r = λ i. record { kind = kind i; key = key i; pointer = pointer i } in
    next_says MAX_FAN page c.args.key log left row.logged.lawful row.logged.all_fit next (sym key ∙ c.if-record-key.true) ∙ ap pointer_after (sym same)

pub returns-clause-none : goal.returns-clause-none
returns-clause-none c page log row count =
    let none : c.loop-left.left ≡ 0 = omega (arith, c.loop-left-test.false) in
    none_left c.args.key page.entries log (subst (IsLeft c.args.key log) none (c.loop-left.invariant page log row count))
