use Rattle.std.proofs.Common.{◌≡◌, ℕ, List, length, arith, subst}
use Rattle.blink_rows.specs.{IsPrimeRow}
use Rattle.blink_live.proofs.opened.RowsAreLaid.{IsLaidTo, prime_is_laid, page_is_laid, all_is_laid}
use Rattle.blink_live.proofs.open.lay_tree.Goals as goal

pub loop-before-init : goal.loop-before-init
loop-before-init c =
    prime_is_laid c.args.counts.now c.args.store.now c.args.words.now c.lay_row.new.words c.prime_row.result c.requires.blank (omega arith)
    c.lay_row.ensures (subst (λ (prime : List ℕ). IsPrimeRow prime c.prime_row.result) c.prime.ensures.prime c.prime_row.ensures)

pub loop-before-preserved : goal.loop-before-preserved
loop-before-preserved c =
    page_is_laid c.args.counts.now c.args.store.now c.loop-before.before c.loop-before.words c.lay_row-in-loop-before.new.words c.page_row.result c.read.result.now
    c.loop-before.invariant (omega arith) c.read.ensures.page c.lay_row-in-loop-before.ensures c.page_row.ensures

pub returns : goal.returns
returns c =
    let all : c.loop-before.before ≡ length c.args.store.now.pages = omega arith in
    all_is_laid c.args.counts.now c.args.store.now c.loop-before.words (subst (λ (count : ℕ). IsLaidTo c.args.counts.now c.args.store.now count c.loop-before.words) all c.loop-before.invariant)
