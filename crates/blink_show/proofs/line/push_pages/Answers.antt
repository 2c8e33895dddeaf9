use Rattle.std.proofs.Common.{◌≡◌, ◌+◌, List, Option, Some, ℕ, subst, arith}
use Rattle.blink_store.specs.{holder_of, PlainStore, page_of}
use Rattle.blink_show.specs.Lines.{line_of_number}
use Rattle.blink_show.proofs.OneMore.{line_more}
use Rattle.blink_show.proofs.line.push_pages.Goals as goal

pub loop-before-preserved : goal.loop-before-preserved
loop-before-preserved c =
    let shared = c.args.world.now.run.shared in
    let number = c.loop-before.before + 1 in
    let its_page : page_of shared.store number ≡ Some c.read.result.now = subst (λ (store : PlainStore). page_of store number ≡ Some c.read.result.now) c.store-store.ensures.store c.read.ensures.page in
    let its_holder : c.holder-holder.result ≡ holder_of shared.latches number = subst (λ (latches : List (Option ℕ)). c.holder-holder.result ≡ holder_of latches number) c.latches.ensures c.holder-holder.ensures.holder in
    line_more (line_of_number shared) c.args.lines.now.items c.loop-before.lines.items c.push.new.self.items c.in_ok-page_line.field-0 1 c.loop-before.before number (omega arith) c.loop-before.invariant c.in_ok-push.ensures.items
    (rw (its_page, ← its_holder) c.in_ok-page_line.ensures)
