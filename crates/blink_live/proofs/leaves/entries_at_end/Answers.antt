use Rattle.std.proofs.Common.{◌≡◌, ◌∙◌, ℕ, List, None, Some, Result, Ok, Err, ap, get_or, sym, subst}
use Rattle.std.specs.Prelude.{IfOk}
use Rattle.std.specs.Mem.Slots.{slots_items}
use Rattle.blink_live.specs.Leaves.{AreLeaves, HasLeaves}
use Rattle.blink_live.proofs.gathered.LeavesAreRead.{leaves_of, leftmost_of, their_entries}
use Rattle.blink_live.proofs.leaves.entries_at_end.Goals as goal

pub entries_along-requires-clause-leaves : goal.entries_along-requires-clause-leaves
entries_along-requires-clause-leaves c =
    let counts = c.args.counts.now in
    let words = slots_items c.args.closed.now.words in
    let entries = c.requires.leaves.0 in
    let kept = c.requires.leaves.1 in
    let prime : c.deref.result.now ≡ kept.prime = c.deref.ensures.0 ∙ c.prime.view_is ∙ c.prime_at-prime.ensures kept.prime kept.prime_kept in
    let first : get_or c.deref.result.now 0 0 ≡ kept.are.leftmost = ap (λ (ns : List ℕ). get_or ns 0 0) prime ∙ leftmost_of counts words entries kept in
    subst (HasLeaves counts words) (sym first) (kept.are.leaves, leaves_of counts words entries kept)

if_ok : {X E : Type 0} (result : Result X E) (P Q : X → Type 0) → ((x : X) → P x → Q x) → IfOk result P → IfOk result Q
if_ok (Ok x) P Q f is = f x is
if_ok (Err e) P Q f is = is

pub returns : goal.returns
returns c =
    let counts = c.args.counts.now in
    let words = slots_items c.args.closed.now.words in
    if_ok c.entries_along.result _ _ (λ read has entries kept.
    let prime : c.deref.result.now ≡ kept.prime = c.deref.ensures.0 ∙ c.prime.view_is ∙ c.prime_at-prime.ensures kept.prime kept.prime_kept in
    let first : get_or c.deref.result.now 0 0 ≡ kept.are.leftmost = ap (λ (ns : List ℕ). get_or ns 0 0) prime ∙ leftmost_of counts words entries kept in
    has kept.are.leaves (subst (λ (n : ℕ). AreLeaves counts words None (Some n) kept.are.leaves) (sym first) (leaves_of counts words entries kept)) ∙ their_entries counts words entries kept) c.entries_along.ensures
