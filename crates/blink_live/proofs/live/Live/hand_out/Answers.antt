use Rattle.std.proofs.Common.{◌≡◌, ℕ, suc, ◌+◌, ◌-◌, ◌*◌, ◌<◌, ◌≤◌, List, inr, refl, sym, ap, ◌∙◌, subst, arith}
use native.Mathlib.Decide.{dec_le}
use Rattle.blink_live.specs.declared.live.Keeper.{Keeper}
use Rattle.blink_live.specs.declared.view.Change.{Change}
use Rattle.blink_live.specs.declared.view.Plan.{Plan}
use Rattle.blink_rows.specs.declared.span.Span.{Span}
use Rattle.blink_live.specs.Allowed.{AreForChanges}
use Rattle.blink_live.specs.declared.view.Role.{Role}
use Rattle.blink_live.specs.declared.view.Role.TheVariants.{Keeper as KeeperRole}
use Rattle.blink_live.specs.Dealing.{CanDeal}
use Rattle.blink_live.specs.Changes.{entries_after}
use Rattle.blink_live.specs.Deals.{LacksAllowance, rows_for}
use Rattle.blink_live.specs.Views.{SeatState, SawItsOwn, span, changes_of, deals_one, entries_of}
use Rattle.blink_live.proofs.dealt.KeeperCanDeal.{enough_inserts, enough_deletes, keeper_can_deal}
use Rattle.blink_live.proofs.dealt.ChangesLeft.{dealt_for_changes, enough_pages, enough_rows, rest_for_changes}
use Rattle.blink_live.proofs.dealt.KeysInOrder.{rises_in_order}
use Rattle.blink_live.proofs.dealt.KeysOfShare.{new_saw_its_own, same_changes, same_entries}
use Rattle.blink_live.proofs.live.Live.hand_out.Goals as goal

one_more : (keeper : Keeper) (inserts deletes : ℕ) → ¬ LacksAllowance keeper inserts deletes → keeper.dealt < 4294967296 → keeper.dealt + 1 < 4294967296
one_more keeper inserts deletes allowed fits = elim (dec_le (keeper.dealt + 2) 4294967296) [ yes le ↦ omega (arith, le) | no more ↦ absurd (allowed (inr (inr (omega (arith, more, fits))))) ]

no_fewer : (dealt back : ℕ) → back ≤ dealt → back ≤ dealt + 1
no_fewer dealt back counted = omega (arith, counted)

one_more_out : (dealt back : ℕ) → back ≤ dealt → dealt + 1 - back ≡ dealt - back + 1
one_more_out dealt back counted = omega (arith, counted)

one_more_dealt : (role : Role) (dealt back : ℕ) → role ≡ KeeperRole dealt back → deals_one role ≡ KeeperRole (dealt + 1) back
one_more_dealt role dealt back is = ap deals_one is ∙ (let more : suc dealt ≡ dealt + 1 = omega arith in ap (λ (n : ℕ). KeeperRole n back) more)

in_order : (first count : ℕ) (numbers : Span) → numbers ≡ span first (first + count) → numbers.next ≤ numbers.stop
in_order first count numbers is = subst (λ (s : Span). s.next ≤ s.stop) (sym is) (omega arith)

-- what is left of the rows and of the page numbers
rest_rows : (rows rest : Span) (inserts deletes as_inserts as_deletes : ℕ) → rest ≡ span (rows.next + (44 * inserts + deletes)) rows.stop → inserts ≡ as_inserts → deletes ≡ as_deletes
    → rest ≡ span (rows.next + rows_for as_inserts as_deletes) rows.stop
rest_rows rows rest inserts deletes as_inserts as_deletes is same_inserts same_deletes = is ∙ λ i. span (rows.next + (44 * same_inserts i + same_deletes i)) rows.stop

rest_pages : (pages rest : Span) (inserts as_inserts : ℕ) → rest ≡ span (pages.next + 22 * inserts) pages.stop → inserts ≡ as_inserts → rest ≡ span (pages.next + 22 * as_inserts) pages.stop
rest_pages pages rest inserts as_inserts is same = is ∙ λ i. span (pages.next + 22 * same i) pages.stop

pub split_seat-seat-requires-clause-can : goal.split_seat-seat-requires-clause-can
split_seat-seat-requires-clause-can c =
    let can = keeper_can_deal c.args.keeper.now c.args.keys.items c.sort_unstable.new.self.items c.args.taken_now.items c.args.inserts c.args.deletes
    c.sort_unstable.ensures.permutation c.requires.free c.requires.allowed c.requires.taken in
    subst (λ (x : (ℕ × ℕ) × (List ℕ × List ℕ)). CanDeal c.args.keeper.now.seat.me.0 x.0.0 x.0.1 x.1.0 x.1.1)
    (λ i. ((44 * sym c.from.ensures i + sym c.from-2.ensures i, 22 * sym c.from-page_count.ensures i), (sym c.deref.ensures.value i, sym c.deref-2.ensures.value i))) can

pub returns-clause-dealt : goal.returns-clause-dealt
returns-clause-dealt c =
    let right = c.split_seat-seat.ensures.right in
    let sorted : List ℕ = c.sort_unstable.new.self.items in
    let plan : Plan = c.args.keeper.now.seat.me.0.plan in
    let seen : List Change = c.args.keeper.now.seat.me.0.seen in
    record {
      its_own = (right.0 ∙ c.requires.its_own.0, ap (λ (me : SeatState). me.0.plan) right.1 ∙ c.requires.its_own.1);
      same_keys = c.sort_unstable.ensures.permutation;
      share = ap (λ (me : SeatState). me.0.share.entries) right.1
          ∙ (ap (λ (keys : List ℕ). entries_of keys (entries_after plan.opening seen)) c.deref.ensures.value
          ∙ (same_entries c.args.keys.items sorted c.sort_unstable.ensures.permutation (entries_after plan.opening seen)
          ∙ ap (λ (p : Plan). entries_of c.args.keys.items (entries_after p.opening seen)) c.requires.its_own.1));
      saw = ap (λ (me : SeatState). me.0.seen) right.1;
      changes = ap (λ (me : SeatState). me.0.share.changes) right.1
          ∙ (ap (λ (keys : List ℕ). changes_of keys seen) c.deref.ensures.value ∙ same_changes c.args.keys.items sorted c.sort_unstable.ensures.permutation seen);
      rows = c.first_of.ensures.first ∙ λ i. span c.args.keeper.now.rows.next (c.args.keeper.now.rows.next + (44 * c.from.ensures i + c.from-2.ensures i));
      pages = c.first_of-2.ensures.first ∙ λ i. span c.args.keeper.now.pages.next (c.args.keeper.now.pages.next + 22 * c.from-page_count.ensures i);
    }

pub overflow_add-dealt : goal.overflow_add-dealt
overflow_add-dealt c = let fits = one_more c.args.keeper.now c.args.inserts c.args.deletes c.requires.allowed (omega arith) in omega (arith, fits)

pub first_of-requires : goal.first_of-requires
first_of-requires c =
    let keeper = c.args.keeper.now in
    let enough = enough_rows keeper.pages keeper.rows c.args.inserts c.args.deletes keeper.for_changes (enough_inserts keeper c.args.inserts c.args.deletes c.requires.allowed)
    (enough_deletes keeper c.args.inserts c.args.deletes c.requires.allowed) keeper.in_order.0 in
    record { enough = omega (arith, enough, c.from.ensures, c.from-2.ensures) }

pub first_of-requires-2 : goal.first_of-requires-2
first_of-requires-2 c =
    let keeper = c.args.keeper.now in
    let enough = enough_pages keeper.pages keeper.rows c.args.inserts c.args.deletes keeper.for_changes (enough_inserts keeper c.args.inserts c.args.deletes c.requires.allowed)
    (enough_deletes keeper c.args.inserts c.args.deletes c.requires.allowed) keeper.in_order.1 in
    record { enough = omega (arith, enough, c.from-page_count.ensures) }

pub invariant_of-keeper : goal.invariant_of-keeper
invariant_of-keeper c =
    let keeper = c.args.keeper.now in
    let left = c.split_seat-seat.ensures.left.1 in
    let few_inserts = enough_inserts keeper c.args.inserts c.args.deletes c.requires.allowed in
    let few_deletes = enough_deletes keeper c.args.inserts c.args.deletes c.requires.allowed in
    let rows = rest_rows keeper.rows c.first_of.new.rest c.from.result c.from-2.result c.args.inserts c.args.deletes c.first_of.ensures.rest c.from.ensures c.from-2.ensures in
    let pages = rest_pages keeper.pages c.first_of-2.new.rest c.from-page_count.result c.args.inserts c.first_of-2.ensures.rest c.from-page_count.ensures in
    record {
      taken_are = sym c.deref-2.ensures.value ∙ sym (ap (λ (me : SeatState). me.0.taken) left);
      rows_are = c.first_of.ensures.rest ∙ (ap (λ (s : Span). span (s.next + (44 * c.from.result + c.from-2.result)) s.stop) keeper.rows_are ∙ sym (ap (λ (me : SeatState). me.0.rows) left));
      pages_are = c.first_of-2.ensures.rest ∙ (ap (λ (s : Span). span (s.next + 22 * c.from-page_count.result) s.stop) keeper.pages_are ∙ sym (ap (λ (me : SeatState). me.0.pages) left));
      in_order = (
        subst (λ (s : Span). s.next ≤ s.stop) (sym rows) (enough_rows keeper.pages keeper.rows c.args.inserts c.args.deletes keeper.for_changes few_inserts few_deletes keeper.in_order.0),
        subst (λ (s : Span). s.next ≤ s.stop) (sym pages) (enough_pages keeper.pages keeper.rows c.args.inserts c.args.deletes keeper.for_changes few_inserts few_deletes keeper.in_order.1),
      );
      for_changes = subst (λ (s : Span × Span). AreForChanges s.0 s.1) (λ i. (sym pages i, sym rows i)) (rest_for_changes keeper.pages keeper.rows c.args.inserts c.args.deletes keeper.for_changes few_inserts few_deletes);
      ascending = c.requires.ascending;
      role_is = ap (λ (me : SeatState). me.0.role) left ∙ one_more_dealt keeper.seat.me.0.role keeper.dealt keeper.back keeper.role_is;
      counted = no_fewer keeper.dealt keeper.back keeper.counted;
      owned = ap (λ (me : SeatState). me.0.plan.places) left ∙ keeper.owned;
      no_slot = ap (λ (me : SeatState). me.1) left ∙ keeper.no_slot;
    }

pub returns-clause-rest : goal.returns-clause-rest
returns-clause-rest c =
    let keeper = c.args.keeper.now in
    let left = c.split_seat-seat.ensures.left in record {
      its_own = (left.0.0 ∙ c.requires.its_own.0, ap (λ (me : SeatState). me.0.plan) left.1 ∙ c.requires.its_own.1);
      taken = c.requires.taken;
      one_more = refl;
      one_more_out = one_more_out keeper.dealt keeper.back keeper.counted;
      same_seen = ap (λ (me : SeatState). me.0.seen) left.1;
      rows = rest_rows keeper.rows c.first_of.new.rest c.from.result c.from-2.result c.args.inserts c.args.deletes c.first_of.ensures.rest c.from.ensures c.from-2.ensures;
      pages = rest_pages keeper.pages c.first_of-2.new.rest c.from-page_count.result c.args.inserts c.first_of-2.ensures.rest c.from-page_count.ensures;
    }

pub invariant_of-result : goal.invariant_of-result
invariant_of-result c =
    let keeper = c.args.keeper.now in
    let right = c.split_seat-seat.ensures.right.1 in
    let rows = c.first_of.ensures.first ∙ λ i. span keeper.rows.next (keeper.rows.next + (44 * c.from.ensures i + c.from-2.ensures i)) in
    let pages = c.first_of-2.ensures.first ∙ λ i. span keeper.pages.next (keeper.pages.next + 22 * c.from-page_count.ensures i) in record {
      keys_are = sym c.deref.ensures.value ∙ sym (ap (λ (me : SeatState). me.0.share.keys) right);
      ascending = rises_in_order _ c.args.keys.items c.sort_unstable.new.self.items c.requires.free c.sort_unstable.ensures.permutation c.sort_unstable.ensures.sorted;
      rows_are = c.first_of.ensures.first ∙ (ap (λ (s : Span). span s.next (s.next + (44 * c.from.result + c.from-2.result))) keeper.rows_are ∙ sym (ap (λ (me : SeatState). me.0.rows) right));
      pages_are = c.first_of-2.ensures.first ∙ (ap (λ (s : Span). span s.next (s.next + 22 * c.from-page_count.result)) keeper.pages_are ∙ sym (ap (λ (me : SeatState). me.0.pages) right));
      in_order = (in_order keeper.rows.next _ c.first_of.result c.first_of.ensures.first, in_order keeper.pages.next _ c.first_of-2.result c.first_of-2.ensures.first);
      for_changes = subst (λ (s : Span × Span). AreForChanges s.0 s.1) (λ i. (sym pages i, sym rows i)) (dealt_for_changes keeper.pages.next keeper.rows.next c.args.inserts c.args.deletes);
      role_is = ap (λ (me : SeatState). me.0.role) right;
      owned = ap (λ (me : SeatState). me.0.plan.places) right ∙ keeper.owned;
      own_seen = subst SawItsOwn (sym (ap (λ (me : SeatState). me.0) right)) (new_saw_its_own keeper.seat.me.0 0 0 _);
      none_told = ap (λ (me : SeatState). me.0.told) right;
      idle = ap (λ (me : SeatState). me.0.operation) right;
      no_slot = ap (λ (me : SeatState). me.1) right;
    }
