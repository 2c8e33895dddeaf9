-- The words of a table whose passes are all back keep a tree at rest, whose entries are the merge of the shares.
use Rattle.std.proofs.Common.{◌≡◌, ℕ, ◌<◌, ◌≤◌, Some, None, List, sym, ap, ◌∙◌, subst, arith}
use Rattle.std.specs.Prelude.{slice_index, Contains}
use mathlib.Core.Option.{some, some-injective}
use native.Mathlib.Decide.{dec_le}
use lib.ListN.{get_elem?}
use Rattle.atomic_table.specs.Table.{State, Final, Seen}
use Rattle.blink_batch.specs.declared.Entry.{Entry}
use Rattle.blink_batch.specs.{pointer_of}
use Rattle.blink_page.specs.{PlainPage}
use Rattle.blink_rest.specs.{AreEntries, IsAtRest}
use Rattle.blink_machine.specs.TreeState.{TreeState}
use Rattle.blink_machine.specs.{pairs_of}
use Rattle.blink_machine.proofs.Offered.{step_law}
use Rattle.blink_live.specs.declared.view.Plan.{Plan}
use Rattle.blink_live.specs.declared.view.Role.{Role}
use Rattle.blink_live.specs.declared.view.Role.TheVariants.{Keeper}
use Rattle.blink_live.specs.declared.view.Share.{Share}
use Rattle.blink_live.specs.declared.view.View.{View}
use Rattle.blink_live.specs.Changes.{after}
use Rattle.blink_live.specs.Merge.{KeepsPrime, KeepsTree}
use Rattle.blink_live.specs.Rule.{PageWordIs, IsInRole, IsTableAt, IsTable}
use Rattle.blink_live.specs.Views.{IsOwned}
use Rattle.blink_live.specs.Words.{KeepsPage}
use Rattle.blink_live.proofs.closed.AllBack.{all_back}
use Rattle.blink_live.proofs.told.EntriesAfterChanges.{after-same_states}

-- what a table at the end says: its tree has these entries, which are those of the shares that came back, and else those that the keeper knows
pub record IsAtEnd (plan : Plan) (words : List ℕ) (v : View) : Type 0 where
  pub now : List Entry
  pub tree : KeepsTree plan.counts words plan.fan now
  pub shares : (share : Share) (key : ℕ) → Contains v.back share → Contains share.keys key → pointer_of now key ≡ pointer_of share.entries key
  pub others : (key : ℕ) → ¬ Contains v.taken key → pointer_of now key ≡ after (pointer_of plan.opening) v.seen key

module _ (plan : Plan) (s : State ℕ View) (tree_state : TreeState) (h : IsTableAt plan s tree_state) where
  pub kept_page : (number : ℕ) (page : PlainPage) → tree_state.pages number ≡ Some page → KeepsPage plan.counts s.words number page
  kept_page number page there =
      let some_number : 1 ≤ number = (h.invariant.1.numbers_in_range number page there).0 in
      let in_range : number < plan.counts.numbers = elim (dec_le plan.counts.numbers number) [
        | yes beyond ↦ absurd (let missing : tree_state.pages number ≡ None = h.no_other_page number beyond in cc)
        | no inside ↦ omega (arith, inside)
      ] in
      let word : PageWordIs plan h.owners s.words (slice_index s.words number) (Some page) = subst (PageWordIs plan h.owners s.words (slice_index s.words number)) there (h.pages number some_number in_range) in
      record { number_in_range = (some_number, in_range); row_in_range = word.published.0; base = word.base; behind = word.behind; row_begins = word.begins; version = word.version }

  pub kept_prime : KeepsPrime plan.counts s.words tree_state.prime
  kept_prime =
      let order = step_law.invariant_gives_order tree_state h.invariant in record {
        row_in_range = h.prime.published.0;
        row_begins = h.prime.begins;
        lawful = record { one_at_least = order.tree.1.tree.chains.some_level; at_most_levels = let few = order.few_levels in omega (arith, few); page_numbers = h.prime_numbers };
      }

module _ (plan : Plan) (s : State ℕ View) (tree_state : TreeState) (h : IsTableAt plan s tree_state) (idle : (worker : ℕ) → tree_state.machines worker ≡ None) where
  pub keeps_tree : KeepsTree plan.counts s.words plan.fan h.now
  keeps_tree =
      record {
        prime = tree_state.prime;
        pages = tree_state.pages;
        prime_kept = kept_prime plan s tree_state h;
        pages_kept = kept_page plan s tree_state h;
        at_rest = subst (λ fan. IsAtRest fan tree_state.prime tree_state.pages) h.same_fan (step_law.all_idle_is_at_rest tree_state h.invariant idle).at_rest;
        ascending = h.is_map.ascending;
        are = subst (λ fan. AreEntries fan tree_state.prime tree_state.pages (pairs_of h.now)) h.same_fan h.is_map.kept;
      }

  at_end_with : (id : ℕ) (v : View) (dealt back : ℕ) → get_elem? s.views id ≡ some v → v.role ≡ Keeper dealt back → IsOwned v.plan → IsAtEnd plan s.words v
  at_end_with id v dealt back at role owned =
      let known = h.views id v at in
      let kept = subst (IsInRole plan h.owners h.log id v) role known.in_role in record {
        now = h.now;
        tree = keeps_tree;
        shares = λ share key came its. h.kept key ∙ sym ((kept.3 share came key its).kept);
        others = λ key free. h.kept key ∙ sym (after-same_states (pointer_of plan.opening) v.seen h.log key ((kept.2 key free).saw_all owned));
      }

back_of : Role → ℕ
back_of (Keeper dealt back) = back
back_of role = 0

dealt_of : Role → ℕ
dealt_of (Keeper dealt back) = dealt
dealt_of role = 0

-- where as many came back as were dealt, all are back
pub at_end : (plan : Plan) (id : ℕ) (v : View) (dealt back : ℕ) (words slots : List ℕ) → v.role ≡ Keeper dealt back → IsOwned v.plan → dealt ≤ back → Final (Seen (IsTable plan) id v) words slots → IsAtEnd plan words v
unfolding back_of dealt_of
at_end plan id v dealt back words slots role owned enough final =
    let s : State ℕ View = final.0 in
    let tree_state : TreeState = final.1.0.0 in
    let h : IsTableAt plan s tree_state = final.1.0.1 in
    let at : get_elem? s.views id ≡ some v = final.1.1 in
    let first : id ≡ 0 = (subst (IsInRole plan h.owners h.log id v) role (h.views id v at).in_role).0 in
    let counted = h.counted in
    let same : v ≡ counted.keeper = some-injective v counted.keeper (sym at ∙ (ap (get_elem? s.views) first ∙ counted.first)) in
    let roles : Keeper dealt back ≡ Keeper counted.dealt counted.back = sym role ∙ (ap (λ (x : View). x.role) same ∙ counted.role) in
    let same_back : back ≡ counted.back = ap back_of roles in
    let same_dealt : dealt ≡ counted.dealt = ap dealt_of roles in
    let count = counted.counted (ap (λ (x : View). x.plan.places) (sym same) ∙ owned) in
    let all : back ≡ dealt = omega (arith, same_back, same_dealt, count, enough) in
    let idle = all_back plan s tree_state h id v dealt at (role ∙ ap (λ (n : ℕ). let r : Role = Keeper dealt n in r) all) owned in
    subst (λ (ws : List ℕ). IsAtEnd plan ws v) final.2 (at_end_with plan s tree_state h idle id v dealt back at role owned)
