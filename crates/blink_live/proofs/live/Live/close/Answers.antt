use Rattle.std.proofs.Common.{◌≡◌, ◌↔◌, ℕ, zero, suc, ◌+◌, ◌-◌, ◌<◌, ◌≤◌, Some, Result, Err, List, [], ◌∷◌, ◌++◌, length, map, sym, ap, ◌∙◌, subst, arith}
use Rattle.std.specs.Prelude.{Contains, slice_get}
use Rattle.std.specs.Mem.Slots.{slots_items}
use Rattle.blink_batch.specs.declared.Entry.{Entry}
use Rattle.blink_batch.specs.{pointer_of}
use Rattle.blink_index.specs.{map_of}
use Rattle.blink_rows.specs.{PlainCounts}
use Rattle.blink_machine.specs.{IsMapOf}
use Rattle.blink_store.specs.{PlainStore}
use Rattle.blink_live.specs.declared.error.LiveError.{LiveError}
use Rattle.blink_live.specs.declared.error.LiveError.TheVariants.{Missing, OutOfMemory}
use Rattle.blink_live.specs.declared.live.Pass.{Pass}
use Rattle.blink_live.specs.declared.view.Role.{Role}
use Rattle.blink_live.specs.declared.live.Keeper.{Keeper}
use Rattle.blink_live.specs.declared.live.Live.{Live}
use Rattle.blink_live.specs.declared.view.Role.TheVariants.{Keeper as KeeperRole}
use Rattle.atomic_table.specs.Table.{Final, Seen}
use Rattle.blink_live.specs.Rule.{IsTable}
use Rattle.std.proofs.lemmas.List.{length-map}
use Rattle.blink_live.specs.declared.view.Share.{Share}
use Rattle.blink_live.specs.declared.view.View.{View}
use Rattle.blink_live.specs.Gathered.{IsNumberedInOrder}
use Rattle.blink_live.specs.Handles.{opening_of, passes_out, seen_by}
use Rattle.blink_live.specs.Merge.{KeepsTree, IsMerge, shares_of}
use Rattle.blink_live.specs.Views.{SeatState, plan_of, takes_more, takes_all_back}
use Rattle.blink_live.proofs.closed.EntriesOfStore.{map_is}
use Rattle.blink_live.proofs.closed.TableAtTheEnd.{IsAtEnd, at_end}
use Rattle.blink_live.proofs.table.RefusalsTold.{no_refusal}
use Rattle.blink_live.proofs.told.EntriesAfterChanges.{entries_after-state}
use Rattle.blink_live.proofs.live.Live.close.Goals as goal

-- facts on plain numbers, since passes and keepers have many fields to read
some : (count : ℕ) → 0 < suc count
some count = omega arith

one_more : (place count : ℕ) → place < count → suc place < suc count
one_more place count inside = omega (arith, inside)

enough : (out were count passes : ℕ) → out ≡ were → count ≡ passes → out ≤ count → were ≤ passes
enough out were count passes same is all = omega (arith, same, is, all)

enough_back : (dealt back passes shares : ℕ) → dealt - back ≤ passes → shares ≡ passes → dealt ≤ back + shares
enough_back dealt back passes shares all long = omega (arith, all, long)

came : {A : Type 0} (share : A → Share) (items : List A) (rest : List Share) (place : ℕ) (item : A) → slice_get items place ≡ Some item → Contains (map share items ++ rest) (share item)
came share [] rest place item at = absurd (cc)
came share (first ∷ items) rest zero item at = (0, some (length (map share items ++ rest)), let same : first ≡ item = cc in ap share same)
came share (first ∷ items) rest (suc place) item at = let t = came share items rest place item at in (suc t.0, one_more t.0 (length (map share items ++ rest)) t.1, t.2)

share_came : (passes : List Pass) (rest : List Share) (place : ℕ) (pass : Pass) → slice_get passes place ≡ Some pass → Contains (shares_of passes ++ rest) pass.seat.me.0.share
share_came = came (λ (pass : Pass). pass.seat.me.0.share)

-- the keeper with all shares back
abbrev view_at_end : (keeper : Keeper) (passes : List Pass) → View
view_at_end keeper passes = takes_all_back keeper.seat.me.0 (shares_of passes)

its_end : (live : Live) (keeper : Keeper) (passes : List Pass) (id : ℕ) (me : SeatState) (words slots : List ℕ) → me ≡ (view_at_end keeper passes, keeper.seat.me.1) → passes_out keeper ≤ length passes
    → Final (Seen (IsTable (plan_of live.table.shared.key)) id me.0) words slots → IsAtEnd (plan_of live.table.shared.key) words (view_at_end keeper passes)
its_end live keeper passes id me words slots is all final =
    let same : me.0 ≡ view_at_end keeper passes = ap (λ (x : SeatState). x.0) is in
    let long : length (shares_of passes) ≡ length passes = length-map passes (λ (pass : Pass). pass.seat.me.0.share) in
    let role : (view_at_end keeper passes).role ≡ KeeperRole keeper.dealt (keeper.back + length (shares_of passes)) = ap (λ (r : Role). takes_more r (length (shares_of passes))) keeper.role_is in
    at_end (plan_of live.table.shared.key) id (view_at_end keeper passes) keeper.dealt (keeper.back + length (shares_of passes)) words slots role keeper.owned (enough_back keeper.dealt keeper.back (length passes) (length (shares_of passes)) all long)
    (subst (λ (v : View). Final (Seen (IsTable (plan_of live.table.shared.key)) id v) words slots) same final)

-- in the words of the table's own counts and fan
its_tree : (live : Live) (v : View) (words : List ℕ) (end : IsAtEnd (plan_of live.table.shared.key) words v) → KeepsTree live.counts words live.fan end.now
its_tree live v words end = subst (λ (x : PlainCounts × ℕ). KeepsTree x.0 words x.1 end.now) (λ i. (sym live.counts_are i, sym live.fan_is.0 i)) end.tree

merges : (live : Live) (keeper : Keeper) (passes : List Pass) (words : List ℕ) (store : PlainStore) (end : IsAtEnd (plan_of live.table.shared.key) words (view_at_end keeper passes)) → keeper.seat.me.0.taken ≡ keeper.taken.items
    → IsMapOf store end.now → IsMerge live keeper passes (map_of store)
merges live keeper passes words store end taken_is is =
    let same = map_is store end.now is in record {
      dealt = λ place key pass at its.
          ap (λ (entries : List Entry). pointer_of entries key) same
          ∙ end.shares pass.seat.me.0.share key (share_came passes keeper.seat.me.0.back place pass at) (subst (λ (keys : List ℕ). Contains keys key) pass.keys_are its);
      others = λ key free.
          ap (λ (entries : List Entry). pointer_of entries key) same
          ∙ (end.others key (subst (λ (taken : List ℕ). ¬ Contains taken key) (sym taken_is) free) ∙ sym (entries_after-state (opening_of live) (seen_by keeper) key));
    }

pub take_back-requires-clause-role : goal.take_back-requires-clause-role
take_back-requires-clause-role c = (c.args.keeper.dealt, c.args.keeper.back, c.args.keeper.role_is)

pub take_back-requires-clause-its_passes : goal.take_back-requires-clause-its_passes
take_back-requires-clause-its_passes c = c.requires.its_passes

pub close_with-closed-requires : goal.close_with-closed-requires
close_with-closed-requires c = c.take_back.ensures.same.0 ∙ c.requires.its_keeper.0

pub tree_at_end-tree-requires-clause-fan : goal.tree_at_end-tree-requires-clause-fan
tree_at_end-tree-requires-clause-fan c = c.args.self.fan_is.1

-- all passes are back
none_misses : (out were count passes : ℕ) → out ≡ were → count ≡ passes → out ≤ count → ¬ (passes < were)
none_misses out were count passes same is all few = let back = enough out were count passes same is all in omega (arith, back, few)

pub returns-in-Ok-clause-missing : goal.returns-in-Ok-clause-missing
returns-in-Ok-clause-missing c =
    no_refusal _ _ (none_misses c.out.result (passes_out c.args.keeper) c.len.result (length c.args.passes.items) c.out.ensures (c.len.ensures ∙ c.args.passes.ok.0) c.if-len-out.false)

-- a refusal of memory is no other
other_refusal : {T P : Type 0} → ¬ P → (◌≡◌ {A = Result T LiveError} (Err OutOfMemory) (Err Missing)) ↔ P
other_refusal never = (λ refused. absurd (cc), λ p. absurd (never p))

pub returns-clause-missing : goal.returns-clause-missing
returns-clause-missing c =
    other_refusal (none_misses c.out.result (passes_out c.args.keeper) c.len.result (length c.args.passes.items) c.out.ensures (c.len.ensures ∙ c.args.passes.ok.0) c.if-len-out.false)

pub returns-in-Ok-clause-fan : goal.returns-in-Ok-clause-fan
returns-in-Ok-clause-fan c = ap (λ (store : PlainStore). store.fan) c.from_rest.ensures ∙ c.in-Ok.ensures.fan

pub returns-in-Ok-clause-numbered : goal.returns-in-Ok-clause-numbered
returns-in-Ok-clause-numbered c = subst IsNumberedInOrder (sym c.from_rest.ensures) c.in-Ok.ensures.numbered

pub tree_at_end-tree-requires-clause-tree : goal.tree_at_end-tree-requires-clause-tree
tree_at_end-tree-requires-clause-tree c =
    let end = its_end c.args.self c.args.keeper c.args.passes.items c.take_back.new.seat.id c.take_back.new.seat.me (slots_items c.close_with-closed.result.words) (slots_items c.close_with-closed.result.slots)
    c.take_back.ensures.back (enough c.out.result (passes_out c.args.keeper) c.len.result (length c.args.passes.items) c.out.ensures (c.len.ensures ∙ c.args.passes.ok.0) c.if-len-out.false) c.close_with-closed.ensures.values.2 in
    (end.now, its_tree c.args.self (view_at_end c.args.keeper c.args.passes.items) (slots_items c.close_with-closed.result.words) end)

pub returns-in-Ok-clause-entries : goal.returns-in-Ok-clause-entries
returns-in-Ok-clause-entries c =
    let words = slots_items c.close_with-closed.result.words in
    let end = its_end c.args.self c.args.keeper c.args.passes.items c.take_back.new.seat.id c.take_back.new.seat.me words (slots_items c.close_with-closed.result.slots)
    c.take_back.ensures.back (enough c.out.result (passes_out c.args.keeper) c.len.result (length c.args.passes.items) c.out.ensures (c.len.ensures ∙ c.args.passes.ok.0) c.if-len-out.false) c.close_with-closed.ensures.values.2 in
    let tree = its_tree c.args.self (view_at_end c.args.keeper c.args.passes.items) words end in
    merges c.args.self c.args.keeper c.args.passes.items words c.from_rest.result end (sym c.args.keeper.taken_are)
    (subst (λ (store : PlainStore). IsMapOf store end.now) (sym c.from_rest.ensures) (c.in-Ok.ensures.entries end.now tree))

pub returns-in-Ok-clause-pages : goal.returns-in-Ok-clause-pages
returns-in-Ok-clause-pages c =
    let some_number = c.args.self.some_number in
    let few = c.in-Ok.ensures.few in
    let same = ap (λ (store : PlainStore). length store.pages) c.from_rest.ensures in
    omega (arith, some_number, few, same)
