-- A page word that names a row of one's own is the tree's write of a page, old or new, or of the prime block, and keeps the rule.
use Rattle.std.proofs.Common.{◌≡◌, ◌≢◌, ◌⊎◌, inl, inr, ⊎_elim, ℕ, suc, ◌<◌, ◌≤◌, Option, Some, None, List, [], ◌++◌, set, refl, sym, ap, ◌∙◌, subst, append_assoc, arith, length}
use Rattle.std.specs.Prelude.{Contains, IsSome, slice_index}
use mathlib.Core.Option.{some, none}
use mathlib.Core.List.{IsPrefix, append-nil}
use lib.ListN.{get_elem?}
use Rattle.atomic_table.specs.Table.{State, step, keeps, Allows}
use Rattle.blink_batch.specs.declared.Entry.{Entry}
use Rattle.blink_batch.proofs.Offered.{IsAscending-map_after}
use Rattle.blink_batch.specs.{FitsWords, answer_at, key_of, map_after, pointer_of}
use Rattle.blink_page.specs.{PlainPage}
use Rattle.blink_rows.specs.{page_words, prime_words}
use Rattle.blink_rows.specs.declared.span.Span.{Span}
use Rattle.blink_machine.specs.declared.machine.State.TheVariants.{Ended}
use Rattle.blink_machine.specs.declared.step.Kind.{Kind}
use Rattle.blink_machine.specs.declared.step.Step.TheVariants.{Moved}
use Rattle.blink_machine.specs.declared.step.Kind.TheVariants as kinds
use Rattle.blink_machine.specs.{UsesUp, write_page, write_prime, PlainMachine, NeedsNew, NeedsWrite, NeedsPrimeWrite, goes_on, Steps, writes_page, writes_new, writes_prime, IsItsOperation, IsWorkersNow, under_way, descent_bound, deciding, other, done, page_out, PrimeOut, HasEntries}
use Rattle.blink_machine.specs.InOrder.{WritesWell}
use Rattle.blink_machine.specs.TreeState.{TreeState}
use Rattle.blink_machine.proofs.Offered.{step_law, has_answer_at_end}
use Rattle.blink_live.specs.declared.view.Change.{Change}
use Rattle.blink_live.specs.declared.view.Plan.{Plan}
use Rattle.blink_live.specs.declared.view.Role.TheVariants.{Pass}
use Rattle.blink_live.specs.declared.view.Share.{Share}
use Rattle.blink_live.specs.declared.view.Stock.{Stock}
use Rattle.blink_live.specs.declared.view.View.{View}
use Rattle.blink_live.specs.Changes.{put, after, states_of, changes_made, Learns}
use Rattle.blink_live.specs.AtomicSteps.{AnswersInOrder, Decided, CanGoOn, EndsWithOwn, PublishesPage, PublishesNew, PublishesPrime, publishes_page, publishes_new, publishes_prime}
use Rattle.blink_live.specs.Looks.{IsLeafInChain}
use Rattle.blink_live.specs.Reuse.{IsAtHand, IsReuseSafe, IsWithin}
use Rattle.blink_live.specs.Rule.{IsOwnKey, IsBoundedWay, IsShare, Owners, HasNumbers, HasSpare, Knows, IsTableAt, IsTable, PageWordIs}
use Rattle.blink_live.specs.Views.{IsCommon, IsOwned, MayChange, SeatState, KnowsItsOwn, adds, span, changed_by, publishes, publishes_from, takes_out}
use Rattle.blink_live.specs.Words.{BeginWith, named_row}
use Rattle.blink_live.proofs.changed.ChangesAreTheMaps.{all_by_author, states_of-append, none_of_other, other_stays, map_is_changed}
use Rattle.blink_live.proofs.changed.RowsArePublished.{gives_row, IsStepOfTree, ChangesOwn, publish_keeps}
use Rattle.blink_live.proofs.found.OperationBegins.{goes_on_as}
use Rattle.blink_live.proofs.reuse.RowsAreTakenOut.{new_page_is_safe, page_is_safe}
use Rattle.blink_live.proofs.table.LeavesStayInChain.{leaves_stay, new_is_unlinked, none_after_prime, none_after_write}
use Rattle.blink_live.proofs.table.MapsWithOneChange.{put_here, put_else}
use Rattle.blink_live.proofs.table.NextPageIsThere.{EndsAt, next_page_is_there}
use Rattle.blink_live.proofs.table.SeatsThatStay.{views_stay}
use Rattle.blink_live.proofs.table.SharesAreKnown.{share_is_known}
use Rattle.blink_live.proofs.table.SparesOfSeats.{spare_beside, spare_still}

-- no seat has seen a change that isn't in this list
abbrev pub IsLongest : List View → List Change → Type 0
IsLongest views seen = (seat : ℕ) (v : View) → get_elem? views seat ≡ some v → IsPrefix v.seen seen

-- what the table becomes, and what the seat is told: where the step changes something, the seat's list is the longest now, and ends
-- with this change
pub record BecomesWritten (plan : Plan) (s : State ℕ View) (id number word : ℕ) (kind : Kind) (rows pages : Span) (stock : Stock) (me : SeatState) (m after_it : PlainMachine) : Type 0 where
  pub way : ℕ
  pub share : Share
  pub seen : List Change
  pub table : IsTable plan record { words = set s.words number word; homes = s.homes; views = set s.views id (publishes_from me.0 after_it way rows pages share seen stock) }
  pub learns : Learns me.0 seen
  pub decided : Decided m after_it me.0 share seen
  pub next : CanGoOn me.0.plan after_it
  pub uses : UsesUp m (Moved kind) after_it
  pub answers_at_end : after_it.state ≡ Ended → IsSome after_it.answer
  pub knows_own : KnowsItsOwn (publishes_from me.0 after_it way rows pages share seen stock)
  pub ends_with_own : EndsWithOwn me.0 share seen
  pub longest : IsLongest (set s.views id (publishes_from me.0 after_it way rows pages share seen stock)) seen

-- where the page word names the first of the call's rows
abbrev pub BecomesPublished : Plan → State ℕ View → ℕ → ℕ → Kind → Span → Stock → SeatState → PlainMachine → PlainMachine → Type 0
BecomesPublished plan s id number kind pages stock me m after_it = BecomesWritten plan s id number me.0.call.rows.next kind (span (suc me.0.call.rows.next) me.0.call.rows.stop) pages stock me m after_it

-- a page word becomes another, by a step of the tree after which the rule holds where only the seat's own keys change
module _ (plan : Plan) (s : State ℕ View) (tree_state then : TreeState) (h : IsTableAt plan s tree_state) (id number word : ℕ) (kind : Kind) (rows pages : Span) (stock : Stock) (me : SeatState) (m after_it : PlainMachine) (content : List ℕ)
    (at : get_elem? s.views id ≡ some me.0) (role : me.0.role ≡ Pass) (its : IsItsOperation tree_state id m) (fits : FitsWords m.op) (stepped : Steps tree_state id m (Moved kind) after_it then)
    (tree : IsStepOfTree plan s tree_state then h id number (descent_bound then.pages after_it) me.0 after_it content pages stock at role) (may : MayChange me.0 (key_of m.op)) (new : Owners) (same_keys : (key : ℕ) → new.key key ≡ h.owners.key key)
    (keeps_table : (made : List Change) (now : List Entry) (share : Share) → ChangesOwn plan s tree_state then h id me.0 new made now share
    → IsBoundedWay then (publishes_from me.0 after_it (descent_bound then.pages after_it) rows pages share (h.log ++ made) stock)
    → IsTable plan record { words = set s.words number word; homes = s.homes; views = set s.views id (publishes_from me.0 after_it (descent_bound then.pages after_it) rows pages share (h.log ++ made) stock) }) where
  known : Knows plan h.owners s.words tree_state h.log id me.0
  known = h.views id me.0 at

  abbrev kept_before : Option ℕ
  kept_before = after (pointer_of plan.opening) h.log (key_of m.op)

  abbrev its_changes : List Change
  its_changes = changes_made me.0.place m.op kept_before

  -- in a common table the seat has no key
  no_key : IsCommon plan → (key : ℕ) → ¬ Contains me.0.share.keys key
  no_key common key mine =
      let own : h.owners.key key ≡ suc id = (known.share key mine).own in
      let none : h.owners.key key ≡ 0 = h.nobodys common key in
      omega (arith, own, none)

  common_plan : IsCommon me.0.plan → IsCommon plan
  common_plan common = subst IsCommon known.same_plan common

  -- where passes own the keys, nobody else has this one
  its_key : IsOwned plan → (key : ℕ) → h.owners.key key ≢ suc id → key_of m.op ≢ key
  its_key owned key apart same = ⊎_elim
      (λ (mine : Contains me.0.share.keys (key_of m.op)). apart (ap h.owners.key (sym same) ∙ (known.share (key_of m.op) mine).own))
      (λ (common : IsCommon me.0.plan). let some = common_plan common in omega (arith, some, owned)) may

  -- the share where the step decides the operation
  record IsShareThen (share : Share) : Type 0 where
    pub keys : share.keys ≡ me.0.share.keys
    pub changes : share.changes ≡ me.0.share.changes ++ its_changes
    pub own : Contains me.0.share.keys (key_of m.op) → (kept_before ≡ pointer_of me.0.share.entries (key_of m.op)) × (share ≡ changed_by me.0.place m.op me.0.share)
    pub is_share : IsShare plan new (h.log ++ its_changes) (suc id) share

  own_share_then : Contains me.0.share.keys (key_of m.op) → IsShareThen (changed_by me.0.place m.op me.0.share)
  own_share_then mine =
      let own_key : IsOwnKey plan h.owners h.log (suc id) me.0.share (key_of m.op) = known.share (key_of m.op) mine in
      let made : changes_made me.0.place m.op (pointer_of me.0.share.entries (key_of m.op)) ≡ its_changes = ap (changes_made me.0.place m.op) own_key.kept in record {
        keys = refl;
        changes = ap (λ (l : List Change). me.0.share.changes ++ l) made;
        own = λ has. (sym own_key.kept, refl);
        is_share = λ key has. let own = known.share key has in record {
          own = same_keys key ∙ own.own;
          kept = map_is_changed me.0.place (pointer_of plan.opening) h.log me.0.share.entries m.op kept_before own_key.kept refl key own.kept;
          changes =
              states_of-append key h.log its_changes
              ∙ (ap (λ (l : List (Option ℕ)). l ++ states_of key its_changes) own.changes
              ∙ (sym (states_of-append key me.0.share.changes its_changes)
              ∙ ap (λ (l : List Change). states_of key (me.0.share.changes ++ l)) (sym made)));
        };
      }

  common_share_then : IsCommon plan → IsShareThen (adds its_changes me.0.share)
  common_share_then common = record {
    keys = refl;
    changes = refl;
    own = λ mine. absurd (no_key common (key_of m.op) mine);
    is_share = λ key mine. absurd (no_key common key mine);
  }

  share_then : (share : Share) × IsShareThen share
  share_then = ⊎_elim
      (λ (mine : Contains me.0.share.keys (key_of m.op)). (changed_by me.0.place m.op me.0.share, own_share_then mine))
      (λ (common : IsCommon me.0.plan). (adds its_changes me.0.share, common_share_then (common_plan common))) may

  -- the changes where the step decides the operation
  decides_here : (share : Share) → IsShareThen share → HasEntries then (map_after h.now m.op)
      → ChangesOwn plan s tree_state then h id me.0 new its_changes (map_after h.now m.op) share
  decides_here share is has_entries = record {
    other_changes = λ owned key apart. none_of_other me.0.place m.op kept_before key (its_key owned key apart);
    other_kept = λ owned key apart. other_stays me.0.place (after (pointer_of plan.opening) h.log) m.op kept_before key (its_key owned key apart);
    own_share = is.is_share;
    is_map = record { ascending = IsAscending-map_after h.now m.op h.is_map.ascending; kept = has_entries };
    kept_now = λ key. map_is_changed me.0.place (pointer_of plan.opening) h.log h.now m.op kept_before (h.kept (key_of m.op)) refl key (h.kept key);
    its_account = (is.changes, all_by_author me.0.place m.op kept_before);
  }

  -- the operation answers by the changes so far
  in_order : (share : Share) → IsShareThen share → after_it.answer ≡ Some (answer_at m.op (pointer_of h.now (key_of m.op))) → AnswersInOrder m.op me.0 after_it.answer share (h.log ++ its_changes)
  in_order share is answers = subst (λ (p : Plan). (after_it.answer ≡ Some (answer_at m.op (after (pointer_of p.opening) h.log (key_of m.op))))
      × IsPrefix (h.log ++ changes_made me.0.place m.op (after (pointer_of p.opening) h.log (key_of m.op))) (h.log ++ its_changes)
      × (share.changes ≡ me.0.share.changes ++ changes_made me.0.place m.op (after (pointer_of p.opening) h.log (key_of m.op)))
      × (Contains me.0.share.keys (key_of m.op) → (after (pointer_of p.opening) h.log (key_of m.op) ≡ pointer_of me.0.share.entries (key_of m.op)) × (share ≡ changed_by me.0.place m.op me.0.share))
      → AnswersInOrder m.op me.0 after_it.answer share (h.log ++ its_changes)) known.same_plan
      (λ t. record { before = h.log; saw = known.saw; answers = t.0; goes_on = t.1; keys = is.keys; changes = t.2; own = t.3 })
      (answers ∙ ap (λ (k : Option ℕ). Some (answer_at m.op k)) (h.kept (key_of m.op)), ([], append-nil (h.log ++ its_changes)), is.changes, is.own)

  -- and where it doesn't
  decides_nothing : HasEntries then h.now → ChangesOwn plan s tree_state then h id me.0 new [] h.now me.0.share
  decides_nothing has_entries = record {
    other_changes = λ owned key apart. refl;
    other_kept = λ owned key apart. refl;
    own_share = λ key mine.
        let own = (h.views id me.0 at).share key mine in record {
          own = same_keys key ∙ own.own;
          kept = own.kept ∙ ap (λ (l : List Change). after (pointer_of plan.opening) l key) (sym (append-nil h.log));
          changes = ap (states_of key) (append-nil h.log) ∙ own.changes;
        };
    is_map = record { ascending = h.is_map.ascending; kept = has_entries };
    kept_now = λ key. h.kept key ∙ ap (λ (l : List Change). after (pointer_of plan.opening) l key) (sym (append-nil h.log));
    its_account = (sym (append-nil me.0.share.changes), λ k d inside. absurd (omega (arith, inside)));
  }

  -- of its own keys the seat knows what its share says of them
  own_known : (made : List Change) (share : Share) → IsShare plan new (h.log ++ made) (suc id) share → KnowsItsOwn (publishes_from me.0 after_it (descent_bound then.pages after_it) rows pages share (h.log ++ made) stock)
  own_known made share is = share_is_known plan new (suc id) (publishes_from me.0 after_it (descent_bound then.pages after_it) rows pages share (h.log ++ made) stock) (h.views id me.0 at).same_plan is

  -- no seat has seen more
  is_longest : (made : List Change) (share : Share) → IsLongest (set s.views id (publishes_from me.0 after_it (descent_bound then.pages after_it) rows pages share (h.log ++ made) stock)) (h.log ++ made)
  is_longest made share = views_stay (λ seat v. IsPrefix v.seen (h.log ++ made)) s.views id (publishes_from me.0 after_it (descent_bound then.pages after_it) rows pages share (h.log ++ made) stock) ([], append-nil (h.log ++ made))
      (λ j u other there. let saw = (h.views j u there).saw in (saw.0 ++ made, sym (append_assoc u.seen saw.0 made) ∙ ap (λ (l : List Change). l ++ made) saw.1))

  pub becomes_written : BecomesWritten plan s id number word kind rows pages stock me m after_it
  becomes_written =
      let way : ℕ = descent_bound then.pages after_it in
      let decided_share = share_then in
      let ends : EndsAt plan then = record { no_page = tree.no_other_page; no_latch = λ n beyond. tree.same_holder n ∙ h.no_other_latch n beyond } in
      let next = next_page_is_there plan then ends me.0.plan id after_it known.same_plan tree.invariant tree.own in
      let uses = step_law.allowance_is_used_up.by_step tree_state then id m after_it (Moved kind) h.invariant fits its stepped in
      let answers_at_end : after_it.state ≡ Ended → IsSome after_it.answer = λ at_end. has_answer_at_end tree_state h.invariant id m after_it its at_end (Moved kind) then stepped in
      let bounded : (k : PlainMachine) → goes_on after_it after_it.state ≡ Some k → descent_bound then.pages k ≡ way = λ k is. ap (descent_bound then.pages) (sym (goes_on_as after_it after_it.state k is)) in
      let learns_before : Learns me.0 h.log = record { saw = known.saw; heard = known.heard } in
      let learns : (made : List Change) → Learns me.0 (h.log ++ made) = λ made. record {
        saw = (known.saw.0 ++ made, sym (append_assoc me.0.seen known.saw.0 made) ∙ ap (λ (l : List Change). l ++ made) known.saw.1);
        heard = (known.heard.0 ++ made, sym (append_assoc me.0.told known.heard.0 made) ∙ ap (λ (l : List Change). l ++ made) known.heard.1);
      } in
      elim (step_law.step_decides tree_state then id m after_it (Moved kind) h.now h.invariant fits its stepped h.is_map.ascending h.is_map.kept) as (λ d. BecomesWritten plan s id number word kind rows pages stock me m after_it) [
        | deciding none_yet answers has_entries ↦ record {
          way = way;
          share = decided_share.0;
          seen = h.log ++ its_changes;
          table = keeps_table its_changes (map_after h.now m.op) decided_share.0 (decides_here decided_share.0 decided_share.1 has_entries) bounded;
          learns = learns its_changes;
          decided = Decided.deciding none_yet (in_order decided_share.0 decided_share.1 answers);
          next = next;
          uses = uses;
          answers_at_end = answers_at_end;
          knows_own = own_known its_changes decided_share.0 decided_share.1.is_share;
          ends_with_own = record { before = h.log; made = its_changes; learns = learns_before; own = decided_share.1.changes; last = refl };
          longest = is_longest its_changes decided_share.0;
        }
        | other same_answer has_entries ↦ record {
          way = way;
          share = me.0.share;
          seen = h.log ++ [];
          table = keeps_table [] h.now me.0.share (decides_nothing has_entries) bounded;
          learns = learns [];
          decided = Decided.other same_answer refl;
          next = next;
          uses = uses;
          answers_at_end = answers_at_end;
          knows_own = own_known [] me.0.share (decides_nothing has_entries).own_share;
          ends_with_own = record { before = h.log; made = []; learns = learns_before; own = sym (append-nil me.0.share.changes); last = refl };
          longest = is_longest [] me.0.share;
        }
      ]

-- the page word names the first of the call's rows
module _ (plan : Plan) (s : State ℕ View) (tree_state then : TreeState) (h : IsTableAt plan s tree_state) (id number : ℕ) (kind : Kind) (pages : Span) (stock : Stock) (me : SeatState) (m after_it : PlainMachine) (content : List ℕ)
    (at : get_elem? s.views id ≡ some me.0) (role : me.0.role ≡ Pass) (under : (k : PlainMachine) × (me.0.operation ≡ Some k)) (its : IsItsOperation tree_state id m) (fits : FitsWords m.op) (stepped : Steps tree_state id m (Moved kind) after_it then)
    (tree : IsStepOfTree plan s tree_state then h id number (descent_bound then.pages after_it) me.0 after_it content pages stock at role)
    (in_range : number < plan.counts.numbers) (room : me.0.call.rows.next < me.0.call.rows.stop) (is_row : BeginWith me.0.call.staged content) (may : MayChange me.0 (key_of m.op))
    (reuse : (w : View) → w.reads ≡ me.0.reads → w.role ≡ me.0.role → w.busy ≡ me.0.busy → w.place ≡ me.0.place → w.look.leaves ≡ me.0.look.leaves → w.stock ≡ stock → w.rows ≡ me.0.rows → w.call.rows ≡ span (suc me.0.call.rows.next) me.0.call.rows.stop → IsCommon plan → IsReuseSafe plan (gives_row h.owners me.0.call.rows.next number (length content)).row (set s.words number me.0.call.rows.next) (set s.views id w)) where
  pub becomes_published : BecomesPublished plan s id number kind pages stock me m after_it
  becomes_published = becomes_written plan s tree_state then h id number me.0.call.rows.next kind (span (suc me.0.call.rows.next) me.0.call.rows.stop) pages stock me m after_it content at role its fits stepped tree may
      (gives_row h.owners me.0.call.rows.next number (length content)) (λ key. refl)
      (λ made now share own bounded. publish_keeps plan s tree_state then h id number (descent_bound then.pages after_it) me.0 after_it content pages stock at role under tree in_range room is_row made now share own bounded
      (reuse (publishes me.0 after_it (descent_bound then.pages after_it) pages share (h.log ++ made) stock) refl refl refl refl refl refl refl refl))

-- ---- a page

-- the tree state in which a page is another, and a worker has another operation
abbrev written : TreeState → ℕ → PlainPage → ℕ → Option PlainMachine → TreeState
written tree_state number page worker operation = record tree_state { pages = put tree_state.pages number (Some page); machines = put tree_state.machines worker operation }

module _ (plan : Plan) (s : State ℕ View) (tree_state : TreeState) (h : IsTableAt plan s tree_state) (id number way : ℕ) (v : View) (after_it : PlainMachine) (page : PlainPage) (pages : Span) (stock : Stock) (at : get_elem? s.views id ≡ some v) (role : v.role ≡ Pass)
    (some_number : 1 ≤ number) (in_range : number < plan.counts.numbers) where
  abbrev after_write : TreeState
  after_write = written tree_state number page id (goes_on after_it after_it.state)

  free_else : (n : ℕ) → n ≢ number → tree_state.pages n ≡ None → after_write.pages n ≡ None
  free_else n differ none_there = put_else tree_state.pages number n (Some page) differ ∙ none_there

  -- the page numbers from one on that isn't the page's
  numbers_else : (numbers : Span) → ((n : ℕ) → numbers.next ≤ n → n < numbers.stop → n ≢ number) → HasNumbers plan h.owners tree_state (suc id) numbers → HasNumbers plan h.owners after_write (suc id) numbers
  numbers_else numbers differ has = record { in_range = has.in_range; own = has.own; free = λ n low high. free_else n (differ n low high) (has.free n low high) }

  tree_written : ((tree_state.holder number ≡ Some id) ⊎ (tree_state.pages number ≡ None)) → Rattle.blink_machine.specs.Invariant.Invariant after_write → Rattle.blink_machine.specs.Places.KeepsPlaces tree_state.pages after_write.pages
      → ((n : ℕ) → IsLeafInChain tree_state.fan tree_state.prime tree_state.pages n → IsLeafInChain after_write.fan after_write.prime after_write.pages n)
      → ((n : ℕ) → h.owners.page n ≢ suc id → tree_state.pages n ≡ None → n ≢ number)
      → HasNumbers plan h.owners after_write (suc id) v.pages → HasNumbers plan h.owners after_write (suc id) pages → pages.stop ≤ v.pages.next
      → stock.spare ≡ v.stock.spare → HasSpare plan h.owners after_write (suc id) v.stock.spare v.pages.next pages
      → IsStepOfTree plan s tree_state after_write h id number way v after_it (page_words page) pages stock at role
  tree_written own invariant places in_chain apart own_free call_free call_before same_spare spare_free = record {
    same_fan = refl;
    same_holder = λ n. refl;
    its_to_write = λ least. own;
    own = put_here tree_state.machines id (goes_on after_it after_it.state);
    others = λ seat ne. put_else tree_state.machines id seat (goes_on after_it after_it.state) ne;
    invariant = invariant;
    places = places;
    page_here = λ least. (page, put_here tree_state.pages number (Some page), refl);
    other_pages = λ n least differ. put_else tree_state.pages number n (Some page) differ;
    prime_here = λ zero_is. absurd (omega (arith, zero_is, some_number));
    other_prime = λ least. refl;
    prime_numbers = h.prime_numbers;
    others_free = λ n not_own none_there. free_else n (apart n not_own none_there) none_there;
    own_free = own_free;
    call_free = call_free;
    call_before = call_before;
    same_spare = same_spare;
    spare_free = spare_free;
    no_other_page = λ n beyond. free_else n (λ same. omega (arith, same, beyond, in_range)) (h.no_other_page n beyond);
    in_chain = in_chain;
  }

-- the row that it publishes isn't at hand any more
rows_after : (whose : ℕ → ℕ) (seat : ℕ) (v w : View) → w.rows ≡ v.rows → w.call.rows ≡ span (suc v.call.rows.next) v.call.rows.stop → (row : ℕ) → IsAtHand w row → IsAtHand v row ⊎ (whose row ≢ suc seat)
rows_after whose seat v w rows call row hand =
    let hand_now : IsWithin v.rows row ⊎ IsWithin (span (suc v.call.rows.next) v.call.rows.stop) row = subst (λ (x : Span × Span). IsWithin x.0 row ⊎ IsWithin x.1 row) (λ i. (rows i, call i)) hand in
    ⊎_elim (λ (t : IsWithin v.rows row). inl (inl t)) (λ (t : (suc v.call.rows.next ≤ row) × (row < v.call.rows.stop)). inl (inr (omega (arith, t), t.1))) hand_now

-- the write of a page whose latch the seat holds
module _ (plan : Plan) (s : State ℕ View) (table : IsTable plan s) (id number : ℕ) (me : SeatState) (m : PlainMachine) (at : get_elem? s.views id ≡ some me.0) (role : me.0.role ≡ Pass) (at_m : me.0.operation ≡ Some m) (fits : FitsWords m.op)
    (needs : NeedsWrite m number) (some_number : 1 ≤ number) (in_range : number < plan.counts.numbers) (stock : Stock) (same_spare : stock.spare ≡ me.0.stock.spare) where
  abbrev page_state : TreeState
  page_state = table.0

  abbrev pub page_rule : IsTableAt plan s page_state
  page_rule = table.1

  page_known : Knows plan page_rule.owners s.words page_state page_rule.log id me.0
  page_known = page_rule.views id me.0 at

  abbrev after_page : PlainMachine
  after_page = done m 0

  pub page_its : IsItsOperation page_state id m
  page_its = under_way (page_known.operation ∙ at_m)

  pub page_well : WritesWell page_state id m number
  page_well = (step_law.invariant_gives_order page_state page_rule.invariant).writes_page id number m page_its needs

  abbrev pub page_then : TreeState
  page_then = written page_state number (page_out m 0) id (goes_on after_page after_page.state)

  page_workers : IsWorkersNow page_state.machines page_then.machines id after_page
  page_workers = record { own = put_here page_state.machines id (goes_on after_page after_page.state); others = λ seat ne. put_else page_state.machines id seat (goes_on after_page after_page.state) ne }

  pub page_stepped : Steps page_state id m (Moved (kinds.WritePage number)) after_page page_then
  page_stepped = writes_page number needs refl refl refl refl
      (record { written = put_here page_state.pages number (Some (page_out m 0)); others = λ n ne. put_else page_state.pages number n (Some (page_out m 0)) ne })
      refl
      page_workers

  page_differs : (n : ℕ) → page_state.pages n ≡ None → n ≢ number
  page_differs n none_there same = let there : page_state.pages n ≡ Some page_well.before = ap page_state.pages same ∙ page_well.there in cc

  pub page_tree : IsStepOfTree plan s page_state page_then page_rule id number (descent_bound page_then.pages after_page) me.0 after_page (page_words (page_out m 0)) me.0.call.pages stock at role
  page_tree =
      let known = page_known in
      let page : PlainPage = page_out m 0 in
      let way : ℕ = descent_bound page_then.pages after_page in
      let invariant = step_law.step_keeps_invariant page_state page_then id m after_page (Moved (kinds.WritePage number)) page_rule.invariant fits page_its page_stepped in
      let places = step_law.places_stay.stay page_state page_then id m after_page (Moved (kinds.WritePage number)) page_rule.invariant page_its page_stepped in
      tree_written plan s page_state page_rule id number way me.0 after_page page me.0.call.pages stock at role some_number in_range (inl page_well.latched) invariant places
      (leaves_stay page_state page_then id m after_page page_rule.invariant invariant page_its page_workers places (λ n unlinked. absurd (none_after_write m number n needs unlinked))) (λ n not_own none_there. page_differs n none_there)
      (numbers_else plan s page_state page_rule id number way me.0 after_page page me.0.call.pages stock at role some_number in_range me.0.pages (λ n low high. page_differs n (known.numbers.free n low high)) known.numbers)
      (numbers_else plan s page_state page_rule id number way me.0 after_page page me.0.call.pages stock at role some_number in_range me.0.call.pages (λ n low high. page_differs n (known.for_call.numbers.free n low high)) known.for_call.numbers)
      known.for_call.before.1 same_spare (spare_beside plan page_rule.owners page_rule.owners page_state page_then (suc id) me.0.stock.spare me.0.pages.next me.0.call.pages known.spare me.0.pages.next me.0.call.pages (omega arith) (λ n within is. is) (λ n within own. own)
      (λ n within own none. put_else page_state.pages number n (Some page) (page_differs n none) ∙ none))

-- in a page's place
page_becomes_published : (plan : Plan) (s : State ℕ View) (table : IsTable plan s) (id number : ℕ) (me : SeatState) (m : PlainMachine) → get_elem? s.views id ≡ some me.0 → me.0.role ≡ Pass → me.0.operation ≡ Some m → FitsWords m.op
    → NeedsWrite m number → 1 ≤ number → number < plan.counts.numbers → me.0.call.rows.next < me.0.call.rows.stop → BeginWith me.0.call.staged (page_words (page_out m 0)) → MayChange me.0 (key_of m.op)
    → BecomesPublished plan s id number (write_page number) me.0.call.pages (takes_out (named_row s.words number) me.0.stock) me m (done m 0)
page_becomes_published plan s table id number me m at role at_m fits needs some_number in_range room is_row may =
    let tree_state : TreeState = table.0 in
    let h : IsTableAt plan s tree_state = table.1 in
    let known = h.views id me.0 at in
    let out : Stock = takes_out (named_row s.words number) me.0.stock in
    let well = page_well plan s table id number me m at role at_m fits needs some_number in_range out refl in
    becomes_published plan s tree_state (page_then plan s table id number me m at role at_m fits needs some_number in_range out refl) h id number (kinds.WritePage number) me.0.call.pages out me m (done m 0) (page_words (page_out m 0)) at role (m, at_m)
    (page_its plan s table id number me m at role at_m fits needs some_number in_range out refl) fits (page_stepped plan s table id number me m at role at_m fits needs some_number in_range out refl)
    (page_tree plan s table id number me m at role at_m fits needs some_number in_range out refl) in_range room is_row may
    (λ w reads its_role busy place look stock rows call common. page_is_safe plan s tree_state h id number me.0.call.rows.next me.0 w at (h.reuse common) in_range (known.for_call.first_own room).1 reads its_role busy place look (inr (omega arith, room)) (rows_after h.owners.row id me.0 w rows call)
    (subst (PageWordIs plan h.owners s.words (slice_index s.words number)) well.there (h.pages number some_number in_range)).published stock)

pub page_is_published : (plan : Plan) (slots id number : ℕ) (me : SeatState) (m : PlainMachine) → me.0.role ≡ Pass → me.0.operation ≡ Some m → FitsWords m.op → NeedsWrite m number
    → 1 ≤ number → number < plan.counts.numbers → me.0.call.rows.next < me.0.call.rows.stop → BeginWith me.0.call.staged (page_words (page_out m 0)) → MayChange me.0 (key_of m.op)
    → Allows (IsTable plan) slots id me number (λ n. me.0.call.rows.next) (λ n. publishes_page (step slots number me.0.call.rows.next 0 none) me n)
page_is_published plan slots id number me m role at_m fits needs some_number in_range room is_row may s table homes at small =
    let to = page_becomes_published plan s table id number me m at role at_m fits needs some_number in_range room is_row may in
    let then : SeatState = (publishes me.0 (done m 0) to.way me.0.call.pages to.share to.seen (takes_out (named_row s.words number) me.0.stock), me.1) in (
      then.0,
      keeps,
      tt,
      to.table,
      λ k at_k needs_k.
          let same : m ≡ k = cc in
          subst (λ (j : PlainMachine). PublishesPage number (named_row s.words number) j me then) same
          record { way = to.way; share = to.share; seen = to.seen; is = refl; learns = to.learns; decided = to.decided; next = to.next; uses = to.uses; answers_at_end = to.answers_at_end; knows_own = to.knows_own; ends_with_own = to.ends_with_own },
    )

-- ---- a new page

new_becomes_published : (plan : Plan) (s : State ℕ View) (table : IsTable plan s) (id : ℕ) (me : SeatState) (m : PlainMachine) → get_elem? s.views id ≡ some me.0 → me.0.role ≡ Pass → me.0.operation ≡ Some m → FitsWords m.op → NeedsNew m
    → me.0.call.pages.next < me.0.call.pages.stop → me.0.call.rows.next < me.0.call.rows.stop → BeginWith me.0.call.staged (page_words (page_out m me.0.call.pages.next)) → MayChange me.0 (key_of m.op)
    → BecomesPublished plan s id me.0.call.pages.next (write_page me.0.call.pages.next) (span (suc me.0.call.pages.next) me.0.call.pages.stop) me.0.stock me m (done m me.0.call.pages.next)
new_becomes_published plan s table id me m at role at_m fits needs number_left room is_row may =
    let tree_state : TreeState = table.0 in
    let h : IsTableAt plan s tree_state = table.1 in
    let known = h.views id me.0 at in
    let number : ℕ = me.0.call.pages.next in
    let rest : Span = span (suc number) me.0.call.pages.stop in
    let numbers = known.for_call.numbers in
    let some_number : 1 ≤ number = numbers.in_range.0 in
    let last = numbers.in_range.1 in
    let in_range : number < plan.counts.numbers = omega (arith, last, number_left) in
    let few = h.bounded.numbers_bounded in
    let after_it : PlainMachine = done m number in
    let its : IsItsOperation tree_state id m = under_way (known.operation ∙ at_m) in
    let page : PlainPage = page_out m number in
    let then : TreeState = written tree_state number page id (goes_on after_it after_it.state) in
    let none_there : tree_state.pages number ≡ None = numbers.free number (omega arith) number_left in
    let workers : IsWorkersNow tree_state.machines then.machines id after_it = record { own = put_here tree_state.machines id (goes_on after_it after_it.state); others = λ seat ne. put_else tree_state.machines id seat (goes_on after_it after_it.state) ne } in
    let stepped : Steps tree_state id m (Moved (kinds.WritePage number)) after_it then = writes_new number needs (some_number, omega (arith, in_range, few)) none_there refl refl refl refl
    (record { written = put_here tree_state.pages number (Some page); others = λ n ne. put_else tree_state.pages number n (Some page) ne })
    refl
    workers in
    let invariant = step_law.step_keeps_invariant tree_state then id m after_it (Moved (kinds.WritePage number)) h.invariant fits its stepped in
    let places = step_law.places_stay.stay tree_state then id m after_it (Moved (kinds.WritePage number)) h.invariant its stepped in
    let way : ℕ = descent_bound then.pages after_it in
    let before = known.for_call.before.1 in
    let tree = tree_written plan s tree_state h id number way me.0 after_it page rest me.0.stock at role some_number in_range (inr none_there) invariant places
    (leaves_stay tree_state then id m after_it h.invariant invariant its workers places (λ n unlinked. ap tree_state.pages (sym (new_is_unlinked m number n needs unlinked)) ∙ none_there)) (λ n not_own free same. not_own (ap h.owners.page same ∙ numbers.own number (omega arith) number_left))
    (numbers_else plan s tree_state h id number way me.0 after_it page rest me.0.stock at role some_number in_range me.0.pages (λ n low high same. omega (arith, low, same, before, number_left)) known.numbers)
    (numbers_else plan s tree_state h id number way me.0 after_it page rest me.0.stock at role some_number in_range rest (λ n low high same. omega (arith, low, same))
    (record { in_range = (omega arith, last); own = λ n low high. numbers.own n (omega (arith, low)) high; free = λ n low high. numbers.free n (omega (arith, low)) high }))
    before refl (spare_beside plan h.owners h.owners tree_state then (suc id) me.0.stock.spare me.0.pages.next me.0.call.pages known.spare me.0.pages.next rest (omega arith) (λ n within is. (omega (arith, is), is.1)) (λ n within own. own)
    (λ n within own none. put_else tree_state.pages number n (Some page) (λ same. known.spare.apart n within (omega (arith, same), omega (arith, same, number_left))) ∙ none)) in
    becomes_published plan s tree_state then h id number (kinds.WritePage number) rest me.0.stock me m after_it (page_words page) at role (m, at_m) its fits stepped tree in_range room is_row may
    (λ w reads its_role busy place look stock rows call common. new_page_is_safe plan s tree_state h id number me.0.call.rows.next me.0 w at (h.reuse common) in_range (known.for_call.first_own room).1 reads its_role busy place look (inr (omega arith, room)) (rows_after h.owners.row id me.0 w rows call) stock)

pub new_is_published : (plan : Plan) (slots id : ℕ) (me : SeatState) (m : PlainMachine) → me.0.role ≡ Pass → me.0.operation ≡ Some m → FitsWords m.op → NeedsNew m
    → me.0.call.pages.next < me.0.call.pages.stop → me.0.call.rows.next < me.0.call.rows.stop → BeginWith me.0.call.staged (page_words (page_out m me.0.call.pages.next)) → MayChange me.0 (key_of m.op)
    → Allows (IsTable plan) slots id me me.0.call.pages.next (λ n. me.0.call.rows.next) (λ n. publishes_new (step slots me.0.call.pages.next me.0.call.rows.next 0 none) me n)
new_is_published plan slots id me m role at_m fits needs number_left room is_row may s table homes at small =
    let to = new_becomes_published plan s table id me m at role at_m fits needs number_left room is_row may in
    let then : SeatState = (publishes me.0 (done m me.0.call.pages.next) to.way (span (suc me.0.call.pages.next) me.0.call.pages.stop) to.share to.seen me.0.stock, me.1) in (
      then.0,
      keeps,
      tt,
      to.table,
      λ k at_k needs_k.
          let same : m ≡ k = cc in
          subst (λ (j : PlainMachine). PublishesNew j me then) same
          record { way = to.way; share = to.share; seen = to.seen; is = refl; learns = to.learns; decided = to.decided; next = to.next; uses = to.uses; answers_at_end = to.answers_at_end; knows_own = to.knows_own; ends_with_own = to.ends_with_own },
    )

-- ---- the prime block

-- the tree state in which the prime block is another, and a worker has another operation
abbrev grown : TreeState → List ℕ → ℕ → Option PlainMachine → TreeState
grown tree_state prime worker operation = record tree_state { prime = prime; machines = put tree_state.machines worker operation }

prime_becomes_published : (plan : Plan) (s : State ℕ View) (table : IsTable plan s) (id : ℕ) (me : SeatState) (m : PlainMachine) (prime : List ℕ) → get_elem? s.views id ≡ some me.0 → me.0.role ≡ Pass → me.0.operation ≡ Some m → FitsWords m.op
    → NeedsPrimeWrite m → PrimeOut m prime → 1 ≤ plan.counts.numbers → me.0.call.rows.next < me.0.call.rows.stop → BeginWith me.0.call.staged (prime_words prime) → MayChange me.0 (key_of m.op)
    → BecomesPublished plan s id 0 write_prime me.0.call.pages (takes_out (named_row s.words 0) me.0.stock) me m (done m 0)
prime_becomes_published plan s table id me m prime at role at_m fits needs out some_number room is_row may =
    let tree_state : TreeState = table.0 in
    let h : IsTableAt plan s tree_state = table.1 in
    let known = h.views id me.0 at in
    let after_it : PlainMachine = done m 0 in
    let its : IsItsOperation tree_state id m = under_way (known.operation ∙ at_m) in
    let then : TreeState = grown tree_state prime id (goes_on after_it after_it.state) in
    let workers : IsWorkersNow tree_state.machines then.machines id after_it = record { own = put_here tree_state.machines id (goes_on after_it after_it.state); others = λ seat ne. put_else tree_state.machines id seat (goes_on after_it after_it.state) ne } in
    let stepped : Steps tree_state id m (Moved kinds.WritePrime) after_it then = writes_prime needs out refl refl refl refl refl
    workers in
    let invariant = step_law.step_keeps_invariant tree_state then id m after_it (Moved kinds.WritePrime) h.invariant fits its stepped in
    let places = step_law.places_stay.stay tree_state then id m after_it (Moved kinds.WritePrime) h.invariant its stepped in
    let way : ℕ = descent_bound then.pages after_it in
    let tree : IsStepOfTree plan s tree_state then h id 0 way me.0 after_it (prime_words prime) me.0.call.pages (takes_out (named_row s.words 0) me.0.stock) at role = record {
      same_fan = refl;
      same_holder = λ n. refl;
      its_to_write = λ least. absurd (omega (arith, least));
      own = put_here tree_state.machines id (goes_on after_it after_it.state);
      others = λ seat ne. put_else tree_state.machines id seat (goes_on after_it after_it.state) ne;
      invariant = invariant;
      places = places;
      page_here = λ least. absurd (omega (arith, least));
      other_pages = λ n least differ. refl;
      prime_here = λ zero_is. refl;
      other_prime = λ least. absurd (omega (arith, least));
      prime_numbers = (step_law.invariant_gives_order tree_state h.invariant).writes_prime id m prime its needs out h.prime_numbers;
      others_free = λ n not_own none_there. none_there;
      own_free = record { in_range = known.numbers.in_range; own = known.numbers.own; free = known.numbers.free };
      call_free = record { in_range = known.for_call.numbers.in_range; own = known.for_call.numbers.own; free = known.for_call.numbers.free };
      call_before = known.for_call.before.1;
      same_spare = refl;
      spare_free = spare_still plan h.owners h.owners tree_state then (suc id) me.0.stock.spare me.0.pages.next me.0.call.pages known.spare (λ n own. own) (λ n none. none);
      no_other_page = h.no_other_page;
      in_chain = leaves_stay tree_state then id m after_it h.invariant invariant its workers places (λ n unlinked. absurd (none_after_prime m n needs unlinked));
    } in
    becomes_published plan s tree_state then h id 0 kinds.WritePrime me.0.call.pages (takes_out (named_row s.words 0) me.0.stock) me m after_it (prime_words prime) at role (m, at_m) its fits stepped tree (omega (arith, some_number)) room is_row may
    (λ w reads its_role busy place look stock rows call common. page_is_safe plan s tree_state h id 0 me.0.call.rows.next me.0 w at (h.reuse common) (omega (arith, some_number)) (known.for_call.first_own room).1 reads its_role busy place look (inr (omega arith, room)) (rows_after h.owners.row id me.0 w rows call) h.prime.published stock)

pub prime_is_published : (plan : Plan) (slots id : ℕ) (me : SeatState) (m : PlainMachine) (prime : List ℕ) → me.0.role ≡ Pass → me.0.operation ≡ Some m → FitsWords m.op → NeedsPrimeWrite m → PrimeOut m prime
    → 1 ≤ plan.counts.numbers → me.0.call.rows.next < me.0.call.rows.stop → BeginWith me.0.call.staged (prime_words prime) → MayChange me.0 (key_of m.op)
    → Allows (IsTable plan) slots id me 0 (λ n. me.0.call.rows.next) (λ n. publishes_prime (step slots 0 me.0.call.rows.next 0 none) me n)
prime_is_published plan slots id me m prime role at_m fits needs out some_number room is_row may s table homes at small =
    let to = prime_becomes_published plan s table id me m prime at role at_m fits needs out some_number room is_row may in
    let then : SeatState = (publishes me.0 (done m 0) to.way me.0.call.pages to.share to.seen (takes_out (named_row s.words 0) me.0.stock), me.1) in (
      then.0,
      keeps,
      tt,
      to.table,
      λ k at_k needs_k.
          let same : m ≡ k = cc in
          subst (λ (j : PlainMachine). PublishesPrime (named_row s.words 0) j me then) same
          record { way = to.way; share = to.share; seen = to.seen; is = refl; learns = to.learns; decided = to.decided; next = to.next; uses = to.uses; answers_at_end = to.answers_at_end; knows_own = to.knows_own; ends_with_own = to.ends_with_own },
    )
