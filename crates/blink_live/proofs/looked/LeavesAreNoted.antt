-- The loads of a snapshot keep the rule: a seat notes leaves, marks a tree state, and loads their page words once more.
use Rattle.std.proofs.Common.{◌≡◌, ◌≢◌, ⊎_elim, ℕ, suc, ◌<◌, ◌≤◌, Option, Some, None, List, [], get_or, set, refl, sym, ap, ◌∙◌, arith, subst, inl, inr}
use Rattle.std.specs.Prelude.{Contains, slice_index}
use mathlib.Core.Option.{some, none}
use mathlib.Core.List.{append-nil}
use mathlib.Core.Logic.{dite}
use native.Mathlib.Decide.{ℕ_discrete}
use lib.ListN.{get_elem?}
use lib.Seq.{set-get_or}
use Rattle.atomic_table.specs.Table.{State, step, keeps, Allows}
use Rattle.atomic_table.proofs.Lists.{set_again}
use Rattle.blink_batch.specs.{pointer_of}
use Rattle.blink_page.specs.{PlainPage, IsLawfulPage}
use Rattle.blink_page.specs.declared.limits.TheConstants.{MAX_FAN}
use Rattle.blink_rows.specs.{page_words, row_in}
use Rattle.blink_machine.specs.declared.machine.State.TheVariants.{Going}
use Rattle.blink_machine.specs.{PlainMachine, need_at, under_way}
use Rattle.blink_machine.specs.Invariant.{Invariant}
use Rattle.blink_machine.specs.TreeState.{TreeState}
use Rattle.blink_machine.proofs.Offered.{step_law, tree_laws}
use Rattle.blink_live.specs.declared.view.Change.{Change}
use Rattle.blink_live.specs.declared.view.Look.{Look}
use Rattle.blink_live.specs.declared.view.Plan.{Plan}
use Rattle.blink_live.specs.declared.view.Role.TheVariants.{Pass}
use Rattle.blink_live.specs.declared.view.View.{View}
use Rattle.blink_live.specs.Changes.{after}
use Rattle.blink_live.specs.Looks.{HasLooked, IsNoted, TellsAll}
use Rattle.blink_live.specs.Reuse.{HasNoted}
use Rattle.blink_live.specs.Rule.{IsInRole, IsTable, IsTableAt, Knows, Owners, PageWordIs}
use Rattle.blink_live.specs.Snapshots.{looks_again, marks, marks_state, notes, notes_leaf, reads_again}
use Rattle.blink_live.specs.Views.{IsCommon, SeatState}
use Rattle.blink_live.specs.Words.{named_row}
use Rattle.blink_live.proofs.dealt.FirstOrOneOfRest.{contains_case}
use Rattle.blink_live.proofs.found.ReadsPage.{lawful_within}
use Rattle.blink_live.proofs.reuse.ReuseStaysSafe.{hand_stays, reads_named, reuse_stays, same_reads}
use Rattle.blink_live.proofs.table.AccountsStay.{account, still_saw}
use Rattle.blink_live.proofs.table.LeavesStayInChain.{comes_to_leaf, leaf_tells_all}
use Rattle.blink_live.proofs.table.LoadsKeepTable.{moved, load_knows_in, load_keeps_with}
use Rattle.blink_live.proofs.table.MapsWithOneChange.{put_same}
use Rattle.blink_live.proofs.table.SharesAreKnown.{share_is_known}

-- ---- a seat with other notes

pub with_look : (plan : Plan) (owners : Owners) (words : List ℕ) (tree_state : TreeState) (log : List Change) (id : ℕ) (v : View) (look : Look) → v.role ≡ Pass → HasLooked plan owners.row words tree_state.fan tree_state.prime tree_state.pages look
    → Knows plan owners words tree_state log id v → Knows plan owners words tree_state log id (record v { look = look })
with_look plan owners words tree_state log id v look role looked known = record {
  same_plan = known.same_plan;
  operation = known.operation;
  bounded = known.bounded;
  reads = (known.reads.0, looked);
  appends = known.appends;
  rows = known.rows;
  numbers = known.numbers;
  for_call = known.for_call;
  spare = known.spare;
  share = known.share;
  saw = known.saw;
  heard = known.heard;
  in_role = let kept = subst (IsInRole plan owners log id v) role known.in_role in subst (IsInRole plan owners log id (record v { look = look })) (sym role) kept;
  placed = λ common is. let p = known.placed common is in record { in_range = p.in_range; own = p.own; word = p.word; busy = p.busy };
  places_left = known.places_left;
  nothing = known.nothing;
}

module _ (plan : Plan) (s : State ℕ View) (tree_state : TreeState) (h : IsTableAt plan s tree_state) (id : ℕ) (v : View) (at : get_elem? s.views id ≡ some v) (role : v.role ≡ Pass) where
  pub known : Knows plan h.owners s.words tree_state h.log id v
  known = h.views id v at

  pub kept : IsInRole plan h.owners h.log id v Pass
  kept = subst (IsInRole plan h.owners h.log id v) role known.in_role

  pub still : Invariant (moved tree_state id v.operation)
  still = step_law.idle_workers_dont_matter tree_state (moved tree_state id v.operation) (record {
    same_fan = refl;
    same_prime = refl;
    same_pages = λ number. refl;
    same_holder = λ number. refl;
    same_machines = put_same tree_state.machines id v.operation known.operation;
  }) h.invariant

  pub busy : IsCommon plan → v.role ≡ Pass → (m : PlainMachine) → v.operation ≡ Some m → 1 ≤ v.busy
  busy common is m goes = (known.placed common is).busy m goes

  -- ---- a leaf is noted

  module _ (number : ℕ) (m : PlainMachine) (at_m : v.operation ≡ Some m) (going : m.state ≡ Going number 0) (some_number : 1 ≤ number) (in_range : number < plan.counts.numbers) (announced : IsCommon plan → 2 ≤ v.busy) where
    abbrev its_word : ℕ
    its_word = slice_index s.words number

    abbrev noted : View
    noted = notes v number (slice_index s.words number)

    under : tree_state.machines id ≡ Some m
    under = known.operation ∙ at_m

    names_page : (page : PlainPage) → tree_state.pages number ≡ Some page → PageWordIs plan h.owners s.words its_word (Some page)
    names_page page there = subst (PageWordIs plan h.owners s.words its_word) there (h.pages number some_number in_range)

    first_noted : IsNoted plan h.owners.row s.words tree_state.fan tree_state.prime tree_state.pages None number its_word
    first_noted =
        let reads = (step_law.invariant_gives_order tree_state h.invariant).reads_page id number m (under_way under) (ap need_at going) in
        let is_page = names_page reads.page reads.there in record {
          in_range = (some_number, in_range);
          row_in_range = is_page.published.0;
          unowned = is_page.published.1;
          since = λ names. omega arith;
          in_chain = comes_to_leaf tree_state id number m h.invariant under going;
          tells = λ changes is. absurd (let e : None ≡ Some changes = is in cc);
        }

    others_noted : (n r : ℕ) → Contains v.look.leaves (n, r) → IsNoted plan h.owners.row s.words tree_state.fan tree_state.prime tree_state.pages None n r
    others_noted n r has = let was = known.reads.1 n r has in record {
      in_range = was.in_range;
      row_in_range = was.row_in_range;
      unowned = was.unowned;
      since = was.since;
      in_chain = was.in_chain;
      tells = λ changes is. absurd (let e : None ≡ Some changes = is in cc);
    }

    looked : HasLooked plan h.owners.row s.words tree_state.fan tree_state.prime tree_state.pages noted.look
    looked n r has = contains_case (number, its_word) v.look.leaves (n, r) has
        (λ is. subst (λ (x : ℕ × ℕ). IsNoted plan h.owners.row s.words tree_state.fan tree_state.prime tree_state.pages None x.0 x.1) is first_noted) (others_noted n r)

    pub note_keeps : IsTable plan record { words = set s.words number (get_or s.words number 0); homes = s.homes; views = set s.views id (notes v number (slice_index s.words number)) }
    note_keeps = load_keeps_with plan s tree_state h id number v noted at still refl refl refl (λ common. (h.accounted common).saw_own id v at)
        (λ common. reuse_stays plan h.owners.row s.words s.views id v noted at (h.reuse common) h.owners.row s.words (λ r is. is) (λ seat r later is apart. is) (λ n few. refl) refl (hand_stays h.owners.row id v noted refl refl)
        (λ other content holds. record {
          awake = (role, announced common);
          from = ⊎_elim (λ (now : v.reads ≡ Some (other, content)). inl (content, inl now, refl, refl))
              (λ (has : HasNoted noted.look other). contains_case (number, its_word) v.look.leaves (has.0, has.1) has.2
              (λ is. inr (number, in_range, ap (λ (x : ℕ × ℕ). row_in x.1) is ∙ has.3)) (λ before. inl (content, inr (has.0, has.1, before, has.3), refl, refl))) holds;
        }))
        (with_look plan h.owners s.words (moved tree_state id v.operation) h.log id v noted.look role looked (load_knows_in plan s tree_state h id number v v at known.in_role busy refl known.bounded known.reads.0 known.appends known.saw))

  -- ---- a tree state is marked

  abbrev marked : View
  marked = marks v h.log

  marked_looks : HasLooked plan h.owners.row s.words tree_state.fan tree_state.prime tree_state.pages marked.look
  marked_looks n r has = let was = known.reads.1 n r has in record {
    in_range = was.in_range;
    row_in_range = was.row_in_range;
    unowned = was.unowned;
    since = was.since;
    in_chain = was.in_chain;
    tells = λ changes is named leaf there. subst (λ (l : List Change). TellsAll (after (pointer_of plan.opening) l) leaf) (let e : h.log ≡ changes = cc in e)
        (leaf_tells_all tree_state.fan tree_state.prime tree_state.pages n leaf h.now (after (pointer_of plan.opening) h.log) was.in_chain there h.is_map.kept h.kept);
  }

  pub mark_keeps : IsTable plan record { words = set s.words 0 (get_or s.words 0 0); homes = s.homes; views = set s.views id (marks v h.log) }
  mark_keeps =
      let seen : View = record v { seen = h.log } in
      load_keeps_with plan s tree_state h id 0 v marked at still refl refl refl
      (λ common is. still_saw plan h.owners.place h.log s.views id v marked at (h.accounted common) (account plan h.owners.place h.log s.views id v marked at (h.accounted common) is) h.log known.saw ([], append-nil h.log) is)
      (λ common. reuse_stays plan h.owners.row s.words s.views id v marked at (h.reuse common) h.owners.row s.words (λ r is. is) (λ seat r later is apart. is) (λ n few. refl) refl (hand_stays h.owners.row id v marked refl refl)
      (same_reads plan h.owners.row s.words s.views id v marked at (h.reuse common) refl refl refl refl refl))
      (with_look plan h.owners s.words (moved tree_state id v.operation) h.log id seen marked.look role marked_looks
      (load_knows_in plan s tree_state h id 0 v seen at (subst (IsInRole plan h.owners h.log id seen) (sym role) kept) busy refl known.bounded known.reads.0 known.appends ([], append-nil h.log)))

  -- ---- a page word is loaded again

  module _ (number : ℕ) (some_number : 1 ≤ number) (in_range : number < plan.counts.numbers) (awake : IsCommon plan → 2 ≤ v.busy) (page : PlainPage) (there : tree_state.pages number ≡ Some page) where
    abbrev named : ℕ
    named = named_row s.words number

    pub is_page : PageWordIs plan h.owners s.words (slice_index s.words number) (Some page)
    is_page = subst (PageWordIs plan h.owners s.words (slice_index s.words number)) there (h.pages number some_number in_range)

    abbrev again : View
    again = reads_again v (named_row s.words number) (page_words is_page.base) is_page.behind

    pub again_keeps : IsTable plan record { words = set s.words number (get_or s.words number 0); homes = s.homes; views = set s.views id (reads_again v (named_row s.words number) (page_words is_page.base) is_page.behind) }
    again_keeps = load_keeps_with plan s tree_state h id number v again at still refl refl refl (λ common. (h.accounted common).saw_own id v at)
        (λ common. reuse_stays plan h.owners.row s.words s.views id v again at (h.reuse common) h.owners.row s.words (λ r is. is) (λ seat r later is apart. is) (λ n few. refl) refl (hand_stays h.owners.row id v again refl refl)
        (reads_named plan s.words v again number named (page_words is_page.base) refl refl refl refl role (awake common) in_range refl))
        (load_knows_in plan s tree_state h id number v again at (subst (IsInRole plan h.owners h.log id again) (sym role) kept) busy refl known.bounded (is_page.published, is_page.begins, (let all = is_page.fixed in omega (arith, all))) tt known.saw)

    pub is_lawful : Contains v.look.leaves (number, slice_index s.words number) → IsLawfulPage MAX_FAN page
    is_lawful has =
        let chain = (known.reads.1 number (slice_index s.words number) has).in_chain in
        let it = tree_laws.cells_are_of_level tree_state.fan tree_state.prime tree_state.pages chain.levels 0 chain.cell chain.tree chain.stands in
        let same : chain.cell.page ≡ page = cc (it.there, there, ap tree_state.pages chain.same_number) in
        lawful_within tree_state.fan page h.invariant.1.fan_in_range.1 (subst (IsLawfulPage tree_state.fan) same it.lawful)

    pub tells_marked : (changes : List Change) → v.look.marked ≡ Some changes → Contains v.look.leaves (number, slice_index s.words number) → TellsAll (after (pointer_of v.plan.opening) changes) page
    tells_marked changes is has =
        subst (λ (p : Plan). TellsAll (after (pointer_of p.opening) changes) page) (sym known.same_plan) ((known.reads.1 number (slice_index s.words number) has).tells changes is refl page there)

-- ---- the steps

pub notes_leaf_at : (plan : Plan) (slots id number : ℕ) (me : SeatState) (m : PlainMachine) → me.0.role ≡ Pass → me.0.operation ≡ Some m → m.state ≡ Going number 0 → 1 ≤ number → number < plan.counts.numbers → (IsCommon plan → 2 ≤ me.0.busy)
    → Allows (IsTable plan) slots id me number (λ k. k) (notes_leaf (step slots number 0 0 none) me)
notes_leaf_at plan slots id number me m role at_m going some_number in_range announced s table homes at small =
    (notes me.0 number (slice_index s.words number), keeps, tt, note_keeps plan s table.0 table.1 id me.0 at role number m at_m going some_number in_range announced, refl)

pub marks_state_at : (plan : Plan) (slots id : ℕ) (me : SeatState) → me.0.role ≡ Pass → Allows (IsTable plan) slots id me 0 (λ k. k) (marks_state (step slots 0 0 0 none) me)
marks_state_at plan slots id me role s table homes at small =
    let h : IsTableAt plan s table.0 = table.1 in
    let its = h.views id me.0 at in (
      marks me.0 h.log,
      keeps,
      tt,
      mark_keeps plan s table.0 h id me.0 at role,
      record { seen = h.log; is = refl; saw = its.saw; knows_own = share_is_known plan h.owners (suc id) (marks me.0 h.log) its.same_plan its.share },
    )

-- a page word that isn't 0 is that of a page
page_of : (plan : Plan) (owners : Owners) (words : List ℕ) (word : ℕ) (page : Option PlainPage) → PageWordIs plan owners words word page → word ≢ 0 → (p : PlainPage) × (page ≡ Some p)
page_of plan owners words word None is differs = absurd (differs is)
page_of plan owners words word (Some p) is differs = (p, refl)

pub looks_again_at : (plan : Plan) (slots id number : ℕ) (me : SeatState) → me.0.role ≡ Pass → (IsCommon plan → 2 ≤ me.0.busy) → 1 ≤ number → number < plan.counts.numbers
    → Allows (IsTable plan) slots id me number (λ k. k) (looks_again (step slots number 0 0 none) me)
looks_again_at plan slots id number me role awake some_number in_range s table homes at small =
    let tree_state : TreeState = table.0 in
    let h : IsTableAt plan s tree_state = table.1 in
    let word : ℕ = slice_index s.words number in
    let row : ℕ = named_row s.words number in
    let its_page = λ (page : PlainPage) (there : tree_state.pages number ≡ Some page). is_page plan s tree_state h id me.0 at role number some_number in_range awake page there in
    dite (ℕ_discrete word 0)
    (λ blank. (
      me.0,
      keeps,
      tt,
      subst (λ (t : List ℕ × List View). IsTable plan record { words = t.0; homes = s.homes; views = t.1 }) (λ i. (sym (set-get_or s.words number 0) i, sym (set_again s.views id me.0 at) i)) table,
      record { some = λ named. absurd (named blank); none = λ is. refl },
    ))
    (λ named.
    let page = page_of plan h.owners s.words word (tree_state.pages number) (h.pages number some_number in_range) named in (
      reads_again me.0 row (page_words (its_page page.0 page.1).base) (its_page page.0 page.1).behind,
      keeps,
      tt,
      again_keeps plan s tree_state h id me.0 at role number some_number in_range awake page.0 page.1,
      record {
        some = λ again. record {
          page = page.0;
          base = (its_page page.0 page.1).base;
          behind = (its_page page.0 page.1).behind;
          is = refl;
          version = (its_page page.0 page.1).version;
          row_in_range = subst (λ (p : Plan). (1 ≤ row) × (row ≤ p.counts.rows)) (sym (h.views id me.0 at).same_plan) (is_page plan s tree_state h id me.0 at role number some_number in_range awake page.0 page.1).published.0;
          lawful = is_lawful plan s tree_state h id me.0 at role number some_number in_range awake page.0 page.1;
          tells = tells_marked plan s tree_state h id me.0 at role number some_number in_range awake page.0 page.1;
        };
        none = λ is. absurd (named is);
      },
    ))
