-- The load of the page word of a leaf that the seat has noted keeps the rule. The seat sees all changes up to it, and notes the leaf to
-- the right.
use Rattle.std.proofs.Common.{◌≡◌, ⊎_elim, ◌⊎◌, ℕ, suc, ◌<◌, ◌≤◌, Option, Some, None, List, [], ◌∷◌, get_or, set, refl, sym, ap, ◌∙◌, subst, inl, inr, arith}
use Rattle.std.specs.Prelude.{Contains, slice_index}
use mathlib.Core.Option.{some, none}
use mathlib.Core.List.{append-nil}
use Rattle.std.proofs.lemmas.Bool.{cases_lt}
use lib.ListN.{get_elem?}
use Rattle.atomic_table.specs.Table.{State, step, keeps, Allows}
use Rattle.blink_batch.specs.{pointer_of}
use Rattle.blink_page.specs.{PlainPage, IsLawfulPage}
use Rattle.blink_page.specs.declared.limits.TheConstants.{MAX_FAN}
use Rattle.blink_rows.specs.{page_words, row_in}
use Rattle.blink_rest.specs.{Pages}
use Rattle.blink_machine.specs.TreeState.{TreeState}
use Rattle.blink_machine.proofs.Offered.{tree_laws}
use Rattle.blink_live.specs.declared.view.Look.{Look}
use Rattle.blink_live.specs.declared.view.Plan.{Plan}
use Rattle.blink_live.specs.declared.view.Role.TheVariants.{Pass}
use Rattle.blink_live.specs.declared.view.View.{View}
use Rattle.blink_live.specs.Along.{IsNotedLeaf, goes, goes_along}
use Rattle.blink_live.specs.Changes.{after}
use Rattle.blink_live.specs.Looks.{HasLooked, IsLeafInChain, IsNoted, TellsAll}
use Rattle.blink_live.specs.Reuse.{HasNoted, HoldsRow}
use Rattle.blink_live.specs.Rule.{IsInRole, IsTable, IsTableAt, PageWordIs}
use Rattle.blink_live.specs.Views.{IsCommon, SeatState}
use Rattle.blink_live.specs.Words.{named_row}
use Rattle.blink_live.proofs.dealt.FirstOrOneOfRest.{contains_case}
use Rattle.blink_live.proofs.found.ReadsPage.{lawful_within}
use Rattle.blink_live.proofs.looked.LeavesAreNoted.{busy, kept, still, with_look}
use Rattle.blink_live.proofs.reuse.ReuseStaysSafe.{MayReadOn, hand_stays, reuse_stays, row_is}
use Rattle.blink_live.proofs.table.AccountsStay.{account, still_saw}
use Rattle.blink_live.proofs.table.LeavesStayInChain.{leaf_tells_all}
use Rattle.blink_live.proofs.table.LoadsKeepTable.{moved, load_knows_in, load_keeps_with}
use Rattle.blink_live.proofs.table.SharesAreKnown.{share_is_known}

-- a leaf in its chain is there
leaf_there : (fan : ℕ) (prime : List ℕ) (pages : Pages) (number : ℕ) → IsLeafInChain fan prime pages number → (page : PlainPage) × (pages number ≡ Some page)
leaf_there fan prime pages number is =
    let it = tree_laws.cells_are_of_level fan prime pages is.levels 0 is.cell is.tree is.stands in (is.cell.page, ap pages (sym is.same_number) ∙ it.there)

-- the right link of a leaf in its chain leads to a leaf in its chain
right_in_chain : (fan : ℕ) (prime : List ℕ) (pages : Pages) (number next : ℕ) (page : PlainPage) → IsLeafInChain fan prime pages number → pages number ≡ Some page → page.right ≡ Some next
    → (IsLeafInChain fan prime pages next) × (its : PlainPage) × (pages next ≡ Some its)
right_in_chain fan prime pages number next page is there right =
    let it = tree_laws.cells_are_of_level fan prime pages is.levels 0 is.cell is.tree is.stands in
    let same : is.cell.page ≡ page = cc (it.there, there, ap pages is.same_number) in
    let begins = tree_laws.right_begins fan prime pages is.levels 0 next is.cell is.tree is.stands (ap (λ (p : PlainPage). p.right) same ∙ right) in
    let in_chain : IsLeafInChain fan prime pages next = record { levels = is.levels; tree = is.tree; cell = begins.cell; stands = begins.stands; same_number = begins.same_number } in
    let its = leaf_there fan prime pages next in_chain in (in_chain, its.0, its.1)

-- the note of the leaf to the right; where there is none, the note that was there
abbrev next_note : Option ℕ → List ℕ → ℕ × ℕ → ℕ × ℕ
next_note None words was = was
next_note (Some next) words was = (next, slice_index words next)

module _ (plan : Plan) (s : State ℕ View) (tree_state : TreeState) (h : IsTableAt plan s tree_state) (id : ℕ) (v : View) (at : get_elem? s.views id ≡ some v) (role : v.role ≡ Pass) (awake : IsCommon plan → 2 ≤ v.busy)
    (number before : ℕ) (some_number : 1 ≤ number) (in_range : number < plan.counts.numbers) (noted : Contains v.look.leaves (number, before)) (page : PlainPage) (there : tree_state.pages number ≡ Some page) where
  abbrev named : ℕ
  named = named_row s.words number

  its_note : IsNoted plan h.owners.row s.words tree_state.fan tree_state.prime tree_state.pages v.look.marked number before
  its_note = (h.views id v at).reads.1 number before noted

  pub is_page : PageWordIs plan h.owners s.words (slice_index s.words number) (Some page)
  is_page = subst (PageWordIs plan h.owners s.words (slice_index s.words number)) there (h.pages number some_number in_range)

  abbrev pub its_look : Look
  its_look = record { leaves = next_note page.right s.words (number, before) ∷ v.look.leaves; marked = None }

  -- a note that stays, with no tree state marked
  unmarked : (n r : ℕ) → Contains v.look.leaves (n, r) → IsNoted plan h.owners.row s.words tree_state.fan tree_state.prime tree_state.pages None n r
  unmarked n r has = let was = (h.views id v at).reads.1 n r has in record {
    in_range = was.in_range;
    row_in_range = was.row_in_range;
    unowned = was.unowned;
    since = was.since;
    in_chain = was.in_chain;
    tells = λ changes is. absurd (let e : None ≡ Some changes = is in cc);
  }

  -- the leaf to the right has its number among the table's
  next_in_range : (next : ℕ) (its : PlainPage) → tree_state.pages next ≡ Some its → (1 ≤ next) × (next < plan.counts.numbers)
  next_in_range next its is = (
    (h.invariant.1.numbers_in_range next its is).0,
    elim (cases_lt next plan.counts.numbers) [
      | inl less ↦ less
      | inr more ↦ absurd (let gone = h.no_other_page next more in cc)
    ],
  )

  -- its note is right
  next_is_noted : (next : ℕ) → page.right ≡ Some next → IsNoted plan h.owners.row s.words tree_state.fan tree_state.prime tree_state.pages None next (slice_index s.words next)
  next_is_noted next right =
      let it = right_in_chain tree_state.fan tree_state.prime tree_state.pages number next page its_note.in_chain there right in
      let range = next_in_range next it.1 it.2 in
      let is : PageWordIs plan h.owners s.words (slice_index s.words next) (Some it.1) = subst (PageWordIs plan h.owners s.words (slice_index s.words next)) it.2 (h.pages next range.0 range.1) in record {
        in_range = range;
        row_in_range = is.published.0;
        unowned = is.published.1;
        since = λ names. omega arith;
        in_chain = it.0;
        tells = λ changes is. absurd (let e : None ≡ Some changes = is in cc);
      }

  note_is_right : (right : Option ℕ) → page.right ≡ right → (n r : ℕ) → (next_note right s.words (number, before)) ≡ (n, r) → IsNoted plan h.owners.row s.words tree_state.fan tree_state.prime tree_state.pages None n r
  note_is_right None link n r is = subst (λ (x : ℕ × ℕ). IsNoted plan h.owners.row s.words tree_state.fan tree_state.prime tree_state.pages None x.0 x.1) is (unmarked number before noted)
  note_is_right (Some next) link n r is = subst (λ (x : ℕ × ℕ). IsNoted plan h.owners.row s.words tree_state.fan tree_state.prime tree_state.pages None x.0 x.1) is (next_is_noted next link)

  looked : HasLooked plan h.owners.row s.words tree_state.fan tree_state.prime tree_state.pages its_look
  looked n r has = contains_case (next_note page.right s.words (number, before)) v.look.leaves (n, r) has (λ is. note_is_right page.right refl n r is) (unmarked n r)

  -- what the seat holds was held before, or a page word names it
  held : (right : Option ℕ) → page.right ≡ right → (n word : ℕ) (content : List ℕ) → next_note right s.words (number, before) ≡ (n, word)
      → ((c : List ℕ) × HoldsRow v (row_in word) c) ⊎ ((k : ℕ) × (k < plan.counts.numbers) × (named_row s.words k ≡ row_in word))
  held None link n word content is = inl (content, inr (n, word, subst (Contains v.look.leaves) is noted, refl))
  held (Some next) link n word content is =
      let it = right_in_chain tree_state.fan tree_state.prime tree_state.pages number next page its_note.in_chain there link in
      inr (next, (next_in_range next it.1 it.2).1, ap (λ (x : ℕ × ℕ). row_in x.1) is)

  abbrev along : View
  along = goes v named (page_words is_page.base) is_page.behind h.log its_look

  may_read : IsCommon plan → MayReadOn plan s.words v along
  may_read common other content is = record {
    awake = (role, awake common);
    from = ⊎_elim (λ (now : along.reads ≡ Some (other, content)). inr (number, in_range, row_is named other (page_words is_page.base) content now))
        (λ (has : HasNoted its_look other). contains_case (next_note page.right s.words (number, before)) v.look.leaves (has.0, has.1) has.2
        (λ its. ⊎_elim (λ (t : (c : List ℕ) × HoldsRow v (row_in has.1) c). inl (t.0, subst (λ (r : ℕ). HoldsRow v r t.0) has.3 t.1, refl, refl))
        (λ (t : (k : ℕ) × (k < plan.counts.numbers) × (named_row s.words k ≡ row_in has.1)). inr (t.0, t.1, t.2 ∙ has.3)) (held page.right refl has.0 has.1 content its))
        (λ was. inl (content, inr (has.0, has.1, was, has.3), refl, refl))) is;
  }

  pub along_keeps : IsTable plan record { words = set s.words number (get_or s.words number 0); homes = s.homes; views = set s.views id (goes v (named_row s.words number) (page_words is_page.base) is_page.behind h.log its_look) }
  along_keeps =
      let read : View = record v { reads = Some (named, page_words is_page.base); behind = is_page.behind; appends = None; seen = h.log } in
      load_keeps_with plan s tree_state h id number v along at (still plan s tree_state h id v at role) refl refl refl
      (λ common is. still_saw plan h.owners.place h.log s.views id v along at (h.accounted common) (account plan h.owners.place h.log s.views id v along at (h.accounted common) is) h.log (h.views id v at).saw ([], append-nil h.log) is)
      (λ common. reuse_stays plan h.owners.row s.words s.views id v along at (h.reuse common) h.owners.row s.words (λ r is. is) (λ seat r later is apart. is) (λ n few. refl) refl (hand_stays h.owners.row id v along refl refl) (may_read common))
      (with_look plan h.owners s.words (moved tree_state id v.operation) h.log id read its_look role looked
      (load_knows_in plan s tree_state h id number v read at (subst (IsInRole plan h.owners h.log id read) (sym role) (kept plan s tree_state h id v at role)) (busy plan s tree_state h id v at role) refl (h.views id v at).bounded (is_page.published, is_page.begins, (let all = is_page.fixed in omega (arith, all))) tt ([], append-nil h.log)))

  pub is_lawful : IsLawfulPage MAX_FAN page
  is_lawful =
      let chain = its_note.in_chain in
      let it = tree_laws.cells_are_of_level tree_state.fan tree_state.prime tree_state.pages chain.levels 0 chain.cell chain.tree chain.stands in
      let same : chain.cell.page ≡ page = cc (it.there, there, ap tree_state.pages chain.same_number) in
      lawful_within tree_state.fan page h.invariant.1.fan_in_range.1 (subst (IsLawfulPage tree_state.fan) same it.lawful)

  pub tells_now : TellsAll (after (pointer_of v.plan.opening) h.log) page
  tells_now =
      subst (λ (p : Plan). TellsAll (after (pointer_of p.opening) h.log) page) (sym (h.views id v at).same_plan)
      (leaf_tells_all tree_state.fan tree_state.prime tree_state.pages number page h.now (after (pointer_of plan.opening) h.log) its_note.in_chain there h.is_map.kept h.kept)

  -- the leaf to the right is noted
  noted_by : (right : Option ℕ) (next : ℕ) → right ≡ Some next → (pages : List (ℕ × ℕ)) → Contains (next_note right s.words (number, before) ∷ pages) (next, slice_index s.words next)
  noted_by None next is pages = absurd (cc)
  noted_by (Some other) next is pages = let same : other ≡ next = cc in (0, omega arith, ap (λ (k : ℕ). (k, slice_index s.words k)) same)

  pub right_noted : (next : ℕ) → page.right ≡ Some next → IsNotedLeaf v.plan.counts its_look next
  right_noted next right =
      let it = right_in_chain tree_state.fan tree_state.prime tree_state.pages number next page its_note.in_chain there right in record {
        in_range = subst (λ (p : Plan). (1 ≤ next) × (next < p.counts.numbers)) (sym (h.views id v at).same_plan) (next_in_range next it.1 it.2);
        word = slice_index s.words next;
        noted = noted_by page.right next right v.look.leaves;
      }

-- ---- the step

pub goes_along_at : (plan : Plan) (slots id number : ℕ) (me : SeatState) → me.0.plan ≡ plan → me.0.role ≡ Pass → (IsCommon plan → 2 ≤ me.0.busy) → IsNotedLeaf me.0.plan.counts me.0.look number
    → Allows (IsTable plan) slots id me number (λ k. k) (goes_along (step slots number 0 0 none) me)
goes_along_at plan slots id number me same role awake leaf s table homes at small =
    let tree_state : TreeState = table.0 in
    let h : IsTableAt plan s tree_state = table.1 in
    let its = h.views id me.0 at in
    let in_range : number < plan.counts.numbers = subst (λ (p : Plan). number < p.counts.numbers) same leaf.in_range.1 in
    let page = leaf_there tree_state.fan tree_state.prime tree_state.pages number (its.reads.1 number leaf.word leaf.noted).in_chain in
    let row : ℕ = named_row s.words number in
    let its_page = is_page plan s tree_state h id me.0 at role awake number leaf.word leaf.in_range.0 in_range leaf.noted page.0 page.1 in (
      goes me.0 row (page_words its_page.base) its_page.behind h.log (its_look plan s tree_state h id me.0 at role awake number leaf.word leaf.in_range.0 in_range leaf.noted page.0 page.1),
      keeps,
      tt,
      along_keeps plan s tree_state h id me.0 at role awake number leaf.word leaf.in_range.0 in_range leaf.noted page.0 page.1,
      record {
        page = page.0;
        base = its_page.base;
        behind = its_page.behind;
        seen = h.log;
        look = its_look plan s tree_state h id me.0 at role awake number leaf.word leaf.in_range.0 in_range leaf.noted page.0 page.1;
        is = refl;
        version = its_page.version;
        saw = its.saw;
        row_in_range = subst (λ (p : Plan). (1 ≤ row) × (row ≤ p.counts.rows)) (sym same) its_page.published.0;
        lawful = is_lawful plan s tree_state h id me.0 at role awake number leaf.word leaf.in_range.0 in_range leaf.noted page.0 page.1;
        tells = tells_now plan s tree_state h id me.0 at role awake number leaf.word leaf.in_range.0 in_range leaf.noted page.0 page.1;
        right = right_noted plan s tree_state h id me.0 at role awake number leaf.word leaf.in_range.0 in_range leaf.noted page.0 page.1;
        knows_own = share_is_known plan h.owners (suc id) (goes me.0 row (page_words its_page.base) its_page.behind h.log (its_look plan s tree_state h id me.0 at role awake number leaf.word leaf.in_range.0 in_range leaf.noted page.0 page.1)) its.same_plan its.share;
      },
    )
