-- A word that is stored behind the fixed words of the row of a page whose latch the seat holds is no step of the tree, and keeps the rule.
use Rattle.std.proofs.Common.{append_assoc, Option, ◌≡◌, ◌≢◌, ℕ, suc, ◌+◌, ◌*◌, ◌<◌, ◌≤◌, Some, List, [], ◌∷◌, ◌++◌, length, set, refl, sym, ap, ◌∙◌, subst, length-append, get_or-set_same, get_or-set_other, arith}
use Rattle.std.specs.Prelude.{slice_index}
use mathlib.Core.Option.{some, none}
use mathlib.Core.Logic.{dite}
use native.Mathlib.Decide.{ℕ_discrete}
use lib.ListN.{get_elem?}
use Rattle.atomic_table.specs.Table.{State, step, keeps, Allows}
use Rattle.blink_rows.specs.declared.limits.TheConstants.{ROW_WORDS}
use Rattle.blink_rows.specs.{row_in}
use Rattle.blink_machine.specs.TreeState.{TreeState}
use Rattle.blink_live.specs.declared.view.Appending.{Appending}
use Rattle.blink_live.specs.declared.view.Plan.{Plan}
use Rattle.blink_live.specs.declared.view.Role.TheVariants.{Pass, Keeper}
use Rattle.blink_live.specs.declared.view.View.{View}
use Rattle.blink_live.specs.AtomicSteps.{adds_word}
use Rattle.blink_live.specs.Looks.{IsSince}
use Rattle.blink_live.specs.Rule.{Appends, IsAppending, ReadsRow, IsPublished, PageWordIs, IsInRole, Knows, IsTableAt, IsTable}
use Rattle.blink_live.specs.Views.{SeatState, adds_one}
use Rattle.blink_live.specs.Words.{named_row, row_start, RowBegins, place_word, word_count}
use Rattle.blink_live.proofs.changed.StagingKeepsTable.{at_the_end, before_the_end, other_row_stays}
use Rattle.blink_live.proofs.reuse.ReuseStaysSafe.{hand_stays, reuse_stays, same_reads}
use Rattle.blink_live.proofs.table.AccountsStay.{accounts_stay}
use Rattle.blink_live.proofs.table.OthersKnowTheSame.{FixedStay, LeavesOthers, page_word_still, row_begins_still, seat_reads_still}
use Rattle.blink_live.proofs.table.PoolStays.{pool_stays}
use Rattle.blink_live.proofs.table.RowsAreNamed.{same_names}
use Rattle.blink_live.proofs.table.SparesOfSeats.{spare_still}
use Rattle.blink_live.proofs.table.StoresKeepTable.{prime_still, store_keeps}

-- a seat reads one row with one list of words
pub content_is : (row : ℕ) (one other : List ℕ) → ◌≡◌ {A = Option (ℕ × List ℕ)} (Some (row, one)) (Some (row, other)) → one ≡ other
content_is row one other is = let same : ◌≡◌ {A = ℕ × List ℕ} (row, one) (row, other) = cc in ap (λ (x : ℕ × List ℕ). x.1) same

module _ (plan : Plan) (s : State ℕ View) (tree_state : TreeState) (h : IsTableAt plan s tree_state) (id number i x : ℕ) (v : View) (at : get_elem? s.views id ≡ some v) (role : v.role ≡ Pass) (latched : tree_state.holder number ≡ Some id) (in_range : number < plan.counts.numbers)
    (published : IsPublished plan h.owners (named_row s.words number)) (further : h.owners.fixed (named_row s.words number) ≤ i) (inside : i < ROW_WORDS) where
  abbrev row : ℕ
  row = named_row s.words number

  abbrev place : ℕ
  place = row_start plan.counts row + i

  abbrev pub words : List ℕ
  words = set s.words (row_start plan.counts (named_row s.words number) + i) x

  known : Knows plan h.owners s.words tree_state h.log id v
  known = h.views id v at

  kept : IsInRole plan h.owners h.log id v Pass
  kept = subst (IsInRole plan h.owners h.log id v) role known.in_role

  some_row : 1 ≤ row
  some_row = published.0.0

  last_row : row ≤ plan.counts.rows
  last_row = published.0.1

  behind : (n : ℕ) → slice_index words (word_count plan.counts + n) ≡ slice_index s.words (word_count plan.counts + n)
  behind n = let high = last_row in get_or-set_other s.words place (word_count plan.counts + n) x 0 (λ e. omega (arith, e, high, inside, some_row))

  other_place : (other : ℕ) → slice_index words (place_word plan.counts other) ≡ slice_index s.words (place_word plan.counts other)
  other_place other = let high = last_row in get_or-set_other s.words place (place_word plan.counts other) x 0 (λ e. omega (arith, e, high, inside, some_row))

  pub before_rows : (n : ℕ) → n < 2 * plan.counts.numbers → slice_index words n ≡ slice_index s.words n
  before_rows n below = get_or-set_other s.words place n x 0 (λ e. omega (arith, e, below))

  -- of the row itself the fixed words stay, and of other rows all
  fixed_stay : (r : ℕ) → 1 ≤ r → FixedStay plan h.owners s.words words r
  fixed_stay r least k below few = dite (ℕ_discrete r row)
      (λ same.
      let fewer = few (ap h.owners.row same ∙ published.1) in
      let same_fixed : h.owners.fixed r ≡ h.owners.fixed row = ap h.owners.fixed same in
      get_or-set_other s.words place (row_start plan.counts r + k) x 0 (λ e. omega (arith, e, same, same_fixed, fewer, further, some_row, least)))
      (λ differ. other_row_stays plan s.words row r i x some_row least differ inside k below)

  -- a row that somebody owns is another
  owned_else : (r owner : ℕ) → h.owners.row r ≡ suc owner → r ≢ row
  owned_else r owner is same = let zero_is : 0 ≡ suc owner = sym published.1 ∙ (ap h.owners.row (sym same) ∙ is) in omega (arith, zero_is)

  leaves : LeavesOthers plan s tree_state tree_state h id words h.owners h.log
  leaves = record {
    machines = λ seat other. refl;
    ways = λ seat m other is. refl;
    rows = λ r least most apart shared. (refl, fixed_stay r least);
    fixed = λ r unowned. omega arith;
    latched = λ seat n other holds least few is. (
      holds,
      before_rows n (omega (arith, few)),
      other_row_stays plan s.words row (named_row s.words n) i x some_row is.0.0
          (λ same.
          let same_number : n ≡ number = sym (h.named_by n few is.0.0) ∙ (ap h.owners.named_by same ∙ h.named_by number in_range some_row) in
          other (let e : Some seat ≡ Some id = sym holds ∙ (ap tree_state.holder same_number ∙ latched) in cc)) inside,
    );
    latched_fixed = λ seat n other holds least few published. refl;
    numbers = λ n apart shared. (refl, λ free. free);
    keys = λ owned key apart. (refl, refl, refl);
    nobodys = h.nobodys;
    pool = λ common. pool_stays plan h.owners h.owners s.words words tree_state tree_state (behind 1) (behind 2)
        (λ r least most its. (its, other_row_stays plan s.words row r i x some_row least (owned_else r 0 its) inside))
        (λ n its. (its, λ free. free)) (h.pool common);
    places = λ other. refl;
    place_words = λ other within apart. other_place other;
    latch_numbers = λ seat. refl;
    longer = λ seen is. is;
    in_chain = λ n is. is;
    named = λ n r least few unowned since. (subst (IsSince r) (sym (before_rows n (omega (arith, few)))) since, λ is. (sym (before_rows n (omega (arith, few))) ∙ is, refl));
  }

  -- the seat may say any more of the row that is so
  module _ (appends : Option Appending) (its : IsAppending plan.counts h.owners.fixed tree_state.holder words id v.reads v.behind appends) where
    abbrev w : View
    w = record v { appends = appends }

    knows : Knows plan h.owners words tree_state h.log id w
    knows = record {
      same_plan = known.same_plan;
      operation = known.operation;
      bounded = known.bounded;
      reads = seat_reads_still plan s tree_state tree_state h id kept.0 words h.owners h.log leaves v known.reads;
      appends = its;
      rows = known.rows;
      numbers = known.numbers;
      for_call = record {
        before = known.for_call.before;
        first_own = known.for_call.first_own;
        staged = λ room. let own = known.for_call.first_own room in
            row_begins_still plan s.words words v.call.rows.next v.call.staged (other_row_stays plan s.words row v.call.rows.next i x some_row own.0 (owned_else v.call.rows.next id own.1) inside) (known.for_call.staged room);
        others = known.for_call.others;
        numbers = known.for_call.numbers;
      };
      spare = spare_still plan h.owners h.owners tree_state tree_state (suc id) v.stock.spare v.pages.next v.call.pages known.spare (λ n own. own) (λ n none. none);
      share = known.share;
      saw = known.saw;
      heard = known.heard;
      in_role = subst (IsInRole plan h.owners h.log id w) (sym role) kept;
      placed = λ common is. let p = known.placed common is in record { in_range = p.in_range; own = p.own; word = other_place v.place ∙ p.word; busy = p.busy };
      places_left = λ dealt back is. absurd (let e : Pass ≡ Keeper dealt back = sym role ∙ is in cc);
      nothing = λ common dealt back is. absurd (let e : Pass ≡ Keeper dealt back = sym role ∙ is in cc);
    }

    pub add_keeps : IsTable plan record { words = words; homes = s.homes; views = set s.views id w }
    add_keeps = store_keeps plan s tree_state tree_state h id place x kept.0 v w at h.owners h.log h.now leaves record {
      same_fan = refl;
      invariant = h.invariant;
      prime_numbers = h.prime_numbers;
      prime = prime_still plan s tree_state tree_state h id kept.0 words h.owners h.log leaves (before_rows 0 (omega (arith, in_range))) (λ unowned. refl) refl;
      pages = λ n least below. subst (λ (word : ℕ). PageWordIs plan h.owners words word (tree_state.pages n)) (sym (before_rows n (omega (arith, below))))
          (page_word_still plan s tree_state tree_state h id kept.0 words h.owners h.log leaves (slice_index s.words n) (tree_state.pages n) (λ unowned. refl) (h.pages n least below));
      named_by = same_names plan.counts h.owners.named_by s.words words (λ n few. before_rows n (omega (arith, few))) h.named_by;
      no_other_page = h.no_other_page;
      no_other_latch = h.no_other_latch;
      latches = λ n below. before_rows (plan.counts.numbers + n) (omega (arith, below)) ∙ h.latches n below;
      holders = h.holders;
      is_map = h.is_map;
      kept = h.kept;
    } refl refl (λ common. accounts_stay plan h.owners.place h.log s.views id v w at (h.accounted common) refl ((h.accounted common).saw_own id v at))
        (λ common. reuse_stays plan h.owners.row s.words s.views id v w at (h.reuse common) h.owners.row words (λ r is. is) (λ seat r later is apart. is) (λ n few. ap row_in (before_rows n (omega (arith, few)))) refl (hand_stays h.owners.row id v w refl refl) (same_reads plan h.owners.row s.words s.views id v w at (h.reuse common) refl refl refl refl refl)) knows

  -- the row has one word more that the seat knows
  pub begins_further : (content : List ℕ) → length content ≡ i → RowBegins plan.counts s.words row content → RowBegins plan.counts words row (content ++ x ∷ [])
  begins_further content long begins k below few =
      let longer : length (content ++ x ∷ []) ≡ length content + 1 = length-append content (x ∷ []) in
      dite (ℕ_discrete k i)
      (λ last.
      let wide = h.width in
      let high = last_row in
      ap (λ (n : ℕ). slice_index words (row_start plan.counts row + n)) last
      ∙ (get_or-set_same s.words place x 0 (omega (arith, wide, high, inside, some_row)) ∙ sym (at_the_end content x k (last ∙ sym long))))
      (λ differ.
      get_or-set_other s.words place (row_start plan.counts row + k) x 0 (λ e. differ (omega (arith, e)))
      ∙ (begins k below (omega (arith, few, longer, long, differ)) ∙ sym (before_the_end content x k (omega (arith, few, longer, long, differ)))))

-- ---- the step

pub word_is_added : (plan : Plan) (slots id i x : ℕ) (me : SeatState) (a : Appending) (content : List ℕ) → me.0.role ≡ Pass → me.0.appends ≡ Some a → me.0.reads ≡ Some (row_in a.word, content)
    → i ≡ length ((content ++ me.0.behind) ++ a.words) → i < ROW_WORDS
    → Allows (IsTable plan) slots id me (row_start plan.counts (row_in a.word) + i) (λ n. x) (λ n. adds_word (step slots (row_start plan.counts (row_in a.word) + i) x 0 none) me n)
word_is_added plan slots id i x me a content role appends reads next inside s table homes at small =
    let tree_state : TreeState = table.0 in
    let h : IsTableAt plan s tree_state = table.1 in
    let known = h.views id me.0 at in
    let its : Appends plan.counts h.owners.fixed tree_state.holder s.words id me.0.reads me.0.behind a = subst (IsAppending plan.counts h.owners.fixed tree_state.holder s.words id me.0.reads me.0.behind) appends known.appends in
    let same : row_in a.word ≡ named_row s.words a.number = ap row_in (sym its.named) in
    let same_content : its.content ≡ content = content_is (row_in a.word) its.content content (sym its.row ∙ reads) in
    let published : IsPublished plan h.owners (row_in a.word) = (subst (λ (r : Option (ℕ × List ℕ)). ReadsRow plan h.owners s.words r me.0.behind) its.row known.reads.0).0 in
    let all_fixed : h.owners.fixed (named_row s.words a.number) ≡ length (its.content ++ me.0.behind) = ap h.owners.fixed (sym same) ∙ its.all_fixed in
    let long : length ((its.content ++ me.0.behind) ++ a.words) ≡ i = ap (λ (ws : List ℕ). length ((ws ++ me.0.behind) ++ a.words)) same_content ∙ sym next in
    let apart : length ((its.content ++ me.0.behind) ++ a.words) ≡ length (its.content ++ me.0.behind) + length a.words = length-append (its.content ++ me.0.behind) a.words in
    let its_published = subst (IsPublished plan h.owners) same published in
    let further : h.owners.fixed (named_row s.words a.number) ≤ i = omega (arith, all_fixed, long, apart) in
    let more : Appending = record a { words = a.words ++ x ∷ [] } in
    let then : List ℕ = words plan s tree_state h id a.number i x me.0 at role its.latched its.in_range.1 its_published further inside in
    let appended : Appends plan.counts h.owners.fixed tree_state.holder then id me.0.reads me.0.behind more = record {
      content = its.content;
      in_range = its.in_range;
      latched = its.latched;
      named = let few = its.in_range.1 in before_rows plan s tree_state h id a.number i x me.0 at role its.latched its.in_range.1 its_published further inside a.number (omega (arith, few)) ∙ its.named;
      row = its.row;
      all_fixed = its.all_fixed;
      begins = subst (λ (ws : List ℕ). RowBegins plan.counts then (row_in a.word) ws) (append_assoc (its.content ++ me.0.behind) a.words (x ∷ []))
          (subst (λ (r : ℕ). RowBegins plan.counts then r (((its.content ++ me.0.behind) ++ a.words) ++ x ∷ [])) (sym same)
          (begins_further plan s tree_state h id a.number i x me.0 at role its.latched its.in_range.1 its_published further inside ((its.content ++ me.0.behind) ++ a.words) long (subst (λ (r : ℕ). RowBegins plan.counts s.words r ((its.content ++ me.0.behind) ++ a.words)) same its.begins)));
    } in (
      adds_one me.0 a x,
      keeps,
      tt,
      subst (λ (r : ℕ). IsTable plan record { words = set s.words (row_start plan.counts r + i) x; homes = s.homes; views = set s.views id (adds_one me.0 a x) }) (sym same)
          (add_keeps plan s tree_state h id a.number i x me.0 at role its.latched its.in_range.1 its_published further inside (Some more) appended),
      λ b is. let one : a ≡ b = cc in ap (λ (c : Appending). let y : SeatState = (adds_one me.0 c x, me.1) in y) one,
    )
