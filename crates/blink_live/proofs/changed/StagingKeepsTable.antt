-- A word that is stored in a row of one's own is no step of the tree, and keeps the rule; so does one that is loaded there.
use Rattle.std.proofs.Common.{◌≡◌, ◌≢◌, ℕ, zero, suc, ◌+◌, ◌*◌, ◌<◌, ◌≤◌, List, [], ◌∷◌, ◌++◌, length, get_or, set, refl, sym, ap, ◌∙◌, subst, length-append, length-set, get_or-set_same, get_or-set_other, arith}
use Rattle.std.specs.Prelude.{slice_index}
use mathlib.Core.Option.{some, none}
use mathlib.Core.Logic.{dite}
use native.Mathlib.Decide.{ℕ_discrete}
use lib.ListN.{get_elem?}
use Rattle.atomic_table.specs.Table.{State, step, keeps, Allows}
use Rattle.blink_rows.specs.declared.limits.TheConstants.{ROW_WORDS}
use Rattle.blink_rows.specs.{row_in}
use Rattle.blink_machine.specs.TreeState.{TreeState}
use Rattle.blink_live.specs.declared.view.Plan.{Plan}
use Rattle.blink_live.specs.declared.view.Role.TheVariants.{Pass, Keeper}
use Rattle.blink_live.specs.declared.view.View.{View}
use Rattle.blink_machine.proofs.Offered.{step_law}
use Rattle.blink_live.specs.AtomicSteps.{knows_more, stores_word}
use Rattle.blink_live.specs.Looks.{IsSince}
use Rattle.blink_live.specs.Rule.{PageWordIs, IsInRole, Knows, IsTableAt, IsTable}
use Rattle.blink_live.specs.Views.{SeatState, knows_word, stage_word}
use Rattle.blink_live.specs.Words.{named_row, row_start, RowBegins, place_word, word_count}
use Rattle.blink_live.proofs.table.PoolStays.{pool_stays}
use Rattle.blink_live.proofs.reuse.ReuseStaysSafe.{hand_stays, reuse_stays, same_reads}
use Rattle.blink_live.proofs.table.AccountsStay.{accounts_stay}
use Rattle.blink_live.proofs.table.OthersKnowTheSame.{LeavesOthers, appends_stay, RowStays, page_word_still, seat_reads_still}
use Rattle.blink_live.proofs.table.LoadsKeepTable.{moved, load_keeps_with}
use Rattle.blink_live.proofs.table.MapsWithOneChange.{put_here, put_same}
use Rattle.blink_live.proofs.table.RowsAreNamed.{same_names}
use Rattle.blink_live.proofs.table.StoresKeepTable.{prime_still, store_keeps}
use Rattle.blink_live.proofs.table.SparesOfSeats.{spare_still}

-- two rows have no place in common
pub other_row_stays : (plan : Plan) (words : List ℕ) (row other i x : ℕ) → 1 ≤ row → 1 ≤ other → other ≢ row → i < ROW_WORDS → RowStays plan words (set words (row_start plan.counts row + i) x) other
other_row_stays plan words row other i x some_row some_other differ inside k below = get_or-set_other words (row_start plan.counts row + i) (row_start plan.counts other + k) x 0 (λ e. differ (omega (arith, e, some_row, some_other, inside, below)))

-- one more element at the end of a list
pub before_the_end : (xs : List ℕ) (x i : ℕ) → i < length xs → slice_index (xs ++ x ∷ []) i ≡ slice_index xs i
before_the_end [] x i inside = absurd (omega (arith, inside))
before_the_end (y ∷ xs) x zero inside = refl
before_the_end (y ∷ xs) x (suc i) inside = before_the_end xs x i (omega (arith, inside))

pub at_the_end : (xs : List ℕ) (x i : ℕ) → i ≡ length xs → slice_index (xs ++ x ∷ []) i ≡ x
at_the_end [] x zero is = refl
at_the_end [] x (suc i) is = absurd (omega (arith, is))
at_the_end (y ∷ xs) x zero is = absurd (omega (arith, is))
at_the_end (y ∷ xs) x (suc i) is = at_the_end xs x i (omega (arith, is))

module _ (plan : Plan) (s : State ℕ View) (tree_state : TreeState) (h : IsTableAt plan s tree_state) (id i x : ℕ) (v : View) (at : get_elem? s.views id ≡ some v) (role : v.role ≡ Pass) (room : v.call.rows.next < v.call.rows.stop) (inside : i < ROW_WORDS) (some_number : 1 ≤ plan.counts.numbers) where
  abbrev row : ℕ
  row = v.call.rows.next

  abbrev place : ℕ
  place = row_start plan.counts row + i

  abbrev pub words : List ℕ
  words = set s.words (row_start plan.counts v.call.rows.next + i) x

  abbrev pub w : View
  w = stage_word v i x

  known : Knows plan h.owners s.words tree_state h.log id v
  known = h.views id v at

  kept : IsInRole plan h.owners h.log id v Pass
  kept = subst (IsInRole plan h.owners h.log id v) role known.in_role

  some_row : 1 ≤ row
  some_row = (known.for_call.first_own room).0

  behind : (n : ℕ) → slice_index words (word_count plan.counts + n) ≡ slice_index s.words (word_count plan.counts + n)
  behind n = let high = known.for_call.others.in_range.1 in get_or-set_other s.words place (word_count plan.counts + n) x 0 (λ e. omega (arith, e, high, room, inside, some_row))

  -- the words of places stand behind the rows
  other_place : (other : ℕ) → slice_index words (place_word plan.counts other) ≡ slice_index s.words (place_word plan.counts other)
  other_place other = let high = known.for_call.others.in_range.1 in get_or-set_other s.words place (place_word plan.counts other) x 0 (λ e. omega (arith, e, high, room, inside, some_row))

  leaves : LeavesOthers plan s tree_state tree_state h id words h.owners h.log
  leaves = record {
    machines = λ seat other. refl;
    ways = λ seat m other is. refl;
    rows = λ r least most apart shared. (refl, λ k below few. other_row_stays plan s.words row r i x some_row least (λ same. apart (ap h.owners.row same ∙ (known.for_call.first_own room).1)) inside k below);
    fixed = λ row unowned. omega arith;
    latched = λ seat n other holds least few published. (
      holds,
      get_or-set_other s.words place n x 0 (λ e. omega (arith, e, few)),
      other_row_stays plan s.words row (named_row s.words n) i x some_row published.0.0 (λ same. let zero_is : 0 ≡ suc id = sym published.1 ∙ (ap h.owners.row same ∙ (known.for_call.first_own room).1) in omega (arith, zero_is)) inside,
    );
    latched_fixed = λ seat n other holds least few published. refl;
    numbers = λ n apart shared. (refl, λ free. free);
    keys = λ owned key apart. (refl, refl, refl);
    nobodys = h.nobodys;
    pool = λ common. pool_stays plan h.owners h.owners s.words words tree_state tree_state (behind 1) (behind 2)
        (λ r least most its. (its, other_row_stays plan s.words row r i x some_row least (λ same. let later = kept.0 in let one : suc 0 ≡ suc id = sym its ∙ (ap h.owners.row same ∙ (known.for_call.first_own room).1) in omega (arith, one, later)) inside))
        (λ n its. (its, λ free. free)) (h.pool common);
    places = λ other. refl;
    place_words = λ other inside apart. other_place other;
    latch_numbers = λ seat. refl;
    longer = λ seen is. is;
    in_chain = λ n is. is;
    named = λ n r least few unowned since. (subst (IsSince r) (sym (get_or-set_other s.words place n x 0 (λ e. omega (arith, e, few)))) since, λ is. (sym (get_or-set_other s.words place n x 0 (λ e. omega (arith, e, few))) ∙ is, refl));
  }

  inside_words : place < length s.words
  inside_words = let wide = h.width in let high = known.for_call.others.in_range.1 in omega (arith, wide, high, room, inside, some_row)

  staged : RowBegins plan.counts words row w.call.staged
  staged k below known_yet =
      let same_length : length w.call.staged ≡ length v.call.staged = length-set v.call.staged i x in
      dite (ℕ_discrete k i)
      (λ same.
      ap (λ (n : ℕ). slice_index words (row_start plan.counts row + n)) same
      ∙ (get_or-set_same s.words place x 0 inside_words
      ∙ (sym (get_or-set_same v.call.staged i x 0 (omega (arith, known_yet, same_length, same))) ∙ ap (slice_index w.call.staged) (sym same))))
      (λ differ.
      get_or-set_other s.words place (row_start plan.counts row + k) x 0 (λ e. differ (omega (arith, e)))
      ∙ (known.for_call.staged room k below (omega (arith, known_yet, same_length)) ∙ sym (get_or-set_other v.call.staged i k x 0 differ)))

  knows : Knows plan h.owners words tree_state h.log id w
  knows = record {
    same_plan = known.same_plan;
    operation = known.operation;
    bounded = known.bounded;
    reads = seat_reads_still plan s tree_state tree_state h id kept.0 words h.owners h.log leaves v known.reads;
    appends = appends_stay plan h.owners h.owners s.words words tree_state.holder tree_state.holder id v.reads v.behind v.appends
        (λ n holds least few published. (
          holds,
          get_or-set_other s.words place n x 0 (λ e. omega (arith, e, few)),
          other_row_stays plan s.words row (named_row s.words n) i x some_row published.0.0 (λ same. let zero_is : 0 ≡ suc id = sym published.1 ∙ (ap h.owners.row same ∙ (known.for_call.first_own room).1) in omega (arith, zero_is)) inside,
          refl,
        )) known.reads.0 known.appends;
    rows = known.rows;
    numbers = known.numbers;
    for_call = record {
      before = known.for_call.before;
      first_own = known.for_call.first_own;
      staged = λ again. staged;
      others = known.for_call.others;
      numbers = known.for_call.numbers;
    };
    spare = spare_still plan h.owners h.owners tree_state tree_state (suc id) v.stock.spare v.pages.next v.call.pages known.spare (λ n own. own) (λ n none. none);
    share = known.share;
    saw = known.saw;
    heard = known.heard;
    in_role = subst (IsInRole plan h.owners h.log id w) (sym role) kept;
    placed = λ common is. let p = known.placed common is in record { in_range = p.in_range; own = p.own; word = other_place v.place ∙ p.word; busy = p.busy };
    places_left = λ dealt back is. absurd (let e : Pass ≡ Keeper dealt back = sym role ∙ is in cc);
    nothing = λ common dealt back is. absurd (let e : Pass ≡ Keeper dealt back = sym role ∙ is in cc);
  }

  before_rows : (n : ℕ) → n < 2 * plan.counts.numbers → slice_index words n ≡ slice_index s.words n
  before_rows n below = get_or-set_other s.words place n x 0 (λ e. omega (arith, e, below))

  pub stage_keeps : IsTable plan record { words = words; homes = s.homes; views = set s.views id w }
  stage_keeps = store_keeps plan s tree_state tree_state h id place x kept.0 v w at h.owners h.log h.now leaves record {
    same_fan = refl;
    invariant = h.invariant;
    prime_numbers = h.prime_numbers;
    prime = prime_still plan s tree_state tree_state h id kept.0 words h.owners h.log leaves (before_rows 0 (omega (arith, some_number))) (λ unowned. refl) refl;
    pages = λ n least below. subst (λ (word : ℕ). PageWordIs plan h.owners words word (tree_state.pages n)) (sym (before_rows n (omega (arith, below))))
        (page_word_still plan s tree_state tree_state h id kept.0 words h.owners h.log leaves (slice_index s.words n) (tree_state.pages n) (λ unowned. refl) (h.pages n least below));
    named_by = same_names plan.counts h.owners.named_by s.words words (λ n few. before_rows n (omega (arith, few))) h.named_by;
    no_other_page = h.no_other_page;
    no_other_latch = h.no_other_latch;
    latches = λ n below. before_rows (plan.counts.numbers + n) (omega (arith, below)) ∙ h.latches n below;
    holders = h.holders;
    is_map = h.is_map;
    kept = h.kept;
  } refl refl (λ common. accounts_stay plan h.owners.place h.log s.views id v w at (h.accounted common) refl ((h.accounted common).saw_own id v at))
      (λ common. reuse_stays plan h.owners.row s.words s.views id v w at (h.reuse common) h.owners.row words (λ r is. is) (λ seat r later is apart. is) (λ n few. ap row_in (before_rows n (omega (arith, few)))) refl (hand_stays h.owners.row id v w refl refl) (same_reads plan h.owners.row s.words s.views id v w at (h.reuse common) refl refl refl refl refl)) knows

pub word_is_staged : (plan : Plan) (slots id i x : ℕ) (me : SeatState) → me.0.role ≡ Pass → me.0.call.rows.next < me.0.call.rows.stop → i < ROW_WORDS → 1 ≤ plan.counts.numbers
    → Allows (IsTable plan) slots id me (row_start plan.counts me.0.call.rows.next + i) (λ n. x) (λ n. stores_word (step slots (row_start plan.counts me.0.call.rows.next + i) x 0 none) me x)
word_is_staged plan slots id i x me role room inside some_number s table homes at small =
    let known = table.1.views id me.0 at in (
      stage_word me.0 i x,
      keeps,
      tt,
      stage_keeps plan s table.0 table.1 id i x me.0 at role room inside some_number,
      λ j below is.
          let place : row_start plan.counts me.0.call.rows.next + i ≡ row_start plan.counts me.0.call.rows.next + j = is ∙ ap (λ (p : Plan). row_start p.counts me.0.call.rows.next + j) known.same_plan in
          let same : i ≡ j = omega (arith, place) in
          ap (λ (k : ℕ). let y : SeatState = (stage_word me.0 k x, me.1) in y) same,
    )

-- ---- a word that is loaded

module _ (plan : Plan) (s : State ℕ View) (tree_state : TreeState) (h : IsTableAt plan s tree_state) (id : ℕ) (v : View) (at : get_elem? s.views id ≡ some v) (role : v.role ≡ Pass) (room : v.call.rows.next < v.call.rows.stop) where
  abbrev load_at : ℕ
  load_at = row_start plan.counts v.call.rows.next + length v.call.staged

  abbrev then : View
  then = knows_word v (slice_index s.words (row_start plan.counts v.call.rows.next + length v.call.staged))

  knows_then : Knows plan h.owners s.words (moved tree_state id v.operation) h.log id then
  knows_then =
      let known = h.views id v at in
      let found : ℕ = slice_index s.words load_at in
      let longer : length (v.call.staged ++ found ∷ []) ≡ length v.call.staged + 1 = length-append v.call.staged (found ∷ []) in record {
        same_plan = known.same_plan;
        operation = put_here tree_state.machines id v.operation;
        bounded = known.bounded;
        reads = known.reads;
        appends = known.appends;
        rows = known.rows;
        numbers = record { in_range = known.numbers.in_range; own = known.numbers.own; free = known.numbers.free };
        for_call = record {
          before = known.for_call.before;
          first_own = known.for_call.first_own;
          staged = λ again k below few. dite (ℕ_discrete k (length v.call.staged))
              (λ last. ap (λ (n : ℕ). slice_index s.words (row_start plan.counts v.call.rows.next + n)) last ∙ sym (at_the_end v.call.staged found k last))
              (λ differ. known.for_call.staged room k below (omega (arith, few, longer, differ)) ∙ sym (before_the_end v.call.staged found k (omega (arith, few, longer, differ))));
          others = known.for_call.others;
          numbers = record { in_range = known.for_call.numbers.in_range; own = known.for_call.numbers.own; free = known.for_call.numbers.free };
        };
        spare = spare_still plan h.owners h.owners tree_state (moved tree_state id v.operation) (suc id) v.stock.spare v.pages.next v.call.pages known.spare (λ n own. own) (λ n none. none);
        share = known.share;
        saw = known.saw;
        heard = known.heard;
        in_role = let kept = subst (IsInRole plan h.owners h.log id v) role known.in_role in subst (IsInRole plan h.owners h.log id then) (sym role) kept;
        placed = λ common is. let p = known.placed common is in record { in_range = p.in_range; own = p.own; word = p.word; busy = p.busy };
        places_left = λ dealt back is. absurd (let e : Pass ≡ Keeper dealt back = sym role ∙ is in cc);
        nothing = λ common dealt back is. absurd (let e : Pass ≡ Keeper dealt back = sym role ∙ is in cc);
      }

  pub known_keeps : (word : ℕ) → IsTable plan record { words = set s.words word (get_or s.words word 0); homes = s.homes; views = set s.views id then }
  known_keeps word =
      let known = h.views id v at in
      let still = step_law.idle_workers_dont_matter tree_state (moved tree_state id v.operation) (record {
        same_fan = refl;
        same_prime = refl;
        same_pages = λ number. refl;
        same_holder = λ number. refl;
        same_machines = put_same tree_state.machines id v.operation known.operation;
      }) h.invariant in
      load_keeps_with plan s tree_state h id word v then at still refl refl refl (λ common. (h.accounted common).saw_own id v at)
      (λ common. reuse_stays plan h.owners.row s.words s.views id v then at (h.reuse common) h.owners.row s.words (λ r is. is) (λ seat r later is apart. is) (λ n few. refl) refl (hand_stays h.owners.row id v then refl refl) (same_reads plan h.owners.row s.words s.views id v then at (h.reuse common) refl refl refl refl refl)) knows_then

pub word_is_known : (plan : Plan) (slots id i : ℕ) (me : SeatState) → me.0.role ≡ Pass → me.0.call.rows.next < me.0.call.rows.stop → i ≡ length me.0.call.staged
    → Allows (IsTable plan) slots id me (row_start plan.counts me.0.call.rows.next + i) (λ k. k) (knows_more (step slots (row_start plan.counts me.0.call.rows.next + i) 0 0 none) me)
word_is_known plan slots id i me role room next s table homes at small =
    let place : ℕ = row_start plan.counts me.0.call.rows.next + i in (
      knows_word me.0 (slice_index s.words place),
      keeps,
      tt,
      subst (λ (n : ℕ). IsTable plan record { words = set s.words place (get_or s.words place 0); homes = s.homes; views = set s.views id (knows_word me.0 (slice_index s.words (row_start plan.counts me.0.call.rows.next + n))) }) (sym next)
          (known_keeps plan s table.0 table.1 id me.0 at role room place),
      refl,
    )
