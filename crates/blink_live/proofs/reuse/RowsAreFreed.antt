-- A row of a session's span becomes a free one: it was its seat's own, so no page word names it and nobody reads it.
use Rattle.std.proofs.Common.{◌≡◌, ◌≢◌, ⊎_elim, ℕ, zero, suc, ◌<◌, ◌≤◌, Option, Some, None, List, ◌∷◌, length, set, refl, sym, ap, ◌∙◌, subst, inl, inr, length-set, arith}
use Rattle.std.specs.Prelude.{Contains, slice_index}
use mathlib.Core.Option.{some, none}
use lib.ListN.{get_elem?}
use lib.Seq.{set-get_or}
use Rattle.atomic_table.specs.Table.{State, step, keeps, Allows}
use Rattle.blink_page.specs.{PlainPage}
use Rattle.blink_rows.specs.{prime_words, row_in}
use Rattle.blink_machine.specs.TreeState.{TreeState}
use Rattle.blink_live.specs.declared.view.Plan.{Plan}
use Rattle.blink_live.specs.declared.view.Role.TheVariants.{Keeper, Pass}
use Rattle.blink_live.specs.declared.view.View.{View}
use Rattle.blink_live.specs.Changes.{put}
use Rattle.blink_live.specs.ComingBack.{frees_last, frees_row}
use Rattle.blink_live.specs.Looks.{HasLooked}
use Rattle.blink_live.specs.Reuse.{AgreesWith, HasAside, HasNoted, HasRowsOnce, HasStock, HoldsRow, IsReuseSafe, IsTakenOut}
use Rattle.blink_live.specs.Rule.{IsInRole, IsTable, IsTableAt, Knows, Owners, PageWordIs, Reads, ReadsRow, latch_word}
use Rattle.blink_live.specs.Views.{IsCommon, SeatState}
use Rattle.blink_live.specs.Words.{named_row}
use Rattle.blink_live.proofs.changed.PoolIsDrawn.{latch_still}
use Rattle.blink_live.proofs.dealt.FirstOrOneOfRest.{contains_case}
use Rattle.blink_live.proofs.reuse.ReuseStaysSafe.{aside_kept, safe_then, stock_kept}
use Rattle.blink_live.proofs.reuse.RowsComeIn.{row_owners_knows, share_same, with_row}
use Rattle.blink_live.proofs.reuse.StocksChange.{same_reader}
use Rattle.blink_live.proofs.table.AccountsStay.{accounts_stay}
use Rattle.blink_live.proofs.table.CallsOfSeats.{call_still}
use Rattle.blink_live.proofs.table.LooksStay.{looks_stay}
use Rattle.blink_live.proofs.table.MapsWithOneChange.{put_here, put_else}
use Rattle.blink_live.proofs.table.RowsAreNamed.{names_still, no_row_in, page_still_named}
use Rattle.blink_live.proofs.table.SeatsThatStay.{views_stay, counted_stays}
use Rattle.blink_live.proofs.table.SparesOfSeats.{spare_still}

module _ (plan : Plan) (s : State ℕ View) (tree_state : TreeState) (h : IsTableAt plan s tree_state) (id row : ℕ) (v : View) (at : get_elem? s.views id ≡ some v) (role : v.role ≡ Pass) (common : IsCommon plan) (some_number : 1 ≤ plan.counts.numbers) (low : v.rows.next ≤ row) (last : v.rows.stop ≡ suc row) where
  known : Knows plan h.owners s.words tree_state h.log id v
  known = h.views id v at

  kept : IsInRole plan h.owners h.log id v Pass
  kept = subst (IsInRole plan h.owners h.log id v) role known.in_role

  safe : IsReuseSafe plan h.owners.row s.words s.views
  safe = h.reuse common

  its : HasStock plan h.owners.row s.words safe.claim id v
  its = safe.stocks id v at

  was_own : h.owners.row row ≡ suc id
  was_own = known.rows.own row low (omega (arith, last))

  in_range : (1 ≤ row) × (row ≤ plan.counts.rows)
  in_range = let range = known.rows.in_range in (omega (arith, range, low), omega (arith, range, last))

  abbrev whose : ℕ → ℕ
  whose = put h.owners.row row 0

  abbrev claim : ℕ → ℕ
  claim = put safe.claim row (suc id)

  abbrev new : Owners
  new = with_row h.owners (put h.owners.row row 0)

  abbrev w : View
  w = frees_last v row

  else_same : (r : ℕ) → r ≢ row → whose r ≡ h.owners.row r
  else_same r differ = put_else h.owners.row row r 0 differ

  -- a published row is another
  differs : (r : ℕ) → h.owners.row r ≡ 0 → r ≢ row
  differs r unowned e = let one : 0 ≡ suc id = sym unowned ∙ (ap h.owners.row e ∙ was_own) in omega (arith, one)

  published_still : (r : ℕ) → h.owners.row r ≡ 0 → whose r ≡ 0
  published_still r unowned = else_same r (differs r unowned) ∙ unowned

  -- whoever else owns a row owns it still
  owns : (owner r : ℕ) → owner ≢ id → h.owners.row r ≡ suc owner → whose r ≡ suc owner
  owns owner r apart is = else_same r (λ e. let one : suc owner ≡ suc id = sym is ∙ (ap h.owners.row e ∙ was_own) in apart (omega (arith, one))) ∙ is

  page_still : (word : ℕ) (page : Option PlainPage) → PageWordIs plan h.owners s.words word page → PageWordIs plan new s.words word page
  page_still word None is = is
  page_still word (Some page) is = page_still_named plan h.owners new s.words word page (published_still (row_in word) is.published.1) refl is

  -- ---- no page word names it, and nobody reads it

  named_differs : (word : ℕ) (page : Option PlainPage) → PageWordIs plan h.owners s.words word page → row_in word ≢ row
  named_differs word None is e = let least = in_range.0 in let none = no_row_in word is in omega (arith, none, e, least)
  named_differs word (Some page) is e = differs (row_in word) is.published.1 e

  unnamed : (number : ℕ) → number < plan.counts.numbers → named_row s.words number ≢ row
  unnamed zero few = differs (named_row s.words 0) h.prime.published.1
  unnamed (suc n) few = named_differs (slice_index s.words (suc n)) (tree_state.pages (suc n)) (h.pages (suc n) (omega arith) few)

  held_unowned : (seat : ℕ) (u : View) → get_elem? s.views seat ≡ some u → (r : ℕ) (content : List ℕ) → HoldsRow u r content → h.owners.row r ≡ 0
  held_unowned seat u there r content is =
      let reads = (h.views seat u there).reads in
      ⊎_elim (λ (now : u.reads ≡ Some (r, content)). (subst (λ (x : Option (ℕ × List ℕ)). ReadsRow plan h.owners s.words x u.behind) now reads.0).0.1)
      (λ (noted : HasNoted u.look r). subst (λ (x : ℕ). h.owners.row x ≡ 0) noted.3 (reads.1 noted.0 noted.1 noted.2).unowned) is

  -- ---- what the seats know

  reads_then : (reads : Option (ℕ × List ℕ)) (behind : List ℕ) → ReadsRow plan h.owners s.words reads behind → ReadsRow plan new s.words reads behind
  reads_then None behind is = is
  reads_then (Some (r, content)) behind is = ((is.0.0, published_still r is.0.1), is.1, is.2)

  looks_then : (u : View) → HasLooked plan h.owners.row s.words tree_state.fan tree_state.prime tree_state.pages u.look → HasLooked plan whose s.words tree_state.fan tree_state.prime tree_state.pages u.look
  looks_then u = looks_stay plan h.owners.row whose s.words s.words tree_state.fan tree_state.fan tree_state.prime tree_state.prime tree_state.pages tree_state.pages u.look
      (λ number word has row_in_range unowned. published_still (row_in word) unowned) (λ number in_chain. in_chain) (λ number word least few unowned since. (since, λ is. (is, refl)))

  reads_all : (u : View) → Reads plan h.owners s.words tree_state u → Reads plan new s.words tree_state u
  reads_all u is = (reads_then u.reads u.behind is.0, looks_then u is.1)

  others_know : (seat : ℕ) (u : View) → seat ≢ id → get_elem? s.views seat ≡ some u → Knows plan new s.words tree_state h.log seat u
  others_know seat u apart there = let was = h.views seat u there in row_owners_knows plan h.owners whose s.words tree_state h.log seat u (λ r. owns seat r apart) (reads_all u was.reads) was

  own_knows : Knows plan new s.words tree_state h.log id w
  own_knows = record {
    same_plan = known.same_plan;
    operation = known.operation;
    bounded = known.bounded;
    reads = reads_all v known.reads;
    appends = known.appends;
    rows = record {
      in_range = (known.rows.in_range.0, let range = in_range.1 in omega (arith, range));
      own = λ r least few. else_same r (λ e. omega (arith, e, few)) ∙ known.rows.own r least (omega (arith, few, last));
    };
    numbers = record { in_range = known.numbers.in_range; own = known.numbers.own; free = known.numbers.free };
    for_call = call_still plan h.owners new s.words tree_state tree_state (suc id) v.call v.rows.next v.pages.next v.rows.next v.pages.next known.for_call (omega arith, omega arith)
        (λ r below is. else_same r (λ e. omega (arith, e, below, low)) ∙ is) (λ n below own. own) (λ n free. free);
    spare = spare_still plan h.owners new tree_state tree_state (suc id) v.stock.spare v.pages.next v.call.pages known.spare (λ n own. own) (λ n none. none);
    share = share_same plan h.owners whose s.words tree_state h.log (suc id) v.share known.share;
    saw = known.saw;
    heard = known.heard;
    in_role = subst (IsInRole plan new h.log id w) (sym role) (kept.0, kept.1 ∙ latch_still v.plan.places v.rows.stop row (subst IsCommon (sym known.same_plan) common));
    placed = λ is_common is. let p = known.placed is_common is in record { in_range = p.in_range; own = p.own; word = p.word; busy = p.busy };
    places_left = λ dealt back is. absurd (let e : Pass ≡ Keeper dealt back = sym role ∙ is in cc);
    nothing = λ is_common dealt back is. absurd (let e : Pass ≡ Keeper dealt back = sym role ∙ is in cc);
  }

  -- ---- its stock

  out_row : IsTakenOut plan whose s.words claim id row
  out_row = record { in_range = in_range; unowned = put_here h.owners.row row 0; claimed = put_here safe.claim row (suc id); not_named = unnamed }

  out_still : (seat r : ℕ) → IsTakenOut plan h.owners.row s.words safe.claim seat r → IsTakenOut plan whose s.words claim seat r
  out_still seat r is = record {
    in_range = is.in_range;
    unowned = published_still r is.unowned;
    claimed = put_else safe.claim row r (suc id) (differs r is.unowned) ∙ is.claimed;
    not_named = is.not_named;
  }

  free_then : (r : ℕ) → Contains (row ∷ v.stock.free) r → IsTakenOut plan whose s.words claim id r
  free_then r has = contains_case row v.stock.free r has (λ e. subst (IsTakenOut plan whose s.words claim id) e out_row) (λ before. out_still id r (its.free r before))

  once_then : HasRowsOnce w.stock
  once_then = record {
    free = (λ has. differs row (its.free row has).unowned refl, its.once.free);
    retired = its.once.retired;
    waiting = its.once.waiting;
    free_retired = λ r has retired. contains_case row v.stock.free r has (λ e. differs r (its.retired r retired).unowned (sym e)) (λ before. its.once.free_retired r before retired);
    free_waiting = λ r has waits. contains_case row v.stock.free r has (λ e. differs r (its.waiting r waits).unowned (sym e)) (λ before. its.once.free_waiting r before waits);
    retired_waiting = its.once.retired_waiting;
  }

  aside_then : HasAside plan whose id w
  aside_then = aside_kept plan h.owners.row whose id v w refl (λ r later is apart. else_same r (λ e. apart (inl (omega (arith, e, low), omega (arith, e, last)))) ∙ is)
      (λ r hand. inl (⊎_elim (λ (t : (v.rows.next ≤ r) × (r < row)). inl (t.0, omega (arith, t, last))) (λ (t : (v.call.rows.next ≤ r) × (r < v.call.rows.stop)). inr t) hand)) its.aside

  agrees_then : (u : View) → ((r : ℕ) (content : List ℕ) → HoldsRow u r content → h.owners.row r ≡ 0) → AgreesWith v.stock u → AgreesWith w.stock u
  agrees_then u unowned agrees r content is =
      let besides = agrees r content is in
      record {
        not_free = λ has. contains_case row v.stock.free r has (λ e. differs r (unowned r content is) (sym e)) besides.not_free;
        not_past = λ waits. let held = besides.not_past waits in record { later = held.later; same = held.same };
      }

  reuse_then : IsReuseSafe plan whose s.words (set s.views id w)
  reuse_then = safe_then plan h.owners.row whose s.words s.words s.views id w safe record {
    claim = claim;
    named_once = safe.named_once;
    own = record {
      awake = its.awake;
      once = once_then;
      free = free_then;
      retired = λ r has. out_still id r (its.retired r has);
      waiting = λ r has. out_still id r (its.waiting r has);
      aside = aside_then;
    };
    others = λ seat u apart there. stock_kept plan h.owners.row whose s.words s.words safe.claim claim seat u (out_still seat) (λ r later is not_there. owns seat r apart is) (safe.stocks seat u there);
    own_reads = agrees_then w (held_unowned id v at) (same_reader v.stock v w refl refl refl refl (safe.agree id id v v at at));
    others_read = λ seat u apart there. agrees_then u (held_unowned seat u there) (safe.agree id seat v u at there);
    reads_theirs = λ seat u apart there. same_reader u.stock v w refl refl refl refl (safe.agree seat id u v there at);
  }

  same_latch_word : (holder : Option ℕ) → latch_word h.owners holder ≡ latch_word new holder
  same_latch_word None = refl
  same_latch_word (Some seat) = refl

  pub row_is_freed : IsTable plan record { words = s.words; homes = s.homes; views = set s.views id (frees_last v row) }
  row_is_freed =
      let pool = h.pool common in (
        tree_state,
        record {
          owners = new;
          log = h.log;
          now = h.now;
          same_fan = h.same_fan;
          invariant = h.invariant;
          prime_numbers = h.prime_numbers;
          bounded = h.bounded;
          width = h.width;
          prime = names_still plan h.owners new s.words (slice_index s.words 0) (prime_words tree_state.prime) (published_still (named_row s.words 0) h.prime.published.1) refl h.prime;
          pages = λ number least few. page_still (slice_index s.words number) (tree_state.pages number) (h.pages number least few);
          named_by = h.named_by;
          no_other_page = h.no_other_page;
          no_other_latch = h.no_other_latch;
          latches = λ number few. h.latches number few ∙ same_latch_word (tree_state.holder number);
          holders = h.holders;
          is_map = record { ascending = h.is_map.ascending; kept = h.is_map.kept };
          kept = h.kept;
          nobodys = h.nobodys;
          pool = λ is_common. record {
            rows = record { in_range = pool.rows.in_range; own = λ r least few. owns 0 r (let later = kept.0 in λ e. omega (arith, e, later)) (pool.rows.own r least few) };
            pages = record { in_range = pool.pages.in_range; own = pool.pages.own; free = pool.pages.free };
          };
          accounted = λ is_common. accounts_stay plan h.owners.place h.log s.views id v w at (h.accounted is_common) refl ((h.accounted is_common).saw_own id v at);
          reuse = λ is_common. reuse_then;
          views = views_stay (Knows plan new s.words tree_state h.log) s.views id w own_knows others_know;
          others_idle = λ seat beyond. let longer : length (set s.views id w) ≡ length s.views = length-set s.views id w in h.others_idle seat (omega (arith, beyond, longer));
          counted = counted_stays s.views id v w at refl refl h.counted;
        },
      )

pub frees_row_at : (plan : Plan) (slots id : ℕ) (me : SeatState) (row : ℕ) → me.0.role ≡ Pass → IsCommon plan → 1 ≤ plan.counts.numbers → me.0.rows.next ≤ row → me.0.rows.stop ≡ suc row
    → Allows (IsTable plan) slots id me 0 (λ k. k) (frees_row (step slots 0 0 0 none) me)
frees_row_at plan slots id me row role common some_number low last s table homes at small = (
  frees_last me.0 row,
  keeps,
  tt,
  subst (λ (words : List ℕ). IsTable plan record { words = words; homes = s.homes; views = set s.views id (frees_last me.0 row) }) (sym (set-get_or s.words 0 0))
      (row_is_freed plan s table.0 table.1 id row me.0 at role common some_number low last),
  λ other least is. let same : row ≡ other = omega (arith, last, is) in (λ i. (frees_last me.0 (same i), me.1)),
)
