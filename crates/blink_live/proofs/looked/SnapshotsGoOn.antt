-- What a seat knows while it takes a snapshot.
use Rattle.std.proofs.Common.{◌≡◌, ◌⊎◌, inl, inr, ℕ, ◌+◌, ◌<◌, ◌≤◌, Option, Some, None, List, [], ◌∷◌, ◌++◌, Contains, refl, sym, ap, ◌∙◌, subst, arith, append-nil}
use Rattle.std.specs.Prelude.{get_or, unwrap_or}
use Rattle.std.proofs.lemmas.Bool.{cases_lt}
use Rattle.std.proofs.lemmas.List.Elements.{All-append}
use mathlib.Core.Logic.{dite}
use native.Mathlib.Decide.{ℕ_discrete}
use Rattle.blink_batch.specs.declared.Entry.{Entry}
use Rattle.blink_batch.specs.declared.Op.{Op}
use Rattle.blink_batch.specs.declared.Op.TheVariants.{Find}
use Rattle.blink_batch.specs.{pointer_of}
use Rattle.blink_page.specs.{IsKeyOf, least_above}
use Rattle.blink_rows.specs.{PlainCounts, flag}
use Rattle.blink_machine.specs.declared.machine.State.TheVariants.{Ended}
use Rattle.blink_machine.specs.{PlainMachine, goes_on}
use Rattle.blink_live.specs.declared.snapshot.NotedLeaf.{NotedLeaf}
use Rattle.blink_live.specs.declared.view.Change.{Change}
use Rattle.blink_live.specs.declared.view.Look.{Look}
use Rattle.blink_live.specs.declared.view.View.{View}
use Rattle.blink_live.specs.Changes.{after}
use Rattle.blink_live.specs.Finding.{HasSearched, IsIdle}
use Rattle.blink_live.specs.Scanning.{IsCopied}
use Rattle.blink_live.specs.Seats.{HasRead, ReadsLeaf}
use Rattle.blink_live.specs.Snapshots.{AreNotedIn, IsNotedIn, IsSameBesideLook, IsSameBesideRow, IsSnapshot, LooksAgain, MarksState, NotesMore, ReadsAgain}
use Rattle.blink_live.specs.Views.{KnowsItsOwn, SeatState, for_call, known_of}
use Rattle.blink_live.specs.Words.{IsVersion}
use Rattle.blink_live.proofs.found.DescentsGoOn.{HasComeTo}
use Rattle.blink_live.proofs.found.FindsOfSeveral.{searched_more, searched_once}
use Rattle.blink_live.proofs.scanned.ReportsGoOn.{all_of_both, both_ascend, says_first, says_second}

-- ---- a descent that notes leaves

come_beside : (op : Op) (first me : SeatState) (look : Look) (number level : ℕ) → HasComeTo op first me number level → HasComeTo op (record first.0 { look = look }, first.1) (record me.0 { look = look }, me.1) number level
come_beside op first me look number level has =
    let knows = has.read.knows_own in record {
      at = record { machine = has.at.machine; operation = has.at.operation; state = has.at.state; same_job = has.at.same_job; same_key = has.at.same_key; fits = has.at.fits; announced = has.at.announced };
      read = record {
        same = (ap (λ (v : View). record v { look = look }) has.read.same.0, has.read.same.1);
        saw = has.read.saw;
        knows_own = record { state = knows.state; changes = knows.changes };
        operation = has.read.operation;
        same_op = has.read.same_op;
        same_job = has.read.same_job;
        next = has.read.next;
        announced = has.read.announced;
      };
      none_yet = has.none_yet;
    }

-- the operation is where it was
pub comes_noted : (op : Op) (first me new : SeatState) (number level : ℕ) → IsSameBesideLook me new → HasComeTo op first me number level → HasComeTo op (record first.0 { look = new.0.look }, first.1) new number level
comes_noted op first me new number level same has =
    subst (λ (x : SeatState). HasComeTo op (record first.0 { look = new.0.look }, first.1) x number level) (sym same) (come_beside op first me new.0.look number level has)

-- and when it has ended, the seat has searched
pub searched_noted : (key : ℕ) (me new : SeatState) (look : Look) (m : PlainMachine) → IsIdle me.0 → HasRead (Find key) (record (for_call me.0 (Find key)) { look = look }, me.1) new m → m.state ≡ Ended → HasSearched me new
searched_noted key me new look m was ends ended =
    let knows = was.knows_own in
    let idle : IsIdle (record me.0 { look = look }) = record { idle = was.idle; rows = was.rows; pages = was.pages; knows_own = record { state = knows.state; changes = knows.changes }; announced = was.announced } in
    let it = searched_once key (record me.0 { look = look }, me.1) new idle ends.saw ends.knows_own (ends.operation ∙ ap (goes_on m) ended) ends.same.0 ends.same.1 in record {
      saw = it.saw;
      idle = it.idle;
      same_plan = it.same_plan;
      same_role = it.same_role;
      same_place = it.same_place;
      same_rows = it.same_rows;
      same_pages = it.same_pages;
      same_share = it.same_share;
      same_told = it.same_told;
      same_stock = it.same_stock;
      same_slots = it.same_slots;
    }

-- ---- leaves that were noted

-- they are noted still
pub noted_still : (counts : PlainCounts) (old new : Look) (leaves : List NotedLeaf) → NotesMore old new → AreNotedIn counts old leaves → AreNotedIn counts new leaves
noted_still counts old new leaves more noted k d inside =
    let was = noted k d inside in
    let leaf : NotedLeaf = get_or leaves k d in
    record { in_range = was.in_range; noted = λ named. more leaf.number leaf.word (was.noted named) }

pub noted_none : (counts : PlainCounts) (look : Look) → AreNotedIn counts look []
noted_none counts look k d inside = absurd (omega (arith, inside))

-- one leaf more
pub noted_more : (counts : PlainCounts) (old new : Look) (leaves : List NotedLeaf) (leaf : NotedLeaf) → NotesMore old new → AreNotedIn counts old leaves → IsNotedIn counts new leaf → AreNotedIn counts new (leaves ++ leaf ∷ [])
noted_more counts old new leaves leaf more noted its =
    All-append (IsNotedIn counts new) leaves (leaf ∷ []) (noted_still counts old new leaves more noted) (λ k d inside. let first : k ≡ 0 = omega (arith, inside) in subst (λ (n : ℕ). IsNotedIn counts new (get_or (leaf ∷ []) n d)) (sym first) its)

-- ---- the seat after a tree state is marked

pub marked_as_seen : (me new : SeatState) → MarksState me new → new.0.look.marked ≡ Some new.0.seen
marked_as_seen me new is = subst (λ (x : SeatState). x.0.look.marked ≡ Some x.0.seen) (sym is.is) refl

pub noted_in_marked : (counts : PlainCounts) (me new : SeatState) (leaves : List NotedLeaf) → MarksState me new → AreNotedIn counts me.0.look leaves → AreNotedIn counts new.0.look leaves
noted_in_marked counts me new leaves is =
    noted_still counts me.0.look new.0.look leaves (subst (λ (x : SeatState). NotesMore me.0.look x.0.look) (sym is.is) (λ number word has. has))

pub searched_marked : (me new : SeatState) → IsIdle me.0 → MarksState me new → HasSearched me new
searched_marked me new was is = subst (HasSearched me) (sym is.is) record {
  saw = is.saw;
  idle = record {
    idle = was.idle;
    rows = was.rows;
    pages = was.pages;
    knows_own = subst (λ (x : SeatState). KnowsItsOwn x.0) is.is is.knows_own;
    announced = was.announced;
  };
  same_plan = refl;
  same_role = refl;
  same_place = refl;
  same_rows = refl;
  same_pages = refl;
  same_share = refl;
  same_told = refl;
  same_stock = refl;
  same_slots = refl;
}

pub searched_row : (me new : SeatState) → IsIdle me.0 → IsSameBesideRow me new → HasSearched me new
searched_row me new was same =
    let knows = was.knows_own in
    subst (HasSearched me) (sym same) record {
      saw = ([], append-nil me.0.seen);
      idle = record {
        idle = was.idle;
        rows = was.rows;
        pages = was.pages;
        knows_own = record { state = knows.state; changes = knows.changes };
        announced = was.announced;
      };
      same_plan = refl;
      same_role = refl;
      same_place = refl;
      same_rows = refl;
      same_pages = refl;
      same_share = refl;
      same_told = refl;
      same_stock = refl;
      same_slots = refl;
    }

-- leaves were noted, a tree state marked, and rows read
pub searched_twice : (first noted marked last : SeatState) → HasSearched first noted → MarksState noted marked → IsSameBesideRow marked last → HasSearched first last
searched_twice first noted marked last searched is same =
    let then = searched_marked noted marked searched.idle is in
    searched_more first marked last (searched_more first noted marked searched then) (searched_row marked last then.idle same)

-- ---- the second load of a leaf's page word

pub row_twice : (first me new : SeatState) → IsSameBesideRow first me → IsSameBesideRow me new → IsSameBesideRow first new
row_twice first me new one two = two ∙ ap (λ (x : SeatState). let y : SeatState = (record x.0 { reads = new.0.reads; behind = new.0.behind; appends = new.0.appends }, x.1) in y) one

pub again_beside_row : (number found : ℕ) (me new : SeatState) → LooksAgain number me found new → IsSameBesideRow me new
again_beside_row number found me new again = dite (ℕ_discrete found 0)
    (λ blank. subst (IsSameBesideRow me) (sym (again.none blank)) refl)
    (λ named. subst (IsSameBesideRow me) (sym (again.some named).is) refl)

pub reads_noted : (number word key : ℕ) (me new : SeatState) (again : ReadsAgain number me word new) → Contains me.0.look.leaves (number, word) → me.0.look.marked ≡ Some me.0.seen → IsKeyOf again.page key → ReadsLeaf key word new
reads_noted number word key me new again has marked belongs = record {
  leaf = again.page;
  reads = record {
    base = again.base;
    reads = ap (λ (x : SeatState). x.0.reads) again.is;
    version = subst (λ (x : SeatState). IsVersion word again.base x.0.behind again.page) (sym again.is) again.version;
    lawful = again.lawful has;
  };
  floor_below = belongs.0;
  reaches = belongs.1;
  states = λ other low high.
      let least = belongs.0 in
      again.tells me.0.seen marked has other (omega (arith, least, low), high) ∙ ap (λ (x : SeatState). known_of x.0 other) (sym again.is);
  lesser = λ other low high.
      let reaches = belongs.1 in
      again.tells me.0.seen marked has other (low, omega (arith, high, reaches)) ∙ ap (λ (x : SeatState). known_of x.0 other) (sym again.is);
}

-- which keys belong to a page, by words of its row
pub floor_is_below : (floor : Option ℕ) (has_floor word key : ℕ) → has_floor ≡ flag floor → word ≡ unwrap_or floor 0 → (has_floor ≡ 0) ⊎ (word < key) → least_above floor ≤ key
floor_is_below None has_floor word key has is below = omega arith
floor_is_below (Some floor) has_floor word key has is (inl none) = absurd (omega (arith, has, none))
floor_is_below (Some floor) has_floor word key has is (inr less) = omega (arith, is, less)

-- ---- entries

pub copied_none : (known : ℕ → Option ℕ) (lo : ℕ) → IsCopied known lo lo []
copied_none known lo = record { exact = λ key low high. absurd (omega (arith, low, high)); ascending = tt; between = tt }

pub copied_on : (known : ℕ → Option ℕ) (lo mid stop : ℕ) (one other : List Entry) → IsCopied known lo mid one → IsCopied known mid stop other → lo ≤ mid → mid ≤ stop → IsCopied known lo stop (one ++ other)
copied_on known lo mid stop one other first second begins ends = record {
  exact = λ key low high. (elim (cases_lt key mid) [
    | inl less ↦ says_first lo mid stop one other first.between second.between begins ends one key less ∙ first.exact key low less
    | inr more ↦ says_second lo mid stop one other first.between second.between begins ends one key first.between more ∙ second.exact key more high
  ]);
  ascending = both_ascend lo mid stop one other first.between second.between begins ends one first.between first.ascending second.ascending;
  between = all_of_both lo mid stop one other first.between second.between begins ends one first.between;
}

pub is_snapshot : (opening : List Entry) (seen : List Change) (lo hi : ℕ) (entries : List Entry) → IsCopied (after (pointer_of opening) seen) lo (hi + 1) entries → IsSnapshot opening seen lo hi entries
is_snapshot opening seen lo hi entries copied = record {
  exact = λ key low high. copied.exact key low (omega (arith, high));
  ascending = copied.ascending;
  between = copied.between;
}

pub none_is_snapshot : (opening : List Entry) (seen : List Change) (lo hi : ℕ) → hi < lo → IsSnapshot opening seen lo hi []
none_is_snapshot opening seen lo hi none = record { exact = λ key low high. absurd (omega (arith, low, high, none)); ascending = tt; between = tt }
