-- Rows, page numbers and keys get other owners; the words and the tree state stay as they are.
use Rattle.std.proofs.Common.{◌≡◌, ℕ, suc, ◌≤◌, Option, Some, None, List, ◌++◌, length, refl, sym, ap, ◌∙◌, arith, subst}
use Rattle.std.specs.Prelude.{slice_index}
use mathlib.Core.Option.{some}
use lib.ListN.{get_elem?}
use Rattle.atomic_table.specs.Table.{State}
use Rattle.blink_page.specs.{PlainPage}
use Rattle.blink_rows.specs.{prime_words, row_in}
use Rattle.blink_machine.specs.TreeState.{TreeState}
use Rattle.blink_live.specs.declared.view.Change.{Change}
use Rattle.blink_live.specs.declared.view.Plan.{Plan}
use Rattle.blink_live.specs.declared.view.Role.{Role}
use Rattle.blink_live.specs.declared.view.Role.TheVariants.{Keeper, Pass, Spent}
use Rattle.blink_live.specs.declared.view.Share.{Share}
use Rattle.blink_live.specs.declared.view.View.{View}
use Rattle.blink_live.specs.Accounts.{AreAccounts}
use Rattle.blink_live.specs.Reuse.{IsReuseSafe}
use Rattle.blink_live.specs.Rule.{AreNamedBy, HasPool, IsAppending, Owners, PageWordIs, latch_word, Reads, ReadsRow, IsShare, IsInRole, Knows, AreCounted, IsTableAt}
use Rattle.blink_live.specs.Views.{IsCommon}
use Rattle.blink_live.proofs.table.CallsOfSeats.{call_still}
use Rattle.blink_live.proofs.table.LooksStay.{looks_stay}
use Rattle.blink_live.proofs.table.SparesOfSeats.{spare_still}
use Rattle.blink_live.proofs.table.RowsAreNamed.{names_still, page_still_named}

-- what was published is, and the same words are fixed
pub record StaysPublished (old new : Owners) : Type 0 where
  pub rows : (row : ℕ) → old.row row ≡ 0 → new.row row ≡ 0
  pub fixed : new.fixed ≡ old.fixed
  pub named_by : new.named_by ≡ old.named_by

-- the seat owns what it did
pub record StillOwns (old new : Owners) (seat : ℕ) : Type 0 where
  pub row : (row : ℕ) → old.row row ≡ suc seat → new.row row ≡ suc seat
  pub page : (number : ℕ) → old.page number ≡ suc seat → new.page number ≡ suc seat
  pub key : (key : ℕ) → old.key key ≡ suc seat → new.key key ≡ suc seat
  pub latch_number : new.latch_number seat ≡ old.latch_number seat
  pub place : (place : ℕ) → old.place place ≡ suc seat → new.place place ≡ suc seat

module _ (plan : Plan) (old new : Owners) (words : List ℕ) (log : List Change) (published : StaysPublished old new) where
  page_still : (word : ℕ) (page : Option PlainPage) → PageWordIs plan old words word page → PageWordIs plan new words word page
  page_still word None is = is
  page_still word (Some page) is = page_still_named plan old new words word page (published.rows (row_in word) is.published.1) (ap (λ (f : ℕ → ℕ). f (row_in word)) published.fixed) is

  pub reads_still : (reads : Option (ℕ × List ℕ)) (behind : List ℕ) → ReadsRow plan old words reads behind → ReadsRow plan new words reads behind
  reads_still None behind is = is
  reads_still (Some (row, content)) behind is = ((is.0.0, published.rows row is.0.1), is.1, subst (λ (f : ℕ → ℕ). length (content ++ behind) ≤ f row) (sym published.fixed) is.2)

  pub seat_reads_still : (tree_state : TreeState) (v : View) → Reads plan old words tree_state v → Reads plan new words tree_state v
  seat_reads_still tree_state v is = (
    reads_still v.reads v.behind is.0,
    looks_stay plan old.row new.row words words tree_state.fan tree_state.fan tree_state.prime tree_state.prime tree_state.pages tree_state.pages v.look (λ number word has in_range. published.rows (row_in word)) (λ number in_chain. in_chain)
        (λ number word least few unowned since. (since, λ is. (is, refl))) is.1,
  )

  -- a share whose keys have another owner
  pub share_still : (owner other : ℕ) (share : Share) → ((key : ℕ) → old.key key ≡ owner → new.key key ≡ other) → IsShare plan old log owner share → IsShare plan new log other share
  share_still owner other share same is key has = let known = is key has in record { own = same key known.own; kept = known.kept; changes = known.changes }

  role_still : (seat : ℕ) (v : View) (role : Role) → 1 ≤ seat → new.latch_number seat ≡ old.latch_number seat → IsInRole plan old log seat v role → IsInRole plan new log seat v role
  role_still seat v (Keeper dealt back) later same is = absurd (let first = is.0 in omega (arith, first, later))
  role_still seat v Pass later same is = (is.0, same ∙ is.1)
  role_still seat v Spent later same is = is

  -- a seat that isn't the keeper's knows what it knew
  pub knows_still : (tree_state : TreeState) (seat : ℕ) (v : View) → 1 ≤ seat → StillOwns old new seat → Knows plan old words tree_state log seat v → Knows plan new words tree_state log seat v
  knows_still tree_state seat v later owns known = record {
    same_plan = known.same_plan;
    operation = known.operation;
    bounded = known.bounded;
    reads = seat_reads_still tree_state v known.reads;
    appends = subst (λ (f : ℕ → ℕ). IsAppending plan.counts f tree_state.holder words seat v.reads v.behind v.appends) (sym published.fixed) known.appends;
    rows = record { in_range = known.rows.in_range; own = λ row low high. owns.row row (known.rows.own row low high) };
    numbers = record { in_range = known.numbers.in_range; own = λ number low high. owns.page number (known.numbers.own number low high); free = known.numbers.free };
    for_call = call_still plan old new words tree_state tree_state (suc seat) v.call v.rows.next v.pages.next v.rows.next v.pages.next known.for_call (omega arith, omega arith) (λ r below. owns.row r) (λ n below. owns.page n) (λ n none. none);
    spare = spare_still plan old new tree_state tree_state (suc seat) v.stock.spare v.pages.next v.call.pages known.spare owns.page (λ n none. none);
    share = share_still (suc seat) (suc seat) v.share owns.key known.share;
    saw = known.saw;
    heard = known.heard;
    in_role = role_still seat v v.role later owns.latch_number known.in_role;
    placed = λ common is. let p = known.placed common is in record { in_range = p.in_range; own = owns.place v.place p.own; word = p.word; busy = p.busy };
    places_left = λ dealt back is. absurd (let first = (subst (IsInRole plan old log seat v) is known.in_role).0 in omega (arith, first, later));
    nothing = λ common dealt back is. absurd (let first = (subst (IsInRole plan old log seat v) is known.in_role).0 in omega (arith, first, later));
  }

latch_still : (old new : Owners) (holder : Option ℕ) → ((seat : ℕ) → holder ≡ Some seat → new.latch_number seat ≡ old.latch_number seat) → latch_word old holder ≡ latch_word new holder
latch_still old new None same = refl
latch_still old new (Some seat) same = sym (same seat refl)

-- the table with these owners and seats
pub owners_change : (plan : Plan) (s : State ℕ View) (tree_state : TreeState) (h : IsTableAt plan s tree_state) (new : Owners) (views : List View)
    → StaysPublished h.owners new
    → ((number seat : ℕ) → tree_state.holder number ≡ Some seat → new.latch_number seat ≡ h.owners.latch_number seat)
    → ((seat : ℕ) (v : View) → get_elem? views seat ≡ some v → Knows plan new s.words tree_state h.log seat v)
    → length s.views ≤ length views → (IsCommon plan → (key : ℕ) → new.key key ≡ 0) → (IsCommon plan → HasPool plan new s.words tree_state) → (IsCommon plan → AreAccounts plan new.place h.log views)
    → (IsCommon plan → IsReuseSafe plan new.row s.words views) → AreCounted views
    → IsTableAt plan record { words = s.words; homes = s.homes; views = views } tree_state
owners_change plan s tree_state h new views published same_latch knows longer nobodys pool accounted reuse counted = record {
  owners = new;
  log = h.log;
  now = h.now;
  same_fan = h.same_fan;
  invariant = h.invariant;
  prime_numbers = h.prime_numbers;
  bounded = h.bounded;
  width = h.width;
  prime = names_still plan h.owners new s.words (slice_index s.words 0) (prime_words tree_state.prime) (published.rows (row_in (slice_index s.words 0)) h.prime.published.1) (ap (λ (f : ℕ → ℕ). f (row_in (slice_index s.words 0))) published.fixed) h.prime;
  pages = λ number low high. page_still plan h.owners new s.words h.log published (slice_index s.words number) (tree_state.pages number) (h.pages number low high);
  named_by = subst (λ (f : ℕ → ℕ). AreNamedBy plan.counts f s.words) (sym published.named_by) h.named_by;
  no_other_page = h.no_other_page;
  no_other_latch = h.no_other_latch;
  latches = λ number inside. h.latches number inside ∙ latch_still h.owners new (tree_state.holder number) (same_latch number);
  holders = λ number seat holds. let same = same_latch number seat holds in let some_number = h.holders number seat holds in omega (arith, same, some_number);
  is_map = record { ascending = h.is_map.ascending; kept = h.is_map.kept };
  kept = h.kept;
  nobodys = nobodys;
  pool = pool;
  accounted = accounted;
  reuse = reuse;
  views = knows;
  others_idle = λ seat beyond. h.others_idle seat (omega (arith, longer, beyond));
  counted = counted;
}
