-- A page word that names another row takes out the row that it named, and keeps reuse safe.
use Rattle.std.proofs.Common.{◌≡◌, ◌≢◌, ◌⊎◌, ⊎_elim, ℕ, suc, ◌<◌, ◌≤◌, Option, Some, None, List, ◌∷◌, set, refl, sym, ap, ◌∙◌, subst, get_or-set_same, get_or-set_other, arith}
use Rattle.std.specs.Prelude.{Contains, slice_index}
use mathlib.Core.Option.{some}
use mathlib.Core.Logic.{dite}
use native.Mathlib.Decide.{ℕ_discrete}
use lib.ListN.{get_elem?}
use Rattle.atomic_table.specs.Table.{State}
use Rattle.blink_page.specs.{PlainPage}
use Rattle.blink_rows.specs.{row_in}
use Rattle.blink_machine.specs.TreeState.{TreeState}
use Rattle.blink_live.specs.declared.view.Plan.{Plan}
use Rattle.blink_live.specs.declared.view.Stock.{Stock}
use Rattle.blink_live.specs.declared.view.View.{View}
use Rattle.blink_live.specs.Changes.{put}
use Rattle.blink_live.specs.Reuse.{AgreesWith, AreNamedOnce, HasRowsOnce, HasStock, IsAtHand, IsReuseSafe, IsTakenOut, IsWithin}
use Rattle.blink_live.specs.Rule.{IsPublished, IsTableAt, Owners, PageWordIs}
use Rattle.blink_live.specs.Views.{takes_out}
use Rattle.blink_live.specs.Words.{named_row}
use Rattle.blink_live.proofs.dealt.FirstOrOneOfRest.{contains_case}
use Rattle.blink_live.proofs.reuse.ReuseStaysSafe.{agrees_on, aside_kept, same_reads, safe_then, stock_kept}
use Rattle.blink_live.proofs.table.MapsWithOneChange.{put_here, put_else}
use Rattle.blink_live.proofs.table.RowsAreNamed.{no_row_in, row_names_itself}

-- a row that a page word names is published
pub word_is_published : (plan : Plan) (owners : Owners) (words : List ℕ) (word : ℕ) (page : Option PlainPage) → 1 ≤ row_in word → PageWordIs plan owners words word page → IsPublished plan owners (row_in word)
word_is_published plan owners words word None least is = let none = no_row_in word is in absurd (omega (arith, least, none))
word_is_published plan owners words word (Some page) least is = is.published

module _ (plan : Plan) (s : State ℕ View) (tree_state : TreeState) (h : IsTableAt plan s tree_state) (id number row : ℕ) (v w : View) (at : get_elem? s.views id ≡ some v) (safe : IsReuseSafe plan h.owners.row s.words s.views)
    (in_range : number < plan.counts.numbers) (own : h.owners.row row ≡ suc id) (same_reads_as : w.reads ≡ v.reads) (same_role : w.role ≡ v.role) (same_busy : w.busy ≡ v.busy) (same_place : w.place ≡ v.place) (same_look : w.look.leaves ≡ v.look.leaves)
    (at_hand : IsAtHand v row) (hand : (r : ℕ) → IsAtHand w r → IsAtHand v r ⊎ (h.owners.row r ≢ suc id)) where
  abbrev then : List ℕ
  then = set s.words number row

  abbrev new : ℕ → ℕ
  new = put h.owners.row row 0

  abbrev out : ℕ
  out = named_row s.words number

  its : HasStock plan h.owners.row s.words safe.claim id v
  its = safe.stocks id v at

  named_is_published : (n : ℕ) → n < plan.counts.numbers → 1 ≤ named_row s.words n → IsPublished plan h.owners (named_row s.words n)
  named_is_published n few least = dite (ℕ_discrete n 0)
      (λ first. subst (λ (k : ℕ). IsPublished plan h.owners (named_row s.words k)) (sym first) h.prime.published)
      (λ later. word_is_published plan h.owners s.words (slice_index s.words n) (tree_state.pages n) least (h.pages n (omega (arith, later)) few))

  -- the row that gets published isn't published yet
  not_the_row : (r : ℕ) → h.owners.row r ≡ 0 → r ≢ row
  not_the_row r unowned e = let one : 0 ≡ suc id = sym unowned ∙ (ap h.owners.row e ∙ own) in omega (arith, one)

  row_inside : row ≤ plan.counts.rows
  row_inside =
      let known = h.views id v at in
      let last = known.rows.in_range.1 in
      let last_of_call = known.for_call.others.in_range.1 in
      ⊎_elim (λ (t : IsWithin v.rows row). omega (arith, t, last)) (λ (t : IsWithin v.call.rows row). omega (arith, t, last_of_call)) at_hand

  here : named_row then number ≡ row
  here =
      let wide = h.width in
      let word : slice_index then number ≡ row = get_or-set_same s.words number row 0 (omega (arith, wide, in_range)) in
      ap row_in word ∙ row_names_itself plan row h.bounded row_inside

  elsewhere : (n : ℕ) → n ≢ number → named_row then n ≡ named_row s.words n
  elsewhere n differ = let word : slice_index then n ≡ slice_index s.words n = get_or-set_other s.words number n row 0 differ in ap row_in word

  once_then : AreNamedOnce plan.counts then
  once_then one other few_one few_other least same = dite (ℕ_discrete one number)
      (λ first. dite (ℕ_discrete other number) (λ second. first ∙ sym second)
      (λ differ.
      let named : named_row s.words other ≡ row = sym (elsewhere other differ) ∙ (sym same ∙ (ap (named_row then) first ∙ here)) in
      let at_least : 1 ≤ named_row s.words other = let here_now : named_row then one ≡ named_row s.words other = same ∙ elsewhere other differ in omega (arith, least, here_now) in
      absurd (not_the_row (named_row s.words other) (named_is_published other few_other at_least).1 named)))
      (λ apart.
      let was : named_row then one ≡ named_row s.words one = elsewhere one apart in
      let at_least : 1 ≤ named_row s.words one = omega (arith, least, was) in
      dite (ℕ_discrete other number)
      (λ second. absurd (not_the_row (named_row s.words one) (named_is_published one few_one at_least).1 (sym was ∙ (same ∙ (ap (named_row then) second ∙ here)))))
      (λ differ. safe.named_once one other few_one few_other at_least (sym was ∙ (same ∙ elsewhere other differ))))

  out_then : (now : ℕ → ℕ) (seat r : ℕ) → now r ≡ safe.claim r → IsTakenOut plan h.owners.row s.words safe.claim seat r → IsTakenOut plan new then now seat r
  out_then now seat r same is = record {
    in_range = is.in_range;
    unowned = put_else h.owners.row row r 0 (not_the_row r is.unowned) ∙ is.unowned;
    claimed = same ∙ is.claimed;
    not_named = λ n few e. dite (ℕ_discrete n number)
        (λ it. not_the_row r is.unowned (sym e ∙ (ap (named_row then) it ∙ here)))
        (λ differ. is.not_named n few (sym (elsewhere n differ) ∙ e));
  }

  -- the other rows stay whose they are
  owned_then : (seat r : ℕ) → h.owners.row r ≡ suc seat → (seat ≡ id → ¬ IsAtHand v r) → new r ≡ suc seat
  owned_then seat r is apart = put_else h.owners.row row r 0 (λ e. let one : suc seat ≡ suc id = sym is ∙ (ap h.owners.row e ∙ own) in apart (omega (arith, one)) (subst (IsAtHand v) (sym e) at_hand)) ∙ is

  -- ---- a new page: no row is taken out

  pub new_page_is_safe : w.stock ≡ v.stock → IsReuseSafe plan new then (set s.views id w)
  new_page_is_safe same_stock =
      let may = same_reads plan h.owners.row s.words s.views id v w at safe same_reads_as same_role same_busy same_place same_look in
      let kept = stock_kept plan h.owners.row new s.words then safe.claim safe.claim id v (λ r is. out_then safe.claim id r refl is) (λ r later is not_there. owned_then id r is (λ e. not_there)) its in
      safe_then plan h.owners.row new s.words then s.views id w safe record {
        claim = safe.claim;
        named_once = once_then;
        own = record {
          awake = λ r content is. (may r content is).awake;
          once = subst HasRowsOnce (sym same_stock) its.once;
          free = λ r has. kept.free r (subst (λ (x : Stock). Contains x.free r) same_stock has);
          retired = λ r has. kept.retired r (subst (λ (x : Stock). Contains x.retired r) same_stock has);
          waiting = λ r has. kept.waiting r (subst (λ (x : Stock). Contains x.waiting r) same_stock has);
          aside = aside_kept plan h.owners.row new id v w (ap (λ (x : Stock). x.aside) same_stock) (λ r later is not_there. owned_then id r is (λ e. not_there)) hand its.aside;
        };
        others = λ seat u differ there. stock_kept plan h.owners.row new s.words then safe.claim safe.claim seat u (λ r is. out_then safe.claim seat r refl is) (λ r later is not_there. owned_then seat r is (λ e. absurd (differ e))) (safe.stocks seat u there);
        own_reads = subst (λ (x : Stock). AgreesWith x w) (sym same_stock) (agrees_on plan h.owners.row s.words s.views id v w at safe may id v at);
        others_read = λ seat u differ there. subst (λ (x : Stock). AgreesWith x u) (sym same_stock) (safe.agree id seat v u at there);
        reads_theirs = λ seat u differ there. agrees_on plan h.owners.row s.words s.views id v w at safe may seat u there;
      }

  -- ---- another version of a page: its row is taken out

  module _ (published : IsPublished plan h.owners (named_row s.words number)) (same_stock : w.stock ≡ takes_out (named_row s.words number) v.stock) where
    abbrev claim : ℕ → ℕ
    claim = put safe.claim out (suc id)

    -- nobody has taken it out before
    claim_else : (seat r : ℕ) → IsTakenOut plan h.owners.row s.words safe.claim seat r → claim r ≡ safe.claim r
    claim_else seat r is = put_else safe.claim out r (suc id) (λ e. is.not_named number in_range (sym e))

    taken : IsTakenOut plan new then claim id out
    taken = record {
      in_range = published.0;
      unowned = put_else h.owners.row row out 0 (not_the_row out published.1) ∙ published.1;
      claimed = put_here safe.claim out (suc id);
      not_named = λ n few e. dite (ℕ_discrete n number)
          (λ it. not_the_row out published.1 (sym e ∙ (ap (named_row then) it ∙ here)))
          (λ differ. let at_least = published.0.0 in
          let same : named_row s.words n ≡ out = sym (elsewhere n differ) ∙ e in
          differ (safe.named_once n number few in_range (omega (arith, at_least, same)) same));
    }

    old_then : (seat r : ℕ) → IsTakenOut plan h.owners.row s.words safe.claim seat r → IsTakenOut plan new then claim seat r
    old_then seat r is = out_then claim seat r (claim_else seat r is) is

    retired_then : (r : ℕ) → Contains (out ∷ v.stock.retired) r → IsTakenOut plan new then claim id r
    retired_then r has = contains_case out v.stock.retired r has (λ e. subst (IsTakenOut plan new then claim id) e taken) (λ before. old_then id r (its.retired r before))

    rows_once : HasRowsOnce (takes_out out v.stock)
    rows_once = record {
      free = its.once.free;
      retired = (λ has. (its.retired out has).not_named number in_range refl, its.once.retired);
      waiting = its.once.waiting;
      free_retired = λ r in_free has. contains_case out v.stock.retired r has (λ e. (its.free r in_free).not_named number in_range e) (λ before. its.once.free_retired r in_free before);
      free_waiting = its.once.free_waiting;
      retired_waiting = λ r has waits. contains_case out v.stock.retired r has (λ e. (its.waiting r waits).not_named number in_range e) (λ before. its.once.retired_waiting r before waits);
    }

    agrees_then : (u : View) → AgreesWith v.stock u → AgreesWith w.stock u
    agrees_then u agrees = subst (λ (x : Stock). AgreesWith x u) (sym same_stock) (λ r content is.
        let besides = agrees r content is in
        record { not_free = besides.not_free; not_past = λ waits. let held = besides.not_past waits in record { later = held.later; same = held.same } })

    pub page_is_safe : IsReuseSafe plan new then (set s.views id w)
    page_is_safe =
        let may = same_reads plan h.owners.row s.words s.views id v w at safe same_reads_as same_role same_busy same_place same_look in
        safe_then plan h.owners.row new s.words then s.views id w safe record {
          claim = claim;
          named_once = once_then;
          own = record {
            awake = λ r content is. (may r content is).awake;
            once = subst HasRowsOnce (sym same_stock) rows_once;
            free = λ r has. old_then id r (its.free r (subst (λ (x : Stock). Contains x.free r) same_stock has));
            retired = λ r has. retired_then r (subst (λ (x : Stock). Contains x.retired r) same_stock has);
            waiting = λ r has. old_then id r (its.waiting r (subst (λ (x : Stock). Contains x.waiting r) same_stock has));
            aside = aside_kept plan h.owners.row new id v w (ap (λ (x : Stock). x.aside) same_stock) (λ r later is not_there. owned_then id r is (λ e. not_there)) hand its.aside;
          };
          others = λ seat u differ there. stock_kept plan h.owners.row new s.words then safe.claim claim seat u (λ r is. old_then seat r is) (λ r later is not_there. owned_then seat r is (λ e. absurd (differ e))) (safe.stocks seat u there);
          own_reads = agrees_then w (agrees_on plan h.owners.row s.words s.views id v w at safe may id v at);
          others_read = λ seat u differ there. agrees_then u (safe.agree id seat v u at there);
          reads_theirs = λ seat u differ there. agrees_on plan h.owners.row s.words s.views id v w at safe may seat u there;
        }
