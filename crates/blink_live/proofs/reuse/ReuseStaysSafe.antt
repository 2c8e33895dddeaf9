-- A step of one seat after which its stock is right, and agrees with what the seats read, keeps reuse safe.
use Rattle.std.proofs.Common.{◌≡◌, ◌≢◌, ◌⊎◌, ⊎_elim, ℕ, suc, ◌+◌, ◌<◌, ◌≤◌, Option, Some, None, List, [], ◌∷◌, ◌++◌, set, length, refl, sym, ap, ◌∙◌, subst, inl, inr, arith}
use Rattle.std.specs.Prelude.{Contains, slice_index}
use mathlib.Core.Option.{some}
use lib.ListN.{get_elem?}
use Rattle.blink_rows.specs.declared.span.Span.{Span}
use Rattle.blink_live.specs.declared.view.Aside.{Aside}
use Rattle.blink_live.specs.declared.view.Look.{Look}
use Rattle.blink_live.specs.declared.view.Plan.{Plan}
use Rattle.blink_live.specs.declared.view.Role.TheVariants.{Pass}
use Rattle.blink_live.specs.declared.view.Stock.{Stock}
use Rattle.blink_live.specs.declared.view.View.{View}
use Rattle.blink_live.specs.Reuse.{AgreesWith, AreNamedOnce, HasAside, HasRowsOnce, HasStock, HoldsRow, IsAside, IsAtHand, IsReadBesides, IsReuseSafe, IsTakenOut, IsWithin, HasNoted}
use Rattle.blink_live.specs.Views.{no_aside, no_look, no_stock, with_spare}
use Rattle.blink_live.specs.Words.{named_row}
use Rattle.blink_live.proofs.table.LooksStay.{none_noted}
use Rattle.blink_live.proofs.table.PassesOut.{at_end}
use Rattle.blink_live.proofs.table.SeatsThatStay.{views_stay}

-- a seat that reads no row, and has noted none, holds none
pub holds_nothing : (u : View) → u.reads ≡ None → u.look ≡ no_look → (row : ℕ) (content : List ℕ) → ¬ HoldsRow u row content
holds_nothing u none unnoted row content is = ⊎_elim
    (λ (reads : u.reads ≡ Some (row, content)). let e : None ≡ Some (row, content) = sym none ∙ reads in cc)
    (λ (noted : HasNoted u.look row). none_noted noted.0 noted.1 (subst (λ (l : Look). Contains l.leaves (noted.0, noted.1)) unnoted noted.2)) is

-- one that reads and has noted the same holds the same rows
pub holds_same : (v w : View) → w.reads ≡ v.reads → w.look.leaves ≡ v.look.leaves → (row : ℕ) (content : List ℕ) → HoldsRow w row content → HoldsRow v row content
holds_same v w reads look row content is = ⊎_elim (λ (its : w.reads ≡ Some (row, content)). inl (sym reads ∙ its))
    (λ (noted : HasNoted w.look row). inr (noted.0, noted.1, subst (λ (l : List (ℕ × ℕ)). Contains l (noted.0, noted.1)) look noted.2, noted.3)) is

-- it agrees with every stock
pub reads_nothing : (stock : Stock) (u : View) → u.reads ≡ None → u.look ≡ no_look → AgreesWith stock u
reads_nothing stock u none unnoted row content is = absurd (holds_nothing u none unnoted row content is)

-- and every seat agrees with an empty stock
none_listed : (row : ℕ) → ¬ Contains [] row
none_listed row has = let inside = has.1 in omega (arith, inside)

pub agrees_with_none : (stock : Stock) (u : View) → stock ≡ no_stock → AgreesWith stock u
agrees_with_none stock u none row content is = subst (λ (x : Stock). IsReadBesides x u row) (sym none) (record { not_free = none_listed row; not_past = λ has. absurd (none_listed row has) })

-- nothing is aside
none_aside : (row : ℕ) → ¬ IsAside no_aside row
none_aside row has = ⊎_elim (λ (t : (1 ≤ row) × (row < 1)). omega (arith, t)) (λ (t : (1 ≤ row) × (row < 1)). omega (arith, t)) has

pub empty_aside : (plan : Plan) (whose : ℕ → ℕ) (seat : ℕ) (v : View) → v.stock.aside ≡ no_aside → HasAside plan whose seat v
empty_aside plan whose seat v none =
    let nothing : (row : ℕ) → ¬ IsAside v.stock.aside row = λ row has. none_aside row (subst (λ (x : Aside). IsAside x row) none has) in record {
      in_range = subst (λ (x : Aside). (1 ≤ x.rows.next) × (x.rows.stop ≤ plan.counts.rows + 1) × (x.call.stop ≤ plan.counts.rows + 1)) (sym none) (omega arith, omega arith, omega arith);
      in_order = subst (λ (x : Aside). x.call.stop ≤ x.rows.next) (sym none) (omega arith);
      sessions = λ row has. absurd (nothing row has);
      some_row = λ row has. absurd (nothing row has);
      own = λ row has. absurd (nothing row has);
      apart = λ row has. absurd (nothing row has);
    }

-- such a stock is right
pub empty_stock : (plan : Plan) (whose : ℕ → ℕ) (words : List ℕ) (claim : ℕ → ℕ) (seat : ℕ) (v : View) → v.stock ≡ no_stock → v.reads ≡ None → v.look ≡ no_look → HasStock plan whose words claim seat v
empty_stock plan whose words claim seat v none blind unnoted = record {
  awake = λ row content is. absurd (holds_nothing v blind unnoted row content is);
  once = subst HasRowsOnce (sym none) (record { free = tt; retired = tt; waiting = tt; free_retired = λ row has. absurd (none_listed row has); free_waiting = λ row has. absurd (none_listed row has); retired_waiting = λ row has. absurd (none_listed row has) });
  free = λ row has. absurd (none_listed row (subst (λ (x : Stock). Contains x.free row) none has));
  retired = λ row has. absurd (none_listed row (subst (λ (x : Stock). Contains x.retired row) none has));
  waiting = λ row has. absurd (none_listed row (subst (λ (x : Stock). Contains x.waiting row) none has));
  aside = empty_aside plan whose seat v (ap (λ (x : Stock). x.aside) none);
}

-- a seat's rows that are aside stay so where they stay its own, and no more is at hand
pub aside_kept : (plan : Plan) (whose new : ℕ → ℕ) (seat : ℕ) (v w : View) → w.stock.aside ≡ v.stock.aside → ((row : ℕ) → 1 ≤ seat → whose row ≡ suc seat → ¬ IsAtHand v row → new row ≡ suc seat)
    → ((row : ℕ) → IsAtHand w row → IsAtHand v row ⊎ (whose row ≢ suc seat)) → HasAside plan whose seat v → HasAside plan new seat w
aside_kept plan whose new seat v w same owned hand has =
    let was : (row : ℕ) → IsAside w.stock.aside row → IsAside v.stock.aside row = λ row is. subst (λ (x : Aside). IsAside x row) same is in record {
      in_range = subst (λ (x : Aside). (1 ≤ x.rows.next) × (x.rows.stop ≤ plan.counts.rows + 1) × (x.call.stop ≤ plan.counts.rows + 1)) (sym same) has.in_range;
      in_order = subst (λ (x : Aside). x.call.stop ≤ x.rows.next) (sym same) has.in_order;
      sessions = λ row is. has.sessions row (was row is);
      some_row = λ row is. has.some_row row (was row is);
      own = λ row is. owned row (has.sessions row (was row is)) (has.own row (was row is)) (has.apart row (was row is));
      apart = λ row is at. ⊎_elim (λ (before : IsAtHand v row). has.apart row (was row is) before) (λ (other : whose row ≢ suc seat). other (has.own row (was row is))) (hand row at);
    }

pub hand_stays : (whose : ℕ → ℕ) (seat : ℕ) (v w : View) → w.rows ≡ v.rows → w.call.rows ≡ v.call.rows → (row : ℕ) → IsAtHand w row → IsAtHand v row ⊎ (whose row ≢ suc seat)
hand_stays whose seat v w rows call row at = inl (subst (λ (x : Span × Span). IsWithin x.0 row ⊎ IsWithin x.1 row) (λ i. (rows i, call i)) at)

-- what was taken out is so where owners, words and claims are others
pub stock_kept : (plan : Plan) (whose new : ℕ → ℕ) (words then : List ℕ) (claim now : ℕ → ℕ) (seat : ℕ) (v : View) → ((row : ℕ) → IsTakenOut plan whose words claim seat row → IsTakenOut plan new then now seat row)
    → ((row : ℕ) → 1 ≤ seat → whose row ≡ suc seat → ¬ IsAtHand v row → new row ≡ suc seat) → HasStock plan whose words claim seat v → HasStock plan new then now seat v
stock_kept plan whose new words then claim now seat v kept owned has = record {
  awake = has.awake;
  once = has.once;
  free = λ row inside. kept row (has.free row inside);
  retired = λ row inside. kept row (has.retired row inside);
  waiting = λ row inside. kept row (has.waiting row inside);
  aside = aside_kept plan whose new seat v v refl owned (λ row at. inl at) has.aside;
}

-- ---- a step of one seat

module _ (plan : Plan) (whose new : ℕ → ℕ) (words then : List ℕ) (views : List View) (id : ℕ) (w : View) (safe : IsReuseSafe plan whose words views) where
  pub record IsSafeThen : Type 0 where
    pub claim : ℕ → ℕ
    pub named_once : AreNamedOnce plan.counts then
    pub own : HasStock plan new then claim id w
    pub others : (seat : ℕ) (u : View) → seat ≢ id → get_elem? views seat ≡ some u → HasStock plan new then claim seat u
    pub own_reads : AgreesWith w.stock w
    pub others_read : (seat : ℕ) (u : View) → seat ≢ id → get_elem? views seat ≡ some u → AgreesWith w.stock u
    pub reads_theirs : (seat : ℕ) (u : View) → seat ≢ id → get_elem? views seat ≡ some u → AgreesWith u.stock w

  pub safe_then : IsSafeThen → IsReuseSafe plan new then (set views id w)
  safe_then is = record {
    claim = is.claim;
    named_once = is.named_once;
    stocks = views_stay (HasStock plan new then is.claim) views id w is.own is.others;
    agree = λ seat other v u at_v at_u.
        views_stay (λ i a. (j : ℕ) (b : View) → get_elem? (set views id w) j ≡ some b → AgreesWith a.stock b) views id w
        (views_stay (λ j b. AgreesWith w.stock b) views id w is.own_reads is.others_read)
        (λ i a differ there. views_stay (λ j b. AgreesWith a.stock b) views id w (is.reads_theirs i a differ there) (λ j b apart at_b. safe.agree i j a b there at_b))
        seat v at_v other u at_u;
  }

-- ---- page numbers beside

-- where other page numbers are beside, the rows of a stock are as they were
pub once_beside : (spare : Span) (stock : Stock) → HasRowsOnce stock → HasRowsOnce (with_spare spare stock)
once_beside spare stock once = record { free = once.free; retired = once.retired; waiting = once.waiting; free_retired = once.free_retired; free_waiting = once.free_waiting; retired_waiting = once.retired_waiting }

-- and who reads agrees with it as before
pub agrees_beside : (spare : Span) (stock : Stock) (u : View) → AgreesWith stock u → AgreesWith (with_spare spare stock) u
agrees_beside spare stock u agrees row content is =
    let besides = agrees row content is in
    record { not_free = besides.not_free; not_past = λ waits. let held = besides.not_past waits in record { later = held.later; same = held.same } }

-- ---- a step that takes out no row

-- a seat that reads a row reads that one
pub row_is : (row other : ℕ) (content words : List ℕ) → ◌≡◌ {A = Option (ℕ × List ℕ)} (Some (row, content)) (Some (other, words)) → row ≡ other
row_is row other content words is = let same : ◌≡◌ {A = ℕ × List ℕ} (row, content) (other, words) = cc in ap (λ (x : ℕ × List ℕ). x.0) same

-- the seat holds what it held, or a row that a page word names
pub record MayRead (plan : Plan) (words : List ℕ) (v w : View) (row : ℕ) : Type 0 where
  pub awake : (w.role ≡ Pass) × (2 ≤ w.busy)
  pub from : ((content : List ℕ) × HoldsRow v row content × (w.place ≡ v.place) × (w.busy ≡ v.busy)) ⊎ ((number : ℕ) × (number < plan.counts.numbers) × (named_row words number ≡ row))

abbrev pub MayReadOn : Plan → List ℕ → View → View → Type 0
MayReadOn plan words v w = (row : ℕ) (content : List ℕ) → HoldsRow w row content → MayRead plan words v w row

module _ (plan : Plan) (whose : ℕ → ℕ) (words : List ℕ) (views : List View) (id : ℕ) (v w : View) (at : get_elem? views id ≡ some v) (safe : IsReuseSafe plan whose words views) where
  abbrev its : HasStock plan whose words safe.claim id v
  its = safe.stocks id v at

  -- it reads what it read
  pub same_reads : w.reads ≡ v.reads → w.role ≡ v.role → w.busy ≡ v.busy → w.place ≡ v.place → w.look.leaves ≡ v.look.leaves → MayReadOn plan words v w
  same_reads reads role busy place look row content is =
      let was = holds_same v w reads look row content is in
      let awake = its.awake row content was in
      let marked = awake.1 in
      record { awake = (role ∙ awake.0, omega (arith, busy, marked)); from = inl (content, was, place, busy) }

  -- then it agrees with each stock
  pub agrees_on : MayReadOn plan words v w → (seat : ℕ) (u : View) → get_elem? views seat ≡ some u → AgreesWith u.stock w
  agrees_on may seat u there row content is = ⊎_elim
      (λ (t : (before : List ℕ) × HoldsRow v row before × (w.place ≡ v.place) × (w.busy ≡ v.busy)).
      let besides = safe.agree seat id u v there at row t.0 t.1 in
      record {
        not_free = besides.not_free;
        not_past = λ waits.
            let held = besides.not_past waits in
            let later = held.later in
            let same_place = t.2 in
            record {
              later = omega (arith, later, same_place);
              same = λ few. t.3 ∙ (held.same (omega (arith, few, same_place)) ∙ ap (slice_index u.stock.before) (sym same_place));
            };
      })
      (λ (t : (number : ℕ) × (number < plan.counts.numbers) × (named_row words number ≡ row)).
      let stock = safe.stocks seat u there in
      record {
        not_free = λ has. (stock.free row has).not_named t.0 t.1 t.2;
        not_past = λ has. absurd ((stock.waiting row has).not_named t.0 t.1 t.2);
      })
      (may row content is).from

  module _ (new : ℕ → ℕ) (then : List ℕ) (published : (row : ℕ) → whose row ≡ 0 → new row ≡ 0) (owned : (seat row : ℕ) → 1 ≤ seat → whose row ≡ suc seat → (seat ≡ id → ¬ IsAtHand v row) → new row ≡ suc seat)
      (named : (number : ℕ) → number < plan.counts.numbers → named_row then number ≡ named_row words number) where
    out_still : (seat row : ℕ) → IsTakenOut plan whose words safe.claim seat row → IsTakenOut plan new then safe.claim seat row
    out_still seat row is = record {
      in_range = is.in_range;
      unowned = published row is.unowned;
      claimed = is.claimed;
      not_named = λ number few e. is.not_named number few (sym (named number few) ∙ e);
    }

    once_still : AreNamedOnce plan.counts then
    once_still one other few_one few_other least same =
        let first : named_row then one ≡ named_row words one = named one few_one in
        safe.named_once one other few_one few_other (omega (arith, least, first)) (sym first ∙ (same ∙ named other few_other))

    -- the seat has these page numbers beside
    pub reuse_beside : (spare : Span) → w.stock ≡ with_spare spare v.stock → ((row : ℕ) → IsAtHand w row → IsAtHand v row ⊎ (whose row ≢ suc id)) → MayReadOn plan words v w → IsReuseSafe plan new then (set views id w)
    reuse_beside spare same hand may = safe_then plan whose new words then views id w safe record {
      claim = safe.claim;
      named_once = once_still;
      own =
          let kept = stock_kept plan whose new words then safe.claim safe.claim id v (out_still id) (λ row later is not_there. owned id row later is (λ e. not_there)) its in record {
            awake = λ row content is. (may row content is).awake;
            once = subst HasRowsOnce (sym same) (once_beside spare v.stock its.once);
            free = λ row has. kept.free row (subst (λ (x : Stock). Contains x.free row) same has);
            retired = λ row has. kept.retired row (subst (λ (x : Stock). Contains x.retired row) same has);
            waiting = λ row has. kept.waiting row (subst (λ (x : Stock). Contains x.waiting row) same has);
            aside = aside_kept plan whose new id v w (ap (λ (x : Stock). x.aside) same) (λ row later is not_there. owned id row later is (λ e. not_there)) hand its.aside;
          };
      others = λ seat u differ there. stock_kept plan whose new words then safe.claim safe.claim seat u (out_still seat) (λ row later is not_there. owned seat row later is (λ e. absurd (differ e))) (safe.stocks seat u there);
      own_reads = subst (λ (x : Stock). AgreesWith x w) (sym same) (agrees_beside spare v.stock w (agrees_on may id v at));
      others_read = λ seat u differ there. subst (λ (x : Stock). AgreesWith x u) (sym same) (agrees_beside spare v.stock u (safe.agree id seat v u at there));
      reads_theirs = λ seat u differ there. agrees_on may seat u there;
    }

    -- or those that it had
    pub reuse_stays : w.stock ≡ v.stock → ((row : ℕ) → IsAtHand w row → IsAtHand v row ⊎ (whose row ≢ suc id)) → MayReadOn plan words v w → IsReuseSafe plan new then (set views id w)
    reuse_stays same = reuse_beside v.stock.spare same

    -- the seat has no stock any more, and reads nothing
    pub reuse_without : w.stock ≡ no_stock → w.reads ≡ None → w.look ≡ no_look → IsReuseSafe plan new then (set views id w)
    reuse_without none blind unnoted = safe_then plan whose new words then views id w safe record {
      claim = safe.claim;
      named_once = once_still;
      own = empty_stock plan new then safe.claim id w none blind unnoted;
      others = λ seat u differ there. stock_kept plan whose new words then safe.claim safe.claim seat u (out_still seat) (λ row later is not_there. owned seat row later is (λ e. absurd (differ e))) (safe.stocks seat u there);
      own_reads = agrees_with_none w.stock w none;
      others_read = λ seat u differ there. agrees_with_none w.stock u none;
      reads_theirs = λ seat u differ there. reads_nothing u.stock w blind unnoted;
    }

-- it reads a row that a page word names
pub reads_named : (plan : Plan) (words : List ℕ) (v w : View) (number row : ℕ) (content : List ℕ) → w.reads ≡ Some (row, content) → w.look.leaves ≡ v.look.leaves → w.place ≡ v.place → w.busy ≡ v.busy → w.role ≡ Pass → 2 ≤ w.busy
    → number < plan.counts.numbers → named_row words number ≡ row → MayReadOn plan words v w
reads_named plan words v w number row content reads look place busy role awake few named other its is = record {
  awake = (role, awake);
  from = ⊎_elim (λ (now : w.reads ≡ Some (other, its)). inr (number, few, named ∙ row_is row other content its (sym reads ∙ now)))
      (λ (noted : HasNoted w.look other). inl (its, inr (noted.0, noted.1, subst (λ (l : List (ℕ × ℕ)). Contains l (noted.0, noted.1)) look noted.2, noted.3), place, busy)) is;
}

-- ---- one more seat

pub reuse_longer : (plan : Plan) (whose : ℕ → ℕ) (words : List ℕ) (views : List View) (more : View) → more.stock ≡ no_stock → more.reads ≡ None → more.look ≡ no_look → IsReuseSafe plan whose words views → IsReuseSafe plan whose words (views ++ more ∷ [])
reuse_longer plan whose words views more none blind unnoted safe = record {
  claim = safe.claim;
  named_once = safe.named_once;
  stocks = λ seat u there. ⊎_elim (λ (t : get_elem? views seat ≡ some u). safe.stocks seat u t)
      (λ (t : (seat ≡ length views) × (more ≡ u)). subst (λ (x : View). HasStock plan whose words safe.claim seat x) t.1 (empty_stock plan whose words safe.claim seat more none blind unnoted))
      (at_end views more u seat there);
  agree = λ seat other v u at_v at_u. ⊎_elim
      (λ (t : get_elem? views seat ≡ some v). ⊎_elim (λ (q : get_elem? views other ≡ some u). safe.agree seat other v u t q)
      (λ (q : (other ≡ length views) × (more ≡ u)). subst (AgreesWith v.stock) q.1 (reads_nothing v.stock more blind unnoted))
      (at_end views more u other at_u))
      (λ (t : (seat ≡ length views) × (more ≡ v)). subst (λ (x : View). AgreesWith x.stock u) t.1 (agrees_with_none more.stock u none))
      (at_end views more v seat at_v);
}
