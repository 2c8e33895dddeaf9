-- What a seat knows that goes along the leaves.
use Rattle.std.proofs.Common.{◌≡◌, ℕ, ◌<◌, ◌≤◌, Option, Some, None, refl, sym, ap, ◌∙◌, subst, arith}
use Rattle.std.specs.Prelude.{IfSome}
use Rattle.atomic_table.specs.Seated.{TableId}
use Rattle.blink_page.specs.{IsKeyOf}
use Rattle.blink_rows.specs.{PlainCounts}
use Rattle.blink_live.specs.declared.live.Live.{Live}
use Rattle.blink_live.specs.declared.view.Look.{Look}
use Rattle.blink_live.specs.declared.view.Plan.{Plan}
use Rattle.blink_live.specs.Along.{GoesAlong, IsNotedLeaf}
use Rattle.blink_live.specs.Finding.{HasSearched, IsIdle}
use Rattle.blink_live.specs.Seats.{IsPassSeat, ReadsLeaf, ReadsVersion}
use Rattle.blink_live.specs.Views.{KnowsItsOwn, SeatState, known_of}
use Rattle.blink_live.specs.Words.{IsVersion}

-- the seat's counts are the table's
pub plan_counts : (live : Live) (table : TableId) (me : SeatState) → IsPassSeat live table me → me.0.plan.counts ≡ live.counts
plan_counts live table me seat = ap (λ (p : Plan). p.counts) seat.same_plan ∙ sym live.counts_are

pub noted_in_plan : (counts other : PlainCounts) (look : Look) (number : ℕ) → counts ≡ other → IsNotedLeaf counts look number → IsNotedLeaf other look number
noted_in_plan counts other look number same leaf = record {
  in_range = subst (λ (c : PlainCounts). (1 ≤ number) × (number < c.numbers)) same leaf.in_range;
  word = leaf.word;
  noted = leaf.noted;
}

-- after the load of a leaf's page word the seat has searched
pub searched_along : (word : ℕ) (me new : SeatState) → IsIdle me.0 → GoesAlong me word new → HasSearched me new
searched_along word me new was along = subst (HasSearched me) (sym along.is) record {
  saw = along.saw;
  idle = record {
    idle = was.idle;
    rows = was.rows;
    pages = was.pages;
    knows_own = subst (λ (x : SeatState). KnowsItsOwn x.0) along.is along.knows_own;
    announced = was.announced;
  };
  same_plan = refl;
  same_role = refl;
  same_place = refl;
  same_rows = refl;
  same_pages = refl;
  same_share = refl;
  same_told = refl;
  same_stock = refl;
  same_slots = refl;
}

-- it reads the page
abbrev pub reads_along : (word : ℕ) (me new : SeatState) (along : GoesAlong me word new) → ReadsVersion new word along.page
reads_along word me new along = record {
  base = along.base;
  reads = ap (λ (x : SeatState). x.0.reads) along.is;
  version = subst (λ (x : SeatState). IsVersion word along.base x.0.behind along.page) (sym along.is) along.version;
  lawful = along.lawful;
}

-- and if the key belongs there, the page is the key's leaf
pub leaf_along : (word key : ℕ) (me new : SeatState) (along : GoesAlong me word new) → IsKeyOf along.page key → ReadsLeaf key word new
leaf_along word key me new along belongs = record {
  leaf = along.page;
  reads = reads_along word me new along;
  floor_below = belongs.0;
  reaches = belongs.1;
  states = λ other low high.
      let least = belongs.0 in
      along.tells other (omega (arith, least, low), high) ∙ ap (λ (x : SeatState). known_of x.0 other) (sym along.is);
  lesser = λ other low high.
      let reaches = belongs.1 in
      along.tells other (low, omega (arith, high, reaches)) ∙ ap (λ (x : SeatState). known_of x.0 other) (sym along.is);
}

-- the leaf to the right is noted
noted_right : (counts : PlainCounts) (word : ℕ) (me new : SeatState) (along : GoesAlong me word new) → me.0.plan.counts ≡ counts → (right : Option ℕ) → along.page.right ≡ right → IfSome right (IsNotedLeaf counts new.0.look)
noted_right counts word me new along same None is = tt
noted_right counts word me new along same (Some next) is =
    subst (λ (x : SeatState). IsNotedLeaf counts x.0.look next) (sym along.is) (noted_in_plan me.0.plan.counts counts along.look next same (along.right next is))

pub right_along : (counts : PlainCounts) (word : ℕ) (me new last : SeatState) (right : Option ℕ) (along : GoesAlong me word new) → me.0.plan.counts ≡ counts → last ≡ new → right ≡ along.page.right → IfSome right (IsNotedLeaf counts last.0.look)
right_along counts word me new last right along same kept is =
    subst (λ (x : SeatState). IfSome right (IsNotedLeaf counts x.0.look)) (sym kept) (noted_right counts word me new along same right (sym is))
