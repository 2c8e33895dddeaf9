-- What is so of an operation on the straight path is so after each of its steps too.
use Rattle.std.proofs.Common.{◌≡◌, ℕ, ◌<◌, Option, Some, None, List, length, ap, sym, ◌∙◌, subst, refl}
use Rattle.atomic_table.specs.declared.Seat.{Seat}
use Rattle.blink_batch.specs.{key_of}
use Rattle.blink_batch.specs.declared.Op.{Op}
use Rattle.blink_page.specs.{PlainPage}
use Rattle.blink_page.specs.declared.limits.TheConstants.{MAX_FAN}
use Rattle.blink_rows.specs.{Fits, PlainCounts, page_after, page_words, row_in}
use Rattle.blink_rows.specs.declared.log.Record.{Record}
use Rattle.blink_machine.specs.declared.machine.Next.TheVariants.{MoveRight}
use Rattle.blink_machine.specs.declared.machine.State.TheVariants.{Leave, SplitNew}
use Rattle.blink_machine.specs.{NeedsWrite, PlainMachine, SeesPage, SeesUnderLatch, page_out}
use Rattle.blink_live.specs.declared.descent.Descent.{Descent}
use Rattle.blink_live.specs.declared.descent.Edit.{Edit}
use Rattle.blink_live.specs.declared.descent.Edit.TheVariants.{Answers, Right, Whole, Write}
use Rattle.blink_live.specs.declared.descent.Spot.{Spot}
use Rattle.blink_live.specs.declared.live.Live.{Live}
use Rattle.blink_live.specs.declared.room.Room.{Room}
use Rattle.blink_live.specs.declared.shelf.Shelf.{Shelf}
use Rattle.blink_live.specs.declared.view.Plan.{Plan}
use Rattle.blink_live.specs.declared.view.Stock.{Stock}
use Rattle.blink_live.specs.declared.view.View.{View}
use Rattle.blink_live.specs.AtomicSteps.{LoadsPage, PublishesPage}
use Rattle.blink_live.specs.ComingBack.{puts_back}
use Rattle.blink_live.specs.Seats.{HasSameNumber, IsPassSeat, IsSameSeat, ReadsVersion}
use Rattle.blink_live.specs.Shelves.{IsLent, IsSameBesideShelf, IsShelved, IsShelvedBut, free_in, stock_of}
use Rattle.blink_live.specs.Straight.{HasMet, IsEditOf, IsSpot, IsToChange, Makes, NeedsWhole, added_nothing, at_leaf, changing, holding, leaving}
use Rattle.blink_live.specs.Updating.{CanWrite, HasLeft, IsUnderWay, IsUpdating, UsesSpareFirst}
use Rattle.blink_live.specs.Views.{appending_at, IsCommon, IsOwned, SeatState, for_call, no_aside, takes_out}
use Rattle.blink_live.specs.Words.{IsRowNumber, IsVersion}
use Rattle.blink_live.proofs.changed.CallsWrite.{writes_lent, writes_own}
use Rattle.blink_live.proofs.changed.UpdatesGoOn as on
use Rattle.blink_live.proofs.found.VersionsAreRead.{version_loaded}

-- a load of the row changes nothing
pub stays : {live : Live} {op : Op} {first seat : Seat ℕ View} {m : PlainMachine} {room : Room} → IsUnderWay live op first seat m room → (next : Seat ℕ View) → IsSameSeat seat next → IsUnderWay live op first next m room
stays {live} {op} {first} {seat} {m} {room} is next same =
    let same_view : next.me ≡ seat.me = same.2 in record {
      can = is.can;
      same_number = (same.0 ∙ is.same_number.0, same.1 ∙ is.same_number.1);
      updating = subst (λ (x : SeatState). IsUpdating op (for_call first.me.0 op, first.me.1) x m) (sym same_view) is.updating;
      room_is = subst (λ (x : SeatState). (room.rows ≡ x.0.call.rows) × (room.pages ≡ x.0.call.pages)) (sym same_view) is.room_is;
      latch_number = is.latch_number;
      shelved = subst (λ (x : SeatState). IsShelved room.shelf x.0) (sym same_view) is.shelved;
      left = subst (λ (x : SeatState). HasLeft room.shelf (for_call first.me.0 op).call x.0.call m) (sym same_view) is.left;
      spare_first = subst (λ (x : SeatState). UsesSpareFirst first.me.0 x.0) (sym same_view) is.spare_first;
    }

same_machine : {live : Live} {op : Op} {first seat : Seat ℕ View} {m : PlainMachine} {room : Room} → IsUnderWay live op first seat m room → (other : PlainMachine) → m ≡ other → IsUnderWay live op first seat other room
same_machine {live} {op} {first} {seat} {m} {room} is other same = subst (λ (x : PlainMachine). IsUnderWay live op first seat x room) same is

-- ---- the leaf that it reads under the latch

module _ (live : Live) (op : Op) (descent : Descent) (first seat loaded next : Seat ℕ View) (room : Room) (word : ℕ) (is : IsUnderWay live op first seat (holding live.fan op descent) room)
    (same : HasSameNumber seat loaded) (machine : PlainMachine) (loads : LoadsPage (holding live.fan op descent) descent.leaf seat.me word machine loaded.me) where
  pub under_latch : IsUnderWay live op first loaded machine room
  under_latch = on.after_page is same descent.leaf word loads

  pub row_there : IsRowNumber live.counts (row_in word)
  row_there = subst (λ (counts : PlainCounts). IsRowNumber counts (row_in word)) (ap (λ (p : Plan). p.counts) (on.is_its_seat is).same_plan ∙ sym live.counts_are) loads.row_in_range

  module _ (stay : IsSameSeat loaded next) where
    -- it still reads the version that this page word names, by another name
    abbrev pub version_still : (w : ℕ) → word ≡ w → ReadsVersion next.me w loads.page
    version_still w same_word = record {
      base = loads.base;
      reads = ap (λ (x : SeatState). x.0.reads) stay.2 ∙ ((version_loaded loads).reads ∙ ap (λ (k : ℕ). let e : Option (ℕ × List ℕ) = Some (row_in k, page_words loads.base) in e) same_word);
      version = subst (λ (x : ℕ × SeatState). IsVersion x.0 loads.base x.1.0.behind loads.page) (λ i. (same_word i, sym stay.2 i)) (version_loaded loads).version;
      lawful = loads.lawful;
    }

    is_machine : (other : PlainMachine) → SeesUnderLatch (holding live.fan op descent) descent.leaf loads.page other → machine ≡ other
    is_machine other sees = sym (loads.only other (SeesPage.under_latch refl sees))

    now : (other : PlainMachine) → SeesUnderLatch (holding live.fan op descent) descent.leaf loads.page other → IsUnderWay live op first next other room
    now other sees = same_machine (stays under_latch next stay) other (is_machine other sees)

    pub meets_right : (right : ℕ) → loads.page.high < key_of op → loads.page.right ≡ Some right → HasMet live op descent first next room (Right right)
    meets_right right above link = now (at_leaf live.fan op descent (Leave descent.leaf (MoveRight right)) None) (SeesUnderLatch.is_above_high_key right above link refl)

    module _ (spot : Spot) (word_is : spot.word ≡ word) (base_is : spot.base ≡ length loads.base.entries) (at : IsSpot (key_of op) loads.page spot) (after : PlainMachine) (sees : SeesUnderLatch (holding live.fan op descent) descent.leaf loads.page after) where
      -- what it is to change, by what it knows of the leaf
      to_change : (r : Record) → Fits MAX_FAN loads.page r → after ≡ changing live.fan op descent spot loads.page r → IsToChange live op descent first next room spot r
      to_change r fits makes = record {
        page = loads.page;
        version = version_still spot.word (sym word_is);
        in_range = subst (λ (k : ℕ). IsRowNumber live.counts (row_in k)) (sym word_is) row_there;
        base = base_is;
        fits = fits;
        appends = ap (λ (x : SeatState). x.0.appends) stay.2 ∙ (ap (λ (x : SeatState). x.0.appends) loads.is ∙ (ap (λ (k : PlainMachine). appending_at word k.state) (is_machine after sees ∙ makes) ∙ ap (λ (w : ℕ). Some (added_nothing descent.leaf w)) (sym word_is)));
        under_way = same_machine (now after sees) (changing live.fan op descent spot loads.page r) makes;
      }

      by_edit : (edit : Edit) → Makes (holding live.fan op descent) descent.leaf spot loads.page edit after → HasMet live op descent first next room edit
      by_edit (Right right) makes = same_machine (now after sees) (at_leaf live.fan op descent (Leave descent.leaf (MoveRight right)) None) makes
      by_edit (Answers kept) makes = same_machine (now after sees) (leaving live.fan op descent kept) makes
      by_edit (Whole full) makes =
          let here : full ≡ word = makes.0 ∙ word_is in
          let then : PlainMachine = at_leaf live.fan op descent (SplitNew descent.leaf loads.page) None in record {
            page = loads.page;
            after = then;
            reads = version_still full (sym here);
            in_range = subst (λ (k : ℕ). IsRowNumber live.counts (row_in k)) (sym here) row_there;
            readable = loads.readable;
            only = λ other its. loads.only other its ∙ (is_machine after sees ∙ makes.1);
            splits = refl;
            leaf_in_range = (on.page_in_range is descent.leaf refl).1;
            under_way = same_machine (now after sees) then makes.1;
          }
      by_edit (Write its r) makes = subst (λ (s : Spot). IsToChange live op descent first next room s r) (sym makes.0) (to_change r makes.1 makes.2)

    pub meets : (edit : Edit) (spot : Spot) → spot.word ≡ word → spot.base ≡ length loads.base.entries → IsSpot (key_of op) loads.page spot → IsEditOf op live.fan spot edit → HasMet live op descent first next room edit
    meets edit spot word_is base_is at edits =
        let made = edits (holding live.fan op descent) descent.leaf loads.page refl refl refl loads.readable loads.readable.has_level loads.lawful at in
        by_edit spot word_is base_is at made.0 made.2 edit made.1

-- ---- the row that it publishes

module _ {live : Live} {op : Op} {descent : Descent} {first seat : Seat ℕ View} {room : Room} {spot : Spot} {r : Record} (to : IsToChange live op descent first seat room spot r) where
  -- the machine that it would be
  abbrev pub writing : PlainMachine
  writing = changing live.fan op descent spot to.page r

  -- it has read its leaf's version
  module _ (read : Seat ℕ View) (stay : IsSameSeat seat read) where
    pub under_way_still : IsUnderWay live op first read writing room
    under_way_still = stays to.under_way read stay

    pub its_operation : read.me.0.operation ≡ Some writing
    its_operation = on.is_its_operation under_way_still (λ ends. absurd (cc))

    module _ (next : Seat ℕ View) (same : HasSameNumber read next) where
      abbrev CanWriteLeaf : ℕ → PlainPage → Type 0
      CanWriteLeaf row page = (m : PlainMachine) × CanWrite live m row next × NeedsWrite m descent.leaf × (page ≡ page_out m 0)

      -- a row that the shelf has lent
      pub lent_leaf : (then : Room) (row : ℕ) (page : PlainPage) → page ≡ page_after to.page r → IsLent row read.me next.me then → IsRowNumber live.counts row → CanWriteLeaf row page
      lent_leaf then row page is lent in_range = (writing, writes_lent live op first read next writing room then under_way_still (λ ends. absurd (cc)) same row lent in_range, refl, is)

      -- or one of its own
      pub own_leaf : (then : Room) (page : PlainPage) → page ≡ page_after to.page r → next.me ≡ read.me → IsSameBesideShelf room then → free_in room.shelf ≡ 0 → CanWriteLeaf then.rows.next page
      own_leaf then page is none same_room none_free =
          (writing, writes_own live op first read next writing room then under_way_still (λ ends. absurd (cc)) same none same_room (on.row_for_page under_way_still descent.leaf refl none_free), refl, is)

    -- it is still a pass's seat
    pub seat_published : (next last : Seat ℕ View) (number out : ℕ) (m : PlainMachine) → HasSameNumber read next → HasSameNumber next last → next.me.0.plan ≡ read.me.0.plan → next.me.0.role ≡ read.me.0.role → PublishesPage number out m next.me last.me → IsPassSeat live last.table_id last.me
    seat_published next last number out m one two plan role does =
        let its = on.is_its_seat under_way_still in record {
          same_table = two.0 ∙ (one.0 ∙ its.same_table);
          same_plan = ap (λ (x : SeatState). x.0.plan) does.is ∙ (plan ∙ its.same_plan);
          role = ap (λ (x : SeatState). x.0.role) does.is ∙ (role ∙ its.role);
        }

-- the shelf lacks the row that was taken out
pub shelved_but : (shelf : Option Shelf) (out : ℕ) (v w : View) → w.plan ≡ v.plan → w.stock ≡ takes_out out v.stock → IsShelved shelf v → IsShelvedBut out shelf w
shelved_but None out v w plan stock is = subst IsOwned (sym plan) is
shelved_but (Some shelf) out v w plan stock is = (subst IsCommon (sym plan) is.0, stock ∙ ap (takes_out out) is.1)

-- also where it had lent one
pub shelved_lent : (number out row : ℕ) (m : PlainMachine) (room : Room) (me lent then last : SeatState) → (is : IsLent row me lent room) → PublishesPage number out m lent then → last ≡ (puts_back then.0, then.1) → IsShelvedBut out room.shelf last.0
shelved_lent number out row m room me lent then last is does back =
    let plan : last.0.plan ≡ me.0.plan = ap (λ (x : SeatState). x.0.plan) back ∙ ap (λ (x : SeatState). x.0.plan) does.is ∙ ap (λ (x : SeatState). x.0.plan) is.is in
    let stock : last.0.stock ≡ takes_out out (stock_of is.shelf) =
    ap (λ (x : SeatState). x.0.stock) back
    ∙ ap (λ (x : SeatState). let y : Stock = record x.0.stock { aside = no_aside } in y) does.is
    ∙ ap (λ (x : SeatState). takes_out out (record x.0.stock { aside = no_aside })) is.is
    ∙ ap (takes_out out) is.stock in
    subst (λ (s : Option Shelf). IsShelvedBut out s last.0) (sym is.same_shelf) (subst IsCommon (sym plan) is.common, stock)

-- ---- a leaf of which it has to see all

pub goes_on_whole : {live : Live} {op : Op} {descent : Descent} {first seat : Seat ℕ View} {room : Room} {word : ℕ} → (whole : NeedsWhole live op descent first seat room word) → (next : Seat ℕ View) → IsSameSeat seat next → (held : PlainMachine) (page : PlainPage) (after : PlainMachine)
    → held ≡ holding live.fan op descent → page ≡ whole.page → SeesPage held descent.leaf page after → IsUnderWay live op first next after room
goes_on_whole {live} {op} {descent} {first} {seat} {room} {word} whole next same held page after is_held is_page sees =
    let its : SeesPage (holding live.fan op descent) descent.leaf whole.page after = subst (λ (x : PlainMachine × PlainPage). SeesPage x.0 descent.leaf x.1 after) (λ i. (is_held i, is_page i)) sees in
    same_machine (stays whole.under_way next same) after (sym (whole.only after its))
