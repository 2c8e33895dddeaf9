-- A descent goes from the root on, page by page, the way that the loaded words tell.
use Rattle.std.proofs.Common.{◌≡◌, ℕ, zero, suc, ◌+◌, ◌-◌, ◌<◌, ◌≤◌, Option, Some, None, List, [], ◌∷◌, length, refl, ap, sym, ◌∙◌, subst, arith}
use Rattle.std.specs.Prelude.{slice_get}
use Rattle.std.specs.List.{last_or}
use mathlib.Core.List.{IsPrefix}
use Rattle.blink_batch.specs.{FitsWords, answer_at, key_of}
use Rattle.blink_batch.specs.declared.Answer.{Answer}
use Rattle.blink_batch.specs.declared.Op.{Op}
use Rattle.blink_batch.specs.declared.Op.TheVariants.{Find}
use Rattle.blink_page.specs.{Leads, PlainPage, least_above, value_at}
use Rattle.blink_page.specs.declared.search.Way.{Way}
use Rattle.blink_page.specs.declared.search.Way.TheVariants.{Right, Down, Here}
use Rattle.blink_machine.specs.declared.machine.Job.{Job}
use Rattle.blink_machine.specs.declared.machine.State.{State}
use Rattle.blink_machine.specs.declared.machine.State.TheVariants.{Going, Ended}
use Rattle.blink_machine.specs.{IsReadable, IsTopLeftmost, PlainMachine, SeesOnItsWay, SeesPage, SeesPrime, TellsWay, at_state, fresh, goes_on, key_of_job, level_read, target}
use Rattle.blink_live.specs.declared.view.Change.{Change}
use Rattle.blink_live.specs.Seats.{BeginsAt, HasRead, IsAtPage, IsDescending, IsGoing, ReadsWay, ReadsLeaf, TellsWayFor}
use Rattle.blink_live.specs.Views.{SameBesideReads, SeatState, for_call, known_of}
use Rattle.blink_live.proofs.found.OperationsOnTheirWay.{goes_down}
use Rattle.blink_live.proofs.found.VersionsAreRead.{version_loaded}

-- ---- the root

-- the last of a list whose length is known
last_at : (d : Option ℕ) (xs : List ℕ) (n x : ℕ) → length xs ≡ suc n → slice_get xs n ≡ Some x → last_or d xs ≡ Some x
last_at d [] n x long at = absurd (omega (arith, long))
last_at d (y ∷ []) zero x long at = at
last_at d (y ∷ []) (suc n) x long at = absurd (omega (arith, long))
last_at d (y ∷ z ∷ xs) zero x long at = absurd (omega (arith, long))
last_at d (y ∷ z ∷ xs) (suc n) x long at = last_at (Some y) (z ∷ xs) n x (omega (arith, long)) at

-- an operation that has begun reads the root next
abbrev pub at_root : ℕ → Op → ℕ → ℕ → PlainMachine
at_root fan op number level = record (fresh fan op) { remembered = []; state = Going number level }

pub sees_root : (fan : ℕ) (op : Op) (prime : List ℕ) (number level : ℕ) → IsTopLeftmost prime level number → SeesPrime (fresh fan op) prime (at_root fan op number level)
sees_root fan op prime number level top =
    let high : length prime ≡ level + 1 = top.top in
    SeesPrime.begins number refl (last_at None prime level number (omega (arith, high)) top.leftmost)
    (ap (at_root fan op number) (let e : level ≡ length prime - 1 = omega (arith, high) in e))

module _ (op : Op) (number level : ℕ) (me then : SeatState) (begun : BeginsAt op me number level then) where
  is_at_root : begun.machine ≡ at_root me.0.plan.fan op number level
  is_at_root = sym (begun.begins.only (at_root me.0.plan.fan op number level) (sees_root me.0.plan.fan op begun.begins.prime number level begun.top))

  pub read_at_root : HasRead op (for_call me.0 op, me.1) then begun.machine
  read_at_root =
      let begins = begun.begins in record {
        same = (subst (SameBesideReads (for_call me.0 op)) (sym (ap (λ (x : SeatState). x.0) begins.is)) refl, ap (λ (x : SeatState). x.1) begins.is);
        saw = subst (λ (seen : List Change). IsPrefix me.0.seen seen) (sym (ap (λ (x : SeatState). x.0.seen) begins.is)) begins.learns.saw;
        knows_own = begins.knows_own;
        operation = ap (λ (x : SeatState). x.0.operation) begins.is;
        same_op = ap (λ (m : PlainMachine). m.op) is_at_root;
        same_job = ap (λ (m : PlainMachine). m.job) is_at_root;
        next = begins.next;
        announced = begins.announced;
      }

  pub state_at_root : begun.machine.state ≡ Going number level
  state_at_root = ap (λ (m : PlainMachine). m.state) is_at_root

  pub none_at_root : begun.machine.answer ≡ None
  none_at_root = ap (λ (m : PlainMachine). m.answer) is_at_root

-- ---- any operation at a page

abbrev pub at_page : (op : Op) (key number level : ℕ) (first me : SeatState) (m : PlainMachine) → HasRead op first me m → FitsWords op → key_of op ≡ key → m.state ≡ Going number level → IsAtPage me key number level
at_page op key number level first me m read fits same_key state = record {
  machine = m;
  operation = read.operation ∙ ap (goes_on m) state;
  state = state;
  same_job = read.same_job;
  same_key = ap key_of read.same_op ∙ same_key;
  fits = subst FitsWords (sym read.same_op) fits;
  announced = read.announced;
}

-- what an operation in its descent learns from the row
pub tells_way : (me : SeatState) (key number level : ℕ) (page : PlainPage) (way : Way) (kept : Option ℕ) → (at : IsAtPage me key number level) → IsReadable at.machine page → TellsWayFor key page way kept → TellsWay at.machine page way kept
tells_way me key number level page way kept at readable tells =
    let its_key : key ≡ target at.machine = sym (ap (λ (job : Job). key_of_job at.machine.op job) at.same_job ∙ at.same_key) in record {
      has_level = readable.has_level;
      leads = subst (λ (k : ℕ). Leads page k way) its_key tells.leads;
      maps = λ found_key op here. subst (λ (k : ℕ). value_at k page.entries ≡ kept) (sym at.same_key ∙ ap key_of op) (tells.maps here);
    }

pub goes_on_down : (op : Op) (key number level word : ℕ) (first me new : SeatState) (after : PlainMachine) (way : Way) (kept : Option ℕ) → (at : IsAtPage me key number level) → HasRead op first me at.machine → at.machine.answer ≡ None
    → (reads : ReadsWay at.machine key number word me way kept new) → SeesOnItsWay at.machine number reads.loads.page after → HasRead op first new after × IsDescending op (known_of new.0 (key_of op)) after
goes_on_down op key number level word first me new after way kept at read none_yet reads sees =
    let same : after ≡ reads.machine = reads.loads.only after (SeesPage.on_its_way sees) in
    subst (λ (x : PlainMachine). HasRead op first new x × IsDescending op (known_of new.0 (key_of op)) x) (sym same)
    (goes_down op number word first me at.machine reads.machine new read (record { same_job = at.same_job; on_its_way = (number, level, at.state) }) none_yet reads.loads)

-- ---- a find from page to page

-- the operation needs the page of this number and level next, and hasn't answered yet
pub record HasComeTo (op : Op) (first me : SeatState) (number level : ℕ) : Type 0 where
  pub at : IsAtPage me (key_of op) number level
  pub read : HasRead op first me at.machine
  pub none_yet : at.machine.answer ≡ None

come_to : (op : Op) (number level : ℕ) (first me : SeatState) (m : PlainMachine) → HasRead op first me m → FitsWords op → m.state ≡ Going number level → m.answer ≡ None → HasComeTo op first me number level
come_to op number level first me m read fits state none_yet = record { at = at_page op (key_of op) number level first me m read fits refl state; read = read; none_yet = none_yet }

pub comes_to_root : (op : Op) (number level : ℕ) (me then : SeatState) → FitsWords op → BeginsAt op me number level then → HasComeTo op (for_call me.0 op, me.1) then number level
comes_to_root op number level me then fits begun =
    come_to op number level (for_call me.0 op, me.1) then begun.machine (read_at_root op number level me then begun) fits (state_at_root op number level me then begun) (none_at_root op number level me then begun)

module _ (op : Op) (number level word : ℕ) (first me new : SeatState) (way : Way) (kept : Option ℕ) (has : HasComeTo op first me number level) (reads : ReadsWay has.at.machine (key_of op) number word me way kept new) where
  its_key : target has.at.machine ≡ key_of op
  its_key = ap (λ (job : Job). key_of_job has.at.machine.op job) has.at.same_job ∙ has.at.same_key

  its_words_fit : FitsWords op
  its_words_fit = subst FitsWords has.read.same_op has.at.fits

  leads : Leads reads.loads.page (target has.at.machine) way
  leads = subst (λ (k : ℕ). Leads reads.loads.page k way) (sym its_key) reads.tells.leads

  its_level : reads.loads.page.level ≡ level
  its_level = reads.loads.readable.has_level ∙ ap (λ (state : State). level_read (at_state has.at.machine state)) has.at.state

  goes : IsGoing has.at.machine
  goes = record { same_job = has.read.same_job; on_its_way = (number, level, has.at.state) }

  now : HasRead op first new reads.machine × IsDescending op (known_of new.0 (key_of op)) reads.machine
  now = goes_down op number word first me has.at.machine reads.machine new has.read goes has.none_yet reads.loads

  is_machine : (other : PlainMachine) → SeesOnItsWay has.at.machine number reads.loads.page other → reads.machine ≡ other
  is_machine other sees = sym (reads.loads.only other (SeesPage.on_its_way sees))

  pub comes_right : (next : ℕ) → way ≡ Right next → HasComeTo op first new next level
  comes_right next right =
      let is : reads.machine ≡ at_state has.at.machine (Going next level) =
      is_machine (at_state has.at.machine (Going next level)) (SeesOnItsWay.goes_right level next has.at.state (subst (Leads reads.loads.page (target has.at.machine)) right leads) refl) in
      come_to op next level first new reads.machine now.0 its_words_fit (ap (λ (x : PlainMachine). x.state) is) (ap (λ (x : PlainMachine). x.answer) is ∙ has.none_yet)

  pub is_above_child : (child : ℕ) → way ≡ Down child → 1 ≤ level
  is_above_child child down =
      let above = (subst (Leads reads.loads.page (target has.at.machine)) down leads).1 in
      let same = its_level in
      omega (arith, above, same)

  pub comes_down : (child : ℕ) → way ≡ Down child → HasComeTo op first new child (level - 1)
  comes_down child down =
      let some = is_above_child child down in
      let at : has.at.machine.state ≡ Going number (level - 1 + 1) = has.at.state ∙ ap (Going number) (let e : level ≡ level - 1 + 1 = omega (arith, some) in e) in
      let is : reads.machine ≡ record has.at.machine { remembered = number ∷ has.at.machine.remembered; state = Going child (level - 1) } =
      is_machine (record has.at.machine { remembered = number ∷ has.at.machine.remembered; state = Going child (level - 1) })
      (SeesOnItsWay.goes_down (level - 1) child at (subst (Leads reads.loads.page (target has.at.machine)) down leads) refl) in
      come_to op child (level - 1) first new reads.machine now.0 its_words_fit (ap (λ (x : PlainMachine). x.state) is) (ap (λ (x : PlainMachine). x.answer) is ∙ has.none_yet)

  pub comes_nearer_by_way : new.0.descent_bound < me.0.descent_bound
  comes_nearer_by_way = subst (λ (x : SeatState). x.0.descent_bound < me.0.descent_bound) (sym reads.loads.is) (reads.loads.nearer level has.at.state)

  some_same : (a b : Answer) → Some a ≡ Some b → a ≡ b
  some_same a b is = cc

  abbrev answered : Answer → PlainMachine
  answered answer = record has.at.machine { state = Ended; answer = Some answer }

  module _ (key : ℕ) (is_find : op ≡ Find key) (here : way ≡ Here) where
    as_kept : value_at key reads.loads.page.entries ≡ kept
    as_kept = subst (λ (o : Op). value_at (key_of o) reads.loads.page.entries ≡ kept) is_find (reads.tells.maps here)

    ended_as : reads.machine ≡ answered (answer_at (Find key) kept)
    ended_as =
        is_machine (answered (answer_at (Find key) kept))
        (SeesOnItsWay.find_answers level key has.at.state (subst (Leads reads.loads.page (target has.at.machine)) here leads) (has.read.same_op ∙ is_find)
        (ap (λ (o : Option ℕ). answered (answer_at (Find key) o)) (sym as_kept)))

    pub find_ends : HasRead op first new reads.machine × (reads.machine.state ≡ Ended)
    find_ends = (now.0, ap (λ (x : PlainMachine). x.state) ended_as)

    -- and the seat reads its leaf
    pub reads_leaf : ReadsLeaf (key_of op) word new
    reads_leaf =
        let leads_here = subst (Leads reads.loads.page (key_of op)) here reads.tells.leads in
        let is_leaf : level ≡ 0 = sym its_level ∙ leads_here.1 in
        let at_leaf : has.at.machine.state ≡ Going number 0 = has.at.state ∙ ap (Going number) is_leaf in
        let told = reads.loads.tells at_leaf in
        let below = subst (λ (k : ℕ). least_above reads.loads.page.floor ≤ k) its_key told.0 in
        let reaches = leads_here.0 in record {
          leaf = reads.loads.page;
          reads = version_loaded reads.loads;
          floor_below = below;
          reaches = reaches;
          states = λ other low high. told.1 other (omega (arith, below, low), high) ∙ ap (λ (x : SeatState). known_of x.0 other) (sym reads.loads.is);
          lesser = λ other low high. told.1 other (low, omega (arith, high, reaches)) ∙ ap (λ (x : SeatState). known_of x.0 other) (sym reads.loads.is);
        }

    pub kept_as_known : kept ≡ known_of new.0 (key_of op)
    unfolding reads_leaf
    kept_as_known =
        let leaf = reads_leaf in
        sym (reads.tells.maps here) ∙ leaf.states (key_of op) (omega arith) leaf.reaches
