-- An operation of a session that is under way.
use Rattle.std.proofs.Common.{◌≡◌, ℕ, ◌+◌, ◌≤◌, None, List, ◌++◌, sym, ap, ◌∙◌, subst}
use mathlib.Core.List.{IsPrefix}
use Rattle.blink_batch.specs.declared.Answer.{Answer}
use Rattle.blink_batch.specs.declared.Op.{Op}
use Rattle.blink_batch.specs.{key_of, pointer_of}
use Rattle.blink_machine.specs.{PlainMachine, latch_at, latch_of}
use Rattle.blink_live.specs.declared.live.Live.{Live}
use Rattle.blink_live.specs.declared.view.Change.{Change}
use Rattle.blink_live.specs.{IsUnderWay, IsWaiting, after, changes_made, for_latch, for_level, opening_of as opening_of_table, pages_of, rows_of}
use Rattle.blink_rows.specs.declared.span.Span.{Span}
use Rattle.blink_generation.specs.declared.map.Map.{Map}
use Rattle.blink_generation.specs.declared.map.Pending.{Pending}
use Rattle.blink_generation.specs.declared.map.Session.{Session}
use Rattle.blink_generation.specs.declared.member.Member.{Member}
use Rattle.blink_generation.specs.declared.member.UnderWay.{UnderWay}
use Rattle.blink_generation.specs.Changing.{HasChanged, HasDrawn, IsAtRest, IsAtWork}
use Rattle.blink_generation.specs.Pendings.{HasBegun, op_of, session_of}
use Rattle.blink_generation.specs.Places.{IsMemberOf}
use Rattle.blink_generation.specs.Sessions.{IsAnswered, IsSessionOf, made_by_member, opening_of, place_of_member, seen_by}

no_latch_waiting : (m : PlainMachine) → IsWaiting m → latch_of m ≡ None
no_latch_waiting m (for_latch page at) = ap latch_at at
no_latch_waiting m (for_level at) = ap latch_at at

pub its_member : (live : Live) {rows pages : ℕ} (old drawn : Member) → IsMemberOf live old → HasDrawn rows pages old drawn → IsMemberOf live drawn
its_member live old drawn its has_drawn = record {
  same_table = has_drawn.same_member.same_table ∙ its.same_table;
  same_plan = has_drawn.same_member.same_plan ∙ its.same_plan;
}

-- the operation has begun, where its member may have drawn before
pub has_begun : (map : Map) (op : Op) (session : Session) (drawn : Member) (pending : Pending) → IsSessionOf map session → session_of pending ≡ session → HasDrawn (rows_of op) (pages_of op) session.member drawn → IsAtRest map.live op drawn pending.now
    → IsWaiting pending.now.machine → HasBegun map op session pending
has_begun map op session drawn pending its same_session has_drawn at_rest waits =
    let same_op : op_of pending ≡ op = at_rest.rest.set_out.under_way.updating.same_op in record {
      its_own = record {
        its_own = subst (IsSessionOf map) (sym same_session) its;
        drawn = drawn;
        has_drawn = subst (λ (x : Op × Session). HasDrawn (rows_of x.0) (pages_of x.0) x.1.member drawn) (λ i. (sym same_op i, sym same_session i)) has_drawn;
        at_rest = subst (λ (o : Op). IsAtRest map.live o drawn pending.now) (sym same_op) at_rest;
        waits = waits;
        no_latch = no_latch_waiting pending.now.machine waits;
      };
      same_op = same_op;
      same_session = same_session;
    }

-- what is so of the operation is so after more of its steps
pub goes_on : (live : Live) (op : Op) (old : Member) (now next : UnderWay) → (work : IsAtWork live op old now) → IsUnderWay live op work.set_out.first next.seat next.machine next.room
    → next.rows ≡ now.rows → next.pages ≡ now.pages → next.place ≡ now.place → IsAtWork live op old next
goes_on live op old now next work under_way rows pages place = record {
  set_out = record { first = work.set_out.first; mark = work.set_out.mark; marked = work.set_out.marked; same_number = work.set_out.same_number; under_way = under_way };
  beside = record { rows = rows ∙ work.beside.rows; pages = pages ∙ work.beside.pages; place = place ∙ work.beside.place };
}

-- a member whose rows have come nearer since has changed as it had
pub changed_then : (live : Live) (op : Op) (old new then : Member) (answer : Answer) → HasChanged live op old new answer → HasDrawn 0 0 new then → then.rows ≡ new.rows → then.pages ≡ new.pages → HasChanged live op old then answer
changed_then live op old new then answer changed drawn rows pages =
    let told = changed.in_order in
    record {
      in_order = record {
        before = told.before;
        saw = told.saw;
        answers = told.answers;
        goes_on = subst (λ (seen : List Change). IsPrefix (told.before ++ changes_made (place_of_member old) op (after (pointer_of (opening_of_table live)) told.before (key_of op))) seen) (sym drawn.seen) told.goes_on;
        made = drawn.made ∙ told.made;
      };
      rows = subst (λ (s : Span). (s.stop ≡ old.rows.stop) × (s.next ≤ old.rows.next + rows_of op)) (sym rows) changed.rows;
      pages = subst (λ (s : Span). (s.stop ≡ old.pages.stop) × (s.next ≤ old.pages.next + pages_of op)) (sym pages) changed.pages;
      same_member = record {
        same_table = drawn.same_member.same_table ∙ changed.same_member.same_table;
        same_plan = drawn.same_member.same_plan ∙ changed.same_member.same_plan;
        same_place = drawn.same_member.same_place ∙ changed.same_member.same_place;
      };
    }

-- the answer of an operation before which its member may have drawn
pub answered : (map : Map) (op : Op) (old new : Session) {rows pages : ℕ} (drawn : Member) (answer : Answer) → HasDrawn rows pages old.member drawn → HasChanged map.live op drawn new.member answer → IsAnswered map op old new answer
answered map op old new drawn answer has_drawn changed =
    let told = changed.in_order in
    let place = has_drawn.same_member.same_place in
    let made : ℕ → List Change = λ author. changes_made author op (after (pointer_of (opening_of map)) told.before (key_of op)) in record {
      in_order = record {
        before = told.before;
        saw = subst (λ (seen : List Change). IsPrefix seen told.before) has_drawn.seen told.saw;
        answers = told.answers;
        goes_on = subst (λ (author : ℕ). IsPrefix (told.before ++ made author) (seen_by new)) place told.goes_on;
        made = told.made ∙ (ap (λ (l : List Change). l ++ made (place_of_member drawn)) has_drawn.made ∙ ap (λ (author : ℕ). made_by_member old.member ++ made author) place);
      };
      same_member = record {
        same_table = changed.same_member.same_table ∙ has_drawn.same_member.same_table;
        same_plan = changed.same_member.same_plan ∙ has_drawn.same_member.same_plan;
        same_place = changed.same_member.same_place ∙ place;
      };
    }
