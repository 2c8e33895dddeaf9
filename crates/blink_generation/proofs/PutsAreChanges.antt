-- What an operation that is refused has made of its session.
use Rattle.std.proofs.Common.{◌≡◌, ◌≢◌, ℕ, ◌+◌, ◌≤◌, Option, Some, None, List, [], ◌++◌, refl, sym, ap, ◌∙◌, subst, append-nil}
use mathlib.Core.List.{IsPrefix}
use Rattle.blink_batch.specs.declared.Answer.TheVariants.{Exists}
use Rattle.blink_batch.specs.declared.Op.{Op}
use Rattle.blink_batch.specs.declared.Op.TheVariants.{Delete, DeleteExact, Exchange, Find, Insert, Replace}
use Rattle.blink_batch.specs.{answer_at, pointer_of}
use Rattle.blink_live.specs.declared.view.Change.{Change}
use Rattle.blink_live.specs.{HasSpaceFor, after, changes_made, free_in, length_of, pages_of, rows_of}
use Rattle.blink_live.specs.declared.shelf.Shelf.{Shelf}
use Rattle.blink_rows.specs.declared.span.Span.{Span}
use Rattle.blink_generation.specs.declared.map.Map.{Map}
use Rattle.blink_generation.specs.declared.map.Session.{Session}
use Rattle.blink_generation.specs.Putting.{HasTried, IsUnchangedBy, LacksKeyOf, WasAbsent}
use Rattle.blink_generation.specs.Sessions.{IsAnswered, IsSameBesideRoom, IsSameBesideSeen, IsSameMember, LacksRoom, made_by, opening_of, place_of, seen_by}

-- ---- a refused operation; an insertion for which a session lacks room has looked its key up

module _ (map : Map) (old middle new : Session) (room : IsSameBesideRoom old middle) (looked : IsSameBesideSeen middle new) (key pointer : ℕ) where
  saw_all : IsPrefix (seen_by old) (seen_by new)
  saw_all = subst (λ (seen : List Change). IsPrefix seen (seen_by new)) room.seen looked.saw

  same_member : IsSameMember old.member new.member
  same_member = record {
    same_table = looked.same_member.same_table ∙ room.same_member.same_table;
    same_plan = looked.same_member.same_plan ∙ room.same_member.same_plan;
    same_place = looked.same_member.same_place ∙ room.same_member.same_place;
  }

  pub looked_in_vain : HasTried old new
  looked_in_vain = record { saw = saw_all; made = looked.made ∙ room.made; same_member = same_member }

  pub found_there : (there : ℕ) → Some there ≡ after (pointer_of (opening_of map)) (seen_by new) key → IsAnswered map (Insert key pointer) old new (Exists there)
  found_there there found = record {
    in_order = record {
      before = seen_by new;
      saw = saw_all;
      answers = ap (answer_at (Insert key pointer)) found;
      goes_on = subst (λ (kept : Option ℕ). IsPrefix (seen_by new ++ changes_made (place_of old) (Insert key pointer) kept) (seen_by new)) found ([], append-nil (seen_by new ++ []) ∙ append-nil (seen_by new));
      made = looked.made ∙ (room.made ∙ (sym (append-nil (made_by old)) ∙ ap (λ (kept : Option ℕ). made_by old ++ changes_made (place_of old) (Insert key pointer) kept) found));
    };
    same_member = same_member;
  }

  pub found_absent : None ≡ after (pointer_of (opening_of map)) (seen_by new) key → WasAbsent map key old new
  found_absent found = record { before = seen_by new; saw = saw_all; absent = sym found; goes_on = ([], append-nil (seen_by new)) }

-- any other has changed nothing
pub is_unchanged : (map : Map) (op : Op) (old new : Session) → ((key pointer : ℕ) → op ≢ Insert key pointer) → IsSameBesideRoom old new → LacksKeyOf map op old new × IsUnchangedBy op old new
is_unchanged map (Insert key pointer) old new other same = absurd (other key pointer refl)
is_unchanged map (Find key) old new other same = (tt, same)
is_unchanged map (Delete key) old new other same = (tt, same)
is_unchanged map (Replace key pointer) old new other same = (tt, same)
is_unchanged map (Exchange key expected pointer) old new other same = (tt, same)
is_unchanged map (DeleteExact key expected) old new other same = (tt, same)

-- a session that has looked a key up has the room that it had
pub still_lacks : (op : Op) (old middle new : Session) → IsSameBesideSeen middle new → LacksRoom op old middle → LacksRoom op old new
still_lacks op old middle new looked lacks = record {
  before = lacks.before;
  still = λ has. lacks.still (record {
    enough_rows = subst (λ (x : Span × Option Shelf). rows_of op ≤ length_of x.0 + free_in x.1) (λ i. (looked.rows i, looked.shelf i)) has.enough_rows;
    enough_pages = subst (λ (x : Span). pages_of op ≤ length_of x) looked.pages has.enough_pages;
    space = subst (λ (x : Option Shelf). HasSpaceFor x (rows_of op)) looked.shelf has.space;
  });
}
