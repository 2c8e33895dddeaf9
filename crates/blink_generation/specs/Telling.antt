-- A member that has told another what it has seen.
use Rattle.std.specs.Prelude.{◌≡◌}
use Rattle.blink_generation.specs.declared.member.Member.{Member}
use Rattle.blink_generation.specs.Sessions.{IsSameMember, made_by_member, seen_of_member}

-- the member is as it was
pub record IsStill (old new : Member) : Type 0 where
  pub seen : seen_of_member new ≡ seen_of_member old
  pub made : made_by_member new ≡ made_by_member old
  pub rows : new.rows ≡ old.rows
  pub pages : new.pages ≡ old.pages
  pub shelf : new.room.shelf ≡ old.room.shelf
  pub same_member : IsSameMember old new
