-- The members of a map's places.
use Rattle.std.specs.Prelude.{◌≡◌}
use Rattle.atomic_table.specs.Seated.{TableId}
use Rattle.blink_live.specs.declared.live.Live.{Live}
use Rattle.blink_live.specs.declared.view.Plan.{Plan}
use Rattle.blink_live.specs.{plan_of}
use Rattle.blink_generation.specs.declared.member.Member.{Member}

-- the member is one of this table's
pub record IsMemberAt (table : TableId) (plan : Plan) (member : Member) : Type 0 where
  pub same_table : member.seat.table_id ≡ table
  pub same_plan : member.seat.me.0.plan ≡ plan

abbrev pub IsMemberOf : Live → Member → Type 0
IsMemberOf live member = IsMemberAt live.table.shared.table_id (plan_of live.table.shared.key) member
