use Rattle.std.proofs.Common.{ℕ, subst}
use Rattle.blink_batch.specs.Search.{IsGapFor, IsPlaceOf}
use Rattle.blink_batch.proofs.plain.Plain.apply.Goals as goal

-- the key's place is that of the operation's key
pub apply_at-requires : goal.apply_at-requires
apply_at-requires c = record { place = subst (λ (key : ℕ). IsPlaceOf c.args.self.now key c.in-Ok.at) c.key.ensures c.in-Ok.ensures.found }

-- and so is its gap
pub apply_in_gap-requires : goal.apply_in_gap-requires
apply_in_gap-requires c = record { gap = subst (λ (key : ℕ). IsGapFor c.args.self.now key c.in-Err.at) c.key.ensures c.in-Err.ensures.gap }
