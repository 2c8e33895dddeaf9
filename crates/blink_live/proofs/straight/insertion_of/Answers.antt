use Rattle.std.proofs.Common.{◌≡◌, ℕ, true, false, Option, Some, None, refl, sym, ◌∙◌, arith}
use Rattle.std.specs.Option.{is_some}
use Rattle.blink_batch.specs.declared.Op.TheVariants.{Insert}
use Rattle.blink_live.specs.declared.descent.Edit.TheVariants.{Answers}
use Rattle.blink_live.specs.declared.descent.Spot.{Spot}
use Rattle.blink_live.specs.Straight.{IsEditOf}
use Rattle.blink_live.proofs.changed.EditsOfLeaves.{adds, finds_key, splits}
use Rattle.blink_live.proofs.straight.insertion_of.Goals as goal

found_there : (fan key pointer : ℕ) (spot : Spot) (kept : Option ℕ) → spot.kept ≡ kept → is_some kept ≡ true → IsEditOf (Insert key pointer) fan spot (Answers spot.kept)
found_there fan key pointer spot None is some = absurd (cc)
found_there fan key pointer spot (Some kept) is some = finds_key fan key pointer kept spot is

none_there : (kept : Option ℕ) → is_some kept ≡ false → kept ≡ None
none_there None none = refl
none_there (Some kept) none = absurd (cc)

pub returns-then-is_some : goal.returns-then-is_some
returns-then-is_some c = found_there c.args.fan c.args.key c.args.pointer c.args.spot c.args.spot.kept refl (sym c.is_some.ensures ∙ c.if-is_some.true)

pub returns-then-spot-from : goal.returns-then-spot-from
returns-then-spot-from c =
    let full = c.if-spot-from.true in
    let same = c.from.ensures in
    splits c.args.fan c.args.key c.args.pointer c.args.spot (none_there c.args.spot.kept (sym c.is_some.ensures ∙ c.if-is_some.false)) (omega (arith, full, same))

pub returns : goal.returns
returns c =
    let room = c.if-spot-from.false in
    let same = c.from.ensures in
    adds c.args.fan c.args.key c.args.pointer c.args.spot (let range = c.ranges.pointer in omega (arith, range)) c.requires (none_there c.args.spot.kept (sym c.is_some.ensures ∙ c.if-is_some.false)) (omega (arith, room, same))
