use Rattle.std.proofs.Common.{◌≡◌, ℕ, ◌+◌, ◌-◌, length, ap, arith}
use Rattle.blink_rows.specs.declared.limits.TheConstants.{ROW_WORDS}
use Rattle.blink_live.proofs.opened.RowIsStored.{row_is_stored}
use Rattle.blink_live.proofs.open.lay_row.Goals as goal

all_of_row : (start : ℕ) → start + ROW_WORDS - start ≡ ROW_WORDS
all_of_row start = omega arith

as_long : (stored row start : ℕ) → stored ≡ row → row ≡ ROW_WORDS → stored ≡ start + ROW_WORDS - start
as_long stored row start same is = omega (arith, same, is)

pub returns : goal.returns
returns c =
    let start : ℕ = c.row_start-start.result in
    let stored = ap length c.copy_from_slice.ensures.after in
    row_is_stored c.args.counts.now c.args.words.now c.args.row.now c.copy_from_slice.new.self c.args.number (c.from-row_number.result + 1) start (start + ROW_WORDS - start) c.requires.width c.requires.number c.requires.row
    (ap (λ (n : ℕ). n + 1) c.from-row_number.ensures) c.row_start-start.ensures (all_of_row start) (as_long (length c.copy_from_slice.new.self) (length c.args.row.now) start stored c.told-row) c.copy_from_slice.ensures.after
