use Rattle.std.proofs.Common.{◌≡◌, ◌-◌, ℕ, false, true≢false, Result, Ok, Err, List, [], ◌∷◌, ◌++◌, if◌then◌else◌, reverse, refl, sym, ap, ◌∙◌, subst, arith}
use Rattle.std.proofs.lemmas.List.{reverse-append}
use Rattle.std.specs.Result.{is_err, is_ok}
use Rattle.blink_rows.specs.declared.span.Span.{Span}
use Rattle.blink_live.specs.declared.view.Plan.{Plan}
use Rattle.blink_live.specs.declared.view.Stock.{Stock}
use Rattle.blink_live.specs.{IsCommon, SeatState, frees_last, no_aside, span}
use Rattle.blink_generation.proofs.recycle.free_last.Goals as goal

pub returns-then-rows-clause-other_rows : goal.returns-then-rows-clause-other_rows
returns-then-rows-clause-other_rows c = record { rows = c.args.seat.now.me.0.rows; stock = c.args.seat.now.me.0.stock; is = refl }

freed : (c : goal.Else-is_err) → c.free_row.new.seat.me ≡ (frees_last c.args.seat.now.me.0 (c.args.rows.now.stop - 1), c.args.seat.now.me.1)
freed c =
    let apart = c.if-rows.false in
    let order = c.requires.in_order in
    let stop = ap (λ (s : Span). s.stop) c.requires.rows in
    c.free_row.ensures.free (c.args.rows.now.stop - 1) (omega (arith, apart, order, stop))

pub returns-clause-other_rows : goal.returns-clause-other_rows
returns-clause-other_rows c =
    let before = c.args.seat.now.me.0 in
    let row = c.args.rows.now.stop - 1 in
    record { rows = span before.rows.next row; stock = record before.stock { free = row ∷ before.stock.free }; is = freed c }

pub returns-clause-rows : goal.returns-clause-rows
returns-clause-rows c = ap (λ (s : Span). span s.next (c.args.rows.now.stop - 1)) c.requires.rows ∙ sym (ap (λ (x : SeatState). x.0.rows) (freed c))

-- the row that comes last on the shelf is the first of the stock
put_on : {T E : Type 0} (r : Result T E) (row : ℕ) (old new : List ℕ) → false ≡ is_err r → new ≡ (if is_ok r then old ++ row ∷ [] else old) → row ∷ reverse old ≡ reverse new
put_on (Ok x) row old new good is = sym (ap reverse is ∙ reverse-append old (row ∷ []))
put_on (Err e) row old new good is = absurd (true≢false (sym good))

pub returns-clause-shelved : goal.returns-clause-shelved
returns-clause-shelved c =
    let row = c.args.rows.now.stop - 1 in
    let shelved = c.requires.shelved in (
      subst (λ (p : Plan). IsCommon p) (sym (ap (λ (x : SeatState). x.0.plan) (freed c))) shelved.0,
      ap (λ (x : SeatState). x.0.stock) (freed c)
          ∙ (ap (λ (x : Stock). let y : Stock = record x { free = row ∷ x.free } in y) shelved.1
          ∙ ap (λ (rows : List ℕ). let y : Stock = record { free = rows; retired = reverse c.args.shelf.now.retired.items; waiting = reverse c.args.shelf.now.waiting.items; before = c.args.shelf.now.before.items; passed = c.args.shelf.now.passed; aside = no_aside; spare = c.args.shelf.now.spare } in y)
          (put_on c.push.result row c.args.shelf.now.free.items c.push.new.self.items c.if-is_err.ensures.value c.push.ensures.items)),
    )
