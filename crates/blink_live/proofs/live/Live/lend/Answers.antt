use Rattle.std.proofs.Common.{◌≡◌, ℕ, List, [], ◌∷◌, ◌++◌, Option, Some, reverse, refl, sym, ap, ◌∙◌, subst}
use Rattle.std.proofs.lemmas.List.{reverse-append}
use Rattle.blink_live.specs.declared.shelf.Shelf.{Shelf}
use Rattle.blink_live.specs.declared.view.Stock.{Stock}
use Rattle.blink_live.specs.declared.view.View.{View}
use Rattle.blink_live.specs.Shelves.{HasSpaceFor, IsShelved}
use Rattle.blink_live.specs.Views.{no_aside}
use Rattle.blink_live.proofs.live.Live.lend.Goals as goal

-- the last free row of the shelf is the first of the stock
first_free : (s : Shelf) (shelf : Option Shelf) (v : View) (rest : List ℕ) (row : ℕ) → Some s ≡ shelf → s.free.items ≡ rest ++ row ∷ [] → IsShelved shelf v → v.stock.free ≡ row ∷ reverse rest
first_free s shelf v rest row is items shelved =
    let on : IsShelved (Some s) v = subst (λ (x : Option Shelf). IsShelved x v) (sym is) shelved in
    ap (λ (x : Stock). x.free) on.1 ∙ (ap reverse items ∙ reverse-append rest (row ∷ []))

pub take_row_in-requires-clause-some_free : goal.take_row_in-requires-clause-some_free
take_row_in-requires-clause-some_free c =
    (c.in_ok-row.row, reverse c.pop.new.self.items, first_free c.in_ok-shelf.shelf.now c.args.room.now.shelf c.args.seat.now.me.0 c.pop.new.self.items c.in_ok-row.row c.in_ok-shelf.ensures.value c.in_ok-row.ensures.items c.requires.shelved)

pub returns-clause-lent : goal.returns-clause-lent
returns-clause-lent c =
    let first = first_free c.in_ok-shelf.shelf.now c.args.room.now.shelf c.args.seat.now.me.0 c.pop.new.self.items c.in_ok-row.row c.in_ok-shelf.ensures.value c.in_ok-row.ensures.items c.requires.shelved in
    let on : IsShelved (Some c.in_ok-shelf.shelf.now) c.args.seat.now.me.0 = subst (λ (x : Option Shelf). IsShelved x c.args.seat.now.me.0) (sym c.in_ok-shelf.ensures.value) c.requires.shelved in
    record {
      rest = reverse c.pop.new.self.items;
      shelf = record c.in_ok-shelf.shelf.now { free = c.pop.new.self };
      is = (c.take_row_in.ensures.taken c.in_ok-row.row (reverse c.pop.new.self.items) first).0;
      common = on.0;
      stock = ap (λ (x : Stock). let y : Stock = record x { free = reverse c.pop.new.self.items; aside = no_aside } in y) on.1;
      same_shelf = refl;
    }

pub returns-clause-in_range : goal.returns-clause-in_range
returns-clause-in_range c =
    let first = first_free c.in_ok-shelf.shelf.now c.args.room.now.shelf c.args.seat.now.me.0 c.pop.new.self.items c.in_ok-row.row c.in_ok-shelf.ensures.value c.in_ok-row.ensures.items c.requires.shelved in
    (c.take_row_in.ensures.taken c.in_ok-row.row (reverse c.pop.new.self.items) first).1

pub returns-in_err-row-clause-same_room : goal.returns-in_err-row-clause-same_room
returns-in_err-row-clause-same_room c = record { rows = refl; pages = refl; latch_number = refl }

pub returns-clause-same_room : goal.returns-clause-same_room
returns-clause-same_room c = record { rows = refl; pages = refl; latch_number = refl }

pub returns-in_err-row-clause-space : goal.returns-in_err-row-clause-space
returns-in_err-row-clause-space c count has = subst (λ (x : Option Shelf). HasSpaceFor x count) (sym c.in_ok-shelf.ensures.value) has

pub returns-clause-space : goal.returns-clause-space
returns-clause-space c count has = subst (λ (x : Option Shelf). HasSpaceFor x count) (sym c.in_ok-shelf.ensures.value) has
