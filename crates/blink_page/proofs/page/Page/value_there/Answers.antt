use Rattle.std.proofs.Common.{◌≡◌, ◌≤◌, ◌<◌, length, get_or, sym, arith}
use Rattle.blink_page.specs.Place.{place_of}
use Rattle.blink_page.proofs.WhereSearchesEnd.{value_at-place, value_at-place_other, value_at-place_end}
use Rattle.blink_page.proofs.page.Page.value_there.Goals as goal
use Rattle.blink_page.proofs.page.Page.value_there.Goals.{After-self}

-- the place among the page's own entries
at_place : (c : After-self) → c.args.at ≡ place_of c.args.key c.self.inside.items.items
at_place c = rw (← c.self.view_is) at c.requires.place

at_most : (c : After-self) → c.args.at ≤ length c.self.inside.items.items
at_most c = rw (← c.self.view_is) at c.requires.within

pub returns-then-at-len : goal.returns-then-at-len
returns-then-at-len c =
    let place = at_place ((goal.at.returns-then-at-len c).After-self) in
    rw (← c.self.view_is) (sym (value_at-place_end c.args.key c.self.inside.items.items (omega arith)))

pub returns-then-found-key : goal.returns-then-found-key
returns-then-found-key c =
    let self = (goal.at.returns-then-found-key c).After-self in
    let at = at_place self in
    let inside : place_of c.args.key c.self.inside.items.items < length c.self.inside.items.items = omega (arith, at_most self) in
    let here : get_or c.deref.result.now c.args.at (0, 0) ≡ get_or c.self.inside.items.items (place_of c.args.key c.self.inside.items.items) (0, 0) = cc in
    rw (← c.self.view_is, here) (sym (value_at-place c.args.key (0, 0) c.self.inside.items.items inside (rw here at c.if-found-key.true)))

pub returns-else-found-key : goal.returns-else-found-key
returns-else-found-key c =
    let at = at_place ((goal.at.returns-else-found-key c).After-self) in
    let here : get_or c.deref.result.now c.args.at (0, 0) ≡ get_or c.self.inside.items.items (place_of c.args.key c.self.inside.items.items) (0, 0) = cc in
    rw (← c.self.view_is) (sym (value_at-place_other c.args.key _ (0, 0) c.self.inside.items.items _ c.self.invariant.keys_rise (rw here at c.if-found-key.false)))
