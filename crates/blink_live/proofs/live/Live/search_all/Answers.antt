use Rattle.std.proofs.Common.{◌<◌, ◌≤◌, ℕ, List, Option, length, get_or, take, refl, sym, ◌∙◌, subst, arith, length-set}
use Rattle.std.proofs.lemmas.List.{take_all, take_more, take_more_set}
use Rattle.blink_live.specs.Finding.{AreFound}
use Rattle.blink_live.proofs.found.FindsOfSeveral.{found_one_more, searched_more, searched_none, searched_seat}
use Rattle.blink_live.proofs.live.Live.search_all.Goals as goal

pub loop-place-init : goal.loop-place-init
loop-place-init c = record {
  same_table = (refl, refl);
  searched = searched_none c.args.seat.now.me c.requires.idle;
  many = c.requires.places;
  found = searched_none c.args.seat.now.me c.requires.idle;
}

pub pointer-requires : goal.pointer-requires
pointer-requires c =
    let before = c.loop-place.invariant in record {
      seat = searched_seat c.args.self.now c.args.seat.now.table_id c.loop-place.seat.table_id c.args.seat.now.me c.loop-place.seat.me before.same_table.0 before.searched c.requires.seat;
      idle = before.searched.idle;
    }

pub loop-place-preserved : goal.loop-place-preserved
loop-place-preserved c =
    let before = c.loop-place.invariant in
    let one = c.pointer.ensures in
    let place : ℕ = c.loop-place.place in
    let keys : List ℕ = c.args.keys.now in
    let answers : List (Option ℕ) = c.loop-place.answers in
    let inside : place < length answers = omega (arith, before.many, c.loop-place-test.true) in
    let more = found_one_more (take place keys) (take place answers) c.args.seat.now.me c.loop-place.seat.me c.pointer.new.seat.me (get_or keys place 0) c.pointer.result before.found one.searched one.pointer in record {
      same_table = (one.same_table.0 ∙ before.same_table.0, one.same_table.1 ∙ before.same_table.1);
      searched = searched_more c.args.seat.now.me c.loop-place.seat.me c.pointer.new.seat.me before.searched one.searched;
      many = length-set answers place c.pointer.result ∙ before.many;
      found = subst (λ (x : List ℕ × List (Option ℕ)). AreFound c.args.seat.now.me x.0 x.1 c.pointer.new.seat.me) (λ i. (sym (take_more keys place 0 c.loop-place-test.true) i, sym (take_more_set answers place c.pointer.result inside) i)) more;
    }

pub returns : goal.returns
returns c =
    let before = c.loop-place.invariant in
    let keys : List ℕ = c.args.keys.now in
    let answers : List (Option ℕ) = c.loop-place.answers in
    let place : ℕ = c.loop-place.place in
    let over : length keys ≤ place = c.loop-place-test.false in
    let over_answers : length answers ≤ place = omega (arith, over, before.many) in record {
      same_table = before.same_table;
      searched = before.searched;
      found = subst (λ (x : List ℕ × List (Option ℕ)). AreFound c.args.seat.now.me x.0 x.1 c.loop-place.seat.me) (λ i. (take_all place keys over i, take_all place answers over_answers i)) before.found;
    }
