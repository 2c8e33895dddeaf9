use Rattle.std.proofs.Common.{[], ◌∷◌, ◌∙◌, arith}
use Rattle.blink_index.specs.{map_of}
use Rattle.blink_map.specs.Own.{own_of}
use Rattle.blink_map.proofs.SeatsChange.{seat_is_cut, seats_are_joined}
use Rattle.blink_map.proofs.SeatsCompare.{seat_compares}
use Rattle.blink_map.proofs.Tells.{joined_both, told_seat}
use Rattle.blink_map.proofs.growing.GrowingMap.tell_seat.Goals as goal

pub join_seat-requires : goal.join_seat-requires
join_seat-requires c =
    let map = c.args.self.now in
    let words = map.words in
    let some_slot = map.some_slot in (
      c.requires.its_own,
      c.requires.other_its_own,
      c.requires.other_idle.none_out,
      omega (arith, words, some_slot),
      seats_are_joined (map_of map.table.shared.key.index.value) c.args.seat.now.id c.args.other.id c.args.seat.now.me.0 c.args.other.me.0 (c.args.to, own_of c.args.other.me.0) c.requires.other_idle.alone,
    )

pub load-requires : goal.load-requires
load-requires c =
    let map = c.args.self.now in
    let words = map.words in
    let some_slot = map.some_slot in (
      c.join_seat.ensures.0 ∙ c.requires.its_own,
      omega (arith, words, some_slot),
      seat_compares (map_of map.table.shared.key.index.value) map.table.shared.table_id.slots c.join_seat.new.seat.id 0 c.join_seat.new.seat.me,
    )

pub tell_other-told-requires-clause-both : goal.tell_other-told-requires-clause-both
tell_other-told-requires-clause-both c = (
  own_of c.args.seat.now.me.0,
  own_of c.args.other.me.0,
  joined_both c.args.from c.args.to c.args.seat.now.me c.args.other.me c.join_seat.new.seat.me c.load.new.seat.me c.requires.idle c.requires.other_idle c.join_seat.ensures.2 c.load.ensures.2.same c.load.ensures.2.compared,
)

pub split_seat-requires : goal.split_seat-requires
split_seat-requires c =
    let map = c.args.self.now in
    let words = map.words in
    let some_slot = map.some_slot in
    let own = own_of c.args.seat.now.me.0 in
    let theirs = own_of c.args.other.me.0 in
    let both = joined_both c.args.from c.args.to c.args.seat.now.me c.args.other.me c.join_seat.new.seat.me c.load.new.seat.me c.requires.idle c.requires.other_idle c.join_seat.ensures.2 c.load.ensures.2.same c.load.ensures.2.compared in
    let told = c.tell_other-told.ensures.told own theirs both in (
      c.tell_other-told.ensures.same ∙ (c.load.ensures.0 ∙ (c.join_seat.ensures.0 ∙ c.requires.its_own)),
      omega (arith, words, some_slot),
      seat_is_cut (map_of map.table.shared.key.index.value) c.tell_other-told.new.seat.id c.tell_other-told.new.seat.me.0 (c.args.to, told.theirs_then) ((c.args.from, told.own_then) ∷ []) told.both.accounts,
    )

pub returns-clause-same : goal.returns-clause-same
returns-clause-same c = c.split_seat.ensures.0 ∙ (c.tell_other-told.ensures.same ∙ (c.load.ensures.0 ∙ (c.join_seat.ensures.0 ∙ c.requires.its_own)))

pub returns-clause-told_same : goal.returns-clause-told_same
returns-clause-told_same c = c.split_seat.ensures.3 ∙ (c.tell_other-told.ensures.same ∙ (c.load.ensures.0 ∙ (c.join_seat.ensures.0 ∙ c.requires.its_own)))

pub returns-clause-told : goal.returns-clause-told
returns-clause-told c =
    let own = own_of c.args.seat.now.me.0 in
    let theirs = own_of c.args.other.me.0 in
    let both = joined_both c.args.from c.args.to c.args.seat.now.me c.args.other.me c.join_seat.new.seat.me c.load.new.seat.me c.requires.idle c.requires.other_idle c.join_seat.ensures.2 c.load.ensures.2.same c.load.ensures.2.compared in
    told_seat c.args.from c.args.to c.tell_other-told.result c.args.seat.now.me c.args.other.me c.join_seat.new.seat.me c.load.new.seat.me c.tell_other-told.new.seat.me c.split_seat.new.seat.me c.split_seat.result.me c.join_seat.ensures.2 c.load.ensures.2.same
    (c.tell_other-told.ensures.told own theirs both) c.split_seat.ensures.2 c.split_seat.ensures.4 c.requires.authors c.requires.other_authors
