use Rattle.std.proofs.Common.{◌++◌, sym, subst}
use Rattle.blink_index.specs.{map_of}
use Rattle.blink_generation.specs.{seen_by}
use Rattle.blink_map.specs.declared.slots.Current.{Current}
use Rattle.blink_map.specs.Renewing.{IsRenewing}
use Rattle.blink_map.proofs.NextMap.{all_taken, is_switched_to, next_follows, of_one_map}
use Rattle.blink_map.proofs.growing.GrowingMap.go_over.Goals as goal

pub tell_all-requires-clause-its_own : goal.tell_all-requires-clause-its_own
tell_all-requires-clause-its_own c = (of_one_map c.args.self.now c.args.seat.now c.args.copier c.args.lead c.args.others.items c.requires.copied.renewing).0

pub tell_all-requires-clause-one_map : goal.tell_all-requires-clause-one_map
tell_all-requires-clause-one_map c = (of_one_map c.args.self.now c.args.seat.now c.args.copier c.args.lead c.args.others.items c.requires.copied.renewing).1

pub switch-next-requires-clause-all : goal.switch-next-requires-clause-all
switch-next-requires-clause-all c = all_taken c.args.self.now c.args.seat.now c.args.copier c.args.lead c.args.others.items c.requires.copied.renewing c.requires.copied.all

pub switch-next-requires-clause-follows : goal.switch-next-requires-clause-follows
switch-next-requires-clause-follows c =
    let copied = c.requires.copied in
    let lead : Current = c.args.lead in
    let own = c.tell_all.ensures in (
      copied.renewing.now.past ++ seen_by lead.session,
      next_follows c.args.self.now c.args.seat.now c.args.copier lead c.args.others.items copied.renewing copied.heard own (map_of c.args.prepared.index) (copied.kept own) c.args.prepared.next c.args.prepared.next_others.items c.requires.next,
    )

pub give_all-requires : goal.give_all-requires
give_all-requires c =
    let map = c.args.self.now in
    let copied = c.requires.copied in
    let next : Current = c.args.prepared.next in
    let others = c.args.prepared.next_others.items in
    record {
      renewing = subst (λ (held : Current). IsRenewing map c.switch-next.new.seat c.args.copier held others) (sym c.switch-next.ensures.held)
          (is_switched_to map c.args.seat.now c.switch-next.new.seat c.args.copier c.args.lead c.args.others.items copied.renewing c.switch-next.ensures.same (map_of c.args.prepared.index) next others c.requires.next copied.all c.switch-next.ensures.switched);
    }
