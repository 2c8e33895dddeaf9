use Rattle.std.proofs.Common.{◌≡◌, List, ◌++◌, length}
use Rattle.blink_live.specs.declared.live.Pass.{Pass}
use Rattle.blink_live.specs.Merge.{shares_of}
use Rattle.blink_live.specs.Views.{plan_of, takes_all_back}
use Rattle.blink_live.proofs.live.Live.take_back.Given as goal

abbrev pub invariant-loop-pass : goal.invariant-loop-pass
invariant-loop-pass l = record {
  same : (l.seat.table_id ≡ l.initial.seat.table_id) × (l.seat.id ≡ l.initial.seat.id);
  back : (done : List Pass) × (l.initial.passes.items ≡ l.passes.items ++ done) × (l.seat.me ≡ (takes_all_back l.initial.seat.me.0 (shares_of done), l.initial.seat.me.1));
}

abbrev pub decreases-loop-pass : goal.decreases-loop-pass
decreases-loop-pass l = length l.passes.items

abbrev pub ghosts-take_one : goal.ghosts-take_one
ghosts-take_one a = record { plan = plan_of a.self.now.table.shared.key }
