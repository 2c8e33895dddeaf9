use Rattle.std.proofs.Common.{◌∙◌}
use Rattle.blink_index.specs.{map_of}
use Rattle.blink_handles.proofs.PagesAreFew.{room_for_rest}
use Rattle.blink_handles.proofs.RunsInParts.{rest_makes_all}
use Rattle.blink_handles.proofs.make.index_of.Goals as goal

pub loop-left-preserved : goal.loop-left-preserved
loop-left-preserved c = record {
  rest_makes_all = rest_makes_all (map_of c.loop-left.index) (map_of c.in_ok-index-2.index) c.loop-left.left.now c.split_at.result.0.now c.split_at.result.1.now c.min.result
      c.split_at.ensures.front c.split_at.ensures.back c.in_ok-index-2.ensures.map ∙ c.loop-left.invariant.rest_makes_all;
  same_fan = c.in_ok-index-2.ensures.fan ∙ c.loop-left.invariant.same_fan;
  room = room_for_rest c.args.entries.now c.loop-left.left.now c.split_at.result.0.now c.split_at.result.1.now c.min.result c.loop-left.index c.in_ok-index-2.index
      c.split_at.ensures.front c.split_at.ensures.back c.loop-left.invariant.room c.in_ok-index-2.ensures.pages;
}
