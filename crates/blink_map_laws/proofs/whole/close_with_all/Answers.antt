use Rattle.std.proofs.lemmas.Result.{IfOk-weaker}
use Rattle.blink_index.specs.{map_of}
use Rattle.blink_map.specs.{IsClosedWith}
use Rattle.blink_map_laws.specs.Whole.{AreOnlyTheirs}
use Rattle.blink_map_laws.proofs.AllCameBack.{only_theirs}
use Rattle.blink_map_laws.proofs.whole.close_with_all.Goals as goal

pub returns : goal.returns
returns c =
    IfOk-weaker c.close.result (λ index. IsClosedWith c.args.map c.args.sessions.items (map_of index)) (λ index. AreOnlyTheirs c.args.map c.args.sessions.items (map_of index))
    (λ index. only_theirs c.args.map c.args.sessions.items (map_of index) c.requires.its_own c.requires.all) c.close.ensures.entries
