use Rattle.std.proofs.Common.{◌≡◌, ◌++◌, [], List, String, Global, map, subst, codes, string_bytes}
use Rattle.std.proofs.lemmas.Result.{on_ok_weaker}
use Rattle.blink_show.specs.Frames.{changes}
use Rattle.blink_show.proofs.TurnsAreShown.{behind}
use Rattle.blink_show.proofs.frame.Film.first.Goals as goal

-- all is shown behind the heading
pub returns-clause-text : goal.returns-clause-text
returns-clause-text c =
    let run = c.args.world.now.run in
    let prefix = string_bytes c.push_str.new.self in
    let new = string_bytes c.show.new.self.text in
    on_ok_weaker c.show.result
    (λ shown. behind (string_bytes c.args.self.now.text) prefix (codes "first\n") (changes [] 0 run) new c.in_ok-push_str.ensures.bytes
    (subst (λ (lines : List (String Global)). new ≡ prefix ++ changes (map string_bytes lines) 0 run) c.clear.ensures.items shown))
    c.show.ensures.text
