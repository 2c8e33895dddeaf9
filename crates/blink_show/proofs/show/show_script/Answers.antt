use Rattle.std.proofs.Common.{◌≡◌, ◌++◌, List, ℕ, Some, string_bytes}
use Rattle.std.proofs.lemmas.Result.{IfErr-weaker, on_ok_weaker}
use Rattle.blink_batch.specs.{records_of}
use Rattle.blink_replay.proofs.Offered.{writes_prefix, writes_whole}
use Rattle.blink_show.specs.Show.{IsTextOf, LeavesShow}
use Rattle.blink_show.specs.AskedTurns.{ShowsAsked}
use Rattle.blink_show.proofs.TextOfReplay.{is_show_text}
use Rattle.blink_show.proofs.show.show_script.Given.{Over}
use Rattle.blink_show.proofs.show.show_script.Goals as goal

-- what is to be written is the text between head and tail
is_text : (g : Over) (c : goal.After-drop-film-2 g) (read : List ℕ) → g.R.Read.remaining c.args.reader.now ≡ Some read
    → IsTextOf c.args.template.head.now c.args.template.tail.now c.args.asked.settings.now.workers c.args.asked.settings.now.fan (ShowsAsked c.args.asked.turns) (records_of read) (c.args.template.head.now ++ (c.deref.result.now ++ c.args.template.tail.now))
is_text g c =
    is_show_text c.args.template.head.now c.args.template.tail.now c.args.asked.settings.now.workers c.args.asked.settings.now.fan (ShowsAsked c.args.asked.turns) (g.R.Read.remaining c.args.reader.now) c.in_ok-script.script.parts.items
    (string_bytes c.in_ok-film.film.text) c.deref.result.now c.in_ok-script.ensures.script c.in_ok-film.ensures.shown c.deref.ensures

-- all of it is written
pub returns-clause-shown : goal.returns-clause-shown
returns-clause-shown g c =
    on_ok_weaker c.write_replay.result
    (λ out. writes_whole g.W.Write.contents (g.R.Read.remaining c.args.reader.now) c.args.writer.now c.write_replay.new.tracked_writer (IsTextOf c.args.template.head.now c.args.template.tail.now c.args.asked.settings.now.workers c.args.asked.settings.now.fan (ShowsAsked c.args.asked.turns)) _ (is_text g c) out)
    c.write_replay.ensures.written

-- or a beginning of it
pub returns-clause-left : goal.returns-clause-left
returns-clause-left g c =
    IfErr-weaker c.write_replay.result _
    (λ error. LeavesShow (IsTextOf c.args.template.head.now c.args.template.tail.now c.args.asked.settings.now.workers c.args.asked.settings.now.fan (ShowsAsked c.args.asked.turns)) (g.R.Read.remaining c.args.reader.now) error (g.W.Write.contents c.args.writer.now) (g.W.Write.contents c.write_replay.new.tracked_writer))
    (λ error broken. rw broken.0
    (writes_prefix g.W.Write.contents (g.R.Read.remaining c.args.reader.now) c.args.writer.now c.write_replay.new.tracked_writer (IsTextOf c.args.template.head.now c.args.template.tail.now c.args.asked.settings.now.workers c.args.asked.settings.now.fan (ShowsAsked c.args.asked.turns)) _ (is_text g c) broken.1))
    c.write_replay.ensures.broken_off
