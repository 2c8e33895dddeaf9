use Rattle.std.proofs.Common.{◌≡◌, ◌++◌, ◌∙◌, ℕ, List, Result, Ok, Err, OnOk, refl, append_assoc, string_bytes}
use Rattle.blink_show.specs.Batch.{ops_from}
use Rattle.blink_show.specs.Frames.{first_frame}
use Rattle.blink_show.proofs.batch.show_batch.Goals as goal

-- four texts, each added behind what was there
joined : (old ops first turns finish one two three four : List ℕ) → one ≡ old ++ ops → two ≡ one ++ first → three ≡ two ++ turns → four ≡ three ++ finish → four ≡ old ++ (ops ++ (first ++ (turns ++ finish)))
joined old ops first turns finish one two three four to_one to_two to_three to_four =
    rw (to_four, to_three, to_two, to_one)
    (append_assoc (old ++ ops ++ first) turns finish ∙ append_assoc (old ++ ops) first (turns ++ finish) ∙ append_assoc old ops (first ++ (turns ++ finish)))

-- two facts of a call that went well
on_ok_both : {T E : Type 0} {A B C : Type 0} (r : Result T E) → (A → B → C) → OnOk r A → OnOk r B → OnOk r C
on_ok_both (Ok x) f a b = f a b
on_ok_both (Err e) f a b = tt

pub returns-clause-shown : goal.returns-clause-shown
returns-clause-shown c =
    let turns = c.in_ok-show_turns.ensures.text in
    let ops = ops_from c.args.asked.settings.now.workers 0 c.args.batch in
    let first = first_frame c.in_ok-world.world.run in
    on_ok_both c.show_finish.result
    (λ finish ended. (
      ops ++ (first ++ (turns.0 ++ finish.0)),
      record {
        start = c.in_ok-world.world;
        is_start = rw c.workers-workers.ensures.workers at c.in_ok-world.ensures.start;
        replayed = c.show_turns.new.world;
        turns = turns.0;
        shows_turns = turns.1;
        finished = c.show_finish.new.world;
        finish = finish.0;
        shows_finish = finish.1;
        ended = ended;
        its_text = refl;
      },
      joined (string_bytes c.args.film.now.text) ops first turns.0 finish.0 (string_bytes c.push_ops.new.text) (string_bytes c.push_ops.new.text ++ first) (string_bytes c.show_turns.new.film.text) (string_bytes c.show_finish.new.film.text)
          (rw (c.ops.ensures.ops, c.workers-workers.ensures.workers) at c.in_ok-push_ops.ensures) refl turns.2 finish.2,
    ))
    c.show_finish.ensures.text c.show_finish.ensures.ended
