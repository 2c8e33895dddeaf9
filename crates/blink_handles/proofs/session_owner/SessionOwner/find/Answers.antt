use Rattle.std.proofs.Common.{◌∙◌, ap, sym}
use Rattle.blink_batch.specs.{pointer_of}
use Rattle.blink_live.specs.{after}
use Rattle.blink_map.specs.declared.slots.Known.{Known}
use Rattle.blink_map.specs.{known_by, opening_of, seen_by}
use Rattle.blink_handles.specs.declared.shared_map.SharedMap.{SharedMap}
use Rattle.blink_handles.specs.Sessions.{in_map}
use Rattle.blink_handles.specs.Raw.{raw_shown}
use Rattle.blink_handles.proofs.SessionsStay.{away_busy, away_free, held_knows, sees_free, sees_held}
use Rattle.blink_handles.proofs.session_owner.SessionOwner.find.Goals as goal

pub returns-in-Ok-clause-found : goal.returns-in-Ok-clause-found
returns-in-Ok-clause-found c =
    let now = c.try_find.new.session in
    let done = c.in-Ok.ensures in
    record {
      answer = c.shown.ensures ∙ ap raw_shown (done.state ∙ ap (λ (s : SharedMap). after (pointer_of (opening_of s.map)) (seen_by now) c.args.key) c.deref.ensures);
      sees = sees_free c.args.self.now c.requires.its_own c.in-Some-default.session now c.in-Some-default.is-0 done.same;
    }

pub returns-in_default-clause-refused : goal.returns-in_default-clause-refused
returns-in_default-clause-refused c = away_free c.args.self.now c.requires.its_own c.in-Some-default.session c.try_find.new.session c.in-Some-default.is-0 c.in_default.ensures.unchanged

pub returns-in-None-Some-clause-found : goal.returns-in-None-Some-clause-found
returns-in-None-Some-clause-found c =
    let old = c.args.self.now in
    let before = c.in-None-Some.held in
    let now = c.find_held.new.held in
    let done = c.find_held.ensures in
    record {
      answer = c.shown-in-None-Some.ensures ∙ ap raw_shown (done.state
          ∙ (ap (λ (s : SharedMap). after (pointer_of (opening_of s.map)) (known_by now).seen c.args.key) c.deref.ensures
          ∙ ap (λ (known : Known). after (pointer_of (opening_of (in_map old))) known.seen c.args.key) (sym (held_knows old c.requires.its_own before now c.in-None-Some.is-0 c.in-None-Some.is-1))));
      sees = sees_held old c.requires.its_own before now c.in-None-Some.is-0 c.in-None-Some.is-1 done.same;
    }

pub returns-in-None-None-clause-refused : goal.returns-in-None-None-clause-refused
returns-in-None-None-clause-refused c = away_busy c.args.self.now c.requires.its_own c.in-None-None.is-0 c.in-None-None.is-1
