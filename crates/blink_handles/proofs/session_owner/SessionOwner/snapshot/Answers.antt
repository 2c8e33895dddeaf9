use Rattle.std.proofs.Common.{◌∙◌, Some, ap, inl, inr, subst, sym}
use Rattle.blink_map.specs.{opening_of, seen_by}
use Rattle.blink_handles.specs.declared.session_owner.SessionOwner.{SessionOwner}
use Rattle.blink_handles.specs.declared.shared_map.SharedMap.{SharedMap}
use Rattle.blink_handles.specs.MapCodes.{refusal_of}
use Rattle.blink_handles.specs.Sessions.{IsTakeRefusal}
use Rattle.blink_handles.specs.Reports.{TellsTaken}
use Rattle.blink_handles.proofs.SessionsStay.{away_busy, away_free, sees_free}
use Rattle.blink_handles.proofs.SnapshotsAreGiven.{tells_taken}
use Rattle.blink_handles.proofs.session_owner.SessionOwner.snapshot.Goals as goal

pub returns-in-Ok-clause-taken : goal.returns-in-Ok-clause-taken
returns-in-Ok-clause-taken c =
    let now = c.try_snapshot.new.session in
    let done = c.in-Ok.ensures in
    let given = c.of.ensures in
    let told = tells_taken c.in-Ok.found (λ v. v.items) (opening_of c.deref.result.now.map) (seen_by now) c.args.range.0 c.args.range.1 c.args.entries.now c.of.new.entries c.of.result done.snapshot given.none given.some in
    record {
      told = subst (λ (s : SharedMap). TellsTaken (opening_of s.map) (seen_by now) c.args.range.0 c.args.range.1 c.args.entries.now c.of.new.entries c.of.result) c.deref.ensures told;
      sees = sees_free c.args.self.now c.requires.its_own c.in-Some-default.session now c.in-Some-default.is-0 done.same;
    }

pub returns-in-Err-clause-refused : goal.returns-in-Err-clause-refused
returns-in-Err-clause-refused c =
    let old = c.args.self.now in
    let its = c.requires.its_own in
    let before = c.in-Some-default.session in
    let is = c.in-Some-default.is-0 in
    let now = c.try_snapshot.new.session in
    let new : SessionOwner = record old { free = Some now } in
    elim c.in-Err.ensures.refused [
      | inl busy ↦ subst (IsTakeRefusal old new) (sym (c.of-in-Err.ensures ∙ ap refusal_of busy)) (inr (away_free old its before now is (c.in-Err.ensures.unchanged busy)))
      | inr memory ↦ inl (c.of-in-Err.ensures ∙ ap refusal_of memory, sees_free old its before now is c.in-Err.ensures.same)
    ]

pub returns-in-None-None-clause-refused : goal.returns-in-None-None-clause-refused
returns-in-None-None-clause-refused c = inr (away_busy c.args.self.now c.requires.its_own c.in-None-None.is-0 c.in-None-None.is-1)
