use Rattle.std.proofs.Common.{◌≡◌, ◌⊎◌, ℕ, List, refl, ap, sym, ◌∙◌, subst}
use Rattle.std.specs.Prelude.{Contains}
use mathlib.Core.List.{IsPrefix}
use Rattle.blink_live.specs.declared.view.Change.{Change}
use Rattle.blink_live.specs.Parcels.{parcel_of, parts_with, receives}
use Rattle.blink_live.specs.Views.{SeatState, KnowsItsOwn, SawItsOwn, forgets_told, hears, learns_of_others, note_of}
use Rattle.blink_live.proofs.told.OwnersAreSeen.{no_more_of}
use Rattle.blink_live.proofs.live.Live.move_keys.Goals as goal

pub receive-requires-clause-keys : goal.receive-requires-clause-keys
receive-requires-clause-keys c key has =
    subst (λ (keys : List ℕ). Contains c.args.taker.now.me.0.share.keys key ⊎ Contains keys key) (ap (λ (x : SeatState). x.0.share.keys) (sym c.part_with-parcel.ensures.right.1)) (c.requires.all key has)

pub returns-clause-moved : goal.returns-clause-moved
returns-clause-moved c =
    let giver : SeatState = c.args.giver.now.me in
    let taker : SeatState = c.args.taker.now.me in
    let keys : List ℕ = c.args.keys.now in
    let all : List ℕ = c.args.all.now in
    let up = c.look_up.ensures.up in
    let seen : List Change = up.seen in
    let received : c.receive.new.seat.me ≡ (receives taker.0 all (parcel_of giver.0 keys), taker.1) =
    c.receive.ensures.received ∙ ap (λ (x : SeatState). let y : SeatState = (receives taker.0 all x.0, taker.1) in y) c.part_with-parcel.ensures.right.1 in
    let told : c.pass_on.new.to.me ≡ (hears (parts_with giver.0 keys) (note_of c.look_up.new.seat.me.0), giver.1) =
    c.pass_on.ensures.told ∙ ap (λ (x : SeatState). let y : SeatState = (hears x.0 (note_of c.look_up.new.seat.me.0), x.1) in y) c.part_with-parcel.ensures.left.1 in
    let back = c.look_back.ensures.back in
    let gave = back.is ∙ ap (λ (x : SeatState). let y : SeatState = (forgets_told x.0, x.1) in y) told in
    record {
      seen = seen;
      gave = gave;
      took = c.pass_on.ensures.from.2 ∙ (up.is ∙ ap (λ (x : SeatState). let y : SeatState = (learns_of_others x.0 seen, x.1) in y) received);
      saw = subst (λ (list : List Change). IsPrefix list seen) (ap (λ (x : SeatState). x.0.seen) received) up.learns.saw;
      heard = subst (λ (list : List Change). IsPrefix list seen) (ap (λ (x : SeatState). x.0.told) received) up.learns.heard;
      knows_own = subst (λ (x : SeatState). KnowsItsOwn x.0) (sym c.pass_on.ensures.from.2) up.knows_own;
      no_more = no_more_of seen c.look_back.new.seat.me.0.share c.pass_on.new.to.me.0 (ap (λ (x : SeatState). x.0.told) told ∙ ap (λ (x : SeatState). x.0.seen) up.is)
          (sym (ap (λ (x : SeatState). x.0.share) back.is)) back.no_more;
      giver_knows = λ saw. back.knows_own (subst (λ (x : SeatState). SawItsOwn x.0) (sym told) saw);
    }

pub receive-requires-clause-picked : goal.receive-requires-clause-picked
receive-requires-clause-picked c = (refl, refl)
