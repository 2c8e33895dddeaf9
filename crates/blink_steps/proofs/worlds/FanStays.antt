-- No turn of a run changes the greatest number of entries in a page.
use Rattle.std.proofs.Common.{◌≡◌, ℕ, List, [], ◌∷◌, ap, ◌∙◌}
use Rattle.blink_machine.specs.declared.machine.Need.{Need}
use Rattle.blink_machine.specs.declared.machine.Need.TheVariants.{ReadPrime, ReadPage, Latch, WriteNew, WritePage, WritePrime, Unlatch, End}
use Rattle.blink_machine.specs.declared.step.Kind.{Kind}
use Rattle.blink_machine.specs.declared.step.Step.TheVariants.{Moved}
use Rattle.blink_machine.specs.{PlainMachine, need_at}
use Rattle.blink_store.specs.{PlainStore}
use Rattle.blink_steps.specs.Acts.{ActsOn, PlainShared}
use Rattle.blink_steps.specs.Run.{AppliesEvent, Event, IsHistory, PlainRun, moves, waits, idles}
use Rattle.blink_steps.specs.World.{IsWorldOf, PlainWorld}

acts_keep : (need : Need) (old new : PlainShared) (worker : ℕ) (m after : PlainMachine) (kind : Kind) → ActsOn need old worker m (Moved kind) after new
    → new.store.fan ≡ old.store.fan
acts_keep ReadPrime old new worker m after kind acts = ap (λ (shared : PlainShared). shared.store.fan) acts.2
acts_keep (ReadPage number) old new worker m after kind acts = ap (λ (shared : PlainShared). shared.store.fan) acts.2
acts_keep (Latch number) old new worker m after kind acts = ap (λ (store : PlainStore). store.fan) acts.3
acts_keep WriteNew old new worker m after kind acts = let writes = acts.3 in writes.same_fan
acts_keep (WritePage number) old new worker m after kind acts = let writes = acts.2 in writes.same_fan
acts_keep WritePrime old new worker m after kind acts = ap (λ (store : PlainStore). store.fan) acts.3
acts_keep (Unlatch number) old new worker m after kind acts = ap (λ (store : PlainStore). store.fan) acts.2
acts_keep End old new worker m after kind acts = absurd acts

event_keeps : (old new : PlainRun) (taken : Event) → AppliesEvent old taken new → new.shared.store.fan ≡ old.shared.store.fan
event_keeps old new taken (moves next kind is_next step acts same) =
    acts_keep (need_at taken.before.state) old.shared new.shared taken.worker taken.before taken.after kind acts
event_keeps old new taken (waits next is_next step acts same) = ap (λ (run : PlainRun). run.shared.store.fan) same
event_keeps old new taken (idles seat step same) = ap (λ (run : PlainRun). run.shared.store.fan) same

history_keeps : (start run : PlainRun) (history : List Event) → IsHistory start history run → run.shared.store.fan ≡ start.shared.store.fan
history_keeps start run [] same = ap (λ (at : PlainRun). at.shared.store.fan) same
history_keeps start run (taken ∷ history) follows = event_keeps follows.0 run taken follows.2 ∙ history_keeps start follows.0 history follows.1

-- so a world's tree has the fan of the tree that it began with
pub fan_stays : (start : PlainStore) (world : PlainWorld) → IsWorldOf start world → world.run.shared.store.fan ≡ start.fan
fan_stays start world is_world =
    history_keeps is_world.opening world.run is_world.history is_world.follows ∙ ap (λ (store : PlainStore). store.fan) is_world.is_opening.same_store
