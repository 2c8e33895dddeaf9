-- Grouped parts by recursion: what may follow so many operations of a batch, and how many are open at the end.
use Rattle.std.proofs.Common.{◌≡◌, ◌≢◌, ◌<◌, ◌≤◌, ◌+◌, ◌++◌, ◌∷◌, [], ℕ, List, length, refl, ap, subst, arith}
use Rattle.std.specs.Prelude.{⊤}
use Rattle.std.specs.List.{flat_map}
use Rattle.blink_batch.specs.declared.batch.TheConstants.{BATCH_LIMIT}
use Rattle.blink_operation.specs.declared.operation.Op.{Op}
use Rattle.blink_batch.specs.declared.record.Request.{Request}
use Rattle.blink_batch.specs.declared.record.Request.TheVariants as request
use Rattle.blink_batch.specs.declared.script.Part.{Part}
use Rattle.blink_batch.specs.declared.script.Part.TheVariants.{Batch, Scan, Page}
use Rattle.blink_batch.specs.Script.{alone, joined}
use Rattle.blink_batch.specs.ScriptLaw.{AreGrouped, EndsInFullBatch, requests_in}

abbrev pub BeginsWithoutBatch : List Part → Type 0
BeginsWithoutBatch (Batch ops ∷ parts) = ⊥
BeginsWithoutBatch parts = ⊤

-- the parts may follow so many operations, which a batch at their prefix takes up
abbrev pub MayFollow : ℕ → List Part → Type 0
MayFollow before [] = ⊤
MayFollow before (Batch ops ∷ parts) = (ops ≢ []) × (before + length ops ≤ BATCH_LIMIT) × BeginsWithoutBatch parts × MayFollow 0 parts
MayFollow before (part ∷ parts) = MayFollow 0 parts

-- the operations that are open behind the parts
abbrev pub open_after : ℕ → List Part → ℕ
open_after before [] = before
open_after before (Batch ops ∷ parts) = open_after (before + length ops) parts
open_after before (part ∷ parts) = open_after 0 parts

-- ---- one operation before the parts

pub joined-requests : (op : Op) (parts : List Part) → flat_map requests_in (joined op parts) ≡ request.Operation op ∷ flat_map requests_in parts
joined-requests op [] = refl
joined-requests op (Batch ops ∷ parts) = refl
joined-requests op (part ∷ parts) = refl

pub joined-follows : (before : ℕ) (op : Op) (parts : List Part) → before < BATCH_LIMIT → MayFollow (before + 1) parts → MayFollow before (joined op parts)
joined-follows before op [] room follow = (λ empty. cc empty, omega arith, tt, tt)
joined-follows before op (Batch ops ∷ parts) room follow = (λ empty. cc empty, omega (arith, follow.1), follow.2, follow.3)
joined-follows before op (part ∷ parts) room follow = (λ empty. cc empty, omega arith, tt, follow)

pub joined-open : (before : ℕ) (op : Op) (parts : List Part) → open_after before (joined op parts) ≡ open_after (before + 1) parts
joined-open before op [] = refl
joined-open before op (Batch ops ∷ parts) = ap (λ n. open_after n parts) (omega arith)
joined-open before op (part ∷ parts) = refl

-- parts that ask for an operation first are that operation before others
pub record IsJoined (before : ℕ) (op : Op) (requests : List Request) (parts : List Part) : Type 0 where
  pub others : List Part
  pub together : parts ≡ joined op others
  pub their_requests : flat_map requests_in others ≡ requests
  pub room : before < BATCH_LIMIT
  pub follow : MayFollow (before + 1) others

pub unjoined : (before : ℕ) (op : Op) (requests : List Request) (parts : List Part) → MayFollow before parts → flat_map requests_in parts ≡ request.Operation op ∷ requests → IsJoined before op requests parts
unjoined before op requests [] follow ask = absurd (cc ask)
unjoined before op requests (Batch [] ∷ parts) follow ask = absurd (follow.0 refl)
unjoined before op requests (Batch (first ∷ []) ∷ []) follow ask =
    record { others = []; together = ap (λ o. Batch (o ∷ []) ∷ []) (cc ask); their_requests = cc ask; room = omega (arith, follow.1); follow = tt }
unjoined before op requests (Batch (first ∷ []) ∷ Batch ops ∷ parts) follow ask = absurd follow.2
unjoined before op requests (Batch (first ∷ []) ∷ part ∷ parts) follow ask =
    record { others = part ∷ parts; together = ap (λ o. Batch (o ∷ []) ∷ part ∷ parts) (cc ask); their_requests = cc ask; room = omega (arith, follow.1); follow = follow.3 }
unjoined before op requests (Batch (first ∷ next ∷ ops) ∷ parts) follow ask = record {
  others = Batch (next ∷ ops) ∷ parts;
  together = ap (λ o. Batch (o ∷ next ∷ ops) ∷ parts) (cc ask);
  their_requests = cc ask;
  room = omega (arith, follow.1);
  follow = (λ empty. cc empty, omega (arith, follow.1), follow.2, follow.3);
}
unjoined before op requests (part ∷ parts) follow ask = absurd (cc ask)

-- ---- a part that joins no other before the parts

abbrev pub IsNoOperation : Request → Type 0
IsNoOperation (request.Operation op) = ⊥
IsNoOperation asked = ⊤

pub alone-requests : (asked : Request) (parts : List Part) → flat_map requests_in (alone asked ∷ parts) ≡ asked ∷ flat_map requests_in parts
alone-requests (request.Operation op) parts = refl
alone-requests asked parts = refl

pub alone-follows : (before : ℕ) (asked : Request) (parts : List Part) → IsNoOperation asked → MayFollow 0 parts → MayFollow before (alone asked ∷ parts)
alone-follows before (request.Operation op) parts other follow = absurd other
alone-follows before asked parts other follow = follow

pub alone-open : (before : ℕ) (asked : Request) (parts : List Part) → IsNoOperation asked → open_after before (alone asked ∷ parts) ≡ open_after 0 parts
alone-open before (request.Operation op) parts other = absurd other
alone-open before asked parts other = refl

-- parts that ask first for what is no operation begin with it
pub begins_alone : (before : ℕ) (asked : Request) (requests : List Request) (parts : List Part) → IsNoOperation asked → MayFollow before parts → flat_map requests_in parts ≡ asked ∷ requests
    → (others : List Part) × (parts ≡ alone asked ∷ others) × (flat_map requests_in others ≡ requests) × MayFollow 0 others
begins_alone before asked requests [] other follow ask = absurd (cc ask)
begins_alone before asked requests (Batch [] ∷ parts) other follow ask = absurd (follow.0 refl)
begins_alone before asked requests (Batch (op ∷ ops) ∷ parts) other follow ask =
    let first : asked ≡ request.Operation op = cc ask in
    absurd (subst IsNoOperation first other)
begins_alone before asked requests (Scan lo hi ∷ parts) other follow ask =
    let first : request.Scan lo hi ≡ asked = cc ask in
    (parts, ap (λ (r : Request). alone r ∷ parts) first, cc ask, follow)
begins_alone before asked requests (Page lo n ∷ parts) other follow ask =
    let first : request.Page lo n ≡ asked = cc ask in
    (parts, ap (λ (r : Request). alone r ∷ parts) first, cc ask, follow)

pub asks_nothing : (before : ℕ) (parts : List Part) → MayFollow before parts → flat_map requests_in parts ≡ [] → parts ≡ []
asks_nothing before [] follow ask = refl
asks_nothing before (Batch [] ∷ parts) follow ask = absurd (follow.0 refl)
asks_nothing before (Batch (op ∷ ops) ∷ parts) follow ask = absurd (cc ask)
asks_nothing before (part ∷ parts) follow ask = absurd (cc ask)

-- ---- the relations

rest_grouped : (part : Part) (parts : List Part) → AreGrouped (part ∷ parts) → AreGrouped parts
rest_grouped part parts grouped = record {
  none_empty = λ before after same. grouped.none_empty (part ∷ before) after (ap (λ p. part ∷ p) same);
  within_limit = λ before after ops same. grouped.within_limit (part ∷ before) after ops (ap (λ p. part ∷ p) same);
  no_neighbours = λ before after ops others same. grouped.no_neighbours (part ∷ before) after ops others (ap (λ p. part ∷ p) same);
}

-- no batch follows a batch
without_batch : (parts : List Part) → ((others : List Op) (after : List Part) → parts ≢ Batch others ∷ after) → BeginsWithoutBatch parts
without_batch [] none = tt
without_batch (Batch ops ∷ parts) none = none ops parts refl
without_batch (part ∷ parts) none = tt

pub follow_from_grouped : (parts : List Part) → AreGrouped parts → MayFollow 0 parts
follow_from_grouped [] grouped = tt
follow_from_grouped (Batch ops ∷ parts) grouped = (
  λ empty. grouped.none_empty [] parts (ap (λ o. Batch o ∷ parts) empty),
  omega (arith, grouped.within_limit [] parts ops refl),
  without_batch parts (λ others after same. grouped.no_neighbours [] after ops others (ap (λ p. Batch ops ∷ p) same)),
  follow_from_grouped parts (rest_grouped (Batch ops) parts grouped),
)
follow_from_grouped (part ∷ parts) grouped = follow_from_grouped parts (rest_grouped part parts grouped)

rest_follows : (before after : List Part) → MayFollow 0 (before ++ after) → MayFollow 0 after
rest_follows [] after follow = follow
rest_follows (Batch ops ∷ before) after follow = rest_follows before after follow.3
rest_follows (part ∷ before) after follow = rest_follows before after follow

pub grouped_from_follow : (parts : List Part) → MayFollow 0 parts → AreGrouped parts
grouped_from_follow parts follow = record {
  none_empty = λ before after same. (rest_follows before (Batch [] ∷ after) (rw same at follow)).0 refl;
  within_limit = λ before after ops same. omega (arith, (rest_follows before (Batch ops ∷ after) (rw same at follow)).1);
  no_neighbours = λ before after ops others same. (rest_follows before (Batch ops ∷ Batch others ∷ after) (rw same at follow)).2;
}

-- as many are open as the limit allows exactly where the last part is a full batch
later_full : (before parts : List Part) → EndsInFullBatch parts → EndsInFullBatch (before ++ parts)
later_full [] parts ends = ends
later_full (part ∷ before) parts ends =
    let later = later_full before parts ends in
    record { earlier = part ∷ later.earlier; ops = later.ops; last = ap (λ p. part ∷ p) later.last; full = later.full }

pub full_from_open : (parts : List Part) → MayFollow 0 parts → BATCH_LIMIT ≤ open_after 0 parts → EndsInFullBatch parts
full_from_open [] follow least = absurd (omega arith)
full_from_open (Batch ops ∷ []) follow least = record { earlier = []; ops = ops; last = refl; full = omega (arith, follow.1) }
full_from_open (Batch ops ∷ Batch others ∷ parts) follow least = absurd follow.2
full_from_open (Batch ops ∷ part ∷ parts) follow least = later_full (Batch ops ∷ part ∷ []) parts (full_from_open parts follow.3 least)
full_from_open (part ∷ parts) follow least = later_full (part ∷ []) parts (full_from_open parts follow least)

open_behind : (earlier : List Part) (ops : List Op) → MayFollow 0 (earlier ++ Batch ops ∷ []) → open_after 0 (earlier ++ Batch ops ∷ []) ≡ length ops
open_behind [] ops follow = omega arith
open_behind (Batch others ∷ []) ops follow = absurd follow.2
open_behind (Batch others ∷ Batch more ∷ earlier) ops follow = absurd follow.2
open_behind (Batch others ∷ part ∷ earlier) ops follow = open_behind earlier ops follow.3
open_behind (part ∷ earlier) ops follow = open_behind earlier ops follow

pub open_from_full : (parts : List Part) → MayFollow 0 parts → EndsInFullBatch parts → BATCH_LIMIT ≤ open_after 0 parts
open_from_full parts follow ends =
    let left : open_after 0 parts ≡ length ends.ops = rw ends.last (open_behind ends.earlier ends.ops (rw ends.last at follow)) in
    omega (arith, ends.full)
