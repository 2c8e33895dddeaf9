-- A run at its beginning and at its end, and what it says then of the plain map.
use Rattle.std.proofs.Common.{◌≡◌, ℕ, ◌<◌, Option, Some, IsSome, List, [], ◌∷◌, length, map, reverse, All, refl, ap, sym, ◌∙◌, subst, arith}
use Rattle.std.proofs.lemmas.List.{length-map, length-reverse}
use Rattle.std.proofs.lemmas.Option.{get_or_from_slice_get}
use Rattle.blink_batch.specs.declared.Answer.{Answer}
use Rattle.blink_batch.specs.declared.Entry.{Entry}
use Rattle.blink_batch.specs.declared.Op.{Op}
use Rattle.blink_batch.specs.{answers, map_after_all}
use Rattle.blink_store.specs.{PlainStore, page_of}
use Rattle.blink_rest.specs.{AreEntries, IsStoreAtRest}
use Rattle.blink_machine.specs.{IsMapOf, pairs_of}
use Rattle.blink_steps.specs.Headline.{IsOneThread}
use Rattle.blink_steps.specs.Promises.{HasAnswerAt}
use Rattle.blink_steps.specs.Run.{Event, PlainRun}
use Rattle.blink_steps.specs.World.{IsWorldOf, PlainWorld}

-- a world whose schedule tells no turn has none
pub no_turn_yet : (start : PlainStore) (world : PlainWorld) (is_world : IsWorldOf start world) → world.schedule ≡ [] → is_world.history ≡ []
no_turn_yet start world is_world none =
    let workers : List ℕ = map (λ (taken : Event). taken.worker) is_world.history in
    let long : length (reverse workers) ≡ length is_world.history = length-reverse workers ∙ length-map is_world.history (λ (taken : Event). taken.worker) in
    let empty : length (reverse workers) ≡ 0 = ap (λ (xs : List ℕ). length xs) (sym is_world.same_schedule ∙ none) in
    none_where_short is_world.history (omega arith)
  where
    none_where_short : (history : List Event) → length history ≡ 0 → history ≡ []
    none_where_short [] short = refl
    none_where_short (taken ∷ history) short = absurd (omega arith)

-- at the end each place has its answer
pub all_some : (run : PlainRun) → length run.outcome.answers ≡ length run.ops → ((place : ℕ) → place < length run.ops → HasAnswerAt run.outcome.answers place) → All (λ (answer : Option Answer). IsSome answer) run.outcome.answers
all_some run one_each answered k default within =
    let has = answered k (omega arith) in
    rw (get_or_from_slice_get run.outcome.answers k (Some has.0) default has.1) refl

-- the same answers, each as one that is given
same_given : (given other : List Answer) → map Some given ≡ map Some other → given ≡ other
same_given [] [] same = refl
same_given [] (b ∷ others) same = absurd (cc)
same_given (a ∷ rest) [] same = absurd (cc)
same_given (a ∷ rest) (b ∷ others) same =
    let first : Some a ≡ Some b = cc in
    let same_rest : map Some rest ≡ map Some others = cc in
    let one : a ≡ b = cc in
    ap (λ (x : Answer). x ∷ rest) one ∙ ap (λ (xs : List Answer). b ∷ xs) (same_given rest others same_rest)

-- a run at its end, from one tree to another, whose answers and entries are one thread's
pub record IsDone (before after : PlainStore) (ops : List Op) (given : List Answer) : Type 0 where
  pub run : PlainRun
  pub same_ops : run.ops ≡ ops
  pub same_answers : run.outcome.answers ≡ map Some given
  pub same_tree : run.shared.store ≡ after
  pub one_thread : IsOneThread before run
  pub at_rest : IsStoreAtRest after

module _ (before after : PlainStore) (ops : List Op) (given : List Answer) (done : IsDone before after ops given) (entries : List Entry) (is_map : IsMapOf before entries) where
  -- the answers are one thread's
  pub one_thread_answers : given ≡ answers entries ops
  one_thread_answers =
      same_given given (answers entries ops) (sym done.same_answers ∙ done.one_thread.same_answers entries is_map
      ∙ ap (λ (xs : List Op). map Some (answers entries xs)) done.same_ops)

  -- and so is the map, whatever tells the only map of a tree at rest
  pub one_thread_map : (map_of : PlainStore → List Entry)
      → ((store : PlainStore) (kept : List Entry) → IsStoreAtRest store → AreEntries store.fan store.prime (page_of store) (pairs_of kept) → kept ≡ map_of store)
      → map_of after ≡ map_after_all entries ops
  one_thread_map map_of no_other =
      let kept = done.one_thread.same_entries entries is_map in
      let here : IsMapOf after (map_after_all entries ops) =
      subst (λ (store : PlainStore). IsMapOf store (map_after_all entries ops)) done.same_tree
      (subst (λ (xs : List Op). IsMapOf done.run.shared.store (map_after_all entries xs)) done.same_ops kept) in
      sym (no_other after (map_after_all entries ops) done.at_rest here.kept)
