-- An operation that holds a latch comes nearer to letting it go with each step.
use Rattle.std.proofs.Common.{◌≡◌, ◌≢◌, ◌<◌, ℕ, Bool, true, false, Option, None, List, [], ◌∷◌, ap, refl, subst, sym, arith}
use Rattle.std.specs.Bool.{OnFalse}
use Rattle.std.specs.Prelude.{IsTrue}
use Rattle.blink_page.specs.{PlainPage}
use Rattle.blink_machine.specs.Needs.{TellsNothing}
use Rattle.blink_machine.specs.declared.machine.Debt.{Debt}
use Rattle.blink_machine.specs.declared.machine.Job.{Job}
use Rattle.blink_machine.specs.declared.machine.Job.TheVariants.{Leaf, Parent}
use Rattle.blink_machine.specs.declared.machine.Need.TheVariants.{Latch}
use Rattle.blink_machine.specs.declared.machine.Next.{Next}
use Rattle.blink_machine.specs.declared.machine.Next.TheVariants.{Finish, MoveRight, Post}
use Rattle.blink_machine.specs.declared.machine.State.{State}
use Rattle.blink_machine.specs.declared.machine.State.TheVariants.{Start, Going, Want, Held, Change, SplitNew, SplitOld, AskPrime, Root, NewPrime, Leave, Posting, Ended}
use Rattle.blink_machine.specs.{IsResting, NeedsLatch, PlainMachine, SeesPrime, SeesPage, SeesOnItsWay, SeesUnderLatch, decided_with, done, done_at, latch_at, latch_of, leaves_for, need_at, sets_out}
use Rattle.blink_live.specs.AtomicSteps.{AsksPrime}
use Rattle.blink_live.specs.Pendings.{IsWaiting, for_latch, for_level}
use Rattle.blink_live.specs.Updating.{ComesNearer, IsPastDescent, steps_to_leave}

-- ---- without a latch

pub no_latch_waiting : (m : PlainMachine) → IsWaiting m → latch_of m ≡ None
no_latch_waiting m (for_latch page at) = ap latch_at at
no_latch_waiting m (for_level at) = ap latch_at at

pub rests_waiting : (m : PlainMachine) → IsWaiting m → IsResting m.state
rests_waiting m (for_latch page at) = subst IsResting (sym at) tt
rests_waiting m (for_level at) = subst IsResting (sym at) tt

pub past_waiting : (m : PlainMachine) → IsWaiting m → m.state ≢ Ended
past_waiting m (for_latch page at) ends = absurd (cc)
past_waiting m (for_level at) ends = absurd (cc)

pub waits_at : (m : PlainMachine) (state : State) → m.state ≡ state → IsPastDescent state → latch_at state ≡ None → state ≢ Ended → IsWaiting m
waits_at m Start same past free goes = absurd past
waits_at m (Going page level) same past free goes = absurd past
waits_at m (Want page) same past free goes = for_latch page same
waits_at m Posting same past free goes = for_level same
waits_at m Ended same past free goes = absurd (goes refl)
waits_at m state same past free goes = absurd (cc)

wanted_at : (state : State) (number : ℕ) → need_at state ≡ Latch number → latch_at state ≡ None
wanted_at (Want page) number needs = refl
wanted_at state number needs = absurd (cc)

pub no_latch_wanted : (m : PlainMachine) (number : ℕ) → NeedsLatch m number → latch_of m ≡ None
no_latch_wanted m number needs = wanted_at m.state number needs

-- what is so unless a test is passed is so where it isn't
pub stays_unless : (test : Bool) (m after : PlainMachine) → (¬ IsTrue test → after ≡ m) → OnFalse test (after ≡ m)
stays_unless true m after lost = tt
stays_unless false m after lost = lost (λ e. absurd (cc))

-- ---- steps that are done

decided_at : (m : PlainMachine) (job : Job) (state : State) (kept : Option ℕ) → steps_to_leave (decided_with m job state kept).state ≡ steps_to_leave state
decided_at m Leaf state kept = refl
decided_at m (Parent debt) state kept = refl

sets_out_at : (m : PlainMachine) (debt : Debt) (pages : List ℕ) → steps_to_leave (sets_out m debt pages).state ≡ 0
sets_out_at m debt [] = refl
sets_out_at m debt (page ∷ above) = refl

leaves_at : (m : PlainMachine) (next : Next) → steps_to_leave (leaves_for m next).state ≡ 0
leaves_at m Finish = refl
leaves_at m (MoveRight page) = refl
leaves_at m (Post debt) = sets_out_at m debt m.remembered

done_nearer : (m : PlainMachine) (state : State) (new : ℕ) → TellsNothing (need_at state) → latch_at state ≢ None → steps_to_leave (done_at m state new).state < steps_to_leave state
done_nearer m (Want page) new tells held = absurd (held refl)
done_nearer m (Change page changed kept) new tells held = let e = decided_at m m.job (Leave page Finish) kept in omega (arith, e)
done_nearer m (SplitNew page before) new tells held = omega arith
done_nearer m (SplitOld page lower debt) new tells held = let e = decided_at m m.job (AskPrime page debt) None in omega (arith, e)
done_nearer m (Root page debt prime) new tells held = omega arith
done_nearer m (NewPrime page debt root prime) new tells held = omega arith
done_nearer m (Leave page next) new tells held = let e = leaves_at m next in omega (arith, e)
done_nearer m state new tells held = absurd tells

pub nearer_done : (m after : PlainMachine) (new : ℕ) → TellsNothing (need_at m.state) → after ≡ done m new → ComesNearer m after
nearer_done m after new tells is held = subst (λ (k : PlainMachine). steps_to_leave k.state < steps_to_leave m.state) (sym is) (done_nearer m m.state new tells held)

-- ---- reads

at_states : (m after : PlainMachine) (from to : State) → m.state ≡ from → after.state ≡ to → steps_to_leave to < steps_to_leave from → steps_to_leave after.state < steps_to_leave m.state
at_states m after from to was is less = let a = ap steps_to_leave was in let b = ap steps_to_leave is in omega (arith, a, b, less)

prime_nearer : (m after : PlainMachine) (prime : List ℕ) → SeesPrime m prime after → ComesNearer m after
prime_nearer m after prime (SeesPrime.begins top at last is) held = absurd (held (ap latch_at at))
prime_nearer m after prime (SeesPrime.asks_of_root page debt at top is) held = at_states m after (AskPrime page debt) (Root page debt prime) at (ap (λ (k : PlainMachine). k.state) is) (omega arith)
prime_nearer m after prime (SeesPrime.asks_of_other page debt at top is) held = at_states m after (AskPrime page debt) (Leave page (Post debt)) at (ap (λ (k : PlainMachine). k.state) is) (omega arith)
prime_nearer m after prime (SeesPrime.finds_leftmost debt leftmost at job there is) held = absurd (held (ap latch_at at))

pub nearer_prime : (m after : PlainMachine) (prime : List ℕ) → AsksPrime m prime after → ComesNearer m after
nearer_prime m after prime (AsksPrime.moves sees only goes) held = prime_nearer m after prime sees held
nearer_prime m after prime (AsksPrime.waits waits never is) held = absurd (held (ap latch_at waits.posting))

latched_nearer : (m after : PlainMachine) (number : ℕ) (page : PlainPage) → m.state ≡ Held number → SeesUnderLatch m number page after → steps_to_leave after.state < steps_to_leave m.state
latched_nearer m after number page at (SeesUnderLatch.is_above_high_key next above right is) = at_states m after (Held number) (Leave number (MoveRight next)) at (ap (λ (k : PlainMachine). k.state) is) (omega arith)
latched_nearer m after number page at (SeesUnderLatch.insertion_finds_key key pointer there below job is_op value is) =
    at_states m after (Held number) (Leave number Finish) at (ap (λ (k : PlainMachine). k.state) is) (omega arith)
latched_nearer m after number page at (SeesUnderLatch.deletion_finds_none key below job is_op value is) =
    at_states m after (Held number) (Leave number Finish) at (ap (λ (k : PlainMachine). k.state) is) (omega arith)
latched_nearer m after number page at (SeesUnderLatch.replacement_finds_none key pointer below job is_op value is) =
    at_states m after (Held number) (Leave number Finish) at (ap (λ (k : PlainMachine). k.state) is) (omega arith)
latched_nearer m after number page at (SeesUnderLatch.finds_other_pointer key expected below job is_op value is) =
    at_states m after (Held number) (Leave number Finish) at (ap (λ (k : PlainMachine). k.state) is) (omega arith)
latched_nearer m after number page at (SeesUnderLatch.posting_finds_separator debt child below job value is) =
    at_states m after (Held number) (Leave number Finish) at (ap (λ (k : PlainMachine). k.state) is) (omega arith)
latched_nearer m after number page at (SeesUnderLatch.is_to_change changed kept below change is) =
    at_states m after (Held number) (Change number changed kept) at (ap (λ (k : PlainMachine). k.state) is) (omega arith)
latched_nearer m after number page at (SeesUnderLatch.is_to_split below full is) = at_states m after (Held number) (SplitNew number page) at (ap (λ (k : PlainMachine). k.state) is) (omega arith)

way_holds_none : (m after : PlainMachine) (number : ℕ) (page : PlainPage) → SeesOnItsWay m number page after → latch_of m ≡ None
way_holds_none m after number page (SeesOnItsWay.goes_right level next at leads is) = ap latch_at at
way_holds_none m after number page (SeesOnItsWay.goes_down level child at leads is) = ap latch_at at
way_holds_none m after number page (SeesOnItsWay.find_answers level key at leads find is) = ap latch_at at
way_holds_none m after number page (SeesOnItsWay.update_wants level at leads updates is) = ap latch_at at

pub nearer_page : (m after : PlainMachine) (number : ℕ) (page : PlainPage) → SeesPage m number page after → ComesNearer m after
nearer_page m after number page (SeesPage.on_its_way sees) held = absurd (held (way_holds_none m after number page sees))
nearer_page m after number page (SeesPage.under_latch at sees) held = latched_nearer m after number page at sees
