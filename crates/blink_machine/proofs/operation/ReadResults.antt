-- What an operation makes of what it reads is determined.
use Rattle.std.proofs.Common.{◌≡◌, ℕ, ◌+◌, ◌-◌, ◌≤◌, Bool, true, false, cond, Option, Some, None, ◌∷◌, length, refl, ap, sym, ◌∙◌, subst, ltb, eqb, inl, inr, arith}
use Rattle.std.proofs.lemmas.Bool.{le-ltb, lt-ltb, eq-eqb, ne_eqb}
use Rattle.blink_operation.specs.declared.Op.{Op}
use Rattle.blink_operation.specs.declared.Op.TheVariants.{Find, Insert, Exchange, DeleteExact}
use Rattle.blink_operation.specs.{answer_at}
use Rattle.blink_page.specs.{value_at, PlainPage, Leads}
use Rattle.blink_page.specs.declared.search.Way.{Way}
use Rattle.blink_page.specs.declared.search.Way.TheVariants.{Right, Down, Here}
use Rattle.blink_machine.specs.declared.machine.Job.{Job}
use Rattle.blink_machine.specs.declared.machine.Job.TheVariants.{Leaf, Parent}
use Rattle.blink_machine.specs.declared.machine.Next.TheVariants.{Finish}
use Rattle.blink_machine.specs.declared.machine.State.TheVariants.{Going, Ended, Want, Change, Leave}
use Rattle.blink_machine.specs.OneResult.{OneChange, OneResultOfPage, OneResultOfPrime}
use Rattle.blink_machine.specs.Machine.{PlainMachine, at_state, answered, target}
use Rattle.blink_machine.specs.Table.{Brings, Expects, IsUpdate, begins, asks_of_root, asks_of_other, finds_leftmost, IsTopLeftmost, IsChange, gains, loses, swaps, SeesOnItsWay, goes_right, goes_down, find_answers, update_wants, SeesUnderLatch, is_above_high_key, insertion_finds_key, deletion_finds_none, replacement_finds_none, finds_other_pointer, posting_finds_separator, is_to_change, is_to_split, on_its_way, under_latch}
use Rattle.blink_machine.proofs.operation.PointersReplaced.{swaps-key, swaps-pointer, swaps_bring_nothing}
use Rattle.blink_machine.proofs.operation.EntriesRemoved.{removes-key, removes_no_swap, removes_bring_nothing}
use Rattle.blink_machine.proofs.operation.ExpectedPointers.{expects-key}

-- ---- the prime block

-- an operation makes one thing of the prime block
pub one_result_of_prime : OneResultOfPrime
one_result_of_prime m after other prime (begins top at last is) (begins also at_too last_too is_too) = cc
one_result_of_prime m after other prime (asks_of_root page debt at top is) (asks_of_root also owing at_too top_too is_too) = cc
one_result_of_prime m after other prime (asks_of_root page debt at top is) (asks_of_other also owing at_too none is_too) =
    let same_page : page ≡ also = cc in
    let same_debt : debt ≡ owing = cc in
    absurd (none (subst (λ debt. IsTopLeftmost prime debt.level also) same_debt (subst (IsTopLeftmost prime debt.level) same_page top)))
one_result_of_prime m after other prime (asks_of_other page debt at none is) (asks_of_root also owing at_too top is_too) =
    let same_page : also ≡ page = cc in
    let same_debt : owing ≡ debt = cc in
    absurd (none (subst (λ debt. IsTopLeftmost prime debt.level page) same_debt (subst (IsTopLeftmost prime owing.level) same_page top)))
one_result_of_prime m after other prime (asks_of_other page debt at none is) (asks_of_other also owing at_too none_too is_too) = cc
one_result_of_prime m after other prime (finds_leftmost debt leftmost at job there is) (finds_leftmost owing also at_too job_too there_too is_too) =
    let same_debt : debt ≡ owing = cc in
    let both = ap (λ debt. debt.level) same_debt in
    cc
one_result_of_prime m after other prime (begins top at last is) (asks_of_root page_too debt_too at_too top_too is_too) = absurd cc
one_result_of_prime m after other prime (begins top at last is) (asks_of_other page_too debt_too at_too none_too is_too) = absurd cc
one_result_of_prime m after other prime (begins top at last is) (finds_leftmost debt_too leftmost_too at_too job_too there_too is_too) = absurd cc
one_result_of_prime m after other prime (asks_of_root page debt at top is) (begins top_too at_too last_too is_too) = absurd cc
one_result_of_prime m after other prime (asks_of_root page debt at top is) (finds_leftmost debt_too leftmost_too at_too job_too there_too is_too) = absurd cc
one_result_of_prime m after other prime (asks_of_other page debt at none is) (begins top_too at_too last_too is_too) = absurd cc
one_result_of_prime m after other prime (asks_of_other page debt at none is) (finds_leftmost debt_too leftmost_too at_too job_too there_too is_too) = absurd cc
one_result_of_prime m after other prime (finds_leftmost debt leftmost at job there is) (begins top_too at_too last_too is_too) = absurd cc
one_result_of_prime m after other prime (finds_leftmost debt leftmost at job there is) (asks_of_root page_too debt_too at_too top_too is_too) = absurd cc
one_result_of_prime m after other prime (finds_leftmost debt leftmost at job there is) (asks_of_other page_too debt_too at_too none_too is_too) = absurd cc

-- ---- a page on the way down

-- a search goes one way
one_way : (page : PlainPage) (key : ℕ) (way other : Way) → Leads page key way → Leads page key other → way ≡ other
one_way page key (Right next) (Right also) leads leads_too = let one = leads.1 in let same = leads_too.1 in let both : next ≡ also = cc in ap Right both
one_way page key (Down child) (Down also) leads leads_too = let one = leads.2 in let same = leads_too.2 in let both : child ≡ also = cc in ap Down both
one_way page key Here Here leads leads_too = refl
one_way page key (Right next) (Down child) leads leads_too = absurd (omega (arith, leads.0, leads_too.0))
one_way page key (Right next) Here leads leads_too = absurd (omega (arith, leads.0, leads_too.0))
one_way page key (Down child) (Right next) leads leads_too = absurd (omega (arith, leads.0, leads_too.0))
one_way page key (Down child) Here leads leads_too = absurd (omega (arith, leads.1, leads_too.1))
one_way page key Here (Right next) leads leads_too = absurd (omega (arith, leads.0, leads_too.0))
one_way page key Here (Down child) leads leads_too = absurd (omega (arith, leads.1, leads_too.1))

-- what it makes of a leaf
abbrev made_here : PlainMachine → ℕ → PlainPage → Op → PlainMachine
made_here m number page (Find key) = answered m Ended (answer_at (Find key) (value_at key page.entries))
made_here m number page op = at_state m (Want number)

-- an update wants the leaf
made_by_update : (m : PlainMachine) (number : ℕ) (page : PlainPage) (op : Op) → IsUpdate op → at_state m (Want number) ≡ made_here m number page op
made_by_update m number page (Find key) is_update = absurd is_update
made_by_update m number page op is_update = refl

-- and of a page that leads on
abbrev made_of : PlainMachine → ℕ → ℕ → PlainPage → Way → PlainMachine
made_of m number level page (Right next) = at_state m (Going next level)
made_of m number level page (Down child) = record m { remembered = number ∷ m.remembered; state = Going child (level - 1) }
made_of m number level page Here = made_here m number page m.op

-- which is what each row says
record IsMade (m : PlainMachine) (number : ℕ) (page : PlainPage) (after : PlainMachine) : Type 0 where
  way : Way
  level : ℕ
  leads : Leads page (target m) way
  at : m.state ≡ Going number level
  is : after ≡ made_of m number level page way

is_made : (m : PlainMachine) (number : ℕ) (page : PlainPage) (after : PlainMachine) → SeesOnItsWay m number page after → IsMade m number page after
is_made m number page after (goes_right level next at leads is) = record { way = Right next; level = level; leads = leads; at = at; is = is }
is_made m number page after (goes_down level child at leads is) =
    let lower : level ≡ level + 1 - 1 = omega arith in
    record { way = Down child; level = level + 1; leads = leads; at = at; is = is ∙ ap (λ (n : ℕ). record m { remembered = number ∷ m.remembered; state = Going child n }) lower }
is_made m number page after (find_answers level key at leads op is) = record { way = Here; level = level; leads = leads; at = at; is = is ∙ ap (made_here m number page) (sym op) }
is_made m number page after (update_wants level at leads is_update is) = record { way = Here; level = level; leads = leads; at = at; is = is ∙ made_by_update m number page m.op is_update }

-- so it is one
one_on_its_way : (m : PlainMachine) (number : ℕ) (page : PlainPage) (after other : PlainMachine) → SeesOnItsWay m number page after → SeesOnItsWay m number page other → after ≡ other
one_on_its_way m number page after other sees also =
    let one = is_made m number page after sees in
    let two = is_made m number page other also in
    let level : one.level ≡ two.level = let here = one.at in let there = two.at in cc in
    let way : one.way ≡ two.way = one_way page (target m) one.way two.way one.leads two.leads in
    one.is ∙ ap (λ (n : ℕ). made_of m number n page one.way) level ∙ ap (made_of m number two.level page) way ∙ sym two.is

-- ---- a change

-- an operation makes one change of a page
pub one_change : OneChange
one_change m page changed also kept and (gains brings absent room none is) (gains brings_too absent_too room_too none_too is_too) = (is ∙ sym is_too, none ∙ sym none_too)
one_change m page changed also kept and (loses key pointer job op there was is) (loses key_too pointer_too job_too op_too there_too was_too is_too) =
    let same : key ≡ key_too = sym (removes-key m.op key pointer op) ∙ removes-key m.op key_too pointer_too op_too in
    (cc, cc)
one_change m page changed also kept and (swaps key new pointer job op there was is) (swaps key_too new_too pointer_too job_too op_too there_too was_too is_too) =
    let same : key ≡ key_too = sym (swaps-key m.op key new pointer op) ∙ swaps-key m.op key_too new_too pointer_too op_too in
    let same_new : new ≡ new_too = sym (swaps-pointer m.op key new pointer op) ∙ swaps-pointer m.op key_too new_too pointer_too op_too in
    (cc, cc)
one_change m page changed also kept and (loses key pointer job op there was is) (swaps key_too new_too pointer_too job_too op_too there_too was_too is_too) = absurd (removes_no_swap m.op key pointer key_too new_too pointer_too op op_too)
one_change m page changed also kept and (swaps key new pointer job op there was is) (loses key_too pointer_too job_too op_too there_too was_too is_too) = absurd (removes_no_swap m.op key_too pointer_too key new pointer op_too op)
one_change m page changed also kept and (gains brings absent room none is) (swaps key new pointer job op there was is_too) = absurd (swaps_bring_nothing m.op key new pointer op (rw job at brings))
one_change m page changed also kept and (swaps key new pointer job op there was is) (gains brings absent room none is_too) = absurd (swaps_bring_nothing m.op key new pointer op (rw job at brings))
one_change m page changed also kept and (gains brings absent room none is) (loses key pointer job op there was is_too) = absurd (removes_bring_nothing m.op key pointer op (rw job at brings))
one_change m page changed also kept and (loses key pointer job op there was is) (gains brings absent room none is_too) = absurd (removes_bring_nothing m.op key pointer op (rw job at brings))

-- ---- a page under its latch

-- the rows of the table
data Row : Type 0 where
  above : Row
  finds_key : Row
  finds_none : Row
  finds_other : Row
  finds_separator : Row
  changes : Row
  splits : Row

-- the row of a page that has the key's place, by what the page maps the key to and whether it has room
abbrev row_here : Job → Op → Option ℕ → Bool → Row
row_here Leaf (Find key) kept room = splits
row_here Leaf (Insert key pointer) (Some kept) room = finds_key
row_here Leaf (Insert key pointer) None room = cond room changes splits
row_here Leaf (Exchange key expected pointer) (Some kept) room = cond (eqb kept expected) changes finds_other
row_here Leaf (Exchange key expected pointer) None room = finds_other
row_here Leaf (DeleteExact key expected) (Some kept) room = cond (eqb kept expected) changes finds_other
row_here Leaf (DeleteExact key expected) None room = finds_other
row_here Leaf op (Some kept) room = changes
row_here Leaf op None room = finds_none
row_here (Parent debt) op (Some kept) room = finds_separator
row_here (Parent debt) op None room = cond room changes splits

-- and of any
abbrev row_of : PlainMachine → PlainPage → Row
row_of m page = cond (ltb page.high (target m)) above (row_here m.job m.op (value_at (target m) page.entries) (ltb (length page.entries) m.fan))

-- a page that has the key's place is no other row's than one of these
row_below : (m : PlainMachine) (page : PlainPage) → target m ≤ page.high
    → row_of m page ≡ row_here m.job m.op (value_at (target m) page.entries) (ltb (length page.entries) m.fan)
row_below m page below =
    ap (λ (right : Bool). cond right above (row_here m.job m.op (value_at (target m) page.entries) (ltb (length page.entries) m.fan))) (le-ltb page.high (target m) below)

-- an operation that brings an entry changes the page, where that has room
row_gains : (job : Job) (op : Op) → Brings op job → row_here job op None true ≡ changes
row_gains Leaf (Insert key pointer) brings = refl
row_gains (Parent debt) op brings = refl
row_gains Leaf op brings = absurd brings

-- and splits it, where it is full
row_splits : (job : Job) (op : Op) → Brings op job → row_here job op None false ≡ splits
row_splits Leaf (Insert key pointer) brings = refl
row_splits (Parent debt) op brings = refl
row_splits Leaf op brings = absurd brings

-- the row of a change
row_of_change : (m : PlainMachine) (page changed : PlainPage) (kept : Option ℕ) → IsChange m page changed kept
    → row_here m.job m.op (value_at (target m) page.entries) (ltb (length page.entries) m.fan) ≡ changes
row_of_change m page changed kept (gains brings absent room none is) =
    ap (λ (found : Option ℕ). row_here m.job m.op found (ltb (length page.entries) m.fan)) absent
    ∙ ap (row_here m.job m.op None) (lt-ltb (length page.entries) m.fan room)
    ∙ row_gains m.job m.op brings
row_of_change m page changed kept (loses key pointer job (inl op) there was is) = rw (job, op, there) refl
row_of_change m page changed kept (loses key pointer job (inr op) there was is) = rw (job, op, there, eq-eqb pointer pointer refl) refl
row_of_change m page changed kept (swaps key new pointer job (inl op) there was is) = rw (job, op, there) refl
row_of_change m page changed kept (swaps key new pointer job (inr op) there was is) = rw (job, op, there, eq-eqb pointer pointer refl) refl

-- the row of an operation that doesn't find the pointer that it expects
row_of_refusal : (op : Op) (key expected : ℕ) (kept : Option ℕ) (room : Bool) → Expects op key expected → (kept ≡ Some expected → ⊥) → row_here Leaf op kept room ≡ finds_other
row_of_refusal op key expected (Some kept) room (inl is) differs = rw is.1 (ap (λ (same : Bool). cond same changes finds_other) (ne_eqb kept expected (λ same. differs (ap Some same))))
row_of_refusal op key expected (Some kept) room (inr is) differs = rw is (ap (λ (same : Bool). cond same changes finds_other) (ne_eqb kept expected (λ same. differs (ap Some same))))
row_of_refusal op key expected None room (inl is) differs = rw is.1 refl
row_of_refusal op key expected None room (inr is) differs = rw is refl

-- the row that a case of the table is
abbrev row_at : (m : PlainMachine) (number : ℕ) (page : PlainPage) (after : PlainMachine) → SeesUnderLatch m number page after → Row
row_at m number page after (is_above_high_key next high right is) = above
row_at m number page after (insertion_finds_key key pointer kept below job op there is) = finds_key
row_at m number page after (deletion_finds_none key below job op none is) = finds_none
row_at m number page after (replacement_finds_none key pointer below job op none is) = finds_none
row_at m number page after (finds_other_pointer key expected below job op differs is) = finds_other
row_at m number page after (posting_finds_separator debt child below job there is) = finds_separator
row_at m number page after (is_to_change changed kept below change is) = changes
row_at m number page after (is_to_split below full is) = splits

-- it is the page's
row_is : (m : PlainMachine) (number : ℕ) (page : PlainPage) (after : PlainMachine) (sees : SeesUnderLatch m number page after) → row_of m page ≡ row_at m number page after sees
row_is m number page after (is_above_high_key next high right is) =
    ap (λ (right : Bool). cond right above (row_here m.job m.op (value_at (target m) page.entries) (ltb (length page.entries) m.fan))) (lt-ltb page.high (target m) high)
row_is m number page after (insertion_finds_key key pointer kept below job op there is) = row_below m page below ∙ rw (job, op, there) refl
row_is m number page after (deletion_finds_none key below job op none is) = row_below m page below ∙ rw (job, op, none) refl
row_is m number page after (replacement_finds_none key pointer below job op none is) = row_below m page below ∙ rw (job, op, none) refl
row_is m number page after (finds_other_pointer key expected below job op differs is) =
    row_below m page below
    ∙ rw (job, expects-key m.op key expected op) (row_of_refusal m.op key expected (value_at key page.entries) (ltb (length page.entries) m.fan) op differs)
row_is m number page after (posting_finds_separator debt child below job there is) = row_below m page below ∙ rw (job, there) refl
row_is m number page after (is_to_change changed kept below change is) = row_below m page below ∙ row_of_change m page changed kept change
row_is m number page after (is_to_split below full is) =
    row_below m page below
    ∙ ap (λ (found : Option ℕ). row_here m.job m.op found (ltb (length page.entries) m.fan)) full.absent
    ∙ ap (row_here m.job m.op None) (le-ltb (length page.entries) m.fan (let is_full = full.full in omega arith))
    ∙ row_splits m.job m.op full.brings

-- two cases of one row give one result
one_of_row : (m : PlainMachine) (number : ℕ) (page : PlainPage) (after other : PlainMachine) (sees : SeesUnderLatch m number page after) (also : SeesUnderLatch m number page other)
    → row_at m number page after sees ≡ row_at m number page other also → after ≡ other
one_of_row m number page after other (is_above_high_key next high right is) (is_above_high_key next_too high_too right_too is_too) same = cc
one_of_row m number page after other (insertion_finds_key key pointer kept below job op there is) (insertion_finds_key key_too pointer_too kept_too below_too job_too op_too there_too is_too) same =
    let same_key : key ≡ key_too = cc in
    cc
one_of_row m number page after other (deletion_finds_none key below job op none is) (deletion_finds_none key_too below_too job_too op_too none_too is_too) same = is ∙ sym is_too
one_of_row m number page after other (replacement_finds_none key pointer below job op none is) (replacement_finds_none key_too pointer_too below_too job_too op_too none_too is_too) same = is ∙ sym is_too
one_of_row m number page after other (deletion_finds_none key below job op none is) (replacement_finds_none key_too pointer_too below_too job_too op_too none_too is_too) same = is ∙ sym is_too
one_of_row m number page after other (replacement_finds_none key pointer below job op none is) (deletion_finds_none key_too below_too job_too op_too none_too is_too) same = is ∙ sym is_too
one_of_row m number page after other (finds_other_pointer key expected below job op differs is) (finds_other_pointer key_too expected_too below_too job_too op_too differs_too is_too) same =
    let same_key : key ≡ key_too = sym (expects-key m.op key expected op) ∙ expects-key m.op key_too expected_too op_too in
    is ∙ ap (λ (at : ℕ). answered m (Leave number Finish) (answer_at m.op (value_at at page.entries))) same_key ∙ sym is_too
one_of_row m number page after other (posting_finds_separator debt child below job there is) (posting_finds_separator debt_too child_too below_too job_too there_too is_too) same = is ∙ sym is_too
one_of_row m number page after other (is_to_change changed kept below change is) (is_to_change changed_too kept_too below_too change_too is_too) same =
    let both = one_change m page changed changed_too kept kept_too change change_too in
    is ∙ ap (λ (to : PlainPage). at_state m (Change number to kept)) both.0 ∙ ap (λ (was : Option ℕ). at_state m (Change number changed_too was)) both.1 ∙ sym is_too
one_of_row m number page after other (is_to_split below full is) (is_to_split below_too full_too is_too) same = is ∙ sym is_too
one_of_row m number page after other sees also same = absurd cc

-- ---- a page

-- an operation makes one thing of a page
pub one_result_of_page : OneResultOfPage
one_result_of_page m after other number page (on_its_way sees) (on_its_way also) = one_on_its_way m number page after other sees also
one_result_of_page m after other number page (under_latch held sees) (under_latch held_too also) =
    one_of_row m number page after other sees also (sym (row_is m number page after sees) ∙ row_is m number page other also)
one_result_of_page m after other number page (on_its_way sees) (under_latch held also) = let going = (is_made m number page after sees).at in absurd cc
one_result_of_page m after other number page (under_latch held sees) (on_its_way also) = let going = (is_made m number page other also).at in absurd cc
