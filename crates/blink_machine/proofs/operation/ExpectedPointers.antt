-- What an exchange and a deletion of an expected pointer have in common: where another pointer stands, or none, they change nothing.
use Rattle.std.proofs.Common.{◌≡◌, ℕ, ◌≤◌, Option, Some, None, List, inl, inr, refl, ap, sym, ◌∙◌}
use Rattle.std.proofs.lemmas.Bool.{ne_eqb}
use Rattle.blink_operation.specs.declared.Answer.TheVariants.{Absent, Exists}
use Rattle.blink_operation.specs.declared.Entry.{Entry}
use Rattle.blink_operation.specs.declared.Op.{Op}
use Rattle.blink_operation.specs.{answer_at, key_of, map_at}
use Rattle.blink_page.specs.{value_at, PlainPage}
use Rattle.blink_machine.specs.declared.machine.Job.TheVariants.{Leaf}
use Rattle.blink_machine.specs.declared.machine.Next.TheVariants.{Finish}
use Rattle.blink_machine.specs.declared.machine.State.TheVariants.{Leave}
use Rattle.blink_machine.specs.Machine.{PlainMachine, answered, target}
use Rattle.blink_machine.specs.Table.{Expects, SeesUnderLatch, finds_other_pointer}

-- the key is the operation's
pub expects-key : (op : Op) (key expected : ℕ) → Expects op key expected → key_of op ≡ key
expects-key op key expected (inl is) = ap key_of is.1
expects-key op key expected (inr is) = ap key_of is

-- another pointer is answered
pub answer_at-other : (op : Op) (key expected kept : ℕ) → Expects op key expected → (kept ≡ expected → ⊥) → answer_at op (Some kept) ≡ Exists kept
answer_at-other op key expected kept (inl is) differs = ap (λ o. answer_at o (Some kept)) is.1 ∙ rw (ne_eqb kept expected differs) refl
answer_at-other op key expected kept (inr is) differs = ap (λ o. answer_at o (Some kept)) is ∙ rw (ne_eqb kept expected differs) refl

-- and so is that there is none
pub answer_at-none : (op : Op) (key expected : ℕ) → Expects op key expected → answer_at op None ≡ Absent
answer_at-none op key expected (inl is) = ap (λ o. answer_at o None) is.1
answer_at-none op key expected (inr is) = ap (λ o. answer_at o None) is

-- the map stays
pub refused_unchanged : (op : Op) (key expected : ℕ) (map : List Entry) (found : Option ℕ) → Expects op key expected → (found ≡ Some expected → ⊥) → map_at op found map ≡ map
refused_unchanged op key expected map (Some found) (inl is) differs = ap (λ o. map_at o (Some found) map) is.1 ∙ rw (ne_eqb found expected (λ same. differs (ap Some same))) refl
refused_unchanged op key expected map (Some found) (inr is) differs = ap (λ o. map_at o (Some found) map) is ∙ rw (ne_eqb found expected (λ same. differs (ap Some same))) refl
refused_unchanged op key expected map None (inl is) differs = ap (λ o. map_at o None map) is.1
refused_unchanged op key expected map None (inr is) differs = ap (λ o. map_at o None map) is

-- the row of the table, by what the leaf has for the key
module _ (m : PlainMachine) (number : ℕ) (page : PlainPage) (after : PlainMachine) (key expected : ℕ) (below : target m ≤ page.high) (job : m.job ≡ Leaf) (op : Expects m.op key expected) where
  pub sees_other : (kept : ℕ) → value_at key page.entries ≡ Some kept → (kept ≡ expected → ⊥) → after ≡ answered m (Leave number Finish) (Exists kept) → SeesUnderLatch m number page after
  sees_other kept there differs is =
      finds_other_pointer key expected below job op (λ finds. differs (cc))
      (is ∙ ap (answered m (Leave number Finish)) (sym (ap (answer_at m.op) there ∙ answer_at-other m.op key expected kept op differs)))

  pub sees_none : value_at key page.entries ≡ None → after ≡ answered m (Leave number Finish) Absent → SeesUnderLatch m number page after
  sees_none absent is =
      finds_other_pointer key expected below job op (λ finds. cc)
      (is ∙ ap (answered m (Leave number Finish)) (sym (ap (answer_at m.op) absent ∙ answer_at-none m.op key expected op)))
