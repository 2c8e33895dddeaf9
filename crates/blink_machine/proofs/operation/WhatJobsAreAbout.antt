-- What an operation's job is about, and the change that it makes to a page.
use Rattle.std.proofs.Common.{◌≡◌, ℕ, ◌<◌, Option, Some, None, IsSome, length, refl, ap, sym, ◌∙◌}
use Rattle.blink_operation.specs.declared.Op.{Op}
use Rattle.blink_operation.specs.declared.Op.TheVariants.{Insert}
use Rattle.blink_operation.specs.{key_of}
use Rattle.blink_page.specs.{value_at, added, posted, PlainPage, with_entries, entries_with}
use Rattle.blink_page.proofs.Offered.{entries_with-leaf, entries_with-inner}
use Rattle.blink_machine.specs.declared.machine.Debt.{Debt}
use Rattle.blink_machine.specs.declared.machine.Job.{Job}
use Rattle.blink_machine.specs.declared.machine.Job.TheVariants.{Leaf, Parent}
use Rattle.blink_machine.specs.Machine.{PlainMachine, key_of_job, value_of_job, target, entry_of}
use Rattle.blink_machine.specs.Table.{Brings, IsChange, gains}

-- on a leaf an operation is about its own key
pub target-leaf : (m : PlainMachine) (op : Op) → m.job ≡ Leaf → m.op ≡ op → target m ≡ key_of op
target-leaf m op job own = ap (key_of_job m.op) job ∙ ap key_of own

-- a posting is about its debt's separator
pub target-parent : (m : PlainMachine) (debt : Debt) → m.job ≡ Parent debt → target m ≡ debt.separator
target-parent m debt job = ap (key_of_job m.op) job

-- a posting brings its entry
pub brings_parent : (op : Op) (debt : Debt) → Brings op (Parent debt)
brings_parent op debt = tt

-- the value that is there
pub some_value : (o : Option ℕ) → IsSome o → (value : ℕ) × (o ≡ Some value)
some_value None there = absurd (cc)
some_value (Some value) there = (value, refl)

module _ (m : PlainMachine) (page changed : PlainPage) (room : length page.entries < m.fan) where
  -- an insertion's change of a leaf that has room
  pub insertion_changes : (key pointer : ℕ) → m.job ≡ Leaf → m.op ≡ Insert key pointer → page.level ≡ 0 → value_at key page.entries ≡ None
      → changed ≡ with_entries page (added (key, pointer) page.entries) → IsChange m page changed None
  insertion_changes key pointer job op leaf absent made =
      let own : target m ≡ key = target-leaf m (Insert key pointer) job op in
      let entry : entry_of m ≡ (key, pointer) = rw (job, op) in
      gains (rw (op, job) tt) (rw own absent) room refl
      (made ∙ ap (with_entries page) (sym (ap (entries_with page) entry ∙ entries_with-leaf page (key, pointer) leaf)))

  -- a posting's change of a page that has room
  pub posting_changes : (debt : Debt) → m.job ≡ Parent debt → 0 < page.level → value_at debt.separator page.entries ≡ None
      → changed ≡ with_entries page (posted (debt.separator, debt.page) page.entries) → IsChange m page changed None
  posting_changes debt job inner absent made =
      let own : target m ≡ debt.separator = target-parent m debt job in
      let entry : entry_of m ≡ (debt.separator, debt.page) = ap (λ (j : Job). (key_of_job m.op j, value_of_job m.op j)) job in
      gains (rw job (brings_parent m.op debt)) (rw own absent) room refl
      (made ∙ ap (with_entries page) (sym (ap (entries_with page) entry ∙ entries_with-inner page (debt.separator, debt.page) inner)))
