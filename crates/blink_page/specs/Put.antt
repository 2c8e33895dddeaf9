-- Facts for one result of a `put`.
use Rattle.std.specs.Prelude.{ℕ}
use Rattle.blink_page.specs.declared.put.Put.{Put}
use Rattle.blink_page.specs.declared.put.Put.TheVariants.{Done, Present, Full}

-- the fact, if the entry was added
abbrev pub OnDone : Put → Type 0 → Type 0
OnDone Done fact = fact
OnDone (Present _) fact = Unit {0}
OnDone Full fact = Unit {0}

-- the fact, if the entry wasn't added
abbrev pub UnlessDone : Put → Type 0 → Type 0
UnlessDone Done fact = Unit {0}
UnlessDone (Present _) fact = fact
UnlessDone Full fact = fact

-- the fact of the value that was found, if the key was present
abbrev pub IfPresent : Put → (ℕ → Type 0) → Type 0
IfPresent Done fact = Unit {0}
IfPresent (Present value) fact = fact value
IfPresent Full fact = Unit {0}

-- the fact, if the key was absent
abbrev pub UnlessPresent : Put → Type 0 → Type 0
UnlessPresent Done fact = fact
UnlessPresent (Present _) fact = Unit {0}
UnlessPresent Full fact = fact

-- the fact, if the page was full
abbrev pub OnFull : Put → Type 0 → Type 0
OnFull Done fact = Unit {0}
OnFull (Present _) fact = Unit {0}
OnFull Full fact = fact
