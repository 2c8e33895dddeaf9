-- A leaf's log: the records that stand in its row behind the base, what they make of the base's entries, and the words of both.
use Rattle.std.specs.Prelude.{◌≡◌, ℕ, ◌+◌, ◌*◌, ◌<◌, ◌≤◌, Option, Some, None, IsSome, List, [], ◌∷◌, ◌++◌, length, slice_index}
use Rattle.blink_page.specs.declared.limits.TheConstants.{GREATEST_KEY, MAX_FAN}
use Rattle.blink_page.specs.{IsKeyOf, IsLawfulPage, PlainPage, added, removed, replaced, value_at, with_entries}
use Rattle.blink_rows.specs.declared.limits.TheConstants.{MAX_RECORDS, ROW_WORDS}
use Rattle.blink_rows.specs.declared.log.Kind.{Kind}
use Rattle.blink_rows.specs.declared.log.Kind.TheVariants.{Replaced, Added, Removed}
use Rattle.blink_rows.specs.declared.log.Record.{Record}
use Rattle.blink_rows.specs.declared.naming.Records.{Records}
use Rattle.blink_rows.specs.Row.{page_words}

-- ---- what records mean

-- the entries after a change of this kind: the plain list's operation
abbrev pub changed : Kind → ℕ → ℕ → List (ℕ × ℕ) → List (ℕ × ℕ)
changed Replaced key pointer entries = replaced (key, pointer) entries
changed Added key pointer entries = added (key, pointer) entries
changed Removed key pointer entries = removed key entries

-- the entries after a record
abbrev pub applied : List (ℕ × ℕ) → Record → List (ℕ × ℕ)
applied entries r = changed r.kind r.key r.pointer entries

-- the entries of a base after the records behind it, the oldest first
abbrev pub content : List (ℕ × ℕ) → List Record → List (ℕ × ℕ)
content base [] = base
content base (r ∷ rest) = content (applied base r) rest

-- the page after a record
abbrev pub page_after : PlainPage → Record → PlainPage
page_after page r = with_entries page (applied page.entries r)

-- the page that a base and the records behind it mean
abbrev pub page_with : PlainPage → List Record → PlainPage
page_with base records = with_entries base (content base.entries records)

-- the pointer that a key has after a change of this kind
abbrev pub pointer_by : Kind → ℕ → Option ℕ
pointer_by Replaced pointer = Some pointer
pointer_by Added pointer = Some pointer
pointer_by Removed pointer = None

-- the pointer that a record's key has after it
abbrev pub pointer_after : Record → Option ℕ
pointer_after r = pointer_by r.kind r.pointer

-- ---- which records a page may have behind it

-- what a change of this kind finds: to add, an absent key of the page, and room for it; to replace or to remove, a key that is there
abbrev pub Finds : ℕ → PlainPage → ℕ → Kind → Type 0
Finds fan page key Added = IsKeyOf page key × (value_at key page.entries ≡ None) × (length page.entries < fan)
Finds fan page key Replaced = IsSome (value_at key page.entries)
Finds fan page key Removed = IsSome (value_at key page.entries)

-- the record may change the page: that is a leaf, and stays lawful
pub record Fits (fan : ℕ) (page : PlainPage) (r : Record) : Type 0 where
  pub leaf : page.level ≡ 0
  pub pointer_in_range : r.pointer ≤ GREATEST_KEY
  pub finds : Finds fan page r.key r.kind

-- each record fits the page that those before it leave
abbrev pub AllFit : ℕ → PlainPage → List Record → Type 0
AllFit fan page [] = Unit {0}
AllFit fan page (r ∷ rest) = Fits fan page r × AllFit fan (page_after page r) rest

-- ---- words

-- the words of a record: its key, and its pointer, which says nothing if the key was removed
abbrev pub record_words : Record → List ℕ
record_words r = r.key ∷ r.pointer ∷ []

-- those of some records, the oldest first
abbrev pub log_words : List Record → List ℕ
log_words [] = []
log_words (r ∷ rest) = r.key ∷ r.pointer ∷ log_words rest

-- the words with which a row begins: those of the base, and at once behind its last entry the records'
abbrev pub row_words : PlainPage → List Record → List ℕ
row_words base records = page_words base ++ log_words records

-- the words begin with these
abbrev pub BeginsWith : List ℕ → List ℕ → Type 0
BeginsWith words content = (n : ℕ) → n < length content → slice_index words n ≡ slice_index content n

-- ---- what a page word says of records

abbrev pub kind_number : Kind → ℕ
kind_number Replaced = 0
kind_number Added = 1
kind_number Removed = 2

-- the kinds of some records behind others with these kinds: two bits each, those of the last record lowest
abbrev pub kinds_behind : ℕ → List Record → ℕ
kinds_behind before [] = before
kinds_behind before (r ∷ rest) = kinds_behind (4 * before + kind_number r.kind) rest

-- how many records there are, and their kinds
abbrev pub counted : List Record → Records
counted records = record { count = length records; kinds = kinds_behind 0 records }

-- ---- rows

-- a base and the records behind it, as a row has room for them
pub record IsLogged (fan : ℕ) (base : PlainPage) (records : List Record) : Type 0 where
  pub lawful : IsLawfulPage fan base
  pub all_fit : AllFit fan base records
  pub few : length records ≤ MAX_RECORDS
  pub room : length (row_words base records) ≤ ROW_WORDS

-- the row with these words, and this said of its records in its page word, has this base and these records
pub record IsLoggedRow (base : PlainPage) (records : List Record) (words : List ℕ) (told : Records) : Type 0 where
  pub logged : IsLogged MAX_FAN base records
  pub begins : BeginsWith words (row_words base records)
  pub counts : counted records ≡ told
