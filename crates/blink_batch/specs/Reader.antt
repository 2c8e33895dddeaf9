-- What the reader of a script is set up for, and what its bytes come to.
use Rattle.std.specs.Prelude.{ℕ, ◌≡◌, List, Option, Ok, true, option_map}
use Rattle.csv.specs.Reading.{Ready, default_config, source_of, strip_bom}
use Rattle.csv.specs.declared.parser.State.TheVariants as st
use Rattle.csv.specs.declared.reader.Reader.{Reader}
use Rattle.csv.specs.declared.reader.Trim.TheVariants as trim
use Rattle.blink_batch.specs.declared.error.ScriptError.{ScriptError}
use Rattle.blink_batch.specs.declared.script.Part.{Part}
use Rattle.blink_batch.specs.Script.{ReadsAs, TellsRefusal}

-- the reader reads records by csv's defaults, of any length, and the next read is of one record
pub record IsSetUp {R : Type 0} (reader : Reader R) : Type 0 where
  pub no_trim : reader.trim ≡ trim.None
  pub ready : Ready reader
  pub config : reader.config ≡ default_config
  pub flexible : reader.flexible ≡ true

-- it is so set up, and has read nothing
pub record Begins {R : Type 0} (reader : Reader R) : Type 0 where
  pub set_up : IsSetUp reader
  pub state : reader.state ≡ st.StartRecord

-- the reader is to read this, if it is known, but for a byte order mark at its start
abbrev pub IsToRead : {R : Type 0} → (R → Option (List ℕ)) → Reader R → Option (List ℕ) → Type 0
IsToRead rem reader to_read = source_of rem reader ≡ option_map strip_bom to_read

-- what it is to read comes to these parts
abbrev pub ComesTo : {R : Type 0} → (R → Option (List ℕ)) → Reader R → List Part → Type 0
ComesTo rem reader parts = (to_read : Option (List ℕ)) → IsToRead rem reader to_read → ReadsAs to_read (Ok parts)

-- or to this refusal
abbrev pub IsRefusedFor : {R : Type 0} → (R → Option (List ℕ)) → Reader R → ScriptError → Type 0
IsRefusedFor rem reader error = (to_read : Option (List ℕ)) → IsToRead rem reader to_read → TellsRefusal to_read error
