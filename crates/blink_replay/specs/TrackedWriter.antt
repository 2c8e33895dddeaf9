-- The calls of a writer: a text is written piece by piece, and the first call that fails is the last.
use Rattle.std.specs.Prelude.{ℕ, ◌≡◌, ◌<◌, Bool, true, false, List, [], ◌++◌, Option, Some, None, length, take}
use Rattle.std.specs.Io.KnownBytes.{Appends, Keeps}
use Rattle.blink_settings.specs.declared.error.ServeError.{ServeError}
use Rattle.blink_settings.specs.declared.error.ServeError.TheVariants as serve

-- bytes are offered to a writer: if its bytes are known, they grow by those that it takes, and stay as they are if it fails
abbrev pub TakesOffered : {W : Type 0} → (W → Option (List ℕ)) → W → List ℕ → Option ℕ → W → Type 0
TakesOffered contents before bytes None after = Keeps (contents before) (contents after)
TakesOffered contents before bytes (Some taken) after = Appends (contents before) (contents after) (take taken bytes)

-- a flush leaves the writer's bytes as they are
abbrev pub KeepsFlushed : {W : Type 0} → (W → Option (List ℕ)) → W → Bool → W → Type 0
KeepsFlushed contents before done after = Keeps (contents before) (contents after)

-- calls took this text, one after another: each took at least one byte of what it was offered, and none failed
pub data WritesAll {O : Type 0} (offered : O → List ℕ → Option ℕ → O → Type 0) (before : O) : List ℕ → O → Type 0 where
  nothing : WritesAll offered before [] before
  more : (text bytes longer : List ℕ) (taken : ℕ) (between after : O) → WritesAll offered before text between → offered between bytes (Some taken) after → 0 < taken
      → longer ≡ text ++ take taken bytes → WritesAll offered before longer after

-- a call fails: an offer of bytes is refused, or none of them is taken; or a flush fails
pub data Fails {O : Type 0} (offered : O → List ℕ → Option ℕ → O → Type 0) (settled : O → Bool → O → Type 0) (before after : O) : Type 0 where
  refuses : (bytes : List ℕ) → offered before bytes None after → Fails offered settled before after
  takes_nothing : (bytes : List ℕ) → 0 < length bytes → offered before bytes (Some 0) after → Fails offered settled before after
  is_not_flushed : settled before false after → Fails offered settled before after

-- a prefix of a text was written when a call fails, which is the last
pub record WritesPrefix {O : Type 0} (offered : O → List ℕ → Option ℕ → O → Type 0) (settled : O → Bool → O → Type 0) (before : O) (text : List ℕ) (after : O) : Type 0 where
  pub prefix : List ℕ
  pub rest : List ℕ
  pub in_order : text ≡ prefix ++ rest
  pub between : O
  pub all_written : WritesAll offered before prefix between
  pub failed : Fails offered settled between after

-- the error is that of the output, and a prefix of the text was written
abbrev pub OutputFails : {O : Type 0} → (O → List ℕ → Option ℕ → O → Type 0) → (O → Bool → O → Type 0) → O → List ℕ → ServeError → O → Type 0
OutputFails offered settled before text error after = (error ≡ serve.Output) × WritesPrefix offered settled before text after

-- what a replay writes: its trace, the text of its parts, and its pages
abbrev pub replay_text : List ℕ → List ℕ → List ℕ → List ℕ
replay_text trace text pages = trace ++ (text ++ pages)

-- the whole text is written, and flushed
pub record Writes {O : Type 0} (offered : O → List ℕ → Option ℕ → O → Type 0) (settled : O → Bool → O → Type 0) (before : O) (text : List ℕ) (after : O) : Type 0 where
  pub between : O
  pub all_written : WritesAll offered before text between
  pub flushed : settled between true after
