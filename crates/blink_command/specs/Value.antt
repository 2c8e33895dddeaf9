-- The meaning of the values of options.
use Rattle.std.specs.Prelude.{◌≡◌, ◌-◌, ◌==◌, ◌&&◌, ℕ, List, [], ◌∷◌, Option, Some, None, codes, map, nat_le, if◌then◌else◌, option_and_then}
use Rattle.std.specs.List.{slice_split}
use Rattle.std.specs.Str.{bytes_eq}
use Rattle.clap.specs.Words.{Text}
use Rattle.blink_batch.specs.{number_of}
use Rattle.blink_batch.specs.declared.cut.TheConstants.{WORKER_LIMIT}
use Rattle.blink_page.specs.declared.limits.TheConstants.{MIN_FAN, MAX_FAN}
use Rattle.blink_settings.specs.declared.settings.Driver.{Driver}
use Rattle.blink_settings.specs.declared.settings.Driver.TheVariants.{Locked, Live}
use Rattle.blink_settings.specs.declared.settings.CutKind.{CutKind}
use Rattle.blink_settings.specs.declared.settings.CutKind.TheVariants.{Residue, Ranges}

-- the number, if it lies between the limits
abbrev pub between : ℕ → ℕ → ℕ → Option ℕ
between least most number = if nat_le least number && nat_le number most then Some number else None

-- the number between the limits that a text spells
abbrev pub number_between : ℕ → ℕ → Text → Option ℕ
number_between least most text = option_and_then (between least most) (number_of text)

-- the number of workers that a text spells, if a run may have that many
abbrev pub workers_of : Text → Option ℕ
workers_of = number_between 1 WORKER_LIMIT

-- the greatest number of entries that a text spells, if a page may have that many
abbrev pub fan_of : Text → Option ℕ
fan_of = number_between MIN_FAN MAX_FAN

-- the number of a worker, from 0
abbrev pub worker_of : Text → Option ℕ
worker_of = number_between 0 (WORKER_LIMIT - 1)

-- the cut of this name
abbrev pub cut_of : Text → Option CutKind
cut_of text = if bytes_eq text (codes "residue") then Some Residue else if bytes_eq text (codes "ranges") then Some Ranges else None

-- the driver of this name
abbrev pub driver_of : Text → Option Driver
driver_of text = if bytes_eq text (codes "locked") then Some Locked else if bytes_eq text (codes "live") then Some Live else None

-- the texts between the commas
abbrev pub parts_of : Text → List Text
parts_of = slice_split (λ byte. byte == 44)

-- the empty text spells the empty schedule, and any other text spells a worker between each two commas
abbrev pub IsSchedule : Text → List ℕ → Type 0
IsSchedule [] schedule = schedule ≡ []
IsSchedule (byte ∷ rest) schedule = map worker_of (parts_of (byte ∷ rest)) ≡ map Some schedule
