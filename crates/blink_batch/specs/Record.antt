-- The meaning of one record of a script: an operation, a scan or a page, or a refusal.
use Rattle.std.specs.Prelude.{ℕ, List, [], ◌∷◌, Option, Some, None, Result, Ok, Err, if◌then◌else◌, codes}
use Rattle.std.specs.Str.{bytes_eq}
use Rattle.blink_operation.specs.declared.operation.Op.{Op}
use Rattle.blink_operation.specs.declared.operation.Op.TheVariants.{Find, Insert, Delete, Replace}
use Rattle.blink_batch.specs.declared.error.RecordError.{RecordError}
use Rattle.blink_batch.specs.declared.error.RecordError.TheVariants.{BadShape, UnknownOperation, BadNumber}
use Rattle.blink_batch.specs.declared.record.Request.{Request}
use Rattle.blink_batch.specs.declared.record.Request.TheVariants.{Operation, Scan, Page}
use Rattle.blink_batch.specs.Number.{number_of}

-- the key of an operation that has no other number: the third field is empty, and the second is a number
abbrev pub key_alone : List ℕ → Option ℕ → Result ℕ RecordError
key_alone (byte ∷ rest) key = Err BadShape
key_alone [] (Some key) = Ok key
key_alone [] None = Err BadNumber

-- the operation on that key
abbrev pub on_key_alone : (ℕ → Op) → Result ℕ RecordError → Result Request RecordError
on_key_alone operation (Ok key) = Ok (Operation (operation key))
on_key_alone operation (Err error) = Err error

-- two numbers, the second field's and the third's
abbrev pub two_numbers : Option ℕ → Option ℕ → Result (ℕ × ℕ) RecordError
two_numbers (Some one) (Some other) = Ok (one, other)
two_numbers (Some one) None = Err BadNumber
two_numbers None other = Err BadNumber

-- the operation on a key with a pointer
abbrev pub on_key_with_pointer : (ℕ → ℕ → Op) → Result (ℕ × ℕ) RecordError → Result Request RecordError
on_key_with_pointer operation (Ok numbers) = Ok (Operation (operation numbers.0 numbers.1))
on_key_with_pointer operation (Err error) = Err error

-- the scan from the one bound to the other
abbrev pub scan_of : Result (ℕ × ℕ) RecordError → Result Request RecordError
scan_of (Ok numbers) = Ok (Scan numbers.0 numbers.1)
scan_of (Err error) = Err error

-- the page from the one number on, with as many entries as the other number says
abbrev pub page_of : Result (ℕ × ℕ) RecordError → Result Request RecordError
page_of (Ok numbers) = Ok (Page numbers.0 numbers.1)
page_of (Err error) = Err error

-- the request of a word and its two fields
abbrev pub named : List ℕ → List ℕ → List ℕ → Result Request RecordError
named word second third =
    if bytes_eq word (codes "insert") then on_key_with_pointer Insert (two_numbers (number_of second) (number_of third))
    else if bytes_eq word (codes "find") then on_key_alone Find (key_alone third (number_of second))
    else if bytes_eq word (codes "delete") then on_key_alone Delete (key_alone third (number_of second))
    else if bytes_eq word (codes "replace") then on_key_with_pointer Replace (two_numbers (number_of second) (number_of third))
    else if bytes_eq word (codes "scan") then scan_of (two_numbers (number_of second) (number_of third))
    else if bytes_eq word (codes "page") then page_of (two_numbers (number_of second) (number_of third))
    else Err UnknownOperation

-- the request of a record, which has three fields
abbrev pub request_of : List (List ℕ) → Result Request RecordError
request_of [] = Err BadShape
request_of (word ∷ []) = Err BadShape
request_of (word ∷ second ∷ []) = Err BadShape
request_of (word ∷ second ∷ third ∷ []) = named word second third
request_of (word ∷ second ∷ third ∷ fourth ∷ rest) = Err BadShape
