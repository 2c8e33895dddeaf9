-- What `parse` reads of a numeral.
use Rattle.std.proofs.Common.{◌≡◌, ◌<◌, ◌^◌, ℕ, zero, suc, List, [], ◌∷◌, length, true, false, Result, Ok, Err, None, refl, arith, rules, inl, inr}
use Rattle.std.specs.Char.{is_ascii_digit}
use Rattle.std.specs.List.{list_all, slice_index}
use Rattle.std.specs.Result.{result_ok}
use Rattle.std.specs.Str.{IsUtf8}
use Rattle.std.specs.Str.Parse.{ParsesUnsigned, digits_value}
use Rattle.std.proofs.lemmas.Str.{IsUtf8-from_ascii}
use Rattle.std.proofs.lemmas.Str.Parse.{IsNumeralModel, numerals_by_value, parse_digits}
use mathlib.Core.Bool.{false≢true}
use Rattle.std.proofs.lemmas.Bool.{cases_lt, lt-ltb, le-ltb}
use Rattle.std.proofs.lemmas.Bool.Decides.{nat_tests}
use Rattle.blink_batch.specs.Number.{is_numeral, number_of}

-- the texts of digits, and the number that each writes
digits : IsNumeralModel (λ text. list_all is_ascii_digit text ≡ true) (digits_value 10)
digits = numerals_by_value _ (search rules)

-- the first is a digit, and so are the others
first_digit : (digit : ℕ) (rest : List ℕ) → list_all is_ascii_digit (digit ∷ rest) ≡ true → (digit < 58) × (list_all is_ascii_digit rest ≡ true)
first_digit digit rest all = (grind (arith, nat_tests), grind (arith, nat_tests))

-- a numeral is made of digits, and isn't empty
digits_of_numeral : (text : List ℕ) → is_numeral text ≡ true → (list_all is_ascii_digit text ≡ true) × (0 < length text)
digits_of_numeral [] numeral = absurd (false≢true numeral)
digits_of_numeral (digit ∷ rest) numeral = (grind (arith, nat_tests), omega arith)

ascii_of_digits : (text : List ℕ) → list_all is_ascii_digit text ≡ true → (i : ℕ) → slice_index text i < 128
ascii_of_digits [] all i = omega arith
ascii_of_digits (digit ∷ rest) all zero = omega (arith, (first_digit digit rest all).0)
ascii_of_digits (digit ∷ rest) all (suc i) = ascii_of_digits rest (first_digit digit rest all).1 i

-- a numeral is text
pub IsUtf8-numeral : (text : List ℕ) → is_numeral text ≡ true → IsUtf8 text
IsUtf8-numeral text numeral = IsUtf8-from_ascii text (ascii_of_digits text (digits_of_numeral text numeral).0)

-- and is parsed as the number that it spells
pub parsed_numeral : {E : Type 0} (text : List ℕ) (r : Result ℕ E) → ParsesUnsigned 64 10 text r → is_numeral text ≡ true → result_ok r ≡ number_of text
parsed_numeral {E} text (Ok n) parses numeral =
    let read = parse_digits digits {E = E} 64 text (Ok n) parses (digits_of_numeral text numeral).0 in
    rw (numeral, lt-ltb _ _ read.0.1, read.1) refl
parsed_numeral {E} text (Err e) parses numeral =
    let unread = parse_digits digits {E = E} 64 text (Err e) parses (digits_of_numeral text numeral).0 in
    elim (cases_lt (digits_value 10 text) (2 ^ 64)) [
      | inl small ↦ absurd (unread ((digits_of_numeral text numeral).1, small))
      | inr large ↦ rw (numeral, le-ltb _ _ large) refl
    ]

-- a text that is no numeral spells no number
pub number_of-no_numeral : (text : List ℕ) → is_numeral text ≡ false → number_of text ≡ None
number_of-no_numeral text other = rw other refl
