-- The classes of characters that the automaton of Machine distinguishes, and its states inside a number.
use Rattle.std.specs.Prelude.{ℕ, if◌then◌else◌, List, [], ◌∷◌, Bool, true, false, ◌==◌}
use Rattle.std.specs.Char.{is_ascii_digit}
use Rattle.jzon_base.specs.Tokens.{begin_array, begin_object, decimal_point, end_array, end_object, minus_sign}
use Rattle.jzon_base.specs.Tokens.{name_separator, plus_sign, quotation_mark, value_separator}
use Rattle.jzon_tree.specs.Writing.{is_whitespace}
use Rattle.jzon.specs.Grammar.{Sign, is_exponent_letter}

-- what a character is to the automaton outside of strings and of the later letters of literals
pub data Class : Type 0 where
  whitespace : Class
  digits : Class
  minus_char : Class
  plus_char : Class
  point : Class
  letter_e : Class
  quote : Class
  opens_array : Class
  closes_array : Class
  opens_object : Class
  closes_object : Class
  comma : Class
  colon : Class
  begins_null : Class
  begins_true : Class
  begins_false : Class
  other : Class

-- the first letter of `null` (section 3)
abbrev pub letter_n : ℕ
letter_n = 110

-- of `true`
abbrev pub letter_t : ℕ
letter_t = 116

-- of `false`
abbrev pub letter_f : ℕ
letter_f = 102

-- the class of a character that is neither in a string nor a later letter of a literal
unfoldable pub class_of : Bool → ℕ → Class
class_of strict c =
    if is_whitespace strict c then whitespace
    else (if is_ascii_digit c then digits
    else (if c == minus_sign then minus_char
    else (if c == plus_sign then plus_char
    else (if c == decimal_point then point
    else (if is_exponent_letter c then letter_e
    else (if c == quotation_mark then quote
    else (if c == begin_array then opens_array
    else (if c == end_array then closes_array
    else (if c == begin_object then opens_object
    else (if c == end_object then closes_object
    else (if c == value_separator then comma
    else (if c == name_separator then colon
    else (if c == letter_n then begins_null
    else (if c == letter_t then begins_true
    else (if c == letter_f then begins_false else other)))))))))))))))

-- the state inside a number; the digits read so far of the current part are in reverse order
pub data NumberState : Type 0 where
  -- after a minus
  after_minus : NumberState
  -- after a first digit 0
  zero_read : NumberState
  whole : List ℕ → NumberState
  -- after the point, with the whole digits
  pointed : List ℕ → NumberState
  fraction : List ℕ → List ℕ → NumberState
  -- after the letter of an exponent, with the digits before it
  after_letter : List ℕ → List ℕ → ℕ → NumberState
  signed_exponent : List ℕ → List ℕ → ℕ → Sign → NumberState
  exponent : List ℕ → List ℕ → ℕ → Sign → List ℕ → NumberState

-- after the first digit of a number
abbrev pub after_first_digit : Bool → ℕ → NumberState
after_first_digit true c = zero_read
after_first_digit false c = whole (c ∷ [])
