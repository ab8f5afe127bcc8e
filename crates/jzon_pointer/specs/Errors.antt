-- What an error says, and what it prints: one line of at most 1,000 bytes. A number is shown only if it fits a usize,
-- as each does, so that each part is of a bounded length.
use Rattle.std.specs.Prelude.{◌≡◌, ◌⊎◌, ◌≤◌, ◌^◌, ℕ, MatchOption, List, [], ◌++◌, Option, None, Some, Bool, true, false, ◌==◌, nat_le, nat_lt, if◌then◌else◌}
use Rattle.std.specs.Prelude.{Result, Err, codes, decimal, length, map, string_bytes}
use Rattle.std.specs.declared.io.ErrorKind.{ErrorKind}
use Rattle.std.specs.declared.io.ErrorKind.TheVariants as kind
use Rattle.jzon.specs.Decimal.{Decimal}
use Rattle.jzon.specs.Error as text
use Rattle.jzon.specs.Error.TheVariants as fault
use Rattle.jzon.specs.ErrorPlace.{column_in, line_in}
use Rattle.jzon.specs.ErrorText.{io_kind}
use Rattle.jzon.specs.NumberText.{decimal_text}
use Rattle.jzon.specs.Text.{boolean_text}
use Rattle.jzon.specs.Value.{Value}
use Rattle.jzon.specs.declared.located.LocatedError.{LocatedError}
use Rattle.jzon.specs.declared.place.Place.{Place}
use Rattle.jzon_pointer.specs.ErrorTexts.{parent_text, primitive_text, token_text}
use Rattle.jzon_pointer.specs.Shown.{names_text, place_text, pointer_shown, shown_char, token_shown, words_shown}
use Rattle.jzon_pointer.specs.declared.error.Error.{Error}
use Rattle.jzon_pointer.specs.declared.error.Inner.{Inner}
use Rattle.jzon_pointer.specs.declared.error.Inner.TheVariants.{Memory, NotANumber, Text, Boxed}
use Rattle.jzon_pointer.specs.declared.error.Report.{Report}
use Rattle.jzon_pointer.specs.declared.error.What.{What}
use Rattle.jzon_pointer.specs.declared.error.What.TheVariants as what
use Rattle.jzon_pointer.specs.declared.error.parts.Cause.{Cause}
use Rattle.jzon_pointer.specs.declared.error.parts.Cause.TheVariants as cause
use Rattle.jzon_pointer.specs.declared.error.parts.Expected.{Expected}
use Rattle.jzon_pointer.specs.declared.error.parts.Expected.TheVariants as expected
use Rattle.jzon_pointer.specs.declared.error.parts.Found.{Found}
use Rattle.jzon_pointer.specs.declared.error.parts.Found.TheVariants as found
use Rattle.jzon_pointer.specs.declared.error.parts.Member.{Member}
use Rattle.jzon_pointer.specs.declared.error.parts.Member.TheVariants as member
use Rattle.jzon_pointer.specs.declared.pointer.PointerError.{PointerError}
use Rattle.jzon_pointer.specs.declared.pointer.PointerError.TheVariants as pointer
use Rattle.jzon_pointer.specs.declared.pointer.Primitive.TheVariants as primitive
use Rattle.jzon_pointer.specs.declared.pointer.Reason.{Reason}
use Rattle.jzon_pointer.specs.declared.pointer.Reason.TheVariants.{BadEscape, NoMember, NotAnIndex, OutOfRange, NoChildren}

-- ---- what an error says

-- the error of a failed allocation
abbrev pub memory : Error
memory = record { inner = Memory }

-- the error of a NaN
abbrev pub not_a_number : Error
not_a_number = record { inner = NotANumber }

-- of what an error says that is in a box, and else this
abbrev pub in_box : {X : Type 0} → (Report → X) → X → Inner → X
in_box f x Memory = x
in_box f x NotANumber = x
in_box f x (Text l) = x
in_box f x (Boxed b) = f b.value

-- the same of its inside
abbrev pub inner_memory : Inner → Bool
inner_memory Memory = true
inner_memory _ = false

-- whether an allocation failed
abbrev pub is_memory : Error → Bool
is_memory e = inner_memory e.inner

-- whether it says that a number is a NaN
abbrev pub inner_nan : Inner → Bool
inner_nan NotANumber = true
inner_nan _ = false

-- whether it says so
abbrev pub is_not_a_number : Error → Bool
is_not_a_number e = inner_nan e.inner

-- what went wrong with a value, a pointer or a patch
abbrev pub what_of : Error → Option What
what_of e = in_box (λ r. Some r.what) None e.inner

-- the pointer
abbrev pub pointer_of : Error → List ℕ
pointer_of e = in_box (λ r. string_bytes r.pointer) [] e.inner

-- the number of a patch's operation
abbrev pub operation_of : Error → Option ℕ
operation_of e = in_box (λ r. r.operation) None e.inner

-- the member that has the pointer
abbrev pub member_of : Error → Option Member
member_of e = in_box (λ r. r.member) None e.inner

-- the place that its inside has
abbrev pub inner_place : Inner → Option Place
inner_place Memory = None
inner_place NotANumber = None
inner_place (Text l) = l.place
inner_place (Boxed b) = b.value.place

-- the place in the text
abbrev pub place_of : Error → Option Place
place_of e = inner_place e.inner

-- the text's error that its inside has
abbrev pub inner_text : Inner → Option text.Error
inner_text (Text l) = Some l.error
inner_text _ = None

-- the text's own error
abbrev pub text_of : Error → Option text.Error
text_of e = inner_text e.inner

-- it says this
pub record Says (e : Error) (w : Option What) (p : List ℕ) (n : Option ℕ) (m : Option Member) (at : Option Place) : Type 0 where
  pub text : text_of e ≡ None
  pub what : what_of e ≡ w
  pub pointer : pointer_of e ≡ p
  pub operation : operation_of e ≡ n
  pub member : member_of e ≡ m
  pub place : place_of e ≡ at

-- it says this, or an allocation failed
abbrev pub SaysOrMemory : Error → Option What → List ℕ → Option ℕ → Option Member → Option Place → Type 0
SaysOrMemory e w p n m at = (e ≡ memory) ⊎ Says e w p n m at

-- it says why a pointer names nothing, or an allocation failed
abbrev pub IsLost : Result Value PointerError → List ℕ → Error → Type 0
IsLost r path e = (lost : PointerError) × (r ≡ Err lost) × SaysOrMemory e (Some (what.Pointer lost)) path None None None

-- an error becomes one that says this; that of a text, of memory or of a NaN stays as it is
abbrev pub Becomes : Error → Error → Option What → List ℕ → Option ℕ → Option Member → Option Place → Type 0
Becomes e f w p n m at = MatchOption (what_of e) (f ≡ e) (λ _. Says f w p n m at)

-- the same, or an allocation failed
abbrev pub BecomesOrMemory : Error → Error → Option What → List ℕ → Option ℕ → Option Member → Option Place → Type 0
BecomesOrMemory e f w p n m at = (f ≡ memory) ⊎ Becomes e f w p n m at

-- the error of a text's error, at a place that may be known
abbrev pub error_at : text.Error → Option Place → Error
error_at fault.OutOfMemory at = memory
error_at e at = record { inner = Text (record { error = e; place = at }) }

-- the error of a text's error
abbrev pub located_error : LocatedError → Error
located_error l = error_at l.error l.place

-- ---- without what is there

-- of what is there, its type or its size
abbrev pub hidden_found : Found → Found
hidden_found (found.Boolean b) = found.Hidden primitive.Boolean
hidden_found (found.Number n) = found.Hidden primitive.Number
hidden_found (found.String s) = found.Hidden primitive.String
hidden_found (found.LongString n) = found.Hidden primitive.String
hidden_found f = f

-- what went wrong, without what is there
abbrev pub hidden_what : What → What
hidden_what (what.Wrong e f) = what.Wrong e (hidden_found f)
hidden_what (what.Cut e f) = what.Cut e (hidden_found f)
hidden_what w = w

-- ---- what it prints

-- a number of a usize
abbrev pub count_text : ℕ → List ℕ
count_text n = if nat_lt n (2 ^ 64) then decimal n else []

-- a number, whose text is never longer
abbrev pub number_shown : Decimal → List ℕ
number_shown n = if nat_le (length (decimal_text n)) 29 then decimal_text n else []

-- a number with at most n digits after the point
abbrev pub fixed_text : ℕ → List ℕ
fixed_text n = if n == 0 then codes "an integer"
    else (if n == 1 then codes "a number with at most 1 digit after the point"
    else codes "a number with at most " ++ (count_text n ++ codes " digits after the point"))

-- what is expected
abbrev pub expected_text : Expected → List ℕ
expected_text expected.Value = codes "a value"
expected_text expected.String = codes "a string"
expected_text expected.Boolean = codes "true or false"
expected_text expected.Number = codes "a number"
expected_text expected.Array = codes "an array"
expected_text expected.Object = codes "an object"
expected_text expected.U8 = codes "an integer from 0 to 255"
expected_text expected.U16 = codes "an integer from 0 to 65535"
expected_text expected.U32 = codes "an integer from 0 to 4294967295"
expected_text expected.U64 = codes "an integer from 0 to 18446744073709551615"
expected_text expected.I8 = codes "an integer from -128 to 127"
expected_text expected.I16 = codes "an integer from -32768 to 32767"
expected_text expected.I32 = codes "an integer from -2147483648 to 2147483647"
expected_text expected.I64 = codes "an integer from -9223372036854775808 to 9223372036854775807"
expected_text (expected.Fixed n) = fixed_text n
expected_text (expected.AtMost n) = if n == 1 then codes "an array of at most 1 element"
    else codes "an array of at most " ++ (count_text n ++ codes " elements")
expected_text (expected.Above n) = if n == 1 then codes "an array of more than 1 element"
    else codes "an array of more than " ++ (count_text n ++ codes " elements")
expected_text (expected.Exactly n) = if n == 1 then codes "an array of 1 element"
    else codes "an array of " ++ (count_text n ++ codes " elements")
expected_text (expected.Other words) = words_shown words.now

-- what is there
abbrev pub found_text : Found → List ℕ
found_text found.Null = codes "null"
found_text (found.Boolean b) = boolean_text b
found_text (found.Number n) = number_shown n
found_text (found.String s) = codes "\"" ++ (token_shown (string_bytes s) ++ codes "\"")
found_text (found.LongString n) = codes "a string of " ++ (count_text n ++ codes " characters")
found_text (found.Array n) = if n == 0 then codes "an empty array" else (if n == 1 then codes "an array of 1 element"
    else codes "an array of " ++ (count_text n ++ codes " elements"))
found_text (found.Hidden p) = primitive_text p
found_text (found.Object n) = if n == 0 then codes "an empty object" else (if n == 1 then codes "an object of 1 entry"
    else codes "an object of " ++ (count_text n ++ codes " entries"))

-- the name of a member
abbrev pub member_text : Member → List ℕ
member_text member.Op = codes "`op`"
member_text member.Path = codes "`path`"
member_text member.From = codes "`from`"
member_text member.Value = codes "`value`"

-- why an operation of a patch can't be done
abbrev pub cause_text : Cause → List ℕ
cause_text cause.NotAnArray = codes "the patch isn't an array"
cause_text cause.NotAnObject = codes "not an object"
cause_text (cause.Missing m) = member_text m ++ codes " is missing"
cause_text (cause.NotAString m) = member_text m ++ codes " isn't a string"
cause_text cause.UnknownOp = codes "unknown `op`"
cause_text cause.TestFailed = codes "test failed"
cause_text cause.IntoItself = codes "moved into itself"
cause_text cause.TooDeep = codes "nested too deep"
cause_text cause.TooLarge = codes "copies or moves too much"

-- why the token t of the value at the pointer p names nothing
abbrev pub lost_text : Reason → List ℕ → List ℕ → List ℕ
lost_text BadEscape p t = codes "~ without 0 or 1 after it"
lost_text NoMember p t = pointer_shown p ++ (codes " has no key \"" ++ (token_shown t ++ codes "\""))
lost_text NotAnIndex p t =
    pointer_shown p ++ (codes " is an array, and \"" ++ (token_shown t ++ codes "\" is no index"))
lost_text (OutOfRange n) p t = if n == 1 then pointer_shown p ++ codes " has 1 element"
    else pointer_shown p ++ (codes " has " ++ (count_text n ++ codes " elements"))
lost_text (NoChildren k) p t = pointer_shown p ++ (codes " is " ++ (primitive_text k ++ codes " and has no members"))

-- why a pointer names nothing
abbrev pub pointer_words : PointerError → List ℕ → List ℕ
pointer_words pointer.NoSlash p = codes "a pointer begins with /"
pointer_words (pointer.Missing start end reason) p = lost_text reason (parent_text p start) (token_text p start end)
pointer_words pointer.WholeValue p = codes "the pointer names the whole value"

-- what went wrong at a pointer
abbrev pub what_words : What → List ℕ → List ℕ
what_words (what.Pointer e) p = pointer_words e p
what_words (what.Wrong e f) p = codes "expected " ++ (expected_text e ++ (codes ", found " ++ found_text f))
what_words (what.Cut e f) p =
    codes "expected " ++ (expected_text e ++ (codes ", found " ++ (found_text f ++ codes ", of which digits may be cut")))
what_words (what.Missing e) p = codes "missing, expected " ++ expected_text e
what_words (what.Unknown known) p = codes "unknown key, expected " ++ names_text (map (λ n. n.now) known.now)
what_words (what.Operation c) p = cause_text c
what_words (what.Said words) p = words_shown words.now
what_words (what.Custom words) p = words_shown (string_bytes words)

-- the error of a text, without its place
abbrev pub text_words : text.Error → List ℕ
text_words (fault.UnexpectedCharacter ch line column) = codes "Unexpected character: " ++ shown_char ch
text_words fault.UnexpectedEndOfJson = codes "Unexpected end of JSON"
text_words fault.ExceededDepthLimit = codes "Exceeded depth limit"
text_words fault.FailedUtf8Parsing = codes "Failed to parse UTF-8 bytes"
text_words (fault.WrongType kind) = codes "Wrong type, expected: " ++ words_shown (string_bytes kind)
text_words fault.OutOfMemory = codes "Out of memory"
text_words (fault.DuplicateKey line column) = codes "Duplicate key"
text_words (fault.InexactNumber line column) = codes "Number is not exact"

-- the words that its inside has
abbrev pub inner_words : Inner → List ℕ
inner_words Memory = codes "Out of memory"
inner_words NotANumber = codes "not a number"
inner_words (Text l) = text_words l.error
inner_words (Boxed b) = what_words b.value.what (string_bytes b.value.pointer)

-- the words of an error
abbrev pub words_text : Error → List ℕ
words_text e = inner_words e.inner

-- the number of an operation
abbrev pub in_operation_text : Option ℕ → List ℕ
in_operation_text None = []
in_operation_text (Some n) = codes "operation " ++ (count_text n ++ codes ": ")

-- the member that has a pointer
abbrev pub in_member_text : Option Member → List ℕ
in_member_text None = []
in_member_text (Some m) = member_text m ++ codes ": "

-- a line and a column
abbrev pub at_text : Option (ℕ × ℕ) → List ℕ
at_text None = []
at_text (Some p) = codes " at (" ++ (count_text p.0 ++ (codes ":" ++ (count_text p.1 ++ codes ")")))

-- a line and a column, if both are known
abbrev pub both : Option ℕ → Option ℕ → Option (ℕ × ℕ)
both (Some line) (Some column) = Some (line, column)
both _ _ = None

-- the line and the column of a text's own error
abbrev pub own_position : Option text.Error → Option (ℕ × ℕ)
own_position None = None
own_position (Some e) = both (line_in e) (column_in e)

-- the line and the column of the place, or else of the text's own error
abbrev pub position_of : Option text.Error → Option Place → Option (ℕ × ℕ)
position_of e None = own_position e
position_of e (Some p) = Some (p.line, p.column)

-- the error
abbrev pub error_text : Error → List ℕ
error_text e =
    in_operation_text (operation_of e) ++ (in_member_text (member_of e) ++ (place_text (pointer_of e)
    ++ (words_text e ++ at_text (position_of (text_of e) (place_of e)))))

-- the kind of the `io::Error` that its inside becomes
abbrev pub inner_kind : Inner → ErrorKind
inner_kind Memory = kind.OutOfMemory
inner_kind (Text l) = io_kind l.error
inner_kind _ = kind.InvalidData

-- the kind of the `io::Error` that it becomes
abbrev pub kind_of : Error → ErrorKind
kind_of e = inner_kind e.inner

-- no message is longer than 1,000 bytes
abbrev pub ShortLaw : Type 0
ShortLaw = (e : Error) → length (error_text e) ≤ 1000
