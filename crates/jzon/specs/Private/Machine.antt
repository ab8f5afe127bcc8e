-- The automaton: maps the rest of a text to a value or a fault, one character at a time. A `State` has no tree and no
-- whitespace, only the contents so far of the open containers, and how far a token is read.
use Rattle.std.specs.Prelude.{◌≡◌, ◌⊎◌, ℕ, zero, suc, ◌+◌, ◌-◌, ◌*◌, if◌then◌else◌, List, [], ◌∷◌, ◌++◌, length, take, drop}
use Rattle.std.specs.Prelude.{Bool, true, false, ◌&&◌, ◌==◌, Option, Some, None, Result, Ok, Err, MatchResult, chars}
use Rattle.std.specs.Prelude.{encode_utf8}
use Rattle.std.specs.Char.{is_ascii_hexdigit, digit_value}
use Rattle.std.specs.Option.{is_some}
use Rattle.jzon_base.specs.PairList.{find, put}
use Rattle.jzon_base.specs.Tokens.{escape, quotation_mark, zero_digit}
use Rattle.jzon_tree.specs.Value.{Value, values_of, pairs_of, kind_of}
use Rattle.jzon_tree.specs.Value as value
use Rattle.jzon_tree.specs.View.{view}
use Rattle.jzon_tree.specs.declared.value.JsonValue.{JsonValue}
use Rattle.jzon.specs.Reading.{Reading}
use Rattle.jzon.specs.Grammar.{Sign, unsigned, plus, minus, Exponent, is_surrogate, is_high, is_low, is_unescaped}
use Rattle.jzon.specs.Grammar.{is_simple}
use Rattle.jzon.specs.Spelling.{Breach, deep, pair, duplicate, breach_if, onto, whole_breach, fraction_breach, exponent_breach}
use Rattle.jzon.specs.Spelling.{deep_if}
use Rattle.jzon.specs.Meaning.{number_of, unescaped, pair_char}
use Rattle.jzon.specs.Fault.{Fault, limit, character, error_at, reported_offset}
use Rattle.jzon.specs.Private.Classes.{Class, whitespace, digits, minus_char, plus_char, point, letter_e, quote}
use Rattle.jzon.specs.Private.Classes.{opens_array, closes_array, opens_object, closes_object, comma, colon}
use Rattle.jzon.specs.Private.Classes.{begins_null, begins_true, begins_false, class_of, NumberState, after_minus}
use Rattle.jzon.specs.Private.Classes.{zero_read, whole, pointed, fraction, after_letter, signed_exponent, exponent}
use Rattle.jzon.specs.Private.Classes.{after_first_digit}
use Rattle.jzon.specs.Private.Stops.{IsAtBoundary, stop_offset, reported_error}
use Rattle.jzon.specs.declared.stop.Stop.{Stop}
use Rattle.jzon.specs.declared.stop.Stop.TheVariants.{Memory}

-- the entries of an object read so far
abbrev pub EntriesSoFar : Type 0
EntriesSoFar = List (List ℕ × Value)

-- the open containers, the innermost first: the contents of each so far, and in an object the key of the current value
pub data Frames : Type 0 where
  no_frames : Frames
  array_frame : Frames → List Value → Frames
  object_frame : Frames → EntriesSoFar → List ℕ → Frames

-- a string is a value, or a key of an object; for a key, the number of characters left at its opening quote
pub data Role : Type 0 where
  as_value : Frames → Role
  as_key : Frames → EntriesSoFar → ℕ → Role

-- The state inside a string: between characters, after a backslash, in the digits of an escape, or before or in the
-- second escape of a surrogate pair, after the code unit of the first. A code unit that is being read is a number, with
-- the count of digits missing after the next one.
pub data StringState : Type 0 where
  between : StringState
  after_backslash : StringState
  code : ℕ → ℕ → StringState
  second : ℕ → StringState
  second_backslash : ℕ → StringState
  second_code : ℕ → ℕ → ℕ → StringState

-- Where the next character is: before a value or a key, in a literal (its value, the next letter and those after it),
-- in a number or a string, or after a key or a value. `Frames` are the open containers.
pub data State : Type 0 where
  before : Frames → State
  before_key : Frames → EntriesSoFar → State
  word : Frames → Value → ℕ → List ℕ → State
  numeral : Frames → Bool → NumberState → State
  -- with the bytes of the string so far
  string : Role → List ℕ → StringState → State
  after_key : Frames → EntriesSoFar → List ℕ → State
  after_value : Frames → Value → State

-- whitespace is allowed there
abbrev pub allows_whitespace : State → Bool
allows_whitespace (before fs) = true
allows_whitespace (before_key fs es) = true
allows_whitespace (after_key fs es k) = true
allows_whitespace (after_value fs v) = true
allows_whitespace _ = false

-- after the first digit of a number
abbrev pub numeral_after_first : Frames → Bool → ℕ → State
numeral_after_first fs negative c = numeral fs negative (after_first_digit (c == zero_digit) c)

-- The result of reading one character: a state and the breach at the character, if any; or no text goes on with the
-- character, in the case of `bad_deep` where another one would open one container too many.
pub data Move : Type 0 where
  go : Option Breach → State → Move
  bad : Move
  bad_deep : Move

-- how many containers these are
abbrev pub frames_depth : Frames → ℕ
frames_depth no_frames = zero
frames_depth (array_frame fs vs) = suc (frames_depth fs)
frames_depth (object_frame fs es k) = suc (frames_depth fs)

-- the innermost open container is an array without elements
abbrev pub is_fresh : Frames → Bool
is_fresh no_frames = false
is_fresh (array_frame fs []) = true
is_fresh (array_frame fs (v ∷ vs)) = false
is_fresh (object_frame fs es k) = false

-- the breach of a value in fs: it is the first of its array, and too many containers are open
abbrev pub value_mark : Reading → Frames → Option Breach
value_mark r no_frames = None
value_mark r (array_frame fs []) = deep_if r (frames_depth fs)
value_mark r (array_frame fs (v ∷ vs)) = None
value_mark r (object_frame fs es k) = None

-- the breach of a key: it is the first of its object, and too many containers are open
abbrev pub key_mark : Reading → Frames → EntriesSoFar → Option Breach
key_mark r fs [] = deep_if r (frames_depth fs)
key_mark r fs (e ∷ es) = None

-- what a character that isn't allowed leads to, where another one would have this breach
abbrev pub bad_at : Option Breach → Move
bad_at None = bad
bad_at (Some b) = bad_deep

-- ---- before and after values

-- a `]` where a value is due: only an array without elements may end
abbrev pub move_empty_array : Frames → Move
move_empty_array (array_frame fs []) = go None (after_value fs (value.array value.no_values))
move_empty_array _ = bad

-- before a value
abbrev pub move_before : Reading → Class → Frames → ℕ → Move
move_before r whitespace fs c = go None (before fs)
move_before r digits fs c = go (value_mark r fs) (numeral_after_first fs false c)
move_before r minus_char fs c = go (value_mark r fs) (numeral fs true after_minus)
move_before r quote fs c = go (value_mark r fs) (string (as_value fs) [] between)
move_before r opens_array fs c = go (value_mark r fs) (before (array_frame fs []))
move_before r opens_object fs c = go (value_mark r fs) (before_key fs [])
move_before r closes_array fs c = move_empty_array fs
move_before r begins_null fs c = go (value_mark r fs) (word fs value.null 117 (108 ∷ 108 ∷ []))
move_before r begins_true fs c = go (value_mark r fs) (word fs (value.boolean true) 114 (117 ∷ 101 ∷ []))
move_before r begins_false fs c = go (value_mark r fs) (word fs (value.boolean false) 97 (108 ∷ 115 ∷ 101 ∷ []))
move_before r _ fs c = bad_at (value_mark r fs)

-- a `}` where a key is due: only an object without entries may end
abbrev pub move_empty_object : Frames → EntriesSoFar → Move
move_empty_object fs [] = go None (after_value fs (value.object value.no_pairs))
move_empty_object fs (e ∷ es) = bad

-- before a key
abbrev pub move_before_key : Reading → Class → Frames → EntriesSoFar → ℕ → Move
move_before_key r whitespace fs es left = go None (before_key fs es)
move_before_key r quote fs es left = go (key_mark r fs es) (string (as_key fs es left) [] between)
move_before_key r closes_object fs es left = move_empty_object fs es
move_before_key r _ fs es left = bad_at (key_mark r fs es)

-- between a key and its colon
abbrev pub move_after_key : Class → Frames → EntriesSoFar → List ℕ → Move
move_after_key whitespace fs es k = go None (after_key fs es k)
move_after_key colon fs es k = go None (before (object_frame fs es k))
move_after_key _ fs es k = bad

-- a comma after the value v
abbrev pub move_comma : Frames → Value → Move
move_comma no_frames v = bad
move_comma (array_frame fs vs) v = go None (before (array_frame fs (vs ++ v ∷ [])))
move_comma (object_frame fs es k) v = go None (before_key fs (put k v es))

-- a `]` after the value v
abbrev pub move_close_array : Frames → Value → Move
move_close_array (array_frame fs vs) v = go None (after_value fs (value.array (values_of (vs ++ v ∷ []))))
move_close_array _ v = bad

-- a `}` after the value v
abbrev pub move_close_object : Frames → Value → Move
move_close_object (object_frame fs es k) v = go None (after_value fs (value.object (pairs_of (put k v es))))
move_close_object _ v = bad

-- after the value v
abbrev pub move_after_value : Class → Frames → Value → Move
move_after_value whitespace fs v = go None (after_value fs v)
move_after_value comma fs v = move_comma fs v
move_after_value closes_array fs v = move_close_array fs v
move_after_value closes_object fs v = move_close_object fs v
move_after_value _ fs v = bad

-- ---- numbers

-- the value of a number, from its minus, its digits and its exponent
abbrev pub number_value : Bool → List ℕ → List ℕ → Option Exponent → Value
number_value negative ws fs e =
    value.number (number_of (record { negative = negative; whole = ws; fraction = fs; exponent = e }))

-- the exponent of this letter, sign and digits
abbrev pub exponent_of : ℕ → Sign → List ℕ → Option Exponent
exponent_of l s ds = Some (record { letter = l; sign = s; digits = ds })

-- after the digits before a point
abbrev pub move_after_whole : Class → Frames → Bool → List ℕ → ℕ → Move
move_after_whole point fs negative ws c = go None (numeral fs negative (pointed ws))
move_after_whole letter_e fs negative ws c = go None (numeral fs negative (after_letter ws [] c))
move_after_whole class fs negative ws c = move_after_value class fs (number_value negative ws [] None)

-- after the digits after a point
abbrev pub move_after_fraction : Class → Frames → Bool → List ℕ → List ℕ → ℕ → Move
move_after_fraction letter_e fs negative ws ds c = go None (numeral fs negative (after_letter ws ds c))
move_after_fraction class fs negative ws ds c = move_after_value class fs (number_value negative ws ds None)

-- in a number
abbrev pub move_numeral : Reading → NumberState → Class → Frames → Bool → ℕ → Move
move_numeral r after_minus digits fs negative c = go None (numeral_after_first fs true c)
move_numeral r after_minus _ fs negative c = bad
move_numeral r zero_read class fs negative c = move_after_whole class fs negative (zero_digit ∷ []) c
move_numeral r (whole ds) digits fs negative c =
    go (whole_breach r (onto (c ∷ ds) [])) (numeral fs negative (whole (c ∷ ds)))
move_numeral r (whole ds) class fs negative c = move_after_whole class fs negative (onto ds []) c
move_numeral r (pointed ws) digits fs negative c =
    go (fraction_breach r ws (onto (c ∷ []) [])) (numeral fs negative (fraction ws (c ∷ [])))
move_numeral r (pointed ws) _ fs negative c = bad
move_numeral r (fraction ws ds) digits fs negative c =
    go (fraction_breach r ws (onto (c ∷ ds) [])) (numeral fs negative (fraction ws (c ∷ ds)))
move_numeral r (fraction ws ds) class fs negative c = move_after_fraction class fs negative ws (onto ds []) c
move_numeral r (after_letter ws ds l) digits fs negative c = go (exponent_breach r ws ds unsigned (onto (c ∷ []) []))
    (numeral fs negative (exponent ws ds l unsigned (c ∷ [])))
move_numeral r (after_letter ws ds l) plus_char fs negative c = go None (numeral fs negative (signed_exponent ws ds l plus))
move_numeral r (after_letter ws ds l) minus_char fs negative c = go None (numeral fs negative (signed_exponent ws ds l minus))
move_numeral r (after_letter ws ds l) _ fs negative c = bad
move_numeral r (signed_exponent ws ds l s) digits fs negative c = go (exponent_breach r ws ds s (onto (c ∷ []) []))
    (numeral fs negative (exponent ws ds l s (c ∷ [])))
move_numeral r (signed_exponent ws ds l s) _ fs negative c = bad
move_numeral r (exponent ws ds l s xs) digits fs negative c =
    go (exponent_breach r ws ds s (onto (c ∷ xs) [])) (numeral fs negative (exponent ws ds l s (c ∷ xs)))
move_numeral r (exponent ws ds l s xs) class fs negative c = move_after_value class fs
    (number_value negative ws ds (exponent_of l s (onto xs [])))

-- ---- strings

-- a breach if a strict reading finds the same key earlier in the object; the opening quote is `back` characters before
abbrev pub repeated_if : Reading → EntriesSoFar → List ℕ → ℕ → Option Breach
repeated_if r es k back = breach_if (r.strict && is_some (find k es)) (duplicate back)

-- after the closing quote
abbrev pub closed_string : Reading → Role → List ℕ → ℕ → Move
closed_string r (as_value fs) bs left = go None (after_value fs (value.text (kind_of bs) bs))
closed_string r (as_key fs es opened) bs left = go (repeated_if r es bs (opened - left)) (after_key fs es bs)

-- between the characters of a string
abbrev pub move_between : Reading → Role → List ℕ → ℕ → ℕ → Move
move_between r role bs c left =
    if c == quotation_mark then closed_string r role bs left
    else (if c == escape then go None (string role bs after_backslash)
    else (if is_unescaped c then go None (string role (bs ++ encode_utf8 c) between) else bad))

-- after a backslash
abbrev pub move_after_backslash : Role → List ℕ → ℕ → Move
move_after_backslash role bs c =
    if c == 117 then go None (string role bs (code 3 0))
    else (if is_simple c then go None (string role (bs ++ encode_utf8 (unescaped c)) between) else bad)

-- appends one hexadecimal digit
abbrev pub add_hex : ℕ → ℕ → ℕ
add_hex u c = u * 16 + digit_value c

-- after the four digits of an escape: a surrogate needs a second escape, any other code unit is a character
abbrev pub after_unit : Bool → Role → List ℕ → ℕ → State
after_unit true role bs u = string role bs (second u)
after_unit false role bs u = string role (bs ++ encode_utf8 u) between

-- a digit of an escape
abbrev pub move_code : Role → List ℕ → ℕ → ℕ → ℕ → Move
move_code role bs zero u c = go None (after_unit (is_surrogate (add_hex u c)) role bs (add_hex u c))
move_code role bs (suc n) u c = go None (string role bs (code n (add_hex u c)))

-- after two surrogates, which may be a pair
abbrev pub move_pair : Bool → Role → List ℕ → ℕ → ℕ → Move
move_pair true role bs u v = go None (string role (bs ++ encode_utf8 (pair_char u v)) between)
move_pair false role bs u v = go (Some pair) (string role bs between)

-- a digit of the second escape
abbrev pub move_second_code : Role → List ℕ → ℕ → ℕ → ℕ → ℕ → Move
move_second_code role bs u zero v c = move_pair (is_high u && is_low (add_hex v c)) role bs u (add_hex v c)
move_second_code role bs u (suc n) v c = go None (string role bs (second_code u n (add_hex v c)))

-- in a string
abbrev pub move_string : Reading → StringState → Role → List ℕ → ℕ → ℕ → Move
move_string r between role bs c left = move_between r role bs c left
move_string r after_backslash role bs c left = move_after_backslash role bs c
move_string r (code n u) role bs c left = if is_ascii_hexdigit c then move_code role bs n u c else bad
move_string r (second u) role bs c left = if c == escape then go None (string role bs (second_backslash u)) else bad
move_string r (second_backslash u) role bs c left = if c == 117 then go None (string role bs (second_code u 3 0)) else bad
move_string r (second_code u n v) role bs c left = if is_ascii_hexdigit c then move_second_code role bs u n v c else bad

-- ---- the automaton

-- the state before these letters, the last of the literal of the value v
abbrev pub past_letter : Frames → Value → List ℕ → State
past_letter fs v [] = after_value fs v
past_letter fs v (l ∷ ls) = word fs v l ls

-- reads the character c, with `left` characters left, c among them
abbrev pub move : Reading → State → ℕ → ℕ → Move
move r (before fs) c left = move_before r (class_of r.strict c) fs c
move r (before_key fs es) c left = move_before_key r (class_of r.strict c) fs es left
move r (word fs v l ls) c left = if c == l then go None (past_letter fs v ls) else bad
move r (numeral fs negative x) c left = move_numeral r x (class_of r.strict c) fs negative c
move r (string role bs x) c left = move_string r x role bs c left
move r (after_key fs es k) c left = move_after_key (class_of r.strict c) fs es k
move r (after_value fs v) c left = move_after_value (class_of r.strict c) fs v

-- the outcome of a text: a value, or a fault with the rest of the text from the faulty character on
pub data Outcome : Type 0 where
  meant : Value → Outcome
  refused : Fault → List ℕ → Outcome

-- the outcome at the end of the text after the value v: no container may be open
abbrev pub meant_at : Frames → Value → Outcome
meant_at no_frames v = meant v
meant_at _ v = refused Fault.end []

-- the outcome at the end of the text in a number
abbrev pub last_numeral : NumberState → Frames → Bool → Outcome
last_numeral zero_read fs negative = meant_at fs (number_value negative (zero_digit ∷ []) [] None)
last_numeral (whole ds) fs negative = meant_at fs (number_value negative (onto ds []) [] None)
last_numeral (fraction ws ds) fs negative = meant_at fs (number_value negative ws (onto ds []) None)
last_numeral (exponent ws ds l s xs) fs negative = meant_at fs
    (number_value negative ws ds (exponent_of l s (onto xs [])))
last_numeral _ fs negative = refused Fault.end []

-- the outcome at the end of the text
abbrev pub last : State → Outcome
last (numeral fs negative x) = last_numeral x fs negative
last (after_value fs v) = meant_at fs v
last _ = refused Fault.end []

-- the outcome of a move: that of the next state, or a fault at the character with which `rest` begins
abbrev pub outcome_on : Move → (State → Outcome) → List ℕ → Outcome
outcome_on (go None p) f rest = f p
outcome_on (go (Some b) p) f rest = refused (limit b) rest
outcome_on bad f rest = refused character rest
outcome_on bad_deep f rest = refused (limit deep) rest

-- the outcome of the rest of a text from this state
abbrev pub outcome : Reading → List ℕ → State → Outcome
outcome r [] p = last p
outcome r (c ∷ cs) p = outcome_on (move r p c (length (c ∷ cs))) (λ p'. outcome r cs p') (c ∷ cs)

-- the outcome of the rest of a text from byte i on
unfoldable pub from : Reading → List ℕ → State → ℕ → Outcome
from r bytes p i = outcome r (chars (drop i bytes)) p

-- the number of characters left from a byte on
abbrev pub left_at : List ℕ → ℕ → ℕ
left_at bytes i = length (chars (drop i bytes))

-- the outcome after a string with this content, whose closing quote is the byte before i
abbrev pub from_closed : Reading → List ℕ → Role → List ℕ → ℕ → Outcome
from_closed r bytes role text i =
    outcome_on (closed_string r role text (left_at bytes (i - 1))) (λ p. from r bytes p i) (chars (drop (i - 1) bytes))

-- the outcome of the rest of a text whose next character, or whose end there, is a fault
abbrev pub fault_here : List ℕ → Outcome
fault_here [] = refused Fault.end []
fault_here (c ∷ cs) = refused character (c ∷ cs)

-- the error that is returned for a stop is the error of this outcome of a text
abbrev pub Reports : List ℕ → Stop → Outcome → Type 0
Reports bytes e (meant v) = ⊥
Reports bytes e (refused f rest) =
    IsAtBoundary bytes e × (reported_error bytes e ≡ error_at (chars bytes) (length (chars bytes) - length rest) f)
    × (length (chars (take (stop_offset e) bytes)) ≡ reported_offset (length (chars bytes) - length rest) f)

-- either that error is returned, or an allocation failed
abbrev pub ReportsUnlessMemory : List ℕ → Stop → Outcome → Type 0
ReportsUnlessMemory bytes e o = (e ≡ Memory) ⊎ Reports bytes e o

-- The outcome from byte i on in this state is the outcome in the next state after what was read; or it is a fault, and
-- the error that is returned is its error.
abbrev pub Leads : {A : Type 0} → Reading → List ℕ → State → ℕ → Result (A × ℕ) Stop → (A → State) → Type 0
Leads r bytes p i result next =
    MatchResult result (λ x. from r bytes p i ≡ from r bytes (next x.0) x.1)
    (λ e. Reports bytes e (from r bytes p i))

-- the result agrees with this outcome of a text, unless an allocation failed
abbrev pub Reads : List ℕ → Result JsonValue Stop → Outcome → Type 0
Reads bytes (Ok v) o = o ≡ meant (view v)
Reads bytes (Err e) o = ReportsUnlessMemory bytes e o
