-- A stranger's text in a message: one line, of a bounded length.
use Rattle.std.specs.Prelude.{ℕ, suc, List, [], ◌∷◌, ◌++◌, ◌+◌, ◌-◌, ◌/◌, ◌%◌, Bool, not, ◌||◌, ◌&&◌, ◌==◌, nat_lt, nat_le, if◌then◌else◌}
use Rattle.std.specs.Prelude.{chars, codes, encode_utf8, flat_map, length, max, min, take}
use Rattle.std.specs.Char.{digit_char}
use Rattle.std.specs.List.{list_any}
use Rattle.jzon.specs.Error.{Error}
use Rattle.jzon.specs.Error.TheVariants.{UnexpectedCharacter}
use Rattle.jzon.specs.ErrorText.{place_text as position_text}
use Rattle.jzon.specs.Located.{located_text}
use Rattle.jzon.specs.declared.located.LocatedError.{LocatedError}

-- Whether it is a character below U+10000 that is hidden: a control character, or one that isn't seen (a space is),
-- ends a line, or turns the direction of what follows.
abbrev pub is_hidden_unit : ℕ → Bool
is_hidden_unit c =
    nat_lt c 32 || (nat_le 127 c && nat_lt c 160) || (c == 173) || (c == 847) || (c == 1564)
    || (nat_le 4447 c && nat_le c 4448) || (nat_le 6068 c && nat_le c 6069) || (nat_le 6155 c && nat_le c 6159)
    || (nat_le 8203 c && nat_le c 8207) || (nat_le 8232 c && nat_le c 8238) || (nat_le 8288 c && nat_le c 8303)
    || (c == 10240) || (c == 12644) || (nat_le 65024 c && nat_le c 65039) || (c == 65279) || (c == 65440)
    || (nat_le 65520 c && nat_le c 65531)

-- two hexadecimal digits
abbrev pub byte_text : ℕ → List ℕ
byte_text b = digit_char (b / 16) ∷ digit_char (b % 16) ∷ []

-- the escape of a character below 65536
abbrev pub escape_text : ℕ → List ℕ
escape_text c = codes "\\u" ++ (byte_text (c / 256) ++ byte_text (c % 256))

-- Whether it is a character above U+FFFF that isn't seen: a format control of hieroglyphs, of shorthand or of music, a
-- tag, a variation selector, or one of U+E0000 to U+E0FFF that is unassigned.
abbrev pub is_hidden_pair : ℕ → Bool
is_hidden_pair c =
    (nat_le 78896 c && nat_le c 78911) || (nat_le 113824 c && nat_le c 113827) || (nat_le 119155 c && nat_le c 119162)
    || (nat_le 917504 c && nat_le c 921599)

-- whether it is shown by its escape
abbrev pub is_hidden : ℕ → Bool
is_hidden c = is_hidden_unit c || is_hidden_pair c

-- the escapes of such a character's two surrogates
abbrev pub pair_text : ℕ → List ℕ
pair_text c = escape_text (55296 + (c - 65536) / 1024) ++ escape_text (56320 + c % 1024)

-- a character in a string of JSON; a hidden one is escaped
abbrev pub shown_char : ℕ → List ℕ
shown_char c = if c == 34 then codes "\\\"" else (if c == 92 then codes "\\\\" else (if c == 10 then codes "\\n" else
    (if c == 13 then codes "\\r" else (if c == 9 then codes "\\t" else
    (if is_hidden_unit c then escape_text c else (if is_hidden_pair c then pair_text c else encode_utf8 c))))))

-- a text with such escapes
abbrev pub shown_text : List ℕ → List ℕ
shown_text bytes = flat_map shown_char (chars bytes)

-- what is shown of character i: dots in place of those from `front` on and before `last`
abbrev pub piece : ℕ → ℕ → ℕ → ℕ → List ℕ
piece front last i c = if nat_lt i front || nat_le last i then shown_char c else (if i == front then codes ".." else [])

-- the same of characters, the first of which is number i
abbrev pub pieces : ℕ → ℕ → ℕ → List ℕ → List ℕ
pieces front last i [] = []
pieces front last i (c ∷ cs) = piece front last i c ++ pieces front last (suc i) cs

-- the first `front` and the last `back` characters of a text, with dots between them if others are there
abbrev pub cut_text : ℕ → ℕ → List ℕ → List ℕ
cut_text front back bytes = pieces front (length (chars bytes) - back) 0 (chars bytes)

-- how many bytes the widest of some characters takes where it is shown, and at least 1
abbrev pub widest : List ℕ → ℕ
widest [] = 1
widest (c ∷ cs) = max (length (shown_char c)) (widest cs)

-- how many characters of a text surely take at most n bytes
abbrev pub fitting : ℕ → List ℕ → ℕ
fitting n bytes = n / widest (chars bytes)

-- a text, or, if it takes more than n bytes, its first `front` and its last `back` characters, and dots
abbrev pub fitted : ℕ → ℕ → ℕ → List ℕ → List ℕ
fitted n front back bytes =
    if nat_le (length (shown_text bytes)) n then shown_text bytes else cut_text front back bytes

-- a token or a key: 40 characters and 456 bytes at most, and dots
abbrev pub token_shown : List ℕ → List ℕ
token_shown bytes = cut_text (min (fitting 456 bytes) 40) 0 bytes

-- words of a program: as they are, or, if they take more than 200 bytes or a character is hidden, escaped: 200 bytes at
-- most, and dots
abbrev pub words_shown : List ℕ → List ℕ
words_shown bytes = if nat_le (length bytes) 200 && not (list_any is_hidden (chars bytes)) then bytes
    else fitted 200 (fitting 200 bytes) 0 bytes

-- a pointer: of one that takes more than 200 bytes at most 100 of its beginning, and of its end
abbrev pub pointer_shown : List ℕ → List ℕ
pointer_shown bytes = fitted 200 (fitting 100 bytes) (fitting 100 bytes) bytes

-- a name that a program knows: 40 bytes at most, and dots
abbrev pub name_shown : List ℕ → List ℕ
name_shown bytes = fitted 40 (fitting 40 bytes) 0 bytes

-- the pointer of a value, and a colon; nothing of the whole value
abbrev pub place_text : List ℕ → List ℕ
place_text p = if length p == 0 then [] else pointer_shown p ++ codes ": "

-- the error of a text, whose character is escaped
abbrev pub text_error_text : Error → LocatedError → List ℕ
text_error_text (UnexpectedCharacter ch line column) l =
    codes "Unexpected character: " ++ (shown_char ch ++ (codes " at " ++ position_text line column))
text_error_text e l = located_text l

-- names after others, with commas before them
abbrev pub others_text : List (List ℕ) → List ℕ
others_text ns = flat_map (λ n. codes ", " ++ name_shown n) ns

-- names after the first: seven at most, and dots
abbrev pub more_text : List (List ℕ) → List ℕ
more_text ns = if nat_le (length ns) 7 then others_text ns else others_text (take 7 ns) ++ codes ", .."

-- names, with commas between them
abbrev pub names_text : List (List ℕ) → List ℕ
names_text [] = codes "none"
names_text (n ∷ ns) = name_shown n ++ more_text ns
