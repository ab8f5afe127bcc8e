-- What a value without members is called in a message, and of which parts of a pointer the message of its error tells.
use Rattle.std.specs.Prelude.{ℕ, List, [], ◌∷◌, ◌-◌, ◌&&◌, Bool, not, nat_le, nat_lt, length, take, drop, slice_index, if◌then◌else◌, codes}
use Rattle.jzon_pointer.specs.declared.pointer.Primitive.{Primitive}
use Rattle.jzon_pointer.specs.declared.pointer.Primitive.TheVariants.{Null, Boolean, Number, String}

-- what `Display` shows of a type without members
abbrev pub primitive_text : Primitive → List ℕ
primitive_text Null = codes "null"
primitive_text Boolean = codes "a boolean"
primitive_text Number = codes "a number"
primitive_text String = codes "a string"

-- ---- the parts of a pointer

-- whether a character begins at this position of a text, or the text ends there
abbrev pub is_boundary : List ℕ → ℕ → Bool
is_boundary bs i =
    nat_le i (length bs)
    && not (nat_lt i (length bs) && (nat_le 128 (slice_index bs i) && nat_lt (slice_index bs i) 192))

-- the text before a position, and the whole text if it can't be cut there
abbrev pub before : ℕ → List ℕ → List ℕ
before i bs = if is_boundary bs i then take i bs else bs

-- the text from a position on, and none if it can't be cut there
abbrev pub behind : ℕ → List ℕ → List ℕ
behind i bs = if is_boundary bs i then drop i bs else []

-- a pointer, and words for the empty one
abbrev pub named_text : List ℕ → List ℕ
named_text [] = codes "the whole value"
named_text (c ∷ cs) = c ∷ cs

-- the pointer before a token's slash
abbrev pub parent_text : List ℕ → ℕ → List ℕ
parent_text path start = named_text (before (start - 1) path)

-- the token between two positions
abbrev pub token_text : List ℕ → ℕ → ℕ → List ℕ
token_text path start end = before (end - start) (behind start path)
