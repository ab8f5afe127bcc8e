-- How src/locate.rt walks a text to the value that a pointer names: what each of its functions finds. A text is its
-- bytes, or its characters: none of those that count here has more than one byte.
use Rattle.std.specs.Prelude.{◌≡◌, ◌≤◌, ⊤, drop, length, ℕ, zero, suc, List, [], ◌∷◌, ◌++◌, Option, None, Some}
use Rattle.std.specs.Prelude.{Bool, true, false, not, ◌&&◌, ◌==◌, ◌||◌, if◌then◌else◌, nat_lt, option_and_then, encode_utf8_all}
use Rattle.std.specs.Option.{MatchOption, option_map_or}
use Rattle.std.specs.Str.{IsCharBoundary}
use Rattle.jzon_base.specs.declared.error.Error.{Error}
use Rattle.jzon_base.specs.declared.error.Error.TheVariants.{OutOfMemory}
use Rattle.jzon.specs.Grammar.{Node, Elements, Members, member, Key, IsNode, AreElements, AreMembers, IsKey, IsWhitespace}
use Rattle.jzon.specs.Meaning.{bytes_of}
use Rattle.jzon.specs.Reading.{Reading}
use Rattle.jzon.specs.Spelling.{Breach, Cell, plain, node_cells, elements_cells, members_cells, key_cells}
use Rattle.jzon_pointer.specs.Locate.{Named, element_named, elements_text, key_text, keyed, members_text, named_in, node_text, unnamed, value_text}
use Rattle.jzon_pointer.specs.Pointer.{index_named, names}
use Rattle.jzon_pointer.specs.declared.locate.Entry.{Entry}
use Rattle.jzon_pointer.specs.declared.locate.Passed.{Passed}
use Rattle.jzon_pointer.specs.declared.locate.Spot.{Spot}

-- an allocation failed
abbrev pub is_memory : Error → Bool
is_memory OutOfMemory = true
is_memory _ = false

-- The byte or character is a space or below it. Outside of strings, a text that a reading accepts has only whitespace
-- there.
abbrev pub is_blank : ℕ → Bool
is_blank c = nat_lt c 33

-- the text after its whitespace
abbrev pub after_whitespace : List ℕ → List ℕ
after_whitespace [] = []
after_whitespace (c ∷ cs) = if is_blank c then after_whitespace cs else c ∷ cs

-- the text after the string whose opening quote is before it, or of which a backslash is
abbrev pub string_rest : Bool → List ℕ → List ℕ
string_rest escaped [] = []
string_rest escaped (c ∷ cs) = if not escaped && c == 34 then cs else string_rest (not escaped && c == 92) cs

-- the text after the string whose opening quote is before it
abbrev pub after_string : List ℕ → List ℕ
after_string cs = string_rest false cs

-- what a byte or character of an item is part of, inside this many brackets of the item
pub data Scan : Type 0 where
  Outside : ℕ → Scan
  Quoted : ℕ → Scan
  Escaped : ℕ → Scan

-- after a closing bracket; none if it isn't one of the item
abbrev pub closed : ℕ → Option Scan
closed zero = None
closed (suc d) = Some (Outside d)

-- after a comma; none if it ends the item
abbrev pub parted : ℕ → Option Scan
parted zero = None
parted (suc d) = Some (Outside (suc d))

-- after one more byte or character of an item; none if the item ends before it
abbrev pub after_byte : Scan → ℕ → Option Scan
after_byte (Escaped d) c = Some (Quoted d)
after_byte (Quoted d) c = if c == 34 then Some (Outside d) else (if c == 92 then Some (Escaped d) else Some (Quoted d))
after_byte (Outside d) c = if c == 34 then Some (Quoted d) else (if c == 91 || c == 123 then Some (Outside (suc d))
    else (if c == 93 || c == 125 then closed d else (if c == 44 then parted d else Some (Outside d))))

-- the text from the end of an item on: from the comma or the closing bracket after it
abbrev pub skim : Scan → List ℕ → List ℕ
skim s [] = []
skim s (c ∷ cs) = option_map_or (λ p. skim p cs) (after_byte s c) (c ∷ cs)

-- no cell has a breach
abbrev pub AreClear : List Cell → Type 0
AreClear [] = ⊤
AreClear (c ∷ cs) = (c.mark ≡ None) × AreClear cs

-- from the offset on, the bytes are those of these characters
abbrev pub From : List ℕ → ℕ → List ℕ → Type 0
From bytes at cs = drop at bytes ≡ encode_utf8_all cs

-- the spot is that of a value
abbrev pub IsSpotOf : List ℕ → Option Spot → Option Named → Type 0
IsSpotOf bytes None None = ⊤
IsSpotOf bytes (Some s) (Some p) = From bytes s.value (value_text p) × From bytes s.name p.from
    × IsCharBoundary bytes s.value × IsCharBoundary bytes s.name
IsSpotOf bytes _ _ = ⊥

-- at the spot stands a value of the grammar that breaks no limit inside `depth` containers
pub record Stands (r : Reading) (bytes : List ℕ) (depth : ℕ) (s : Spot) (p : Named) : Type 0 where
  pub grammar : IsNode r p.node
  pub clear : (m : Option Breach) × (k : List Cell) × AreClear (node_cells r p.node depth m k)
  pub value : From bytes s.value (value_text p)
  pub name : From bytes s.name p.from
  pub start : IsCharBoundary bytes s.name

-- an entry and those after it stand at the offset of its key, in an object inside `depth` containers with these keys
-- before
pub record Enters (r : Reading) (bytes : List ℕ) (depth : ℕ) (seen : List (List ℕ)) (at : ℕ) (key : Key) (b : List ℕ)
    (n : Node) (c : List ℕ) (ms : Members) (k : List ℕ) : Type 0 where
  pub grammar : AreMembers r (member key b n c ms)
  pub clear : (m : Option Breach) × (z : List Cell) × AreClear (key_cells r seen key m
      (plain b (node_cells r n (suc depth) None (plain c (members_cells r ms (bytes_of key.items ∷ seen) (suc depth) z)))))
  pub text : From bytes at (key_text key (b ++ node_text n (c ++ members_text ms k)))

-- a reading by which the walk goes: strict if it takes keys as unique, and not deeper
abbrev pub Goes : Bool → ℕ → Reading → Type 0
Goes unique depth r = (unique ≡ true → r.strict ≡ true) × (r.depth ≤ depth)

-- the offset after what is inside so many brackets from `start` on, unless keys are unique
abbrev pub EndsAfter : List ℕ → Bool → ℕ → ℕ → Option ℕ → Type 0
EndsAfter bytes unique start d o =
    MatchOption o (unique ≡ true) (λ e. (start ≤ e) × (e ≤ length bytes) × (drop e bytes ≡ skim (Outside d) (drop start bytes)))

-- A walk over a value before the text k has come to the value o inside it, and to the end of its text, unless nothing is
-- looked for after what is found.
abbrev pub Comes : List ℕ → Bool → List ℕ → Option Named → Passed → Type 0
Comes bytes unique k o w = IsSpotOf bytes w.found o
    × MatchOption w.end (unique ≡ true) (λ e. drop e bytes ≡ skim (Outside zero) (encode_utf8_all k))

-- what a walk over the value at a spot inside `depth` containers comes to, with the tokens that are left
abbrev pub Finds : List ℕ → Bool → ℕ → List (List ℕ) → ℕ → Spot → Passed → Type 0
Finds bytes unique most ts depth s w =
    (r : Reading) (p : Named) → Goes unique most r → Stands r bytes depth s p
    → Comes bytes unique p.after (named_in ts p) w

-- the offset after a key's closing quote, and that of its value
abbrev pub IsEntry : List ℕ → Key → List ℕ → Node → List ℕ → Entry → Type 0
IsEntry bytes key b n k e = From bytes e.key_end (key.after ++ 58 ∷ (b ++ node_text n k)) × From bytes e.value (node_text n k)

-- the entry that begins at an offset
abbrev pub ReadsEntry : List ℕ → ℕ → Option Entry → Type 0
ReadsEntry bytes at o =
    (r : Reading) (key : Key) (b : List ℕ) (n : Node) (k : List ℕ) → IsKey r key → IsWhitespace r b → IsNode r n
    → From bytes at (key_text key (b ++ node_text n k)) → MatchOption o ⊥ (IsEntry bytes key b n k)

-- whether a token names the key from one offset to another, which breaks no limit there
abbrev pub ReadsKey : List ℕ → ℕ → ℕ → List ℕ → Bool → Type 0
ReadsKey bytes at end t is =
    (r : Reading) (seen : List (List ℕ)) (key : Key) (k : List ℕ) (m : Option Breach) (z : List Cell) → IsKey r key
    → AreClear (key_cells r seen key m z) → From bytes at (key_text key k) → From bytes end (key.after ++ 58 ∷ k)
    → is ≡ names t (bytes_of key.items)

-- whether a token names the key whose string this is
abbrev pub NamesQuoted : List ℕ → List ℕ → Bool → Type 0
NamesQuoted quoted t is =
    (r : Reading) (seen : List (List ℕ)) (key : Key) (m : Option Breach) (z : List Cell) → IsKey r key
    → AreClear (key_cells r seen key m z) → quoted ≡ encode_utf8_all (node_text (Node.string key.items) [])
    → is ≡ names t (bytes_of key.items)

-- The walk over the entry at an offset, with the value `before` found in those before it: another one is found if the
-- token names the entry's key.
abbrev pub Passes : List ℕ → Bool → ℕ → List (List ℕ) → ℕ → ℕ → Entry → Option Spot → Passed → Type 0
Passes bytes unique most ts depth at e before w =
    (r : Reading) (t : List ℕ) (us seen : List (List ℕ)) (key : Key) (b : List ℕ) (n : Node) (c : List ℕ) (ms : Members)
    (k : List ℕ) (o : Option Named) → ts ≡ t ∷ us → Goes unique most r → Enters r bytes depth seen at key b n c ms k
    → IsEntry bytes key b n (c ++ members_text ms k) e → IsSpotOf bytes before (option_and_then (named_in us) o)
    → IsSpotOf bytes w.found (option_and_then (named_in us)
    (if names t (bytes_of key.items) then Some (keyed key b n c ms k) else o))
    × MatchOption w.end ((unique ≡ true) × (names t (bytes_of key.items) ≡ true)) (λ e. From bytes e (members_text ms k))

-- an element of an array inside `depth` containers, with those after it, is of the grammar and breaks no limit
pub record AreWithin (r : Reading) (depth : ℕ) (n : Node) (c : List ℕ) (es : Elements) : Type 0 where
  pub grammar : IsNode r n × IsWhitespace r c × AreElements r es
  pub clear : (m : Option Breach) × (z : List Cell) × AreClear (node_cells r n (suc depth) m
      (plain c (elements_cells r es (suc depth) z)))

-- the offset is that of an element, with what stands there
pub record IsElement (r : Reading) (bytes : List ℕ) (depth : ℕ) (k : List ℕ) (o : Option Named) (at : ℕ) : Type 0 where
  pub node : Node
  pub blanks : List ℕ
  pub others : Elements
  pub within : AreWithin r depth node blanks others
  pub text : From bytes at (node_text node (blanks ++ elements_text others k))
  pub named : o ≡ Some (unnamed node (blanks ++ elements_text others k))

-- the element that a token names in the array whose bracket ends at an offset, or none
abbrev pub ReadsElement : List ℕ → ℕ → List ℕ → Option ℕ → Type 0
ReadsElement bytes start t o =
    ((r : Reading) (depth : ℕ) (b : List ℕ) (n : Node) (c : List ℕ) (es : Elements) (k : List ℕ) → IsWhitespace r b
    → AreWithin r depth n c es → From bytes start (b ++ node_text n (c ++ elements_text es k))
    → MatchOption o (option_and_then (element_named n c es k) (index_named t) ≡ None)
    (IsElement r bytes depth k (option_and_then (element_named n c es k) (index_named t))))
    × ((r : Reading) (b k : List ℕ) → IsWhitespace r b → From bytes start (b ++ 93 ∷ k) → o ≡ None)
