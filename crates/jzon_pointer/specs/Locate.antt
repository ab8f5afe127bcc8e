-- Which value of a text a pointer names (RFC 6901, section 4), by the tree that the text spells, and where it stands.
use Rattle.std.specs.Prelude.{◌≡◌, ⊤, take, drop, chars, map, ℕ, zero, suc, List, [], ◌∷◌, ◌++◌, Option, None, Some, Bool, false, ◌==◌}
use Rattle.std.specs.Prelude.{if◌then◌else◌, option_and_then, option_map, encode_utf8_all}
use Rattle.std.specs.Result.{result_ok}
use Rattle.std.specs.Str.{IsCharBoundary}
use Rattle.jzon.specs.Fault.{line, column}
use Rattle.jzon.specs.Grammar.{Node, Elements, no_elements, element, Members, no_members, member, Key, Document}
use Rattle.jzon.specs.Meaning.{meaning, bytes_of}
use Rattle.jzon.specs.Reading.{usual}
use Rattle.jzon.specs.Spelling.{Cell, plain, node_cells, elements_cells, members_cells}
use Rattle.jzon.specs.declared.place.Place.{Place}
use Rattle.jzon_pointer.specs.Pointer.{index_named, names, tokens_of, value_at}

-- the characters of cells
abbrev pub spelled : List Cell → List ℕ
spelled = map (λ x. x.char)

-- the characters of a value, and those after it
unfoldable pub node_text : Node → List ℕ → List ℕ
node_text n k = spelled (node_cells usual n 0 None (plain k []))

-- the same of the elements after a first one, from the comma or the closing bracket on
unfoldable pub elements_text : Elements → List ℕ → List ℕ
elements_text es k = spelled (elements_cells usual es 0 (plain k []))

-- the same of entries
unfoldable pub members_text : Members → List ℕ → List ℕ
members_text ms k = spelled (members_cells usual ms [] 0 (plain k []))

-- the same of a key, from its opening quote on, with its colon
abbrev pub key_text : Key → List ℕ → List ℕ
key_text key k = node_text (Node.string key.items) (key.after ++ 58 ∷ k)

-- A value of a text: its tree, the characters after it, and the text from its key's opening quote on, or from the value
-- on if it has no key.
pub record Named : Type 0 where
  pub node : Node
  pub after : List ℕ
  pub from : List ℕ

-- the text from a value on
abbrev pub value_text : Named → List ℕ
value_text p = node_text p.node p.after

-- a value without a key
abbrev pub unnamed : Node → List ℕ → Named
unnamed n k = record { node = n; after = k; from = node_text n k }

-- the element at an index, where n is the first, c the whitespace after it, es are further ones and k the text after the
-- array
abbrev pub element_named : Node → List ℕ → Elements → List ℕ → ℕ → Option Named
element_named n c es k zero = Some (unnamed n (c ++ elements_text es k))
element_named n c no_elements k (suc i) = None
element_named n c (element b m e es) k (suc i) = element_named m e es k i

-- an entry's value
abbrev pub keyed : Key → List ℕ → Node → List ℕ → Members → List ℕ → Named
keyed key b n c ms k = record {
  node = n;
  after = c ++ members_text ms k;
  from = key_text key (b ++ node_text n (c ++ members_text ms k));
}

-- the value of the last entry whose key the token names, or the one that was found before
abbrev pub last_named : List ℕ → Members → List ℕ → Option Named → Option Named
last_named t no_members k found = found
last_named t (member key b n c ms) k found =
    last_named t ms k (if names t (bytes_of key.items) then Some (keyed key b n c ms k) else found)

-- the child of a value, before the text k, that a token names
abbrev pub child_named : List ℕ → Node → List ℕ → Option Named
child_named t (Node.array b n c es) k = option_and_then (element_named n c es k) (index_named t)
child_named t (Node.object key b n c ms) k = last_named t (member key b n c ms) k None
child_named t _ k = None

-- the value to which tokens lead
abbrev pub named_in : List (List ℕ) → Named → Option Named
named_in [] p = Some p
named_in (t ∷ ts) p = option_and_then (named_in ts) (child_named t p.node p.after)

-- the value of a text that a pointer names
abbrev pub pointed : Document → List ℕ → Option Named
pointed d pointer = option_and_then (λ ts. named_in ts (unnamed d.node d.after)) (tokens_of pointer)

-- in each tree it means what the pointer names in the value that the tree means, and is there if that is there
abbrev pub IsMeant : List ℕ → Type 0
IsMeant pointer = (d : Document)
    → option_map (λ p. meaning p.node) (pointed d pointer) ≡ result_ok (value_at (meaning d.node) pointer)

-- whether a pointer begins with a slash, so that it has a token
abbrev pub has_slash : List ℕ → Bool
has_slash [] = false
has_slash (c ∷ cs) = c == 47

-- the place of a character or of the end of a text
abbrev pub IsPlaceIn : List ℕ → Place → Type 0
IsPlaceIn bytes p = IsCharBoundary bytes p.offset × (p.line ≡ line (chars (take p.offset bytes)))
    × (p.column ≡ column (chars (take p.offset bytes)))

-- the place is that from which on the bytes are those of a part of this value; there is none if there is no value
abbrev pub IsPlaceOf : List ℕ → (Named → List ℕ) → Option Place → Option Named → Type 0
IsPlaceOf bytes part None None = ⊤
IsPlaceOf bytes part (Some p) (Some w) = drop p.offset bytes ≡ encode_utf8_all (part w)
IsPlaceOf bytes part _ _ = ⊥
