-- The containers that are open at the parser's cursor, with what each holds so far, as the automaton sees them.
use Rattle.std.specs.Prelude.{◌≡◌, ◌≢◌, ◌+◌, ◌<◌, ℕ, Bool, true, false, Option, Some, None, List, [], ◌∷◌, ◌++◌, length, map}
use Rattle.std.specs.List.{zip}
use Rattle.jzon_base.specs.PairList.{put_each}
use Rattle.jzon_tree.specs.Value.{Value, array, values_of, object, pairs_of}
use Rattle.jzon_tree.specs.View.{view, viewed}
use Rattle.jzon_tree.specs.declared.value.JsonValue.{JsonValue}
use Rattle.jzon.specs.Private.Brackets.{closer, after_opener}
use Rattle.jzon.specs.Private.Cursor.{next_byte}
use Rattle.jzon.specs.Private.Machine.{EntriesSoFar, Frames, no_frames, array_frame, object_frame}
use Rattle.jzon.specs.Private.Machine.{State, before, before_key, after_value}
use Rattle.jzon.specs.declared.container_kind.ContainerKind.{ContainerKind}
use Rattle.jzon.specs.declared.container_kind.ContainerKind.TheVariants.{Array, Object}
use Rattle.jzon.specs.declared.cursor.Cursor.{Cursor}

-- what an open container holds so far; an object has one key more than values if the value of the last key comes next
pub record Container : Type 0 where
  pub kind : ContainerKind
  pub keys : List (List ℕ)
  pub values : List JsonValue

-- the innermost open container and those around it, from the inside out; a strict reading rejects a repeated key
pub record OpenContainers : Type 0 where
  pub strict : Bool
  pub innermost : Container
  pub around : List Container

-- the entries of an object whose values are read: a repeated key has its first position and its last value
abbrev pub entries_so_far : Container → EntriesSoFar
entries_so_far c = viewed (put_each (zip c.keys c.values))

-- the last of these keys
abbrev pub last_key : List (List ℕ) → List ℕ
last_key [] = []
last_key (k ∷ []) = k
last_key (k ∷ l ∷ ks) = last_key (l ∷ ks)

-- the frames fs with this container opened inside, of which a value comes next
abbrev pub open_as : ContainerKind → Frames → Container → Frames
open_as Array fs c = array_frame fs (map view c.values)
open_as Object fs c = object_frame fs (entries_so_far c) (last_key c.keys)

-- the same, by the container's own kind
abbrev pub open_in : Frames → Container → Frames
open_in fs c = open_as c.kind fs c

-- the frames of these containers, the innermost first
abbrev pub frames_in : List Container → Frames
frames_in [] = no_frames
frames_in (c ∷ cs) = open_in (frames_in cs) c

-- the frames of all containers but the innermost
abbrev pub frames_around : OpenContainers → Frames
frames_around s = frames_in s.around

-- the frames of all containers
abbrev pub frames_here : OpenContainers → Frames
frames_here s = open_in (frames_around s) s.innermost

-- what the container means if it ends here
abbrev pub whole_as : ContainerKind → Container → Value
whole_as Array c = array (values_of (map view c.values))
whole_as Object c = object (pairs_of (entries_so_far c))

-- the same, by the container's own kind
abbrev pub whole : Container → Value
whole c = whole_as c.kind c

-- the state before an element or a key of the container, inside of fs
abbrev pub before_item_as : ContainerKind → Frames → Container → State
before_item_as Array fs c = before (array_frame fs (map view c.values))
before_item_as Object fs c = before_key fs (entries_so_far c)

-- the state before an element or a key of the innermost container
abbrev pub before_item : OpenContainers → State
before_item s = before_item_as s.innermost.kind (frames_around s) s.innermost

-- no key is without its value
abbrev pub HasAllValues : ContainerKind → Container → Type 0
HasAllValues Array c = c.keys ≡ []
HasAllValues Object c = length c.keys ≡ length c.values

-- the last key of an object is without its value
abbrev pub AwaitsValue : ContainerKind → Container → Type 0
AwaitsValue Array c = c.keys ≡ []
AwaitsValue Object c = length c.keys ≡ length c.values + 1

-- the container with one more value
abbrev pub with_value : Container → JsonValue → Container
with_value c v = record { kind = c.kind; keys = c.keys; values = c.values ++ v ∷ [] }

-- a container of this kind with nothing in it yet
abbrev pub new_container : ContainerKind → Container
new_container b = record { kind = b; keys = []; values = [] }

-- with one more value in the innermost container
abbrev pub value_added : OpenContainers → JsonValue → OpenContainers
value_added s v = record { strict = s.strict; innermost = with_value s.innermost v; around = s.around }

-- with one more container opened inside of the innermost one
abbrev pub container_added : OpenContainers → ContainerKind → OpenContainers
container_added s b =
    record { strict = s.strict; innermost = new_container b; around = s.innermost ∷ s.around }

-- with one more key in the innermost one
abbrev pub key_added : OpenContainers → List ℕ → OpenContainers
key_added s k = record {
  strict = s.strict;
  innermost = record {
    kind = s.innermost.kind;
    keys = s.innermost.keys ++ k ∷ [];
    values = s.innermost.values;
  };
  around = s.around;
}

-- with nothing in the innermost one
abbrev pub innermost_ended : OpenContainers → OpenContainers
innermost_ended s =
    record { strict = s.strict; innermost = new_container s.innermost.kind; around = s.around }

-- the state after elements or entries of the innermost container: it ended, or another one that isn't empty was opened
-- in it
abbrev pub after_items : OpenContainers → Option ContainerKind → State
after_items s None = after_value (frames_around s) (whole s.innermost)
after_items s (Some b) = after_opener b (frames_here s)

-- an element or a key comes next, in containers that the reading allows
pub record IsBeforeItem (t : Cursor) (s : OpenContainers) : Type 0 where
  pub even : HasAllValues s.innermost.kind s.innermost
  pub room : length s.around < t.reading.depth
  pub some : s.innermost.values ≡ [] → next_byte t ≢ closer s.innermost.kind

-- the innermost container ended, or the reading allows the one that was opened in it, in which something comes next
abbrev pub IsAfterItems : Cursor → OpenContainers → Option ContainerKind → Type 0
IsAfterItems t s None = HasAllValues s.innermost.kind s.innermost
IsAfterItems t s (Some b) =
    AwaitsValue s.innermost.kind s.innermost × (length s.around + 1 < t.reading.depth) × (next_byte t ≢ closer b)

-- the state after containers that ended: the innermost one ended if it is the outermost too
abbrev pub after_end : OpenContainers → Bool → State
after_end s false = before_item s
after_end s true = after_items s None

-- an element or a key comes next, or the innermost container, which ended, is the outermost one
abbrev pub IsAfterEnd : Cursor → OpenContainers → Bool → Type 0
IsAfterEnd t s false = IsBeforeItem t s
IsAfterEnd t s true = (s.around ≡ []) × HasAllValues s.innermost.kind s.innermost

-- the value of the innermost container of s, which ended, was added to the one around it
pub record IsAdded (s : OpenContainers) (value : JsonValue) (t : OpenContainers) : Type 0 where
  pub outer : Container
  pub rest : List Container
  pub around : s.around ≡ outer ∷ rest
  pub awaits : AwaitsValue outer.kind outer
  pub closed : t ≡ record { strict = s.strict; innermost = with_value outer value; around = rest }

-- the innermost container of s ended, and its value was added to the one around it
pub record IsClosed (s t : OpenContainers) : Type 0 where
  pub value : JsonValue
  pub means : view value ≡ whole s.innermost
  pub added : IsAdded s value t

-- the containers around the innermost one, and its kind, are as before
pub record KeepsAround (s t : OpenContainers) : Type 0 where
  pub strict : t.strict ≡ s.strict
  pub kind : t.innermost.kind ≡ s.innermost.kind
  pub around : t.around ≡ s.around
