-- The brackets of arrays and objects: where the automaton is after each.
use Rattle.std.specs.Prelude.{ℕ, Option, Some, None, ◌++◌, ◌∷◌, []}
use Rattle.jzon_base.specs.PairList.{put}
use Rattle.jzon_base.specs.Tokens.{begin_array, end_array, begin_object, end_object}
use Rattle.jzon_tree.specs.Value.{Value, no_values, values_of, no_pairs, pairs_of}
use Rattle.jzon_tree.specs.Value as value
use Rattle.jzon.specs.Private.Machine.{Frames, no_frames, array_frame, object_frame, State, before, before_key}
use Rattle.jzon.specs.Private.Machine.{after_value}
use Rattle.jzon.specs.declared.container_kind.ContainerKind.{ContainerKind}
use Rattle.jzon.specs.declared.container_kind.ContainerKind.TheVariants.{Array, Object}

-- the opening bracket of a container
abbrev pub opener : ContainerKind → ℕ
opener Array = begin_array
opener Object = begin_object

-- the closing bracket
abbrev pub closer : ContainerKind → ℕ
closer Array = end_array
closer Object = end_object

-- the empty array or object
abbrev pub empty_container : ContainerKind → Value
empty_container Array = value.array no_values
empty_container Object = value.object no_pairs

-- the state after the opening bracket of a container in fs
abbrev pub after_opener : ContainerKind → Frames → State
after_opener Array fs = before (array_frame fs [])
after_opener Object fs = before_key fs []

-- the kind of the innermost open container
abbrev pub innermost_kind : Frames → Option ContainerKind
innermost_kind no_frames = None
innermost_kind (array_frame fs vs) = Some Array
innermost_kind (object_frame fs es k) = Some Object

-- the state after the comma that follows the element or entry with the value v of the innermost container
abbrev pub after_comma : Frames → Value → State
after_comma no_frames v = after_value no_frames v
after_comma (array_frame fs vs) v = before (array_frame fs (vs ++ v ∷ []))
after_comma (object_frame fs es k) v = before_key fs (put k v es)

-- the state after the closing bracket that follows it
abbrev pub after_closer : Frames → Value → State
after_closer no_frames v = after_value no_frames v
after_closer (array_frame fs vs) v = after_value fs (value.array (values_of (vs ++ v ∷ [])))
after_closer (object_frame fs es k) v = after_value fs (value.object (pairs_of (put k v es)))
