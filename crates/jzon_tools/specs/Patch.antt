-- What a patch makes of a value (RFC 6902).
use Rattle.std.specs.Prelude.{ℕ, suc, List, [], ◌∷◌, ◌+◌, ◌-◌, ◌<◌, length, nat_lt, nat_le, ◌==◌, ◌&&◌, slice_index, nat_eq, Bool, false, true, codes, if◌then◌else◌}
use Rattle.std.specs.Prelude.{◌≡◌, ◌⊎◌, ⊤, Result, Ok, Err, Option, None, Some, option_and_then, option_map}
use Rattle.std.specs.List.{starts_with}
use Rattle.std.specs.Option.{option_map_or}
use Rattle.std.specs.Result.{result_ok}
use Rattle.std.specs.Str.{bytes_eq}
use Rattle.jzon.specs.PairList.{find}
use Rattle.jzon.specs.Readers.{entries, is_object, text_in}
use Rattle.jzon.specs.Same.{same}
use Rattle.jzon.specs.Value.{Value, array, object, Values, no_values, value, nest, list_of_values, list_of_pairs}
use Rattle.jzon_pointer.specs.Pointer.{value_at, entry_at, inserted_at, removed_at, updated_at, slashes}
use Rattle.jzon_pointer.specs.Pointer.{tokens_of, child_of, index_named, new_index}
use Rattle.jzon_pointer.specs.Errors.{memory, what_of, SaysOrMemory}
use Rattle.jzon_pointer.specs.declared.error.Error.{Error}
use Rattle.jzon_pointer.specs.declared.error.What.TheVariants as what
use Rattle.jzon_pointer.specs.declared.error.parts.Cause.TheVariants.{NotAnArray, NotAnObject, Missing, NotAString, UnknownOp}
use Rattle.jzon_pointer.specs.declared.error.parts.Cause.TheVariants.{TestFailed, IntoItself, TooDeep, TooLarge}
use Rattle.jzon_pointer.specs.declared.error.parts.Member.{Member}
use Rattle.jzon_pointer.specs.declared.error.parts.Member.TheVariants as member
use Rattle.jzon_tools.specs.Weight.{weight}
use Rattle.jzon_tools.specs.declared.patch.Fault.{Fault}
use Rattle.jzon_tools.specs.declared.patch.Fault.TheVariants.{Pointer, Operation, OutOfMemory}
use Rattle.jzon_tools.specs.declared.patch.Limits.{Limits}
use Rattle.jzon_tools.specs.declared.patch.Op.{Op}
use Rattle.jzon_tools.specs.declared.patch.Op.TheVariants.{Add, Remove, Replace, Move, Copy, Test}

-- the value that a pointer names
abbrev pub value_of : Value → List ℕ → Option Value
value_of v path = result_ok (value_at v path)

-- the same, of an entry or an element
abbrev pub entry_of : Value → List ℕ → Option Value
entry_of v path = result_ok (entry_at v path)

-- ---- one operation (section 4)

-- with w at a pointer; the empty one replaces the whole value
abbrev pub added_at : Value → Value → List ℕ → Option Value
added_at w v [] = Some w
added_at w v (c ∷ cs) = inserted_at w v (c ∷ cs)

-- whether a pointer leads into what another one names
abbrev pub is_below : List ℕ → List ℕ → Bool
is_below path from =
    nat_lt (length from) (length path) && starts_with nat_eq path from && (slice_index path (length from) == 47)

-- with what `from` names at `path` in the place of where it was; none into itself
abbrev pub moved_at : Value → List ℕ → List ℕ → Option Value
moved_at v from path =
    if bytes_eq from path then option_map (λ _. v) (value_of v from)
    else (if is_below path from then None
    else option_and_then (λ w. option_and_then (λ u. added_at w u path) (removed_at v from)) (entry_of v from))

-- as it was, if what the pointer names equals w
abbrev pub tested_at : Value → Value → List ℕ → Option Value
tested_at w v path = option_and_then (λ x. if same x w then Some v else None) (value_of v path)

-- ---- reading an operation

-- the text of a member
abbrev pub text_at : List ℕ → Value → Option (List ℕ)
text_at k op = option_and_then text_in (find k (entries op))

-- the member `value`
abbrev pub operand : Value → Option Value
operand op = find (codes "value") (entries op)

-- what the member `op` means
abbrev pub op_named : List ℕ → Option Op
op_named s =
    if bytes_eq s (codes "add") then Some Add
    else (if bytes_eq s (codes "remove") then Some Remove
    else (if bytes_eq s (codes "replace") then Some Replace
    else (if bytes_eq s (codes "move") then Some Move
    else (if bytes_eq s (codes "copy") then Some Copy
    else (if bytes_eq s (codes "test") then Some Test else None)))))

-- the meaning of an operation's `op`
abbrev pub op_of : Value → Option Op
op_of op = option_and_then op_named (text_at (codes "op") op)

-- v after an operation with this meaning, at this path
abbrev pub operated_by : Op → List ℕ → Value → Value → Option Value
operated_by Add path op v = option_and_then (λ w. added_at w v path) (operand op)
operated_by Remove path op v = removed_at v path
operated_by Replace path op v = option_and_then (λ w. updated_at (λ _. Some w) v path) (operand op)
operated_by Move path op v = option_and_then (λ from. moved_at v from path) (text_at (codes "from") op)
operated_by Copy path op v =
    option_and_then (λ from. option_and_then (λ w. added_at w v path) (value_of v from)) (text_at (codes "from") op)
operated_by Test path op v = option_and_then (λ w. tested_at w v path) (operand op)

-- v after an operation
abbrev pub operated : Value → Value → Option Value
operated op v =
    option_and_then (λ o. option_and_then (λ path. operated_by o path op v) (text_at (codes "path") op)) (op_of op)

-- ---- a patch

-- v after each of these operations
abbrev pub applied_each : Values → Value → Option Value
applied_each no_values v = Some v
applied_each (value op ops) v = option_and_then (applied_each ops) (operated op v)

-- v after a patch; none if it is no array, or an operation can't be done
abbrev pub applied : Value → Value → Option Value
applied (array ops) v = applied_each ops v
applied _ v = None

-- ---- limits

-- whether a pointer has more tokens than another one
abbrev pub is_deeper : List ℕ → List ℕ → Bool
is_deeper path from = nat_lt (slashes from) (slashes path)

-- what `from` names, if `path` is deeper: elsewhere it nests no deeper than it did
abbrev pub deepened_at : Value → List ℕ → List ℕ → Option Value
deepened_at v from path = if is_deeper path from then value_of v from else None

-- what an operation with this meaning puts at its `path`, but for a move to a place that is no deeper
abbrev pub placed_by : Op → List ℕ → Value → Value → Option Value
placed_by Add path op v = operand op
placed_by Remove path op v = None
placed_by Replace path op v = operand op
placed_by Move path op v = option_and_then (λ from. deepened_at v from path) (text_at (codes "from") op)
placed_by Copy path op v = option_and_then (value_of v) (text_at (codes "from") op)
placed_by Test path op v = None

-- how many containers nest there, with those around it: what it puts is within one for each token
abbrev pub depth_by : Op → List ℕ → Value → Value → ℕ
depth_by o path op v = option_map_or (λ w. slashes path + nest w) (placed_by o path op v) 0

-- what it copies from elsewhere in the value
abbrev pub copied_by : Op → Value → Value → ℕ
copied_by Copy op v = option_map_or weight (option_and_then (value_of v) (text_at (codes "from") op)) 0
copied_by _ op v = 0

-- what it moves to a deeper place
abbrev pub moved_by : Op → List ℕ → Value → Value → ℕ
moved_by Move path op v = option_map_or weight (placed_by Move path op v) 0
moved_by _ path op v = 0

-- how many elements or entries change their places when the child that a token names is removed: those behind an
-- element, and all entries of an object, whose index is numbered anew
abbrev pub shifted_out : Value → List ℕ → ℕ
shifted_out (array vs) t = option_map_or (λ i. length (list_of_values vs) - suc i) (index_named t) 0
shifted_out (object ps) t = length (list_of_pairs ps)
shifted_out v t = 0

-- the same, when a new child that a token names is inserted
abbrev pub shifted_new : Value → List ℕ → ℕ
shifted_new (array vs) t =
    option_map_or (λ i. length (list_of_values vs) - i) (new_index t (length (list_of_values vs))) 0
shifted_new v t = 0

-- f of the last token, and of the value to which those before it lead; 0 if they lead to none
abbrev pub at_last : (Value → List ℕ → ℕ) → Value → List (List ℕ) → ℕ
at_last f v [] = 0
at_last f v (t ∷ []) = f v t
at_last f v (t ∷ u ∷ ts) = option_map_or (λ c. at_last f c (u ∷ ts)) (child_of v t) 0

-- the same of a pointer
abbrev pub shifted_at : (Value → List ℕ → ℕ) → Value → List ℕ → ℕ
shifted_at f v path = option_map_or (at_last f v) (tokens_of path) 0

-- how many a move shifts: none where it stays, and else those behind the old place, and then those behind the new one
abbrev pub shifted_move : Value → List ℕ → List ℕ → ℕ
shifted_move v from path =
    if bytes_eq from path then 0
    else shifted_at shifted_out v from + option_map_or (λ u. shifted_at shifted_new u path) (removed_at v from) 0

-- how many elements and entries an operation with this meaning shifts
abbrev pub shifted_by : Op → List ℕ → Value → Value → ℕ
shifted_by Add path op v = shifted_at shifted_new v path
shifted_by Remove path op v = shifted_at shifted_out v path
shifted_by Replace path op v = 0
shifted_by Move path op v = option_map_or (λ from. shifted_move v from path) (text_at (codes "from") op) 0
shifted_by Copy path op v = shifted_at shifted_new v path
shifted_by Test path op v = 0

-- how many containers nest at what an operation puts, as it stands in a patch; 0 if it has no meaning or no `path`
abbrev pub depth_in : Value → Value → ℕ
depth_in op v = option_map_or (λ o. option_map_or (λ path. depth_by o path op v) (text_at (codes "path") op) 0) (op_of op) 0

-- what it copies from elsewhere
abbrev pub copied_in : Value → Value → ℕ
copied_in op v = option_map_or (λ o. copied_by o op v) (op_of op) 0

-- what it moves to a deeper place
abbrev pub moved_in : Value → Value → ℕ
moved_in op v = option_map_or (λ o. option_map_or (λ path. moved_by o path op v) (text_at (codes "path") op) 0) (op_of op) 0

-- how many elements and entries it shifts
abbrev pub shifted_in : Value → Value → ℕ
shifted_in op v = option_map_or (λ o. option_map_or (λ path. shifted_by o path op v) (text_at (codes "path") op) 0) (op_of op) 0

-- whether an operation keeps within limits
abbrev pub is_within : Limits → Value → Value → Bool
is_within l op v =
    nat_le (depth_in op v) l.depth && nat_le (copied_in op v) l.copied && nat_le (moved_in op v) l.moved
    && nat_le (shifted_in op v) l.shifted

-- what an operation leaves of limits
abbrev pub left_after : Limits → Value → Value → Limits
left_after l op v = record {
  depth = l.depth;
  copied = l.copied - copied_in op v;
  moved = l.moved - moved_in op v;
  shifted = l.shifted - shifted_in op v;
}

-- v after an operation that keeps within limits
abbrev pub operated_within : Limits → Value → Value → Option Value
operated_within l op v = if is_within l op v then operated op v else None

-- v after each of these operations, if all keep within limits
abbrev pub each_within : Limits → Values → Value → Option Value
each_within l no_values v = Some v
each_within l (value op ops) v = option_and_then (each_within (left_after l op v) ops) (operated_within l op v)

-- v after a patch that keeps within limits
abbrev pub applied_within : Limits → Value → Value → Option Value
applied_within l (array ops) v = each_within l ops v
applied_within l _ v = None

-- the limits of `apply`
abbrev pub usual : Limits
usual = record { depth = 512; copied = 16777216; moved = 67108864; shifted = 67108864 }

-- an operation that can't be done within what is left of limits, its number, and the value before it
pub record Undone : Type 0 where
  pub number : ℕ
  pub operation : Value
  pub before : Value
  pub left : Limits

-- the first of these operations, numbered from i on, that can't be done on what those before it make of v
abbrev pub undone_at : ℕ → Limits → Values → Value → Option Undone
undone_at i l no_values v = None
undone_at i l (value op ops) v =
    option_map_or (undone_at (suc i) (left_after l op v) ops) (operated_within l op v)
    (Some (record { number = i; operation = op; before = v; left = l }))

-- the first operation of a patch that can't be done, numbered from 0; none if there is none, or it is no array
abbrev pub first_undone : Limits → Value → Value → Option Undone
first_undone l (array ops) v = undone_at 0 l ops v
first_undone l _ v = None

-- ---- why an operation can't be done

-- whether an operation with this meaning has a member `from`
abbrev pub has_from : Op → Bool
has_from Move = true
has_from Copy = true
has_from _ = false

-- whether it has a member `value`
abbrev pub has_value : Op → Bool
has_value Add = true
has_value Replace = true
has_value Test = true
has_value _ = false

-- the name of a member
abbrev pub name_of : Member → List ℕ
name_of member.Op = codes "op"
name_of member.Path = codes "path"
name_of member.From = codes "from"
name_of member.Value = codes "value"

-- the member is a pointer of the operation: its `path`, or its `from`
abbrev pub IsPointer : Member → Value → Type 0
IsPointer member.Path op = ⊤
IsPointer member.From op = option_map has_from (op_of op) ≡ Some true
IsPointer _ op = ⊥

-- the member has to be a string: `op`, or a pointer
abbrev pub IsText : Member → Value → Type 0
IsText member.Op op = ⊤
IsText m op = IsPointer m op

-- the member has to be there: such a string, or `value`
abbrev pub IsNeeded : Member → Value → Type 0
IsNeeded member.Value op = option_map has_value (op_of op) ≡ Some true
IsNeeded m op = IsText m op

-- whether an operation's meaning is a move
abbrev pub is_move : Option Op → Bool
is_move (Some Move) = true
is_move _ = false

-- the value in which the operation looks up its pointer m, if v is the one before it: v, or for the `path` of a move v
-- without what is at `from`
abbrev pub looked_in : Member → Value → Value → Option Value
looked_in member.Path op v =
    if is_move (op_of op) then option_and_then (removed_at v) (text_at (codes "from") op) else Some v
looked_in _ op v = Some v

-- the operation's pointer m is this path, and is looked up in u, if v is the value before the operation
pub record IsLookup (m : Member) (path : List ℕ) (u op v : Value) : Type 0 where
  pub pointer : IsPointer m op
  pub text : text_at (name_of m) op ≡ Some path
  pub place : looked_in m op v ≡ Some u

-- the operation takes away what its pointer m names, which the whole value, at the empty pointer, can't be
abbrev pub Takes : Member → Value → Type 0
Takes m op = (op_of op ≡ Some Remove) ⊎ ((op_of op ≡ Some Move) × (m ≡ member.From))

-- the operation is a test, and the value x at `path` isn't the wanted one, w
abbrev pub TestFails : Value → Value → Type 0
TestFails op v =
    (op_of op ≡ Some Test) × (path : List ℕ) × (x : Value) × (w : Value) × (text_at (codes "path") op ≡ Some path)
    × (value_of v path ≡ Some x) × (operand op ≡ Some w) × (same x w ≡ false)

-- the operation is a move, and `path` leads into what `from` names
abbrev pub MovesIntoItself : Value → Type 0
MovesIntoItself op =
    (op_of op ≡ Some Move) × (path : List ℕ) × (from : List ℕ) × (text_at (codes "path") op ≡ Some path)
    × (text_at (codes "from") op ≡ Some from) × (is_below path from ≡ true)

-- this is why an operation can't be done within limits, if v is the value before it; memory may be refused at any
abbrev pub IsCause : Fault → Limits → Value → Value → Type 0
IsCause (Operation NotAnArray) l op v = ⊥
IsCause (Operation NotAnObject) l op v = is_object op ≡ false
IsCause (Operation (Missing m)) l op v = IsNeeded m op × (find (name_of m) (entries op) ≡ None)
IsCause (Operation (NotAString m)) l op v =
    IsText m op × (w : Value) × (find (name_of m) (entries op) ≡ Some w) × (text_in w ≡ None)
IsCause (Operation UnknownOp) l op v = (s : List ℕ) × (text_at (codes "op") op ≡ Some s) × (op_named s ≡ None)
IsCause (Operation TestFailed) l op v = TestFails op v
IsCause (Operation IntoItself) l op v = MovesIntoItself op
IsCause (Operation TooDeep) l op v = l.depth < depth_in op v
IsCause (Operation TooLarge) l op v =
    (l.copied < copied_in op v) ⊎ ((l.moved < moved_in op v) ⊎ (l.shifted < shifted_in op v))
IsCause (Pointer m error) l op v =
    (path : List ℕ) × (u : Value) × IsLookup m path u op v × (entry_at u path ≡ Err error)
    × (path ≡ [] → Takes m op)
IsCause OutOfMemory l op v = ⊤

-- whether it is no fault of the operation: a limit, or that memory was refused
abbrev pub is_refusal : Fault → Bool
is_refusal (Operation TooDeep) = true
is_refusal (Operation TooLarge) = true
is_refusal OutOfMemory = true
is_refusal _ = false

-- ---- what an error says

-- the text of a member, or the empty one
abbrev pub pointer_in : Member → Value → List ℕ
pointer_in m op = option_map_or (λ text. text) (text_at (name_of m) op) []

-- The error says the fault of an operation and its number, and has a pointer: the one that leads nowhere, with its
-- member, or else the operation's `path`.
abbrev pub Reports : Error → Value → ℕ → Fault → Type 0
Reports e op n (Pointer m lost) =
    SaysOrMemory e (Some (what.Pointer lost)) (pointer_in m op) (Some n) (Some m) None
Reports e op n (Operation c) =
    SaysOrMemory e (Some (what.Operation c)) (pointer_in member.Path op) (Some n) None None
Reports e op n OutOfMemory = e ≡ memory

-- the error says that the patch is no array, or a fault of its first operation that can't be done, or an allocation
-- failed
abbrev pub SaysWhy : Option Undone → Error → Type 0
SaysWhy None e = SaysOrMemory e (Some (what.Operation NotAnArray)) [] None None None
SaysWhy (Some u) e =
    (fault : Fault) × IsCause fault u.left u.operation u.before × Reports e u.operation u.number fault

-- the error says a fault for which a patch can't be applied at all, or a limit, or an allocation failed
abbrev pub Refuses : Option Value → Error → Type 0
Refuses o e =
    (e ≡ memory) ⊎ ((what_of e ≡ Some (what.Operation TooDeep))
    ⊎ ((what_of e ≡ Some (what.Operation TooLarge)) ⊎ (o ≡ None)))

-- this is the error of a patch within limits
pub record IsErrorOf (l : Limits) (patch v : Value) (e : Error) : Type 0 where
  pub undone : Refuses (applied patch v) e
  pub why : (e ≡ memory) ⊎ SaysWhy (first_undone l patch v) e

-- ---- what a step returns

-- w is what there is to be, or there is nothing to be; or it was refused
abbrev pub IsDone : {A : Type 0} → Option Value → Value → Result A Fault → Type 0
IsDone o w (Ok _) = o ≡ Some w
IsDone o w (Err e) = (is_refusal e ≡ true) ⊎ (o ≡ None)

-- a copy of v after a step: that before it, or a new one if there was none
abbrev pub IsBackup : Value → Option Value → Option Value → Type 0
IsBackup v None new = (new ≡ None) ⊎ (new ≡ Some v)
IsBackup v (Some b) new = new ≡ Some b
