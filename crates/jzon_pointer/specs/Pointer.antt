-- What a pointer's text leads to in a value, and what changes there (RFC 6901). A text, a token and a key are their
-- bytes; a token is as it is written, between two slashes.
use Rattle.std.specs.Prelude.{◌≡◌, IsErr, ℕ, suc, ◌+◌, ◌^◌, List, [], ◌∷◌, ◌++◌, length, Bool, false, not, ◌&&◌, ◌==◌, nat_lt, if◌then◌else◌}
use Rattle.std.specs.Prelude.{Option, None, Some, option_and_then, option_map, slice_index, slice_get, slice_set, Result, Ok, Err}
use Rattle.std.specs.Char.{is_ascii_digit}
use Rattle.std.specs.List.{count_by, list_all, insert, remove}
use Rattle.std.specs.Option.{is_some, ok_or, option_map_or}
use Rattle.std.specs.Str.{bytes_eq}
use Rattle.std.specs.Str.Parse.{digits_value}
use Rattle.jzon.specs.PairList.{find, put, cut}
use Rattle.jzon.specs.Value.{Value, null, boolean, text, number, array, object, list_of_values, list_of_pairs, values_of, pairs_of}
use Rattle.jzon_pointer.specs.declared.pointer.PointerError.{PointerError}
use Rattle.jzon_pointer.specs.declared.pointer.PointerError.TheVariants.{NoSlash, Missing, WholeValue}
use Rattle.jzon_pointer.specs.declared.pointer.Primitive.TheVariants.{Null, Boolean, Number, String}
use Rattle.jzon_pointer.specs.declared.pointer.Reason.{Reason}
use Rattle.jzon_pointer.specs.declared.pointer.Reason.TheVariants.{BadEscape, NoMember, NotAnIndex, OutOfRange, NoChildren}

-- ---- the text (section 3)

-- the tokens of a text that goes on after a slash, of whose first token some bytes are read already
abbrev pub tokens_after : List ℕ → List ℕ → List (List ℕ)
tokens_after t [] = t ∷ []
tokens_after t (c ∷ cs) = if c == 47 then t ∷ tokens_after [] cs else tokens_after (t ++ c ∷ []) cs

-- the tokens of a text without its first slash
abbrev pub tokens_in : List ℕ → List (List ℕ)
tokens_in cs = tokens_after [] cs

-- the tokens of a pointer: none of an empty text
abbrev pub tokens_of : List ℕ → Option (List (List ℕ))
tokens_of [] = Some []
tokens_of (c ∷ cs) = if c == 47 then Some (tokens_in cs) else None

-- the key that a token means: `~0` is `~`, and `~1` is `/`; none if another `~` is in it
abbrev mutual
  pub token_key : List ℕ → Option (List ℕ)
  token_key [] = Some []
  token_key (c ∷ cs) = if c == 126 then after_tilde cs else option_map (λ k. c ∷ k) (token_key cs)

  -- the same, of what follows a `~`
  pub after_tilde : List ℕ → Option (List ℕ)
  after_tilde [] = None
  after_tilde (c ∷ cs) =
      if c == 48 then option_map (λ k. 126 ∷ k) (token_key cs)
      else (if c == 49 then option_map (λ k. 47 ∷ k) (token_key cs) else None)

-- ---- what it leads to (section 4)

-- digits, with no zero before others
abbrev pub is_index : List ℕ → Bool
is_index t = nat_lt 0 (length t) && list_all is_ascii_digit t && not (nat_lt 1 (length t) && (slice_index t 0 == 48))

-- the index that a token names, where it fits a usize; no array is longer
abbrev pub index_named : List ℕ → Option ℕ
index_named t = if is_index t && nat_lt (digits_value 10 t) (2 ^ 64) then Some (digits_value 10 t) else None

-- the entry's value or the element that a token names
abbrev pub child_of : Value → List ℕ → Option Value
child_of (object ps) t = option_and_then (λ k. find k (list_of_pairs ps)) (token_key t)
child_of (array vs) t = option_and_then (λ i. slice_get (list_of_values vs) i) (index_named t)
child_of _ t = None

-- why a token names nothing in a value
abbrev pub reason_in : Value → List ℕ → Reason
reason_in (object ps) t = NoMember
reason_in (array vs) t = if is_index t then OutOfRange (length (list_of_values vs)) else NotAnIndex
reason_in null t = NoChildren Null
reason_in (boolean b) t = NoChildren Boolean
reason_in (number n) t = NoChildren Number
reason_in (text k s) t = NoChildren String

-- why a token names nothing, and first that a `~` in it means nothing
abbrev pub reason_of : Value → List ℕ → Reason
reason_of v t = if is_some (token_key t) then reason_in v t else BadEscape

-- f of a result, or its error
abbrev pub and_then : {A B E : Type 0} → (A → Result B E) → Result A E → Result B E
and_then f (Ok a) = f a
and_then f (Err e) = Err e

-- the error of a token that names nothing, and begins at byte i of the pointer
abbrev pub missing : ℕ → Value → List ℕ → PointerError
missing i v t = Missing i (i + length t) (reason_of v t)

-- The value to which tokens lead, the first of which begins at byte i of the pointer; or the first token that names
-- nothing. After a token is a slash, and then the next.
abbrev pub found : ℕ → Value → List (List ℕ) → Result Value PointerError
found i v [] = Ok v
found i v (t ∷ ts) = and_then (λ c. found (suc (i + length t)) c ts) (ok_or (child_of v t) (missing i v t))

-- the value that a pointer names; its first token begins after its first slash
abbrev pub value_at : Value → List ℕ → Result Value PointerError
value_at v path = and_then (found 1 v) (ok_or (tokens_of path) NoSlash)

-- the same, of an entry or an element
abbrev pub entry_at : Value → List ℕ → Result Value PointerError
entry_at v [] = Err WholeValue
entry_at v (c ∷ cs) = value_at v (c ∷ cs)

-- whether a token names a key
abbrev pub names : List ℕ → List ℕ → Bool
names t k = option_map_or (bytes_eq k) (token_key t) false

-- ---- what changes there

-- w in the place of the child that a token names
abbrev pub with_child : Value → List ℕ → Value → Value
with_child (object ps) t w = object (pairs_of (option_map_or (λ k. put k w (list_of_pairs ps)) (token_key t) (list_of_pairs ps)))
with_child (array vs) t w = array (values_of (option_map_or (λ i. slice_set (list_of_values vs) i w) (index_named t) (list_of_values vs)))
with_child v t w = v

-- f of the value to which tokens lead, in its place; none if there is no such value
abbrev pub updated : (Value → Option Value) → Value → List (List ℕ) → Option Value
updated f v [] = f v
updated f v (t ∷ ts) = option_map (with_child v t) (option_and_then (λ c. updated f c ts) (child_of v t))

-- f of the value that a pointer names, in its place; none if there is no such value
abbrev pub updated_at : (Value → Option Value) → Value → List ℕ → Option Value
updated_at f v path = option_and_then (updated f v) (tokens_of path)

-- f of the last token, and of the value to which those before it lead
abbrev pub changed : (Value → List ℕ → Option Value) → Value → List (List ℕ) → Option Value
changed f v [] = None
changed f v (t ∷ []) = f v t
changed f v (t ∷ u ∷ ts) = option_map (with_child v t) (option_and_then (λ c. changed f c (u ∷ ts)) (child_of v t))

-- where a token puts a new element among n: `-` is after the last
abbrev pub new_index : List ℕ → ℕ → Option ℕ
new_index t n = if bytes_eq t (45 ∷ []) then Some n else option_and_then (λ i. if nat_lt n i then None else Some i) (index_named t)

-- with w as a new child that a token names; a key that is there gets it as its value
abbrev pub with_new : Value → Value → List ℕ → Option Value
with_new w (object ps) t = option_map (λ k. object (pairs_of (put k w (list_of_pairs ps)))) (token_key t)
with_new w (array vs) t =
    option_map (λ i. array (values_of (insert (list_of_values vs) i w))) (new_index t (length (list_of_values vs)))
with_new w v t = None

-- with w inserted at a pointer; none if nothing can be inserted there
abbrev pub inserted_at : Value → Value → List ℕ → Option Value
inserted_at w v path = option_and_then (changed (with_new w) v) (tokens_of path)

-- without the child that a token names
abbrev pub without : Value → List ℕ → Option Value
without (object ps) t = option_and_then (λ k. option_map (λ c. object (pairs_of (cut k (list_of_pairs ps)))) (find k (list_of_pairs ps))) (token_key t)
without (array vs) t = option_and_then (λ i. option_map (λ c. array (values_of (remove (list_of_values vs) i))) (slice_get (list_of_values vs) i)) (index_named t)
without v t = None

-- without the entry or the element that a pointer names; none if there is none
abbrev pub removed_at : Value → List ℕ → Option Value
removed_at v path = option_and_then (changed without v) (tokens_of path)

-- the tokens that are left of a pointer, of the text after a slash
abbrev pub tokens_left : Option (List ℕ) → List (List ℕ)
tokens_left None = []
tokens_left (Some cs) = tokens_in cs

-- the tokens lead from v to old, and with new in its place v is w
abbrev pub ChangesAt : Value → List (List ℕ) → Value → Value → Value → Type 0
ChangesAt v ts old new w = ((i : ℕ) → found i v ts ≡ Ok old) × (updated (λ _. Some new) v ts ≡ Some w)

-- the tokens lead to no value, and w is v
abbrev pub LacksAt : Value → List (List ℕ) → Value → Type 0
LacksAt v ts w = ((i : ℕ) → IsErr (found i v ts)) × (w ≡ v)

-- a pointer's tokens are these and then this one
pub record IsLast (path : List ℕ) (ts : List (List ℕ)) (t : List ℕ) : Type 0 where
  pub tokens : tokens_of path ≡ Some (ts ++ t ∷ [])
  pub entry : (v : Value) → entry_at v path ≡ value_at v path

-- the tokens of a pointer: its slashes
abbrev pub slashes : List ℕ → ℕ
slashes path = count_by (λ c. c == 47) path
