-- An error of a reading: one that is new, one with a step before its pointer, one without its value, and one of a text.
use Rattle.std.proofs.Common.{◌≡◌, ◌⊎◌, ◌<◌, ◌^◌, ℕ, Bor, List, [], ◌∷◌, ◌++◌, Option, None, Some, MatchOption, IfSome, true, false}
use Rattle.std.proofs.Common.{refl, sym, ap, ◌∙◌, subst, inl, inr, append_assoc, append-nil, option_map, chars, decimal, length, map, slice_get}
use Rattle.std.specs.Option.{is_some}
use Rattle.std.specs.Prelude.{⊤}
use Rattle.jzon.specs.Answer.{IsMeaningOf}
use Rattle.jzon.specs.Error as text
use Rattle.jzon.specs.Error.TheVariants as fault
use Rattle.jzon.specs.JsonValue.{JsonValue}
use Rattle.jzon.specs.Located.{IsErrorAt, IsLocated}
use Rattle.jzon.specs.PairList.{find}
use Rattle.jzon.specs.Readers.{entries, is_object, items, text_in}
use Rattle.jzon.specs.Reading.{Reading}
use Rattle.jzon.specs.Value.{Value}
use Rattle.jzon.specs.View.{view}
use Rattle.jzon.specs.declared.located.LocatedError.{LocatedError}
use Rattle.jzon.specs.declared.place.Place.{Place}
use Rattle.jzon_typed.specs.Decode.{HidesValue, HidesWhat, IsErrorIn, IsErrorOfText, IsWhatIn}
use Rattle.jzon_typed.specs.DecodeExpected.{Refuses}
use Rattle.jzon_pointer.specs.Found.{FoundIs, shows_value}
use Rattle.jzon_typed.specs.Integers.{may_be_cut_in}
use Rattle.jzon_pointer.specs.Errors.{error_at, hidden_found, hidden_what, located_error, member_of, memory, operation_of, place_of, pointer_of, text_of, what_of, Becomes, BecomesOrMemory, Says, SaysOrMemory}
use Rattle.jzon_pointer.specs.Escaped.{escaped}
use Rattle.jzon_pointer.specs.Locate.{IsPlaceIn}
use Rattle.jzon_pointer.specs.Names.{is_among}
use Rattle.jzon_pointer.specs.Placed.{IsPlacedBy}
use Rattle.jzon_pointer.specs.Pointer.{child_of}
use Rattle.jzon_pointer.specs.declared.error.Error.{Error}
use Rattle.jzon_pointer.specs.declared.error.What.{What}
use Rattle.jzon_pointer.specs.declared.error.What.TheVariants as what
use Rattle.jzon_pointer.specs.declared.error.parts.Expected.{Expected}
use Rattle.jzon_pointer.specs.declared.error.parts.Found.{Found}
use Rattle.jzon_pointer.specs.declared.error.parts.Found.TheVariants as found
use Rattle.jzon_pointer.proofs.ChildSteps.{below-value, key-child}
use Rattle.jzon_pointer.proofs.EscapedSteps.{lacks-escaped}
use Rattle.jzon_pointer.proofs.IndexSteps.{index-child, lacks-decimal}
use Rattle.jzon_pointer.proofs.TokenSteps.{Lacks}

module _ {X : Type 0} where
  by-none : (o : Option X) (N : Type 0) (Q : X → Type 0) → o ≡ None → MatchOption o N Q → N
  by-none None N Q is h = h
  by-none (Some x) N Q is h = absurd (cc)

  by-some : (o : Option X) (N : Type 0) (Q : X → Type 0) (x : X) → o ≡ Some x → MatchOption o N Q → Q x
  by-some None N Q x is h = absurd (cc)
  by-some (Some y) N Q x is h = let same : y ≡ x = cc in subst Q same h

  none-by : (o : Option X) (N : Type 0) (Q : X → Type 0) → o ≡ None → N → MatchOption o N Q
  none-by None N Q is h = h
  none-by (Some x) N Q is h = absurd (cc)

  if-none : (o : Option X) (Q : X → Type 0) → o ≡ None → IfSome o Q
  if-none None Q is = tt
  if-none (Some x) Q is = absurd (cc)

  if-some : (o : Option X) (Q : X → Type 0) (x : X) → o ≡ Some x → Q x → IfSome o Q
  if-some None Q x is h = absurd (cc)
  if-some (Some y) Q x is h = let same : x ≡ y = cc in subst Q same h

-- ---- an error that is new

new-error : (v : Value) (e : Error) (w : What) → SaysOrMemory e (Some w) [] None None None → IsWhatIn v w []
    → IsErrorIn v e
new-error v e w (inl is) h = inl is
new-error v e w (inr s) h = inr (w, s.what, subst (IsWhatIn v w) (sym s.pointer) h, s.operation, s.member, s.place)

pub wrong-error : (v : Value) (e : Error) (x : Expected) (f : Found)
    → SaysOrMemory e (Some (what.Wrong x f)) [] None None None → FoundIs f v → Refuses x v → IsErrorIn v e
wrong-error v e x f s is refused = new-error v e (what.Wrong x f) s (v, refl, is, refused)

pub cut-error : (v : Value) (e : Error) (x : Expected) (f : Found)
    → SaysOrMemory e (Some (what.Cut x f)) [] None None None → FoundIs f v → may_be_cut_in v ≡ true → IsErrorIn v e
cut-error v e x f s is cut = new-error v e (what.Cut x f) s (v, refl, is, cut)

-- ---- a step before a pointer

-- a pointer in a child that ends in a key's token ends in it after the child's token
cut-below : (t r k q : List ℕ) → q ≡ r ++ 47 ∷ escaped k → (47 ∷ t) ++ q ≡ ((47 ∷ t) ++ r) ++ 47 ∷ escaped k
cut-below t r k q cut = ap (λ l. (47 ∷ t) ++ l) cut ∙ sym (append_assoc (47 ∷ t) r (47 ∷ escaped k))

-- what went wrong in a child went wrong in the value, after the child's token
what-below : (v c : Value) (t : List ℕ) (x : What) (q : List ℕ) → Lacks 47 t → child_of v t ≡ Some c → IsWhatIn c x q
    → IsWhatIn v x ((47 ∷ t) ++ q)
what-below v c t (what.Pointer e) q lacks at h = h
what-below v c t (what.Wrong x f) q lacks at (w, there, says, refused) =
    (w, below-value v c w t q lacks at there, says, refused)
what-below v c t (what.Cut x f) q lacks at (w, there, says, cut) =
    (w, below-value v c w t q lacks at there, says, cut)
what-below v c t (what.Missing x) q lacks at (r, k, o, cut, there, is_one, last) =
    ((47 ∷ t) ++ r, k, o, cut-below t r k q cut, below-value v c o t r lacks at there, is_one, last)
what-below v c t (what.Unknown known) q lacks at (r, k, o, cut, there, is_one, last) =
    ((47 ∷ t) ++ r, k, o, cut-below t r k q cut, below-value v c o t r lacks at there, is_one, last)
what-below v c t (what.Operation x) q lacks at h = h
what-below v c t (what.Said x) q lacks at h = h
what-below v c t (what.Custom x) q lacks at h = h

-- an error that becomes another one, whose pointer is another one
becomes-in : (v c : Value) (e f : Error) (p : List ℕ)
    → BecomesOrMemory e f (what_of e) p (operation_of e) (member_of e) (place_of e)
    → ((w : What) → IsWhatIn c w (pointer_of e) → IsWhatIn v w p) → IsErrorIn c e → IsErrorIn v f
becomes-in v c e f p (inl is) moves h = inl is
becomes-in v c e f p (inr b) moves (inl is) = inl (by-none (what_of e) (f ≡ e) _ (ap what_of is) b ∙ is)
becomes-in v c e f p (inr b) moves (inr (w, is, h, op, nm, np)) =
    let s : Says f (what_of e) p (operation_of e) (member_of e) (place_of e) =
    by-some (what_of e) (f ≡ e) (λ _. Says f (what_of e) p (operation_of e) (member_of e) (place_of e)) w is b in
    inr (w, s.what ∙ is, subst (IsWhatIn v w) (sym s.pointer) (moves w h), s.operation ∙ op, s.member ∙ nm, s.place ∙ np)

-- the error of an entry is one of its object
pub key-error : (v w : Value) (key : List ℕ) (e f : Error)
    → BecomesOrMemory e f (what_of e) (47 ∷ escaped key ++ pointer_of e) (operation_of e) (member_of e) (place_of e)
    → find key (entries v) ≡ Some w → IsErrorIn w e → IsErrorIn v f
key-error v w key e f b entry h =
    becomes-in v w e f ((47 ∷ escaped key) ++ pointer_of e) b
    (λ x. what-below v w (escaped key) x (pointer_of e) (lacks-escaped key) (key-child key v w entry)) h

-- the error of an element is one of its array
pub index-error : (v w : Value) (index : ℕ) (e f : Error) → index < 2 ^ 64
    → BecomesOrMemory e f (what_of e) (47 ∷ decimal index ++ pointer_of e) (operation_of e) (member_of e) (place_of e)
    → slice_get (items v) index ≡ Some w → IsErrorIn w e → IsErrorIn v f
index-error v w index e f small b element h =
    becomes-in v w e f ((47 ∷ decimal index) ++ pointer_of e) b
    (λ x. what-below v w (decimal index) x (pointer_of e) (lacks-decimal index small) (index-child index v w small element))
    h

-- want of memory stays it
pub memory-stays : (e f : Error) (p : List ℕ)
    → BecomesOrMemory e f (what_of e) p (operation_of e) (member_of e) (place_of e) → e ≡ memory → f ≡ memory
memory-stays e f p (inl is) m = is
memory-stays e f p (inr b) m = by-none (what_of e) (f ≡ e) _ (ap what_of m) b ∙ m

-- a new error with a key's token before the empty pointer
key-new : (v : Value) (w : What) (key : List ℕ) (e f : Error) → SaysOrMemory e (Some w) [] None None None
    → BecomesOrMemory e f (what_of e) (47 ∷ escaped key ++ pointer_of e) (operation_of e) (member_of e) (place_of e)
    → IsWhatIn v w (47 ∷ escaped key) → IsErrorIn v f
key-new v w key e f (inl is) b h = inl (memory-stays e f (47 ∷ escaped key ++ pointer_of e) b is)
key-new v w key e f (inr s) (inl is) h = inl is
key-new v w key e f (inr s) (inr b) h =
    let t : Says f (what_of e) (47 ∷ escaped key ++ pointer_of e) (operation_of e) (member_of e) (place_of e) =
    by-some (what_of e) (f ≡ e) _ w s.what b in
    let at : pointer_of f ≡ 47 ∷ escaped key =
    t.pointer ∙ ap (λ q. (47 ∷ escaped key) ++ q) s.pointer ∙ append-nil (47 ∷ escaped key) in
    inr (
      w,
      t.what ∙ s.what,
      subst (IsWhatIn v w) (sym at) h,
      t.operation ∙ s.operation,
      t.member ∙ s.member,
      t.place ∙ s.place,
    )

pub missing-error : (v : Value) (x : Expected) (key : List ℕ) (e f : Error)
    → SaysOrMemory e (Some (what.Missing x)) [] None None None
    → BecomesOrMemory e f (what_of e) (47 ∷ escaped key ++ pointer_of e) (operation_of e) (member_of e) (place_of e)
    → is_object v ≡ true → find key (entries v) ≡ None → IsErrorIn v f
missing-error v x key e f s b is none = key-new v (what.Missing x) key e f s b ([], key, v, refl, refl, is, none)

pub unknown-error : (v : Value) (known : Bor (List (Bor (List ℕ)))) (key : List ℕ) (e f : Error)
    → SaysOrMemory e (Some (what.Unknown known)) [] None None None
    → BecomesOrMemory e f (what_of e) (47 ∷ escaped key ++ pointer_of e) (operation_of e) (member_of e) (place_of e)
    → is_object v ≡ true → is_some (find key (entries v)) ≡ true → is_among (map (λ n. n.now) known.now) key ≡ false
    → IsErrorIn v f
unknown-error v known key e f s b is there other =
    key-new v (what.Unknown known) key e f s b ([], key, v, refl, refl, is, (there, other))

-- ---- without the value

long-hidden : (o : Option (List ℕ)) (n : ℕ) → MatchOption o ⊥ (λ s. (n ≡ length (chars s)) × (40 < n))
    → (s : List ℕ) × (o ≡ Some s)
long-hidden None n h = absurd h
long-hidden (Some s) n h = (s, refl)

found-hidden : (f : Found) (v : Value) → FoundIs f v → FoundIs (hidden_found f) v
found-hidden found.Null v h = h
found-hidden (found.Boolean b) v h = (b, h)
found-hidden (found.Number n) v h = (n, h)
found-hidden (found.String s) v h = (_, h.0)
found-hidden (found.LongString n) v h = long-hidden (text_in v) n h
found-hidden (found.Array n) v h = h
found-hidden (found.Object n) v h = h
found-hidden (found.Hidden p) v h = h

what-hidden : (v : Value) (x : What) (p : List ℕ) → IsWhatIn v x p → IsWhatIn v (hidden_what x) p
what-hidden v (what.Pointer e) p h = h
what-hidden v (what.Wrong x f) p (w, there, says, refused) = (w, there, found-hidden f w says, refused)
what-hidden v (what.Cut x f) p (w, there, says, cut) = (w, there, found-hidden f w says, cut)
what-hidden v (what.Missing x) p h = h
what-hidden v (what.Unknown known) p h = h
what-hidden v (what.Operation x) p h = h
what-hidden v (what.Said x) p h = h
what-hidden v (what.Custom x) p h = h

pub hidden-error : (v : Value) (e f : Error)
    → Becomes e f (option_map hidden_what (what_of e)) (pointer_of e) (operation_of e) (member_of e) (place_of e)
    → IsErrorIn v e → IsErrorIn v f
hidden-error v e f b (inl is) = inl (by-none (what_of e) (f ≡ e) _ (ap what_of is) b ∙ is)
hidden-error v e f b (inr (w, is, h, op, nm, np)) =
    let says = by-some (what_of e) (f ≡ e) (λ _. Says f (option_map hidden_what (what_of e)) (pointer_of e)
    (operation_of e) (member_of e) (place_of e)) w is b in
    inr (
      hidden_what w,
      says.what ∙ ap (option_map hidden_what) is,
      subst (IsWhatIn v (hidden_what w)) (sym says.pointer) (what-hidden v w (pointer_of e) h),
      says.operation ∙ op,
      says.member ∙ nm,
      says.place ∙ np,
    )

found-hides : (f : Found) → shows_value (hidden_found f) ≡ false
found-hides found.Null = refl
found-hides (found.Boolean b) = refl
found-hides (found.Number n) = refl
found-hides (found.String s) = refl
found-hides (found.LongString n) = refl
found-hides (found.Array n) = refl
found-hides (found.Object n) = refl
found-hides (found.Hidden p) = refl

what-hides : (x : What) → HidesWhat (hidden_what x)
what-hides (what.Pointer e) = tt
what-hides (what.Wrong x f) = found-hides f
what-hides (what.Cut x f) = found-hides f
what-hides (what.Missing x) = tt
what-hides (what.Unknown known) = tt
what-hides (what.Operation x) = tt
what-hides (what.Said x) = tt
what-hides (what.Custom x) = tt

hides_by : (o : Option What) (e f : Error) → what_of e ≡ o
    → Becomes e f (option_map hidden_what (what_of e)) (pointer_of e) (operation_of e) (member_of e) (place_of e)
    → HidesValue f
hides_by None e f is b = if-none (what_of f) HidesWhat (ap what_of (by-none (what_of e) (f ≡ e) _ is b) ∙ is)
hides_by (Some w) e f is b =
    let says = by-some (what_of e) (f ≡ e) (λ _. Says f (option_map hidden_what (what_of e)) (pointer_of e)
    (operation_of e) (member_of e) (place_of e)) w is b in
    if-some (what_of f) HidesWhat (hidden_what w) (says.what ∙ ap (option_map hidden_what) is) (what-hides w)

pub hidden-value : (e f : Error)
    → Becomes e f (option_map hidden_what (what_of e)) (pointer_of e) (operation_of e) (member_of e) (place_of e)
    → HidesValue f
hidden-value e f b = hides_by (what_of e) e f refl b

pub ruleset hidden = (hidden-error, hidden-value)

-- ---- of a text

text_by : (r : Reading) (bytes : List ℕ) (x : text.Error) (at : Option Place)
    → ((x ≡ fault.OutOfMemory) × (at ≡ None)) ⊎ ((p : Place) × (at ≡ Some p) × IsErrorAt r bytes x p)
    → IsErrorOfText r bytes (error_at x at)
text_by r bytes fault.OutOfMemory at h = inl refl
text_by r bytes (fault.UnexpectedCharacter c l k) at (inl h) = let is = h.0 in absurd (cc)
text_by r bytes (fault.UnexpectedCharacter c l k) at (inr h) = h
text_by r bytes fault.UnexpectedEndOfJson at (inl h) = let is = h.0 in absurd (cc)
text_by r bytes fault.UnexpectedEndOfJson at (inr h) = h
text_by r bytes fault.ExceededDepthLimit at (inl h) = let is = h.0 in absurd (cc)
text_by r bytes fault.ExceededDepthLimit at (inr h) = h
text_by r bytes fault.FailedUtf8Parsing at (inl h) = let is = h.0 in absurd (cc)
text_by r bytes fault.FailedUtf8Parsing at (inr h) = h
text_by r bytes (fault.WrongType kind) at (inl h) = let is = h.0 in absurd (cc)
text_by r bytes (fault.WrongType kind) at (inr h) = h
text_by r bytes (fault.DuplicateKey l k) at (inl h) = let is = h.0 in absurd (cc)
text_by r bytes (fault.DuplicateKey l k) at (inr h) = h
text_by r bytes (fault.InexactNumber l k) at (inl h) = let is = h.0 in absurd (cc)
text_by r bytes (fault.InexactNumber l k) at (inr h) = h

-- the text's own error
pub text-error : (r : Reading) (bytes : List ℕ) (l : LocatedError) (e : Error) → IsLocated r bytes l
    → e ≡ located_error l → IsErrorOfText r bytes e
text-error r bytes l e h is = subst (IsErrorOfText r bytes) (sym is) (text_by r bytes l.error l.place h)

-- an error in the value that the text means, with its place
pub placed-error : (r : Reading) (bytes : List ℕ) (v : JsonValue) (e f : Error) → IsMeaningOf r (chars bytes) v
    → IsErrorIn (view v) e
    → Becomes e f (what_of e) (pointer_of e) (operation_of e) (member_of e) (place_of f)
    → MatchOption (what_of e) ⊤ (λ _. IfSome (place_of f) (IsPlaceIn bytes)) → IsPlacedBy r bytes f
    → IsErrorOfText r bytes f
placed-error r bytes v e f means (inl is) b there named =
    let same = by-none (what_of e) (f ≡ e) _ (ap what_of is) b ∙ is in
    subst (IsErrorOfText r bytes) (sym same) (inl refl)
placed-error r bytes v e f (d, parses, seen) (inr (w, is, h, op, nm, np)) b there named =
    let says = by-some (what_of e) (f ≡ e) (λ _. Says f (what_of e) (pointer_of e) (operation_of e) (member_of e)
    (place_of f)) w is b in
    let in_value = subst (λ x. IsWhatIn x w (pointer_of f)) seen
    (subst (IsWhatIn (view v) w) (sym says.pointer) h) in
    none-by (text_of f) _ _ says.text (inr (
      (d, parses, (w, says.what ∙ is, in_value, says.operation ∙ op, says.member ∙ nm, refl)),
      by-some (what_of e) ⊤ (λ _. IfSome (place_of f) (IsPlaceIn bytes)) w is there,
      named,
    ))

pub ruleset of_text = (text-error, placed-error)
