-- An entry that is missing, or whose value is null.
use Rattle.std.proofs.Common.{◌≡◌, List, [], ◌∷◌, ℕ, Bool, true, false, not, ◌&&◌, cond, if◌then◌else◌, Option, None, Some}
use Rattle.std.proofs.Common.{refl, sym, ap, ◌∙◌, subst, inl, inr, ◌<◌, ◌+◌, ◌++◌, length, get_or, map, take, arith}
use Rattle.std.proofs.lemmas.List.{get_or-map, length-map, take_more}
use Rattle.std.proofs.lemmas.Slice.Zip.{all_zipped_more}
use Rattle.std.proofs.lemmas.Slice.Eq.{bytes_eq-Decides}
use Rattle.std.specs.List.{list_all, AllZip, find as first}
use Rattle.std.specs.Option.{is_some}
use Rattle.std.specs.Str.{bytes_eq}
use Rattle.jzon.specs.PairList.{find, keys_of}
use Rattle.jzon.specs.Entries.{entries_of}
use Rattle.jzon.specs.Object.{Object}
use Rattle.jzon.specs.Readers.{entries, is_null}
use Rattle.jzon.specs.Value.{Value}
use Rattle.jzon.specs.JsonValue.{JsonValue}
use Rattle.jzon.specs.View.{view, view_object, viewed}
use Rattle.jzon.proofs.ValueLaws.{keys-viewed, list_of_pairs-pairs_of}
use Rattle.jzon_typed.specs.AlikeLaws.{null-is}
use Rattle.jzon_typed.specs.DecodeFields.{IsAbsent}

pub absent-none : (o : Option Value) → o ≡ None → IsAbsent o
absent-none o h = inl h

pub absent-null : (o : Option Value) (v : Value) → Some v ≡ o → is_null v ≡ true → IsAbsent o
absent-null o v is h = inr (sym is ∙ ap (λ (w : Value). Some w) (null-is v h))

pub ruleset absent = (null-is, absent-none, absent-null)

-- ---- the first key that isn't among some names

-- a look-up that finds something in the rest finds something
pub some_other : (b : Bool) (v : Value) (o : Option Value) → is_some o ≡ true → is_some (if b then Some v else o) ≡ true
some_other true v o h = refl
some_other false v o h = h

there_by : (b : Bool) (j k : List ℕ) (v : Value) (ps : List (List ℕ × Value)) (o : Option (List ℕ))
    → (o ≡ Some k → is_some (find k ps) ≡ true) → cond (not b) (Some j) o ≡ Some k
    → is_some (if bytes_eq j k then Some v else find k ps) ≡ true
there_by true j k v ps o ih h = some_other (bytes_eq j k) v (find k ps) (ih h)
there_by false j k v ps o ih h =
    let same : j ≡ k = cc in
    subst (λ (l : List ℕ). is_some (if bytes_eq l k then Some v else find k ps) ≡ true) (sym same)
    (rw ((bytes_eq-Decides k k).1 refl) refl)

pub unknown-there : (p : List ℕ → Bool) (ps : List (List ℕ × Value)) (k : List ℕ)
    → first (λ j. not (p j)) (keys_of ps) ≡ Some k → is_some (find k ps) ≡ true
unknown-there p [] k h = absurd (cc)
unknown-there p (q ∷ ps) k h = there_by (p q.0) q.0 k q.1 ps _ (unknown-there p ps k) h

refused_by : (b : Bool) (p : List ℕ → Bool) (j k : List ℕ) (o : Option (List ℕ)) → p j ≡ b
    → (o ≡ Some k → p k ≡ false) → cond (not b) (Some j) o ≡ Some k → p k ≡ false
refused_by true p j k o is ih h = ih h
refused_by false p j k o is ih h = let same : j ≡ k = cc in ap p (sym same) ∙ is

pub unknown-refused : (p : List ℕ → Bool) (ks : List (List ℕ)) (k : List ℕ)
    → first (λ j. not (p j)) ks ≡ Some k → p k ≡ false
unknown-refused p [] k h = absurd (cc)
unknown-refused p (j ∷ ks) k h = refused_by (p j) p j k _ refl (unknown-refused p ks k) h

all_by : (b : Bool) (j : List ℕ) (o : Option (List ℕ)) (r : Bool) → (o ≡ None → r ≡ true)
    → cond (not b) (Some j) o ≡ None → (b && r) ≡ true
all_by true j o r ih h = ih h
all_by false j o r ih h = absurd (cc)

pub unknown-none : (p : List ℕ → Bool) (ks : List (List ℕ)) → first (λ j. not (p j)) ks ≡ None
    → list_all p ks ≡ true
unknown-none p [] h = refl
unknown-none p (j ∷ ks) h = all_by (p j) j _ (list_all p ks) (unknown-none p ks) h

not_all_by : (b : Bool) (j k : List ℕ) (o : Option (List ℕ)) (r : Bool) → (o ≡ Some k → r ≡ false)
    → cond (not b) (Some j) o ≡ Some k → (b && r) ≡ false
not_all_by true j k o r ih h = ih h
not_all_by false j k o r ih h = refl

pub unknown-some : (p : List ℕ → Bool) (ks : List (List ℕ)) (k : List ℕ) → first (λ j. not (p j)) ks ≡ Some k
    → list_all p ks ≡ false
unknown-some p [] k h = absurd (cc)
unknown-some p (j ∷ ks) k h = not_all_by (p j) j k _ (list_all p ks) (unknown-some p ks k) h

-- the keys of an object, as it is seen
pub keys-seen : (o : Object) → keys_of (entries (view_object o)) ≡ keys_of (entries_of o)
keys-seen o = ap keys_of (list_of_pairs-pairs_of (viewed (entries_of o))) ∙ keys-viewed (entries_of o)

-- ---- the elements of an array

-- one more element is read
pub zip-next : {X : Type 0} (R : Value → X → Type 0) (xs : List JsonValue) (i : ℕ) (ys zs : List X) (item : JsonValue)
    (y : X) → i < length xs → item ≡ get_or xs i item → AllZip R (take i (map view xs)) ys → R (view item) y
    → zs ≡ ys ++ y ∷ [] → AllZip R (take (i + 1) (map view xs)) zs
zip-next R xs i ys zs item y within is each here pushed =
    subst (λ l. AllZip R (take (i + 1) (map view xs)) l) (sym pushed)
    (subst (λ l. AllZip R l (ys ++ y ∷ []))
    (ap (λ v. take i (map view xs) ++ v ∷ []) (sym (get_or-map view xs i item (view item) within ∙ ap view (sym is)))
    ∙ sym (take_more (map view xs) i (view item) (omega (arith, length-map xs view))))
    (all_zipped_more R (take i (map view xs)) ys (view item) y each here))
