-- The entries of an object, read into a map by one key after the other.
use Rattle.std.proofs.Common.{◌≡◌, ◌⊎◌, ℕ, List, [], ◌∷◌, Bool, true, false, ◌||◌, cond, if◌then◌else◌, Option, None, Some, MatchOption}
use Rattle.std.proofs.Common.{refl, sym, ap, ◌∙◌, subst, inl, inr}
use Rattle.std.proofs.lemmas.Slice.Eq.{bytes_eq-Decides}
use Rattle.std.proofs.lemmas.Bool.{false≢true}
use Rattle.std.specs.List.{AllByRecursion, list_any}
use Rattle.std.specs.Option.{is_some}
use Rattle.std.specs.Map.{update}
use Rattle.std.specs.Str.{bytes_eq}
use Rattle.jzon.specs.Entries.{entries_of}
use Rattle.jzon.specs.Object.{Object}
use Rattle.jzon.specs.PairList.{find, keys_of}
use Rattle.jzon.specs.Readers.{entries}
use Rattle.jzon.specs.Value.{Value}
use Rattle.jzon.specs.View.{view_object}
use Rattle.jzon_typed.specs.DecodeFields.{HasEntry}
use Rattle.jzon_typed.specs.DecodeMaps.{TakesEntries}
use Rattle.jzon_typed.proofs.FieldSteps.{keys-seen, some_other}

-- the entries of all keys but some are read
abbrev pub ReadsBut : {X : Type 0} → (Value → X → Type 0) → Value → List (List ℕ) → (List ℕ → Option X) → Type 0
ReadsBut G v rest look = (k : List ℕ) → MatchOption (look k)
    ((find k (entries v) ≡ None) ⊎ (list_any (λ j. bytes_eq j k) rest ≡ true))
    (λ x. (w : Value) × (find k (entries v) ≡ Some w) × G w x)

unread_by : (b : Bool) (w : Value) (o : Option Value) (r : Bool) → (o ≡ None) ⊎ (r ≡ true)
    → ((if b then Some w else o) ≡ None) ⊎ ((b || r) ≡ true)
unread_by true w o r h = inr refl
unread_by false w o r h = h

unread : (k : List ℕ) (ps : List (List ℕ × Value))
    → (find k ps ≡ None) ⊎ (list_any (λ j. bytes_eq j k) (keys_of ps) ≡ true)
unread k [] = inl refl
unread k (p ∷ ps) =
    unread_by (bytes_eq p.0 k) p.1 (find k ps) (list_any (λ j. bytes_eq j k) (keys_of ps)) (unread k ps)

none_by : {X : Type 0} (o : Option X) (N : Type 0) (Q : X → Type 0) → o ≡ None → N → MatchOption o N Q
none_by None N Q is h = h
none_by (Some x) N Q is h = absurd (cc)

-- no entry of an object is read yet
pub none-read : {X : Type 0} (G : Value → X → Type 0) (o : Object) (keys : List (List ℕ)) (look : List ℕ → Option X)
    → keys ≡ keys_of (entries_of o) → ((k : List ℕ) → look k ≡ None) → ReadsBut G (view_object o) keys look
none-read G o keys look all empty = λ k.
    none_by (look k) _ _ (empty k)
    (subst (λ ks. (find k (entries (view_object o)) ≡ None) ⊎ (list_any (λ j. bytes_eq j k) ks ≡ true))
    (keys-seen o ∙ sym all) (unread k (entries (view_object o))))

one_by : {X : Type 0} (b : Bool) (o : Option X) (x : X) (N : Type 0) (r : Bool) (Q : X → Type 0) → (b ≡ true → Q x)
    → MatchOption o (N ⊎ ((b || r) ≡ true)) Q → MatchOption (cond b (Some x) o) (N ⊎ (r ≡ true)) Q
one_by true o x N r Q here h = here refl
one_by false o x N r Q here h = h

-- one entry more, which is put under the text of the next key
pub one-read : {X : Type 0} (G : Value → X → Type 0) (v : Value) (key bytes : List ℕ) (keys rest : List (List ℕ))
    (look new : List ℕ → Option X) (x : X) → ReadsBut G v keys look → keys ≡ key ∷ rest
    → ((w : Value) × (find key (entries v) ≡ Some w) × G w x) → bytes ≡ key
    → ((k : List ℕ) → new k ≡ update bytes_eq look bytes (Some x) k) → ReadsBut G v rest new
one-read G v key bytes keys rest look new x before next read same is = λ k.
    subst (λ o. MatchOption o ((find k (entries v) ≡ None) ⊎ (list_any (λ j. bytes_eq j k) rest ≡ true))
    (λ y. (w : Value) × (find k (entries v) ≡ Some w) × G w y))
    (sym (is k ∙ ap (λ (j : List ℕ). update bytes_eq look j (Some x) k) same))
    (one_by (bytes_eq key k) (look k) x (find k (entries v) ≡ None) (list_any (λ j. bytes_eq j k) rest)
    (λ y. (w : Value) × (find k (entries v) ≡ Some w) × G w y)
    (λ e. subst (λ (j : List ℕ). (w : Value) × (find j (entries v) ≡ Some w) × G w x) ((bytes_eq-Decides key k).0 e) read)
    (subst (λ ks. ReadsBut G v ks look) next before k))

-- ---- the keys that are left

-- the object has an entry with each of these keys
abbrev pub AreThere : Value → List (List ℕ) → Type 0
AreThere v rest = AllByRecursion (λ k. is_some (find k (entries v)) ≡ true) rest

there_still : (p : List ℕ × Value) (ps : List (List ℕ × Value)) (ks : List (List ℕ))
    → AllByRecursion (λ k. is_some (find k ps) ≡ true) ks → AllByRecursion (λ k. is_some (find k (p ∷ ps)) ≡ true) ks
there_still p ps [] h = tt
there_still p ps (k ∷ ks) h = (some_other (bytes_eq p.0 k) p.1 (find k ps) h.0, there_still p ps ks h.1)

there : (ps : List (List ℕ × Value)) → AllByRecursion (λ k. is_some (find k ps) ≡ true) (keys_of ps)
there [] = tt
there (p ∷ ps) = (rw ((bytes_eq-Decides p.0 p.0).1 refl) refl, there_still p ps (keys_of ps) (there ps))

-- it has one with each of its keys
pub all-there : (o : Object) (keys : List (List ℕ)) → keys ≡ keys_of (entries_of o) → AreThere (view_object o) keys
all-there o keys all =
    subst (AreThere (view_object o)) (keys-seen o ∙ sym all) (there (entries (view_object o)))

taken_by : (P : Value → Type 0) (o : Option Value) → is_some o ≡ true → ((w : Value) → o ≡ Some w → P w)
    → (w : Value) × (o ≡ Some w) × P w
taken_by P None there each = absurd (false≢true there)
taken_by P (Some w) there each = (w, refl, each w refl)

-- the value of the next key is taken, if each entry's is
pub next-taken : (P : Value → Type 0) (v : Value) (key : List ℕ) (keys rest : List (List ℕ)) → AreThere v keys
    → keys ≡ key ∷ rest → TakesEntries P v → HasEntry v key P
next-taken P v key keys rest there next taken =
    taken_by P (find key (entries v)) (subst (AreThere v) next there).0 (taken.1 key)

-- and the keys after it are there
pub rest-there : (v : Value) (key : List ℕ) (keys rest : List (List ℕ)) → AreThere v keys → keys ≡ key ∷ rest
    → AreThere v rest
rest-there v key keys rest there next = (subst (AreThere v) next there).1
