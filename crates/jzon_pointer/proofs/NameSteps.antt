-- The entry that a token names, by its position.
use Rattle.std.proofs.Common.{◌≡◌, ℕ, zero, suc, ◌+◌, List, [], ◌∷◌, length, Bool, true, false, not, nat_lt, if◌then◌else◌, Option, None, Some, option_map, option_and_then, slice_get}
use Rattle.std.proofs.Common.{refl, sym, ap, ◌∙◌, arith, cond, get_or, ◌<◌, true≢false}
use Rattle.std.proofs.lemmas.Bool.Decides.{nat_tests}
use Rattle.std.proofs.lemmas.List.Quantifiers.{position-Some}
use Rattle.std.proofs.lemmas.Option.{none-some}
use Rattle.std.specs.List.{position, position_or_len, remove}
use Rattle.std.specs.Option.{option_map_or}
use Rattle.std.specs.Str.{bytes_eq}
use Rattle.jzon.specs.PairList.{keys_of, find, put, cut, set_value}
use Rattle.jzon_pointer.specs.Pointer.{token_key, names}

module _ {V : Type 0} where
  -- the value at the position, if it is within the length
  abbrev pub at_place : List (List ℕ × V) → Option ℕ → Option V
  at_place ps i = option_map (λ p. p.1) (option_and_then (λ j. slice_get ps j) i)

  later_by : (b : Bool) (n m : ℕ) (p : List ℕ × V) (ps : List (List ℕ × V)) → nat_lt n m ≡ b
      → at_place (p ∷ ps) (cond (nat_lt (1 + n) (suc m)) (Some (1 + n)) None)
      ≡ at_place ps (cond (nat_lt n m) (Some n) None)
  later_by true n m p ps e =
      let up : nat_lt (1 + n) (suc m) ≡ true = grind (arith, nat_tests) in
      let one : 1 + n ≡ suc n = omega arith in
      rw (up, e, one) refl
  later_by false n m p ps e =
      let up : nat_lt (1 + n) (suc m) ≡ false = grind (arith, nat_tests) in
      rw (up, e) refl

  later : (n m : ℕ) (p : List ℕ × V) (ps : List (List ℕ × V))
      → at_place (p ∷ ps) (cond (nat_lt (1 + n) (suc m)) (Some (1 + n)) None)
      ≡ at_place ps (cond (nat_lt n m) (Some n) None)
  later n m p ps = later_by (nat_lt n m) n m p ps refl

  first-of : (b : Bool) (n m : ℕ) (p : List ℕ × V) (ps : List (List ℕ × V)) (o : Option V)
      → o ≡ at_place ps (cond (nat_lt n m) (Some n) None)
      → (if b then Some p.1 else o)
      ≡ at_place (p ∷ ps) (cond (nat_lt (cond (not b) (1 + n) 0) (suc m)) (Some (cond (not b) (1 + n) 0)) None)
  first-of true n m p ps o h = let some : nat_lt 0 (suc m) ≡ true = grind (arith, nat_tests) in rw some refl
  first-of false n m p ps o h = h ∙ sym (later n m p ps)

  find-first : (u : List ℕ) (ps : List (List ℕ × V))
      → find u ps ≡ at_place ps (position (λ k. bytes_eq k u) (keys_of ps))
  find-first u [] = refl
  find-first u (p ∷ ps) =
      first-of (bytes_eq p.0 u) (position_or_len (λ k. bytes_eq k u) (keys_of ps)) (length (keys_of ps)) p ps
      (find u ps) (find-first u ps)

  none-first : (ps : List (List ℕ × V)) → None ≡ at_place ps (position (λ (k : List ℕ). false) (keys_of ps))
  none-first [] = refl
  none-first (p ∷ ps) =
      none-first ps ∙ sym (later (position_or_len (λ (k : List ℕ). false) (keys_of ps)) (length (keys_of ps)) p ps)

  first_by : (o : Option (List ℕ)) (ps : List (List ℕ × V)) → option_and_then (λ k. find k ps) o
      ≡ at_place ps (position (λ k. option_map_or (bytes_eq k) o false) (keys_of ps))
  first_by None ps = none-first ps
  first_by (Some u) ps = find-first u ps

  -- the value that a token names is at the first position whose key it names
  pub named-entry : (t : List ℕ) (ps : List (List ℕ × V)) → option_and_then (λ k. find k ps) (token_key t)
      ≡ option_map (λ p. p.1) (option_and_then (λ j. slice_get ps j) (position (names t) (keys_of ps)))
  named-entry t ps = first_by (token_key t) ps

  pub entry-at : (t : List ℕ) (ps : List (List ℕ × V)) (i : Option ℕ) → position (names t) (keys_of ps) ≡ i
      → option_and_then (λ k. find k ps) (token_key t) ≡ at_place ps i
  entry-at t ps i at = named-entry t ps ∙ ap (at_place ps) at

  -- ---- what is written there

  put-at : (k : List ℕ) (ps : List (List ℕ × V)) (i : ℕ) (w : V) → i < length (keys_of ps)
      → bytes_eq (get_or (keys_of ps) i []) k ≡ true
      → ((j : ℕ) → j < i → bytes_eq (get_or (keys_of ps) j []) k ≡ false) → put k w ps ≡ set_value ps i w
  put-at k [] i w within here before = absurd (omega arith)
  put-at k (p ∷ ps) zero w within here before = let same : bytes_eq p.0 k ≡ true = here in rw same refl
  put-at k (p ∷ ps) (suc i) w within here before =
      let other : bytes_eq p.0 k ≡ false = before 0 (omega arith) in
      rw other (ap (λ qs. p ∷ qs) (put-at k ps i w (omega arith) here (λ j less. before (suc j) (omega arith))))

  -- what is made of the key that a token names, where it stands first at a position
  named_by : (f : List ℕ → List (List ℕ × V)) (ps qs : List (List ℕ × V)) (i : ℕ)
      → ((k : List ℕ) → i < length (keys_of ps) → bytes_eq (get_or (keys_of ps) i []) k ≡ true
      → ((j : ℕ) → j < i → bytes_eq (get_or (keys_of ps) j []) k ≡ false) → f k ≡ qs)
      → (o : Option (List ℕ)) → position (λ k. option_map_or (bytes_eq k) o false) (keys_of ps) ≡ Some i
      → option_map_or f o ps ≡ qs
  named_by f ps qs i made None e =
      absurd (true≢false (sym (position-Some (λ (k : List ℕ). false) (keys_of ps) i [] e).1))
  named_by f ps qs i made (Some u) e =
      let at = position-Some (λ k. bytes_eq k u) (keys_of ps) i [] e in made u at.0 at.1 at.2

  -- a value that is put under the key that a token names stands at its position
  pub named-written : (t : List ℕ) (ps : List (List ℕ × V)) (i : ℕ) (w : V) → position (names t) (keys_of ps) ≡ Some i
      → option_map_or (λ k. put k w ps) (token_key t) ps ≡ set_value ps i w
  named-written t ps i w e =
      named_by (λ k. put k w ps) ps (set_value ps i w) i (λ k. put-at k ps i w) (token_key t) e

  -- ---- what is left without it

  cut-at : (k : List ℕ) (ps : List (List ℕ × V)) (i : ℕ) → i < length (keys_of ps)
      → bytes_eq (get_or (keys_of ps) i []) k ≡ true
      → ((j : ℕ) → j < i → bytes_eq (get_or (keys_of ps) j []) k ≡ false) → cut k ps ≡ remove ps i
  cut-at k [] i within here before = absurd (omega arith)
  cut-at k (p ∷ ps) zero within here before = let same : bytes_eq p.0 k ≡ true = here in rw same refl
  cut-at k (p ∷ ps) (suc i) within here before =
      let other : bytes_eq p.0 k ≡ false = before 0 (omega arith) in
      rw other (ap (λ qs. p ∷ qs) (cut-at k ps i (omega arith) here (λ j less. before (suc j) (omega arith))))

  -- without the entry at the position whose key a token names, there are those without its key
  pub named-cut : (t : List ℕ) (ps : List (List ℕ × V)) (i : ℕ) → position (names t) (keys_of ps) ≡ Some i
      → option_map_or (λ k. cut k ps) (token_key t) ps ≡ remove ps i
  named-cut t ps i e = named_by (λ k. cut k ps) ps (remove ps i) i (λ k. cut-at k ps i) (token_key t) e

  -- nothing is removed past the end
  pub remove-past : (ps : List (List ℕ × V)) (i : ℕ) → None ≡ slice_get ps i → remove ps i ≡ ps
  remove-past [] zero h = refl
  remove-past [] (suc i) h = refl
  remove-past (p ∷ ps) zero h = absurd (cc)
  remove-past (p ∷ ps) (suc i) h = ap (λ qs. p ∷ qs) (remove-past ps i h)

-- a token that means no key names none
not-later : (b : Bool) (n m : ℕ) → nat_lt n m ≡ b → cond b (Some n) None ≡ None
    → cond (nat_lt (1 + n) (suc m)) (Some (1 + n)) None ≡ None
not-later true n m e h = absurd (none-some n (sym h))
not-later false n m e h =
    let up : nat_lt (1 + n) (suc m) ≡ false = grind (arith, nat_tests) in
    rw up refl

none-anywhere : (ks : List (List ℕ)) → position (λ (k : List ℕ). false) ks ≡ None
none-anywhere [] = refl
none-anywhere (k ∷ ks) =
    not-later (nat_lt (position_or_len (λ (k : List ℕ). false) ks) (length ks))
    (position_or_len (λ (k : List ℕ). false) ks) (length ks) refl (none-anywhere ks)

pub none-named : (t : List ℕ) (ks : List (List ℕ)) → token_key t ≡ None → position (names t) ks ≡ None
none-named t ks h = ap (λ o. position (λ k. option_map_or (bytes_eq k) o false) ks) h ∙ none-anywhere ks
