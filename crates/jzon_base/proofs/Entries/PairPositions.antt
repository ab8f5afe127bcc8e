-- What the position of a key says of a list of entries.
use Rattle.jzon_base.proofs.Common.{◌≡◌, ℕ, zero, suc, ◌<◌, Bool, true, false, List, [], ◌∷◌, ◌++◌, length, get_or, set}
use Rattle.jzon_base.proofs.Common.{None, Some, refl, sym, ap, ◌∙◌, arith, position-Some, none-some, same_Some}
use Rattle.jzon_base.proofs.Common.{slice_get-map, nat_list_eq_equiv, option_map, position, remove, slice_get, zip}
use Rattle.jzon_base.proofs.Common.{bytes_eq}
use Rattle.jzon_base.specs.PairList.{keys_of, values_of, find, put, cut, set_value, with_default}
use Rattle.jzon_base.proofs.KeyIndex.Positions.{position-first, position-None-before}
use Rattle.jzon_base.proofs.Entries.Zips.{AreParts-zip, zip-push, zip-set}

-- i is the first position of k among the keys
record IsPlace (k : List ℕ) (ks : List (List ℕ)) (i : ℕ) : Type 0 where
  within : i < length ks
  here : bytes_eq (get_or ks i []) k ≡ true
  before : (j : ℕ) → j < i → bytes_eq (get_or ks j []) k ≡ false

IsPlace-tail : (k x : List ℕ) (ks : List (List ℕ)) (i : ℕ) → IsPlace k (x ∷ ks) (suc i) → IsPlace k ks i
IsPlace-tail k x ks i p = record {
  within = omega (arith, p.within);
  here = p.here;
  before = λ j l. p.before (suc j)
      (omega arith);
}

before_tail : (k x : List ℕ) (ks : List (List ℕ)) (n : ℕ) → bytes_eq x k ≡ false
    → ((j : ℕ) → j < n → bytes_eq (get_or ks j []) k ≡ false) → (j : ℕ) → j < suc n
    → bytes_eq (get_or (x ∷ ks) j []) k ≡ false
before_tail k x ks n e h zero l = e
before_tail k x ks n e h (suc j) l = h j (omega arith)

-- no key is k
abbrev IsAbsent : List ℕ → List (List ℕ) → Type 0
IsAbsent k ks = (j : ℕ) → j < length ks → bytes_eq (get_or ks j []) k ≡ false

module _ {V : Type 0} where
  find-at : (k : List ℕ) (ps : List (List ℕ × V)) (i : ℕ) (v : V) → IsPlace k (keys_of ps) i
      → slice_get (values_of ps) i ≡ Some v → find k ps ≡ Some v
  find-at k [] i v p h = absurd (omega (arith, p.within))
  find-at k (x ∷ ps) zero v p h = let e : bytes_eq x.0 k ≡ true = p.here in rw e h
  find-at k (x ∷ ps) (suc i) v p h = let e : bytes_eq x.0 k ≡ false = p.before 0 (omega arith) in rw e
      (find-at k ps i v (IsPlace-tail k x.0 (keys_of ps) i p) h)

  put-at : (k : List ℕ) (ps : List (List ℕ × V)) (i : ℕ) (w : V) → IsPlace k (keys_of ps) i
      → put k w ps ≡ set_value ps i w
  put-at k [] i w p = absurd (omega (arith, p.within))
  put-at k (x ∷ ps) zero w p = let e : bytes_eq x.0 k ≡ true = p.here in rw e
  put-at k (x ∷ ps) (suc i) w p = let e : bytes_eq x.0 k ≡ false = p.before 0 (omega arith) in rw e
      (ap (λ r. x ∷ r) (put-at k ps i w (IsPlace-tail k x.0 (keys_of ps) i p)))

  cut-at : (k : List ℕ) (ps : List (List ℕ × V)) (i : ℕ) → IsPlace k (keys_of ps) i → cut k ps ≡ remove ps i
  cut-at k [] i p = absurd (omega (arith, p.within))
  cut-at k (x ∷ ps) zero p = let e : bytes_eq x.0 k ≡ true = p.here in rw e
  cut-at k (x ∷ ps) (suc i) p = let e : bytes_eq x.0 k ≡ false = p.before 0 (omega arith) in rw e
      (ap (λ r. x ∷ r) (cut-at k ps i (IsPlace-tail k x.0 (keys_of ps) i p)))

  default-at : (k : List ℕ) (ps : List (List ℕ × V)) (i : ℕ) (v : V) → IsPlace k (keys_of ps) i
      → with_default k v ps ≡ ps
  default-at k [] i v p = absurd (omega (arith, p.within))
  default-at k (x ∷ ps) zero v p = let e : bytes_eq x.0 k ≡ true = p.here in rw e
  default-at k (x ∷ ps) (suc i) v p = let e : bytes_eq x.0 k
      ≡ false = p.before 0 (omega arith) in rw e (ap (λ r. x ∷ r)
      (default-at k ps i v (IsPlace-tail k x.0 (keys_of ps) i p)))

  place-last : (k : List ℕ) (ps : List (List ℕ × V)) (v : V) → IsAbsent k (keys_of ps)
      → IsPlace k (keys_of (ps ++ (k, v) ∷ [])) (length ps)
  place-last k [] v h = record {
    within = omega arith;
    here = nat_list_eq_equiv.refl k;
    before = λ j l. absurd (omega arith);
  }
  place-last k (x ∷ ps) v h =
      let p = place-last k ps v (λ j l. h (suc j) (omega arith)) in
      record {
        within = omega (arith, p.within);
        here = p.here;
        before = before_tail k x.0 (keys_of (ps ++ (k, v) ∷ []))
            (length ps) (h 0 (omega arith)) p.before;
      }

  put-default-by : (b : Bool) (k : List ℕ) (v w : V) (x : List ℕ × V) (ps : List (List ℕ × V)) → bytes_eq x.0 k ≡ b
      → put k w (with_default k v ps) ≡ put k w ps → put k w (with_default k v (x ∷ ps)) ≡ put k w (x ∷ ps)
  put-default-by true k v w x ps e h = rw (e, e)
  put-default-by false k v w x ps e h = rw (e, e, h)

  pub put-with_default : (k : List ℕ) (v w : V) (ps : List (List ℕ × V)) → put k w (with_default k v ps) ≡ put k w ps
  put-with_default k v w [] = rw (nat_list_eq_equiv.refl k)
  put-with_default k v w (x ∷ ps) = put-default-by (bytes_eq x.0 k) k v w x ps refl (put-with_default k v w ps)

  find-absent : (k : List ℕ) (ps : List (List ℕ × V)) → IsAbsent k (keys_of ps) → find k ps ≡ None
  find-absent k [] h = refl
  find-absent k (x ∷ ps) h = let e : bytes_eq x.0 k ≡ false = h 0 (omega arith) in rw e
      (find-absent k ps (λ j l. h (suc j) (omega arith)))

  put-absent : (k : List ℕ) (ps : List (List ℕ × V)) (w : V) → IsAbsent k (keys_of ps) → put k w ps ≡ ps ++ (k, w) ∷ []
  put-absent k [] w h = refl
  put-absent k (x ∷ ps) w h = let e : bytes_eq x.0 k ≡ false = h 0 (omega arith) in rw e
      (ap (λ r. x ∷ r) (put-absent k ps w (λ j l. h (suc j) (omega arith))))

  default-absent : (k : List ℕ) (ps : List (List ℕ × V)) (v : V) → IsAbsent k (keys_of ps)
      → with_default k v ps ≡ ps ++ (k, v) ∷ []
  default-absent k [] v h = refl
  default-absent k (x ∷ ps) v h = let e : bytes_eq x.0 k ≡ false = h 0 (omega arith) in rw e
      (ap (λ r. x ∷ r) (default-absent k ps v (λ j l. h (suc j) (omega arith))))

  cut-absent : (k : List ℕ) (ps : List (List ℕ × V)) → IsAbsent k (keys_of ps) → cut k ps ≡ ps
  cut-absent k [] h = refl
  cut-absent k (x ∷ ps) h = let e : bytes_eq x.0 k ≡ false = h 0 (omega arith) in rw e
      (ap (λ r. x ∷ r) (cut-absent k ps (λ j l. h (suc j) (omega arith))))

placed : (k : List ℕ) (ks : List (List ℕ)) (i : ℕ) → position (λ x. bytes_eq x k) ks ≡ Some i → IsPlace k ks i
placed k ks i e = let h = position-Some (λ x. bytes_eq x k) ks i [] e in record
    { within = h.0; here = h.1; before = h.2 }

absent : (k : List ℕ) (ks : List (List ℕ)) → position (λ x. bytes_eq x k) ks ≡ None → IsAbsent k ks
absent k ks e j l = position-None-before (λ x. bytes_eq x k) ks j [] e l

-- a key that has a position, and one that has none
module _ {V : Type 0} (k : List ℕ) (ps : List (List ℕ × V)) where
  pub find_placed : (i : ℕ) (v : V) → position (λ x. bytes_eq x k) (keys_of ps) ≡ Some i
      → slice_get (values_of ps) i ≡ Some v → find k ps ≡ Some v
  find_placed i v e = find-at k ps i v (placed k (keys_of ps) i e)

  pub find_pair : (i : ℕ) (l : List ℕ) (v : V) → position (λ x. bytes_eq x k) (keys_of ps) ≡ Some i
      → slice_get ps i ≡ Some (l, v) → find k ps ≡ Some v
  find_pair i l v e h = find_placed i v e (slice_get-map (λ p. p.1) ps i ∙ ap (option_map (λ p. p.1)) h)

  pub put_placed : (i : ℕ) (w : V) → position (λ x. bytes_eq x k) (keys_of ps) ≡ Some i → put k w ps ≡ set_value ps i w
  put_placed i w e = put-at k ps i w (placed k (keys_of ps) i e)

  pub cut_placed : (i : ℕ) → position (λ x. bytes_eq x k) (keys_of ps) ≡ Some i → cut k ps ≡ remove ps i
  cut_placed i e = cut-at k ps i (placed k (keys_of ps) i e)

  pub default_placed : (i : ℕ) (v : V) → position (λ x. bytes_eq x k) (keys_of ps) ≡ Some i → with_default k v ps ≡ ps
  default_placed i v e = default-at k ps i v (placed k (keys_of ps) i e)

  pub find_missing : position (λ x. bytes_eq x k) (keys_of ps) ≡ None → find k ps ≡ None
  find_missing e = find-absent k ps (absent k (keys_of ps) e)

  pub put_missing : (w : V) → position (λ x. bytes_eq x k) (keys_of ps) ≡ None → put k w ps ≡ ps ++ (k, w) ∷ []
  put_missing w e = put-absent k ps w (absent k (keys_of ps) e)

  pub cut_missing : position (λ x. bytes_eq x k) (keys_of ps) ≡ None → cut k ps ≡ ps
  cut_missing e = cut-absent k ps (absent k (keys_of ps) e)

  pub default_missing : (v : V) → position (λ x. bytes_eq x k) (keys_of ps) ≡ None
      → with_default k v ps ≡ ps ++ (k, v) ∷ []
  default_missing v e = default-absent k ps v (absent k (keys_of ps) e)

  pub last_placed : (v : V) → position (λ x. bytes_eq x k) (keys_of ps) ≡ None
      → position (λ x. bytes_eq x k) (keys_of (ps ++ (k, v) ∷ [])) ≡ Some (length ps)
  last_placed v e = let p = place-last k ps v (absent k (keys_of ps) e) in position-first (λ x. bytes_eq x k)
      (keys_of (ps ++ (k, v) ∷ [])) (length ps) [] p.within p.here p.before

-- the key that is read at a position
pub key_at : {V : Type 0} (ps : List (List ℕ × V)) (i : ℕ) (k : List ℕ) (v : V) → slice_get ps i ≡ Some (k, v)
    → (i < length (keys_of ps)) × (get_or (keys_of ps) i [] ≡ k)
key_at [] i k v e = absurd (none-some (k, v) e)
key_at (p ∷ ps) zero k v e = (omega arith, ap (λ q. q.0) (same_Some p (k, v) e))
key_at (p ∷ ps) (suc i) k v e = let h = key_at ps i k v e in (omega (arith, h.0), h.1)

-- a value that is written at the position where a default was put
pub default_written : {V : Type 0} (k : List ℕ) (v : V) (ps qs : List (List ℕ × V)) (i : ℕ) → qs ≡ with_default k v ps
    → position (λ x. bytes_eq x k) (keys_of qs) ≡ Some i → (w : V) → set_value qs i w ≡ put k w ps
default_written k v ps qs i e p w = sym (put_placed k qs i w p) ∙ ap (put k w) e ∙ put-with_default k v w ps

-- a value put under a key, for separate lists of keys and values
module _ {V : Type 0} (k : List ℕ) (v : V) (ks : List (List ℕ)) (vs : List V) (ps : List (List ℕ × V))
    (seen : zip ks vs ≡ ps) (even : length vs ≡ length ks) where
  pub zip-put_placed : (i : ℕ) → Some i ≡ position (λ x. bytes_eq x k) ks → zip ks (set vs i v) ≡ put k v ps
  zip-put_placed i e = zip-set ks vs i v ∙ ap (λ qs. set_value qs i v) seen
      ∙ sym (put_placed k ps i v (rw (AreParts-zip ks vs ps seen even).keys at (sym e)))

  pub zip-put_missing : None ≡ position (λ x. bytes_eq x k) ks → zip (ks ++ k ∷ []) (vs ++ v ∷ []) ≡ put k v ps
  zip-put_missing e = zip-push ks vs k v even ∙ ap (λ qs. qs ++ (k, v) ∷ []) seen
      ∙ sym (put_missing k ps v (rw (AreParts-zip ks vs ps seen even).keys at (sym e)))

  -- the same where a present value stays
  pub zip-placed : (i : ℕ) → Some i ≡ position (λ x. bytes_eq x k) ks
      → (position (λ x. bytes_eq x k) (keys_of ps) ≡ Some i) × (ps ≡ with_default k v ps)
  zip-placed i e =
      let at : position (λ x. bytes_eq x k) (keys_of ps) ≡ Some i =
      rw (AreParts-zip ks vs ps seen even).keys at (sym e) in
      (at, sym (default_placed k ps i v at))

  pub zip-default : None ≡ position (λ x. bytes_eq x k) ks
      → (zip (ks ++ k ∷ []) (vs ++ v ∷ []) ≡ with_default k v ps)
      × (position (λ x. bytes_eq x k) (keys_of (with_default k v ps)) ≡ Some (length vs))
  zip-default e =
      let parts = AreParts-zip ks vs ps seen even in
      let none : position (λ x. bytes_eq x k) (keys_of ps) ≡ None = rw parts.keys at (sym e) in (
        zip-push ks vs k v even ∙ ap (λ qs. qs ++ (k, v) ∷ []) seen ∙ sym (default_missing k ps v none),
        rw (default_missing k ps v none, parts.values_length) (last_placed k ps v none),
      )

pub ruleset places = (
  find_placed,
  find_pair,
  put_placed,
  cut_placed,
  default_placed,
  find_missing,
  put_missing,
  cut_missing,
  default_missing,
  last_placed,
)
