-- Whether a key is known, once entries are put one after the other.
use Rattle.jzon_base.proofs.Common.{◌≡◌, ◌∙◌, ℕ, Bool, true, false, cond, ◌||◌, List, [], ◌∷◌, length, Option, Some}
use Rattle.jzon_base.proofs.Common.{None, refl, sym, ap, arith, is_some, fold, zip, list_any, bytes_eq}
use Rattle.jzon_base.proofs.Common.{bytes_eq-Decides}
use Rattle.std.proofs.Math.Bool.{or-false}
use Rattle.jzon_base.specs.PairList.{find, put, put_each}

or_swap : (a b c : Bool) → (a || (b || c)) ≡ (b || (a || c))
or_swap true true c = refl
or_swap true false c = refl
or_swap false b c = refl

or_twice : (a c : Bool) → (a || c) ≡ (a || (a || c))
or_twice true c = refl
or_twice false c = refl

or_across : (a b c : Bool) → ((a || b) || c) ≡ (b || (a || c))
or_across true true c = refl
or_across true false c = refl
or_across false b c = refl

module _ {V : Type 0} (k : List ℕ) where
  is_some-cond : (b : Bool) (v : V) (o : Option V) → is_some (cond b (Some v) o) ≡ (b || is_some o)
  is_some-cond true v o = refl
  is_some-cond false v o = refl

  known_by : (b : Bool) (l : List ℕ) (v : V) (p : List ℕ × V) (ps : List (List ℕ × V)) → bytes_eq p.0 l ≡ b
      → is_some (find k (put l v ps)) ≡ (bytes_eq l k || is_some (find k ps))
      → is_some (find k (cond b ((p.0, v) ∷ ps) (p ∷ put l v ps))) ≡ (bytes_eq l k || is_some (find k (p ∷ ps)))
  known_by true l v p ps e h =
      let same : bytes_eq p.0 k ≡ bytes_eq l k = ap (λ (x : List ℕ). bytes_eq x k) ((bytes_eq-Decides p.0 l).0 e) in
      is_some-cond (bytes_eq p.0 k) v (find k ps) ∙ or_twice (bytes_eq p.0 k) (is_some (find k ps))
      ∙ ap (λ (b : Bool). b || (bytes_eq p.0 k || is_some (find k ps))) same
      ∙ ap (λ (b : Bool). bytes_eq l k || b) (sym (is_some-cond (bytes_eq p.0 k) p.1 (find k ps)))
  known_by false l v p ps e h =
      is_some-cond (bytes_eq p.0 k) p.1 (find k (put l v ps)) ∙ ap (λ (b : Bool). bytes_eq p.0 k || b) h
      ∙ or_swap (bytes_eq p.0 k) (bytes_eq l k) (is_some (find k ps))
      ∙ ap (λ (b : Bool). bytes_eq l k || b) (sym (is_some-cond (bytes_eq p.0 k) p.1 (find k ps)))

  -- a key is known after a `put` if it is the one put, or was known before
  pub known-put : (l : List ℕ) (v : V) (ps : List (List ℕ × V))
      → is_some (find k (put l v ps)) ≡ (bytes_eq l k || is_some (find k ps))
  known-put l v [] = is_some-cond (bytes_eq l k) v None
  known-put l v (p ∷ ps) = known_by (bytes_eq p.0 l) l v p ps refl (known-put l v ps)

  known_onto : (qs ps : List (List ℕ × V))
      → is_some (find k (fold (λ rs p. put p.0 p.1 rs) qs ps))
      ≡ (is_some (find k qs) || list_any (λ p. bytes_eq p.0 k) ps)
  known_onto qs [] = sym (or-false (is_some (find k qs)))
  known_onto qs (p ∷ ps) =
      known_onto (put p.0 p.1 qs) ps ∙ ap (λ (b : Bool). b || list_any (λ q. bytes_eq q.0 k) ps) (known-put p.0 p.1 qs)
      ∙ or_across (bytes_eq p.0 k) (is_some (find k qs)) (list_any (λ q. bytes_eq q.0 k) ps)

  known_keys : (ks : List (List ℕ)) (vs : List V) → length vs ≡ length ks
      → list_any (λ p. bytes_eq p.0 k) (zip ks vs) ≡ list_any (λ x. bytes_eq x k) ks
  known_keys [] vs e = refl
  known_keys (x ∷ ks) [] e = absurd (omega arith)
  known_keys (x ∷ ks) (v ∷ vs) e = ap (λ (b : Bool). bytes_eq x k || b) (known_keys ks vs (omega arith))

  -- some entry has a key if it is among the keys
  pub known-put_each : (ks xs : List (List ℕ)) (vs : List V) (ps : List (List ℕ × V)) → put_each (zip ks vs) ≡ ps
      → length vs ≡ length ks → xs ≡ ks → list_any (λ x. bytes_eq x k) xs ≡ is_some (find k ps)
  known-put_each ks xs vs ps view even same = ap (list_any (λ x. bytes_eq x k)) same ∙ sym (known_keys ks vs even)
      ∙ sym (known_onto [] (zip ks vs)) ∙ ap (λ qs. is_some (find k qs)) view
