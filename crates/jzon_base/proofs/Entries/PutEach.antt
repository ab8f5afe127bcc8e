-- Entries put one after the other.
use Rattle.jzon_base.proofs.Common.{◌≡◌, ◌∙◌, ℕ, List, [], ◌∷◌, ◌++◌, Bool, true, false, cond, length, refl, sym, ap}
use Rattle.jzon_base.proofs.Common.{subst, append_assoc, append-nil, fold, zip, AllByRecursion, IsDistinct, bytes_eq}
use Rattle.jzon_base.proofs.Common.{IsDistinct-head, IsDistinct-tail}
use Rattle.jzon_base.specs.PairList.{keys_of, put, put_each}
use Rattle.jzon_base.proofs.Entries.Zips.{AreParts-zip}

module _ {V : Type 0} where
  -- ---- entries of distinct keys stay as they are

  key_within : (P : List ℕ → Type 0) (qs ps : List (List ℕ × V)) (p : List ℕ × V)
      → AllByRecursion P (keys_of (qs ++ p ∷ ps)) → P p.0
  key_within P [] ps p all = all.0
  key_within P (q ∷ qs) ps p all = key_within P qs ps p all.1

  put-distinct : (qs ps : List (List ℕ × V)) (p : List ℕ × V) → IsDistinct bytes_eq (keys_of (qs ++ p ∷ ps))
      → put p.0 p.1 qs ≡ qs ++ p ∷ []
  put-distinct [] ps p distinct = refl
  put-distinct (q ∷ qs) ps p distinct =
      let apart : bytes_eq q.0 p.0 ≡ false = key_within (λ k. bytes_eq q.0 k ≡ false) qs ps p
      (IsDistinct-head bytes_eq q.0 (keys_of (qs ++ p ∷ ps)) distinct) in
      rw apart (ap (λ rs. q ∷ rs) (put-distinct qs ps p (IsDistinct-tail bytes_eq q.0 (keys_of (qs ++ p ∷ ps))
      distinct)))

  put_behind : (qs ps : List (List ℕ × V)) → IsDistinct bytes_eq (keys_of (qs ++ ps))
      → fold (λ rs p. put p.0 p.1 rs) qs ps ≡ qs ++ ps
  put_behind qs [] distinct = sym (append-nil qs)
  put_behind qs (p ∷ ps) distinct =
      let split = append_assoc qs (p ∷ []) ps in
      ap (λ rs. fold (λ ts q. put q.0 q.1 ts) rs ps) (put-distinct qs ps p distinct)
      ∙ put_behind (qs ++ p ∷ []) ps (subst (λ rs. IsDistinct bytes_eq (keys_of rs)) (sym split) distinct) ∙ split

  pub put_each-distinct : (ps : List (List ℕ × V)) → IsDistinct bytes_eq (keys_of ps) → put_each ps ≡ ps
  put_each-distinct ps distinct = put_behind [] ps distinct

  -- ---- the keys are distinct, whatever is put

  apart_by : (b : Bool) (l k : List ℕ) (v : V) (p : List ℕ × V) (ps : List (List ℕ × V))
      → AllByRecursion (λ y. bytes_eq l y ≡ false) (keys_of (p ∷ ps))
      → AllByRecursion (λ y. bytes_eq l y ≡ false) (keys_of (put k v ps))
      → AllByRecursion (λ y. bytes_eq l y ≡ false) (keys_of (cond b ((p.0, v) ∷ ps) (p ∷ put k v ps)))
  apart_by true l k v p ps all rest = all
  apart_by false l k v p ps all rest = (all.0, rest)

  apart_put : (l k : List ℕ) (v : V) (ps : List (List ℕ × V)) → bytes_eq l k ≡ false
      → AllByRecursion (λ y. bytes_eq l y ≡ false) (keys_of ps)
      → AllByRecursion (λ y. bytes_eq l y ≡ false) (keys_of (put k v ps))
  apart_put l k v [] e all = (e, tt)
  apart_put l k v (p ∷ ps) e all = apart_by (bytes_eq p.0 k) l k v p ps all (apart_put l k v ps e all.1)

  IsDistinct-put_by : (b : Bool) (k : List ℕ) (v : V) (p : List ℕ × V) (ps : List (List ℕ × V)) → bytes_eq p.0 k ≡ b
      → IsDistinct bytes_eq (keys_of (p ∷ ps)) → IsDistinct bytes_eq (keys_of (put k v ps))
      → IsDistinct bytes_eq (keys_of (cond b ((p.0, v) ∷ ps) (p ∷ put k v ps)))
  unfolding IsDistinct
  IsDistinct-put_by true k v p ps e d rest = d
  IsDistinct-put_by false k v p ps e d rest = (apart_put p.0 k v ps e d.0, rest)

  pub IsDistinct-put : (k : List ℕ) (v : V) (ps : List (List ℕ × V)) → IsDistinct bytes_eq (keys_of ps)
      → IsDistinct bytes_eq (keys_of (put k v ps))
  unfolding IsDistinct
  IsDistinct-put k v [] d = (tt, tt)
  IsDistinct-put k v (p ∷ ps) d = IsDistinct-put_by (bytes_eq p.0 k) k v p ps refl d
      (IsDistinct-put k v ps (IsDistinct-tail bytes_eq p.0 (keys_of ps) d))

  IsDistinct-put_onto : (qs ps : List (List ℕ × V)) → IsDistinct bytes_eq (keys_of qs)
      → IsDistinct bytes_eq (keys_of (fold (λ xs p. put p.0 p.1 xs) qs ps))
  IsDistinct-put_onto qs [] d = d
  IsDistinct-put_onto qs (p ∷ ps) d = IsDistinct-put_onto (put p.0 p.1 qs) ps (IsDistinct-put p.0 p.1 qs d)

  pub IsDistinct-put_each : (ps : List (List ℕ × V)) → IsDistinct bytes_eq (keys_of (put_each ps))
  unfolding IsDistinct
  IsDistinct-put_each ps = IsDistinct-put_onto [] ps tt

  -- putting the result once more changes nothing
  pub put_each-put_each : (ps : List (List ℕ × V)) → put_each (put_each ps) ≡ put_each ps
  put_each-put_each ps = put_each-distinct (put_each ps) (IsDistinct-put_each ps)

  -- ---- separate lists of keys and values

  pub put_each-zip : (ks : List (List ℕ)) (vs : List V) → length vs ≡ length ks → IsDistinct bytes_eq ks
      → put_each (zip ks vs) ≡ zip ks vs
  put_each-zip ks vs even distinct = put_each-distinct (zip ks vs)
      (subst (IsDistinct bytes_eq) (AreParts-zip ks vs (zip ks vs) refl even).keys distinct)
