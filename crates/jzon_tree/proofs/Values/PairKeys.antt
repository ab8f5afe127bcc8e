-- Lists of entries with distinct keys, by lookups.
use Rattle.jzon_base.proofs.Common.{◌≡◌, ℕ, suc, ◌≤◌, Bool, true, false, List, [], ◌∷◌, length, cond, Option, Some}
use Rattle.jzon_base.proofs.Common.{None, is_some, refl, sym, ap, ◌∙◌, subst, arith, nat_list_eq_equiv, IsDistinct}
use Rattle.jzon_base.proofs.Common.{bytes_eq, false≢true, IsDistinct-head, IsDistinct-tail, IsDistinct-cons, none-some}
use Rattle.jzon_base.proofs.Common.{bytes_eq-Decides}
use Rattle.jzon_base.proofs.Entries.PairLaws.{IsApart, find-cut_other}
use Rattle.jzon_base.specs.PairList.{find, cut, keys_of}
use Rattle.jzon_tree.specs.SameLaws.{find-head, find-past}

flip : (k l : List ℕ) → bytes_eq k l ≡ false → bytes_eq l k ≡ false
flip k l e = nat_list_eq_equiv.symm l k ∙ e

module _ {V : Type 0} where
  -- each key of ps is a key of qs
  abbrev pub IsWithin : List (List ℕ × V) → List (List ℕ × V) → Type 0
  IsWithin ps qs = (k : List ℕ) → is_some (find k ps) ≡ true → is_some (find k qs) ≡ true

  -- a key that isn't found isn't one of the keys
  apart_from_find-at : (k l : List ℕ) (b : Bool) (v : V) (rest : Option V) → bytes_eq l k ≡ b
      → cond b (Some v) rest ≡ None → (bytes_eq k l ≡ false) × (rest ≡ None)
  apart_from_find-at k l true v rest e h = absurd (none-some v (sym h))
  apart_from_find-at k l false v rest e h = (flip l k e, h)

  apart_from_find : (k : List ℕ) (ps : List (List ℕ × V)) → find k ps ≡ None → IsApart k ps
  apart_from_find k [] h = tt
  apart_from_find k (p ∷ ps) h =
      let here = apart_from_find-at k p.0 (bytes_eq p.0 k) p.1 (find k ps) refl h in
      (here.0, apart_from_find k ps here.1)

  -- a key that is found without another one isn't that one
  found_apart-at : (k l m : List ℕ) (b : Bool) (v : V) (rest : Option V) → bytes_eq m l ≡ b → bytes_eq k m ≡ false
      → (is_some rest ≡ true → bytes_eq k l ≡ false) → is_some (cond b (Some v) rest) ≡ true → bytes_eq k l ≡ false
  found_apart-at k l m true v rest e here later h = subst (λ (q : List ℕ). bytes_eq k q ≡ false)
      ((bytes_eq-Decides m l).0 e) here
  found_apart-at k l m false v rest e here later h = later h

  pub found_apart : (k l : List ℕ) (ps : List (List ℕ × V)) → IsApart k ps → is_some (find l ps) ≡ true
      → bytes_eq k l ≡ false
  found_apart k l [] apart h = absurd (false≢true h)
  found_apart k l (p ∷ ps) apart h = found_apart-at k l p.0 (bytes_eq p.0 l) p.1 (find l ps) refl apart.0
      (found_apart k l ps apart.1) h

  -- ---- a list without one of its keys
  find-cut : (k l : List ℕ) (ps : List (List ℕ × V)) → bytes_eq k l ≡ false → find l (cut k ps) ≡ find l ps
  find-cut k l ps apart = find-cut_other l k ps (λ same. false≢true (sym apart ∙ (bytes_eq-Decides k l).1 (sym same)))

  length-cut-at : (b : Bool) (k : List ℕ) (p : List ℕ × V) (ps : List (List ℕ × V))
      → (is_some (find k ps) ≡ true → suc (length (cut k ps)) ≡ length ps)
      → is_some (cond b (Some p.1) (find k ps)) ≡ true → suc (length (cond b ps (p ∷ cut k ps))) ≡ suc (length ps)
  length-cut-at true k p ps later h = refl
  length-cut-at false k p ps later h = ap suc (later h)

  length-cut : (k : List ℕ) (ps : List (List ℕ × V)) → is_some (find k ps) ≡ true → suc (length (cut k ps)) ≡ length ps
  length-cut k [] h = absurd (false≢true h)
  length-cut k (p ∷ ps) h = length-cut-at (bytes_eq p.0 k) k p ps (length-cut k ps) h

  -- ---- distinct keys that are all keys of another list are at most as many as its keys
  pub length-within : (ps qs : List (List ℕ × V)) → IsDistinct bytes_eq (keys_of ps) → IsWithin ps qs
      → length ps ≤ length qs
  length-within [] qs distinct within = omega arith
  length-within (p ∷ ps) qs distinct within =
      let apart = IsDistinct-head bytes_eq p.0 (keys_of ps) distinct in
      let rest : IsWithin ps (cut p.0 qs) = λ l h.
      let other = found_apart p.0 l ps apart h in
      ap is_some (find-cut p.0 l qs other) ∙ within l (ap is_some (find-past p.0 l p.1 ps other) ∙ h) in
      omega (
        arith,
        length-within ps (cut p.0 qs) (IsDistinct-tail bytes_eq p.0 (keys_of ps) distinct) rest,
        length-cut
            p.0 qs (within p.0 (ap is_some (find-head p.0 p.1 ps))),
      )

  -- so if they are as many, the other list has no further key
  within-cons-at : (k l : List ℕ) (b : Bool) (v : V) (ps qs : List (List ℕ × V)) → bytes_eq k l ≡ b
      → is_some (find k qs) ≡ true → (is_some (find l ps) ≡ true → is_some (find l qs) ≡ true)
      → is_some (cond b (Some v) (find l ps)) ≡ true → is_some (find l qs) ≡ true
  within-cons-at k l true v ps qs e here later h = subst (λ (q : List ℕ). is_some (find q qs) ≡ true)
      ((bytes_eq-Decides k l).0 e) here
  within-cons-at k l false v ps qs e here later h = later h

  pub none_more : (k : List ℕ) (v : V) (ps qs : List (List ℕ × V)) → IsDistinct bytes_eq (keys_of ps) → IsWithin ps qs
      → length ps ≡ length qs → find k ps ≡ None → find k qs ≡ Some v → ⊥
  none_more k v ps qs distinct within e none found =
      let there : is_some (find k qs) ≡ true = ap is_some found in
      let all : IsDistinct bytes_eq (keys_of ((k, v) ∷ ps)) = IsDistinct-cons bytes_eq k (keys_of ps)
      (apart_from_find k ps none) distinct in
      omega (
        arith,
        length-within ((k, v) ∷ ps) qs all (λ l. within-cons-at k l (bytes_eq k l) v ps qs refl there
            (within l)),
      )
