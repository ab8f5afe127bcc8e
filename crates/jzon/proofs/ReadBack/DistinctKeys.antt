-- Keys each of which is new.
use Rattle.jzon_base.proofs.Common.{◌≡◌, ℕ, List, [], ◌∷◌, false, refl, ⊤, AllByRecursion, IsDistinct, bytes_eq}
use Rattle.jzon_base.proofs.Common.{or_from, IsDistinct-head, IsDistinct-tail}
use Rattle.jzon_tree.specs.Same.{is_known}

-- each key is neither one of those seen before nor one of the keys before it
abbrev pub AreNew : List (List ℕ) → List (List ℕ) → Type 0
AreNew seen [] = ⊤
AreNew seen (k ∷ ks) = (is_known seen k ≡ false) × AreNew (k ∷ seen) ks

abbrev AreUnknown : List (List ℕ) → List (List ℕ) → Type 0
AreUnknown seen ks = AllByRecursion (λ k. is_known seen k ≡ false) ks

unknown_more : (k : List ℕ) (seen ks : List (List ℕ)) → AllByRecursion (λ y. bytes_eq k y ≡ false) ks
    → AreUnknown seen ks → AreUnknown (k ∷ seen) ks
unknown_more k seen [] apart h = tt
unknown_more k seen (y ∷ ys) apart h = (or_from _ _ apart.0 h.0, unknown_more k seen ys apart.1 h.1)

new_keys : (seen ks : List (List ℕ)) → IsDistinct bytes_eq ks → AreUnknown seen ks → AreNew seen ks
new_keys seen [] distinct h = tt
new_keys seen (k ∷ ks) distinct h = (
  h.0,
  new_keys (k ∷ seen) ks (IsDistinct-tail bytes_eq k ks distinct)
      (unknown_more k seen ks (IsDistinct-head bytes_eq k ks distinct) h.1),
)

none_known : (ks : List (List ℕ)) → AreUnknown [] ks
none_known [] = tt
none_known (k ∷ ks) = (refl, none_known ks)

pub AreNew-IsDistinct : (ks : List (List ℕ)) → IsDistinct bytes_eq ks → AreNew [] ks
AreNew-IsDistinct ks h = new_keys [] ks h (none_known ks)
