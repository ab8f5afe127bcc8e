-- The laws of lists of entries: what is found under a key after `put` and `cut`, that distinct keys stay distinct, and
-- what holds of each entry.
pub use Rattle.jzon_base.proofs.Entries.PutEach.{put_each-distinct, put_each-put_each}
use Rattle.jzon_base.proofs.Common.{◌≡◌, ◌≢◌, ℕ, List, [], ◌∷◌, Bool, true, false, cond, Option, Some, None, refl, sym}
use Rattle.jzon_base.proofs.Common.{ap, subst, ◌∙◌, AllPairs, nat_list_eq_equiv, fold, AllByRecursion, IsDistinct}
use Rattle.jzon_base.proofs.Common.{bytes_eq, IsDistinct-head, IsDistinct-tail, IsDistinct-from_AllPairs}
use Rattle.jzon_base.proofs.Common.{AllPairs-from_IsDistinct, false≢true, none-some, same_Some, bytes_eq-Decides}
use Rattle.std.specs.Option.{option_or}
use Rattle.jzon_base.specs.PairList.{find, put, put_each, cut, keys_of}
use Rattle.jzon_base.proofs.Entries.PutEach.{IsDistinct-put, IsDistinct-put_each}

unequal-by : (b : Bool) (j k : List ℕ) → j ≢ k → bytes_eq j k ≡ b → b ≡ false
unequal-by true j k apart e = absurd (apart ((bytes_eq-Decides j k).0 e))
unequal-by false j k apart e = refl

pub bytes_eq-other : (j k : List ℕ) → j ≢ k → bytes_eq j k ≡ false
bytes_eq-other j k apart = unequal-by (bytes_eq j k) j k apart refl

module _ {V : Type 0} where
  -- ---- what is found after `put`

  find-put_same-by : (b : Bool) (k : List ℕ) (v : V) (p : List ℕ × V) (ps : List (List ℕ × V)) → bytes_eq p.0 k ≡ b
      → find k (put k v ps) ≡ Some v → find k (cond b ((p.0, v) ∷ ps) (p ∷ put k v ps)) ≡ Some v
  find-put_same-by true k v p ps e rest = rw e refl
  find-put_same-by false k v p ps e rest = rw e rest

  pub find-put_same : (k : List ℕ) (v : V) (ps : List (List ℕ × V)) → find k (put k v ps) ≡ Some v
  find-put_same k v [] = rw (nat_list_eq_equiv.refl k) refl
  find-put_same k v (p ∷ ps) = find-put_same-by (bytes_eq p.0 k) k v p ps refl (find-put_same k v ps)

  find-put_other-by : (b : Bool) (j k : List ℕ) (v : V) (p : List ℕ × V) (ps : List (List ℕ × V)) → j ≢ k
      → bytes_eq p.0 k ≡ b → find j (put k v ps) ≡ find j ps
      → find j (cond b ((p.0, v) ∷ ps) (p ∷ put k v ps)) ≡ cond (bytes_eq p.0 j) (Some p.1) (find j ps)
  find-put_other-by true j k v p ps apart e rest =
      let other = bytes_eq-other p.0 j (λ same. apart (sym same ∙ (bytes_eq-Decides p.0 k).0 e)) in rw other refl
  find-put_other-by false j k v p ps apart e rest =
      ap (λ (found : Option V). cond (bytes_eq p.0 j) (Some p.1) found) rest

  pub find-put_other : (j k : List ℕ) (v : V) (ps : List (List ℕ × V)) → j ≢ k → find j (put k v ps) ≡ find j ps
  find-put_other j k v [] apart = let other = bytes_eq-other k j (λ same. apart (sym same)) in rw other refl
  find-put_other j k v (p ∷ ps) apart =
      find-put_other-by (bytes_eq p.0 k) j k v p ps apart refl (find-put_other j k v ps apart)

  -- ---- what is found after `cut`

  find-apart : (k : List ℕ) (ps : List (List ℕ × V)) → AllByRecursion (λ j. bytes_eq k j ≡ false) (keys_of ps)
      → find k ps ≡ None
  find-apart k [] apart = refl
  find-apart k (p ∷ ps) apart = let other = nat_list_eq_equiv.symm p.0 k ∙ apart.0 in rw other (find-apart k ps apart.1)

  find-cut_same-by : (b : Bool) (k : List ℕ) (p : List ℕ × V) (ps : List (List ℕ × V)) → bytes_eq p.0 k ≡ b
      → AllByRecursion (λ j. bytes_eq p.0 j ≡ false) (keys_of ps) → find k (cut k ps) ≡ None
      → find k (cond b ps (p ∷ cut k ps)) ≡ None
  find-cut_same-by true k p ps e apart rest =
      subst (λ (j : List ℕ). find j ps ≡ None) ((bytes_eq-Decides p.0 k).0 e) (find-apart p.0 ps apart)
  find-cut_same-by false k p ps e apart rest = rw e rest

  cut_apart : (k : List ℕ) (ps : List (List ℕ × V)) → IsDistinct bytes_eq (keys_of ps) → find k (cut k ps) ≡ None
  cut_apart k [] distinct = refl
  cut_apart k (p ∷ ps) distinct =
      find-cut_same-by (bytes_eq p.0 k) k p ps refl (IsDistinct-head bytes_eq p.0 (keys_of ps) distinct)
      (cut_apart k ps (IsDistinct-tail bytes_eq p.0 (keys_of ps) distinct))

  pub find-cut_same : (k : List ℕ) (ps : List (List ℕ × V)) → AllPairs (λ i j. i ≢ j) (keys_of ps)
      → find k (cut k ps) ≡ None
  find-cut_same k ps distinct = cut_apart k ps (IsDistinct-from_AllPairs bytes_eq-Decides (keys_of ps) distinct)

  find-cut_other-by : (b : Bool) (j k : List ℕ) (p : List ℕ × V) (ps : List (List ℕ × V)) → j ≢ k → bytes_eq p.0 k ≡ b
      → find j (cut k ps) ≡ find j ps → find j (cond b ps (p ∷ cut k ps)) ≡ cond (bytes_eq p.0 j) (Some p.1) (find j ps)
  find-cut_other-by true j k p ps apart e rest =
      let other = bytes_eq-other p.0 j (λ same. apart (sym same ∙ (bytes_eq-Decides p.0 k).0 e)) in rw other refl
  find-cut_other-by false j k p ps apart e rest = ap (λ (found : Option V). cond (bytes_eq p.0 j) (Some p.1) found) rest

  pub find-cut_other : (j k : List ℕ) (ps : List (List ℕ × V)) → j ≢ k → find j (cut k ps) ≡ find j ps
  find-cut_other j k [] apart = refl
  find-cut_other j k (p ∷ ps) apart =
      find-cut_other-by (bytes_eq p.0 k) j k p ps apart refl (find-cut_other j k ps apart)

  -- ---- entries put one after the other onto others: the last value of a key is found, or else the first of the others

  option_or-put : (b : Bool) (k : List ℕ) (p : List ℕ × V) (qs ps : List (List ℕ × V)) → bytes_eq p.0 k ≡ b
      → AllByRecursion (λ j. bytes_eq p.0 j ≡ false) (keys_of ps)
      → option_or (find k ps) (find k (put p.0 p.1 qs)) ≡ option_or (cond b (Some p.1) (find k ps)) (find k qs)
  option_or-put true k p qs ps e apart =
      let same : p.0 ≡ k = (bytes_eq-Decides p.0 k).0 e in
      let none = subst (λ (j : List ℕ). find j ps ≡ None) same (find-apart p.0 ps apart) in
      let some = subst (λ (j : List ℕ). find j (put p.0 p.1 qs) ≡ Some p.1) same (find-put_same p.0 p.1 qs) in
      rw (none, some) refl
  option_or-put false k p qs ps e apart =
      ap (λ (found : Option V). option_or (find k ps) found)
      (find-put_other k p.0 p.1 qs (λ same. false≢true (sym e ∙ (bytes_eq-Decides p.0 k).1 (sym same))))

  found_onto : (k : List ℕ) (qs ps : List (List ℕ × V)) → IsDistinct bytes_eq (keys_of ps)
      → find k (fold (λ xs p. put p.0 p.1 xs) qs ps) ≡ option_or (find k ps) (find k qs)
  found_onto k qs [] distinct = refl
  found_onto k qs (p ∷ ps) distinct =
      found_onto k (put p.0 p.1 qs) ps (IsDistinct-tail bytes_eq p.0 (keys_of ps) distinct)
      ∙ option_or-put (bytes_eq p.0 k) k p qs ps refl (IsDistinct-head bytes_eq p.0 (keys_of ps) distinct)

  pub find-put_onto : (k : List ℕ) (qs ps : List (List ℕ × V)) → AllPairs (λ i j. i ≢ j) (keys_of ps)
      → find k (fold (λ xs p. put p.0 p.1 xs) qs ps) ≡ option_or (find k ps) (find k qs)
  find-put_onto k qs ps distinct = found_onto k qs ps (IsDistinct-from_AllPairs bytes_eq-Decides (keys_of ps) distinct)

  -- ---- what holds of each entry

  All-put-by : (P : List ℕ × V → Type 0) (b : Bool) (k : List ℕ) (v : V) (p : List ℕ × V) (ps : List (List ℕ × V))
      → bytes_eq p.0 k ≡ b → P (k, v) → AllByRecursion P (p ∷ ps) → AllByRecursion P (put k v ps)
      → AllByRecursion P (cond b ((p.0, v) ∷ ps) (p ∷ put k v ps))
  All-put-by P true k v p ps e one all rest =
      (subst (λ (j : List ℕ). P (j, v)) (sym ((bytes_eq-Decides p.0 k).0 e)) one, all.1)
  All-put-by P false k v p ps e one all rest = (all.0, rest)

  pub All-put : (P : List ℕ × V → Type 0) (k : List ℕ) (v : V) (ps : List (List ℕ × V))
      → P (k, v) → AllByRecursion P ps → AllByRecursion P (put k v ps)
  All-put P k v [] one all = (one, tt)
  All-put P k v (p ∷ ps) one all = All-put-by P (bytes_eq p.0 k) k v p ps refl one all (All-put P k v ps one all.1)

  All-cut-by : (P : List ℕ × V → Type 0) (b : Bool) (p : List ℕ × V) (ps qs : List (List ℕ × V))
      → AllByRecursion P (p ∷ ps) → AllByRecursion P qs → AllByRecursion P (cond b ps (p ∷ qs))
  All-cut-by P true p ps qs all rest = all.1
  All-cut-by P false p ps qs all rest = (all.0, rest)

  pub All-cut : (P : List ℕ × V → Type 0) (k : List ℕ) (ps : List (List ℕ × V)) → AllByRecursion P ps
      → AllByRecursion P (cut k ps)
  All-cut P k [] all = tt
  All-cut P k (p ∷ ps) all = All-cut-by P (bytes_eq p.0 k) p ps (cut k ps) all (All-cut P k ps all.1)

  All-found-by : (P : List ℕ × V → Type 0) (b : Bool) (k : List ℕ) (v : V) (p : List ℕ × V) (rest : Option V)
      → bytes_eq p.0 k ≡ b
      → P p → (rest ≡ Some v → P (k, v)) → cond b (Some p.1) rest ≡ Some v → P (k, v)
  All-found-by P true k v p rest e here later found =
      let named = subst (λ (j : List ℕ). P (j, p.1)) ((bytes_eq-Decides p.0 k).0 e) here in
      subst (λ (w : V). P (k, w)) (same_Some p.1 v found) named
  All-found-by P false k v p rest e here later found = later found

  pub All-found : (P : List ℕ × V → Type 0) (k : List ℕ) (v : V) (ps : List (List ℕ × V))
      → AllByRecursion P ps → find k ps ≡ Some v → P (k, v)
  All-found P k v [] all found = absurd (none-some v found)
  All-found P k v (p ∷ ps) all found =
      All-found-by P (bytes_eq p.0 k) k v p (find k ps) refl all.0 (All-found P k v ps all.1) found

  -- ---- distinct keys stay distinct

  keys_all : (P : List ℕ → Type 0) (ps : List (List ℕ × V)) → AllByRecursion (λ p. P p.0) ps
      → AllByRecursion P (keys_of ps)
  keys_all P [] all = tt
  keys_all P (p ∷ ps) all = (all.0, keys_all P ps all.1)

  all_keys : (P : List ℕ → Type 0) (ps : List (List ℕ × V)) → AllByRecursion P (keys_of ps)
      → AllByRecursion (λ p. P p.0) ps
  all_keys P [] all = tt
  all_keys P (p ∷ ps) all = (all.0, all_keys P ps all.1)

  -- l isn't one of the keys
  abbrev pub IsApart : List ℕ → List (List ℕ × V) → Type 0
  IsApart l ps = AllByRecursion (λ y. bytes_eq l y ≡ false) (keys_of ps)

  apart_cut : (l k : List ℕ) (ps : List (List ℕ × V)) → IsApart l ps → IsApart l (cut k ps)
  apart_cut l k ps all = keys_all (λ y. bytes_eq l y ≡ false) (cut k ps)
      (All-cut (λ p. bytes_eq l p.0 ≡ false) k ps (all_keys (λ y. bytes_eq l y ≡ false) ps all))

  IsDistinct-cut-by : (b : Bool) (k : List ℕ) (p : List ℕ × V) (ps : List (List ℕ × V))
      → IsDistinct bytes_eq (keys_of (p ∷ ps)) → IsDistinct bytes_eq (keys_of (cut k ps))
      → IsDistinct bytes_eq (keys_of (cond b ps (p ∷ cut k ps)))
  unfolding IsDistinct
  IsDistinct-cut-by true k p ps d rest = d.1
  IsDistinct-cut-by false k p ps d rest = (apart_cut p.0 k ps d.0, rest)

  IsDistinct-cut : (k : List ℕ) (ps : List (List ℕ × V)) → IsDistinct bytes_eq (keys_of ps)
      → IsDistinct bytes_eq (keys_of (cut k ps))
  IsDistinct-cut k [] d = d
  IsDistinct-cut k (p ∷ ps) d =
      IsDistinct-cut-by (bytes_eq p.0 k) k p ps d (IsDistinct-cut k ps (IsDistinct-tail bytes_eq p.0 (keys_of ps) d))

  pub distinct-put : (k : List ℕ) (v : V) (ps : List (List ℕ × V))
      → AllPairs (λ i j. i ≢ j) (keys_of ps) → AllPairs (λ i j. i ≢ j) (keys_of (put k v ps))
  distinct-put k v ps h =
      AllPairs-from_IsDistinct bytes_eq-Decides (keys_of (put k v ps))
      (IsDistinct-put k v ps (IsDistinct-from_AllPairs bytes_eq-Decides (keys_of ps) h))

  pub distinct-cut : (k : List ℕ) (ps : List (List ℕ × V))
      → AllPairs (λ i j. i ≢ j) (keys_of ps) → AllPairs (λ i j. i ≢ j) (keys_of (cut k ps))
  distinct-cut k ps h =
      AllPairs-from_IsDistinct bytes_eq-Decides (keys_of (cut k ps))
      (IsDistinct-cut k ps (IsDistinct-from_AllPairs bytes_eq-Decides (keys_of ps) h))

  pub distinct-put_each : (ps : List (List ℕ × V)) → AllPairs (λ i j. i ≢ j) (keys_of (put_each ps))
  distinct-put_each ps = AllPairs-from_IsDistinct bytes_eq-Decides (keys_of (put_each ps)) (IsDistinct-put_each ps)
