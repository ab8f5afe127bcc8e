-- What `retain` leaves of keys and values.
use Rattle.jzon_base.proofs.Common.{◌≡◌, ◌∙◌, ℕ, suc, ◌+◌, ◌<◌, ◌≤◌, Bool, true, false, cond, List, [], ◌∷◌, ◌++◌}
use Rattle.jzon_base.proofs.Common.{length, get_or, set, take, drop, refl, sym, ap, subst, arith, append_assoc}
use Rattle.jzon_base.proofs.Common.{append-nil, drop_more, drop_all, drop-set-lt, take-set-le, get_or-set_same}
use Rattle.jzon_base.proofs.Common.{length-set, length-take-le, length-swap, keys_of-zip, length-zip, swap, zip}
use Rattle.jzon_base.proofs.Common.{AllByRecursion, IsDistinct, bytes_eq}
use Rattle.std.specs.Map.{keys_of}
use Rattle.std.specs.Map.Calls.{CallableOnEachPair, RetainsPairs}
use Rattle.jzon_base.proofs.Entries.Merges.{swap_prefix, swap_back}
use Rattle.jzon_base.proofs.Entries.Zips.{zip-push}

module _ {F V : Type 0} (T : F → List ℕ → V → Bool → V → F → Type 0) where
  -- ---- the keys that are left

  kept_or_not : (P : List (List ℕ × V) → Type 0) (b : Bool) (p : List ℕ × V) (ps qs : List (List ℕ × V)) → P (p ∷ ps)
      → P ps → qs ≡ cond b (p ∷ ps) ps → P qs
  kept_or_not P true p ps qs kept not e = subst P (sym e) kept
  kept_or_not P false p ps qs kept not e = subst P (sym e) not

  length-retained : (f : F) (ps qs : List (List ℕ × V)) → RetainsPairs T f ps qs → length qs ≤ length ps
  length-retained f [] qs r = omega (arith, ap length r)
  length-retained f (p ∷ ps) qs r =
      let l = length-retained r.2 ps r.3 r.5 in
      kept_or_not (λ us. length us ≤ suc (length ps)) r.0 (p.0, r.1) r.3 qs (omega arith) (omega arith) r.6

  all-retained : (P : List ℕ → Type 0) (f : F) (ps qs : List (List ℕ × V)) → RetainsPairs T f ps qs
      → AllByRecursion P (keys_of ps) → AllByRecursion P (keys_of qs)
  all-retained P f [] qs r all = subst (λ us. AllByRecursion P (keys_of us)) (sym r) tt
  all-retained P f (p ∷ ps) qs r all =
      let rest = all-retained P r.2 ps r.3 r.5 all.1 in
      kept_or_not (λ us. AllByRecursion P (keys_of us)) r.0 (p.0, r.1) r.3 qs (all.0, rest) rest r.6

  distinct-retained : (f : F) (ps qs : List (List ℕ × V)) → RetainsPairs T f ps qs → IsDistinct bytes_eq (keys_of ps)
      → IsDistinct bytes_eq (keys_of qs)
  unfolding IsDistinct
  distinct-retained f [] qs r d = subst (λ (us : List (List ℕ × V)). IsDistinct bytes_eq (keys_of us)) (sym r) tt
  distinct-retained f (p ∷ ps) qs r d =
      let rest = distinct-retained r.2 ps r.3 r.5 d.1 in
      kept_or_not (λ (us : List (List ℕ × V)). IsDistinct bytes_eq (keys_of us)) r.0 (p.0, r.1) r.3 qs
      (all-retained (λ (k : List ℕ). bytes_eq p.0 k ≡ false) r.2 ps r.3 r.5 d.0, rest) rest r.6

  whole_or_less : (b : Bool) (p : List ℕ × V) (ps qs us : List (List ℕ × V)) (k : List ℕ) → p.0 ≡ k
      → (length ps ≡ length us → keys_of ps ≡ keys_of us) → length ps ≤ length us → qs ≡ cond b (p ∷ ps) ps
      → length qs ≡ suc (length us) → keys_of qs ≡ k ∷ keys_of us
  whole_or_less true p ps qs us k own rest l e n =
      ap keys_of e ∙ (λ i. own i ∷ rest (omega (arith, ap length e)) i)
  whole_or_less false p ps qs us k own rest l e n = absurd (omega (arith, ap length e))

  all_kept : (f : F) (ps qs : List (List ℕ × V)) → RetainsPairs T f ps qs → length qs ≡ length ps
      → keys_of qs ≡ keys_of ps
  all_kept f [] qs r e = ap keys_of r
  all_kept f (p ∷ ps) qs r e = whole_or_less r.0 (p.0, r.1) r.3 qs ps p.0 refl (all_kept r.2 ps r.3 r.5)
      (length-retained r.2 ps r.3 r.5) r.6 e

  module _ (f : F) (ks ls : List (List ℕ)) (vs ws : List V)
      (even : length vs ≡ length ks) (left : length ws ≡ length ls)
      (r : RetainsPairs T f (zip ks vs) (zip ls ws)) where
    pub IsDistinct-retained : IsDistinct bytes_eq ks → IsDistinct bytes_eq ls
    IsDistinct-retained d =
        subst (IsDistinct bytes_eq) (keys_of-zip ls ws left) (distinct-retained f (zip ks vs) (zip ls ws) r
        (subst (IsDistinct bytes_eq) (sym (keys_of-zip ks vs even)) d))

    pub fewer_retained : length ls ≤ length ks
    fewer_retained = omega (
      arith,
      length-retained f (zip ks vs) (zip ls ws) r,
      length-zip ks vs,
      length-zip ls ws,
    )

    -- where no key is dropped, all are as before
    pub same_retained : length ks ≤ length ls → ls ≡ ks
    same_retained l = sym (keys_of-zip ls ws left) ∙ all_kept f (zip ks vs) (zip ls ws) r
        (omega (arith, fewer_retained, length-zip ks vs, length-zip ls ws)) ∙ keys_of-zip ks vs even

  -- ---- the loop

  module _ (Q : F → List ℕ → V → Type 0) where
    -- of e entries the first i were tested, and those that stay are the first n
    pub record IsSifted (f₀ : F) (ps₀ : List (List ℕ × V)) (e : ℕ) (f : F) (ks : List (List ℕ)) (vs : List V)
        (n i : ℕ) : Type 0 where
      pub counted : length ks ≡ e
      pub even : length vs ≡ e
      pub within : n ≤ i
      pub ready : CallableOnEachPair T Q f (zip (drop i ks) (drop i vs))
      pub rest : (qs : List (List ℕ × V)) → RetainsPairs T f (zip (drop i ks) (drop i vs)) qs
          → RetainsPairs T f₀ ps₀ (zip (take n ks) (take n vs) ++ qs)

    module _ {f₀ : F} {ps₀ : List (List ℕ × V)} {e : ℕ} {f : F} {ks : List (List ℕ)} {vs : List V} {n i : ℕ}
        (s : IsSifted f₀ ps₀ e f ks vs n i) where
      module _ (k : List ℕ) (v : V) (more : i < e) (is : k ≡ get_or ks i k) (has : v ≡ get_or vs i v) where
        here : zip (drop i ks) (drop i vs) ≡ (k, v) ∷ zip (drop (i + 1) ks) (drop (i + 1) vs)
        here =
            let l = s.counted in
            let m = s.even in
            let a : drop i ks ≡ k ∷ drop (i + 1) ks = drop_more ks i k (omega arith)
            ∙ ap (λ x. x ∷ drop (i + 1) ks) (sym is) in
            let b : drop i vs ≡ v ∷ drop (i + 1) vs = drop_more vs i v (omega arith)
            ∙ ap (λ x. x ∷ drop (i + 1) vs) (sym has) in
            λ j. zip (a j) (b j)

        pub asked : Q f k v
        asked = s.ready.at [] (zip (drop (i + 1) ks) (drop (i + 1) vs)) f k v here refl

        turn : (c : Bool) (w : V) (g : F) → T f k v c w g → (ls : List (List ℕ)) (ws : List V) (m : ℕ)
            → length ls ≡ e → length ws ≡ e → m ≤ i + 1
            → drop (i + 1) ls ≡ drop (i + 1) ks → drop (i + 1) ws ≡ drop (i + 1) vs
            → ((qs : List (List ℕ × V)) → zip (take m ls) (take m ws) ++ qs
            ≡ zip (take n ks) (take n vs) ++ cond c ((k, w) ∷ qs) qs) → IsSifted f₀ ps₀ e g ls ws m (i + 1)
        turn c w g called ls ws m counted even within p q joined =
            let same : zip (drop (i + 1) ls) (drop (i + 1) ws) ≡ zip (drop (i + 1) ks) (drop (i + 1) vs) =
            λ j. zip (p j) (q j) in
            record {
              counted = counted;
              even = even;
              within = within;
              ready = record {
                at = λ before after u l z o r. s.ready.at ((k, v) ∷ before) after u l z
                    (here ∙ ap (λ ps. (k, v) ∷ ps) (sym same ∙ o)) (g, (c, w, called), r);
              };
              rest = λ qs r. subst (RetainsPairs T f₀ ps₀) (sym (joined qs)) (s.rest (cond c ((k, w) ∷ qs) qs)
                  (subst (λ ps. RetainsPairs T f ps (cond c ((k, w) ∷ qs) qs)) (sym here)
                  (c, w, g, qs, called, subst (λ ps. RetainsPairs T g ps qs) same r, refl)));
            }

        module _ (w : V) (g : F) (ls : List (List ℕ)) (ws : List V) (m : ℕ) where
          pub dropped : T f k v false w g → ls ≡ ks → ws ≡ set vs i w → m ≡ n → IsSifted f₀ ps₀ e g ls ws m (i + 1)
          dropped called a b o =
              let x = s.counted in
              let y = s.even in
              let le = s.within in
              turn false w g called ls ws m (ap length a ∙ x) (ap length b ∙ length-set vs i w ∙ y) (omega arith)
              (ap (drop (i + 1)) a) (ap (drop (i + 1)) b ∙ drop-set-lt (i + 1) vs i w (omega arith))
              (λ qs. (λ j. zip (take (o j) (a j)) (take (o j) (b j)) ++ qs)
              ∙ ap (λ us. zip (take n ks) us ++ qs) (take-set-le n vs i w le))

          pub kept : T f k v true w g → ls ≡ swap ks n i → ws ≡ swap (set vs i w) n i → m ≡ n + 1
              → IsSifted f₀ ps₀ e g ls ws m (i + 1)
          kept called a b o =
              let x = s.counted in
              let y = s.even in
              let le = s.within in
              let us = set vs i w in
              let all : length us ≡ length vs = length-set vs i w in
              let long : i < length us = omega arith in
              let own : get_or us i w ≡ w = get_or-set_same vs i w w (omega arith) in
              let first : take (n + 1) (swap ks n i) ≡ take n ks ++ k ∷ [] = swap_prefix ks n i k le (omega arith)
              ∙ ap (λ z. take n ks ++ z ∷ []) (sym is) in
              let second : take (n + 1) (swap us n i) ≡ take n vs ++ w ∷ [] = swap_prefix us n i w le long
              ∙ (λ j. take-set-le n vs i w le j ++ own j ∷ []) in
              let lengths : length (take n vs) ≡ length (take n ks) = length-take-le n vs (omega arith)
              ∙ sym (length-take-le n ks (omega arith)) in
              turn true w g called ls ws m (ap length a ∙ length-swap ks n i ∙ x)
              (ap length b ∙ length-swap us n i ∙ all ∙ y) (omega arith)
              (ap (drop (i + 1)) a ∙ swap_back ks n i k le (omega arith))
              (ap (drop (i + 1)) b ∙ swap_back us n i w le long ∙ drop-set-lt (i + 1) vs i w (omega arith))
              (λ qs. (λ j. zip (take (o j) (a j)) (take (o j) (b j)) ++ qs)
              ∙ ap (λ ps. ps ++ qs) ((λ j. zip (first j) (second j))
              ∙ zip-push (take n ks) (take n vs) k w lengths)
              ∙ append_assoc (zip (take n ks) (take n vs)) ((k, w) ∷ []) qs)

      pub sifted_all : e ≤ i → (ls : List (List ℕ)) (ws : List V) → ls ≡ take n ks → ws ≡ take n vs
          → RetainsPairs T f₀ ps₀ (zip ls ws)
      sifted_all le ls ws p q =
          let l = s.counted in
          let none : zip (drop i ks) (drop i vs) ≡ [] = ap (λ us. zip us (drop i vs)) (drop_all i ks (omega arith)) in
          subst (RetainsPairs T f₀ ps₀) (append-nil (zip (take n ks) (take n vs)) ∙ sym (λ j. zip (p j) (q j)))
          (s.rest [] (subst (λ ps. RetainsPairs T f ps []) (sym none) refl))
