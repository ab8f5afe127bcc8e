-- An order has each position below n: none beyond, none twice, and each somewhere.
use Rattle.jzon_base.proofs.Common.{◌≡◌, ◌≢◌, ℕ, zero, suc, ◌+◌, ◌<◌, ◌≤◌, Bool, true, false, cond, List, [], ◌∷◌}
use Rattle.jzon_base.proofs.Common.{length, get_or, refl, sym, ap, ◌∙◌, arith, inl, inr, ◌==◌, nat_lt, count_by, eq-eqb}
use Rattle.jzon_base.proofs.Common.{ne_eqb, ltb-true, lt-ltb, le-ltb, cases_lt}
use Rattle.std.proofs.lemmas.Bool.{eqb-true}
use Rattle.std.proofs.lemmas.List.Sums.{sum_by-cons, count_by-le-length}
use Rattle.jzon_tree.specs.Writing.{IsOrder}

abbrev pub times : ℕ → List ℕ → ℕ
times v ps = count_by (λ j. j == v) ps

abbrev below : ℕ → List ℕ → ℕ
below n ps = count_by (λ j. nat_lt j n) ps

pub times-cons : (v x : ℕ) (xs : List ℕ) → times v (x ∷ xs) ≡ cond (x == v) 1 0 + times v xs
times-cons v x xs = sum_by-cons (λ j. cond (j == v) 1 0) x xs

below-cons : (n x : ℕ) (xs : List ℕ) → below n (x ∷ xs) ≡ cond (nat_lt x n) 1 0 + below n xs
below-cons n x xs = sum_by-cons (λ j. cond (nat_lt j n) 1 0) x xs

-- ---- each somewhere
occurs-at : (b : Bool) (v x : ℕ) (xs : List ℕ) → (x == v) ≡ b → 1 ≤ cond b 1 0 + times v xs
    → (1 ≤ times v xs → (k : ℕ) × (k < length xs) × (get_or xs k 0 ≡ v))
    → (k : ℕ) × (k < length (x ∷ xs)) × (get_or (x ∷ xs) k 0 ≡ v)
occurs-at true v x xs e h rest = (zero, omega arith, eqb-true x v e)
occurs-at false v x xs e h rest = let r = rest (omega arith) in (suc r.0, omega (arith, r.1), r.2)

occurs : (ps : List ℕ) (v : ℕ) → 1 ≤ times v ps → (k : ℕ) × (k < length ps) × (get_or ps k 0 ≡ v)
occurs [] v h = absurd (omega arith)
occurs (x ∷ xs) v h = occurs-at (x == v) v x xs refl (rw times-cons at h) (λ g. occurs xs v g)

pub order_occurs : (n : ℕ) (ps : List ℕ) → IsOrder n ps → (i : ℕ) → i < n → (k : ℕ) × (k < length ps)
    × (get_or ps k 0 ≡ i)
order_occurs n ps o i h = occurs ps i (omega (arith, o.once i h))

-- ---- none beyond
one_more-at : (x n : ℕ) → cond (nat_lt x (suc n)) 1 0 ≡ cond (nat_lt x n) 1 0 + cond (x == n) 1 0
one_more-at x n = elim (cases_lt x n) [
  | inl h ↦ rw (lt-ltb x (suc n) (omega arith), lt-ltb x n h, ne_eqb x n (λ e. omega arith)) refl
  | inr h ↦ elim (cases_lt n x) [
    | inl g ↦ rw (le-ltb x (suc n) (omega arith), le-ltb x n h, ne_eqb x n (λ e. omega arith)) refl
    | inr g ↦ rw (lt-ltb x (suc n) (omega arith), le-ltb x n h, eq-eqb x n (omega arith)) refl
  ]
]

one_more : (n : ℕ) (ps : List ℕ) → below (suc n) ps ≡ below n ps + times n ps
one_more n [] = refl
one_more n (x ∷ xs) =
    omega (arith, below-cons (suc n) x xs, below-cons n x xs, times-cons n x xs, one_more-at x n, one_more n xs)

none_below : (ps : List ℕ) → below 0 ps ≡ 0
none_below [] = refl
none_below (x ∷ xs) = let t : cond (nat_lt x 0) 1 0 ≡ 0 = ap {B = ℕ} (λ b. cond b 1 0) (le-ltb x 0 (omega arith)) in
    omega (arith, below-cons 0 x xs, t, none_below xs)

all_below : (n m : ℕ) (ps : List ℕ) → ((i : ℕ) → i < n → times i ps ≡ 1) → m ≤ n → below m ps ≡ m
all_below n zero ps once h = none_below ps
all_below n (suc m) ps once h = omega (arith, one_more m ps, once m (omega arith), all_below n m ps once (omega arith))

full-at : (b : Bool) (n x : ℕ) (xs : List ℕ) (k : ℕ) → nat_lt x n ≡ b → cond b 1 0 + below n xs ≡ suc (length xs)
    → (below n xs ≡ length xs → (j : ℕ) → j < length xs → get_or xs j 0 < n)
    → k < length (x ∷ xs) → get_or (x ∷ xs) k 0 < n
full-at true n x xs zero e h rest g = ltb-true x n e
full-at true n x xs (suc k) e h rest g = rest (omega arith) k (omega arith)
full-at false n x xs k e h rest g = absurd (omega (arith, count_by-le-length (λ j. nat_lt j n) xs))

full : (n : ℕ) (ps : List ℕ) → below n ps ≡ length ps → (k : ℕ) → k < length ps → get_or ps k 0 < n
full n [] e k h = absurd (omega arith)
full n (x ∷ xs) e k h = full-at (nat_lt x n) n x xs k refl (rw below-cons at e) (λ g. full n xs g) h

pub order_within : (n : ℕ) (ps : List ℕ) → IsOrder n ps → (k : ℕ) → k < length ps → get_or ps k 0 < n
order_within n ps o = full n ps (all_below n n ps o.once (omega arith) ∙ sym o.as_many)

-- ---- none twice
occurs_once : (ps : List ℕ) (k v : ℕ) → k < length ps → get_or ps k 0 ≡ v → 1 ≤ times v ps
occurs_once [] k v h e = absurd (omega arith)
occurs_once (x ∷ xs) zero v h e = let t : cond (x == v) 1 0 ≡ 1 = ap {B = ℕ} (λ b. cond b 1 0) (eq-eqb x v e) in omega
    (arith, times-cons v x xs, t)
occurs_once (x ∷ xs) (suc k) v h e = omega (arith, times-cons v x xs, occurs_once xs k v (omega arith) e)

occurs_twice : (ps : List ℕ) (i j v : ℕ) → i < j → j < length ps → get_or ps i 0 ≡ v → get_or ps j 0 ≡ v
    → 2 ≤ times v ps
occurs_twice [] i j v h g e f = absurd (omega arith)
occurs_twice (x ∷ xs) i zero v h g e f = absurd (omega arith)
occurs_twice (x ∷ xs) zero (suc j) v h g e f = let t : cond (x == v) 1 0
    ≡ 1 = ap {B = ℕ} (λ b. cond b 1 0) (eq-eqb x v e) in omega
    (arith, times-cons v x xs, t, occurs_once xs j v (omega arith) f)
occurs_twice (x ∷ xs) (suc i) (suc j) v h g e f =
    omega (arith, times-cons v x xs, occurs_twice xs i j v (omega arith) (omega arith) e f)

pub order_differs : (n : ℕ) (ps : List ℕ) → IsOrder n ps → (i j : ℕ) → i < j → j < length ps
    → get_or ps i 0 ≢ get_or ps j 0
order_differs n ps o i j h g e =
    omega (arith, occurs_twice ps i j (get_or ps j 0) h g e refl, o.once (get_or ps j 0) (order_within n ps o j g))
