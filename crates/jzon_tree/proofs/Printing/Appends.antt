-- What several calls add to known bytes, one after the other.
use Rattle.jzon_base.proofs.Common.{ℕ, List, [], ◌++◌, take, drop, Option, None, Some, refl, sym, ap, ◌∙◌, append_assoc}
use Rattle.jzon_base.proofs.Common.{append-nil, take-append-drop, Result, Ok, Err, IsErr, ◌≡◌, OnOk, OnErr, MatchResult}
use Rattle.jzon_base.proofs.Common.{Appends}
use Rattle.jzon_base.specs.PartialWrites.{AppendsBeginning}
use Rattle.jzon_tree.specs.Generator.{Adds, Begins, Just, Sends}

pub adds_same : (P : List ℕ → Type 0) (o : Option (List ℕ)) → P [] → Adds P o o
adds_same P None h = tt
adds_same P (Some xs) h = ([], sym (append-nil xs), h)

pub adds_then : (P Q R : List ℕ → Type 0) (a b c : Option (List ℕ)) → ((x y : List ℕ) → P x → Q y → R (x ++ y))
    → Adds P a b → Adds Q b c → Adds R a c
adds_then P Q R None b c join h k = tt
adds_then P Q R (Some xs) None c join h k = absurd h
adds_then P Q R (Some xs) (Some ys) None join h k = absurd k
adds_then P Q R (Some xs) (Some ys) (Some zs) join (x, ex, px) (y, ey, qy) =
    (x ++ y, ey ∙ ap (λ w. w ++ y) ex ∙ append_assoc xs x y, join x y px qy)

pub adds_weaker : (P Q : List ℕ → Type 0) (a b : Option (List ℕ)) → ((x : List ℕ) → P x → Q x) → Adds P a b → Adds Q a b
adds_weaker P Q None b f h = tt
adds_weaker P Q (Some xs) None f h = absurd h
adds_weaker P Q (Some xs) (Some ys) f (x, e, p) = (x, e, f x p)

adds-appends : (a b : Option (List ℕ)) (bs : List ℕ) → Appends a b bs → Adds (Just bs) a b
adds-appends None b bs h = tt
adds-appends (Some xs) None bs h = absurd h
adds-appends (Some xs) (Some ys) bs h = (bs, h, refl)

adds-begins : (a b : Option (List ℕ)) (bs : List ℕ) → AppendsBeginning a b bs → Adds (Begins (Just bs)) a b
adds-begins a b bs (n, h, k) = adds_weaker (Just (take n bs)) (Begins (Just bs)) a b
    (λ x e. (drop n bs, ap (λ w. w ++ drop n bs) e ∙ take-append-drop n bs)) (adds-appends a b (take n bs) k)

-- what was appended is what was sent
pub Sends-appended : {E : Type 0} (a b : Option (List ℕ)) (bs : List ℕ) (r : Result (Unit {0}) E)
    → OnOk r (Appends a b bs) → OnErr r (AppendsBeginning a b bs) → Sends (Just bs) a b r
Sends-appended a b bs (Ok u) h k = adds-appends a b bs h
Sends-appended a b bs (Err e) h k = adds-begins a b bs k

pub Sends-at_err : {E : Type 0} (P : List ℕ → Type 0) (a b : Option (List ℕ)) (r : Result (Unit {0}) E) → IsErr r
    → Adds (Begins P) a b → Sends P a b r
Sends-at_err P a b (Ok u) h k = absurd (cc h)
Sends-at_err P a b (Err e) h k = k

-- the same for a result whose error was stored in the error slot
pub Sends-laid : {E F : Type 0} (P : List ℕ → Type 0) (a b : Option (List ℕ)) (r : Result (Unit {0}) E)
    (s : Result (Unit {0}) F) → MatchResult r (λ u. s ≡ Ok u) (λ e. IsErr s) → Sends P a b r → Sends P a b s
Sends-laid P a b (Ok u) s k h = rw k h
Sends-laid P a b (Err e) (Ok u) k h = absurd (cc k)
Sends-laid P a b (Err e) (Err f) k h = h

-- ---- two calls in sequence
module _ (P Q R : List ℕ → Type 0) (a b c : Option (List ℕ)) (join : (x y : List ℕ) → P x → Q y → R (x ++ y))
    (h : Adds P a b) where
  pub Begins-after : Adds (Begins Q) b c → Adds (Begins R) a c
  Begins-after = adds_then P (Begins Q) (Begins R) a b c (λ x y p (z, q). (z, rw append_assoc (join x (y ++ z) p q))) h

  pub Sends-after : {E : Type 0} (r : Result (Unit {0}) E) → Sends Q b c r → Sends R a c r
  Sends-after (Ok u) k = adds_then P Q R a b c join h k
  Sends-after (Err e) k = Begins-after k

-- a call that stopped early, where z would have followed
pub Begins-early : (P R : List ℕ → Type 0) (a b : Option (List ℕ)) (z : List ℕ) → ((x : List ℕ) → P x → R (x ++ z))
    → Adds (Begins P) a b → Adds (Begins R) a b
Begins-early P R a b z more = adds_weaker (Begins P) (Begins R) a b
    (λ x (y, p). (y ++ z, rw (sym (append_assoc x y z)) (more (x ++ y) p)))

pub ruleset sent = (Sends-appended)
