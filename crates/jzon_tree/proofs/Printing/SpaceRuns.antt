-- Spaces that are sent run by run.
use Rattle.jzon_base.proofs.Common.{◌≡◌, ℕ, suc, ◌+◌, ◌-◌, ◌≤◌, List, ◌∷◌, ◌++◌, length, take, replicate, Option, refl}
use Rattle.jzon_base.proofs.Common.{ap, ◌∙◌, arith, Result, take-replicate, take-append-add}
use Rattle.std.proofs.lemmas.List.{replicate-append-replicate}
use Rattle.jzon_tree.specs.Generator.{Adds, Begins, Just, Sends}
use Rattle.jzon_tree.proofs.Printing.Appends.{adds_then, adds_weaker, Begins-after, Begins-early, Sends-after}

-- a newline and n spaces
abbrev pub line : ℕ → List ℕ
line n = 10 ∷ replicate n 32

pub take-line : (n k : ℕ) → k ≤ n → take (k + 1) (line n) ≡ line k
take-line n k h =
    let e : k + 1 ≡ suc k = omega arith in rw e (ap (λ (w : List ℕ). 10 ∷ w) (take-replicate {X = ℕ} k n 32 h))

add_spaces : (j k n : ℕ) → j + k ≡ n → replicate {A = ℕ} j 32 ++ replicate k 32 ≡ replicate n 32
add_spaces j k n e = replicate-append-replicate j k 32 ∙ ap (λ (m : ℕ). replicate m 32) e

-- k of n spaces are sent with their newline
module _ (n k : ℕ) (run : List ℕ) (p : run ≡ line k) (hk : k ≤ n) (a b : Option (List ℕ)) where
  closes_line : (x y : List ℕ) → Just run x → Just (replicate (n - k) 32) y → Just (line n) (x ++ y)
  closes_line x y e f = rw (e, p, f) (ap (λ (w : List ℕ). 10 ∷ w) (add_spaces k (n - k) n (omega arith)))

  pub line_stopped : Adds (Begins (Just run)) a b → Adds (Begins (Just (line n))) a b
  line_stopped = Begins-early (Just run) (Just (line n)) a b (replicate (n - k) 32)
      (λ x e. closes_line x (replicate (n - k) 32) e refl)

  pub line_continued : {E : Type 0} (c : Option (List ℕ)) (r : Result (Unit {0}) E) → Adds (Just run) a b
      → Sends (Just (replicate (n - k) 32)) b c r → Sends (Just (line n)) a c r
  line_continued c r h j =
      Sends-after (Just run) (Just (replicate (n - k) 32)) (Just (line n)) a b c closes_line h r j

  pub line_whole : n ≤ k → Adds (Just run) a b → Adds (Just (line n)) a b
  line_whole h = adds_weaker (Just run) (Just (line n)) a b
      (λ x e. let all : k ≡ n = omega arith in e ∙ p ∙ ap line all)

-- the spaces left are sent run by run
module _ (n left k : ℕ) (run : List ℕ) (p : run ≡ replicate k 32) (hk : k ≤ left) (hl : left ≤ n)
    (a b c : Option (List ℕ)) (h : Adds (Just (replicate (n - left) 32)) a b) where
  joins : (x y : List ℕ) → Just (replicate (n - left) 32) x → Just run y
      → Just (replicate (n - (left - k)) 32) (x ++ y)
  joins x y e f = rw (e, f, p) (add_spaces (n - left) k (n - (left - k)) (omega arith))

  pub spaces_sent : Adds (Just run) b c → Adds (Just (replicate (n - (left - k)) 32)) a c
  spaces_sent j = adds_then (Just (replicate (n - left) 32)) (Just run) (Just (replicate (n - (left - k)) 32)) a b c
      joins h j

  closes : (x : List ℕ) → Just (replicate (n - (left - k)) 32) x
      → Just (replicate n 32) (x ++ replicate (left - k) 32)
  closes x e = rw e (add_spaces (n - (left - k)) (left - k) n (omega arith))

  pub spaces_stopped : Adds (Begins (Just run)) b c → Adds (Begins (Just (replicate n 32))) a c
  spaces_stopped j = Begins-early (Just (replicate (n - (left - k)) 32)) (Just (replicate n 32)) a c
      (replicate (left - k) 32) closes
      (Begins-after (Just (replicate (n - left) 32)) (Just run) (Just (replicate (n - (left - k)) 32)) a b c joins h j)

-- the start of a long line is added, and cut to k spaces
pub line_cut : (old : List ℕ) (s n k : ℕ) → s ≡ length old → k ≤ n → take (s + (k + 1)) (old ++ line n) ≡ old ++ line k
line_cut old s n k at few =
    ap (λ (j : ℕ). take (j + (k + 1)) (old ++ line n)) at ∙ take-append-add old (line n) (k + 1)
    ∙ ap (λ (l : List ℕ). old ++ l) (take-line n k few)
