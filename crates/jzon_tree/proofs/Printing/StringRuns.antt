-- A string that is sent run by run.
use Rattle.jzon_base.proofs.Common.{◌≡◌, ℕ, ◌<◌, false, List, [], ◌∷◌, ◌++◌, length, get_or, take, drop, Option, refl}
use Rattle.jzon_base.proofs.Common.{sym, ap, ◌∙◌, append_assoc, append-nil, arith, prefix_len, length-drop}
use Rattle.jzon_base.proofs.Common.{get_or-drop}
use Rattle.jzon_base.specs.Private.PlainBytes.{is_plain}
use Rattle.jzon_tree.specs.Text.{escaped, escaped_byte}
use Rattle.jzon_tree.specs.Generator.{Adds, Begins, Just}
use Rattle.jzon_tree.proofs.Printing.PlainRuns.{escaped-run, escape_stands}
use Rattle.jzon_tree.proofs.Printing.Appends.{adds_then, Begins-after, Begins-early}

-- x of a prefix and a string has been sent, and `rest` of the string is left
abbrev pub Left : List ℕ → List ℕ → List ℕ → List ℕ → Type 0
Left prefix text rest x = x ++ escaped rest ≡ prefix ++ escaped text

abbrev pub whole : List ℕ → List ℕ → List ℕ
whole prefix text = prefix ++ (escaped text ++ 34 ∷ [])

left_closed : (prefix text rest x : List ℕ) → Left prefix text rest x
    → x ++ (escaped rest ++ 34 ∷ []) ≡ whole prefix text
left_closed prefix text rest x h = sym (append_assoc x (escaped rest) (34 ∷ [])) ∙ ap (λ (w : List ℕ). w ++ 34 ∷ []) h
    ∙ append_assoc prefix (escaped text) (34 ∷ [])

drop-head : (bs : List ℕ) (n c : ℕ) (rest : List ℕ) → drop n bs ≡ c ∷ rest → get_or bs n 0 ≡ c
drop-head bs n c rest q =
    ap (λ m. get_or bs m 0) (omega arith) ∙ sym (get_or-drop n bs 0 0) ∙ ap (λ (xs : List ℕ). get_or xs 0 0) q

-- ---- a run of plain bytes, and the byte after it, which needs an escape
module _ (prefix text bs run rest : List ℕ) (n c : ℕ) (p : run ≡ take n bs) (e : n ≡ prefix_len is_plain bs)
    (q : drop n bs ≡ c ∷ rest) (a b : Option (List ℕ)) (h : Adds (Left prefix text bs) a b) where
  after_run : List ℕ → Type 0
  after_run x = x ++ (escaped_byte c ++ escaped rest) ≡ prefix ++ escaped text

  run_joins : (x y : List ℕ) → Left prefix text bs x → Just run y → after_run (x ++ y)
  unfolding after_run
  run_joins x y k j =
      let all : escaped bs ≡ run ++ (escaped_byte c ++ escaped rest) = escaped-run bs n (omega (arith, e))
      ∙ rw (sym p, q) refl in
      rw (j, append_assoc x run (escaped_byte c ++ escaped rest), sym all) k

  escape_joins : (x y : List ℕ) → after_run x → Just (escaped_byte c) y → Left prefix text rest (x ++ y)
  unfolding after_run
  escape_joins x y k j = rw (j, append_assoc x (escaped_byte c) (escaped rest)) k

  module _ (d : Option (List ℕ)) (k : Adds (Just run) b d) where
    ran : Adds after_run a d
    ran = adds_then (Left prefix text bs) (Just run) after_run a b d run_joins h k

    pub escape_stopped : (f : Option (List ℕ)) → Adds (Begins (Just (escaped_byte c))) d f
        → Adds (Begins (Just (whole prefix text))) a f
    escape_stopped f j = Begins-early (Left prefix text rest) (Just (whole prefix text)) a f _
        (left_closed prefix text rest) (Begins-after after_run (Just (escaped_byte c)) (Left prefix text rest) a d f
        escape_joins ran j)

    pub escape_sent : (f : Option (List ℕ)) → Adds (Just (escaped_byte c)) d f → Adds (Left prefix text rest) a f
    escape_sent f j = adds_then after_run (Just (escaped_byte c)) (Left prefix text rest) a d f escape_joins ran j

-- ---- the last run, and the quote
module _ (prefix text bs run : List ℕ) (n : ℕ) (p : run ≡ take n bs) (e : n ≡ prefix_len is_plain bs)
    (a b : Option (List ℕ)) (h : Adds (Left prefix text bs) a b) where
  split : escaped bs ≡ run ++ escaped (drop n bs)
  split = escaped-run bs n (omega (arith, e)) ∙ rw (sym p) refl

  last_joins : (x y : List ℕ) → Left prefix text bs x → Just run y
      → (x ++ y) ++ escaped (drop n bs) ≡ prefix ++ escaped text
  last_joins x y k j = rw (j, append_assoc x run (escaped (drop n bs)), sym split) k

  -- a run that stopped early, whatever follows it
  pub any_run_stopped : (d : Option (List ℕ)) → Adds (Begins (Just run)) b d
      → Adds (Begins (Just (whole prefix text))) a d
  any_run_stopped d k =
      Begins-early (λ x. x ++ escaped (drop n bs) ≡ prefix ++ escaped text) (Just (whole prefix text)) a d
      (escaped (drop n bs) ++ 34 ∷ []) (λ x. left_closed prefix text (drop n bs) x)
      (Begins-after (Left prefix text bs) (Just run) (λ x. x ++ escaped (drop n bs) ≡ prefix ++ escaped text) a b d
      last_joins h k)

  pub last_sent : drop n bs ≡ [] → (d : Option (List ℕ)) → Adds (Just run) b d
      → Adds (Just (prefix ++ escaped text)) a d
  last_sent q d k = adds_then (Left prefix text bs) (Just run) (Just (prefix ++ escaped text)) a b d
      (λ x y l j. sym (append-nil (x ++ y)) ∙ (rw q at (last_joins x y l j))) h k

pub needs_escape : (bs rest : List ℕ) (n c : ℕ) → n ≡ prefix_len is_plain bs → drop n bs ≡ c ∷ rest → is_plain c ≡ false
needs_escape bs rest n c e q =
    let l : n < length bs = omega (arith, ap (λ (xs : List ℕ). length xs) q, length-drop n bs) in
    rw (sym (drop-head bs n c rest q)) (escape_stands bs n e l)
