-- Runs of plain bytes in a string.
use Rattle.jzon_base.proofs.Common.{◌≡◌, ℕ, zero, suc, ◌+◌, ◌≤◌, ◌<◌, Bool, true, false, cond, List, [], ◌∷◌, ◌++◌}
use Rattle.jzon_base.proofs.Common.{length, get_or, take, drop, refl, ap, ◌∙◌, append-nil, arith, nat_lt}
use Rattle.jzon_base.proofs.Common.{take_all, drop_all, prefix_len, nat_tests, prefix_len_stops}
use Rattle.jzon_base.specs.Escapes.{letter_of}
use Rattle.jzon_base.specs.Private.PlainBytes.{is_plain}
use Rattle.jzon_tree.specs.Text.{escaped, escaped_byte}

-- a byte without an escape, whatever its escapes would be
pub unescaped_byte : (l c : ℕ) (simple other : List ℕ) → l ≡ 0 → 32 ≤ c
    → cond (nat_lt 0 l) simple (cond (nat_lt c 32) other (c ∷ [])) ≡ c ∷ []
unescaped_byte l c simple other none large = grind (arith, nat_tests)

pub escaped_byte-plain : (c : ℕ) → is_plain c ≡ true → escaped_byte c ≡ c ∷ []
escaped_byte-plain c h =
    let none : letter_of c ≡ 0 = grind (arith, nat_tests) in
    let large : 32 ≤ c = grind (arith, nat_tests) in
    unescaped_byte (letter_of c) c _ _ none large

-- a run of plain bytes is written as it is
escaped-run-at : (b : Bool) (c : ℕ) (cs : List ℕ) (n : ℕ) → is_plain c ≡ b
    → suc n ≤ cond b (1 + prefix_len is_plain cs) 0
    → (n ≤ prefix_len is_plain cs → escaped cs ≡ take n cs ++ escaped (drop n cs))
    → escaped (c ∷ cs) ≡ c ∷ (take n cs ++ escaped (drop n cs))
escaped-run-at true c cs n e h rest = ap (λ (x : List ℕ). x ++ escaped cs) (escaped_byte-plain c e)
    ∙ ap (λ (x : List ℕ). c ∷ x) (rest (omega arith))
escaped-run-at false c cs n e h rest = absurd (omega arith)

pub escaped-run : (bs : List ℕ) (n : ℕ) → n ≤ prefix_len is_plain bs → escaped bs ≡ take n bs ++ escaped (drop n bs)
escaped-run bs zero h = refl
escaped-run [] (suc n) h = absurd (omega arith)
escaped-run (c ∷ cs) (suc n) h = escaped-run-at (is_plain c) c cs n refl h (λ g. escaped-run cs n g)

-- a string of plain bytes is written as it is
pub escaped-plain : (bs : List ℕ) → length bs ≤ prefix_len is_plain bs → escaped bs ≡ bs
escaped-plain bs h = escaped-run bs (length bs) h
    ∙ ap (λ (xs : List ℕ). xs ++ escaped (drop (length bs) bs)) (take_all (length bs) bs (omega arith))
    ∙ ap (λ (xs : List ℕ). bs ++ escaped xs) (drop_all (length bs) bs (omega arith)) ∙ append-nil bs

-- the byte after a run needs an escape
pub escape_stands : (bs : List ℕ) (n : ℕ) → n ≡ prefix_len is_plain bs → n < length bs
    → is_plain (get_or bs n 0) ≡ false
escape_stands bs n e h = rw (← e) at (prefix_len_stops is_plain bs 0 (omega arith))
