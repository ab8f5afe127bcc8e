-- The letters of `null`, `true` and `false`, one by one, by the bytes of a text.
use Rattle.jzon_base.proofs.Common.{◌≡◌, ℕ, ◌+◌, ◌<◌, ◌≤◌, List, [], ◌∷◌, length, drop, get_or, refl, ap, subst, ◌∙◌}
use Rattle.jzon_base.proofs.Common.{arith, chars, IsUtf8, IsCharBoundary, IsCharBoundary-after_ascii}
use Rattle.jzon_tree.specs.Value.{Value}
use Rattle.jzon.specs.Reading.{Reading}
use Rattle.jzon.specs.Private.Machine.{Frames, past_letter, after_value, from, fault_here}
use Rattle.jzon.proofs.Strings.StringSteps.{Expects, expected_byte, unexpected_byte}

-- before a letter only that letter lets the text go on
letter_expected : (r : Reading) (l : ℕ) (ls : List ℕ) (fs : Frames) (v : Value) → l < 128
    → Expects r (past_letter fs v (l ∷ ls)) l (past_letter fs v ls)
letter_expected r l ls fs v ascii = record { ascii = ascii; moves = λ c n. refl; unfinished = refl }

-- the next letter is there
pub letter_read : (r : Reading) (bs : List ℕ) (i l : ℕ) (ls : List ℕ) (fs : Frames) (v : Value) → IsUtf8 bs
    → IsCharBoundary bs i → i < length bs
    → get_or bs i 0 ≡ l → l < 128 → from r bs (past_letter fs v (l ∷ ls)) i ≡ from r bs (past_letter fs v ls) (i + 1)
letter_read r bs i l ls fs v u at lt e ascii =
    expected_byte r _ _ bs i l (letter_expected r l ls fs v ascii) u at lt e

-- another byte is there, or none
pub letter_missing : (r : Reading) (bs : List ℕ) (i l : ℕ) (ls : List ℕ) (fs : Frames) (v : Value) → IsUtf8 bs
    → IsCharBoundary bs i → l < 128 → ((i < length bs) × (get_or bs i 0 ≡ l) → ⊥)
    → from r bs (past_letter fs v (l ∷ ls)) i ≡ fault_here (chars (drop i bs))
letter_missing r bs i l ls fs v u at ascii none =
    unexpected_byte r _ _ bs i l (letter_expected r l ls fs v ascii) u at none

-- the last three letters of a literal are there
pub three_read : (r : Reading) (bs : List ℕ) (i a b c : ℕ) (fs : Frames) (v : Value) → IsUtf8 bs → IsCharBoundary bs i
    → i + 3 ≤ length bs → get_or bs i 0 ≡ a → get_or bs (i + 1) 0 ≡ b → get_or bs (i + 2) 0 ≡ c → a < 128 → b < 128
    → c < 128 → from r bs (past_letter fs v (a ∷ b ∷ c ∷ [])) i ≡ from r bs (after_value fs v) (i + 3)
three_read r bs i a b c fs v u at le ea eb ec la lb lc =
    let next = IsCharBoundary-after_ascii bs i u (omega arith) (omega (arith, ea, la)) in
    let last : IsCharBoundary bs (i + 2) = subst (IsCharBoundary bs) (omega arith)
    (IsCharBoundary-after_ascii bs (i + 1) u (omega arith) (omega (arith, eb, lb))) in
    letter_read r bs i a (b ∷ c ∷ []) fs v u at (omega arith) ea la
    ∙ letter_read r bs (i + 1) b (c ∷ []) fs v u next (omega arith) eb lb
    ∙ ap (λ n. from r bs (past_letter fs v (c ∷ [])) n) (omega arith)
    ∙ letter_read r bs (i + 2) c [] fs v u last (omega arith) ec lc
    ∙ ap (λ n. from r bs (after_value fs v) n) (omega arith)

-- and the last four
pub four_read : (r : Reading) (bs : List ℕ) (i a b c d : ℕ) (fs : Frames) (v : Value) → IsUtf8 bs
    → IsCharBoundary bs i → i + 4 ≤ length bs → get_or bs i 0 ≡ a → get_or bs (i + 1) 0 ≡ b → get_or bs (i + 2) 0 ≡ c
    → get_or bs (i + 3) 0 ≡ d → a < 128 → b < 128 → c < 128 → d < 128
    → from r bs (past_letter fs v (a ∷ b ∷ c ∷ d ∷ [])) i ≡ from r bs (after_value fs v) (i + 4)
four_read r bs i a b c d fs v u at le ea eb ec ed la lb lc ld =
    letter_read r bs i a (b ∷ c ∷ d ∷ []) fs v u at (omega arith) ea la
    ∙ three_read r bs (i + 1) b c d fs v u (IsCharBoundary-after_ascii bs i u (omega arith) (omega (arith, ea, la)))
    (omega arith) eb (ap (λ n. get_or bs n 0) (omega arith) ∙ ec) (ap (λ n. get_or bs n 0) (omega arith) ∙ ed) lb lc ld
    ∙ ap (λ n. from r bs (after_value fs v) n) (omega arith)
