-- Escapes of a string, by the bytes of a text: a simple one, one of four digits, and the second one after a surrogate.
use Rattle.jzon_base.proofs.Common.{◌≡◌, ℕ, ◌+◌, ◌<◌, true, false, List, ◌++◌, length, drop, get_or, refl}
use Rattle.jzon_base.proofs.Common.{ap, subst, ◌∙◌, arith, None, chars, IsUtf8, encode_utf8, ◌==◌, IsCharBoundary}
use Rattle.jzon_base.proofs.Common.{false_from_ne_true, nat_tests, IsCharBoundary-after_ascii}
use Rattle.jzon.specs.Reading.{Reading}
use Rattle.jzon.specs.Grammar.{is_simple}
use Rattle.jzon.specs.Meaning.{unescaped}
use Rattle.jzon.specs.Private.Machine.{Role, string, between, after_backslash, code, second, second_backslash, second_code, go}
use Rattle.jzon.specs.Private.Machine.{bad, move_after_backslash, outcome_on, from, fault_here}
use Rattle.jzon.proofs.Strings.StringSteps.{Expects, byte_moves, byte_stops, expected_byte, unexpected_byte}

-- ---- after a backslash

pub simple_is_ascii : (c : ℕ) → is_simple c ≡ true → (c < 128) × ((c == 117) ≡ false)
simple_is_ascii c h = (grind (arith, nat_tests), grind (arith, nat_tests))

simple_move : (role : Role) (xs : List ℕ) (c : ℕ) → is_simple c ≡ true
    → move_after_backslash role xs c ≡ go None (string role (xs ++ encode_utf8 (unescaped c)) between)
simple_move role xs c h = rw ((simple_is_ascii c h).1, h) refl

-- a letter adds the character that it means
pub simple_read : (r : Reading) (role : Role) (xs bs : List ℕ) (i : ℕ) → IsUtf8 bs → IsCharBoundary bs i → i < length bs
    → is_simple (get_or bs i 0) ≡ true
    → from r bs (string role xs after_backslash) i ≡ from r bs (string role (xs ++ encode_utf8 (unescaped (get_or bs i 0)))
    between) (i + 1)
simple_read r role xs bs i u at lt e =
    byte_moves r (string role xs after_backslash) bs i (get_or bs i 0) u at lt refl (simple_is_ascii _ e).0
    ∙ ap (λ m. outcome_on m (λ p. from r bs p (i + 1)) (chars (drop i bs))) (simple_move role xs (get_or bs i 0) e)

-- a `u` begins four digits
pub digits_begin : (r : Reading) (role : Role) (xs bs : List ℕ) (i : ℕ) → IsUtf8 bs → IsCharBoundary bs i
    → i < length bs → get_or bs i 0 ≡ 117
    → from r bs (string role xs after_backslash) i ≡ from r bs (string role xs (code 3 0)) (i + 1)
digits_begin r role xs bs i u at lt e = byte_moves r (string role xs after_backslash) bs i 117 u at lt e (omega arith)

-- with another character, or none, no text goes on
no_letter : (role : Role) (xs : List ℕ) (c : ℕ) → (c ≡ 117 → ⊥) → (is_simple c ≡ true → ⊥) → move_after_backslash role xs c ≡ bad
no_letter role xs c no_u no_simple =
    let other : (c == 117) ≡ false = grind (arith, nat_tests) in
    rw (other, false_from_ne_true (is_simple c) no_simple) refl

pub escape_stops : (r : Reading) (role : Role) (xs bs : List ℕ) (i : ℕ) → IsUtf8 bs → IsCharBoundary bs i
    → ((i < length bs) × (get_or bs i 0 ≡ 117) → ⊥) → ((i < length bs) × (is_simple (get_or bs i 0) ≡ true) → ⊥)
    → from r bs (string role xs after_backslash) i ≡ fault_here (chars (drop i bs))
escape_stops r role xs bs i u at no_u no_simple =
    byte_stops r (string role xs after_backslash) bs i u at refl (λ c b.
    no_letter role xs c (λ e. no_u (b.within, b.byte (omega (arith, e)) ∙ e))
    (λ e. no_simple (b.within, ap is_simple (b.byte (simple_is_ascii c e).0) ∙ e)))

-- ---- the second escape after a surrogate

pub expects_backslash : (r : Reading) (role : Role) (xs : List ℕ) (u : ℕ)
    → Expects r (string role xs (second u)) 92 (string role xs (second_backslash u))
expects_backslash r role xs u = record { ascii = omega arith; moves = λ c n. refl; unfinished = refl }

pub expects_u : (r : Reading) (role : Role) (xs : List ℕ) (u : ℕ)
    → Expects r (string role xs (second_backslash u)) 117 (string role xs (second_code u 3 0))
expects_u r role xs u = record { ascii = omega arith; moves = λ c n. refl; unfinished = refl }

-- a backslash and a `u` begin it
pub second_begins : (r : Reading) (role : Role) (xs bs : List ℕ) (u i : ℕ) → IsUtf8 bs → IsCharBoundary bs i
    → (i < length bs) × (get_or bs i 0 ≡ 92) → (i + 1 < length bs) × (get_or bs (i + 1) 0 ≡ 117)
    → from r bs (string role xs (second u)) i ≡ from r bs (string role xs (second_code u 3 0)) (i + 2)
second_begins r role xs bs u i text at one two =
    expected_byte r (string role xs (second u)) (string role xs (second_backslash u)) bs i 92
    (expects_backslash r role xs u) text at one.0 one.1
    ∙ expected_byte r (string role xs (second_backslash u)) (string role xs (second_code u 3 0)) bs (i + 1) 117
    (expects_u r role xs u) text
    (IsCharBoundary-after_ascii bs i text one.0 (omega (arith, one.1))) two.0 two.1
    ∙ ap (λ n. from r bs (string role xs (second_code u 3 0)) n) (let e : i + 1 + 1 ≡ i + 2 = omega arith in e)

pub second_digits_boundary : (bs : List ℕ) (i : ℕ) → IsUtf8 bs → (i + 1 < length bs) × (get_or bs (i + 1) 0 ≡ 117)
    → IsCharBoundary bs (i + 2)
second_digits_boundary bs i text two =
    subst (IsCharBoundary bs) (let e : i + 1 + 1 ≡ i + 2 = omega arith in e)
    (IsCharBoundary-after_ascii bs (i + 1) text two.0 (omega (arith, two.1)))

-- no backslash follows a surrogate, or no `u` follows the backslash
pub second_stops : (r : Reading) (role : Role) (xs bs : List ℕ) (u i : ℕ) → IsUtf8 bs → IsCharBoundary bs i
    → ((i < length bs) × (get_or bs i 0 ≡ 92) → ⊥)
    → from r bs (string role xs (second u)) i ≡ fault_here (chars (drop i bs))
second_stops r role xs bs u i text at none =
    unexpected_byte r (string role xs (second u)) (string role xs (second_backslash u)) bs i 92
    (expects_backslash r role xs u) text at none

pub second_u_stops : (r : Reading) (role : Role) (xs bs : List ℕ) (u i : ℕ) → IsUtf8 bs → IsCharBoundary bs i
    → (i < length bs) × (get_or bs i 0 ≡ 92) → ((i + 1 < length bs) × (get_or bs (i + 1) 0 ≡ 117) → ⊥)
    → from r bs (string role xs (second u)) i ≡ fault_here (chars (drop (i + 1) bs))
second_u_stops r role xs bs u i text at one none =
    expected_byte r (string role xs (second u)) (string role xs (second_backslash u)) bs i 92
    (expects_backslash r role xs u) text at one.0 one.1
    ∙ unexpected_byte r (string role xs (second_backslash u)) (string role xs (second_code u 3 0)) bs (i + 1) 117
    (expects_u r role xs u) text
    (IsCharBoundary-after_ascii bs i text one.0 (omega (arith, one.1))) none
