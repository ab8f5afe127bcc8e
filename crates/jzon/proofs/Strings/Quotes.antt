-- Where a run of plain characters of a string ends: a quote, a backslash, or a fault.
use Rattle.jzon_base.proofs.Common.{◌≡◌, ℕ, ◌+◌, ◌-◌, ◌<◌, false, ◌&&◌, List, length, drop, get_or}
use Rattle.jzon_base.proofs.Common.{refl, ap, sym, subst, ◌∙◌, arith, chars, IsUtf8, ◌==◌, is_some, IsCharBoundary}
use Rattle.jzon_base.proofs.Common.{nat_tests, IsCharBoundary-after_ascii, Bool}
use Rattle.jzon_base.specs.Private.PlainBytes.{is_plain}
use Rattle.jzon_base.specs.PairList.{find}
use Rattle.jzon.specs.Reading.{Reading}
use Rattle.jzon.specs.Grammar.{is_unescaped}
use Rattle.jzon.specs.Spelling.{duplicate, breach_if}
use Rattle.jzon.specs.Private.Quote.{EndsAtQuote}
use Rattle.jzon.specs.Private.Machine.{EntriesSoFar, Frames, Role, as_key, after_key, go, string, between}
use Rattle.jzon.specs.Private.Machine.{after_backslash, closed_string, bad, move_between, outcome_on, from, from_closed, left_at}
use Rattle.jzon.specs.Private.Machine.{fault_here}
use Rattle.jzon.proofs.Strings.StringSteps.{byte_moves, byte_stops}

-- a quote closes the string
pub quote_closes : (r : Reading) (role : Role) (xs bs : List ℕ) (i : ℕ) → IsUtf8 bs → IsCharBoundary bs i
    → i < length bs → get_or bs i 0 ≡ 34 → from r bs (string role xs between) i ≡ from_closed r bs role xs (i + 1)
quote_closes r role xs bs i u at lt e =
    byte_moves r (string role xs between) bs i 34 u at lt e (omega arith)
    ∙ ap (λ k. outcome_on (closed_string r role xs (left_at bs k)) (λ p. from r bs p (i + 1)) (chars (drop k bs)))
    (let back : i ≡ i + 1 - 1 = omega arith in back)

-- a character boundary is after it
pub quote_ends : (bs : List ℕ) (i : ℕ) → IsUtf8 bs → IsCharBoundary bs i → (i < length bs) × (get_or bs i 0 ≡ 34)
    → EndsAtQuote bs i (i + 1)
quote_ends bs i u at here =
    let back : i ≡ i + 1 - 1 = omega arith in (
      omega arith,
      subst (IsCharBoundary bs) back at,
      IsCharBoundary-after_ascii bs i u here.0 (omega (arith, here.1)),
      ap (λ n. get_or bs n 0) (sym back) ∙ here.1,
    )

-- a backslash begins an escape
pub backslash_begins : (r : Reading) (role : Role) (xs bs : List ℕ) (i : ℕ) → IsUtf8 bs → IsCharBoundary bs i
    → i < length bs → get_or bs i 0 ≡ 92
    → from r bs (string role xs between) i ≡ from r bs (string role xs after_backslash) (i + 1)
backslash_begins r role xs bs i u at lt e = byte_moves r (string role xs between) bs i 92 u at lt e (omega arith)

-- with another byte that isn't plain, or none, no text goes on
no_quote : (r : Reading) (role : Role) (xs : List ℕ) (c left : ℕ) → is_plain c ≡ false → (c ≡ 34 → ⊥)
    → (c ≡ 92 → ⊥) → move_between r role xs c left ≡ bad
no_quote r role xs c left h no34 no92 =
    let quote : (c == 34) ≡ false = grind (arith, nat_tests) in
    let after_backslash : (c == 92) ≡ false = grind (arith, nat_tests) in
    let other : is_unescaped c ≡ false = grind (arith, nat_tests) in rw (other, quote, after_backslash) refl

pub string_stops : (r : Reading) (role : Role) (xs bs : List ℕ) (i : ℕ) → IsUtf8 bs → IsCharBoundary bs i
    → (i < length bs → is_plain (get_or bs i 0) ≡ false) → (i < length bs → get_or bs i 0 ≡ 92 → ⊥)
    → ((i < length bs) × (get_or bs i 0 ≡ 34) → ⊥)
    → from r bs (string role xs between) i ≡ fault_here (chars (drop i bs))
string_stops r role xs bs i u at no_plain no_escape no_end =
    byte_stops r (string role xs between) bs i u at refl (λ c b.
    let plain : is_plain (get_or bs i 0) ≡ false = no_plain b.within in
    let same : c ≡ get_or bs i 0 = b.char (grind (arith, nat_tests)) in
    no_quote r role xs c (left_at bs i) (ap is_plain same ∙ plain) (λ e. no_end (b.within, sym same ∙ e))
    (λ e. no_escape b.within (sym same ∙ e)))

-- after the closing quote of a key, which may be rejected
pub key_closed : (r : Reading) (bs : List ℕ) (fs : Frames) (es : EntriesSoFar) (opened : ℕ) (k : List ℕ) (i : ℕ) (t : Bool)
    → (r.strict && is_some (find k es)) ≡ t → from_closed r bs (as_key fs es opened) k i
    ≡ outcome_on (go (breach_if t (duplicate (opened - left_at bs (i - 1)))) (after_key fs es k))
    (λ p. from r bs p i) (chars (drop (i - 1) bs))
key_closed r bs fs es opened k i t e =
    ap (λ b. outcome_on (go (breach_if b (duplicate (opened - left_at bs (i - 1)))) (after_key fs es k))
    (λ p. from r bs p i) (chars (drop (i - 1) bs))) e
