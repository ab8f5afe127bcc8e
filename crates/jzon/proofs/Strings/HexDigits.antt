-- The four hexadecimal digits of an escape, by the bytes of a text.
use Rattle.jzon_base.proofs.Common.{◌≡◌, ℕ, zero, suc, ◌+◌, ◌-◌, ◌*◌, ◌^◌, ◌<◌, ◌≤◌, true, false, cond, List, [], ◌∷◌}
use Rattle.jzon_base.proofs.Common.{length, take, drop, get_or, refl, sym, ap, subst, ◌∙◌, arith, None, ◌&&◌, chars}
use Rattle.jzon_base.proofs.Common.{IsUtf8, slice_range, fold, is_ascii_hexdigit, digit_value, IsCharBoundary}
use Rattle.jzon_base.proofs.Common.{pow-le-pow_right, false_from_ne_true, nat_tests, get_or-drop, take_more}
use Rattle.jzon_base.proofs.Common.{fold-append, IsCharBoundary-after_ascii}
use Rattle.std.proofs.Common.{length-drop}
use Rattle.std.proofs.lemmas.Grind.{pow_more}
use Rattle.jzon.specs.Reading.{Reading}
use Rattle.jzon.specs.Grammar.{is_high, is_low, is_surrogate, code_unit}
use Rattle.jzon.specs.Fault as fault
use Rattle.jzon.specs.Private.Machine.{Role, State, Move, string, code, second_code, go, bad, move, last, refused}
use Rattle.jzon.specs.Private.Machine.{add_hex, after_unit, move_pair, move_code, move_second_code, Outcome, outcome_on}
use Rattle.jzon.specs.Private.Machine.{from, left_at, fault_here}
use Rattle.jzon.proofs.Strings.StringSteps.{byte_moves, byte_stops}

-- States that read hexadecimal digits, by the count of digits missing after the next one and the number so far; and
-- the move after the last digit.
pub record ReadsHex (r : Reading) (at : ℕ → ℕ → State) (done : ℕ → Move) : Type 0 where
  pub more : (n u c left : ℕ) → is_ascii_hexdigit c ≡ true → move r (at (suc n) u) c left ≡ go None (at n (add_hex u c))
  pub last_one : (u c left : ℕ) → is_ascii_hexdigit c ≡ true → move r (at zero u) c left ≡ done (add_hex u c)
  pub stops : (n u c left : ℕ) → is_ascii_hexdigit c ≡ false → move r (at n u) c left ≡ bad
  pub unfinished : (n u : ℕ) → last (at n u) ≡ refused fault.end []

-- the digits of an escape, and those of the second escape of two
pub code_reads : (r : Reading) (role : Role) (xs : List ℕ)
    → ReadsHex r (λ n u. string role xs (code n u)) (λ u. go None (after_unit (is_surrogate u) role xs u))
code_reads r role xs = record {
  more = λ n u c left h. ap (λ t. cond t (move_code role xs (suc n) u c) bad) h;
  last_one = λ u c left h. ap (λ t. cond t (move_code role xs zero u c) bad) h;
  stops = λ n u c left h. ap (λ t. cond t (move_code role xs n u c) bad) h;
  unfinished = λ n u. refl;
}

pub second_code_reads : (r : Reading) (role : Role) (xs : List ℕ) (first : ℕ)
    → ReadsHex r (λ n u. string role xs (second_code first n u))
    (λ u. move_pair (is_high first && is_low u) role xs first u)
second_code_reads r role xs first = record {
  more = λ n u c left h. ap (λ t. cond t (move_second_code role xs first (suc n) u c) bad) h;
  last_one = λ u c left h. ap (λ t. cond t (move_second_code role xs first zero u c) bad) h;
  stops = λ n u c left h. ap (λ t. cond t (move_second_code role xs first n u c) bad) h;
  unfinished = λ n u. refl;
}

-- the outcome of the text from byte i on with n digits missing; with none missing, the last one is before i
abbrev pub hex_left : Reading → (ℕ → ℕ → State) → (ℕ → Move) → List ℕ → ℕ → ℕ → ℕ → Outcome
hex_left r at done bs zero u i = outcome_on (done u) (λ p. from r bs p i) (chars (drop (i - 1) bs))
hex_left r at done bs (suc n) u i = from r bs (at n u) i

hex_is_ascii : (b : ℕ) → is_ascii_hexdigit b ≡ true → b < 128
hex_is_ascii b h = grind (arith, nat_tests)

-- the next byte is a digit
pub hex_read : (r : Reading) (at : ℕ → ℕ → State) (done : ℕ → Move) (bs : List ℕ) (n u i : ℕ) → ReadsHex r at done
    → IsUtf8 bs → IsCharBoundary bs i → i < length bs → is_ascii_hexdigit (get_or bs i 0) ≡ true
    → hex_left r at done bs (suc n) u i ≡ hex_left r at done bs n (add_hex u (get_or bs i 0)) (i + 1)
hex_read r at done bs zero u i h text here lt e =
    byte_moves r (at zero u) bs i (get_or bs i 0) text here lt refl (hex_is_ascii _ e)
    ∙ ap (λ m. outcome_on m (λ p. from r bs p (i + 1)) (chars (drop i bs)))
    (h.last_one u (get_or bs i 0) (left_at bs i) e)
    ∙ ap (λ k. outcome_on (done (add_hex u (get_or bs i 0))) (λ p. from r bs p (i + 1)) (chars (drop k bs)))
    (omega arith)
hex_read r at done bs (suc n) u i h text here lt e =
    byte_moves r (at (suc n) u) bs i (get_or bs i 0) text here lt refl (hex_is_ascii _ e)
    ∙ ap (λ m. outcome_on m (λ p. from r bs p (i + 1)) (chars (drop i bs)))
    (h.more n u (get_or bs i 0) (left_at bs i) e)

-- the next byte isn't a digit
pub hex_missing : (r : Reading) (at : ℕ → ℕ → State) (done : ℕ → Move) (bs : List ℕ) (n u i : ℕ) → ReadsHex r at done
    → IsUtf8 bs → IsCharBoundary bs i → ((i < length bs) × (is_ascii_hexdigit (get_or bs i 0) ≡ true) → ⊥)
    → hex_left r at done bs (suc n) u i ≡ fault_here (chars (drop i bs))
hex_missing r at done bs n u i h text here none =
    byte_stops r (at n u) bs i text here (h.unfinished n u) (λ c b.
    h.stops n u c (left_at bs i) (false_from_ne_true (is_ascii_hexdigit c)
    (λ e. none (b.within, ap is_ascii_hexdigit (b.byte (hex_is_ascii c e)) ∙ e))))

-- ---- the number so far

-- The part of the four digits from `start` on up to byte i has been read, in each state that reads digits.
pub record HexRead (bs : List ℕ) (start i u : ℕ) : Type 0 where
  pub boundary : IsCharBoundary bs i
  pub last : start < i → IsCharBoundary bs (i - 1)
  pub value : u ≡ fold add_hex 0 (slice_range bs start i)
  pub small : u < 16 ^ (i - start)
  pub same : (r : Reading) (at : ℕ → ℕ → State) (done : ℕ → Move) → ReadsHex r at done
      → from r bs (at 3 0) start ≡ hex_left r at done bs (4 - (i - start)) u i

pub hex_begun : (bs : List ℕ) (start : ℕ) → IsCharBoundary bs start → HexRead bs start start 0
hex_begun bs start here = record {
  boundary = here;
  last = λ lt. absurd (omega arith);
  value = let e : start - start ≡ 0 = omega arith in rw e refl;
  small = let e : start - start ≡ 0 = omega arith in rw e (omega arith);
  same = λ r at done h. ap (λ n. hex_left r at done bs n 0 start) (let e : 4 ≡ 4 - (start - start) = omega arith in e);
}

pub hex_is_below_16 : (b : ℕ) → is_ascii_hexdigit b ≡ true → digit_value b < 16
hex_is_below_16 b h = grind (arith, nat_tests)

-- the number of the digits with one more
hex_number_more : (cs : List ℕ) (n : ℕ) → n < length cs
    → fold add_hex 0 (take (n + 1) cs) ≡ add_hex (fold add_hex 0 (take n cs)) (get_or cs n 0)
hex_number_more cs n lt = ap (fold add_hex 0) (take_more cs n 0 lt)
    ∙ fold-append add_hex 0 (take n cs) (get_or cs n 0 ∷ [])

hex_value_more : (bs : List ℕ) (start i u : ℕ) → u ≡ fold add_hex 0 (slice_range bs start i) → start ≤ i → i < length bs
    → add_hex u (get_or bs i 0) ≡ fold add_hex 0 (slice_range bs start (i + 1))
hex_value_more bs start i u e low lt =
    let n : i + 1 - start ≡ (i - start) + 1 = omega arith in
    let here : start + (i - start) ≡ i = omega arith in
    ap (λ v. add_hex v (get_or bs i 0)) e
    ∙ ap (add_hex (fold add_hex 0 (slice_range bs start i)))
    (ap (λ k. get_or bs k 0) (sym here) ∙ sym (get_or-drop start bs (i - start) 0))
    ∙ sym (hex_number_more (drop start bs) (i - start) (omega (arith, length-drop start bs)))
    ∙ ap (λ k. fold add_hex 0 (take k (drop start bs))) (sym n)

-- one more digit
pub hex_more : (bs : List ℕ) (start i u : ℕ) → HexRead bs start i u → IsUtf8 bs → start ≤ i → i < start + 4
    → i < length bs → is_ascii_hexdigit (get_or bs i 0) ≡ true → HexRead bs start (i + 1) (add_hex u (get_or bs i 0))
hex_more bs start i u k text low high lt e = record {
  boundary = IsCharBoundary-after_ascii bs i text lt (hex_is_ascii _ e);
  last = λ lt. subst (IsCharBoundary bs) (let n : i ≡ i + 1 - 1 = omega arith in n) k.boundary;
  value = hex_value_more bs start i u k.value low lt;
  small =
      let n : i + 1 - start ≡ (i - start) + 1 = omega arith in
      rw (n, pow_more 16 (i - start)) (omega (arith, k.small, hex_is_below_16 (get_or bs i 0) e));
  same = λ r at done h.
      k.same r at done h ∙ ap (λ n. hex_left r at done bs n u i)
      (let n : 4 - (i - start) ≡ suc (4 - (i + 1 - start)) = omega arith in n)
      ∙ hex_read r at done bs (4 - (i + 1 - start)) u i h text k.boundary lt e;
}

-- no further digit
pub hex_stops : (r : Reading) (bs : List ℕ) (start i u : ℕ) (at : ℕ → ℕ → State) (done : ℕ → Move)
    → HexRead bs start i u → ReadsHex r at done → IsUtf8 bs
    → start ≤ i → i < start + 4 → ((i < length bs) × (is_ascii_hexdigit (get_or bs i 0) ≡ true) → ⊥)
    → from r bs (at 3 0) start ≡ fault_here (chars (drop i bs))
hex_stops r bs start i u at done k h text low high none =
    k.same r at done h ∙ ap (λ n. hex_left r at done bs n u i)
    (let n : 4 - (i - start) ≡ suc (3 - (i - start)) = omega arith in n)
    ∙ hex_missing r at done bs (3 - (i - start)) u i h text k.boundary none

-- all four digits
pub hex_end : (r : Reading) (bs : List ℕ) (start i u : ℕ) (at : ℕ → ℕ → State) (done : ℕ → Move) → HexRead bs start i u
    → ReadsHex r at done → i ≡ start + 4
    → from r bs (at 3 0) start ≡ outcome_on (done u) (λ p. from r bs p (start + 4)) (chars (drop (start + 3) bs))
hex_end r bs start i u at done k h e =
    k.same r at done h ∙ ap (λ n. hex_left r at done bs n u i) (let n : 4 - (i - start) ≡ 0 = omega arith in n)
    ∙ ap (λ n. outcome_on (done u) (λ p. from r bs p n) (chars (drop (n - 1) bs))) e
    ∙ ap (λ n. outcome_on (done u) (λ p. from r bs p (start + 4)) (chars (drop n bs)))
    (let n : start + 4 - 1 ≡ start + 3 = omega arith in n)

pub hex_small : (bs : List ℕ) (start i u : ℕ) → HexRead bs start i u → i ≤ start + 4 → u < 65536
hex_small bs start i u k h =
    let most : 16 ^ (i - start) ≤ 16 ^ 4 = pow-le-pow_right {n = 16} (omega arith) {i = i - start} {j = 4} (omega arith)
    in
    omega (arith, k.small, most)

-- what the four digits spell
pub hex_spelled : (bs : List ℕ) (start i u : ℕ) → HexRead bs start i u → i ≡ start + 4
    → u ≡ code_unit (slice_range bs start (start + 4))
unfolding code_unit
hex_spelled bs start i u k e = k.value ∙ ap (λ n. fold add_hex 0 (slice_range bs start n)) e

-- x is the value of the digit b
abbrev pub Digit : ℕ → ℕ → Type 0
Digit x b = (is_ascii_hexdigit b ≡ true) × (x ≡ digit_value b)

-- all four at once, which are the first of the bytes from `start` on
pub hex_at_once : (bs rest : List ℕ) (start a b c d : ℕ) → IsUtf8 bs → IsCharBoundary bs start → rest ≡ drop start bs
    → 4 ≤ length rest → Digit a (get_or rest 0 0) → Digit b (get_or rest 1 0) → Digit c (get_or rest 2 0)
    → Digit d (get_or rest 3 0) → HexRead bs start (start + 4) (((a * 16 + b) * 16 + c) * 16 + d)
hex_at_once bs rest start a b c d text here e room da db dc dd =
    let digit : (i j k x u : ℕ) → HexRead bs start i u → i ≡ start + k → k < 4 → Digit x (get_or rest k 0) → i + 1 ≡ j
    → HexRead bs start j (u * 16 + x) = λ i j k x u read at few dx next.
    let byte : get_or rest k 0 ≡ get_or bs i 0 =
    ap (λ s. get_or s k 0) e ∙ get_or-drop start bs k 0 ∙ ap (λ n. get_or bs n 0) (sym at) in
    rw (← next, dx.1, byte) (hex_more bs start i u read text (omega (arith, at)) (omega (arith, at, few))
    (omega (arith, at, few, room, ap length e, length-drop start bs)) (rw byte at dx.0)) in
    let one : HexRead bs start (start + 1) a = subst (HexRead bs start (start + 1)) (omega arith)
    (digit start (start + 1) 0 a 0 (hex_begun bs start here) (omega arith) (omega arith) da refl) in
    let two = digit (start + 1) (start + 2) 1 b _ one refl (omega arith) db (omega arith) in
    let three = digit (start + 2) (start + 3) 2 c _ two refl (omega arith) dc (omega arith) in
    digit (start + 3) (start + 4) 3 d _ three refl (omega arith) dd (omega arith)
