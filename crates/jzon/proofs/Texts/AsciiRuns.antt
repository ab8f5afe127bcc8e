-- Runs of ASCII bytes of a text, such as whitespace and digits, and the rest of the text after them.
use Rattle.jzon_base.proofs.Common.{◌≡◌, ℕ, suc, ◌+◌, ◌<◌, ◌≤◌, Bool, true, false, cond, List, [], ◌∷◌, ◌++◌, length}
use Rattle.jzon_base.proofs.Common.{drop, add-one, drop-cons, get_or, refl, sym, ap, ◌∙◌, arith, None, chars}
use Rattle.jzon_base.proofs.Common.{IsUtf8, IsCharBoundary, prefix_len, nat_tests, drop-drop, length-drop, get_or-drop}
use Rattle.jzon_base.proofs.Common.{prefix_len-le-length, prefix_len_stops, chars_past_char, encode_ascii, IsUtf8-drop}
use Rattle.jzon_base.proofs.Common.{IsCharBoundary-from_drop}
use Rattle.std.proofs.lemmas.Str.{IsUtf8-past_char}
use Rattle.jzon_tree.specs.Writing.{is_whitespace}
use Rattle.jzon.specs.Reading.{Reading}
use Rattle.jzon.specs.Private.Machine.{State, Frames, before, go, move, outcome, from}
use Rattle.jzon.proofs.Texts.ClassesOfCharacters.{whitespace-class}

-- an ASCII byte is a character, and what follows it is text
pub chars-ascii : (b : ℕ) (bs : List ℕ) → IsUtf8 (b ∷ bs) → b < 128 → chars (b ∷ bs) ≡ b ∷ chars bs
chars-ascii b bs u lt = chars_past_char (b ∷ bs) bs b u (ap (λ z. z ++ bs) (sym (encode_ascii b lt)))

pub IsUtf8-past_ascii : (b : ℕ) (bs : List ℕ) → IsUtf8 (b ∷ bs) → b < 128 → IsUtf8 bs
IsUtf8-past_ascii b bs u lt = IsUtf8-past_char (b ∷ bs) bs b u (ap (λ z. z ++ bs) (sym (encode_ascii b lt)))

-- in this state the characters that pass the test, all ASCII, are skipped
pub record Skips (r : Reading) (p : State) (test : ℕ → Bool) : Type 0 where
  pub ascii : (c : ℕ) → test c ≡ true → c < 128
  pub stays : (c n : ℕ) → test c ≡ true → move r p c n ≡ go None p

pub record Skipped (r : Reading) (p : State) (bs rest : List ℕ) : Type 0 where
  pub same : outcome r (chars bs) p ≡ outcome r (chars rest) p
  pub utf8 : IsUtf8 rest

skip_one : (r : Reading) (p : State) (test : ℕ → Bool) (b : ℕ) (bs : List ℕ) (v : Bool) (n : ℕ) → Skips r p test
    → IsUtf8 (b ∷ bs) → test b ≡ v
    → (IsUtf8 bs → Skipped r p bs (drop n bs)) → Skipped r p (b ∷ bs) (drop (cond v (1 + n) 0) (b ∷ bs))
skip_one r p test b bs false n h u e ih = record { same = refl; utf8 = u }
skip_one r p test b bs true n h u e ih =
    let lt : b < 128 = h.ascii b e in
    let k = ih (IsUtf8-past_ascii b bs u lt) in
    let m : 1 + n ≡ suc n = omega arith in
    let step : outcome r (chars (b ∷ bs)) p ≡ outcome r (chars bs) p =
    rw (chars-ascii b bs u lt, h.stays b (suc (length (chars bs))) e) refl in
    rw m (record { same = step ∙ k.same; utf8 = k.utf8 })

pub skip_run : (r : Reading) (p : State) (test : ℕ → Bool) (bs : List ℕ) → Skips r p test → IsUtf8 bs
    → Skipped r p bs (drop (prefix_len test bs) bs)
skip_run r p test [] h u = record { same = refl; utf8 = u }
skip_run r p test (b ∷ bs) h u = skip_one r p test b bs (test b) (prefix_len test bs) h u refl
    (λ g. skip_run r p test bs h g)

-- ---- whitespace

pub space_is_ascii : (s : Bool) (c : ℕ) → is_whitespace s c ≡ true → c < 128
space_is_ascii true c e = grind (arith, nat_tests)
space_is_ascii false c e = grind (arith, nat_tests)

pub above_is_no_space : (s : Bool) (c : ℕ) → 32 < c → is_whitespace s c ≡ false
above_is_no_space true c lt = grind (arith, nat_tests)
above_is_no_space false c lt = grind (arith, nat_tests)

pub wide_is_no_space : (s : Bool) (c : ℕ) → 128 ≤ c → is_whitespace s c ≡ false
wide_is_no_space s c le = above_is_no_space s c (omega (arith, le))

pub before_skips : (r : Reading) (fs : Frames) → Skips r (before fs) (is_whitespace r.strict)
before_skips r fs = record { ascii = space_is_ascii r.strict; stays = λ c n e. rw (whitespace-class r c e) refl }

-- ---- by the index of a byte

-- the outcome of the rest is the same after a run of bytes that are skipped
pub from_skip : (r : Reading) (p : State) (test : ℕ → Bool) (bs : List ℕ) (i n : ℕ) → Skips r p test → IsUtf8 bs
    → IsCharBoundary bs i → n ≡ prefix_len test (drop i bs) → from r bs p i ≡ from r bs p (i + n)
unfolding from
from_skip r p test bs i n h u at e =
    (skip_run r p test (drop i bs) h (IsUtf8-drop bs i u at)).same
    ∙ ap (λ k. outcome r (chars (drop k (drop i bs))) p) (sym e) ∙ ap (λ z. outcome r (chars z) p) (drop-drop n i bs)

-- no run begins with a byte that doesn't pass the test
pub empty_run : (test : ℕ → Bool) (bs : List ℕ) (i : ℕ) → i ≤ length bs → test (get_or bs i 0) ≡ false
    → prefix_len test (drop i bs) ≡ 0
empty_run test bs i le e = none (drop i bs) (ap test (get_or-drop i bs 0 0 ∙ ap (λ n. get_or bs n 0) (omega arith)) ∙ e)
  where
    none : (xs : List ℕ) → test (get_or xs 0 0) ≡ false → prefix_len test xs ≡ 0
    none [] h = refl
    none (x ∷ xs) h = ap (λ t. cond t (1 + prefix_len test xs) 0) h

pub within_run : (test : ℕ → Bool) (bs : List ℕ) (i n : ℕ) → i ≤ length bs → n ≡ prefix_len test (drop i bs)
    → i + n ≤ length bs
within_run test bs i n le e = omega (arith, e, prefix_len-le-length test (drop i bs), length-drop i bs)

pub boundary_skip : (r : Reading) (p : State) (test : ℕ → Bool) (bs : List ℕ) (i n : ℕ) → Skips r p test → IsUtf8 bs
    → IsCharBoundary bs i → n ≡ prefix_len test (drop i bs) → IsCharBoundary bs (i + n)
boundary_skip r p test bs i n h u at e =
    IsCharBoundary-from_drop bs (i + n) (within_run test bs i n at.0 e)
    (rw (← e, drop-drop n i bs) at (skip_run r p test (drop i bs) h (IsUtf8-drop bs i u at)).utf8)

-- the byte after a run doesn't pass the test
pub stops_run : (test : ℕ → Bool) (bs : List ℕ) (i n : ℕ) → n ≡ prefix_len test (drop i bs) → i + n < length bs
    → test (get_or bs (i + n) 0) ≡ false
stops_run test bs i n e lt =
    let k : prefix_len test (drop i bs) < length (drop i bs) = omega (arith, e, length-drop i bs) in
    rw (← e, get_or-drop i bs n 0) at (prefix_len_stops test (drop i bs) 0 k)

-- ---- only whitespace

pub space_alone : (s : Bool) (bs : List ℕ) (i : ℕ) → i + 1 < length bs → get_or bs i 0 ≡ 32 → 32 < get_or bs (i + 1) 0
    → 1 ≡ prefix_len (is_whitespace s) (drop i bs)
space_alone s bs i lt whitespace above =
    let passes : prefix_len (is_whitespace s) (drop i bs) ≡ 1 + prefix_len (is_whitespace s) (drop (suc i) bs) =
    rw (drop-cons bs i 0 (omega arith), whitespace) refl in
    let next : prefix_len (is_whitespace s) (drop (suc i) bs) ≡ prefix_len (is_whitespace s) (drop (i + 1) bs) =
    rw (add-one i) refl in
    let none = empty_run (is_whitespace s) bs (i + 1) (omega arith) (above_is_no_space s (get_or bs (i + 1) 0) above) in
    omega (arith, passes, next, none)
