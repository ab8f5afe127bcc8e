-- Runs of unescaped bytes in a string: the automaton adds them to the string.
use Rattle.jzon_base.proofs.Common.{◌≡◌, ℕ, ◌+◌, ◌<◌, ◌≤◌, true, List, [], ◌∷◌, ◌++◌, length, take}
use Rattle.jzon_base.proofs.Common.{drop, get_or, refl, sym, ap, subst, ◌∙◌, inl, inr, arith, append_assoc, append-nil}
use Rattle.jzon_base.proofs.Common.{take-append-drop, length-append, None, chars, IsUtf8, encode_utf8, encode_utf8_all}
use Rattle.jzon_base.proofs.Common.{slice_range, Contains, IsCharBoundary, prefix_len}
use Rattle.jzon_base.proofs.Common.{cases_lt, and_parts, nat_tests, drop-drop, length-take-le, get_or-append-add}
use Rattle.jzon_base.proofs.Common.{get_or-take, get_or_default, prefix_len-le-length, chars-append, encode_ascii}
use Rattle.jzon_base.proofs.Common.{encodes-chars, scalars-chars, IsUtf8-between}
use lib.Utf8.{scalar, scalars}
use Rattle.std.proofs.lemmas.List.Sums.{prefix_len_passes}
use Rattle.jzon_base.specs.Private.PlainBytes.{is_plain}
use Rattle.jzon.specs.Reading.{Reading}
use Rattle.jzon.specs.Grammar.{is_unescaped}
use Rattle.jzon.specs.Private.Machine.{Role, string, between, go, move_between, outcome, outcome_on, from}
use Rattle.jzon.proofs.Texts.AsciiRuns.{within_run, stops_run}
use Rattle.jzon.proofs.Strings.StringCharacters.{plain_parts}

-- ---- characters

-- each of these bytes is plain
abbrev ArePlain : List ℕ → Type 0
ArePlain xs = (k : ℕ) → k < length xs → is_plain (get_or xs k 0) ≡ true

pub plain_wide : (c : ℕ) → scalar c ≡ true → 128 ≤ c → is_unescaped c ≡ true
plain_wide c s h = rw s (grind (arith, nat_tests))

-- a character is plain if its bytes are
plain_first : (c : ℕ) (xs : List ℕ) → scalar c ≡ true → ArePlain (encode_utf8 c ++ xs) → is_unescaped c ≡ true
plain_first c xs s h =
    elim (cases_lt c 128) [
      | inl lt ↦
          (let e : encode_utf8 c ++ xs ≡ c ∷ xs = ap (λ z. z ++ xs) (encode_ascii c lt) in
          let some : 0 < length (encode_utf8 c ++ xs) = subst (λ z. 0 < length z) (sym e) (omega arith) in
          rw s (subst (λ z. is_plain (get_or z 0 0) ≡ true) e (h 0 some)))
      | inr ge ↦ plain_wide c s ge
    ]

plain_rest : (xs ys : List ℕ) → ArePlain (xs ++ ys) → ArePlain ys
plain_rest xs ys h = λ k lt. subst (λ z. is_plain z ≡ true) (get_or-append-add xs ys k 0)
    (h (length xs + k) (omega (arith, length-append xs ys)))

plain_move : (r : Reading) (role : Role) (bs : List ℕ) (c left : ℕ) → is_unescaped c ≡ true
    → move_between r role bs c left ≡ go None (string role (bs ++ encode_utf8 c) between)
plain_move r role bs c left h = let t = plain_parts c h in rw (h, t.0, t.1) refl

-- plain characters add their bytes to the string
read_plain : (r : Reading) (role : Role) (bs cs rest : List ℕ) → scalars cs ≡ true → ArePlain (encode_utf8_all cs)
    → outcome r (cs ++ rest) (string role bs between) ≡ outcome r rest (string role (bs ++ encode_utf8_all cs) between)
read_plain r role bs [] rest s h = ap (λ z. outcome r rest (string role z between)) (sym (append-nil bs))
read_plain r role bs (c ∷ cs) rest s h =
    let parts = and_parts (scalar c) (scalars cs) s in
    ap (λ m. outcome_on m (λ p. outcome r (cs ++ rest) p) (c ∷ (cs ++ rest)))
    (plain_move r role bs c (length (c ∷ (cs ++ rest))) (plain_first c (encode_utf8_all cs) parts.0 h))
    ∙ read_plain r role (bs ++ encode_utf8 c) cs rest parts.1 (plain_rest (encode_utf8 c) (encode_utf8_all cs) h)
    ∙ rw append_assoc

-- ---- by the index of a byte

-- a run of plain bytes ends between two characters
pub plain_boundary : (bs : List ℕ) (i n : ℕ) → i ≤ length bs → n ≡ prefix_len is_plain (drop i bs)
    → IsCharBoundary bs (i + n)
plain_boundary bs i n le e = (
  within_run is_plain bs i n le e,
  λ lt high.
      let stop = stops_run is_plain bs i n e lt in
      let plain : is_plain (get_or bs (i + n) 0) ≡ true = grind (arith, nat_tests) in
      absurd (cc),
)

run_is_plain : (bs : List ℕ) (i n : ℕ) → n ≡ prefix_len is_plain (drop i bs) → ArePlain (take n (drop i bs))
run_is_plain bs i n e = λ k lt.
    let less : k < n =
    omega (arith, length-take-le n (drop i bs) (omega (arith, e, prefix_len-le-length is_plain (drop i bs)))) in
    subst (λ z. is_plain z ≡ true) (sym (get_or-take n (drop i bs) k 0 less))
    (prefix_len_passes is_plain (drop i bs) k 0 (omega (arith, less, e)))

-- the bytes of the run are added to the string, all of them
pub plain_run : (r : Reading) (role : Role) (xs bs : List ℕ) (i n : ℕ) → IsUtf8 bs → IsCharBoundary bs i
    → n ≡ prefix_len is_plain (drop i bs)
    → from r bs (string role xs between) i ≡ from r bs (string role (xs ++ slice_range bs i (i + n)) between) (i + n)
unfolding from
plain_run r role xs bs i n u at e =
    let run : List ℕ = slice_range bs i (i + n) in
    let same : run ≡ take n (drop i bs) = ap (λ k. take k (drop i bs)) (omega arith) in
    let text : IsUtf8 run = IsUtf8-between bs i (i + n) u (omega arith) at (plain_boundary bs i n at.0 e) in
    let split : drop i bs ≡ run ++ drop (i + n) bs =
    sym (take-append-drop n (drop i bs)) ∙ ap (λ z. z ++ drop n (drop i bs)) (sym same)
    ∙ ap (λ z. run ++ z) (drop-drop n i bs) in
    let plain : ArePlain (encode_utf8_all (chars run)) =
    subst ArePlain (sym same ∙ sym (encodes-chars run text)) (run_is_plain bs i n e) in
    ap (λ z. outcome r (chars z) (string role xs between)) split
    ∙ ap (λ z. outcome r z (string role xs between)) (chars-append run (drop (i + n) bs) text)
    ∙ read_plain r role xs (chars run) (chars (drop (i + n) bs)) (scalars-chars run text) plain
    ∙ ap (λ z. outcome r (chars (drop (i + n) bs)) (string role (xs ++ z) between)) (encodes-chars run text)

-- no backslash is in the run
pub plain_no_escape : (bs : List ℕ) (i n : ℕ) → n ≡ prefix_len is_plain (drop i bs)
    → Contains (slice_range bs i (i + n)) 92 → ⊥
plain_no_escape bs i n e (k, lt, found) =
    let same : slice_range bs i (i + n) ≡ take n (drop i bs) = ap (λ m. take m (drop i bs)) (omega arith) in
    let plain : is_plain (get_or (slice_range bs i (i + n)) k 0)
    ≡ true = subst ArePlain (sym same) (run_is_plain bs i n e) k lt in
    let slash : get_or (slice_range bs i (i + n)) k 0 ≡ 92 = get_or_default (slice_range bs i (i + n)) k 0 92 lt
    ∙ found in
    let no : is_plain 92 ≡ true = subst (λ b. is_plain b ≡ true) slash plain in
    absurd (cc)
