-- A text of a value, in whatever style, is UTF-8: its strings are, and all its other bytes are below 128.
use Rattle.jzon_base.proofs.Common.{◌≡◌, ◌∙◌, ℕ, zero, suc, ℤ, pos, negsuc, ◌^◌, ◌<◌, ◌≤◌, List, [], ◌∷◌}
use Rattle.jzon_base.proofs.Common.{◌++◌, length, replicate, get_or, Bool, true, false, ◌&&◌}
use Rattle.jzon_base.proofs.Common.{nat_lt, if◌then◌else◌, decimal, FitsSigned, codes, refl, sym, ap, subst, append-nil}
use Rattle.jzon_base.proofs.Common.{inl, inr, arith, rules, w16, ⊤, IsUtf8, IsTrue, map, encode_utf8, encode_utf8_all}
use Rattle.jzon_base.proofs.Common.{IsAscii, scalar, scalars, cases_lt, and_parts, ltb-true, nat_tests}
use Rattle.jzon_base.proofs.Common.{length-decimal-le, flat_map-append, encode_ascii, IsUtf8-append, IsUtf8-from_ascii}
use Rattle.jzon_base.proofs.Common.{IsUtf8-nil, IsAscii-nil, IsAscii-cons}
use Rattle.std.proofs.lemmas.Fmt.{IsAscii-decimal}
use Rattle.std.proofs.lemmas.Str.{inside_one, IsAscii-append, IsAscii-take, IsAscii-drop}
use Rattle.jzon_base.specs.Decimal.{Decimal, nan, parts}
use Rattle.jzon_base.specs.Escapes.{letter_of}
use Rattle.jzon_base.specs.NumberText.{point_after, point_after_first, fraction_text, small_exponent_text}
use Rattle.jzon_base.specs.NumberText.{magnitude_text, written_text}
use Rattle.jzon_tree.specs.Lawful.{InRange, IsText, IsValue, AreValues, ArePairs}
use Rattle.jzon_tree.specs.Text.{escaped_byte, escaped, quoted}
use Rattle.jzon_tree.specs.Value.{Value, null, boolean, text, number, array, object, Values, no_values, value, ValuePairs}
use Rattle.jzon_tree.specs.Value.{no_pairs, pair, Kind, short, long}
use Rattle.jzon_tree.specs.Writing.{Style, is_whitespace, is_all_whitespace, text_at, Joins, Encloses, Writes}
use Rattle.jzon_tree.specs.Writing.{WritesEach, WritesPairs, colon_text}
use Rattle.jzon_tree.proofs.Printing.PlainRuns.{unescaped_byte}

-- ---- bytes below 128
pub IsAscii-one : (c : ℕ) → c < 128 → IsAscii (c ∷ [])
IsAscii-one c h = IsAscii-cons c [] h IsAscii-nil

pub IsAscii-replicate : (n c : ℕ) → c < 128 → IsAscii (replicate n c)
IsAscii-replicate zero c h = IsAscii-nil
IsAscii-replicate (suc n) c h = IsAscii-cons c (replicate n c) h (IsAscii-replicate n c h)

IsAscii-if : (b : Bool) (xs ys : List ℕ) → IsAscii xs → IsAscii ys → IsAscii (if b then xs else ys)
IsAscii-if true xs ys h k = h
IsAscii-if false xs ys h k = k

abbrev pub are_ascii : List ℕ → Bool
are_ascii [] = true
are_ascii (c ∷ cs) = nat_lt c 128 && are_ascii cs

pub IsAscii-true : (cs : List ℕ) → are_ascii cs ≡ true → IsAscii cs
IsAscii-true [] h = IsAscii-nil
IsAscii-true (c ∷ cs) h =
    let t = and_parts (nat_lt c 128) (are_ascii cs) h in
    IsAscii-cons c cs (ltb-true c 128 t.0) (IsAscii-true cs t.1)

-- ---- numbers
module _ (ds : List ℕ) (h : IsAscii ds) where
  ascii-point : (k : ℕ) → IsAscii (point_after k ds)
  ascii-point k = search (IsAscii-append, IsAscii-take, IsAscii-drop, IsAscii-true)

  ascii-point_first : IsAscii (point_after_first ds)
  ascii-point_first = search (IsAscii-if, ascii-point)

  ascii-fraction : (k : ℕ) → IsAscii (fraction_text ds k)
  ascii-fraction k = search (arith, IsAscii-if, ascii-point, IsAscii-append, IsAscii-replicate, IsAscii-true)

  ascii-exponent : (d k : ℕ) → k ≤ 2 ^ 16 → IsAscii (small_exponent_text d k)
  ascii-exponent d k f = search (arith, IsAscii-if, IsAscii-append, IsAscii-true, IsAscii-decimal)

  ascii-magnitude : (e : ℤ) → length ds ≤ 20 → FitsSigned w16 e → IsAscii (magnitude_text ds e)
  ascii-magnitude (pos k) n f =
      let few : k < 2 ^ 15 = search (rules, f) in
      search (arith, IsAscii-if, IsAscii-append, IsAscii-replicate, ascii-point_first, IsAscii-true, IsAscii-decimal)
  ascii-magnitude (negsuc k) n f =
      let few : k < 2 ^ 15 = search (rules, f) in
      search (arith, IsAscii-if, ascii-fraction, IsAscii-append, ascii-point_first, ascii-exponent)

pub IsAscii-written : (n : Decimal) → InRange n → IsAscii (written_text n)
IsAscii-written nan h = IsAscii-true (codes "null") refl
IsAscii-written (parts positive m e) h =
    let small : length (decimal m) ≤ 20 = length-decimal-le 20 m (omega arith) (omega (arith, h.0)) h.0 in
    search (IsAscii-append, IsAscii-if, IsAscii-true, ascii-magnitude, IsAscii-decimal)

-- ---- strings
abbrev pub all_below : (ℕ → Bool) → ℕ → Bool
all_below test zero = true
all_below test (suc n) = test n && all_below test n

pub at_below : (test : ℕ → Bool) (n c : ℕ) → all_below test n ≡ true → c < n → test c ≡ true
at_below test zero c h lt = absurd (omega arith)
at_below test (suc n) c h lt =
    let t = and_parts (test n) (all_below test n) h in
    elim (cases_lt c n) [
      | inl less ↦ at_below test n c t.1 less
      | inr more ↦ subst (λ (m : ℕ). test m ≡ true) (let e : n ≡ c = omega arith in e) t.0
    ]

pub IsAscii-escaped_byte : (c : ℕ) → c < 128 → IsAscii (escaped_byte c)
IsAscii-escaped_byte c h = IsAscii-true (escaped_byte c) (at_below (λ b. are_ascii (escaped_byte b)) 128 c refl h)

pub large_escaped : (c : ℕ) → 128 ≤ c → escaped_byte c ≡ c ∷ []
large_escaped c h =
    let none : letter_of c ≡ 0 = grind (arith, nat_tests) in
    let large : 32 ≤ c = omega (arith, h) in
    unescaped_byte (letter_of c) c _ _ none large

pub escaped_large : (bs : List ℕ) → ((i : ℕ) → i < length bs → 128 ≤ get_or bs i 0) → escaped bs ≡ bs
escaped_large [] h = refl
escaped_large (b ∷ bs) h = ap (λ t. t ++ escaped bs) (large_escaped b (h 0 (omega arith)))
    ∙ ap (λ t. b ∷ t) (escaped_large bs (λ i lt. h (suc i) (omega arith)))

pub encode_large : (c : ℕ) → 128 ≤ c → (i : ℕ) → i < length (encode_utf8 c) → 128 ≤ get_or (encode_utf8 c) i 0
encode_large c h i lt =
    elim (cases_lt (get_or (encode_utf8 c) i 0) 128) [
      | inl small ↦
          (let e : c ≡ get_or (encode_utf8 c) i 0 = inside_one c [] (encode_utf8 c) i (sym (append-nil (encode_utf8 c)))
          lt small in
          absurd (omega (arith, e, small, h)))
      | inr large ↦ large
    ]

escaped_character : (c : ℕ) → scalar c ≡ true → IsUtf8 (escaped (encode_utf8 c))
escaped_character c ok =
    elim (cases_lt c 128) [
      | inl small ↦ subst IsUtf8 (sym (append-nil (escaped_byte c)) ∙ ap escaped (sym (encode_ascii c small)))
          (IsUtf8-from_ascii (escaped_byte c) (IsAscii-escaped_byte c small))
      | inr large ↦ subst IsUtf8 (sym (escaped_large (encode_utf8 c) (encode_large c large)))
          (c ∷ [], (rw ok refl, append-nil (encode_utf8 c)))
    ]

escaped_characters : (cs : List ℕ) → scalars cs ≡ true → IsUtf8 (escaped (encode_utf8_all cs))
escaped_characters [] h = IsUtf8-nil
escaped_characters (c ∷ cs) h =
    let t = and_parts (scalar c) (scalars cs) h in
    subst IsUtf8 (sym (flat_map-append escaped_byte (encode_utf8 c) (encode_utf8_all cs)))
    (IsUtf8-append _ _ (escaped_character c t.0) (escaped_characters cs t.1))

pub IsUtf8-escaped : (s : List ℕ) → IsUtf8 s → IsUtf8 (escaped s)
IsUtf8-escaped s (cs, (ok, e)) = subst (λ t. IsUtf8 (escaped t)) e (escaped_characters cs ok)

IsUtf8-quote : IsUtf8 (34 ∷ [])
IsUtf8-quote = IsUtf8-from_ascii (34 ∷ []) (IsAscii-true (34 ∷ []) refl)

pub IsUtf8-quoted : (s : List ℕ) → IsUtf8 s → IsUtf8 (quoted s)
IsUtf8-quoted s u =
    IsUtf8-append (34 ∷ []) _ IsUtf8-quote
    (IsUtf8-append (escaped s) (34 ∷ []) (IsUtf8-escaped s u) IsUtf8-quote)

-- ---- values
pub text_utf8 : (k : Kind) (s : List ℕ) → IsText k s → IsUtf8 s
text_utf8 short s h = h.0
text_utf8 long s h = h

ascii_utf8 : (bs : List ℕ) → are_ascii bs ≡ true → IsUtf8 bs
ascii_utf8 bs h = IsUtf8-from_ascii bs (IsAscii-true bs h)

whitespace_small : (c : ℕ) → is_whitespace false c ≡ true → c < 128
whitespace_small c h = grind (arith, nat_tests)

whitespace_ascii : (w : List ℕ) → is_all_whitespace false w ≡ true → IsAscii w
whitespace_ascii [] h = IsAscii-nil
whitespace_ascii (c ∷ cs) h =
    let t = and_parts (is_whitespace false c) (is_all_whitespace false cs) h in
    IsAscii-cons c cs (whitespace_small c t.0) (whitespace_ascii cs t.1)

whitespace_utf8 : (w : List ℕ) → IsTrue (is_all_whitespace false w) → IsUtf8 w
whitespace_utf8 w h = IsUtf8-from_ascii w (whitespace_ascii w (search (rules, h)))

colon_utf8 : (wide : Bool) → IsUtf8 (colon_text wide)
colon_utf8 true = ascii_utf8 (colon_text true) refl
colon_utf8 false = ascii_utf8 (colon_text false) refl

abbrev AreUtf8 : List (List ℕ) → Type 0
AreUtf8 [] = ⊤
AreUtf8 (t ∷ ts) = IsUtf8 t × AreUtf8 ts

utf8_at : (ts : List (List ℕ)) → AreUtf8 ts → (i : ℕ) → IsUtf8 (text_at ts i)
utf8_at [] h i = IsUtf8-nil
utf8_at (t ∷ ts) h zero = h.0
utf8_at (t ∷ ts) h (suc i) = utf8_at ts h.1 i

utf8_in_order : (ts : List (List ℕ)) → AreUtf8 ts → (positions : List ℕ) → AreUtf8 (map (text_at ts) positions)
utf8_in_order ts h [] = tt
utf8_in_order ts h (p ∷ ps) = (utf8_at ts h p, utf8_in_order ts h ps)

utf8_joined : (s : Style) (d : ℕ) (ts : List (List ℕ)) (b : List ℕ) → AreUtf8 ts → Joins s d ts b → IsUtf8 b
utf8_joined s d [] b h j = absurd j
utf8_joined s d (t ∷ []) b h (w, a, e) = rw e (IsUtf8-append _ _ (whitespace_utf8 w a.0) h.0)
utf8_joined s d (t ∷ u ∷ ts) b h (w, more, a, j, e) =
    rw e (IsUtf8-append _ _ (whitespace_utf8 w a.0) (IsUtf8-append _ _ h.0
    (IsUtf8-append (44 ∷ []) _ (ascii_utf8 (44 ∷ []) refl) (utf8_joined s d (u ∷ ts) more h.1 j))))

utf8_enclosed : (s : Style) (d opening closing : ℕ) (ts : List (List ℕ)) (b : List ℕ) → opening < 128 → closing < 128
    → AreUtf8 ts → Encloses s d opening ts closing b → IsUtf8 b
utf8_enclosed s d opening closing ts b o c h (inside, w, j, a, e) =
    rw e (IsUtf8-append (opening ∷ []) _ (IsUtf8-from_ascii _ (IsAscii-one opening o))
    (IsUtf8-append _ _ (utf8_joined s (suc d) ts inside h j) (IsUtf8-append _ _ (whitespace_utf8 w a.0)
    (IsUtf8-from_ascii _ (IsAscii-one closing c)))))

mutual
  pub IsUtf8-writing : (s : Style) (d : ℕ) (v : Value) (b : List ℕ) → IsValue v → Writes s d v b → IsUtf8 b
  IsUtf8-writing s d null b h e = subst IsUtf8 (sym e) (ascii_utf8 (codes "null") refl)
  IsUtf8-writing s d (boolean true) b h e = subst IsUtf8 (sym e) (ascii_utf8 (codes "true") refl)
  IsUtf8-writing s d (boolean false) b h e = subst IsUtf8 (sym e) (ascii_utf8 (codes "false") refl)
  IsUtf8-writing s d (text k t) b h e = subst IsUtf8 (sym e) (IsUtf8-quoted t (text_utf8 k t h))
  IsUtf8-writing s d (number n) b h e = subst IsUtf8 (sym e) (IsUtf8-from_ascii (written_text n) (IsAscii-written n h))
  IsUtf8-writing s d (array no_values) b h e = subst IsUtf8 (sym e) (ascii_utf8 (codes "[]") refl)
  IsUtf8-writing s d (array (value v vs)) b h (ts, each, k) =
      utf8_enclosed s d 91 93 ts b (omega arith) (omega arith) (utf8_each s (suc d) (value v vs) ts h each) k
  IsUtf8-writing s d (object no_pairs) b h e = subst IsUtf8 (sym e) (ascii_utf8 (codes "{}") refl)
  IsUtf8-writing s d (object (pair k v ps)) b h (ts, positions, each, order, allowed, e) =
      utf8_enclosed s d 123 125 (map (text_at ts) positions) b (omega arith) (omega arith)
      (utf8_in_order ts (utf8_pairs s (suc d) (pair k v ps) ts h.0 each) positions) e

  utf8_each : (s : Style) (d : ℕ) (vs : Values) (ts : List (List ℕ)) → AreValues vs → WritesEach s d vs ts → AreUtf8 ts
  utf8_each s d no_values [] h e = tt
  utf8_each s d (value v vs) (t ∷ ts) h e = (IsUtf8-writing s d v t h.0 e.0, utf8_each s d vs ts h.1 e.1)
  utf8_each s d _ _ h e = absurd e

  utf8_pairs : (s : Style) (d : ℕ) (ps : ValuePairs) (ts : List (List ℕ)) → ArePairs ps → WritesPairs s d ps ts → AreUtf8 ts
  utf8_pairs s d no_pairs [] h e = tt
  utf8_pairs s d (pair k v ps) (t ∷ ts) h ((wide, x, c, w, e), rest) =
      let utf8 = IsUtf8-writing s d v x h.1 w in
      (rw e (search (IsUtf8-append, IsUtf8-quoted, colon_utf8, h.0)), utf8_pairs s d ps ts h.2 rest)
  utf8_pairs s d _ _ h e = absurd e
