-- The walk of specs/Locate over bytes is that over characters: no byte of a character above 127 is a quote, a bracket, a
-- comma or a backslash.
use Rattle.jzon_base.proofs.Common.{◌≡◌, ◌∙◌, ◌<◌, ◌≤◌, ℕ, zero, suc, List, [], ◌∷◌, ◌++◌, Bool, true, false, not, ◌&&◌, ◌==◌, if◌then◌else◌, Option, Some, None, length}
use Rattle.jzon_base.proofs.Common.{refl, sym, ap, arith, nat_tests, inl, inr, cases_lt, get_or, encode_utf8, encode_utf8_all}
use Rattle.jzon_base.proofs.Common.{encode_ascii}
use Rattle.std.proofs.lemmas.Str.{length-encode, len_utf8_bounds}
use Rattle.jzon.proofs.PrintedUtf8.{encode_large}
use Rattle.jzon.specs.Reading.{Reading}
use Rattle.jzon.specs.Grammar.{Node, Elements, Members, Each, IsNode, IsWhitespace}
use Rattle.jzon.specs.TreeCharacters.{node_chars, elements_chars, members_chars}
use Rattle.jzon.specs.Writing.{is_whitespace}
use Rattle.jzon_pointer.specs.Private.Walk.{after_byte, after_whitespace, is_blank, skim, string_rest}
use Rattle.jzon_pointer.specs.Private.Walk.{Scan}
use Rattle.jzon_pointer.specs.Private.Walk.{Outside, Quoted, Escaped}
use Rattle.jzon_pointer.proofs.LocateSteps.{passes, pass_one, is_inner, inner_one, skim_element, skim_member, string_one}

-- each byte is above 127
abbrev AreLarge : List ℕ → Type 0
AreLarge bs = (i : ℕ) → i < length bs → 128 ≤ get_or bs i 0

large_passes : (c : ℕ) → 128 ≤ c → passes c ≡ true
large_passes c h = grind (arith, nat_tests)

large_inner : (c : ℕ) → 128 ≤ c → is_inner c ≡ true
large_inner c h = grind (arith, nat_tests)

large_outside : (d : ℕ) (bs t : List ℕ) → AreLarge bs → skim (Outside d) (bs ++ t) ≡ skim (Outside d) t
large_outside d [] t h = refl
large_outside d (b ∷ bs) t h =
    pass_one d b (bs ++ t) (large_passes b (h 0 (omega arith)))
    ∙ large_outside d bs t (λ i lt. h (suc i) (omega arith))

large_quoted : (d : ℕ) (bs t : List ℕ) → AreLarge bs → skim (Quoted d) (bs ++ t) ≡ skim (Quoted d) t
large_quoted d [] t h = refl
large_quoted d (b ∷ bs) t h =
    inner_one d b (bs ++ t) (large_inner b (h 0 (omega arith)))
    ∙ large_quoted d bs t (λ i lt. h (suc i) (omega arith))

large_escaped : (d : ℕ) (bs t : List ℕ) → 1 ≤ length bs → AreLarge bs → skim (Escaped d) (bs ++ t) ≡ skim (Quoted d) t
large_escaped d [] t one h = absurd (omega (arith, one))
large_escaped d (b ∷ bs) t one h = large_quoted d bs t (λ i lt. h (suc i) (omega arith))

has_bytes : (c : ℕ) → 1 ≤ length (encode_utf8 c)
has_bytes c = omega (arith, length-encode c, (len_utf8_bounds c).0)

large_step : (s : Scan) (c : ℕ) (cs : List ℕ) → 128 ≤ c
    → ((p : Scan) → skim p (encode_utf8_all cs) ≡ encode_utf8_all (skim p cs))
    → skim s (encode_utf8 c ++ encode_utf8_all cs) ≡ encode_utf8_all (skim s (c ∷ cs))
large_step (Outside d) c cs h ih =
    large_outside d (encode_utf8 c) (encode_utf8_all cs) (encode_large c h) ∙ ih (Outside d)
    ∙ ap encode_utf8_all (sym (pass_one d c cs (large_passes c h)))
large_step (Quoted d) c cs h ih =
    large_quoted d (encode_utf8 c) (encode_utf8_all cs) (encode_large c h) ∙ ih (Quoted d)
    ∙ ap encode_utf8_all (sym (inner_one d c cs (large_inner c h)))
large_step (Escaped d) c cs h ih =
    large_escaped d (encode_utf8 c) (encode_utf8_all cs) (has_bytes c) (encode_large c h) ∙ ih (Quoted d)

small_step : (o : Option Scan) (s : Scan) (c : ℕ) (cs : List ℕ) → after_byte s c ≡ o → c < 128
    → ((p : Scan) → skim p (encode_utf8_all cs) ≡ encode_utf8_all (skim p cs))
    → skim s (c ∷ encode_utf8_all cs) ≡ encode_utf8_all (skim s (c ∷ cs))
small_step None s c cs e small ih = rw e (sym (ap (λ z. z ++ encode_utf8_all cs) (encode_ascii c small)))
small_step (Some p) s c cs e small ih = rw e (ih p)

pub skim_bytes : (cs : List ℕ) (s : Scan) → skim s (encode_utf8_all cs) ≡ encode_utf8_all (skim s cs)
skim_bytes [] s = refl
skim_bytes (c ∷ cs) s =
    elim (cases_lt c 128) [
      | inl small ↦ ap (λ z. skim s (z ++ encode_utf8_all cs)) (encode_ascii c small)
          ∙ small_step (after_byte s c) s c cs refl small (λ p. skim_bytes cs p)
      | inr large ↦ large_step s c cs large (λ p. skim_bytes cs p)
    ]

-- An element of an array is skipped to the comma or the bracket after it, whatever comes after that: what `item_end`
-- promises, where the bytes are those of the element and what follows.
pub element_ends : (r : Reading) (n : Node) (c : List ℕ) (es : Elements) (t bytes : List ℕ) → IsNode r n
    → IsWhitespace r c → bytes ≡ encode_utf8_all (node_chars n (c ++ elements_chars es t))
    → skim (Outside zero) bytes ≡ encode_utf8_all (elements_chars es t)
element_ends r n c es t bytes h w e =
    ap (skim (Outside zero)) e ∙ skim_bytes (node_chars n (c ++ elements_chars es t)) (Outside zero)
    ∙ ap encode_utf8_all (skim_element r n c es t h w)

-- the same of an entry's value
pub member_ends : (r : Reading) (n : Node) (c : List ℕ) (ms : Members) (t bytes : List ℕ) → IsNode r n
    → IsWhitespace r c → bytes ≡ encode_utf8_all (node_chars n (c ++ members_chars ms t))
    → skim (Outside zero) bytes ≡ encode_utf8_all (members_chars ms t)
member_ends r n c ms t bytes h w e =
    ap (skim (Outside zero)) e ∙ skim_bytes (node_chars n (c ++ members_chars ms t)) (Outside zero)
    ∙ ap encode_utf8_all (skim_member r n c ms t h w)

-- ---- the rest of a string, and whitespace

large_string : (e : Bool) (b : ℕ) (t : List ℕ) → 128 ≤ b → string_rest e (b ∷ t) ≡ string_rest false t
large_string true b t h = refl
large_string false b t h = string_one b t (b == 34) (b == 92) (large_inner b h)

large_strings : (e : Bool) (bs t : List ℕ) → 1 ≤ length bs → AreLarge bs → string_rest e (bs ++ t) ≡ string_rest false t
large_strings e [] t one h = absurd (omega (arith, one))
large_strings e (b ∷ []) t one h = large_string e b t (h 0 (omega arith))
large_strings e (b ∷ d ∷ bs) t one h =
    large_string e b (d ∷ bs ++ t) (h 0 (omega arith))
    ∙ large_strings false (d ∷ bs) t (omega arith) (λ i lt. h (suc i) (omega arith))

small_string : (q e f : Bool) (cs : List ℕ)
    → ((g : Bool) → string_rest g (encode_utf8_all cs) ≡ encode_utf8_all (string_rest g cs))
    → (if not e && q then encode_utf8_all cs else string_rest (not e && f) (encode_utf8_all cs))
    ≡ encode_utf8_all (if not e && q then cs else string_rest (not e && f) cs)
small_string true false f cs ih = refl
small_string false false f cs ih = ih f
small_string q true f cs ih = ih false

pub string_bytes : (cs : List ℕ) (e : Bool) → string_rest e (encode_utf8_all cs) ≡ encode_utf8_all (string_rest e cs)
string_bytes [] e = refl
string_bytes (c ∷ cs) e =
    elim (cases_lt c 128) [
      | inl small ↦ ap (λ z. string_rest e (z ++ encode_utf8_all cs)) (encode_ascii c small)
          ∙ small_string (c == 34) e (c == 92) cs (λ g. string_bytes cs g)
      | inr large ↦ large_strings e (encode_utf8 c) (encode_utf8_all cs) (has_bytes c) (encode_large c large)
          ∙ string_bytes cs false ∙ ap encode_utf8_all (sym (large_string e c cs large))
    ]

pub blank_small : (s : Bool) (c : ℕ) → is_whitespace s c ≡ true → (c < 128) × (is_blank c ≡ true)
blank_small s c h = (grind (arith, nat_tests), grind (arith, nat_tests))

-- whitespace is passed, up to a character that is none
pub blanks_end : (s : Bool) (w : List ℕ) (c : ℕ) (t : List ℕ) → Each (is_whitespace s) w → c < 128
    → is_blank c ≡ false → after_whitespace (encode_utf8_all (w ++ (c ∷ t))) ≡ encode_utf8_all (c ∷ t)
blanks_end s [] c t h small other =
    let e : encode_utf8_all (c ∷ t) ≡ c ∷ encode_utf8_all t = ap (λ z. z ++ encode_utf8_all t) (encode_ascii c small) in
    rw e (rw other refl)
blanks_end s (x ∷ w) c t h small other =
    let b = blank_small s x h.0 in
    let e : encode_utf8_all (x ∷ w ++ (c ∷ t)) ≡ x ∷ encode_utf8_all (w ++ (c ∷ t)) =
    ap (λ z. z ++ encode_utf8_all (w ++ (c ∷ t))) (encode_ascii x b.0) in
    rw e (rw b.1 (blanks_end s w c t h.1 small other))
