-- How long a stranger's text is at most where it is cut.
use Rattle.std.proofs.Common.{◌≡◌, ◌≤◌, ◌<◌, ◌+◌, ◌-◌, ◌*◌, ℕ, suc, List, [], ◌∷◌, ◌++◌, Bool, true, false, not, ◌&&◌, if◌then◌else◌, nat_le, length, min, max, take}
use Rattle.std.proofs.Common.{codes, chars, refl, ap, ◌∙◌, inl, inr, arith, length-append}
use Rattle.std.proofs.lemmas.Bool.{and_parts, cases_lt}
use Rattle.std.proofs.lemmas.Bool.Decides.{nat_tests}
use Rattle.std.proofs.lemmas.List.{length-take}
use Rattle.std.proofs.Math.Nat.{mul-div-le, mul-le-mul_left, mul-suc}
use Rattle.std.specs.List.{list_any}
use Rattle.jzon_pointer.specs.Shown.{cut_text, fitted, fitting, is_hidden, more_text, name_shown, names_text, others_text, piece, pieces}
use Rattle.jzon_pointer.specs.Shown.{pointer_shown, shown_char, shown_text, token_shown, widest, words_shown}

-- ---- the pieces of a text

in-front : (front last i c : ℕ) → i < front → piece front last i c ≡ shown_char c
in-front front last i c h = grind (arith, nat_tests)

in-back : (front last i c : ℕ) → last ≤ i → piece front last i c ≡ shown_char c
in-back front last i c h = grind (arith, nat_tests)

at-dots : (front last i c : ℕ) → i < last → i ≡ front → piece front last i c ≡ codes ".."
at-dots front last i c h k = grind (arith, nat_tests)

left-out : (front last i c : ℕ) → i < last → front < i → piece front last i c ≡ []
left-out front last i c h k = grind (arith, nat_tests)

scaled : (m a b : ℕ) → a ≤ b → m * a ≤ m * b
scaled m a b h = mul-le-mul_left m h

-- how many bytes the characters before `front` may take that come from number i on, and the dots
front_room : ℕ → ℕ → ℕ → ℕ
front_room m front i = m * (front - i) + min 2 (2 * (suc front - i))

-- the same of the last characters, of which there are n from number i on
back_room : ℕ → ℕ → ℕ → ℕ → ℕ
back_room m last i n = m * (i + n - max i last)

front-next : (m front i : ℕ) → i < front → front_room m front i ≡ front_room m front (suc i) + m
unfolding front_room
front-next m front i h =
    let k = front - suc i in
    let is : front - i ≡ suc k = omega arith in
    let more = ap (λ j. m * j) is ∙ mul-suc m k in
    omega (arith, more)

front-left : (m front i : ℕ) → front_room m front (suc i) ≤ front_room m front i
unfolding front_room
front-left m front i =
    let less = scaled m (front - suc i) (front - i) (omega arith) in
    omega (arith, less)

front-dots : (m front i : ℕ) → i ≡ front → front_room m front (suc i) + 2 ≤ front_room m front i
unfolding front_room
front-dots m front i h =
    let less = scaled m (front - suc i) (front - i) (omega arith) in
    omega (arith, less)

back-next : (m last i n : ℕ) → last ≤ i → back_room m last i (suc n) ≡ back_room m last (suc i) n + m
unfolding back_room
back-next m last i n h =
    let k = suc i + n - max (suc i) last in
    let is : i + suc n - max i last ≡ suc k = omega arith in
    ap (λ j. m * j) is ∙ mul-suc m k

back-left : (m last i n : ℕ) → back_room m last (suc i) n ≤ back_room m last i (suc n)
unfolding back_room
back-left m last i n = scaled m (suc i + n - max (suc i) last) (i + suc n - max i last) (omega arith)

pieces-short : (m front last : ℕ) (cs : List ℕ) (i : ℕ) → widest cs ≤ m
    → length (pieces front last i cs) ≤ front_room m front i + back_room m last i (length cs)
pieces-short m front last [] i wide = omega arith
pieces-short m front last (c ∷ cs) i wide =
    let n = length cs in
    let rest = pieces-short m front last cs (suc i) (omega arith) in
    let both = length-append (piece front last i c) (pieces front last (suc i) cs) in
    let narrow : length (shown_char c) ≤ m = omega arith in
    let less = front-left m front i in
    let fewer = back-left m last i n in
    elim (cases_lt i last) [
      | inl before ↦ elim (cases_lt i front) [
        | inl shown ↦ omega (arith, ap length (in-front front last i c shown), front-next m front i shown)
        | inr past ↦ elim (cases_lt front i) [
          | inl hidden ↦ omega (arith, ap length (left-out front last i c before hidden))
          | inr here ↦
              let is : i ≡ front = omega arith in
              let dots : length (codes "..") ≡ 2 = refl in
              omega (arith, ap length (at-dots front last i c before is), front-dots m front i is)
        ]
      ]
      | inr behind ↦ omega (arith, ap length (in-back front last i c behind), back-next m last i n behind)
    ]

front-all : (m front : ℕ) → front_room m front 0 ≤ m * front + 2
unfolding front_room
front-all m front =
    let all = scaled m (front - 0) front (omega arith) in
    omega arith

back-all : (m back n : ℕ) → back_room m (n - back) 0 n ≤ m * back
unfolding back_room
back-all m back n = scaled m (0 + n - max 0 (n - back)) back (omega arith)

-- ---- a text that is cut

cut-short : (front back a b : ℕ) (bytes : List ℕ) → widest (chars bytes) * front ≤ a → widest (chars bytes) * back ≤ b
    → length (cut_text front back bytes) ≤ a + 2 + b
cut-short front back a b bytes before behind =
    let cs = chars bytes in
    let m = widest cs in
    let most = pieces-short m front (length cs - back) cs 0 (omega arith) in
    omega (arith, most, front-all m front, back-all m back (length cs))

fits : (n : ℕ) (bytes : List ℕ) → widest (chars bytes) * fitting n bytes ≤ n
fits n bytes = mul-div-le n (widest (chars bytes))

none : (m : ℕ) → m * 0 ≤ 0
none m = omega arith

few : (k n : ℕ) → nat_le n k ≡ true → n ≤ k
few k n h = grind (arith, nat_tests)

-- what takes at most n bytes, or else k, takes at most k
one_of : (b : Bool) (s t : List ℕ) (n k : ℕ) → n ≤ k → (b ≡ true → length s ≤ n) → length t ≤ k
    → length (if b then s else t) ≤ k
one_of true s t n k less h g = let within = h refl in omega (arith, within)
one_of false s t n k less h g = g

fitted-short : (n front back k : ℕ) (t : List ℕ) → n ≤ k → length (cut_text front back t) ≤ k
    → length (fitted n front back t) ≤ k
fitted-short n front back k t less h =
    one_of (nat_le (length (shown_text t)) n) (shown_text t) (cut_text front back t) n k less
    (few n (length (shown_text t))) h

pub pointer-short : (p : List ℕ) → length (pointer_shown p) ≤ 202
pointer-short p =
    fitted-short 200 (fitting 100 p) (fitting 100 p) 202 p (omega arith)
    (cut-short (fitting 100 p) (fitting 100 p) 100 100 p (fits 100 p) (fits 100 p))

pub words-short : (t : List ℕ) → length (words_shown t) ≤ 202
words-short t =
    one_of (nat_le (length t) 200 && not (list_any is_hidden (chars t))) t (fitted 200 (fitting 200 t) 0 t) 200 202 (omega arith)
    (λ h. few 200 (length t) (and_parts (nat_le (length t) 200) (not (list_any is_hidden (chars t))) h).0)
    (fitted-short 200 (fitting 200 t) 0 202 t (omega arith)
    (cut-short (fitting 200 t) 0 200 0 t (fits 200 t) (none (widest (chars t)))))

pub name-short : (t : List ℕ) → length (name_shown t) ≤ 42
name-short t =
    fitted-short 40 (fitting 40 t) 0 42 t (omega arith)
    (cut-short (fitting 40 t) 0 40 0 t (fits 40 t) (none (widest (chars t))))

pub token-short : (t : List ℕ) → length (token_shown t) ≤ 458
token-short t =
    let m = widest (chars t) in
    let less = scaled m (min (fitting 456 t) 40) (fitting 456 t) (omega arith) in
    let all = fits 456 t in
    cut-short (min (fitting 456 t) 40) 0 456 0 t (omega arith) (none m)

-- ---- names

others-short : (ns : List (List ℕ)) → length (others_text ns) ≤ 44 * length ns
others-short [] = omega arith
others-short (n ∷ ns) =
    let rest = others-short ns in
    let name = name-short n in
    let comma : length (codes ", ") ≡ 2 = refl in
    let one = length-append (codes ", ") (name_shown n) in
    let all = length-append (codes ", " ++ name_shown n) (others_text ns) in
    omega arith

more-few : (ns : List (List ℕ)) → length ns ≤ 7 → more_text ns ≡ others_text ns
more-few ns h = grind (arith, nat_tests)

more-many : (ns : List (List ℕ)) → 7 < length ns → more_text ns ≡ others_text (take 7 ns) ++ codes ", .."
more-many ns h = grind (arith, nat_tests)

more-short : (ns : List (List ℕ)) → length (more_text ns) ≤ 312
more-short ns = elim (cases_lt 7 (length ns)) [
  | inl many ↦
      let seven = length-take 7 ns in
      let shown = others-short (take 7 ns) in
      let dots : length (codes ", ..") ≡ 4 = refl in
      let all = length-append (others_text (take 7 ns)) (codes ", ..") in
      omega (arith, ap length (more-many ns many))
  | inr few ↦ omega (arith, ap length (more-few ns few), others-short ns)
]

pub names-short : (ns : List (List ℕ)) → length (names_text ns) ≤ 354
names-short [] =
    let none : length (codes "none") ≡ 4 = refl in
    omega arith
names-short (n ∷ ns) =
    let first = name-short n in
    let more = more-short ns in
    let all = length-append (name_shown n) (more_text ns) in
    omega arith
