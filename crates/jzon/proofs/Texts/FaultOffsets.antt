-- The error for a fault at an offset of a text, from the bytes before and after the offset.
use Rattle.jzon_base.proofs.Common.{◌≡◌, ◌⊎◌, inl, inr, ℕ, ◌+◌, ◌-◌, ◌≤◌, refl, List, [], ◌∷◌, ◌++◌, length, take, drop, get_or, sym}
use Rattle.jzon_base.proofs.Common.{ap, subst, ◌∙◌, arith, take-append-drop, chars, IsUtf8}
use Rattle.jzon_base.proofs.Common.{slice_range, IsCharBoundary, drop-drop, chars-append, IsUtf8-take, IsUtf8-between}
use Rattle.jzon_base.proofs.Common.{get_or-append_seam, take-append_seam}
use Rattle.std.proofs.lemmas.List.{length-append}
use Rattle.jzon_base.specs.declared.error.Error.{Error}
use Rattle.jzon_base.specs.declared.error.Error.TheVariants.{DuplicateKey, InexactNumber}
use Rattle.jzon.specs.Spelling.{deep, pair, digit, duplicate, inexact}
use Rattle.jzon.specs.Fault.{limit, line, column, error_at, reported_offset}
use Rattle.jzon.specs.Private.Machine.{Reports, Outcome, meant, refused, left_at, fault_here}
use Rattle.jzon.specs.Private.Stops.{IsAtBoundary, stop_offset, error_between, reported_error}
use Rattle.jzon.specs.declared.stop.Stop.{Stop}
use Rattle.jzon.specs.declared.stop.Stop.TheVariants.{Limit, Surrogates, At, Duplicate, Inexact}

-- the characters of a text are those before a boundary and those after it
pub chars_split : (bs : List ℕ) (i : ℕ) → IsUtf8 bs → IsCharBoundary bs i
    → chars bs ≡ chars (take i bs) ++ chars (drop i bs)
chars_split bs i u at = ap chars (sym (take-append-drop i bs))
    ∙ chars-append (take i bs) (drop i bs) (IsUtf8-take bs i u at)

-- the number of characters before a boundary
pub before_boundary : (bs : List ℕ) (i : ℕ) → IsUtf8 bs → IsCharBoundary bs i
    → length (chars (take i bs)) ≡ length (chars bs) - left_at bs i
before_boundary bs i u at =
    omega (arith, ap length (chars_split bs i u at), length-append (chars (take i bs)) (chars (drop i bs)))

-- a fault that is reported where it is, with the rest of the text from there on
pub reports_limit : (bs : List ℕ) (i : ℕ) (o : Outcome) → IsUtf8 bs → IsCharBoundary bs i
    → (o ≡ refused (limit deep) (chars (drop i bs))) ⊎ (o ≡ refused (limit digit) (chars (drop i bs)))
    → Reports bs (Limit i) o
reports_limit bs i o u at (inl q) = subst (Reports bs (Limit i)) (sym q) (at, refl, before_boundary bs i u at)
reports_limit bs i o u at (inr q) = subst (Reports bs (Limit i)) (sym q) (at, refl, before_boundary bs i u at)

pub reports_pair : (bs : List ℕ) (i : ℕ) (o : Outcome) → IsUtf8 bs → IsCharBoundary bs i
    → o ≡ refused (limit pair) (chars (drop i bs)) → Reports bs (Surrogates i) o
reports_pair bs i o u at q = subst (Reports bs (Surrogates i)) (sym q) (at, refl, before_boundary bs i u at)

-- the characters before a boundary, by their number
pub prefix_at : (bs : List ℕ) (i n : ℕ) → IsUtf8 bs → IsCharBoundary bs i → n ≡ length (chars (take i bs))
    → take n (chars bs) ≡ chars (take i bs)
prefix_at bs i n u at e =
    rw (chars_split bs i u at, e) (take-append_seam (chars (take i bs)) (chars (drop i bs)))

pub reports_inexact : (bs : List ℕ) (i : ℕ) (o : Outcome) → IsUtf8 bs → IsCharBoundary bs i
    → o ≡ refused (limit inexact) (chars (drop i bs)) → Reports bs (Inexact i) o
reports_inexact bs i o u at q =
    let whole = before_boundary bs i u at in
    let prefix = prefix_at bs i (length (chars bs) - left_at bs i) u at (sym whole) in
    subst (Reports bs (Inexact i)) (sym q) (at, ap (λ f. InexactNumber (line f) (column f)) (sym prefix), whole)

-- the error, and the number of characters before its offset, are those of this outcome of a text
abbrev Tells : List ℕ → ℕ → Error → Outcome → Type 0
Tells t n e (meant v) = ⊥
Tells t n e (refused f rest) = (e ≡ error_at t (length t - length rest) f)
    × (n ≡ reported_offset (length t - length rest) f)

tells_between : (f rest : List ℕ) → Tells (f ++ rest) (length f) (error_between f rest) (fault_here rest)
tells_between f [] = (refl, omega (arith, length-append f []))
tells_between f (c ∷ rest) =
    let n : length (f ++ (c ∷ rest)) - length (c ∷ rest) ≡ length f = omega (arith, length-append f (c ∷ rest)) in
    let here : get_or (f ++ (c ∷ rest)) (length f) 0 ≡ c = get_or-append_seam f c rest 0 in
    let prefix : take (length f) (f ++ (c ∷ rest)) ≡ f = take-append_seam f (c ∷ rest) in
    (rw (n, here, prefix) refl, sym n)

reports_by : (bs : List ℕ) (e : Stop) (o : Outcome) → IsAtBoundary bs e
    → Tells (chars bs) (length (chars (take (stop_offset e) bs))) (reported_error bs e) o → Reports bs e o
reports_by bs e (meant v) at h = h
reports_by bs e (refused f rest) at h = (at, h.0, h.1)

pub reports_at : (bs : List ℕ) (i : ℕ) → IsUtf8 bs → IsCharBoundary bs i
    → Reports bs (At i) (fault_here (chars (drop i bs)))
reports_at bs i u at = reports_by bs (At i) (fault_here (chars (drop i bs))) at
    (subst (λ t. Tells t (length (chars (take i bs))) (error_between (chars (take i bs)) (chars (drop i bs)))
    (fault_here (chars (drop i bs))))
    (sym (chars_split bs i u at)) (tells_between (chars (take i bs)) (chars (drop i bs))))

-- the rest from an offset on is the characters between and the rest after them
left_after : (bs : List ℕ) (i j : ℕ) → IsUtf8 bs → IsCharBoundary bs i → IsCharBoundary bs j → i ≤ j
    → left_at bs j ≤ left_at bs i
left_after bs i j u from to le =
    let run : List ℕ = slice_range bs i j in
    let n : i + (j - i) ≡ j = omega arith in
    let same : run ≡ take (j - i) (drop i bs) = refl in
    let split : drop i bs ≡ run ++ drop j bs =
    sym (take-append-drop (j - i) (drop i bs)) ∙ ap (λ z. run ++ z) (drop-drop (j - i) i bs ∙ ap (λ k. drop k bs) n) in
    let text : IsUtf8 run = IsUtf8-between bs i j u le from to in
    let whole = chars-append run (drop j bs) text in
    rw split (omega (arith, ap length whole, length-append (chars run) (chars (drop j bs))))

-- a repeated key is reported at its opening quote, at offset i
pub reports_duplicate : (bs : List ℕ) (i j : ℕ) → IsUtf8 bs → IsCharBoundary bs i → IsCharBoundary bs j → i ≤ j
    → Reports bs (Duplicate i)
    (refused (limit (duplicate (left_at bs i - left_at bs j))) (chars (drop j bs)))
reports_duplicate bs i j u from to le =
    let whole : length (chars bs) ≡ length (chars (take i bs)) + left_at bs i = ap length (chars_split bs i u from)
    ∙ length-append (chars (take i bs)) (chars (drop i bs)) in
    let at : length (chars bs) - left_at bs j - (left_at bs i - left_at bs j)
    ≡ length (chars (take i bs)) = omega (arith, whole, left_after bs i j u from to le) in
    let prefix = prefix_at bs i (length (chars bs) - left_at bs j - (left_at bs i - left_at bs j)) u from at in
    (from, ap (λ f. DuplicateKey (line f) (column f)) (sym prefix), sym at)
