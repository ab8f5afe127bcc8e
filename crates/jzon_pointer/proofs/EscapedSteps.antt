-- The token of a key, a piece at a time.
use Rattle.std.proofs.Common.{◌≡◌, ◌≢◌, ℕ, zero, suc, List, [], ◌∷◌, ◌++◌, refl, sym, ap, ◌∙◌, arith, append_assoc, append-nil, ne_eqb}
use Rattle.std.proofs.Common.{Bool, true, false, ◌==◌, if◌then◌else◌, Some, option_map}
use Rattle.std.proofs.lemmas.Bool.{eqb-true, eqb-false}
use Rattle.jzon_pointer.specs.Escaped.{escaped, slashed, slash_of}
use Rattle.jzon_pointer.specs.Pointer.{tokens_of, token_key}
use Rattle.jzon_pointer.proofs.TokenSteps.{Lacks, tokens-parent}

pub escaped-part : (xs rest : List ℕ) → Lacks 126 xs → escaped (xs ++ rest) ≡ slashed xs ++ escaped rest
escaped-part [] rest h = refl
escaped-part (x ∷ xs) rest h =
    rw (ne_eqb x 126 (h 0 (omega arith)))
    (ap (λ l. slash_of x ++ l) (escaped-part xs rest (λ i less. h (suc i) (omega arith)))
    ∙ sym (append_assoc (slash_of x) (slashed xs) (escaped rest)))

pub escaped-plain : (xs : List ℕ) → Lacks 126 xs → escaped xs ≡ slashed xs
escaped-plain xs h = ap escaped (sym (append-nil xs)) ∙ escaped-part xs [] h ∙ append-nil (slashed xs)

pub slashed-part : (xs rest : List ℕ) → Lacks 47 xs → slashed (xs ++ rest) ≡ xs ++ slashed rest
slashed-part [] rest h = refl
slashed-part (x ∷ xs) rest h =
    rw (ne_eqb x 47 (h 0 (omega arith)))
    (ap (λ l. x ∷ l) (slashed-part xs rest (λ i less. h (suc i) (omega arith))))

pub slashed-plain : (xs : List ℕ) → Lacks 47 xs → slashed xs ≡ xs
slashed-plain xs h = ap slashed (sym (append-nil xs)) ∙ slashed-part xs [] h ∙ append-nil xs

-- a turn of the loop: bytes without `~`, and the escape of a `~`, are written
pub escaped-turn : (text made start rest plain after whole : List ℕ) → text ++ escaped rest ≡ start ++ escaped whole
    → rest ≡ plain ++ 126 ∷ after → Lacks 126 plain → made ≡ (text ++ slashed plain) ++ 126 ∷ 48 ∷ []
    → made ++ escaped after ≡ start ++ escaped whole
escaped-turn text made start rest plain after whole so_far cut lacks is =
    ap (λ l. l ++ escaped after) is ∙ append_assoc (text ++ slashed plain) (126 ∷ 48 ∷ []) (escaped after)
    ∙ append_assoc text (slashed plain) (126 ∷ 48 ∷ escaped after)
    ∙ ap (λ l. text ++ l) (sym (escaped-part plain (126 ∷ after) lacks))
    ∙ ap (λ l. text ++ escaped l) (sym cut) ∙ so_far

pub slashed-turn : (text made start rest plain after whole : List ℕ) → text ++ slashed rest ≡ start ++ slashed whole
    → rest ≡ plain ++ 47 ∷ after → Lacks 47 plain → made ≡ (text ++ plain) ++ 126 ∷ 49 ∷ []
    → made ++ slashed after ≡ start ++ slashed whole
slashed-turn text made start rest plain after whole so_far cut lacks is =
    ap (λ l. l ++ slashed after) is ∙ append_assoc (text ++ plain) (126 ∷ 49 ∷ []) (slashed after)
    ∙ append_assoc text plain (126 ∷ 49 ∷ slashed after)
    ∙ ap (λ l. text ++ l) (sym (slashed-part plain (47 ∷ after) lacks))
    ∙ ap (λ l. text ++ slashed l) (sym cut) ∙ so_far

-- ---- the whole token

lacks_cons : (c x : ℕ) (xs : List ℕ) → x ≢ c → Lacks c xs → Lacks c (x ∷ xs)
lacks_cons c x xs n h zero less = n
lacks_cons c x xs n h (suc i) less = h i (omega arith)

lacks_by : (t s : Bool) (c : ℕ) (es : List ℕ) → (s ≡ false → c ≢ 47) → Lacks 47 es
    → Lacks 47 ((if t then 126 ∷ 48 ∷ [] else (if s then 126 ∷ 49 ∷ [] else c ∷ [])) ++ es)
lacks_by true s c es n h = lacks_cons 47 126 (48 ∷ es) (omega arith) (lacks_cons 47 48 es (omega arith) h)
lacks_by false true c es n h = lacks_cons 47 126 (49 ∷ es) (omega arith) (lacks_cons 47 49 es (omega arith) h)
lacks_by false false c es n h = lacks_cons 47 c es (n refl) h

pub lacks-escaped : (k : List ℕ) → Lacks 47 (escaped k)
lacks-escaped [] = λ i less. absurd (omega arith)
lacks-escaped (c ∷ cs) = lacks_by (c == 126) (c == 47) c (escaped cs) (eqb-false c 47) (lacks-escaped cs)

unescaped_by : (t s : Bool) (c : ℕ) (cs es : List ℕ) → (t ≡ true → c ≡ 126) → (s ≡ true → c ≡ 47)
    → (t ≡ false → (c == 126) ≡ false) → token_key es ≡ Some cs
    → token_key ((if t then 126 ∷ 48 ∷ [] else (if s then 126 ∷ 49 ∷ [] else c ∷ [])) ++ es) ≡ Some (c ∷ cs)
unescaped_by true s c cs es tilde slash other h =
    ap (option_map (λ k. 126 ∷ k)) h ∙ ap (λ (d : ℕ). Some (d ∷ cs)) (sym (tilde refl))
unescaped_by false true c cs es tilde slash other h =
    ap (option_map (λ k. 47 ∷ k)) h ∙ ap (λ (d : ℕ). Some (d ∷ cs)) (sym (slash refl))
unescaped_by false false c cs es tilde slash other h = rw (other refl) (ap (option_map (λ k. c ∷ k)) h)

pub token_key-escaped : (k : List ℕ) → token_key (escaped k) ≡ Some k
token_key-escaped [] = refl
token_key-escaped (c ∷ cs) =
    unescaped_by (c == 126) (c == 47) c cs (escaped cs) (eqb-true c 126) (eqb-true c 47) (λ h. h) (token_key-escaped cs)

-- a pointer with the token of a key after its last
pub pushed-tokens : (old new k : List ℕ) (ts : List (List ℕ)) → new ≡ old ++ 47 ∷ escaped k → tokens_of old ≡ Some ts
    → tokens_of new ≡ Some (ts ++ escaped k ∷ [])
pushed-tokens old new k ts is h = ap tokens_of is ∙ tokens-parent old (escaped k) ts (lacks-escaped k) h

pub ruleset pushing = (token_key-escaped, pushed-tokens)
