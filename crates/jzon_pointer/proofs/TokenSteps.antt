-- The text of a pointer, a token at a time.
use Rattle.std.proofs.Common.{◌≡◌, ◌≢◌, ℕ, suc, ◌<◌, List, [], ◌∷◌, ◌++◌, length, get_or, Bool, true, false, ◌==◌, if◌then◌else◌, Option, None, Some, option_map}
use Rattle.std.proofs.Common.{refl, sym, ap, ◌∙◌, arith, append_assoc, append-nil, ne_eqb}
use Rattle.std.proofs.Common.{Bor, drop, take, subst}
use Rattle.std.proofs.lemmas.List.{take-append-drop}
use Rattle.std.proofs.lemmas.Iterator.Adapters.{option_map_id}
use Rattle.std.proofs.lemmas.Str.Pattern.{NoCharPasses-char, drop_at_char}
use Rattle.std.specs.Option.{MatchOption}
use Rattle.std.specs.Str.Pattern.{RFindsChar, SplitsAroundMatch}
use Rattle.jzon_pointer.specs.Pointer.{tokens_after, tokens_in, tokens_of, token_key, after_tilde}

-- no byte of it is this one
abbrev pub Lacks : ℕ → List ℕ → Type 0
Lacks c xs = (i : ℕ) → i < length xs → get_or xs i 0 ≢ c

after-part : (t xs rest : List ℕ) → Lacks 47 xs → tokens_after t (xs ++ rest) ≡ tokens_after (t ++ xs) rest
after-part t [] rest h = rw append-nil
after-part t (x ∷ xs) rest h =
    rw (ne_eqb x 47 (h 0 (omega arith)))
    (after-part (t ++ x ∷ []) xs rest (λ i less. h (suc i) (omega arith)) ∙ rw append_assoc)

pub tokens-first : (xs rest : List ℕ) → Lacks 47 xs → tokens_in (xs ++ 47 ∷ rest) ≡ xs ∷ tokens_in rest
tokens-first xs rest h = after-part [] xs (47 ∷ rest) h

pub tokens-only : (xs : List ℕ) → Lacks 47 xs → tokens_in xs ≡ xs ∷ []
tokens-only xs h = ap (λ l. tokens_in l) (sym (append-nil xs)) ∙ after-part [] xs [] h

after-last_by : (b : Bool) (t : List ℕ) (l : List ℕ) (xs ys zs ws : List (List ℕ))
    → xs ≡ zs ++ l ∷ [] → ys ≡ ws ++ l ∷ []
    → (if b then t ∷ xs else ys) ≡ (if b then t ∷ zs else ws) ++ l ∷ []
after-last_by true t l xs ys zs ws h g = ap (λ ts. t ∷ ts) h
after-last_by false t l xs ys zs ws h g = g

after-last : (t xs last : List ℕ) → Lacks 47 last
    → tokens_after t (xs ++ 47 ∷ last) ≡ tokens_after t xs ++ last ∷ []
after-last t [] last h = ap (λ ts. t ∷ ts) (tokens-only last h)
after-last t (x ∷ xs) last h =
    after-last_by (x == 47) t last _ _ _ _ (after-last [] xs last h) (after-last (t ++ x ∷ []) xs last h)

tokens-parent_by : (b : Bool) (cs last : List ℕ) (ts : List (List ℕ)) → Lacks 47 last
    → (if b then Some (tokens_in cs) else None) ≡ Some ts
    → (if b then Some (tokens_in (cs ++ 47 ∷ last)) else None) ≡ Some (ts ++ last ∷ [])
tokens-parent_by true cs last ts h e =
    let same : tokens_in cs ≡ ts = cc in
    ap (λ us. Some us) (after-last [] cs last h) ∙ ap (λ us. Some (us ++ last ∷ [])) same
tokens-parent_by false cs last ts h e = absurd (cc)

-- a pointer's tokens are those of its parent, and the last one
pub tokens-parent : (parent last : List ℕ) (ts : List (List ℕ)) → Lacks 47 last → tokens_of parent ≡ Some ts
    → tokens_of (parent ++ 47 ∷ last) ≡ Some (ts ++ last ∷ [])
tokens-parent [] last ts h e =
    let none : [] ≡ ts = cc in
    ap (λ us. Some us) (tokens-only last h) ∙ ap (λ us. Some (us ++ last ∷ [])) none
tokens-parent (c ∷ cs) last ts h e = tokens-parent_by (c == 47) cs last ts h e

pub no_slash : (xs : List ℕ) → 0 < length xs → ((rest : List ℕ) → xs ≢ 47 ∷ rest) → tokens_of xs ≡ None
no_slash [] some h = absurd (omega arith)
no_slash (x ∷ xs) some h = rw (ne_eqb x 47 (λ e. h xs (ap (λ y. y ∷ xs) e)))

-- ---- escapes

pub token_key-plain : (xs : List ℕ) → Lacks 126 xs → token_key xs ≡ Some xs
token_key-plain [] h = refl
token_key-plain (x ∷ xs) h =
    rw (ne_eqb x 126 (h 0 (omega arith)))
    (ap (option_map (λ k. x ∷ k)) (token_key-plain xs (λ i less. h (suc i) (omega arith))))

one_before : (x : ℕ) (xs : List ℕ) (o : Option (List ℕ))
    → option_map (λ k. x ∷ k) (option_map (λ k. xs ++ k) o) ≡ option_map (λ k. (x ∷ xs) ++ k) o
one_before x xs None = refl
one_before x xs (Some k) = refl

pub token_key-part : (xs rest : List ℕ) → Lacks 126 xs
    → token_key (xs ++ rest) ≡ option_map (λ k. xs ++ k) (token_key rest)
token_key-part [] rest h = sym (option_map_id (token_key rest))
token_key-part (x ∷ xs) rest h =
    rw (ne_eqb x 126 (h 0 (omega arith)))
    (ap (option_map (λ k. x ∷ k)) (token_key-part xs rest (λ i less. h (suc i) (omega arith)))
    ∙ one_before x xs (token_key rest))

-- a key so far, then bytes without `~`, then the byte of an escape
pub escape-after : (a b : List ℕ) (c : ℕ) (o : Option (List ℕ))
    → option_map (λ k. a ++ k) (option_map (λ k. b ++ k) (option_map (λ k. c ∷ k) o))
    ≡ option_map (λ k. ((a ++ b) ++ c ∷ []) ++ k) o
escape-after a b c None = refl
escape-after a b c (Some k) = ap (λ l. Some l) (sym (rw (append_assoc, append_assoc) refl))

pub bad-escape : (xs : List ℕ) → ((rest : List ℕ) → xs ≢ 48 ∷ rest) → ((rest : List ℕ) → xs ≢ 49 ∷ rest)
    → after_tilde xs ≡ None
bad-escape [] h i = refl
bad-escape (x ∷ xs) h i =
    rw (ne_eqb x 48 (λ e. h xs (ap (λ y. y ∷ xs) e)), ne_eqb x 49 (λ e. i xs (ap (λ y. y ∷ xs) e)))

-- a key so far, once bytes without `~` and an escape are read
pub escape-read : (t key rest plain after more made : List ℕ) (c : ℕ)
    → token_key t ≡ option_map (λ k. key ++ k) (token_key rest) → rest ≡ plain ++ 126 ∷ after → Lacks 126 plain
    → after_tilde after ≡ option_map (λ k. c ∷ k) (token_key more) → made ≡ (key ++ plain) ++ c ∷ []
    → token_key t ≡ option_map (λ k. made ++ k) (token_key more)
escape-read t key rest plain after more made c so_far cut lacks escape is =
    so_far ∙ ap (λ cs. option_map (λ k. key ++ k) (token_key cs)) cut
    ∙ ap (option_map (λ k. key ++ k))
    (token_key-part plain (126 ∷ after) lacks ∙ ap (option_map (λ k. plain ++ k)) escape)
    ∙ escape-after key plain c (token_key more)
    ∙ ap (λ l. option_map (λ k. l ++ k) (token_key more)) (sym is)

pub escape-refused : (t key rest plain after : List ℕ)
    → token_key t ≡ option_map (λ k. key ++ k) (token_key rest) → rest ≡ plain ++ 126 ∷ after → Lacks 126 plain
    → after_tilde after ≡ None → token_key t ≡ None
escape-refused t key rest plain after so_far cut lacks none =
    so_far ∙ ap (λ cs. option_map (λ k. key ++ k) (token_key cs)) cut
    ∙ ap (option_map (λ k. key ++ k))
    (token_key-part plain (126 ∷ after) lacks ∙ ap (option_map (λ k. plain ++ k)) none)

-- ---- the last slash

pub last-parts : (c : ℕ) (bs : List ℕ) (r : Option (Bor (List ℕ) × Bor (List ℕ)))
    → MatchOption r (RFindsChar c bs None)
    (λ x. SplitsAroundMatch (RFindsChar c) bs x.0.now x.1.now) → c < 128
    → MatchOption r (Lacks c bs) (λ x. (bs ≡ x.0.now ++ c ∷ x.1.now) × Lacks c x.1.now)
last-parts c bs None h small = λ i less. NoCharPasses-char c bs i h small less
last-parts c bs (Some x) h small =
    let (i, j, finds, before, after, apart, front, back) = h in (
      sym (take-append-drop i bs) ∙ ap (λ l. take i bs ++ l) (drop_at_char c bs i j finds.1 small)
          ∙ ap (λ l. l ++ c ∷ drop j bs) (sym before) ∙ ap (λ l. x.0.now ++ c ∷ l) (sym after),
      subst (Lacks c) (sym after) (λ k less. NoCharPasses-char c (drop j bs) k finds.0 small less),
    )
