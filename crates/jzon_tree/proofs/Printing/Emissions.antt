-- The effect of several hooks, one after the other.
use Rattle.jzon_base.proofs.Common.{◌≡◌, ℕ, suc, ◌+◌, ◌-◌, List, [], ◌∷◌, ◌++◌, refl, sym, ap, subst, ◌∙◌, append_assoc}
use Rattle.jzon_base.proofs.Common.{append-nil, add-one, ⊤, Result, Ok, Err, arith, Option, MatchResult, IsErr}
use Rattle.jzon_tree.proofs.Printing.Appends.{adds_same, adds_then, adds_weaker, Sends-laid}
use Rattle.jzon_tree.specs.Generator.{Adds, Begins, Just, Sends, Emitted, Added, Failed, Stopped, Emits, Counts, noted}
use Rattle.jzon_tree.specs.Private.Printing.{IsClosing, PrintsIf}
use Rattle.jzon_tree.specs.Writing.{Style}

pub Added-nothing : (P : List ℕ → Type 0) (e : Emitted) → P [] → Added P e e
Added-nothing P e p = record { bytes = adds_same P e.out p; dent = refl; faults = refl; style = refl; lender = refl }

-- two calls in sequence, with known bytes for both together
module _ (P R : List ℕ → Type 0) (a b c : Emitted) (h : Added P a b) where
  pub Added-chain : (Q : List ℕ → Type 0) → Added Q b c → Adds R a.out c.out → Added R a c
  Added-chain Q k bytes = record {
    bytes = bytes;
    dent = k.dent ∙ h.dent;
    faults = k.faults ∙ h.faults;
    style = k.style ∙ h.style;
    lender = k.lender ∙ h.lender;
  }

  pub Failed-chain : (Q : List ℕ → Type 0) → Failed Q b c → Adds (Begins R) a.out c.out → Failed R a c
  Failed-chain Q k bytes = record {
    bytes = bytes;
    dent = k.dent ∙ h.dent;
    faults = k.faults ∙ ap noted h.faults;
    style = k.style ∙ h.style;
    lender = k.lender ∙ h.lender;
  }

at_style : (Q : Style → ℕ → List ℕ → Type 0) {s t : Style} {m n : ℕ} → s ≡ t → m ≡ n → (x : List ℕ) → Q s m x → Q t n x
at_style Q {s} {t} {m} {n} es en x q = subst (λ k. Q t k x) en (subst (λ k. Q k m x) es q)

-- two calls in sequence; the second writes by the style and the indents that the first leaves
module _ (P : List ℕ → Type 0) (Q : Style → ℕ → List ℕ → Type 0) (R : List ℕ → Type 0) (a b c : Emitted)
    (join : (x y : List ℕ) → P x → Q a.style a.dent y → R (x ++ y)) (h : Added P a b) where
  join_begins : (x y : List ℕ) → P x → Begins (Q b.style b.dent) y → Begins R (x ++ y)
  join_begins x y p (z, q) = (z, rw append_assoc (join x (y ++ z) p (at_style Q h.style h.dent (y ++ z) q)))

  pub Added-after : Added (Q b.style b.dent) b c → Added R a c
  Added-after k =
      Added-chain P R a b c h (Q b.style b.dent) k (adds_then P (Q b.style b.dent) R a.out b.out c.out
      (λ x y p q. join x y p (at_style Q h.style h.dent y q)) h.bytes k.bytes)

  pub Failed-after : Failed (Q b.style b.dent) b c → Failed R a c
  Failed-after k = Failed-chain P R a b c h (Q b.style b.dent) k
      (adds_then P (Begins (Q b.style b.dent)) (Begins R) a.out b.out c.out join_begins h.bytes k.bytes)

  pub Stopped-after : Stopped (Q b.style b.dent) b c → Stopped R a c
  Stopped-after k = record {
    bytes = adds_then P (Begins (Q b.style b.dent)) (Begins R) a.out b.out c.out join_begins h.bytes k.bytes;
    dent = rw (sym h.dent) k.dent;
    faults = k.faults ∙ ap noted h.faults;
    style = k.style ∙ h.style;
    lender = k.lender ∙ h.lender;
  }

  pub Emits-after : {E : Type 0} (r : Result (Unit {0}) E) → Emits (Q b.style b.dent) b c r → Emits R a c r
  Emits-after (Ok u) k = Added-after k
  Emits-after (Err e) k = Failed-after k

  pub PrintsIf-after : {E : Type 0} (K : Type 0) (r : Result (Unit {0}) E) → PrintsIf K (Q b.style b.dent) b c r
      → PrintsIf K R a c r
  PrintsIf-after K (Ok u) k = Added-after k
  PrintsIf-after K (Err e) k = λ keyed. Stopped-after (k keyed)

-- three calls in sequence
module _ (P Q R S : List ℕ → Type 0) (a b c d : Emitted) (h : Added P a b) (j : Added Q b c) where
  pub Added-chained : Added S c d → Adds R a.out d.out → Added R a d
  Added-chained k bytes =
      let any = adds_then Q S (λ _. ⊤) b.out c.out d.out (λ x y p q. tt) j.bytes k.bytes in
      Added-chain P R a b d h (λ _. ⊤) (Added-chain Q (λ _. ⊤) b c d j S k any) bytes

  pub Failed-chained : Failed S c d → Adds (Begins R) a.out d.out → Failed R a d
  Failed-chained k bytes =
      let any = adds_then Q (Begins S) (Begins (λ _. ⊤)) b.out c.out d.out (λ x y p q. ([], tt)) j.bytes k.bytes in
      Failed-chain P R a b d h (λ _. ⊤) (Failed-chain Q (λ _. ⊤) b c d j S k any) bytes

-- a fault, where more bytes would have followed
module _ (P R : List ℕ → Type 0) (a b : Emitted) (more : (x : List ℕ) → P x → Begins R x) where
  more_begins : (x : List ℕ) → Begins P x → Begins R x
  more_begins x (y, p) = (y ++ (more (x ++ y) p).0, rw (sym (append_assoc x y (more (x ++ y) p).0)) (more (x ++ y) p).1)

  pub Failed-begins : Failed P a b → Failed R a b
  Failed-begins h = Failed-chain (λ _. ⊤) R a a b (Added-nothing (λ _. ⊤) a tt) P h
      (adds_weaker (Begins P) (Begins R) a.out b.out more_begins h.bytes)

  pub Stopped-begins : Stopped P a b → Stopped R a b
  Stopped-begins h = record {
    bytes = adds_weaker (Begins P) (Begins R) a.out b.out more_begins h.bytes;
    dent = h.dent;
    faults = h.faults;
    style = h.style;
    lender = h.lender;
  }

pub Stopped-failed : (P : List ℕ → Type 0) (a b : Emitted) → Failed P a b → Stopped P a b
Stopped-failed P a b h =
    record { bytes = h.bytes; dent = rw h.dent (omega arith); faults = h.faults; style = h.style; lender = h.lender }

pub Emits-at_err : {E : Type 0} (P : List ℕ → Type 0) (a b : Emitted) (r : Result (Unit {0}) E) → IsErr r → Failed P a b
    → Emits P a b r
Emits-at_err P a b (Ok u) h k = absurd (cc h)
Emits-at_err P a b (Err e) h k = k

pub PrintsIf-at_err : {E : Type 0} (K : Type 0) (P : List ℕ → Type 0) (a b : Emitted) (r : Result (Unit {0}) E)
    → IsErr r → (K → Stopped P a b) → PrintsIf K P a b r
PrintsIf-at_err K P a b (Ok u) h k = absurd (cc h)
PrintsIf-at_err K P a b (Err e) h k = k

pub PrintsIf-just : {E : Type 0} (K : Type 0) (P : List ℕ → Type 0) (bs : List ℕ) (a b : Emitted)
    (r : Result (Unit {0}) E) → P bs → Emits (Just bs) a b r → PrintsIf K P a b r
PrintsIf-just K P bs a b (Ok u) p h = Added-chain (λ _. ⊤) P a a b (Added-nothing (λ _. ⊤) a tt) (Just bs) h
    (adds_weaker (Just bs) P a.out b.out (λ x e. rw e p) h.bytes)
PrintsIf-just K P bs a b (Err u) p h = λ keyed. Stopped-failed P a b
    (Failed-begins (Just bs) P a b (λ x e. ([], rw (append-nil x, e) p)) h)

PrintsIf-emits : {E : Type 0} (K : Type 0) (P : List ℕ → Type 0) (a b : Emitted) (r : Result (Unit {0}) E)
    → Emits P a b r → PrintsIf K P a b r
PrintsIf-emits K P a b (Ok u) h = h
PrintsIf-emits K P a b (Err e) h = λ keyed. Stopped-failed P a b h

-- ---- an opening bracket, an indent, what Q allows inside, and the closing bracket
module _ (opening closing : ℕ) (Q : Style → ℕ → List ℕ → Type 0) (R : List ℕ → Type 0) (a : Emitted)
    (close : (y z : List ℕ) → Q a.style (suc a.dent) y → IsClosing a.style a.dent closing z → R (opening ∷ (y ++ z)))
  where
    -- if writing stops before the closing bracket, texts of the inside and of the close are required, so that the bytes
    -- are a prefix of some whole text
    module _ (inner : (y : List ℕ) × Q a.style (suc a.dent) y) (end : (z : List ℕ) × IsClosing a.style a.dent closing z)
      where
        closed_after : (x : List ℕ) → Just (opening ∷ []) x → Begins R x
        closed_after x e = (inner.0 ++ end.0, rw e (close inner.0 end.0 inner.1 end.1))

        pub stopped_at_opening : (b : Emitted) → Failed (Just (opening ∷ [])) a b → Stopped R a b
        stopped_at_opening b h = Stopped-failed R a b (Failed-begins (Just (opening ∷ [])) R a b closed_after h)

        pub stopped_at_indent : (b c : Emitted) → Added (Just (opening ∷ [])) a b
            → c ≡ record b { faults = noted b.faults }
            → Stopped R a c
        stopped_at_indent b c h e = rw e (record {
          bytes = adds_weaker (Just (opening ∷ [])) (Begins R) a.out b.out
              closed_after h.bytes;
          dent = rw h.dent (omega arith);
          faults = ap noted h.faults;
          style = h.style;
          lender =
              h.lender;
        })

    module _ (b c d : Emitted) (h : Added (Just (opening ∷ [])) a b) (e : c ≡ record b { dent = b.dent + 1 }) where
      style_within : c.style ≡ a.style
      style_within = ap (λ s. s.style) e ∙ h.style

      lender_within : c.lender ≡ a.lender
      lender_within = ap (λ s. s.lender) e ∙ h.lender

      dent_within : c.dent ≡ suc a.dent
      dent_within = ap (λ s. s.dent) e ∙ ap (λ n. n + 1) h.dent ∙ add-one a.dent

      faults_within : c.faults ≡ a.faults
      faults_within = ap (λ s. s.faults) e ∙ h.faults

      pub stopped_inside : ((z : List ℕ) × IsClosing a.style a.dent closing z) → Stopped (Q c.style c.dent) c d
          → Stopped R a d
      stopped_inside end k = record {
        bytes = adds_then (Just (opening ∷ [])) (Begins (Q c.style c.dent)) (Begins R) a.out b.out d.out
            (λ x y p (z, q). (
              z ++ end.0,
              rw (p, sym (append_assoc y z end.0))
                  (close (y ++ z) end.0 (at_style Q style_within dent_within (y ++ z) q) end.1),
            ))
            h.bytes (rw (ap (λ s. s.out) e) at k.bytes);
        dent = let w : c.dent ≡ suc a.dent = dent_within in omega (arith, k.dent);
        faults = k.faults ∙ ap noted faults_within;
        style = k.style ∙ style_within;
        lender = k.lender ∙ lender_within;
      }

      -- the bracket, and what Q allows inside
      opened : List ℕ → Type 0
      opened w = (y : List ℕ) × Q a.style (suc a.dent) y × (w ≡ opening ∷ y)

      opened_then : (x y : List ℕ) → Just (opening ∷ []) x → Q c.style c.dent y → opened (x ++ y)
      unfolding opened
      opened_then x y p q = (y, at_style Q style_within dent_within y q, ap (λ w. w ++ y) p)

      opened_ends : (x z : List ℕ) → opened x → IsClosing a.style a.dent closing z → R (x ++ z)
      unfolding opened
      opened_ends x z (y, q, e') j = rw e' (close y z q j)

      pub printed_at_close : {E : Type 0} (K : Type 0) (f : Emitted) (r : Result (Unit {0}) E)
          → Added (Q c.style c.dent) c d → Emits (IsClosing d.style (d.dent - 1) closing)
          (record d { dent = d.dent - 1 })
          f r → PrintsIf K R a f r
      printed_at_close K f r k j = PrintsIf-after opened (λ st n. IsClosing st n closing) R a
          (record d { dent = d.dent - 1 }) f opened_ends
          (record {
            bytes = adds_then (Just (opening ∷ [])) (Q c.style c.dent) opened a.out b.out d.out opened_then h.bytes
                (rw (ap (λ s. s.out) e) at k.bytes);
            dent = let w : c.dent ≡ suc a.dent = dent_within in let v : d.dent ≡ c.dent = k.dent in omega arith;
            faults = k.faults ∙ faults_within;
            style = k.style ∙ style_within;
            lender = k.lender ∙ lender_within;
          }) K r (PrintsIf-emits K _ _ _ r j)

-- ---- bytes that a style allows, sent to the writer of old
pub Added-sent : (P : List ℕ → Type 0) (bs : List ℕ) (old : Emitted) (o : Option (List ℕ)) → P bs
    → Adds (Just bs) old.out o → Added P old (record old { out = o })
Added-sent P bs old o p h =
    let bytes = adds_weaker (Just bs) P old.out o (λ x e. rw e p) h in
    record { bytes = bytes; dent = refl; faults = refl; style = refl; lender = refl }

pub Failed-sent : (P : List ℕ → Type 0) (bs : List ℕ) (old new : Emitted) (o : Option (List ℕ)) → P bs
    → Adds (Begins (Just bs)) old.out o → new ≡ record old { out = o; faults = noted old.faults } → Failed P old new
Failed-sent P bs old new o p h e =
    let bytes = adds_weaker (Begins (Just bs)) (Begins P) old.out o (λ x (y, k). (y, rw k p)) h in
    rw e (record { bytes = bytes; dent = refl; faults = refl; style = refl; lender = refl })

-- ---- what was sent to the writer, with its error counted as a fault
pub Emits-counted : {E : Type 0} (P : List ℕ → Type 0) (bs : List ℕ) (old mid new : Emitted) (lent o : Option (List ℕ))
    (step r : Result (Unit {0}) E)
    → P bs → lent ≡ old.out → Sends (Just bs) lent o step → mid ≡ record old { out = o } → r ≡ step
    → Counts step mid new → Emits P old new r
Emits-counted P bs old mid new lent o (Ok u) r p l h m e k = rw (e, k, m)
    (Added-sent P bs old o p (subst (λ x. Adds (Just bs) x o) l h))
Emits-counted P bs old mid new lent o (Err u) r p l h m e k = rw e
    (Failed-sent P bs old new o p (subst (λ x. Adds (Begins (Just bs)) x o) l h) (rw m at k))

-- the same with the error stored in the error slot
pub Emits-handed : {E F : Type 0} (P : List ℕ → Type 0) (bs : List ℕ) (old mid new : Emitted) (lent o : Option (List ℕ))
    (step : Result (Unit {0}) F) (answer r : Result (Unit {0}) E)
    → P bs → lent ≡ old.out → Sends (Just bs) lent o step → MatchResult step (λ u. answer ≡ Ok u) (λ _. IsErr answer)
    → mid ≡ record old { out = o } → r ≡ answer → Counts answer mid new → Emits P old new r
Emits-handed P bs old mid new lent o step answer r p l h s =
    Emits-counted P bs old mid new lent o answer r p l (Sends-laid (Just bs) lent o step answer s h)

-- ---- the result of a call, from what is left of it once its error was stored
pub stored_ok : {A E F : Type 0} (r : Result A E) (s : Result A F) (x : A) → s ≡ Ok x
    → MatchResult r (λ y. s ≡ Ok y) (λ _. IsErr s) → r ≡ Ok x
stored_ok (Ok y) s x k h = cc
stored_ok (Err e) (Ok z) x k h = absurd (cc h)
stored_ok (Err e) (Err f) x k h = absurd (cc k)

pub stored_err : {A E F : Type 0} (r : Result A E) (s : Result A F) (f : F) → s ≡ Err f
    → MatchResult r (λ y. s ≡ Ok y) (λ _. IsErr s) → (e : E) × (r ≡ Err e)
stored_err (Ok y) s f k h = absurd (cc)
stored_err (Err e) s f k h = (e, refl)

-- the effect of a call whose error was stored
pub Emits-stored : {E F : Type 0} (P : List ℕ → Type 0) (a b : Emitted) (r : Result (Unit {0}) E)
    (s : Result (Unit {0}) F) → MatchResult r (λ x. s ≡ Ok x) (λ _. IsErr s) → Emits P a b r → Emits P a b s
Emits-stored P a b (Ok u) s k h = rw k h
Emits-stored P a b (Err e) s k h = Emits-at_err P a b s k h
