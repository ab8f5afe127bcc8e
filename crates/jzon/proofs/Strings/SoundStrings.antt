-- Sound, for strings (`string_on`): if the automaton goes to a value from inside a string, the rest of the text begins
-- with the rest of a string, `Left`, and continues with what is allowed after its closing quote. Shown for one more
-- character, given the statement for the text after it.
use Rattle.jzon_base.proofs.Common.{◌≡◌, ◌⊎◌, ℕ, zero, suc, List, [], ◌∷◌, ◌++◌, length, Bool, true, false, cond}
use Rattle.jzon_base.proofs.Common.{◌&&◌, ◌==◌, None, inl, inr, refl, sym, subst, ap, eqb-true, encode_utf8}
use Rattle.jzon_base.proofs.Common.{encode_utf8_all, append-nil, IsTrue, if◌then◌else◌, is_ascii_hexdigit, fold}
use Rattle.jzon_tree.specs.Value.{Value}
use Rattle.jzon.specs.Reading.{Reading}
use Rattle.jzon.specs.Grammar.{Item, simple, single, double, AreHex, AreItems, IsItem, code_unit, is_surrogate, is_high}
use Rattle.jzon.specs.Grammar.{is_low, is_unescaped, is_simple}
use Rattle.jzon.specs.Grammar as grammar
use Rattle.jzon.specs.Meaning.{item_text, bytes_of, pair_char, unescaped}
use Rattle.jzon.specs.Private.Machine.{Role, StringState, between, after_backslash, code, second, second_backslash, second_code}
use Rattle.jzon.specs.Private.Machine.{string, go, bad, closed_string, after_unit, move_pair, add_hex, move_code}
use Rattle.jzon.specs.Private.Machine.{move_second_code}
use Rattle.jzon.proofs.Texts.Runs.{On, Goes}
use Rattle.jzon.specs.TreeCharacters.{item_chars, items_chars}
use Rattle.jzon.proofs.Strings.CompleteStrings.{bytes-more, bytes-none, bytes-one}

-- Closed bs u: the text u is what may follow a string of these bytes.
module _ (r : Reading) (v : Value) (role : Role) (Closed : List ℕ → List ℕ → Type 0) where
  abbrev S : List ℕ → List ℕ → StringState → Type 0
  S t bs x = Goes r v t (string role bs x)

  -- ---- what is left of a string

  abbrev pub ItemsLeft : List ℕ → List ℕ → Type 0
  ItemsLeft bs t = (is : List Item) × (u : List ℕ) × AreItems is × (t ≡ items_chars is (34 ∷ u))
      × Closed (bs ++ bytes_of is) u

  abbrev SecondCode : List ℕ → ℕ → ℕ → ℕ → List ℕ → Type 0
  SecondCode bs w n u t = (es : List ℕ) × (t' : List ℕ) × AreHex (suc n) es × (t ≡ es ++ t')
      × ItemsLeft (bs ++ encode_utf8_all (if is_high w && is_low (fold add_hex u es)
      then pair_char w (fold add_hex u es) ∷ [] else [])) t'

  abbrev SecondSlash : List ℕ → ℕ → List ℕ → Type 0
  SecondSlash bs w t = (t' : List ℕ) × (t ≡ 117 ∷ t') × SecondCode bs w 3 0 t'

  abbrev Second : List ℕ → ℕ → List ℕ → Type 0
  Second bs w t = (t' : List ℕ) × (t ≡ 92 ∷ t') × SecondSlash bs w t'

  abbrev Coded : List ℕ → ℕ → List ℕ → Type 0
  Coded bs w t = ((is_surrogate w ≡ false) × ItemsLeft (bs ++ encode_utf8 w) t)
      ⊎ (IsTrue (is_surrogate w) × Second bs w t)

  abbrev Code : List ℕ → ℕ → ℕ → List ℕ → Type 0
  Code bs n u t = (es : List ℕ) × (t' : List ℕ) × AreHex (suc n) es × (t ≡ es ++ t') × Coded bs (fold add_hex u es) t'

  abbrev Slash : List ℕ → List ℕ → Type 0
  Slash bs t =
      ((c : ℕ) × (t' : List ℕ) × IsTrue (is_simple c) × (t ≡ c ∷ t') × ItemsLeft (bs ++ encode_utf8 (unescaped c)) t')
      ⊎ ((t' : List ℕ) × (t ≡ 117 ∷ t') × Code bs 3 0 t')

  abbrev pub Left : StringState → List ℕ → List ℕ → Type 0
  Left between bs t = ItemsLeft bs t
  Left after_backslash bs t = Slash bs t
  Left (code n u) bs t = Code bs n u t
  Left (second w) bs t = Second bs w t
  Left (second_backslash w) bs t = SecondSlash bs w t
  Left (second_code w n u) bs t = SecondCode bs w n u t

  -- ---- one more item

  item_more : (i : Item) (bs t : List ℕ) → IsItem i → ItemsLeft (bs ++ encode_utf8_all (item_text i)) t
      → ItemsLeft bs (item_chars i t)
  item_more i bs t ok (is, u, is_ok, e, h) =
      (i ∷ is, u, (ok, is_ok), ap (item_chars i) e, subst (λ b. Closed b u) (sym (bytes-more bs i is)) h)

  -- that means this character
  char_more : (i : Item) (c : ℕ) (bs t : List ℕ) → IsItem i → item_text i ≡ c ∷ [] → ItemsLeft (bs ++ encode_utf8 c) t
      → ItemsLeft bs (item_chars i t)
  char_more i c bs t ok e h = item_more i bs t ok (subst (λ z. ItemsLeft (bs ++ encode_utf8_all z) t) (sym e)
      (subst (λ b. ItemsLeft b t) (sym (bytes-one bs c)) h))

  escaped : (bs cs : List ℕ) → Slash bs cs → ItemsLeft bs (92 ∷ cs)
  unfolding code_unit
  escaped bs cs (inl (c, t, ok, e, h)) = rw e (char_more (simple c) (unescaped c) bs t ok refl h)
  escaped bs cs (inr (t, e, (es, t', ok, f, inl (single_one, h)))) =
      rw (e, f) (char_more (single es) (fold add_hex 0 es) bs t' (ok, single_one) refl h)
  escaped bs cs (inr (t, e, (es, t', ok, f, inr (first, (t1, e1, (t2, e2, (fs, t3, fs_ok, e3, h))))))) =
      rw (e, f, e1, e2, e3) (item_more (double es fs) bs t3 (ok, first, fs_ok) h)

  -- ---- one character

  abbrev Rest : List ℕ → Type 0
  Rest cs = (x : StringState) (bs : List ℕ) → S cs bs x → Left x bs cs

  abbrev Closing : List ℕ → Type 0
  Closing cs = (bs : List ℕ) → On (closed_string r role bs (suc (length cs))) (λ p. Goes r v cs p) → Closed bs cs

  between_on : (a b d : Bool) (bs : List ℕ) (c : ℕ) (cs : List ℕ) → c == 34 ≡ a → c == 92 ≡ b → is_unescaped c ≡ d
      → On (cond a (closed_string r role bs (suc (length cs))) (cond b (go None (string role bs after_backslash))
      (cond d (go None (string role (bs ++ encode_utf8 c) between)) bad))) (λ p. Goes r v cs p)
      → Rest cs → Closing cs → ItemsLeft bs (c ∷ cs)
  between_on true b d bs c cs e f g h ih after =
      ([], cs, tt, rw (eqb-true c 34 e) refl, subst (λ z. Closed z cs) (sym (bytes-none bs)) (after bs h))
  between_on false true d bs c cs e f g h ih after =
      subst (λ z. ItemsLeft bs (z ∷ cs)) (sym (eqb-true c 92 f)) (escaped bs cs (ih after_backslash bs h))
  between_on false false true bs c cs e f g h ih after = char_more (grammar.plain c) c bs cs g refl (ih between _ h)
  between_on false false false bs c cs e f g h ih after = absurd h

  after_backslash_on : (a b : Bool) (bs : List ℕ) (c : ℕ) (cs : List ℕ) → c == 117 ≡ a → is_simple c ≡ b
      → On (cond a (go None (string role bs (code 3 0)))
      (cond b (go None (string role (bs ++ encode_utf8 (unescaped c)) between)) bad))
      (λ p. Goes r v cs p) → Rest cs → Slash bs (c ∷ cs)
  after_backslash_on true b bs c cs e f h ih = inr (cs, ap (λ z. z ∷ cs) (eqb-true c 117 e), ih (code 3 0) bs h)
  after_backslash_on false true bs c cs e f h ih = inl (c, cs, f, refl, ih between _ h)
  after_backslash_on false false bs c cs e f h ih = absurd h

  coded_on : (a : Bool) (w : ℕ) (bs cs : List ℕ) → is_surrogate w ≡ a → Goes r v cs (after_unit a role bs w) → Rest cs
      → Coded bs w cs
  coded_on true w bs cs e h ih = inr (e, ih (second w) bs h)
  coded_on false w bs cs e h ih = inl (e, ih between _ h)

  code_on : (a : Bool) (n u : ℕ) (bs : List ℕ) (c : ℕ) (cs : List ℕ) → is_ascii_hexdigit c ≡ a
      → On (cond a (move_code role bs n u c) bad) (λ p. Goes r v cs p) → Rest cs → Code bs n u (c ∷ cs)
  code_on true zero u bs c cs e h ih =
      (c ∷ [], cs, (e, tt), refl, coded_on (is_surrogate (add_hex u c)) (add_hex u c) bs cs refl h ih)
  code_on true (suc n) u bs c cs e h ih =
      let g = ih (code n (add_hex u c)) bs h in (c ∷ g.0, g.1, (e, g.2), ap (λ z. c ∷ z) g.3, g.4)
  code_on false n u bs c cs e h ih = absurd h

  -- the state y after this character alone
  expected_on : (a : Bool) (x : ℕ) (y : StringState) (bs : List ℕ) (c : ℕ) (cs : List ℕ) → c == x ≡ a
      → On (cond a (go None (string role bs y)) bad) (λ p. Goes r v cs p) → Rest cs
      → (t : List ℕ) × (c ∷ cs ≡ x ∷ t) × Left y bs t
  expected_on true x y bs c cs e h ih = (cs, ap (λ z. z ∷ cs) (eqb-true c x e), ih y bs h)
  expected_on false x y bs c cs e h ih = absurd h

  paired_on : (a : Bool) (w u : ℕ) (bs cs : List ℕ) → On (move_pair a role bs w u) (λ p. Goes r v cs p) → Rest cs
      → ItemsLeft (bs ++ encode_utf8_all (if a then pair_char w u ∷ [] else [])) cs
  paired_on true w u bs cs h ih = subst (λ b. ItemsLeft b cs) (sym (bytes-one bs _)) (ih between _ h)
  paired_on false w u bs cs h ih = subst (λ b. ItemsLeft b cs) (sym (append-nil bs)) (ih between bs h)

  second_code_on : (a : Bool) (w n u : ℕ) (bs : List ℕ) (c : ℕ) (cs : List ℕ) → is_ascii_hexdigit c ≡ a
      → On (cond a (move_second_code role bs w n u c) bad) (λ p. Goes r v cs p) → Rest cs → SecondCode bs w n u (c ∷ cs)
  second_code_on true w zero u bs c cs e h ih =
      (c ∷ [], cs, (e, tt), refl, paired_on (is_high w && is_low (add_hex u c)) w (add_hex u c) bs cs h ih)
  second_code_on true w (suc n) u bs c cs e h ih =
      let g = ih (second_code w n (add_hex u c)) bs h in (c ∷ g.0, g.1, (e, g.2), ap (λ z. c ∷ z) g.3, g.4)
  second_code_on false w n u bs c cs e h ih = absurd h

  pub string_on : (x : StringState) (bs : List ℕ) (c : ℕ) (cs : List ℕ) → S (c ∷ cs) bs x → Rest cs → Closing cs
      → Left x bs (c ∷ cs)
  string_on between bs c cs h ih after =
      between_on (c == 34) (c == 92) (is_unescaped c) bs c cs refl refl refl h ih after
  string_on after_backslash bs c cs h ih after = after_backslash_on (c == 117) (is_simple c) bs c cs refl refl h ih
  string_on (code n u) bs c cs h ih after = code_on (is_ascii_hexdigit c) n u bs c cs refl h ih
  string_on (second w) bs c cs h ih after = expected_on (c == 92) 92 (second_backslash w) bs c cs refl h ih
  string_on (second_backslash w) bs c cs h ih after =
      expected_on (c == 117) 117 (second_code w 3 0) bs c cs refl h ih
  string_on (second_code w n u) bs c cs h ih after = second_code_on (is_ascii_hexdigit c) w n u bs c cs refl h ih
