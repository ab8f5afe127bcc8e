-- `null`, `true` and `false`, four letters of which the code compares at once.
use Rattle.jzon_base.proofs.Common.{◌≡◌, ◌≢◌, ◌⊎◌, inl, inr, ℕ, ◌+◌, ◌<◌, ◌≤◌, true, false, List, [], ◌∷◌, length}
use Rattle.jzon_base.proofs.Common.{get_or, refl, sym, ap, subst, ◌∙◌, arith, None, lit<, IsUtf8, IsCharBoundary}
use Rattle.jzon_base.proofs.Common.{IsCharBoundary-before_ascii, IsCharBoundary-after_ascii}
use Rattle.jzon_tree.specs.Value.{Value, null, boolean}
use Rattle.jzon.specs.Reading.{Reading}
use Rattle.jzon.specs.Private.Classes.{begins_null, begins_true, begins_false}
use Rattle.jzon.specs.Private.Machine.{Frames, before, after_value, past_letter, value_mark, from}
use Rattle.jzon.proofs.Containers.FirstBytes.{begin_by}
use Rattle.jzon.proofs.Containers.LiteralLetters.{letter_read, four_read}

abbrev pub IsFirst : ℕ → Type 0
IsFirst b = (b ≡ 110) ⊎ ((b ≡ 116) ⊎ (b ≡ 102))

-- x for `null`, `true` or `false`, by its first letter
pub record ByFirst {X : Type 0} (b : ℕ) (x n y f : X) : Type 0 where
  pub null : b ≡ 110 → x ≡ n
  pub yes : b ≡ 116 → x ≡ y
  pub no : b ≡ 102 → x ≡ f

-- a literal begins at i, of which four letters are expected from k on: of four letters the first is read anew
pub record Begins (r : Reading) (bs : List ℕ) (i k : ℕ) (fs : Frames) (v : Value) (four : List ℕ) : Type 0 where
  pub not_before : i ≤ k
  pub boundary : IsCharBoundary bs k
  pub same : from r bs (before fs) i ≡ from r bs (past_letter fs v four) k

-- the first of four letters was read, and is read anew
anew : (r : Reading) (bs : List ℕ) (i k l : ℕ) (ls : List ℕ) (fs : Frames) (v : Value) (four : List ℕ) → IsUtf8 bs
    → i < length bs → get_or bs i 0 ≡ l → l < 128 → k ≡ i → four ≡ l ∷ ls
    → from r bs (before fs) i ≡ from r bs (past_letter fs v ls) (i + 1) → Begins r bs i k fs v four
anew r bs i k l ls fs v four u lt h ascii here is first =
    let at : IsCharBoundary bs i = IsCharBoundary-before_ascii bs i lt (omega (arith, h)) in record {
      not_before = omega (arith, here);
      boundary = rw here at;
      same = rw (here, is) (first ∙ sym (letter_read r bs i l ls fs v u at lt h ascii));
    }

pub word_begins : (r : Reading) (bs : List ℕ) (i b k : ℕ) (fs : Frames) (v : Value) (four : List ℕ) → IsUtf8 bs
    → i < length bs → get_or bs i 0 ≡ b → value_mark r fs ≡ None → IsFirst b
    → ByFirst b v null (boolean true) (boolean false)
    → ByFirst b four (110 ∷ 117 ∷ 108 ∷ 108 ∷ []) (116 ∷ 114 ∷ 117 ∷ 101 ∷ []) (97 ∷ 108 ∷ 115 ∷ 101 ∷ [])
    → (b ≢ 102 → k ≡ i) → (b ≡ 102 → k ≡ i + 1) → Begins r bs i k fs v four
word_begins r bs i b k fs v four u lt h m (inl e) means spells short long =
    anew r bs i k 110 (117 ∷ 108 ∷ 108 ∷ []) fs v four u lt (h ∙ e) (lit< tt) (short (λ f. absurd (omega (arith, e, f))))
    (spells.null e)
    (rw (means.null e) (begin_by r bs i fs begins_null _ refl u
    (IsCharBoundary-before_ascii bs i lt (omega (arith, e, h))) lt (h ∙ e) (lit< tt) m))
word_begins r bs i b k fs v four u lt h m (inr (inl e)) means spells short long =
    anew r bs i k 116 (114 ∷ 117 ∷ 101 ∷ []) fs v four u lt (h ∙ e) (lit< tt) (short (λ f. absurd (omega (arith, e, f))))
    (spells.yes e)
    (rw (means.yes e) (begin_by r bs i fs begins_true _ refl u
    (IsCharBoundary-before_ascii bs i lt (omega (arith, e, h))) lt (h ∙ e) (lit< tt) m))
word_begins r bs i b k fs v four u lt h m (inr (inr e)) means spells short long =
    let here : k ≡ i + 1 = long e in record {
      not_before = omega (arith, here);
      boundary = rw here (IsCharBoundary-after_ascii bs i u lt (omega (arith, h, e)));
      same = rw (here, spells.no e, means.no e) (begin_by r bs i fs begins_false _ refl u
          (IsCharBoundary-before_ascii bs i lt (omega (arith, e, h))) lt (h ∙ e) (lit< tt) m);
    }

-- four bytes are there
pub record Stand (bs : List ℕ) (i : ℕ) (four : List ℕ) : Type 0 where
  pub within : i + 4 ≤ length bs
  pub first : get_or bs i 0 ≡ get_or four 0 0
  pub second : get_or bs (i + 1) 0 ≡ get_or four 1 0
  pub third : get_or bs (i + 2) 0 ≡ get_or four 2 0
  pub fourth : get_or bs (i + 3) 0 ≡ get_or four 3 0

pub record WordEnds (r : Reading) (bs : List ℕ) (i k : ℕ) (fs : Frames) (v : Value) : Type 0 where
  pub past : i < k
  pub boundary : IsCharBoundary bs k
  pub same : from r bs (before fs) i ≡ from r bs (after_value fs v) k

-- the four letters are there
four_end : (r : Reading) (bs : List ℕ) (i k a b c d : ℕ) (fs : Frames) (v : Value) (four : List ℕ) → IsUtf8 bs
    → Begins r bs i k fs v four → four ≡ a ∷ b ∷ c ∷ d ∷ [] → a < 128 → b < 128 → c < 128 → d < 128 → Stand bs k four
    → WordEnds r bs i (k + 4) fs v
four_end r bs i k a b c d fs v four u begins is la lb lc ld stand =
    let not_before = begins.not_before in
    let last : get_or bs (k + 3) 0 ≡ d = stand.fourth ∙ ap (λ l. get_or l 3 0) is in record {
      past = omega arith;
      boundary =
          subst (IsCharBoundary bs) (omega arith)
          (IsCharBoundary-after_ascii bs (k + 3) u (omega (arith, stand.within)) (omega (arith, last, ld)));
      same =
          begins.same ∙ ap (λ l. from r bs (past_letter fs v l) k) is
          ∙ four_read r bs k a b c d fs v u begins.boundary stand.within (stand.first ∙ ap (λ l. get_or l 0 0) is)
          (stand.second ∙ ap (λ l. get_or l 1 0) is) (stand.third ∙ ap (λ l. get_or l 2 0) is) last la lb lc ld;
    }

pub word_ends : (r : Reading) (bs : List ℕ) (i b k : ℕ) (fs : Frames) (v : Value) (four : List ℕ) → IsUtf8 bs
    → Begins r bs i k fs v four → IsFirst b
    → ByFirst b four (110 ∷ 117 ∷ 108 ∷ 108 ∷ []) (116 ∷ 114 ∷ 117 ∷ 101 ∷ []) (97 ∷ 108 ∷ 115 ∷ 101 ∷ [])
    → Stand bs k four → WordEnds r bs i (k + 4) fs v
word_ends r bs i b k fs v four u begins (inl e) spells stand =
    four_end r bs i k 110 117 108 108 fs v four u begins (spells.null e) (lit< tt) (lit< tt) (lit< tt) (lit< tt) stand
word_ends r bs i b k fs v four u begins (inr (inl e)) spells stand =
    four_end r bs i k 116 114 117 101 fs v four u begins (spells.yes e) (lit< tt) (lit< tt) (lit< tt) (lit< tt) stand
word_ends r bs i b k fs v four u begins (inr (inr e)) spells stand =
    four_end r bs i k 97 108 115 101 fs v four u begins (spells.no e) (lit< tt) (lit< tt) (lit< tt) (lit< tt) stand
