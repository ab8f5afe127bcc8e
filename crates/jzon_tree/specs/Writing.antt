-- What a generator may write for a value, in its style: the compact text up to whitespace, the space after a colon and
-- the order of an object's entries.
use Rattle.std.specs.Prelude.{◌≡◌, ℕ, suc, ◌<◌, List, [], ◌∷◌, ◌++◌, length, map, Bool, true, false, not, ◌&&◌}
use Rattle.std.specs.Prelude.{◌||◌, ◌==◌, IsTrue, ⊤, codes, count_by, if◌then◌else◌, ◌≢◌, AllPairs, slice_index_or}
use Rattle.std.specs.List.{list_all}
use Rattle.jzon_base.specs.NumberText.{written_text}
use Rattle.jzon_base.specs.PairList.{keys_of}
use Rattle.jzon_base.specs.Tokens.{begin_array, begin_object, end_array, end_object, value_separator}
use Rattle.jzon_tree.specs.Value.{Value, null, boolean, text, number, array, object, Values, no_values, value, ValuePairs}
use Rattle.jzon_tree.specs.Value.{no_pairs, pair, list_of_pairs}
use Rattle.jzon_tree.specs.Text.{quoted, boolean_text}

-- Whitespace: tab, newline, carriage return and space (RFC 8259, section 2), and unless strict also vertical tab and
-- form feed.
abbrev pub is_whitespace : Bool → ℕ → Bool
is_whitespace strict c = (c == 9 || c == 10 || c == 13 || c == 32) || (not strict && (c == 11 || c == 12))

-- each of these characters is whitespace
abbrev pub is_all_whitespace : Bool → List ℕ → Bool
is_all_whitespace strict = list_all (is_whitespace strict)

-- What is allowed: this whitespace inside `n` open containers, a colon with a space after it (true) or without (false),
-- these positions as the order of these keys.
pub record Style : Type 0 where
  pub whitespace : ℕ → List ℕ → Bool
  pub colon : Bool → Bool
  pub order : List (List ℕ) → List ℕ → Bool

-- a colon, with a space after it or without
abbrev pub colon_text : Bool → List ℕ
colon_text wide = if wide then codes ": " else codes ":"

-- it is whitespace in the widest sense, and the style allows it
abbrev pub IsAllowedWhitespace : Style → ℕ → List ℕ → Type 0
IsAllowedWhitespace s dent w = IsTrue (is_all_whitespace false w) × IsTrue (s.whitespace dent w)

-- the positions below n, each exactly once
pub record IsOrder (n : ℕ) (positions : List ℕ) : Type 0 where
  pub as_many : length positions ≡ n
  pub once : (i : ℕ) → i < n → count_by (λ j. j == i) positions ≡ 1

-- the text at position i, and the empty one past the end
abbrev pub text_at : List (List ℕ) → ℕ → List ℕ
text_at ts i = slice_index_or ts i []

-- b is these texts with allowed whitespace before each and a comma between them
abbrev pub Joins : Style → ℕ → List (List ℕ) → List ℕ → Type 0
Joins s dent [] b = ⊥
Joins s dent (t ∷ []) b = (w : List ℕ) × IsAllowedWhitespace s dent w × (b ≡ w ++ t)
Joins s dent (t ∷ u ∷ ts) b = (w : List ℕ) × (more : List ℕ) × IsAllowedWhitespace s dent w × Joins s dent (u ∷ ts) more
    × (b ≡ w ++ (t ++ value_separator ∷ more))

-- b is a non-empty container of these texts, with allowed whitespace before its closing bracket
abbrev pub Encloses : Style → ℕ → ℕ → List (List ℕ) → ℕ → List ℕ → Type 0
Encloses s dent opening ts closing b =
    (inside : List ℕ) × (w : List ℕ) × Joins s (suc dent) ts inside × IsAllowedWhitespace s dent w
    × (b ≡ opening ∷ (inside ++ (w ++ closing ∷ [])))

abbrev mutual
  -- b is a text of the value inside `dent` open containers
  pub Writes : Style → ℕ → Value → List ℕ → Type 0
  Writes s dent null b = b ≡ codes "null"
  Writes s dent (boolean t) b = b ≡ boolean_text t
  Writes s dent (text k t) b = b ≡ quoted t
  Writes s dent (number n) b = b ≡ written_text n
  Writes s dent (array no_values) b = b ≡ codes "[]"
  Writes s dent (array (value v vs)) b = (ts : List (List ℕ)) × WritesEach s (suc dent) (value v vs) ts
      × Encloses s dent begin_array ts end_array b
  Writes s dent (object no_pairs) b = b ≡ codes "{}"
  Writes s dent (object (pair k v ps)) b =
      (ts : List (List ℕ)) × (positions : List ℕ) × WritesPairs s (suc dent) (pair k v ps) ts
      × IsOrder (length ts) positions × IsTrue (s.order (keys_of (list_of_pairs (pair k v ps))) positions)
      × Encloses s dent begin_object (map (text_at ts) positions) end_object b

  -- each of these texts is a text of the value at its position
  pub WritesEach : Style → ℕ → Values → List (List ℕ) → Type 0
  WritesEach s dent no_values [] = ⊤
  WritesEach s dent (value v vs) (t ∷ ts) = Writes s dent v t × WritesEach s dent vs ts
  WritesEach s dent _ _ = ⊥

  -- each of these texts is a text of the entry at its position: its key, a colon and its value
  pub WritesPairs : Style → ℕ → ValuePairs → List (List ℕ) → Type 0
  WritesPairs s dent no_pairs [] = ⊤
  WritesPairs s dent (pair k v ps) (t ∷ ts) =
      ((wide : Bool) × (x : List ℕ) × IsTrue (s.colon wide) × Writes s dent v x
      × (t ≡ quoted k ++ (colon_text wide ++ x))) × WritesPairs s dent ps ts
  WritesPairs s dent _ _ = ⊥

-- the loosest style: it allows everything
abbrev pub any_style : Style
any_style = record { whitespace = λ dent w. true; colon = λ wide. true; order = λ ks positions. true }

-- A style allows some whitespace for each number of open containers, some form of the colon, and some order of each
-- list of distinct keys.
pub record IsStyle (s : Style) : Type 0 where
  pub whitespace : (dent : ℕ) → (w : List ℕ) × IsAllowedWhitespace s dent w
  pub colon : (wide : Bool) × IsTrue (s.colon wide)
  pub order : (ks : List (List ℕ)) → AllPairs (λ j k. j ≢ k) ks → (positions : List ℕ) × IsOrder (length ks) positions
      × IsTrue (s.order ks positions)
