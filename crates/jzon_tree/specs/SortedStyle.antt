-- A style of sorted keys, for user-defined generators.
use Rattle.std.specs.Prelude.{Bool, true, not, ◌&&◌, ℕ, List, [], ◌∷◌, map}
use Rattle.std.specs.Cmp.Lexicographic.{slice_cmp}
use Rattle.std.specs.Ordering.{nat_cmp, is_lt}
use Rattle.jzon_tree.specs.Styles.{compact_style}
use Rattle.jzon_tree.specs.Writing.{Style, text_at}

-- byte-wise lexicographic order: at the first difference the first text's byte is less, or the first text is a proper
-- prefix
abbrev pub is_before : List ℕ → List ℕ → Bool
is_before j k = is_lt (slice_cmp nat_cmp j k)

-- no text is before its predecessor
abbrev pub ascend : List (List ℕ) → Bool
ascend [] = true
ascend (k ∷ []) = true
ascend (j ∷ k ∷ ks) = not (is_before k j) && ascend (k ∷ ks)

-- as compact, but with the entries of each object in the order of their keys
abbrev pub sorted_style : Style
sorted_style = record compact_style { order = λ ks positions. ascend (map (text_at ks) positions) }
