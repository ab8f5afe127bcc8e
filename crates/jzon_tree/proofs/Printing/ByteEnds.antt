-- Bytes that are put by their first and last ones, which may overlap.
use Rattle.jzon_base.proofs.Common.{◌≡◌, ℕ, ◌+◌, ◌-◌, ◌≤◌, ◌<◌, List, [], ◌∷◌, ◌++◌, length, take, drop, get_or, sym, ap}
use Rattle.jzon_base.proofs.Common.{◌∙◌, append_assoc, take-append-drop, replicate, arith, length-drop}
use Rattle.jzon_base.proofs.Common.{length-take-le, take-take, take_all, take_more}
use Rattle.jzon_base.proofs.Common.{take-append-add}
use Rattle.std.proofs.lemmas.List.{get_or-replicate, get_or-drop, get_or-take}
use Rattle.std.proofs.lemmas.Simd.{take_more_put_chunk, length-put_chunk, get_or-put_chunk_above}
use Rattle.std.proofs.lemmas.List.{take_more_set, set-append_left, length-set}
use Rattle.std.specs.Prelude.{set}
use Rattle.std.proofs.Math.Seq.{take-set-lt}
use Rattle.jzon_base.proofs.Common.{refl}
use lib.Lanes.{chunk, put_chunk}

-- the first n bytes of a text are put at a position, and then its last n where they belong
module _ (old text : List ℕ) (at n : ℕ) (fits : at + length text ≤ length old) (few : n ≤ length text)
    (covers : length text ≤ n + n) where
  abbrev pub twice : List ℕ
  twice = put_chunk (at + (length text - n)) (put_chunk at old (chunk 0 n text)) (chunk (length text - n) n text)

  long_front : length (chunk 0 n text) ≡ n
  long_front = length-take-le n text few

  long_back : length (chunk (length text - n) n text) ≡ n
  long_back = length-take-le n (drop (length text - n) text) (omega (arith, length-drop (length text - n) text))

  long_once : length (put_chunk at old (chunk 0 n text)) ≡ length old
  long_once = length-put_chunk at old (chunk 0 n text)

  pub ends_length : length twice ≡ length old
  ends_length =
      length-put_chunk (at + (length text - n)) (put_chunk at old (chunk 0 n text)) (chunk (length text - n) n text)
      ∙ long_once

  pub ends_leave : get_or twice (at + length text) 0 ≡ get_or old (at + length text) 0
  ends_leave =
      get_or-put_chunk_above (at + (length text - n)) (put_chunk at old (chunk 0 n text))
      (chunk (length text - n) n text) (at + length text) 0 (omega (arith, long_back))
      ∙ get_or-put_chunk_above at old (chunk 0 n text) (at + length text) 0 (omega (arith, long_front))

  pub ends_put : take (at + length text) twice ≡ take at old ++ text
  ends_put =
      let k : ℕ = length text - n in
      let one = put_chunk at old (chunk 0 n text) in
      let before : length (take at old) ≡ at = length-take-le at old (omega arith) in
      let first : take (at + n) one ≡ take at old ++ take n text =
      take_more_put_chunk at old (chunk 0 n text) (at + n) (omega (arith, long_front)) (omega arith) in
      let cut : take (at + k) one ≡ take at old ++ take k text =
      sym (take-take (at + k) (at + n) one (omega arith)) ∙ ap (take (at + k)) first
      ∙ ap (λ j. take (j + k) (take at old ++ take n text)) (sym before) ∙ take-append-add (take at old) (take n text) k
      ∙ ap (λ (l : List ℕ). take at old ++ l) (take-take k n text (omega arith)) in
      let last : chunk k n text ≡ drop k text = take_all n (drop k text) (omega (arith, length-drop k text)) in
      take_more_put_chunk (at + k) one (chunk k n text) (at + length text) (omega (arith, long_back))
      (omega (arith, long_once))
      ∙ rw (cut, last, append_assoc (take at old) (take k text) (drop k text), take-append-drop k text)

-- a text is put between the first two of many quotes, so that the second is after it
pub put_in_quotes : (old new text : List ℕ) (s m : ℕ) → s + m ≤ length old → take m (drop s old) ≡ replicate m 34
    → length text + 2 ≤ m → take (s + 1 + length text) new ≡ take (s + 1) old ++ text
    → get_or new (s + 1 + length text) 0 ≡ get_or old (s + 1 + length text) 0 → length new ≡ length old
    → take (s + (length text + 2)) new ≡ take s old ++ 34 ∷ (text ++ 34 ∷ [])
put_in_quotes old new text s m fits quotes few put left same =
    let k : ℕ = s + 1 + length text in
    let end : s + (length text + 2) ≡ k + 1 = omega arith in
    let quote : (j i : ℕ) → i ≡ s + j → j < m → get_or old i 0 ≡ 34 =
    λ j i e h. ap (λ n. get_or old n 0) e ∙ sym (get_or-drop s old j 0) ∙ sym (get_or-take m (drop s old) j 0 h)
    ∙ ap (λ (l : List ℕ). get_or l j 0) quotes ∙ get_or-replicate m j 34 0 h in
    let first : get_or old s 0 ≡ 34 = quote 0 s (omega arith) (omega arith) in
    let second : get_or old k 0 ≡ 34 = quote (1 + length text) k (omega arith) (omega arith) in
    let opening : take (s + 1) old ≡ take s old ++ 34 ∷ [] =
    take_more old s 0 (omega arith) ∙ ap (λ b. take s old ++ b ∷ []) first in
    rw (end, take_more new k 0 (omega (arith, same)), put, opening, left, second)
    (rw (append_assoc (take s old ++ 34 ∷ []) text (34 ∷ []), append_assoc (take s old) (34 ∷ []) (text ++ 34 ∷ [])) refl)

-- a text is put after the place of a quote, and then a quote on each side of it
pub quotes_put : (old new text : List ℕ) (s : ℕ) → s + (length text + 2) ≤ length old → length new ≡ length old
    → take (s + 1 + length text) new ≡ take (s + 1) old ++ text
    → take (s + (length text + 2)) (set (set new s 34) (s + 1 + length text) 34) ≡ take s old ++ 34 ∷ (text ++ 34 ∷ [])
quotes_put old new text s fits same put =
    let k : ℕ = s + 1 + length text in
    let end : s + (length text + 2) ≡ k + 1 = omega arith in
    let first : take (s + 1) (set old s 34) ≡ take s old ++ 34 ∷ [] = take_more_set old s 34 (omega arith) in
    let front : take k (set new s 34) ≡ (take s old ++ 34 ∷ []) ++ text =
    take-set-lt k new s 34 (omega arith) ∙ ap (λ (l : List ℕ). set l s 34) put
    ∙ set-append_left (take (s + 1) old) text s 34 (omega (arith, length-take-le (s + 1) old (omega arith)))
    ∙ ap (λ (l : List ℕ). l ++ text) (sym (take-set-lt (s + 1) old s 34 (omega arith)) ∙ first) in
    ap (λ n. take n (set (set new s 34) k 34)) end
    ∙ take_more_set (set new s 34) k 34 (omega (arith, length-set new s 34, same))
    ∙ ap (λ (l : List ℕ). l ++ 34 ∷ []) front
    ∙ rw (append_assoc (take s old ++ 34 ∷ []) text (34 ∷ []), append_assoc (take s old) (34 ∷ []) (text ++ 34 ∷ [])) refl
