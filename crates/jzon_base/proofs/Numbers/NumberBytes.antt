-- The bytes of a number, put after others.
use Rattle.jzon_base.proofs.Common.{◌≡◌, ℕ, ◌+◌, ◌-◌, ◌≤◌, ◌<◌, List, [], ◌∷◌, ◌++◌, length, take, drop, set}
use Rattle.jzon_base.proofs.Common.{get_or, arith, ap, sym, ◌∙◌, length-append, drop-drop, take_more, length-set}
use Rattle.jzon_base.proofs.Common.{length-take-le}
use Rattle.jzon_base.proofs.Common.{drop-append_seam, set-append_seam, take-append-add}
use Rattle.jzon_base.proofs.Common.{take-append_seam}
use Rattle.std.proofs.Common.{length-drop}
use Rattle.std.proofs.lemmas.List.{append_assoc}
use Rattle.std.proofs.lemmas.List.{take-append-drop}
use Rattle.std.proofs.Math.Seq.{append_snoc}
use Rattle.std.proofs.lemmas.Simd.{length-chunk, length-put_chunk, put_chunk_is}
use lib.Lanes.{chunk, put_chunk}
use Rattle.jzon_base.specs.NumberText.{point_after}

-- sixteen bytes moved by one, and a point before them
pub point_put : (room : List ℕ) (point : ℕ) → point + 17 ≤ length room
    → set (put_chunk (point + 1) room (chunk point 16 room)) point 46
    ≡ take point room ++ (46 ∷ (take 16 (drop point room) ++ drop (point + 17) room))
point_put room point fits =
    let moved : List ℕ = chunk point 16 room in
    let long : length moved ≡ 16 = length-chunk point 16 room (omega arith) in
    let front : List ℕ = take point room in
    let first : ℕ = get_or room point 0 in
    let front_len : length front ≡ point = length-take-le point room (omega arith) in
    let next : point + 1 + 16 ≡ point + 17 = omega arith in
    let behind : drop (length moved) (drop (point + 1) room) ≡ drop (point + 17) room =
    ap (λ k. drop k (drop (point + 1) room)) long ∙ drop-drop 16 (point + 1) room ∙ ap (λ k. drop k room) next in
    let rest : List ℕ = moved ++ drop (length moved) (drop (point + 1) room) in
    let split : put_chunk (point + 1) room moved ≡ front ++ (first ∷ rest) =
    put_chunk_is (point + 1) room moved (omega (arith, long))
    ∙ ap (λ (l : List ℕ). l ++ rest) (take_more room point 0 (omega arith)) ∙ append_assoc front (first ∷ []) rest in
    ap (λ (l : List ℕ). set l point 46) split ∙ ap (λ k. set (front ++ (first ∷ rest)) k 46) (sym front_len)
    ∙ set-append_seam front first rest 46 ∙ ap (λ (l : List ℕ). front ++ (46 ∷ (moved ++ l))) behind

pub length-point_put : (room : List ℕ) (point : ℕ)
    → length (set (put_chunk (point + 1) room (chunk point 16 room)) point 46) ≡ length room
length-point_put room point =
    length-set (put_chunk (point + 1) room (chunk point 16 room)) point 46
    ∙ length-put_chunk (point + 1) room (chunk point 16 room)

-- so a number's digits get a point before the last `places`
pub point_between : (old room sign ds : List ℕ) (end places : ℕ) → places < length ds → places ≤ 16
    → end ≡ length old + (length sign + length ds) → take end room ≡ old ++ (sign ++ ds)
    → take (end + 1) (take (end - places) room
    ++ (46 ∷ (take 16 (drop (end - places) room) ++ drop (end - places + 17) room)))
    ≡ old ++ (sign ++ point_after (length ds - places) ds)
point_between old room sign ds end places few fit at text =
    let k : ℕ = length ds - places in
    let p : ℕ = end - places in
    let front : List ℕ = old ++ (sign ++ take k ds) in
    let mid : List ℕ = drop k ds in
    let rest : List ℕ = drop end room in
    let tail : List ℕ = drop (p + 17) room in
    let more : List ℕ = take (16 - places) rest in
    let front_len : length front ≡ p =
    length-append old (sign ++ take k ds)
    ∙ omega (arith, length-append sign (take k ds), length-take-le k ds (omega arith), at, few) in
    let mid_len : length mid ≡ places = omega (arith, length-drop k ds, few) in
    let whole : room ≡ front ++ (mid ++ rest) =
    sym (take-append-drop end room)
    ∙ ap (λ (l : List ℕ). l ++ rest) (text ∙ ap (λ (l : List ℕ). old ++ (sign ++ l)) (sym (take-append-drop k ds))
    ∙ ap (λ (l : List ℕ). old ++ l) (sym (append_assoc sign (take k ds) mid))
    ∙ sym (append_assoc old (sign ++ take k ds) mid))
    ∙ append_assoc front mid rest in
    let before : take p room ≡ front =
    ap (λ j. take j room) (sym front_len) ∙ ap (take (length front)) whole ∙ take-append_seam front (mid ++ rest) in
    let after : drop p room ≡ mid ++ rest =
    ap (λ j. drop j room) (sym front_len) ∙ ap (drop (length front)) whole ∙ drop-append_seam front (mid ++ rest) in
    let sixteen : 16 ≡ length mid + (16 - places) = omega (arith, mid_len, fit) in
    let moved : take 16 (drop p room) ≡ mid ++ more =
    ap (take 16) after ∙ ap (λ j. take j (mid ++ rest)) sixteen ∙ take-append-add mid rest (16 - places) in
    let total : end + 1 ≡ length (front ++ (46 ∷ mid)) =
    sym (length-append front (46 ∷ mid) ∙ omega (arith, front_len, mid_len, at, few)) in
    ap (take (end + 1)) (ap (λ (l : List ℕ). l ++ (46 ∷ (take 16 (drop p room) ++ tail))) before
    ∙ ap (λ (l : List ℕ). front ++ (46 ∷ (l ++ tail))) moved
    ∙ ap (λ (l : List ℕ). front ++ (46 ∷ l)) (append_assoc mid more tail)
    ∙ sym (append_assoc front (46 ∷ mid) (more ++ tail)))
    ∙ ap (λ j. take j ((front ++ (46 ∷ mid)) ++ (more ++ tail))) total
    ∙ take-append_seam (front ++ (46 ∷ mid)) (more ++ tail) ∙ append_assoc old (sign ++ take k ds) (46 ∷ mid)
    ∙ ap (λ (l : List ℕ). old ++ l) (append_assoc sign (take k ds) (46 ∷ mid)
    ∙ ap (λ (l : List ℕ). sign ++ l) (sym (append_snoc (take k ds) 46 mid)))
