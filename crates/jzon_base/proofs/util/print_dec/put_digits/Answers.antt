use Rattle.jzon_base.proofs.Common.{◌≡◌, ◌≢◌, ◌+◌, ◌-◌, ◌≤◌, ◌<◌, ◌≤ℤ◌, ◌++◌, ◌∙◌, ◌∷◌, [], ℕ, ℤ, pos, negsuc, List, Bool, true, false, not}
use Rattle.jzon_base.proofs.Common.{refl, ap, sym, arith, ints, decimal, from_bool, length, length-append, length-take-le}
use Rattle.jzon_base.proofs.Common.{take, drop, get_or, take_more, take-append_seam, unsigned_abs, to_z-of_z, of_z, w16}
use Rattle.std.proofs.lemmas.List.{append-nil, append_assoc, take-append-drop}
use Rattle.jzon_base.specs.NumberText.{IsCommon, number_text, sign_text, magnitude_text, point_after}
use Rattle.jzon_base.proofs.Numbers.NumberBytes.{point_between}
use Rattle.jzon_base.proofs.Numbers.Powers.{length-decimal}
use Rattle.jzon_base.proofs.util.print_dec.put_digits.Goals as goal

-- the sign has one byte or none
sign_len : (positive : Bool) (m : ℕ) → m ≡ from_bool (not positive) → (m ≤ 1) × (m ≡ length (sign_text positive))
sign_len true m e = rw e (omega arith, refl)
sign_len false m e = rw e (omega arith, refl)

-- the bytes before the digits: the minus is one of them if the sign has it
front : (room : List ℕ) (start : ℕ) (positive : Bool) (m at : ℕ) → start < length room → get_or room start 0 ≡ 45
    → m ≡ from_bool (not positive) → at ≡ start + m → take at room ≡ take start room ++ sign_text positive
front room start true m at h minus e f =
    let none : m ≡ 0 = e in
    ap (λ k. take k room) (omega (arith, f, none)) ∙ sym (append-nil (take start room))
front room start false m at h minus e f =
    let one : m ≡ 1 = e in
    ap (λ k. take k room) (omega (arith, f, one)) ∙ take_more room start 0 h
    ∙ ap (λ b. take start room ++ b ∷ []) minus

-- the digits are put after them
put_text : (old put ds : List ℕ) (at end : ℕ) → end ≤ length old → at + length ds ≡ end → take at put ≡ take at old
    → drop at put ≡ ds ++ drop end old → take end put ≡ take at old ++ ds
put_text old put ds at end long h before written =
    let whole : put ≡ (take at old ++ ds) ++ drop end old =
    sym (take-append-drop at put) ∙ ap (λ (l : List ℕ). l ++ drop at put) before
    ∙ ap (λ (l : List ℕ). take at old ++ l) written ∙ sym (append_assoc (take at old) ds (drop end old)) in
    let front_len : length (take at old ++ ds) ≡ end =
    length-append (take at old) ds ∙ omega (arith, length-take-le at old (omega arith)) in
    ap (take end) whole ∙ ap (λ k. take k ((take at old ++ ds) ++ drop end old)) (sym front_len)
    ∙ take-append_seam (take at old ++ ds) (drop end old)

-- the sign and the digits are put
digits_put : (room put ds : List ℕ) (start at end m : ℕ) (positive : Bool) → start < length room
    → get_or room start 0 ≡ 45 → m ≡ from_bool (not positive) → at ≡ start + m → end ≤ length room
    → at + length ds ≡ end → take at put ≡ take at room → drop at put ≡ ds ++ drop end room
    → take end put ≡ take start room ++ (sign_text positive ++ ds)
digits_put room put ds start at end m positive h minus e here long total before written =
    put_text room put ds at end long total before written
    ∙ ap (λ (l : List ℕ). l ++ ds) (front room start positive m at h minus e here)
    ∙ append_assoc (take start room) (sign_text positive) ds

-- the text of a common number
integer_text : (positive : Bool) (m : ℕ) (e : ℤ) → 0 < m → e ≡ pos 0
    → sign_text positive ++ decimal m ≡ number_text positive m e
integer_text positive m e some none = rw none (grind (arith, some))

fraction : (ds : List ℕ) (e : ℤ) → e ≤ℤ pos 0 → e ≢ pos 0 → unsigned_abs e ≤ 16 → unsigned_abs e < length ds
    → point_after (length ds - unsigned_abs e) ds ≡ magnitude_text ds e
fraction ds (pos n) top some few h =
    let none : n ≡ 0 = omega (arith, ints) in absurd (some (ap pos none))
fraction ds (negsuc k) top some few h = grind (arith, few, h)

decimal_text : (positive : Bool) (m : ℕ) (e : ℤ) → IsCommon m e → e ≢ pos 0
    → sign_text positive ++ point_after (length (decimal m) - unsigned_abs e) (decimal m) ≡ number_text positive m e
decimal_text positive m e common some =
    let text = fraction (decimal m) e common.no_zeros some common.places common.before_point in
    let positive_m = common.some in
    rw text (grind (arith, positive_m))

pub write_digits-requires : goal.write_digits-requires
write_digits-requires c =
    let count = length-decimal c.ilog10.result c.args.mantissa c.ranges.mantissa.fits c.ilog10.ensures.power_le
    c.ilog10.ensures.next_power_gt in
    let sign = sign_len c.args.positive c.from.result c.from.ensures in
    (omega (arith, count), omega (arith, sign.0, c.requires.room, c.ilog10.ensures.bound))

pub returns-then-exponent-eq0-clause-text : goal.returns-then-exponent-eq0-clause-text
returns-then-exponent-eq0-clause-text c =
    let room = c.args.room.now in
    let start = c.args.start in
    let put = c.write_digits.ensures in
    let end = start + (c.from.result + (c.ilog10.result + 1)) in
    let count = length-decimal c.ilog10.result c.args.mantissa c.ranges.mantissa.fits c.ilog10.ensures.power_le
    c.ilog10.ensures.next_power_gt in
    let sign = sign_len c.args.positive c.from.result c.from.ensures in
    let none : c.args.exponent ≡ pos 0 = omega (arith, ints) in
    digits_put room c.write_digits.new.buf (decimal c.args.mantissa) start c.write_digits.result end c.from.result
    c.args.positive (omega (arith, c.requires.room)) c.requires.minus c.from.ensures (omega (arith, count, put.start))
    (omega (arith, sign.0, c.requires.room, c.ilog10.ensures.bound)) put.start put.before put.written
    ∙ ap (λ (l : List ℕ). take start room ++ l) (integer_text c.args.positive c.args.mantissa c.args.exponent
    c.requires.common.some none)

pub returns-clause-text : goal.returns-clause-text
returns-clause-text c =
    let room = c.args.room.now in
    let start = c.args.start in
    let buf = c.write_digits.new.buf in
    let put = c.write_digits.ensures in
    let before : List ℕ = take start room in
    let ds : List ℕ = decimal c.args.mantissa in
    let sign : List ℕ = sign_text c.args.positive in
    let end : ℕ = start + (c.from.result + (c.ilog10.result + 1)) in
    let count = length-decimal c.ilog10.result c.args.mantissa c.ranges.mantissa.fits c.ilog10.ensures.power_le
    c.ilog10.ensures.next_power_gt in
    let signs = sign_len c.args.positive c.from.result c.from.ensures in
    let digits : take end buf ≡ before ++ (sign ++ ds) =
    digits_put room buf ds start c.write_digits.result end c.from.result c.args.positive
    (omega (arith, c.requires.room)) c.requires.minus c.from.ensures (omega (arith, count, put.start))
    (omega (arith, signs.0, c.requires.room, c.ilog10.ensures.bound)) put.start put.before put.written in
    let common = c.requires.common in
    let places : ℕ = unsigned_abs c.args.exponent in
    let value : c.unsigned_abs.result ≡ places =
    c.unsigned_abs.ensures.value ∙ ap unsigned_abs (to_z-of_z w16 c.args.exponent c.ranges.exponent) in
    let total : end ≡ length before + (length sign + length ds) =
    omega (arith, count, signs.1, length-take-le start room (omega (arith, c.requires.room))) in
    ap (take (end + 1)) (c.put_point.ensures.text
    ∙ ap (λ k. take (end - k) buf ++ (46 ∷ (take 16 (drop (end - k) buf) ++ drop (end - k + 17) buf))) value)
    ∙ point_between before buf sign ds end places common.before_point common.places total digits
    ∙ ap (λ (l : List ℕ). before ++ l) (decimal_text c.args.positive c.args.mantissa c.args.exponent common
    (λ q. c.if-exponent-eq0.false (ap (of_z w16) q)))
