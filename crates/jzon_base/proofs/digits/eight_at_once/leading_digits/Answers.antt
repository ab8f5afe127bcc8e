use Rattle.jzon_base.proofs.Common.{drop, take, w8, ap, ◌∙◌, arith, chunk-fits, length-chunk, take_all, take-take}
use Rattle.jzon_base.proofs.Common.{prefix_len-le-length, is_ascii_digit}
use Rattle.jzon_base.specs.Digits.{digits_number}
use Rattle.jzon_base.proofs.Numbers.LeadingDigits.{all_eight, first_other, first_below, spells_first}
use Rattle.jzon_base.proofs.digits.eight_at_once.leading_digits.Goals as goal

pub returns-then-others-eq0-clause-count : goal.returns-then-others-eq0-clause-count
returns-then-others-eq0-clause-count c =
    let bytes = c.args.bytes.now in
    all_eight (take 8 (drop c.args.start bytes)) (length-chunk c.args.start 8 bytes (omega arith))
    (chunk-fits w8 c.args.start 8 bytes c.type_inv.bytes) c.if-others-eq0.true

pub returns-then-others-eq0-clause-number : goal.returns-then-others-eq0-clause-number
returns-then-others-eq0-clause-number c =
    let bytes = c.args.bytes.now in
    let xs = take 8 (drop c.args.start bytes) in
    let long = length-chunk c.args.start 8 bytes (omega arith) in
    let count = all_eight xs long (chunk-fits w8 c.args.start 8 bytes c.type_inv.bytes) c.if-others-eq0.true in
    let s = spells_first xs 8 c.from_le_bytes-word.result c.from_le_bytes-word.result long count
    c.from_le_bytes-word.ensures (omega (arith, c.from_le_bytes-word.type_inv)) in
    c.number_of_eight.ensures s.digits s.eight s.small s.word_is ∙ s.worth
    ∙ ap digits_number (take_all 8 xs (omega arith))

pub last_bytes-requires : goal.last_bytes-requires
last_bytes-requires c =
    let bytes = c.args.bytes.now in
    first_below (take 8 (drop c.args.start bytes)) (length-chunk c.args.start 8 bytes (omega arith))
    c.if-others-eq0.false

pub returns-clause-count : goal.returns-clause-count
returns-clause-count c =
    let bytes = c.args.bytes.now in
    first_other (take 8 (drop c.args.start bytes)) (length-chunk c.args.start 8 bytes (omega arith))
    (chunk-fits w8 c.args.start 8 bytes c.type_inv.bytes) c.if-others-eq0.false

pub returns-clause-number : goal.returns-clause-number
returns-clause-number c =
    let bytes = c.args.bytes.now in
    let xs = take 8 (drop c.args.start bytes) in
    let long = length-chunk c.args.start 8 bytes (omega arith) in
    let count = first_other xs long (chunk-fits w8 c.args.start 8 bytes c.type_inv.bytes) c.if-others-eq0.false in
    let s = spells_first xs _ c.from_le_bytes-word.result c.last_bytes.result long count
    c.from_le_bytes-word.ensures c.last_bytes.ensures in
    c.number_of_eight-2.ensures s.digits s.eight s.small s.word_is ∙ s.worth
    ∙ ap digits_number (take-take _ 8 (drop c.args.start bytes)
    (omega (arith, count, prefix_len-le-length is_ascii_digit xs)))
