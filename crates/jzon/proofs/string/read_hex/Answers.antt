use Rattle.jzon_base.proofs.Common.{◌≡◌, subst, IsCharBoundary, ◌+◌, ◌*◌, ◌-◌, ◌<◌, ◌∙◌, List, ℕ, ap, arith, drop, length, refl, take, take_rest}
use Rattle.jzon.proofs.Strings.HexDigits.{HexRead, code_reads, second_code_reads, hex_at_once, hex_end, hex_small}
use Rattle.jzon.proofs.Strings.HexDigits.{hex_spelled}
use Rattle.jzon.proofs.string.read_hex.Goals.{In-Some-Some-Some-Some}
use Rattle.jzon.proofs.string.read_hex.Goals as goal

-- the four digits were read
read : (c : In-Some-Some-Some-Some) → HexRead c.args.source.now c.args.start (c.args.start + 4)
    (((c.in-Some-Some-Some-Some.a * 16 + c.in-Some-Some-Some-Some.b) * 16 + c.in-Some-Some-Some-Some.c) * 16
    + c.in-Some-Some-Some-Some.d)
read c =
    let rest : List ℕ = take (length c.as_bytes.result.now - c.args.start)
    (drop c.args.start c.as_bytes.result.now) in
    hex_at_once c.args.source.now rest c.args.start c.in-Some-Some-Some-Some.a
    c.in-Some-Some-Some-Some.b c.in-Some-Some-Some-Some.c c.in-Some-Some-Some-Some.d c.utf8.source c.requires
    (ap (λ bs. take (length bs - c.args.start) (drop c.args.start bs)) c.as_bytes.ensures.value
    ∙ take_rest c.args.source.now c.args.start)
    (omega (arith, c.in-len4-up.len_at_least)) (rw c.in-Some-Some-Some-Some.is-0 at c.hex_value.ensures)
    (rw c.in-Some-Some-Some-Some.is-1 at c.hex_value-in-len4-up.ensures)
    (rw c.in-Some-Some-Some-Some.is-2 at c.hex_value-in-len4-up-2.ensures)
    (rw c.in-Some-Some-Some-Some.is-3 at c.hex_value-in-len4-up-3.ensures)

small : (c : In-Some-Some-Some-Some) → ((c.in-Some-Some-Some-Some.a * 16 + c.in-Some-Some-Some-Some.b) * 16
    + c.in-Some-Some-Some-Some.c) * 16 + c.in-Some-Some-Some-Some.d < 65536
small c = hex_small c.args.source.now c.args.start (c.args.start + 4) _ (read c) (omega arith)

pub overflow_add-result : goal.overflow_add-result
overflow_add-result c = omega (arith, small (goal.at.overflow_add-result c).In-Some-Some-Some-Some)

pub overflow_mul-result-in-Some-Some-Some-Some : goal.overflow_mul-result-in-Some-Some-Some-Some
overflow_mul-result-in-Some-Some-Some-Some c =
    omega (arith, small (goal.at.overflow_mul-result-in-Some-Some-Some-Some c).In-Some-Some-Some-Some)

pub overflow_add-result-in-Some-Some-Some-Some : goal.overflow_add-result-in-Some-Some-Some-Some
overflow_add-result-in-Some-Some-Some-Some c =
    omega (arith, small (goal.at.overflow_add-result-in-Some-Some-Some-Some c).In-Some-Some-Some-Some)

pub overflow_mul-result-in-Some-Some-Some-Some-2 : goal.overflow_mul-result-in-Some-Some-Some-Some-2
overflow_mul-result-in-Some-Some-Some-Some-2 c =
    omega (arith, small (goal.at.overflow_mul-result-in-Some-Some-Some-Some-2 c).In-Some-Some-Some-Some)

pub overflow_add-result-in-Some-Some-Some-Some-2 : goal.overflow_add-result-in-Some-Some-Some-Some-2
overflow_add-result-in-Some-Some-Some-Some-2 c =
    omega (arith, small (goal.at.overflow_add-result-in-Some-Some-Some-Some-2 c).In-Some-Some-Some-Some)

pub returns-in-Some-Some-Some-Some-clause-value : goal.returns-in-Some-Some-Some-Some-clause-value
returns-in-Some-Some-Some-Some-clause-value c =
    hex_spelled c.args.source.now c.args.start (c.args.start + 4) _
    (read (goal.at.returns-in-Some-Some-Some-Some-clause-value c).In-Some-Some-Some-Some) refl

pub returns-in-Some-Some-Some-Some-clause-small : goal.returns-in-Some-Some-Some-Some-clause-small
returns-in-Some-Some-Some-Some-clause-small c =
    small (goal.at.returns-in-Some-Some-Some-Some-clause-small c).In-Some-Some-Some-Some

pub returns-in-Some-Some-Some-Some-clause-boundary : goal.returns-in-Some-Some-Some-Some-clause-boundary
returns-in-Some-Some-Some-Some-clause-boundary c =
    (read (goal.at.returns-in-Some-Some-Some-Some-clause-boundary c).In-Some-Some-Some-Some).boundary

pub returns-in-Some-Some-Some-Some-clause-last : goal.returns-in-Some-Some-Some-Some-clause-last
returns-in-Some-Some-Some-Some-clause-last c =
    subst (IsCharBoundary c.args.source.now) (let n : c.args.start + 4 - 1 ≡ c.args.start + 3 = omega arith in n)
    ((read (goal.at.returns-in-Some-Some-Some-Some-clause-last c).In-Some-Some-Some-Some).last (omega arith))

pub returns-in-Some-Some-Some-Some-clause-first : goal.returns-in-Some-Some-Some-Some-clause-first
returns-in-Some-Some-Some-Some-clause-first c r role bs =
    hex_end r c.args.source.now c.args.start (c.args.start + 4) _ _ _
    (read (goal.at.returns-in-Some-Some-Some-Some-clause-first c).In-Some-Some-Some-Some) (code_reads r role bs) refl

pub returns-in-Some-Some-Some-Some-clause-second : goal.returns-in-Some-Some-Some-Some-clause-second
returns-in-Some-Some-Some-Some-clause-second c r role bs h =
    hex_end r c.args.source.now c.args.start (c.args.start + 4) _ _ _
    (read (goal.at.returns-in-Some-Some-Some-Some-clause-second c).In-Some-Some-Some-Some)
    (second_code_reads r role bs h) refl
