use Rattle.jzon_base.proofs.Common.{◌∙◌, ◌∷◌, ◌++◌, [], sym, append_assoc, prefix_len-le-length}
use Rattle.jzon_base.proofs.Common.{nil_from_length, take_rest}
use Rattle.jzon_base.specs.Private.PlainBytes.{is_plain}
use Rattle.jzon_tree.specs.Generator.{Just}
use Rattle.jzon_tree.specs.Text.{escaped}
use Rattle.jzon_tree.proofs.Printing.Emissions.{Added-chain, Failed-chain, Added-chained, Failed-chained}
use Rattle.jzon_tree.proofs.Printing.Emissions.{Emits-at_err, Emits-after}
use Rattle.jzon_tree.proofs.Printing.StringRuns.{any_run_stopped, escape_stopped, escape_sent, last_sent, needs_escape, whole}
use Rattle.jzon_tree.proofs.codegen.generator.Generator.try_write_escaped.Goals as goal

pub split_at-requires : goal.split_at-requires
split_at-requires g c = rw c.plain_len.ensures (prefix_len-le-length is_plain c.loop-byte.rest.now)

pub returns-in_err-try_write-2-clause-bytes : goal.returns-in_err-try_write-2-clause-bytes
returns-in_err-try_write-2-clause-bytes g c =
    Emits-at_err _ _ _ _ c.from_residual-in_err-try_write-2.ensures.0
    (Failed-chain _ _ _ _ _ c.loop-byte.invariant _ c.in_err-try_write-2.ensures.bytes
    (any_run_stopped c.args.prefix.now c.args.text.now c.loop-byte.rest.now
    _ _ c.split_at.ensures.front c.plain_len.ensures _ _ c.loop-byte.invariant.bytes _
    c.in_err-try_write-2.ensures.bytes.bytes))

pub put_escape-at-requires : goal.put_escape-at-requires
put_escape-at-requires g c = needs_escape c.loop-byte.rest.now c.in-Some.others.now _ _ c.plain_len.ensures
    (sym c.split_at.ensures.back ∙ c.in-Some.ensures.cases.0)

pub returns-in_err-try_write-3-clause-bytes : goal.returns-in_err-try_write-3-clause-bytes
returns-in_err-try_write-3-clause-bytes g c =
    let same = rw c.put_escape-at.array_long at
    (take_rest c.put_escape-at.new.room c.put_escape-at.result ∙ c.put_escape-at.ensures.text) in
    let escape = rw same at c.in_err-try_write-3.ensures.bytes in
    Emits-at_err _ _ _ _ c.from_residual-in_err-try_write-3.ensures.0
    (Failed-chained _ _ _ _ _ _ _ _ c.loop-byte.invariant c.in_ok-try_write-2.ensures.bytes escape
    (escape_stopped c.args.prefix.now c.args.text.now c.loop-byte.rest.now
    _ c.in-Some.others.now _ _ c.split_at.ensures.front c.plain_len.ensures
    (sym c.split_at.ensures.back ∙ c.in-Some.ensures.cases.0) _ _ c.loop-byte.invariant.bytes _
    c.in_ok-try_write-2.ensures.bytes.bytes _ escape.bytes))

pub loop-byte-preserved : goal.loop-byte-preserved
loop-byte-preserved g c =
    let same = rw c.put_escape-at.array_long at
    (take_rest c.put_escape-at.new.room c.put_escape-at.result ∙ c.put_escape-at.ensures.text) in
    let escape = rw same at c.in_ok-try_write-3.ensures.bytes in
    Added-chained _ _ _ _ _ _ _ _ c.loop-byte.invariant c.in_ok-try_write-2.ensures.bytes escape
    (escape_sent c.args.prefix.now c.args.text.now c.loop-byte.rest.now
    _ c.in-Some.others.now _ _ c.split_at.ensures.front c.plain_len.ensures
    (sym c.split_at.ensures.back ∙ c.in-Some.ensures.cases.0) _ _ c.loop-byte.invariant.bytes _
    c.in_ok-try_write-2.ensures.bytes.bytes _ escape.bytes)

pub returns-clause-bytes : goal.returns-clause-bytes
returns-clause-bytes g c =
    let prefix = c.args.prefix.now in
    let text = c.args.text.now in
    Emits-after (Just (prefix ++ escaped text)) (λ s n. Just (34 ∷ [])) (Just (whole prefix text)) _ _ _
    (λ x y p q. rw (p, q) (append_assoc prefix (escaped text) (34 ∷ [])))
    (Added-chain _ _ _ _ _ c.loop-byte.invariant _ c.in_ok-try_write-2.ensures.bytes
    (last_sent prefix text c.loop-byte.rest.now _ _ c.split_at.ensures.front c.plain_len.ensures _ _
    c.loop-byte.invariant.bytes
    (sym c.split_at.ensures.back ∙ nil_from_length _ c.in_default.ensures.cases) _
    c.in_ok-try_write-2.ensures.bytes.bytes))
    _ c.try_write_char.ensures.bytes
