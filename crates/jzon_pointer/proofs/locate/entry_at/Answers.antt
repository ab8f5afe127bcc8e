use Rattle.std.proofs.Common.{◌∙◌}
use Rattle.jzon_pointer.proofs.LocateMembers.{no_colon, no_quote, reads_entry}
use Rattle.jzon_pointer.proofs.locate.entry_at.Goals as goal

pub returns-then-byte_at-ne34-clause-entry : goal.returns-then-byte_at-ne34-clause-entry
returns-then-byte_at-ne34-clause-entry c =
    no_quote c.args.bytes.now c.args.name (λ e. c.if-byte_at-ne34.true (c.byte_at.ensures.byte ∙ e))

pub returns-then-byte_at-ne58-clause-entry : goal.returns-then-byte_at-ne58-clause-entry
returns-then-byte_at-ne58-clause-entry c =
    no_colon c.args.bytes.now c.args.name c.string_end-key_end.result c.whitespace_end-colon.result
    c.string_end-key_end.ensures.rest c.whitespace_end-colon.ensures.rest
    (λ e. c.if-byte_at-ne58.true (c.byte_at-2.ensures.byte ∙ e))

pub returns-clause-entry : goal.returns-clause-entry
returns-clause-entry c =
    reads_entry c.args.bytes.now c.args.name c.whitespace_end-colon.result
    (record { key_end = c.string_end-key_end.result; value = c.whitespace_end.result })
    c.string_end-key_end.ensures.rest c.whitespace_end-colon.ensures.rest c.whitespace_end.ensures.rest
