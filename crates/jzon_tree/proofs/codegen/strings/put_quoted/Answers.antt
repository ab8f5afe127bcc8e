use Rattle.jzon_base.proofs.Common.{◌+◌, ◌++◌, ◌∷◌, [], ◌∙◌, ap, arith, sym, length, set, take}
use Rattle.jzon_tree.proofs.Printing.ByteEnds.{put_in_quotes, quotes_put}
use Rattle.jzon_tree.proofs.Printing.PlainRuns.{escaped-plain}
use Rattle.jzon_tree.proofs.codegen.strings.put_quoted.Goals as goal

pub returns-then-not-seeded-clause-text : goal.returns-then-not-seeded-clause-text
returns-then-not-seeded-clause-text c =
    let text = c.args.string.now in
    let start = c.args.start in
    let put = c.put_if_plain.new.bytes in
    let yes = c.if-not-put_if_plain.false in
    ap (λ k. take (start + (length text + 2)) (set (set put start 34) k 34)) (omega arith)
    ∙ quotes_put c.args.room.now put text start (omega (arith, c.requires.room, c.requires.few))
    c.put_if_plain.ensures.len (c.put_if_plain.ensures.text yes)
    ∙ ap (λ w. take start c.args.room.now ++ 34 ∷ (w ++ 34 ∷ []))
    (sym (escaped-plain text (c.put_if_plain.ensures.plain yes)))

pub returns-else-not-seeded-clause-text : goal.returns-else-not-seeded-clause-text
returns-else-not-seeded-clause-text c =
    let text = c.args.string.now in
    let yes = c.if-not-put_if_plain.false in
    put_in_quotes c.args.room.now c.put_if_plain.new.bytes text c.args.start 34 c.requires.room
    (c.requires.quotes c.if-not-seeded.false) (omega (arith, c.requires.few)) (c.put_if_plain.ensures.text yes)
    (c.put_if_plain.ensures.next yes) c.put_if_plain.ensures.len
    ∙ ap (λ w. take c.args.start c.args.room.now ++ 34 ∷ (w ++ 34 ∷ []))
    (sym (escaped-plain text (c.put_if_plain.ensures.plain yes)))
