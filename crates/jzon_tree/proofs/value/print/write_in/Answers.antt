use Rattle.jzon_base.proofs.Common.{rules, ap, ◌∙◌, sym}
use Rattle.jzon_tree.specs.Private.Buffered.{known_len, untaken}
use Rattle.jzon_tree.specs.View.{view}
use Rattle.jzon_tree.specs.Writing.{Writes}
use Rattle.jzon_tree.proofs.Printing.HeldBytes.{finished, sent_through}
use Rattle.jzon_tree.proofs.value.print.write_in.Goals as goal

pub returns-clause-writing : goal.returns-clause-writing
returns-clause-writing g c =
    let b = c.new-buffered.result in
    let n = c.finish-answer.new.self in
    let texts = Writes (g.L.Layout.style c.args.layout) 0 (view c.args.json.now) in
    rw (sym c.new-buffered.ensures.writer)
    (sent_through texts g.S.Start.start b.inner.ghost_name n.inner.ghost_name (untaken b) (untaken n)
    c.new-buffered.ensures.bytes c.finish-answer.result _ (g.W.Write.contents n.inner.now) _
    (c.requires.start ∙ ap (λ w. known_len (g.W.Write.contents w)) (sym c.new-buffered.ensures.writer))
    (λ name. search rules) c.finish-answer.ensures.all
    (finished texts c.write_outlet-answer.result c.finish-answer.result _ _ _ c.write_outlet-answer.ensures.writing
    c.finish-answer.ensures.bytes c.finish-answer.ensures.error))
