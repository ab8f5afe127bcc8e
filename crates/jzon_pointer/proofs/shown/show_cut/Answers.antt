use Rattle.std.proofs.Common.{◌≡◌, ◌+◌, ◌-◌, ◌++◌, ◌∷◌, [], chars, refl, sym, ap, ◌∙◌, map-id, length, length-append, arith}
use Rattle.std.proofs.Output.{has_written_append, has_written_of_eq}
use Rattle.std.proofs.lemmas.Iterator.{YieldsList-from_chars}
use Rattle.std.proofs.lemmas.Iterator.Consumers.{YieldsList-end, count_from_yields_List}
use Rattle.jzon_pointer.specs.Shown.{pieces}
use Rattle.jzon_pointer.proofs.ShownSteps.{pieces-next}
use Rattle.jzon_pointer.proofs.shown.show_cut.Goals as goal

pub loop-ch-preserved : goal.loop-ch-preserved
loop-ch-preserved g c =
    let more : length (c.loop-ch.yielded ++ c.in-Some.ch ∷ []) ≡ length c.loop-ch.yielded + 1 =
    length-append c.loop-ch.yielded (c.in-Some.ch ∷ []) in
    record {
      counted = omega (arith, more, c.loop-ch.invariant.counted, c.saturating_add-at.ensures);
      written = λ plain.
          let so_far = c.loop-ch.invariant.written plain in
          let took = g.W.Write.write_str_gives in
          has_written_of_eq took _ _ _ _ (pieces-next c.args.front c.saturating_sub-last.result c.loop-ch.at c.in-Some.ch
          c.loop-ch.yielded c.loop-ch.invariant.counted (omega arith) (omega arith))
          (has_written_append took _ _ _ _ _ so_far (c.in_ok-show_piece.ensures so_far.plain refl));
    }

pub returns : goal.returns
returns g c = λ plain ok.
    let text = c.args.text.now in
    let took = g.W.Write.write_str_gives in
    let end = YieldsList-end (YieldsList-from_chars text c.utf8.text cc) c.loop-ch.yielded _ c.loop-ch.yielded_by _ _ c.in-None.is c.next.ensures.steps in
    let count = count_from_yields_List _ _ c.count.ensures.ran (YieldsList-from_chars text c.utf8.text cc) in
    let last : c.saturating_sub-last.result ≡ length (chars text) - c.args.back = omega (arith, count, c.saturating_sub-last.ensures) in
    has_written_of_eq took _ _ _ _
    (ap (pieces c.args.front c.saturating_sub-last.result 0) (sym (map-id c.loop-ch.yielded) ∙ end.0)
    ∙ ap (λ n. pieces c.args.front n 0 (chars text)) last)
    (c.loop-ch.invariant.written plain)
