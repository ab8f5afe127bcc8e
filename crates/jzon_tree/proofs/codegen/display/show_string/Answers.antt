use Rattle.jzon_base.proofs.Common.{[], ◌∷◌, ◌∙◌, sym, refl, ap, List, ℕ, has_written_append, has_written_of_eq}
use Rattle.jzon_base.proofs.Common.{prefix_len-le-length, nil_from_length, take_rest}
use Rattle.jzon_base.specs.Private.PlainBytes.{is_plain}
use Rattle.jzon_tree.specs.Text.{escaped}
use Rattle.jzon_tree.proofs.Printing.StringRuns.{needs_escape}
use Rattle.jzon_tree.proofs.Printing.FormattedPieces.{escape_shown, text_shown}
use Rattle.jzon_tree.proofs.codegen.display.show_string.Goals as goal

pub split_at-requires : goal.split_at-requires
split_at-requires g c = rw c.plain_len.ensures (prefix_len-le-length is_plain c.loop-byte.rest.now)

pub loop-byte-init : goal.loop-byte-init
loop-byte-init g c = λ plain. (
  34 ∷ [],
  c.in_ok-write_str.ensures.writes plain refl,
  ap (λ (bs : List ℕ). 34 ∷ escaped bs)
      c.as_bytes-rest.ensures.value,
)

pub put_escape-at-requires : goal.put_escape-at-requires
put_escape-at-requires g c = needs_escape c.loop-byte.rest.now c.in-Some.others.now _ _ c.plain_len.ensures
    (sym c.split_at.ensures.back ∙ c.in-Some.ensures.cases.0)

pub loop-byte-preserved : goal.loop-byte-preserved
loop-byte-preserved g c = λ plain.
    let so_far = c.loop-byte.invariant plain in
    let run = c.in_ok-show_bytes.ensures so_far.1.plain refl in
    let same = rw c.put_escape-at.array_long at
    (take_rest c.put_escape-at.new.room c.put_escape-at.result ∙ c.put_escape-at.ensures.text) in
    let escape = (rw same at c.in_ok-show_bytes-2.ensures) run.plain refl in
    let took = g.W.Write.write_str_gives in (
      _,
      has_written_append took _ _ _ _ _ (has_written_append took _ _ _ _ _ so_far.1 run) escape,
      escape_shown c.args.text.now c.loop-byte.rest.now _ _ c.split_at.ensures.front c.plain_len.ensures _
          c.in-Some.others.now
          (sym c.split_at.ensures.back ∙ c.in-Some.ensures.cases.0) so_far.0 so_far.2,
    )

pub returns : goal.returns
returns g c = λ plain ok.
    let so_far = c.loop-byte.invariant plain in
    let run = c.in_ok-show_bytes.ensures so_far.1.plain refl in
    let quote = c.write_str-2.ensures.writes run.plain ok in
    let took = g.W.Write.write_str_gives in
    has_written_of_eq took _ _ _ _
    (text_shown c.args.text.now c.loop-byte.rest.now _ _ c.split_at.ensures.front c.plain_len.ensures
    (sym c.split_at.ensures.back ∙ nil_from_length _ c.in_default.ensures.cases) so_far.0 so_far.2)
    (has_written_append took _ _ _ _ _ (has_written_append took _ _ _ _ _ so_far.1 run) quote)
