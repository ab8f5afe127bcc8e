use Rattle.jzon_base.proofs.Common.{◌≡◌, Bool, ◌∙◌, Err, refl, sym, ap, subst, true≢false, err_from_is_err_and}
use Rattle.jzon_tree.specs.View.{view}
use Rattle.jzon.specs.Private.Cursor.{left}
use Rattle.jzon.specs.Private.Machine.{no_frames, before, after_value, Reads}
use Rattle.jzon.specs.Private.Targets.{MayBegin}
use Rattle.jzon.specs.declared.cursor.Cursor.{Cursor}
use Rattle.jzon.specs.declared.stop.Stop.TheVariants.{Memory}
use Rattle.jzon.proofs.Texts.Cursors.{token_goes, reads_from}
use Rattle.jzon.proofs.parser.read_primitive.Goals as goal

begins : (t : Cursor) (exact : Bool) → t.reading.exact ≡ exact → MayBegin t.reading no_frames t.source.now t.index exact
begins t exact same = record { exactness = same; shallow = refl; no_space = t.past_whitespace; no_end = λ f. absurd (true≢false (sym f)) }

pub returns-in_err-end-clause-outcome : goal.returns-in_err-end-clause-outcome
returns-in_err-end-clause-outcome c =
    let t = c.args.cursor.now in
    let failed = err_from_is_err_and c.from_residual.result c.from_residual.ensures.1 in
    subst (λ z. Reads t.source.now z (left t (before no_frames))) (sym failed.1)
    (rw failed.2 (c.in_err-end.ensures.outcome.1 t.reading no_frames (begins t c.exact_numbers-exact.result (sym c.exact_numbers-exact.ensures))))

pub returns-in_err-end-clause-memory : goal.returns-in_err-end-clause-memory
returns-in_err-end-clause-memory c e =
    let failed = err_from_is_err_and c.from_residual.result c.from_residual.ensures.1 in
    let of_value : Err c.in_err-end.field-0.0 ≡ Err Memory = cc (failed.1, failed.2, e) in
    c.in_err-end.ensures.memory of_value

pub returns-clause-outcome : goal.returns-clause-outcome
returns-clause-outcome c =
    let t = c.args.cursor.now in
    let u = c.go_to.new.self in
    let put = c.in_ok-end.ensures.outcome in
    let read = token_goes t u (before no_frames) (after_value no_frames (view put.0)) c.in_ok-end.end
    c.go_to.ensures c.in_ok-end.ensures.end.0 refl (put.2 t.reading no_frames (begins t c.exact_numbers-exact.result (sym c.exact_numbers-exact.ensures))) in
    reads_from _ _ u (after_value no_frames (view c.put_primitive.new.target)) c.expect_end.result
    read.0.text
    (read.1 ∙ ap (λ v. left u (after_value no_frames (view v))) (sym put.1))
    c.expect_end.ensures.outcome
