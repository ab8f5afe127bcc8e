use Rattle.jzon_base.proofs.Common.{◌≡◌, ◌∙◌, Err, inl, inr, refl, sym, ap, subst, cond, lit<, chars}
use Rattle.jzon_base.proofs.Common.{err_from_is_err_and}
use Rattle.jzon_tree.specs.View.{view}
use Rattle.jzon.specs.Answer.{TakesMemory}
use Rattle.jzon.specs.Private.Brackets.{opener, empty_container, after_opener}
use Rattle.jzon.specs.Private.Cursor.{left, next_byte}
use Rattle.jzon.specs.Private.Machine.{no_frames, before, after_value, from, Reads}
use Rattle.jzon.specs.declared.container_kind.ContainerKind.{ContainerKind}
use Rattle.jzon.specs.declared.container_kind.ContainerKind.TheVariants.{Array, Object}
use Rattle.jzon.specs.declared.cursor.Cursor.{Cursor}
use Rattle.jzon.proofs.Containers.FrameViews.{byte_within}
use Rattle.jzon.proofs.Texts.Cursors.{utf8_of, reads_from}
use Rattle.jzon.proofs.Texts.ReportedErrors.{has_character}
use Rattle.jzon.proofs.parser.read.Goals as goal

takes_memory : (t : Cursor) (b : ContainerKind) → next_byte t ≡ opener b → TakesMemory (chars t.source.now)
takes_memory t Array e =
    inr (inl (has_character t.source.now t.index 91 (utf8_of t) (byte_within t.source.now t.index 91 e (lit< tt)) e
    (lit< tt)))
takes_memory t Object e =
    inr (inr (has_character t.source.now t.index 123 (utf8_of t) (byte_within t.source.now t.index 123 e (lit< tt)) e
    (lit< tt)))

pub returns-in_default-clause-outcome : goal.returns-in_default-clause-outcome
returns-in_default-clause-outcome c =
    let past = c.new-cursor.ensures in
    reads_from _ _ c.new-cursor.result (before no_frames) c.read_primitive.result past.text
    (past.same (before no_frames) refl) c.read_primitive.ensures.outcome

pub returns-in_default-clause-memory : goal.returns-in_default-clause-memory
returns-in_default-clause-memory c e =
    let t = c.new-cursor.result in
    let quote : next_byte t ≡ 34 = sym c.peek-first.ensures ∙ c.read_primitive.ensures.memory e in
    subst (λ bs. TakesMemory (chars bs)) c.new-cursor.ensures.text
    (inl (has_character t.source.now t.index 34 (utf8_of t) (byte_within t.source.now t.index 34 quote (lit< tt)) quote
    (lit< tt)))

pub returns-in_err-open_container-clause-outcome : goal.returns-in_err-open_container-clause-outcome
returns-in_err-open_container-clause-outcome c =
    let t = c.new-cursor.result in
    let bytes = c.args.source.now in
    let past = c.new-cursor.ensures in
    let failed = err_from_is_err_and c.from_residual.result
    c.from_residual.ensures.1 in
    subst (λ z. Reads bytes z (from c.args.reading.now bytes (before no_frames) 0)) (sym failed.1)
    (reads_from bytes (from c.args.reading.now bytes (before no_frames) 0) t (before no_frames) (Err failed.0)
    past.text (past.same (before no_frames) refl)
    (rw failed.2 (c.in_err-open_container.ensures.outcome no_frames refl refl)))

pub returns-then-branch-clause-outcome : goal.returns-then-branch-clause-outcome
returns-then-branch-clause-outcome c =
    let u = c.open_container.new.self in
    let past = c.new-cursor.ensures in
    let read = c.in_ok-open_container.ensures.outcome no_frames refl refl in
    reads_from _ _ u (after_value no_frames (view c.empty.result)) c.expect_end.result
    (read.0.text ∙ past.text)
    (past.same (before no_frames) refl ∙ read.1
    ∙ ap (λ b. left u (cond b (after_value no_frames (empty_container c.in-Some.kind))
    (after_opener c.in-Some.kind no_frames))) c.if-branch.true
    ∙ ap (λ w. left u (after_value no_frames w)) (sym c.empty.ensures))
    c.expect_end.ensures.outcome

pub returns-clause-outcome : goal.returns-clause-outcome
returns-clause-outcome c =
    let u = c.open_container.new.self in
    let past = c.new-cursor.ensures in
    let read = c.in_ok-open_container.ensures.outcome no_frames refl refl in
    let b = c.in-Some.kind in
    reads_from _ _ u (after_opener b no_frames) c.read_container.result
    (read.0.text ∙ past.text)
    (past.same (before no_frames) refl ∙ read.1
    ∙ ap (λ z. left u (cond z (after_value no_frames (empty_container b)) (after_opener b no_frames))) c.if-branch.false)
    c.read_container.ensures

pub returns-clause-memory : goal.returns-clause-memory
returns-clause-memory c e =
    subst (λ bs. TakesMemory (chars bs)) c.new-cursor.ensures.text
    (takes_memory c.new-cursor.result c.in-Some.kind (sym c.peek-first.ensures ∙ c.in-Some.ensures))
