use Rattle.jzon_base.proofs.Common.{◌≡◌, ◌≢◌, ◌∙◌, ◌+◌, ◌-◌, ◌&&◌, [], sym, ap, subst, arith, true, false, lit<}
use Rattle.jzon_base.proofs.Common.{slice_range, string_bytes, if◌then◌else◌, is_some, IsCharBoundary-after_ascii, Result, Ok, Err, OnOk}
use Rattle.jzon_base.specs.PairList.{find}
use Rattle.jzon_base.specs.Tokens.{end_object}
use Rattle.jzon.specs.Private.Brackets.{closer}
use Rattle.jzon.specs.Private.Cursor.{next_byte}
use Rattle.jzon.specs.Private.Machine.{as_key, left_at, before, object_frame}
use Rattle.jzon.specs.Private.OpenContainers.{before_item, entries_so_far, frames_around, frames_here, key_added}
use Rattle.jzon.specs.Private.OpenContainers.{HasAllValues}
use Rattle.jzon.proofs.Containers.ContainerSteps.{open_key}
use Rattle.jzon.proofs.Containers.ContainerTokens.{key_closes, key_missing}
use Rattle.jzon.proofs.Containers.FrameViews.{byte_within}
use Rattle.jzon.proofs.Containers.OpenItems.{at_key, no_key_mark, no_entries, key_here, key_keeps, key_awaits}
use Rattle.jzon.proofs.Containers.OpenItems.{goes_as}
use Rattle.jzon.proofs.Strings.Quotes.{key_closed}
use Rattle.jzon.proofs.Texts.Cursors.{utf8_of, reported_on, fails_on}
use Rattle.jzon.specs.declared.stop.Stop.TheVariants.{Duplicate}
use Rattle.jzon.proofs.Texts.FaultOffsets.{reports_duplicate}
use Rattle.jzon.proofs.Texts.ReportedErrors.{reported, reported_again}
use Rattle.jzon.proofs.parser.Parser.read_key.Goals as goal

pub returns-then-peek-ne34-clause-outcome : goal.returns-then-peek-ne34-clause-outcome
returns-then-peek-ne34-clause-outcome c =
    let t = c.args.self.now.cursor in
    let s = c.args.self.now.stacks in
    let some : entries_so_far s.innermost ≡ [] → next_byte t ≢ end_object =
    λ none. subst (λ b. next_byte t ≢ closer b) c.requires.object (c.requires.before.some
    (no_entries s.innermost (subst (λ b. HasAllValues b s.innermost) c.requires.object c.requires.before.even) none)) in
    reported_on c.fault.result (at_key t s c.requires.object)
    (reported t.source.now c.fault.result _ _
    (key_missing t (frames_around s) (entries_so_far s.innermost) (no_key_mark t s c.requires.before.room)
    (λ e. c.if-peek-ne34.true (c.peek.ensures ∙ e)) some)
    c.fault.ensures)

pub read_string-requires : goal.read_string-requires
read_string-requires c =
    let t = c.args.self.now.cursor in
    let quote : next_byte t ≡ 34 = sym c.peek.ensures ∙ c.if-peek-ne34.false in
    IsCharBoundary-after_ascii t.source.now t.index (utf8_of t) (byte_within t.source.now t.index 34 quote (lit< tt))
    (omega (arith, quote))

pub returns-in_err-spelled-clause-outcome : goal.returns-in_err-spelled-clause-outcome
returns-in_err-spelled-clause-outcome c =
    let t = c.args.self.now.cursor in
    let s = c.args.self.now.stacks in
    let fs = frames_around s in
    let es = entries_so_far s.innermost in
    let quote : next_byte t ≡ 34 = sym c.peek.ensures ∙ c.if-peek-ne34.false in
    fails_on _ c.from_residual.result _ c.from_residual.ensures.1 (at_key t s c.requires.object)
    (reported_again t.source.now _ _ _
    (open_key t.reading t.source.now t.index fs es (utf8_of t) t.boundary
    (byte_within t.source.now t.index 34 quote (lit< tt)) quote (no_key_mark t s c.requires.before.room))
    (c.in_err-spelled.ensures.outcome t.reading (as_key fs es (left_at t.source.now t.index))))

pub text-requires-clause-begin : goal.text-requires-clause-begin
text-requires-clause-begin c =
    let t = c.args.self.now.cursor in
    let quote : next_byte t ≡ 34 = sym c.peek.ensures ∙ c.if-peek-ne34.false in
    IsCharBoundary-after_ascii t.source.now t.index (utf8_of t) (byte_within t.source.now t.index 34 quote (lit< tt))
    (omega (arith, quote))

pub returns-then-branch-clause-outcome : goal.returns-then-branch-clause-outcome
returns-then-branch-clause-outcome c =
    let t = c.args.self.now.cursor in
    let s = c.args.self.now.stacks in
    let fs = frames_around s in
    let es = entries_so_far s.innermost in
    let end = c.in_ok-spelled.spelled.end in
    let text = if c.in_ok-spelled.spelled.is_escaped then string_bytes c.read_string.new.buffer else slice_range
    t.source.now (t.index + 1) (end - 1) in
    let known : (t.reading.strict && is_some (find text es)) ≡ true =
    ap (λ k. t.reading.strict && is_some (find k es)) (sym c.text.ensures.text)
    ∙ ap (λ z. z && is_some (find c.text.result.0.now es)) (sym c.requires.strict)
    ∙ sym c.in_ok-push_key.ensures.rejected ∙ c.if-branch.true in
    reported_on (Duplicate t.index) (at_key t s c.requires.object)
    (reported t.source.now (Duplicate t.index) _ _
    (key_closes t fs es text end (sym c.peek.ensures ∙ c.if-peek-ne34.false) (no_key_mark t s c.requires.before.room)
    (c.in_ok-spelled.ensures.outcome t.reading (as_key fs es (left_at t.source.now t.index)))
    ∙ key_closed t.reading t.source.now fs es (left_at t.source.now t.index) text end true known)
    (reports_duplicate t.source.now t.index (end - 1) (utf8_of t) t.boundary c.in_ok-spelled.ensures.quote.1
    (omega (arith, c.in_ok-spelled.ensures.quote.0))))

pub returns-clause-outcome : goal.returns-clause-outcome
returns-clause-outcome c =
    let t = c.args.self.now.cursor in
    let s = c.args.self.now.stacks in
    let u = c.push_key.new.self in
    let fs = frames_around s in
    let es = entries_so_far s.innermost in
    let end = c.in_ok-spelled.spelled.end in
    let text = if c.in_ok-spelled.spelled.is_escaped then string_bytes c.read_string.new.buffer else slice_range
    t.source.now (t.index + 1) (end - 1) in
    let name = c.text.result.0.now in
    let new : (t.reading.strict && is_some (find text es)) ≡ false =
    ap (λ k. t.reading.strict && is_some (find k es)) (sym c.text.ensures.text)
    ∙ ap (λ z. z && is_some (find name es)) (sym c.requires.strict)
    ∙ sym c.in_ok-push_key.ensures.rejected ∙ c.if-branch.false in
    let even = subst (λ b. HasAllValues b s.innermost) c.requires.object c.requires.before.even in
    let pushed = c.in_ok-push_key.ensures.pushed ∙ ap (λ b. if b then s else key_added s name) c.if-branch.false in
    let next = key_here s u name c.requires.object even pushed in
    goes_as t c.pass_colon.new.self (before_item s) c.pass_colon.result (λ _. before (object_frame fs es text))
    (λ _. before (frames_here u))
    (λ _. ap (λ k. before (object_frame fs es k)) (sym c.text.ensures.text) ∙ ap before next)
    (c.pass_colon.ensures (before_item s) fs es text ((at_key t s c.requires.object).same
    ∙ key_closes t fs es text end (sym c.peek.ensures ∙ c.if-peek-ne34.false) (no_key_mark t s c.requires.before.room)
    (c.in_ok-spelled.ensures.outcome t.reading (as_key fs es (left_at t.source.now t.index)))
    ∙ key_closed t.reading t.source.now fs es (left_at t.source.now t.index) text end false new))

on_ok : {T E P : Type 0} (r : Result T E) → P → OnOk r P
on_ok (Ok x) p = p
on_ok (Err e) p = tt

pub returns-clause-kept : goal.returns-clause-kept
returns-clause-kept c =
    let s = c.args.self.now.stacks in
    let name = c.text.result.0.now in
    on_ok c.pass_colon.result (key_keeps s c.push_key.new.self name (c.in_ok-push_key.ensures.pushed
    ∙ ap (λ b. if b then s else key_added s name) c.if-branch.false))

pub returns-clause-awaits : goal.returns-clause-awaits
returns-clause-awaits c =
    let s = c.args.self.now.stacks in
    let name = c.text.result.0.now in
    let even = subst (λ b. HasAllValues b s.innermost) c.requires.object c.requires.before.even in
    on_ok c.pass_colon.result (key_awaits s c.push_key.new.self name even (c.in_ok-push_key.ensures.pushed
    ∙ ap (λ b. if b then s else key_added s name) c.if-branch.false))
