use Rattle.jzon_base.proofs.Common.{◌≡◌, ◌∙◌, get_or, refl, sym, arith, lit<, IsCharBoundary-after_ascii}
use Rattle.jzon.specs.Private.Machine.{after_key}
use Rattle.jzon.proofs.Containers.ContainerTokens.{colon_read, colon_missing}
use Rattle.jzon.proofs.Containers.FrameViews.{byte_within}
use Rattle.jzon.proofs.Texts.Cursors.{utf8_of, read_to_here, reached, token_goes, goes_after, reported_on}
use Rattle.jzon.proofs.Texts.ReportedErrors.{reported}
use Rattle.jzon.proofs.cursor.Cursor.pass_colon.Goals as goal

pub go_to-requires : goal.go_to-requires
go_to-requires c =
    let t = c.args.self.now in
    let is : get_or t.source.now c.args.end 0 ≡ 58 = sym c.byte_at.ensures ∙ c.if-byte_at-eq58.true in
    IsCharBoundary-after_ascii t.source.now c.args.end (utf8_of t)
    (byte_within t.source.now c.args.end 58 is (lit< tt)) (omega (arith, is))

pub returns-then-byte_at-eq58 : goal.returns-then-byte_at-eq58
returns-then-byte_at-eq58 c p fs es k before =
    colon_read c.args.self.now c.go_to.new.self p c.args.end fs es k
    (record { boundary = c.requires.boundary; within = omega (arith, c.requires.further); same = before })
    c.go_to.ensures (sym c.byte_at.ensures ∙ c.if-byte_at-eq58.true)

pub returns-then-peek-ne58 : goal.returns-then-peek-ne58
returns-then-peek-ne58 c p fs es k before =
    let u = c.go_to-2.new.self in
    reported_on c.fault.result
    (reached (token_goes c.args.self.now u p (after_key fs es k) c.args.end c.go_to-2.ensures c.requires.further refl
    before))
    (reported u.source.now c.fault.result _ _
    (colon_missing u fs es k (λ e. c.if-peek-ne58.true (c.peek.ensures ∙ e))) c.fault.ensures)

pub returns : goal.returns
returns c p fs es k before =
    let u = c.go_to-2.new.self in
    goes_after _
    (reached (token_goes c.args.self.now u p (after_key fs es k) c.args.end c.go_to-2.ensures c.requires.further refl
    before))
    (colon_read u c.bump.new.self _ u.index fs es k (read_to_here u _) c.bump.ensures
    (sym c.peek.ensures ∙ c.if-peek-ne58.false))
