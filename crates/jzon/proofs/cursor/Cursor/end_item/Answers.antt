use Rattle.jzon_base.proofs.Common.{◌≡◌, ◌∙◌, ◌⊎◌, inl, inr, ◌≤◌, ◌<◌, ◌+◌, ℕ, get_or, refl, sym, arith, true, false, not}
use Rattle.jzon_base.proofs.Common.{nat_eq, nat_tests, eqb-true, Bool, if◌then◌else◌, Ok, IsCharBoundary}
use Rattle.jzon_base.proofs.Common.{IsCharBoundary-after_ascii}
use Rattle.jzon.specs.declared.cursor.Cursor.{Cursor}
use Rattle.jzon.specs.declared.container_kind.ContainerKind.{ContainerKind}
use Rattle.jzon.specs.Private.Brackets.{closer, after_closer, after_comma}
use Rattle.jzon.specs.Private.Cursor.{left, IsPast, IsAfter, EndsItem}
use Rattle.jzon.specs.Private.Machine.{State, after_value, allows_whitespace, from}
use Rattle.jzon.proofs.Containers.ContainerTokens.{closes, comma_goes, closer_bounds, item_stops}
use Rattle.jzon.proofs.Containers.FrameViews.{byte_within}
use Rattle.jzon.proofs.Texts.Cursors.{utf8_of, ReadTo}
use Rattle.jzon.proofs.Texts.ReportedErrors.{reported}
use Rattle.jzon.proofs.cursor.Cursor.end_item.Goals.{After-row_known-1, then-next-ne44+then-next-closer+else-next-ne44-2}
use Rattle.jzon.proofs.cursor.Cursor.end_item.Goals.{else-next-ne44-2-via-then-next-ne44-2+else-next-closer-2, else-next-ne44}
use Rattle.jzon.proofs.cursor.Cursor.end_item.Goals.{else-next-ne44-2-via-else-next-ne44-2, else-next-ne44-via-else-next-ne44}
use Rattle.jzon.proofs.cursor.Cursor.end_item.Goals.{else-next-ne44-via-then-next-ne44+else-next-closer}
use Rattle.jzon.proofs.cursor.Cursor.end_item.Goals as goal

-- a comma or the closing bracket is at this offset, after whitespace alone
record Found (t : Cursor) (end : ℕ) (kind : ContainerKind) (at next : ℕ) : Type 0 where
  pub boundary : IsCharBoundary t.source.now at
  pub within : end ≤ at
  pub same : (p : State) → allows_whitespace p ≡ true → from t.reading t.source.now p end
      ≡ from t.reading t.source.now p at
  pub here : get_or t.source.now at 0 ≡ next
  pub token : (next ≡ 44) ⊎ (next ≡ closer kind)

found : (c : After-row_known-1) → Found c.args.self.now c.args.end c.args.kind c.if-next-ne44.at c.if-next-ne44.next
found c = elim c.if-next-ne44.branch [
  | then-next-ne44+then-next-closer+else-next-ne44-2 w ↦ rw (w.at-is, w.next-is) (record {
    boundary = w.skip_whitespace-at.ensures.boundary;
    within = w.skip_whitespace-at.ensures.within;
    same = w.skip_whitespace-at.ensures.outcome;
    here = sym w.byte_at-next-then-next-closer.ensures;
    token = elim w.else-next-ne44-2.branch [
      | else-next-ne44-2-via-then-next-ne44-2+else-next-closer-2 x ↦
          inr (x.if-next-closer-2.false ∙ x.closer-then-next-ne44-2.ensures)
      | else-next-ne44-2-via-else-next-ne44-2 x ↦ inl x.if-next-ne44-2.false
    ];
  })
  | else-next-ne44 w ↦ rw (w.at-is, w.next-is) (record {
    boundary = c.requires.boundary;
    within = omega arith;
    same = λ p allows. refl;
    here = sym c.byte_at-next.ensures;
    token = elim w.else-next-ne44.branch [
      | else-next-ne44-via-then-next-ne44+else-next-closer x ↦ inr (x.if-next-closer.false ∙ x.closer.ensures)
      | else-next-ne44-via-else-next-ne44 x ↦ inl x.if-next-ne44.false
    ];
  })
]

token_bounds : (kind : ContainerKind) (next : ℕ) → (next ≡ 44) ⊎ (next ≡ closer kind) → (0 < next) × (next < 128)
token_bounds kind next (inl e) = (omega (arith, e), omega (arith, e))
token_bounds kind next (inr e) = (omega (arith, e, (closer_bounds kind).0), omega (arith, e, (closer_bounds kind).1))

pub returns-then-next-closer-2 : goal.returns-then-next-closer-2
returns-then-next-closer-2 c p fs v here before =
    let t = c.args.self.now in
    let u : Cursor = record t {
      index = c.skip_whitespace-at.result;
      boundary = c.skip_whitespace-at.ensures.boundary;
      past_whitespace = c.skip_whitespace-at.ensures.stop;
    } in
    reported t.source.now c.fault_at.result _ _
    (before ∙ c.skip_whitespace-at.ensures.outcome (after_value fs v) refl
    ∙ item_stops c.args.kind u fs v here (λ e. c.if-next-ne44-2.true (c.byte_at-next-then-next-closer.ensures ∙ e))
    (λ e. c.if-next-closer-2.true (c.byte_at-next-then-next-closer.ensures ∙ e ∙ sym c.closer-then-next-ne44-2.ensures)))
    c.fault_at.ensures

pub go_to-requires : goal.go_to-requires
go_to-requires c =
    let t = c.args.self.now in
    let f = found (goal.at.go_to-requires c).After-row_known-1 in
    let (some, ascii) = token_bounds c.args.kind c.if-next-ne44.next f.token in
    IsCharBoundary-after_ascii t.source.now c.if-next-ne44.at (utf8_of t) (byte_within t.source.now _ _ f.here some)
    (rw f.here ascii)

goes : (t u : Cursor) (end : ℕ) (kind : ContainerKind) (at next : ℕ) → Found t end kind at next → t.index ≤ end
    → IsPast t.reading t.source.now (at + 1) u → EndsItem t end kind (Ok (not (nat_eq next 44))) u
goes t u end kind at next f within moved p fs v here before = by_comma (nat_eq next 44) refl
  where
    read : ReadTo t p (after_value fs v) at
    read = record { boundary = f.boundary; within = omega (arith, within, f.within); same = before ∙ f.same _ refl }

    bracket : nat_eq next 44 ≡ false → (next ≡ 44) ⊎ (next ≡ closer kind) → next ≡ closer kind
    bracket other (inl e) = grind (arith, nat_tests)
    bracket other (inr e) = e

    by_comma : (b : Bool) → nat_eq next 44 ≡ b
        → IsAfter t u × (left t p ≡ left u (if not b then after_closer fs v else after_comma fs v))
    by_comma true e = comma_goes kind t u p at fs v here read moved (f.here ∙ eqb-true next 44 e)
    by_comma false e = closes kind t u p at fs v here read moved (f.here ∙ bracket e f.token)

pub returns : goal.returns
returns c = goes _ _ _ _ _ _ (found (goal.at.returns c).After-row_known-1) c.requires.within c.go_to.ensures
