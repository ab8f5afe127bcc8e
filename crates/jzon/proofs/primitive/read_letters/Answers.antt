use Rattle.jzon_base.proofs.Common.{◌≡◌, ◌+◌, suc, ◌∷◌, ◌∙◌, sym, ap, subst, arith, drop, drop-cons, add-one, get_or}
use Rattle.jzon_base.proofs.Common.{true, false, IsCharBoundary-after_ascii}
use Rattle.jzon.specs.Private.Machine.{from, past_letter, Reports}
use Rattle.jzon.proofs.Containers.LiteralLetters.{letter_read, letter_missing}
use Rattle.jzon.proofs.primitive.read_letters.Goals as goal

pub returns-then-not-has_byte-clause-outcome : goal.returns-then-not-has_byte-clause-outcome
returns-then-not-has_byte-clause-outcome c r fs v =
    let k = c.loop-letter.letter-index in
    let letters = c.args.letters.now in
    let next : drop k letters ≡ get_or letters k 0 ∷ drop (suc k) letters = drop-cons letters k 0
    c.loop-letter-test.true in
    subst (Reports c.args.source.now c.fault_at.result)
    (sym (c.loop-letter.invariant.2 r fs v ∙ ap (λ ls. from r c.args.source.now (past_letter fs v ls)
    c.loop-letter.index) next
    ∙ letter_missing r c.args.source.now c.loop-letter.index (get_or letters k 0) (drop (suc k) letters) fs v
    c.utf8.source c.loop-letter.invariant.1
    (c.requires.ascii k) (λ h. let no : c.has_byte.result ≡ true = c.has_byte.ensures.1 h in let yes : c.has_byte.result
    ≡ false = c.if-not-has_byte.true in cc)))
    c.fault_at.ensures

pub loop-letter-preserved : goal.loop-letter-preserved
loop-letter-preserved c =
    let k = c.loop-letter.letter-index in
    let letters = c.args.letters.now in
    let here = c.has_byte.ensures.0 c.if-not-has_byte.false in
    let next : drop k letters ≡ get_or letters k 0 ∷ drop (k + 1) letters =
    drop-cons letters k 0 c.loop-letter-test.true ∙ ap (λ n. get_or letters k 0 ∷ drop n letters) (sym (add-one k)) in (
      omega (arith, c.loop-letter.invariant.0),
      IsCharBoundary-after_ascii c.args.source.now c.loop-letter.index c.utf8.source here.0
          (let lt = c.requires.ascii k in omega (arith, here.1, lt)),
      λ r fs v. c.loop-letter.invariant.2 r fs v ∙ ap (λ ls. from r c.args.source.now (past_letter fs v ls)
          c.loop-letter.index) next
          ∙ letter_read r c.args.source.now c.loop-letter.index (get_or letters k 0) (drop (k + 1) letters) fs v
          c.utf8.source c.loop-letter.invariant.1
          here.0 here.1 (c.requires.ascii k),
    )
