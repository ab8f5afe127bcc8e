-- The verdict: the automaton's outcome of a text is what its one tree means, or its one first fault (`answers`). One
-- lemma for each way to stop: `accepted`, `limit_fault` (a limit), `bad_deep_fault` (depth, at a character with which
-- no text goes on), `character_fault` (an unexpected character), `end_fault` (the end of the text); `first` says of
-- each that no fault is before it. docs/ARCHITECTURE.md walks through them.
use Rattle.jzon_base.proofs.Common.{◌≡◌, ◌⊎◌, ℕ, suc, ◌-◌, ◌<◌, ◌≤◌, List, [], ◌∷◌, ◌++◌, length, take, Option, Some}
use Rattle.jzon_base.proofs.Common.{None, inl, inr, refl, sym, subst, ap, ◌∙◌, slice_get, arith, append_assoc}
use Rattle.jzon_base.proofs.Common.{append-nil, length-append, length-map, nil_from_length, Bool, take-append-le, take-append_seam}
use Rattle.jzon_tree.specs.Value.{Value}
use Rattle.jzon.specs.Reading.{Reading}
use Rattle.jzon.specs.Grammar.{Document}
use Rattle.jzon.specs.Meaning.{meaning}
use Rattle.jzon.specs.Spelling.{Breach, deep, Cell, cell, plain, cells}
use Rattle.jzon.specs.Private.Classes.{NumberState, zero_read, whole, fraction, exponent}
use Rattle.jzon.specs.Private.Machine.{Frames, no_frames, State, before, numeral, after_value, Move, go, bad, bad_deep}
use Rattle.jzon.specs.Private.Machine.{move, Outcome, meant, refused, meant_at, last_numeral, last, outcome_on, outcome}
use Rattle.jzon.specs.Fault.{Spells, Completes, HasCompletion, AllBreakAt, Parses, Fault, limit, character}
use Rattle.jzon.specs.Fault.{IsDepthFault, IsFault, IsFirstFault}
use Rattle.jzon.specs.Laws.{HasOneTree, HasOneFault}
use Rattle.jzon.proofs.Texts.Faults.{completes_take, no_fault_at, no_fault, has_one_fault}
use Rattle.jzon.proofs.Texts.Cells.{marks_of, plain_unmarked, all_unmarked, mark_after}
use Rattle.jzon.proofs.Texts.Runs.{Meets, Follows}
use Rattle.jzon.proofs.Texts.Closing.{closer}
use Rattle.jzon.proofs.Texts.AlikeStates.{last-alike, mark-alike, IsDeep, deep_of_go, deep_of_bad_deep, deep_not_bad}
use Rattle.jzon.proofs.Texts.AlikeStates.{deep_some}
use Rattle.jzon.proofs.Texts.OneTree.{same_tree}
use Rattle.jzon.proofs.Containers.SoundValues.{sound}
use Rattle.jzon.proofs.Texts.Prefixes.{Reaches, reaches_start, reaches_next, next, next_goes, next_bad, next_bad_deep}
use Rattle.jzon.proofs.Texts.Prefixes.{closed, closed_next}

-- ---- prefixes

take_next : (f u : List ℕ) (c : ℕ) → take (suc (length f)) (f ++ (c ∷ u)) ≡ f ++ (c ∷ [])
take_next [] u c = refl
take_next (x ∷ f) u c = ap (λ z. x ∷ z) (take_next f u c)

within : (f u : List ℕ) (c : ℕ) → length f < length (f ++ (c ∷ u))
within f u c = omega (arith, length-append f (c ∷ u))

mark_at : (r : Reading) (f : List ℕ) (y : Cell) (q : List Cell) (d : Document)
    → cells r d ≡ plain f (y ∷ q) → slice_get (marks_of (cells r d)) (length f) ≡ Some y.mark
mark_at r f y q d e = ap (λ z. slice_get (marks_of z) (length f)) e ∙ mark_after f (y ∷ q)

-- No fault is in a prefix over which the automaton has gone: its closing text completes it, and no tree has a mark
-- there. So a fault after such a prefix is the first.
module _ (r : Reading) (f u : List ℕ) (left : ℕ) (p : State) (reached : Reaches r f left p) where
  no_fault_before : (j : ℕ) (g : Fault) → j < length f → IsFault r (f ++ u) j g → ⊥
  no_fault_before j g lt h =
      let x = closed r f left p reached in
      let whole_prefix : Completes r f x.0 = (x.1.0, closer p, x.1.1) in
      let split = (reached.onward x.0 whole_prefix).split in
      let rest = (reached.onward x.0 whole_prefix).cells_left in
      let in_text : j < length (f ++ u) = omega (arith, length-append f u) in
      no_fault_at r (f ++ u) j g x.0 in_text (subst (λ z. Completes r z x.0) (sym (take-append-le (suc j) f u lt))
      (completes_take r (suc j) f x.0 whole_prefix))
      (λ b e. plain_unmarked f rest j b lt (subst (λ z. slice_get (marks_of z) j ≡ Some (Some b)) split e)) h

  first : (g : Fault) → IsFault r (f ++ u) (length f) g → IsFirstFault r (f ++ u) (length f) g
  first g h = (h, λ j k e. not_before j k e)
    where
      not_before : (j : ℕ) (k : Fault) → IsFault r (f ++ u) j k → length f ≤ j
      not_before j k e = let no : j < length f → ⊥ = λ lt. no_fault_before j k lt e in omega arith

-- ---- the fault is at the next character

module _ (r : Reading) (f u : List ℕ) (c left : ℕ) (p : State) (reached : Reaches r f (suc left) p) where
  -- each tree that goes on with the character, which leads to a mark, has the mark there
  breaks : (x : ℕ) (s : State) (b : Breach) (d : Document) → move r p x (suc left) ≡ go (Some b) s
      → Completes r (f ++ (x ∷ [])) d → slice_get (marks_of (cells r d)) (length f) ≡ Some (Some b)
  breaks x s b d e h =
      let n = next r f x left p d reached h in
      let g = next_goes r f x h.1 left (move r p x (suc left)) d n (Some b) s e in
      mark_at r f (cell x n.mark) n.cells_left d n.split ∙ ap Some g.1

  all_break : (s : State) (b : Breach) → move r p c (suc left) ≡ go (Some b) s
      → AllBreakAt r (take (suc (length f)) (f ++ (c ∷ u))) b (length f)
  all_break s b e d h = breaks c s b d e (subst (λ z. Completes r z d) (take_next f u c) h)

  goes_on : (s : State) (m : Option Breach) → move r p c (suc left) ≡ go m s
      → HasCompletion r (take (suc (length f)) (f ++ (c ∷ u)))
  goes_on s m e =
      let x = closed_next r f c left p s m reached e in
      let k = x.1.1 ∙ sym (append_assoc f (c ∷ []) (closer s)) in
      (x.0, subst (λ z. Completes r z x.0) (sym (take_next f u c)) (x.1.0, closer s, k))

  -- some tree goes on with one container too many
  depth_fault : (x : ℕ) (s : State) → move r p x (suc left) ≡ go (Some deep) s
      → AllBreakAt r (take (suc (length f)) (f ++ (c ∷ u))) deep (length f) → IsDepthFault r (f ++ (c ∷ u)) (length f)
  depth_fault x s e all =
      let d = closed_next r f x left p s (Some deep) reached e in
      let k = breaks x s deep d.0 e (d.1.0, closer s, d.1.1 ∙ sym (append_assoc f (x ∷ []) (closer s))) in
      let g = subst (λ z. Completes r z d.0) (sym (take-append_seam f (c ∷ u))) (d.1.0, x ∷ closer s, d.1.1) in
      (within f u c, (d.0, g, k), all)

  -- the move has a mark
  limit_fault : (s : State) (b : Breach) → move r p c (suc left) ≡ go (Some b) s
      → IsFault r (f ++ (c ∷ u)) (length f) (limit b)
  limit_fault s deep e = depth_fault c s e (all_break s deep e)
  limit_fault s b e = (within f u c, goes_on s (Some b) e, all_break s b e)

  -- no text goes on with c, but some text goes on with one container too many
  bad_deep_fault : move r p c (suc left) ≡ bad_deep → IsFault r (f ++ (c ∷ u)) (length f) (limit deep)
  bad_deep_fault e =
      let h = deep_some r p (suc left) (deep_of_bad_deep r p c (suc left) e) in
      depth_fault h.0 h.1 h.2 (λ d g.
      let k = subst (λ z. Completes r z d) (take_next f u c) g in
      absurd (next_bad_deep r f c k.1 left (move r p c (suc left)) d (next r f c left p d reached k) e))

  -- if a move is `bad`, no tree has one container too many: the state would be deep, and no move from there is `bad`
  no_depth_fault : move r p c (suc left) ≡ bad → IsDepthFault r (f ++ (c ∷ u)) (length f) → ⊥
  no_depth_fault e (lt, (d, g, b), all) =
      let h = reached.onward d (subst (λ z. Completes r z d) (take-append_seam f (c ∷ u)) g) in
      let deep_there = on (λ o. o ≡ meant (meaning d.node)) h.cells_left h.place h.follows
      (sym (mark_after f h.cells_left) ∙ ap (λ z. slice_get (marks_of z) (length f)) (sym h.split) ∙ b) in
      deep_not_bad r p c (suc left) (mark-alike r (suc left) (length h.cells_left) p h.place h.alike ∙ deep_there) e
    where
      meets_deep : (s : State) (x left : ℕ) (v : Option Breach) (F : State → Type 0) (z : Move) → move r s x left ≡ z
          → Meets z v F → v ≡ Some deep → IsDeep r s
      meets_deep s x left v F (go m q) e h k = deep_of_go r s q x left (e ∙ ap (λ y. go y q) (h.0 ∙ k))
      meets_deep s x left v F _ e h k = absurd h

      on : (G : Outcome → Type 0) (q : List Cell) (s : State) → Follows r G q s
          → slice_get (marks_of q) 0 ≡ Some (Some deep) → IsDeep r s
      on G [] s h m = absurd (cc)
      on G (y ∷ q) s h m = meets_deep s y.char (suc (length q)) y.mark _ (move r s y.char (suc (length q))) refl h (cc)

  -- an unexpected character: f has a completion, f with c has none, and no depth limit is broken
  character_fault : move r p c (suc left) ≡ bad → IsFault r (f ++ (c ∷ u)) (length f) character
  character_fault e =
      let x = closed r f (suc left) p reached in (
        within f u c,
        (x.0, subst (λ z. Completes r z x.0) (sym (take-append_seam f (c ∷ u))) (x.1.0, closer p, x.1.1)),
        (λ g.
            let k = subst (λ z. Completes r z g.0) (take_next f u c) g.1 in
            next_bad r f c k.1 left (move r p c (suc left)) g.0 (next r f c left p g.0 reached k) e),
        no_depth_fault e,
      )

-- ---- the end of the text

-- a tree that spells f leads to its meaning, and has no mark
spelled : (r : Reading) (f : List ℕ) (p : State) (d : Document) → Reaches r f 0 p → Spells r f d
    → (last p ≡ meant (meaning d.node)) × (cells r d ≡ plain f [])
spelled r f p d reached h =
    let g = reached.onward d (h.0, [], h.1 ∙ sym (append-nil f)) in
    let none : g.cells_left ≡ [] = nil_from_length g.cells_left
    (sym (length-map g.cells_left (λ x. x.char)) ∙ ap length g.text) in (
      last-alike 0 (length g.cells_left) p g.place g.alike
          ∙ subst (λ z. Follows r (λ o. o ≡ meant (meaning d.node)) z g.place) none g.follows,
      g.split ∙ ap (plain f) none,
    )

-- the text ends too early: f has a completion, and no tree spells it
end_fault : (r : Reading) (f : List ℕ) (p : State) → Reaches r f 0 p → last p ≡ refused Fault.end []
    → IsFault r f (length f) Fault.end
end_fault r f p reached e =
    let x = closed r f 0 p reached in
    (refl, (x.0, (x.1.0, closer p, x.1.1)), λ d g. let k = (spelled r f p d reached g).0 in cc)

-- ---- the verdict

-- A tree within the limits spells the text and means the value; or this is the first fault.
abbrev pub Verdict : Reading → List ℕ → Outcome → Type 0
Verdict r t (meant v) = (d : Document) × Parses r t d × (meaning d.node ≡ v)
Verdict r t (refused f rest) = IsFirstFault r t (length t - length rest) f

refused_at : (r : Reading) (f rest : List ℕ) (g : Fault) → IsFirstFault r (f ++ rest) (length f) g
    → Verdict r (f ++ rest) (refused g rest)
refused_at r f rest g h =
    let e : length f ≡ length (f ++ rest) - length rest = omega (arith, length-append f rest) in
    subst (λ z. IsFirstFault r (f ++ rest) z g) e h

-- the text is read to a value: a tree spells it, means the value and has no mark
accepted : (r : Reading) (f : List ℕ) (p : State) (v : Value) → Reaches r f 0 p → last p ≡ meant v
    → Verdict r f (meant v)
accepted r f p v reached e =
    let b = reached.back 0 in
    let d = sound r v (f ++ []) (b.goes [] v refl (sym (last-alike 0 0 p b.place b.alike) ∙ e)) in
    let s : Spells r f d.0 = subst (λ t. Spells r t d.0) (append-nil f) d.1 in
    let g = (spelled r f p d.0 reached s).1 in
    (d.0, (s, λ i b k. all_unmarked f i b (subst (λ z. slice_get (marks_of z) i ≡ Some (Some b)) g k)), d.2)

-- the outcome at the end of a text is a value or the fault of the end
meant_or_end : (fs : Frames) (v : Value)
    → ((w : Value) × (meant_at fs v ≡ meant w)) ⊎ (meant_at fs v ≡ refused Fault.end [])
meant_or_end no_frames v = inl (v, refl)
meant_or_end _ v = inr refl

numeral_or_end : (x : NumberState) (fs : Frames) (negative : Bool)
    → ((w : Value) × (last_numeral x fs negative ≡ meant w)) ⊎ (last_numeral x fs negative ≡ refused Fault.end [])
numeral_or_end zero_read fs negative = meant_or_end fs _
numeral_or_end (whole ds) fs negative = meant_or_end fs _
numeral_or_end (fraction ws ds) fs negative = meant_or_end fs _
numeral_or_end (exponent ws ds l s xs) fs negative = meant_or_end fs _
numeral_or_end _ fs negative = inr refl

value_or_end : (p : State) → ((w : Value) × (last p ≡ meant w)) ⊎ (last p ≡ refused Fault.end [])
value_or_end (numeral fs negative x) = numeral_or_end x fs negative
value_or_end (after_value fs v) = meant_or_end fs v
value_or_end _ = inr refl

last_verdict : (r : Reading) (f : List ℕ) (p : State) → Reaches r f 0 p
    → ((w : Value) × (last p ≡ meant w)) ⊎ (last p ≡ refused Fault.end []) → Verdict r (f ++ []) (last p)
last_verdict r f p reached (inl (w, e)) =
    subst (λ z. Verdict r z (last p)) (sym (append-nil f)) (subst (Verdict r f) (sym e) (accepted r f p w reached e))
last_verdict r f p reached (inr e) =
    subst (Verdict r (f ++ [])) (sym e) (refused_at r f [] Fault.end (first r f [] 0 p reached Fault.end
    (subst (λ z. IsFault r z (length f) Fault.end) (sym (append-nil f)) (end_fault r f p reached e))))

verdict_on : (r : Reading) (f u : List ℕ) (c : ℕ) (p : State) (z : Move) (g : State → Outcome)
    → Reaches r f (suc (length u)) p → move r p c (suc (length u)) ≡ z
    → ((s : State) → Reaches r (f ++ (c ∷ [])) (length u) s → Verdict r (f ++ (c ∷ u)) (g s))
    → Verdict r (f ++ (c ∷ u)) (outcome_on z g (c ∷ u))
verdict_on r f u c p z g reached e ih = by_move z e
  where
    fails : (k : Fault) → IsFault r (f ++ (c ∷ u)) (length f) k → Verdict r (f ++ (c ∷ u)) (refused k (c ∷ u))
    fails k h = refused_at r f (c ∷ u) k (first r f (c ∷ u) (suc (length u)) p reached k h)

    by_move : (z : Move) → move r p c (suc (length u)) ≡ z → Verdict r (f ++ (c ∷ u)) (outcome_on z g (c ∷ u))
    by_move (go None s) e = ih s (reaches_next r f c (length u) p s reached e)
    by_move (go (Some b) s) e = fails (limit b) (limit_fault r f u c (length u) p reached s b e)
    by_move bad e = fails character (character_fault r f u c (length u) p reached e)
    by_move bad_deep e = fails (limit deep) (bad_deep_fault r f u c (length u) p reached e)

verdict : (r : Reading) (u f : List ℕ) (p : State) → Reaches r f (length u) p → Verdict r (f ++ u) (outcome r u p)
verdict r [] f p reached = last_verdict r f p reached (value_or_end p)
verdict r (c ∷ u) f p reached =
    verdict_on r f u c p (move r p c (suc (length u))) (λ s. outcome r u s) reached refl
    (λ s reached'. subst (λ z. Verdict r z (outcome r u s)) (append_assoc f (c ∷ []) u)
    (verdict r u (f ++ (c ∷ [])) s reached'))

pub answers : (r : Reading) (t : List ℕ) → Verdict r t (outcome r t (before no_frames))
answers r t = verdict r t [] (before no_frames) (reaches_start r (length t))

one_of : (r : Reading) (t : List ℕ) (x : Outcome) → Verdict r t x → HasOneTree r t ⊎ HasOneFault r t
one_of r t (meant v) h = inl (h.0, h.1, (λ e k. same_tree r t e h.0 k h.1.0), (λ i f k. no_fault r t i f h.0 h.1 k))
one_of r t (refused f rest) h = inr (has_one_fault r t (length t - length rest) f h)

pub one_tree_or_one_fault : (r : Reading) (t : List ℕ) → HasOneTree r t ⊎ HasOneFault r t
one_tree_or_one_fault r t = one_of r t (outcome r t (before no_frames)) (answers r t)
