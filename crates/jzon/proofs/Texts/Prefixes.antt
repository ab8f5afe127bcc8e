-- Prefixes. `Reaches r f left p`: over the prefix f the automaton comes to state p without a mark, with `left`
-- characters left. Two facts are carried along (`reaches_start`, `reaches_next`): each tree whose text begins with f
-- has no mark inside f, and from a state alike to p the automaton follows its other cells (`onward`, by `complete`);
-- and what goes to a value from a state alike to p goes there with f before it (`back`, for `sound`). So f has a
-- completion (`closed`), and so has f with a character with which the automaton goes on (`closed_next`).
use Rattle.jzon_base.proofs.Common.{◌≡◌, ℕ, suc, List, [], ◌∷◌, ◌++◌, length, Option, None, refl, sym, subst, ap, ◌∙◌}
use Rattle.jzon_base.proofs.Common.{append_assoc}
use Rattle.jzon_tree.specs.Value.{Value}
use Rattle.jzon.specs.Reading.{Reading}
use Rattle.jzon.specs.Grammar.{Document}
use Rattle.jzon.specs.Meaning.{meaning}
use Rattle.jzon.specs.Spelling.{Breach, Cell, cell, plain, cells}
use Rattle.jzon.specs.Fault.{Spells, Completes}
use Rattle.jzon.specs.Private.Machine.{State, Move, go, bad, bad_deep, no_frames, before, move, meant}
use Rattle.jzon.proofs.Texts.Cells.{chars_of, plain-append}
use Rattle.jzon.proofs.Texts.Runs.{Meets, Follows, Goes}
use Rattle.jzon.proofs.Texts.Closing.{closer, closes}
use Rattle.jzon.proofs.Texts.AlikeStates.{Alike, AlikeMove, moves_alike, closer-alike}
use Rattle.jzon.proofs.Containers.CompleteValues.{complete}
use Rattle.jzon.proofs.Containers.SoundValues.{sound}

-- the cells of the tree after the prefix, and the state from which the automaton follows them
pub record Followed (r : Reading) (prefix rest : List ℕ) (left : ℕ) (p : State) (d : Document) : Type 0 where
  pub cells_left : List Cell
  pub place : State
  pub split : cells r d ≡ plain prefix cells_left
  pub text : chars_of cells_left ≡ rest
  pub alike : Alike left (length cells_left) p place
  pub follows : Follows r (λ o. o ≡ meant (meaning d.node)) cells_left place

-- the state after the prefix where `other` characters are left
pub record Reached (r : Reading) (prefix : List ℕ) (left : ℕ) (p : State) (other : ℕ) : Type 0 where
  pub place : State
  pub alike : Alike left other p place
  pub goes : (s : List ℕ) (v : Value) → length s ≡ other → Goes r v s place → Goes r v (prefix ++ s) (before no_frames)

-- The automaton goes over the prefix, without a mark, to the state, with `left` characters left.
pub record Reaches (r : Reading) (prefix : List ℕ) (left : ℕ) (p : State) : Type 0 where
  pub onward : (d : Document) (h : Completes r prefix d) → Followed r prefix h.1 left p d
  pub back : (other : ℕ) → Reached r prefix left p other

pub reaches_start : (r : Reading) (left : ℕ) → Reaches r [] left (before no_frames)
reaches_start r left = record {
  onward = λ d h. record {
    cells_left = cells r d;
    place = before no_frames;
    split = refl;
    text = h.2;
    alike = refl;
    follows = complete r d h.0;
  };
  back = λ other. record { place = before no_frames; alike = refl; goes = λ s v e h. h };
}

-- the next cell of a tree that goes on
pub record Next (r : Reading) (prefix : List ℕ) (c : ℕ) (rest : List ℕ) (left : ℕ) (z : Move) (d : Document) :
    Type 0 where
  pub mark : Option Breach
  pub cells_left : List Cell
  pub other : Move
  pub split : cells r d ≡ plain prefix (cell c mark ∷ cells_left)
  pub text : chars_of cells_left ≡ rest
  pub alike : AlikeMove left (length cells_left) z other
  pub meets : Meets other mark (λ s. Follows r (λ o. o ≡ meant (meaning d.node)) cells_left s)

next_of : (r : Reading) (prefix : List ℕ) (c : ℕ) (rest : List ℕ) (left : ℕ) (p place : State) (d : Document)
    (q : List Cell)
    → cells r d ≡ plain prefix q → chars_of q ≡ c ∷ rest → Alike (suc left) (length q) p place
    → Follows r (λ o. o ≡ meant (meaning d.node)) q place → Next r prefix c rest left (move r p c (suc left)) d
next_of r prefix c rest left p place d [] e x alike h = absurd (cc)
next_of r prefix c rest left p place d (y ∷ q) e x alike h =
    let ec : y.char ≡ c = cc in
    record {
      mark = y.mark;
      cells_left = q;
      other = move r place c (suc (length q));
      split = subst (λ z. cells r d ≡ plain prefix (cell z y.mark ∷ q)) ec e;
      text = cc;
      alike = moves_alike r left (length q) c p place alike;
      meets = rw ec at h;
    }

pub next : (r : Reading) (prefix : List ℕ) (c left : ℕ) (p : State) (d : Document) → Reaches r prefix (suc left) p
    → (h : Completes r (prefix ++ (c ∷ [])) d) → Next r prefix c h.1 left (move r p c (suc left)) d
next r prefix c left p d reached h =
    let g = reached.onward d (h.0, c ∷ h.1, h.2 ∙ append_assoc prefix (c ∷ []) h.1) in
    next_of r prefix c h.1 left p g.place d g.cells_left g.split g.text g.alike g.follows

module _ (r : Reading) (prefix : List ℕ) (c : ℕ) (rest : List ℕ) (left : ℕ) (z : Move) (d : Document)
    (n : Next r prefix c rest left z d) where
  -- if the text goes on, with a mark or none, the next cell has the same
  pub next_goes : (m : Option Breach) (s : State) → z ≡ go m s → (q : State) × (n.mark ≡ m)
      × Alike left (length n.cells_left) s q × Follows r (λ o. o ≡ meant (meaning d.node)) n.cells_left q
  next_goes m s e =
      let a = rw e at n.alike in
      let k = rw a.1 at n.meets in
      (a.0, sym k.0, a.2, k.1)

  pub next_bad : z ≡ bad → ⊥
  next_bad e = rw (rw e at n.alike) at n.meets

  pub next_bad_deep : z ≡ bad_deep → ⊥
  next_bad_deep e = rw (rw e at n.alike) at n.meets

-- the prefix, closed, is a text of the grammar
closed_at : (r : Reading) (prefix : List ℕ) (left : ℕ) (p : State) → Reached r prefix left p (length (closer p))
    → (d : Document) × Spells r (prefix ++ closer p) d
closed_at r prefix left p b =
    let g = closes r b.place in
    let d = sound r g.0 (prefix ++ closer p) (b.goes (closer p) g.0 refl
    (rw (closer-alike left (length (closer p)) p b.place b.alike) g.1)) in
    (d.0, d.1)

pub closed : (r : Reading) (prefix : List ℕ) (left : ℕ) (p : State) → Reaches r prefix left p
    → (d : Document) × Spells r (prefix ++ closer p) d
closed r prefix left p reached = closed_at r prefix left p (reached.back (length (closer p)))

-- The automaton goes on with one more character, with any mark.
module _ (r : Reading) (prefix : List ℕ) (c left : ℕ) (p s : State) (m : Option Breach)
    (reached : Reaches r prefix (suc left) p) (e : move r p c (suc left) ≡ go m s) where
  onto_next : (other : ℕ) → Reached r (prefix ++ (c ∷ [])) left s other
  onto_next other =
      let b = reached.back (suc other) in
      let a = rw e at (moves_alike r left other c p b.place b.alike) in
      record {
        place = a.0;
        alike = a.2;
        goes = λ t v l h. rw append_assoc (b.goes (c ∷ t) v (ap suc l) (rw (l, a.1) h));
      }

  -- the prefix with the character, closed, is a text of the grammar
  pub closed_next : (d : Document) × Spells r (prefix ++ (c ∷ closer s)) d
  closed_next =
      let d = closed_at r (prefix ++ (c ∷ [])) left s (onto_next (length (closer s))) in
      (d.0, subst (λ t. Spells r t d.0) (append_assoc prefix (c ∷ []) (closer s)) d.1)

-- one more character, without a breach
pub reaches_next : (r : Reading) (prefix : List ℕ) (c left : ℕ) (p s : State) → Reaches r prefix (suc left) p
    → move r p c (suc left) ≡ go None s → Reaches r (prefix ++ (c ∷ [])) left s
reaches_next r prefix c left p s reached e =
    record { onward = onward; back = onto_next r prefix c left p s None reached e }
  where
    onward : (d : Document) (h : Completes r (prefix ++ (c ∷ [])) d) → Followed r (prefix ++ (c ∷ [])) h.1 left s d
    onward d h =
        let n = next r prefix c left p d reached h in
        let g = next_goes r prefix c h.1 left (move r p c (suc left)) d n None s e in
        record {
          cells_left = n.cells_left;
          place = g.0;
          split = n.split ∙ ap (λ z. plain prefix (cell c z ∷ n.cells_left)) g.1
              ∙ sym (plain-append prefix (c ∷ []) n.cells_left);
          text = n.text;
          alike = g.2;
          follows = g.3;
        }
