use Rattle.std.proofs.Common.{◌≡◌, ◌++◌, ◌+◌, ap, sym, ◌∙◌, ℕ, List, Bool, true, false, refl, IsTrue, Option, Some, None, Result, Ok, Err}
use Rattle.std.proofs.Common.{take, drop, take-append-drop}
use Rattle.std.proofs.lemmas.List.Folds.{list_all-append}
use Rattle.std.specs.Prelude.{◌&&◌}
use Rattle.std.specs.List.{list_all}
use Rattle.jzon.specs.Generator.{Adds, Begins, Just, Emitted, Emits}
use Rattle.jzon.specs.Writing.{IsAllowedWhitespace, any_style, is_whitespace, is_all_whitespace}
use Rattle.jzon_examples.proofs.cookbook.tabs.TabsGenerator.new_line.Goals as goal

first : (a b : Bool) → (a && b) ≡ true → a ≡ true
first true b h = refl
first false b h = h

-- a prefix of whitespace is whitespace
prefix : (n : ℕ) (bs : List ℕ) → IsTrue (is_all_whitespace false bs) → IsTrue (is_all_whitespace false (take n bs))
prefix n bs is =
    let p = is_whitespace false in
    first (list_all p (take n bs)) (list_all p (drop n bs))
    (sym (list_all-append p (take n bs) (drop n bs)) ∙ ap (list_all p) (take-append-drop n bs) ∙ is)

-- a call that writes whitespace writes what the style allows
module _ (bs : List ℕ) (dent : ℕ) (is : IsTrue (is_all_whitespace false bs)) (old new : Emitted) where
  allowed : (b : List ℕ) → b ≡ bs → IsAllowedWhitespace any_style dent b
  allowed b e = (rw e is, refl)

  adds : (a b : Option (List ℕ)) → Adds (Just bs) a b → Adds (IsAllowedWhitespace any_style dent) a b
  adds None b h = tt
  adds (Some xs) None h = absurd h
  adds (Some xs) (Some ys) (b, e, p) = (b, e, allowed b p)

  begins : (a b : Option (List ℕ)) → Adds (Begins (Just bs)) a b → Adds (Begins (IsAllowedWhitespace any_style dent)) a b
  begins None b h = tt
  begins (Some xs) None h = absurd h
  begins (Some xs) (Some ys) (b, e, p) = (b, e, (p.0, allowed (b ++ p.0) p.1))

  emits : {E : Type 0} (r : Result (Unit {0}) E) → Emits (Just bs) old new r
      → Emits (IsAllowedWhitespace any_style dent) old new r
  emits (Ok done) h = record {
    bytes = adds old.out new.out h.bytes;
    dent = h.dent;
    faults = h.faults;
    style = h.style;
    lender = h.lender;
  }
  emits (Err e) h = record {
    bytes = begins old.out new.out h.bytes;
    dent = h.dent;
    faults = h.faults;
    style = h.style;
    lender = h.lender;
  }

pub returns : goal.returns
returns c = emits _ c.args.self.now.dent (prefix (c.min-tabs.result + 1) _ refl) _ _ c.write.result c.write.ensures
