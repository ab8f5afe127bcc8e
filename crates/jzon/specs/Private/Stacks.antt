-- How the parser's two stacks hold the open containers: each has a part of the keys and a part of the values.
use Rattle.std.specs.Prelude.{◌≡◌, ◌≤◌, ℕ, List, [], ◌∷◌, take, drop, reverse, vec_len, IfSome}
use Rattle.std.specs.Option.{is_some}
use Rattle.jzon_base.specs.Private.KnownKeys.{Knows}
use Rattle.jzon_base.specs.declared.keys.known.KnownKeys.{KnownKeys}
use Rattle.jzon_tree.specs.declared.value.JsonValue.{JsonValue}
use Rattle.jzon.specs.Private.OpenContainers.{Container, OpenContainers, AwaitsValue}
use Rattle.jzon.specs.declared.stacks.Frame.{Frame}
use Rattle.jzon.specs.declared.stacks.Stacks.TheInside.{Inside}

-- the container of a frame, the last one with keys and values in these lists
abbrev pub container_of : Frame → List (List ℕ) → List JsonValue → Container
container_of f ks vs = record { kind = f.kind; keys = drop f.first_key ks; values = drop f.first_value vs }

-- the containers of these frames, the innermost first: what comes before the keys and values of one is of those around
abbrev pub containers_in : List Frame → List (List ℕ) → List JsonValue → List Container
containers_in [] ks vs = []
containers_in (f ∷ fs) ks vs = container_of f ks vs ∷ containers_in fs (take f.first_key ks) (take f.first_value vs)

-- the open containers that the two stacks and the frames hold
abbrev pub containers_of : Inside → OpenContainers
containers_of s = record {
  strict = is_some s.known;
  innermost = container_of s.innermost s.keys.items s.values.items;
  around =
      containers_in (reverse s.around.items) (take s.innermost.first_key s.keys.items)
      (take s.innermost.first_value s.values.items);
}

-- each of these frames, the innermost first, begins where the one around it does, or later, and the outermost where the stacks
-- do; the one inside of them begins at k and v
abbrev pub AreNested : List Frame → ℕ → ℕ → Type 0
AreNested [] k v = (k ≡ 0) × (v ≡ 0)
AreNested (f ∷ fs) k v = (f.first_key ≤ k) × (f.first_value ≤ v) × AreNested fs f.first_key f.first_value

-- of each container around another one a value comes next
abbrev pub AllAwaitValue : List Container → Type 0
AllAwaitValue [] = Unit {0}
AllAwaitValue (c ∷ cs) = AwaitsValue c.kind c × AllAwaitValue cs

-- a strict reading knows the keys of all of them
abbrev pub AllKnown : List Container → List KnownKeys → Type 0
AllKnown [] ls = Unit {0}
AllKnown (c ∷ cs) [] = ⊥
AllKnown (c ∷ cs) (l ∷ ls) = Knows c.keys l × AllKnown cs ls

-- each frame begins within the stacks, where the one around it does or later; each container around another one waits
-- for a value; and a strict reading knows the keys of all of them
pub record IsLaidOut (s : Inside) : Type 0 where
  pub keys_within : s.innermost.first_key ≤ vec_len s.keys
  pub values_within : s.innermost.first_value ≤ vec_len s.values
  pub nested : AreNested (reverse s.around.items) s.innermost.first_key s.innermost.first_value
  pub await : AllAwaitValue (containers_of s).around
  pub known :
      IfSome s.known (λ known. Knows (containers_of s).innermost.keys known
      × AllKnown (containers_of s).around (reverse s.known_around.items))
