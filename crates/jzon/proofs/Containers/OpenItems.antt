-- Items of the innermost open container: how the parser's stacks change with them, and where the automaton is then.
use Rattle.jzon_base.proofs.Common.{◌≡◌, ◌≢◌, ◌∙◌, ◌+◌, ◌<◌, ℕ, Bool, true, false, cond, List, [], ◌∷◌, length, refl}
use Rattle.jzon_base.proofs.Common.{sym, ap, subst, arith, None, Some, Result, Ok, Err, fold, bytes_eq}
use Rattle.jzon_base.proofs.Common.{length-append, zip}
use Rattle.jzon_base.specs.PairList.{put, put_each}
use Rattle.jzon.specs.declared.stop.Stop.{Stop}
use Rattle.jzon_tree.specs.View.{view, viewed}
use Rattle.jzon_tree.specs.declared.value.JsonValue.{JsonValue}
use Rattle.jzon.specs.Private.Brackets.{innermost_kind, after_comma, after_closer, after_opener}
use Rattle.jzon.specs.Private.Cursor.{left, IsAfter, GoesOn}
use Rattle.jzon.specs.Private.Machine.{State, no_frames, before_key, after_value, object_frame, frames_depth}
use Rattle.jzon.specs.Private.Machine.{value_mark, key_mark}
use Rattle.jzon.specs.Private.OpenContainers.{Container, OpenContainers, entries_so_far, frames_in}
use Rattle.jzon.specs.Private.OpenContainers.{frames_around, frames_here, whole, before_item_as, before_item, HasAllValues}
use Rattle.jzon.specs.Private.OpenContainers.{AwaitsValue, value_added, key_added, KeepsAround, IsBeforeItem, new_container}
use Rattle.jzon.specs.Private.OpenContainers.{IsClosed}
use Rattle.jzon.specs.declared.container_kind.ContainerKind.{ContainerKind}
use Rattle.jzon.specs.declared.container_kind.ContainerKind.TheVariants.{Array, Object}
use Rattle.jzon.specs.declared.cursor.Cursor.{Cursor}
use Rattle.jzon.proofs.Containers.FrameViews.{frames_depth-in, value_mark-shallow, key_mark-shallow, kind_of_frame}
use Rattle.jzon.proofs.Containers.FrameViews.{after_comma-item, after_closer-whole, even_again, some_more}
use Rattle.jzon.proofs.Containers.FrameViews.{zip_key, last_of}
use Rattle.jzon.proofs.Texts.Cursors.{Reached}

-- ---- the innermost container by its kind

pub before_entry : (s : OpenContainers) → s.innermost.kind ≡ Object
    → before_item s ≡ before_key (frames_around s) (entries_so_far s.innermost)
before_entry s e = ap (λ b. before_item_as b (frames_around s) s.innermost) e

pub at_key : (t : Cursor) (s : OpenContainers) → s.innermost.kind ≡ Object
    → Reached t (before_item s) t (before_key (frames_around s) (entries_so_far s.innermost))
at_key t s e = record {
  text = refl;
  reading = refl;
  within = omega arith;
  same = ap (left t) (before_entry s e);
}

pub kind_here : (s : OpenContainers) (b : ContainerKind) → s.innermost.kind ≡ b
    → innermost_kind (frames_here s) ≡ Some b
kind_here s b e = kind_of_frame s.innermost.kind (frames_around s) s.innermost ∙ ap Some e

pub awaits_here : (s : OpenContainers) (b : ContainerKind) → s.innermost.kind ≡ b → AwaitsValue b s.innermost
    → AwaitsValue s.innermost.kind s.innermost
awaits_here s b e h = subst (λ a. AwaitsValue a s.innermost) (sym e) h

-- ---- how many are open

pub depth_here : (s : OpenContainers) → frames_depth (frames_here s) ≡ length s.around + 1
depth_here s = omega (arith, frames_depth-in (s.innermost ∷ s.around))

pub no_mark : (t : Cursor) (s : OpenContainers) → length s.around < t.reading.depth
    → value_mark t.reading (frames_here s) ≡ None
no_mark t s room = value_mark-shallow t.reading (frames_here s) (omega (arith, depth_here s, room))

pub no_key_mark : (t : Cursor) (s : OpenContainers) → length s.around < t.reading.depth
    → key_mark t.reading (frames_around s) (entries_so_far s.innermost) ≡ None
no_key_mark t s room =
    key_mark-shallow t.reading (frames_around s) (entries_so_far s.innermost)
    (omega (arith, frames_depth-in s.around, room))

-- ---- a value was added

pub added_keeps : (s u : OpenContainers) (v : JsonValue) → u ≡ value_added s v → KeepsAround s u
added_keeps s u v e = rw e (record { strict = refl; kind = refl; around = refl })

pub added_even : (s u : OpenContainers) (v : JsonValue) → AwaitsValue s.innermost.kind s.innermost
    → u ≡ value_added s v → HasAllValues u.innermost.kind u.innermost
added_even s u v h e = rw e (even_again s.innermost.kind s.innermost v h)

pub added_before : (n : Cursor) (s u : OpenContainers) (v : JsonValue) → AwaitsValue s.innermost.kind s.innermost
    → u ≡ value_added s v → length s.around < n.reading.depth → IsBeforeItem n u
added_before n s u v h e room =
    rw e (record {
      even = even_again s.innermost.kind s.innermost v h;
      room = room;
      some = λ none. absurd (some_more s.innermost.values v none);
    })

pub ended_here : (t n : Cursor) (o : State) (s u : OpenContainers) (v : JsonValue) (b : Bool)
    → AwaitsValue s.innermost.kind s.innermost → u ≡ value_added s v → b ≡ true
    → IsAfter t n × (left t o ≡ left n (cond b (after_closer (frames_here s) (view v))
    (after_comma (frames_here s) (view v))))
    → IsAfter t n × (left t o ≡ left n (after_value (frames_around u) (whole u.innermost)))
ended_here t n o s u v b h e is read =
    rw e (rw (is, after_closer-whole s.innermost.kind (frames_around s) s.innermost v h) at read)

pub goes_to_item : (t n : Cursor) (o : State) (s u : OpenContainers) (v : JsonValue) (b : Bool)
    → AwaitsValue s.innermost.kind s.innermost → u ≡ value_added s v → b ≡ false
    → IsAfter t n × (left t o ≡ left n (cond b (after_closer (frames_here s) (view v))
    (after_comma (frames_here s) (view v))))
    → IsAfter t n × (left t o ≡ left n (before_item u))
goes_to_item t n o s u v b h e is read =
    rw e (rw (is, after_comma-item s.innermost.kind (frames_around s) s.innermost v h) at read)

-- ---- a key was added

pub key_here : (s u : OpenContainers) (k : List ℕ) → s.innermost.kind ≡ Object → HasAllValues Object s.innermost
    → u ≡ key_added s k → object_frame (frames_around s) (entries_so_far s.innermost) k ≡ frames_here u
key_here s u k e even is =
    rw (is, e, zip_key s.innermost.keys s.innermost.values k even, last_of s.innermost.keys k) refl

pub key_keeps : (s u : OpenContainers) (k : List ℕ) → u ≡ key_added s k → KeepsAround s u
key_keeps s u k is = rw is (record { strict = refl; kind = refl; around = refl })

pub key_awaits : (s u : OpenContainers) (k : List ℕ) → HasAllValues Object s.innermost → u ≡ key_added s k
    → AwaitsValue Object u.innermost
key_awaits s u k even is =
    rw is (omega (arith, even, length-append s.innermost.keys (k ∷ [])))

-- reading that goes on, with another form of the state after it
pub goes_as : {A : Type 0} (t u : Cursor) (p : State) (result : Result A Stop) (f g : A → State)
    → ((x : A) → f x ≡ g x) → GoesOn t p result u f → GoesOn t p result u g
goes_as t u p (Ok x) f g e h = (h.0, h.1 ∙ ap (left u) (e x))
goes_as t u p (Err e) f g same h = h

-- an object with a value has an entry

some_put : (k : List ℕ) (v : JsonValue) (p : List ℕ × JsonValue) (ps : List (List ℕ × JsonValue)) (b : Bool)
    → cond b ((p.0, v) ∷ ps) (p ∷ put k v ps) ≢ []
some_put k v p ps true h = cc
some_put k v p ps false h = cc

some_left : (qs ps : List (List ℕ × JsonValue)) → qs ≢ [] → fold (λ rs p. put p.0 p.1 rs) qs ps ≢ []
some_left qs [] h = h
some_left [] (p ∷ ps) h = absurd (h refl)
some_left (q ∷ qs) (p ∷ ps) h =
    some_left (put p.0 p.1 (q ∷ qs)) ps (some_put p.0 p.1 q qs (bytes_eq q.0 p.0))

no_views : (ps : List (List ℕ × JsonValue)) → viewed ps ≡ [] → ps ≡ []
no_views [] e = refl
no_views (p ∷ ps) e = absurd (cc)

none_zipped : (ks : List (List ℕ)) (vs : List JsonValue) → length ks ≡ length vs → put_each (zip ks vs) ≡ [] → vs ≡ []
none_zipped ks [] even e = refl
none_zipped [] (v ∷ vs) even e = absurd (omega (arith, even))
none_zipped (k ∷ ks) (v ∷ vs) even e = absurd (some_left ((k, v) ∷ []) (zip ks vs) (λ h. cc) e)

pub no_entries : (c : Container) → HasAllValues Object c → entries_so_far c ≡ [] → c.values ≡ []
no_entries c even e = none_zipped c.keys c.values even (no_views (put_each (zip c.keys c.values)) e)

-- ---- a container was closed inside another one

-- those around it, which the other one is the innermost of
abbrev pub outer_of : {s u : OpenContainers} → IsClosed s u → OpenContainers
outer_of {s} h = record { strict = s.strict; innermost = h.added.outer; around = h.added.rest }

pub closed_in : {s u : OpenContainers} (h : IsClosed s u)
    → after_value (frames_around s) (whole s.innermost) ≡ after_value (frames_here (outer_of h)) (view h.value)
closed_in {s} h =
    ap (λ cs. after_value (frames_in cs) (whole s.innermost)) h.added.around
    ∙ ap (after_value (frames_here (outer_of h))) (sym h.means)

pub outer_kind : {s u : OpenContainers} (h : IsClosed s u) (b : ContainerKind) → b ≡ u.innermost.kind
    → innermost_kind (frames_here (outer_of h)) ≡ Some b
outer_kind h b e =
    kind_here (outer_of h) b (sym (ap (λ z. z.innermost.kind) h.added.closed) ∙ sym e)

-- what goes on to the start, goes on to what the start reaches
pub goes_to : {s t u : Cursor} {p q : State} (o : State) → IsAfter s t × (left s o ≡ left t p) → Reached t p u q
    → IsAfter s u × (left s o ≡ left u q)
goes_to o h k = (
  record { text = k.text ∙ h.0.text; reading = k.reading ∙ h.0.reading; index = omega (arith, h.0.index, k.within) },
  h.1 ∙ k.same,
)

pub before_first : (strict : Bool) (b : ContainerKind)
    → before_item (record { strict = strict; innermost = new_container b; around = [] }) ≡ after_opener b no_frames
before_first strict Array = refl
before_first strict Object = refl
