-- The state of a `TextGenerator`, over any destination and in any layout.
use Rattle.std.specs.Prelude.{◌≡◌, ℕ, List, Option, Some, None, Result, MatchResult, IsUtf8, string_bytes}
use Rattle.std.specs.Borrow.{GName}
use Rattle.std.specs.declared.string.String.{String}
use Rattle.std.specs.declared.alloc.Global.{Global}
use Rattle.std.specs.declared.vec.Vec.{Vec}
use Rattle.std.proofs.Common.{ap, ◌∙◌}
use Rattle.jzon_base.specs.declared.error.Error.{Error}
use Rattle.jzon_base.specs.declared.error.Error.TheVariants.{FailedUtf8Parsing}
use Rattle.jzon_tree.specs.Generator.{Emitted}
use Rattle.jzon_tree.specs.Writing.{Style}
use Rattle.jzon_tree.specs.declared.codegen.destination.Memory.{Memory}
use Rattle.jzon_tree.specs.declared.codegen.text_generator.TextGenerator.{TextGenerator}

-- these bytes, no open indent and no fault
abbrev pub fresh : Option (List ℕ) → Style → Option GName → Emitted
fresh out style lender = record { out = out; dent = 0; faults = 0; style = style; lender = lender }

-- the state of a generator over a destination, from its bytes and reference and the layout's style
abbrev pub text_meaning : {O L T : Type 0} → (O → Option (List ℕ)) → (O → Option GName) → (L → Style)
    → TextGenerator O L T → Emitted
text_meaning out lender style g = record {
  out = out g.destination;
  dent = g.dent;
  faults = g.faults;
  style = style g.layout;
  lender = lender g.destination;
}

-- the generator with this writer in its destination
abbrev pub with_writer_in : {O L T : Type 0} → (O → T → O) → TextGenerator O L T → T → TextGenerator O L T
with_writer_in with_writer g w = record g { destination = with_writer g.destination w }

-- memory's bytes
abbrev pub bytes_in : Memory → Option (List ℕ)
bytes_in m = Some m.bytes.items

-- memory with other bytes
abbrev pub with_bytes : Memory → Vec ℕ Global → Memory
with_bytes m bytes = record m { bytes = bytes }

-- the bytes are known and aren't UTF-8
abbrev pub IsNoUtf8 : Option (List ℕ) → Type 0
IsNoUtf8 None = ⊥
IsNoUtf8 (Some bytes) = IsUtf8 bytes → ⊥

-- the result of `consume`: the bytes written as a string, or `FailedUtf8Parsing` if they aren't UTF-8
abbrev pub IsConsumed : Option (List ℕ) → Result (String Global) Error → Type 0
IsConsumed out r = MatchResult r (λ text. out ≡ Some (string_bytes text)) (λ e. (e ≡ FailedUtf8Parsing) × IsNoUtf8 out)

-- Equal bytes and equal references make equal states.
-- (This is a proof; it is here because a law of the generators cites it.)
pub same_emitted : {o p : Option (List ℕ)} {l m : Option GName} {d f : ℕ} {s : Style} → o ≡ p → l ≡ m
    → let e : Emitted = record { out = o; dent = d; faults = f; style = s; lender = l } in
    e ≡ record { out = p; dent = d; faults = f; style = s; lender = m }
same_emitted {o} {p} {l} {m} {d} {f} {s} h k =
    ap (λ x. let e : Emitted = record { out = x; dent = d; faults = f; style = s; lender = l } in e) h
    ∙ ap (λ x. let e : Emitted = record { out = p; dent = d; faults = f; style = s; lender = x } in e) k
