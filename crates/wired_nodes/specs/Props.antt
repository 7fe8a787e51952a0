-- Why a node's facts have at most one proof each, as a fact of a type has to.
use Rattle.std.specs.Prelude.{ℕ, Bool, List, [], ◌∷◌, Option, Result, Ok, Err, MatchResult}
use Rattle.std.specs.Coded.{×_prop, Unit-prop}
use Rattle.std.proofs.Props.{props}
use Rattle.wires.specs.declared.wire.Wire.{Wire}
use Rattle.wires.specs.declared.wire.Wire.TheVariants.{Payload, Ack, Safe, Close}
use Rattle.alpha_laws.specs.Position.{Position, Allows, Follows, move}
use Rattle.interference.specs.Net.{Net, port_to}
use Rattle.node_api.specs.Program.{Program, last_pulse_on}
use Rattle.alpha_core.specs.View.{Node}
use Rattle.alpha_core.specs.Alpha.{pulse, put_done, reaction}
use Rattle.entries.specs.declared.entry.Entry.{Entry}
use Rattle.entries.specs.declared.entry.Entry.TheVariants.{Pulse, Put, Take}
use Rattle.wires.specs.declared.stamped.Stamped.{Stamped}
use Rattle.entries.specs.declared.rows.StampedEntry.{StampedEntry}
use Rattle.wired_nodes.specs.HasStamps.{HasStamps}
use Rattle.wired_nodes.specs.Written.{Leads}

module _ {M : Type 0} (payloads : IsSet M) where
  Allows-prop : (sends : ℕ → Option M) (last : ℕ) (at : Position) (w : Wire M) → IsProp (Allows sends last at w)
  Allows-prop sends last at (Payload q x) = Prim.hlevel (props, payloads)
  Allows-prop sends last at (Ack q) = Prim.hlevel (props, payloads)
  Allows-prop sends last at (Safe q) = Prim.hlevel (props, payloads)
  Allows-prop sends last at Close = Prim.hlevel (props, payloads)

  pub Follows-prop : (sends : ℕ → Option M) (last : ℕ) (at : Position) (ws : List (Wire M)) →
      IsProp (Follows sends last at ws)
  Follows-prop sends last at [] = Unit-prop
  Follows-prop sends last at (w ∷ ws) = ×_prop (Allows-prop sends last at w) (Follows-prop sends last (move at w) ws)

module _ {M : Type 0} (payloads : IsSet M) where
  pub HasStamps-prop : (net : Net) (v : ℕ) (transcript : Bool) (counter : ℕ) (puts takens : ℕ → List (Stamped M))
      (entries : List (StampedEntry M)) → IsProp (HasStamps net v transcript counter puts takens entries)
  HasStamps-prop net v transcript counter puts takens entries = Prim.hlevel (props, payloads)

both-prop : {A B : Type 0} → IsProp A → IsProp B → IsProp (A × B)
both-prop p q = ×_prop p q

matches-prop : {A B : Type 0} (r : Result A B) (P : A → Type 0) → ((x : A) → IsProp (P x))
    → IsProp (MatchResult r P (λ _. ⊥))
matches-prop (Ok x) P p = p x
matches-prop (Err e) P p = Prim.hlevel props

module _ {S M E : Type 0} (states : IsSet S) (payloads : IsSet M) (program : Program S M E) (net : Net) (v : ℕ) where
  pub Leads-prop : (entries : List (Entry M)) (from to : Node S M) → IsProp (Leads program net v entries from to)
  Leads-prop [] from to = Prim.hlevel (props, states, payloads)
  Leads-prop (Pulse p ∷ entries) from to =
      both-prop (Prim.hlevel props) (both-prop (Prim.hlevel props)
      (matches-prop (pulse program.next (last_pulse_on program net) from)
      (λ node. Leads program net v entries node to) (λ node. Leads-prop entries node to)))
  Leads-prop (Put w wire ∷ entries) from to =
      both-prop (Prim.hlevel props) (both-prop (Prim.hlevel (props, payloads))
      (Leads-prop entries record from { view = put_done from.view (port_to net v w) } to))
  Leads-prop (Take w wire ∷ entries) from to =
      both-prop (Prim.hlevel props)
      (matches-prop (reaction (last_pulse_on program net) from.view (port_to net v w) wire)
      (λ view. Leads program net v entries record from { view = view } to)
      (λ view. Leads-prop entries record from { view = view } to))
