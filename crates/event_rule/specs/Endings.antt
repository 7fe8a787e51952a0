-- States in which nothing is left to be done, and events over links that have little room.
use Rattle.std.specs.Prelude.{◌≡◌, ℕ, ◌<◌, List, [], ◌∷◌, length}
use Rattle.interference.specs.Net.{Net}
use Rattle.node_api.specs.Program.{Program}
use Rattle.alpha_laws.specs.Progress.{IsWhole}
use Rattle.event_rule.specs.declared.event.Event.{Event}
use Rattle.event_rule.specs.declared.event.Event.TheVariants.{Pulse, Put, Take}
use Rattle.event_rule.specs.State.{State, node_of, link_at}
use Rattle.event_rule.specs.Events.{Possible, Steps}

-- A state is whole: every node is drained, and no link holds a wire.
abbrev pub IsWholeState : {S M E : Type 0} → Program S M E → Net → State S M → Type 0
IsWholeState program net state =
    IsWhole program net (node_of program net state) (λ v i. (link_at state.links v i).held)

-- A state is terminal: no event is possible in it.
abbrev pub IsTerminal : {S M E : Type 0} → Program S M E → Net → State S M → Type 0
IsTerminal program net state = (event : Event) → Possible program net state event → ⊥

-- the link on which an event puts a wire holds fewer wires than its capacity
abbrev pub HasRoom : {S M : Type 0} → ℕ → State S M → Event → Type 0
HasRoom capacity state (Pulse v) = Unit {0}
HasRoom capacity state (Put v i) = length (link_at state.links v i).held < capacity
HasRoom capacity state (Take v i) = Unit {0}

-- An event is possible over links of a capacity.
abbrev pub PossibleWithin : {S M E : Type 0} → ℕ → Program S M E → Net → State S M → Event → Type 0
PossibleWithin capacity program net state event = Possible program net state event × HasRoom capacity state event

-- A run from a state over links of a capacity.
abbrev pub IsRunWithin : {S M E : Type 0} → ℕ → Program S M E → Net → State S M → List Event → State S M → Type 0
IsRunWithin capacity program net state [] last = last ≡ state
IsRunWithin {S} {M} capacity program net state (event ∷ events) last =
    HasRoom capacity state event
    × ((next : State S M) × Steps program net state event next × IsRunWithin capacity program net next events last)
