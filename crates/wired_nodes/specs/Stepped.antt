-- A node before and after a part of a turn, and before and after a turn. Both may have ended early.
use Rattle.std.specs.Prelude.{◌≡◌, ◌<◌, ◌≤◌, ◌+◌, ◌^◌, ℕ, max, Bool, false, true, IsTrue}
use Rattle.std.specs.Prelude.{Option, Some, None, IsSome, Result, Ok, Err, IfErr, IfOk}
use Rattle.std.specs.declared.cmp.PartialEq as equality
use Rattle.node_api.specs.declared.program.NodeProgram as program
use Rattle.node_api.specs.declared.payload.PayloadText as text
use Rattle.alpha_core.specs.View.{can_pulse}
use Rattle.wired_nodes.specs.Blocked.{HasTakeRoom, IsUnmoved, PutBlocked}
use Rattle.wired_nodes.specs.Counted.{CountsOn, events_of}
use Rattle.wired_nodes.specs.HasStamps.{aside_stamp}
use Rattle.wired_nodes.specs.declared.wiring.Wiring as wiring
use Rattle.wired_nodes.specs.declared.node.Node.{Node}
use Rattle.wired_nodes.specs.declared.refused.TurnRefused.{TurnRefused}
use Rattle.wired_nodes.specs.declared.refused.TurnRefused.TheVariants.{Memory, StampFull}

-- the refusal that a node remembers after a turn: that memory was refused, if it ever was, or else why the last turn
-- that ended early did
abbrev pub refusal_after : Option TurnRefused → Result Bool TurnRefused → Option TurnRefused
refusal_after old (Ok did) = old
refusal_after (Some Memory) (Err error) = Some Memory
refusal_after None (Err error) = Some error
refusal_after (Some StampFull) (Err error) = Some error

module _ {J P T : Type 0} {j : wiring.Ghosts J} {p : program.Ghosts P T} {t : text.Ghosts T}
    {q : equality.Ghosts T} where
  -- the refusal that a node remembers
  abbrev pub refusal_of : Node J P T j p t q → Option TurnRefused
  refusal_of node = node.refusal

  -- It is the same vertex's, and remembers the same refusal. Its counter counts what it did. If the part says that it
  -- did something, the node has made an event more; if it says that it did nothing, the node is as it was. Memory is
  -- refused only with a transcript, and a stamp is refused only if it would be too great.
  pub record Stepped (old new : Node J P T j p t q) (result : Result Bool TurnRefused) : Type 0 where
    pub vertex : new.vertex ≡ old.vertex
    pub degree : new.degree ≡ old.degree
    pub refusal : new.refusal ≡ old.refusal
    pub counts : CountsOn old new
    pub moved : IfOk result (λ did. did ≡ true → events_of old < events_of new)
    pub unmoved : IfOk result (λ did. did ≡ false → IsUnmoved old new)
    pub refused : IfErr result (λ error. error ≡ Memory → IsTrue j.transcript)
    pub full : IfErr result
        (λ error. error ≡ StampFull → 2 ^ 64 ≤ max new.counter (aside_stamp new.aside) + 1)

  -- The three parts of a turn, one after the other. If they say that they did something, the node has made an event
  -- more. If the node has a wire aside, they say that they did nothing. If they did nothing and set no wire aside, the
  -- node is as it was and can't make its next pulse, by each port no wire waits or its link was full, as `PutBlocked`
  -- says it, and there is room for the entry of a take.
  pub record Turned (old new : Node J P T j p t q) (result : Result Bool TurnRefused) : Type 0 where
    pub vertex : new.vertex ≡ old.vertex
    pub refusal : new.refusal ≡ old.refusal
    pub counts : CountsOn old new
    pub aside : IfOk result (λ did. IsSome new.aside → did ≡ false)
    pub moved : IfOk result (λ did. did ≡ true → events_of old < events_of new)
    pub unmoved : IfOk result (λ did. did ≡ false → new.aside ≡ old.aside → IsUnmoved old new)
    pub blocked : IfOk result
        (λ did. did ≡ false → new.aside ≡ None → can_pulse new.alpha.last new.alpha.node.view ≡ false)
    pub puts_blocked : IfOk result
        (λ did. did ≡ false → new.aside ≡ None → (port : ℕ) → port < new.degree → PutBlocked port new)
    pub room : IfOk result (λ did. did ≡ false → new.aside ≡ None → 0 < new.degree → HasTakeRoom new)
    pub refused : IfErr result (λ error. error ≡ Memory → IsTrue j.transcript)
    pub full : IfErr result
        (λ error. error ≡ StampFull → 2 ^ 64 ≤ max new.counter (aside_stamp new.aside) + 1)
