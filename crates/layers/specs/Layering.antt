-- Breadth-first layers: what a node makes of an inbox, what it sends, and what it refuses.
use Rattle.std.specs.Prelude.{ℕ, suc, ◌-◌, Bool, false, List, Option, Some, None, Result, Ok, Err, replicate}
use Rattle.std.specs.Prelude.{if◌then◌else◌, nat_eq, nat_lt, ◌&&◌}
use Rattle.std.specs.Option.{option_or}
use Rattle.node_api.specs.Boxes.{nothing, fold_slots}
use Rattle.node_api.specs.Program.{Own, Program}
use Rattle.node_api.specs.declared.program.Refused.{Refused}
use Rattle.layers.specs.declared.hops.Hops.{Hops}
use Rattle.layers.specs.declared.layer.Layer.{Layer}
use Rattle.layers.specs.declared.layer.Layer.TheVariants.{Unreached, Root, Away}
use Rattle.layers.specs.declared.layer.TheConstants.{ROOT_ID}
use Rattle.layers.specs.declared.rules.TheConstants.{AFTER_LAST, WRONG_HOPS}
use Rattle.layers.specs.Layered.{Layered}

-- at first a node knows only whether it is the root
abbrev pub first_layer : ℕ → Layer
first_layer id = if nat_eq id ROOT_ID then Root else Unreached

abbrev pub layered_first : Own → Layered
layered_first own = record { layer = first_layer own.id; degree = own.degree; last = own.sizes.nodes - 1 }

-- a node of this layer sends at this pulse: the pulse is its distance
abbrev pub is_due : Layer → ℕ → Bool
is_due Unreached p = false
is_due Root p = nat_eq p 0
is_due (Away hops port) p = nat_eq p hops

-- what a node sends at a pulse before the last one: if the pulse is its distance, the distance at every port
abbrev pub sends : ℕ → Layered → List (Option Hops)
sends p s =
    if nat_lt p s.last && is_due s.layer p then replicate s.degree (Some (record { 0 = p })) else nothing s.degree

-- a node, and what it sends
abbrev pub with_sent : ℕ → Layered → Layered × List (Option Hops)
with_sent p s = (s, sends p s)

-- The rule that a distance breaks which comes at pulse p: after the last pulse none may come, and before, what comes
-- was sent at distance p - 1.
abbrev pub rule_broken : ℕ → ℕ → ℕ → Option ℕ
rule_broken last p hops =
    if nat_lt last p then Some AFTER_LAST else if nat_eq (suc hops) p then None else Some WRONG_HOPS

-- the first port at which something came, and one port more; or the refusal by a rule
abbrev pub and_port : Option ℕ → ℕ → Option ℕ → Result (Option ℕ) Refused
and_port first port None = Ok (option_or first (Some port))
and_port first port (Some rule) = Err (record { rule = rule; port = Some port })

-- the first port at which something came, with one payload more
abbrev pub and_heard : ℕ → ℕ → Result (Option ℕ) Refused → ℕ → Hops → Result (Option ℕ) Refused
and_heard last p (Ok first) port x = and_port first port (rule_broken last p x.0)
and_heard last p (Err refused) port x = Err refused

-- the first port at which something came at this pulse, or the refusal of the first port that broke a rule
abbrev pub heard : ℕ → ℕ → List (Option Hops) → Result (Option ℕ) Refused
heard last p inbox = fold_slots (and_heard last p) (Ok None) 0 inbox

-- a node that hears for the first time, at pulse p, is p links away, and the port leads towards the root
abbrev pub layer_after : Layer → ℕ → Option ℕ → Layer
layer_after Unreached p (Some port) = Away p port
layer_after Unreached p None = Unreached
layer_after Root p first = Root
layer_after (Away hops port) p first = Away hops port

-- a node after a pulse at which it heard this
abbrev pub layered_after : Layered → ℕ → Option ℕ → Layered
layered_after s p first = record { layer = layer_after s.layer p first; degree = s.degree; last = s.last }

abbrev pub next_from : Layered → ℕ → Result (Option ℕ) Refused → Result (Layered × List (Option Hops)) Refused
next_from s p (Ok first) = Ok (with_sent p (layered_after s p first))
next_from s p (Err refused) = Err refused

-- the program: its last pulse is one less than the number of nodes, as every distance is at most
abbrev pub layering : Program Layered Hops Refused
layering = record {
  last = λ sizes again. sizes.nodes - 1;
  ports = λ s. s.degree;
  made = layered_first;
  greet = with_sent 0;
  next = λ s p inbox. next_from s p (heard s.last p inbox);
}
