-- The layers keep the laws of every program.
use Rattle.std.proofs.Common.{◌≡◌, ℕ, zero, suc, ◌+◌, ◌-◌, ◌<◌, ◌≤◌, List, [], ◌∷◌, length, refl, ap, sym, subst, ◌∙◌}
use Rattle.std.proofs.Common.{arith, Bool, true, false, cond, replicate}
use Rattle.std.specs.Prelude.{Option, Some, None, Result, Ok, Err, IsOk, IfOk, nat_lt, ◌&&◌}
use Rattle.std.specs.Option.{option_or}
use Rattle.std.proofs.lemmas.List.{length-replicate, get_or-map, get_or-replicate, get_or_past}
use native.Mathlib.Decide.{dec_lt}
use Prim.{yes, no}
use Rattle.std.proofs.lemmas.Bool.Decides.{nat_tests}
use Rattle.interference.specs.Net.{Net, count_of, degree_of, neighbours, port_to, neighbour_of}
use Rattle.node_api.specs.Boxes.{at_port, nothing, fold_slots}
use Rattle.node_api.specs.Laws.{HasPorts, IsProgram, KeepsPorts}
use Rattle.node_api.specs.Program.{own_of}
use Rattle.node_api.specs.Run.{after, node_at, inbox_from}
use Rattle.node_api.specs.declared.program.Refused.{Refused}
use Rattle.node_api.proofs.Runs.{node_at-none, node_at-more, node_at-ports, length-inbox}
use Rattle.node_api.proofs.Slots.{at_port-nothing}
use Rattle.sync_rounds.specs.SpreadLaws.{either_length}
use Rattle.layers.specs.declared.hops.Hops.{Hops}
use Rattle.layers.specs.Layered.{Layered}
use Rattle.layers.specs.Layering.{and_heard, heard, is_due, layered_after, layered_first, layering, next_from}
use Rattle.layers.specs.Layering.{rule_broken, sends}

-- what is sent has a slot for each port
length-sends : (p : ℕ) (s : Layered) → length (sends p s) ≡ s.degree
length-sends p s = either_length (nat_lt p s.last && is_due s.layer p) s.degree _ _

next-shape : (s : Layered) (p : ℕ) (r : Result (Option ℕ) Refused)
    → IfOk (next_from s p r) (HasPorts layering s.degree)
next-shape s p (Ok first) = (refl, length-sends p (layered_after s p first))
next-shape s p (Err refused) = tt

-- a node keeps its ports
pub layering_ports : KeepsPorts layering
layering_ports = record {
  made_ports = λ own. refl;
  greet_shape = λ s. (refl, length-sends 0 s);
  next_shape = λ s p inbox h. next-shape s p (heard s.last p inbox);
}

sends-late : (p : ℕ) (s : Layered) → s.last ≤ p → sends p s ≡ nothing s.degree
sends-late p s late = grind (arith, nat_tests)

-- the distance in a slot, and d for an empty one
abbrev pub number : ℕ → Option Hops → ℕ
number d None = d
number d (Some x) = x.0

-- a distance that is sent is the pulse
either-pulse : (b : Bool) (n p port : ℕ) (x : Hops)
    → at_port (cond b (replicate n (Some (record { 0 = p }))) (nothing n)) port ≡ Some x → x.0 ≡ p
either-pulse true n p port x at =
    let all : Option Hops = Some (record { 0 = p }) in
    elim (dec_lt port n) [
      | yes below ↦ ap (number p) (sym at ∙ get_or-replicate n port all None below)
      | no other ↦
          let past : length (replicate n all) ≤ port = omega (arith, length-replicate n all) in
          let none : None ≡ Some x = sym (get_or_past (replicate n all) port None past) ∙ at in absurd (cc)
    ]
either-pulse false n p port x at = let none : None ≡ Some x = sym (at_port-nothing n port) ∙ at in absurd (cc)

-- What a pulse p leaves: the node knows the last pulse, sends nothing at it, and the distances that it sends are p.
pub record IsSaid (last degree p : ℕ) (node : Layered × List (Option Hops)) : Type 0 where
  pub knows : node.0.last ≡ last
  pub silent : last ≤ p → node.1 ≡ nothing degree
  pub pulse : (port : ℕ) (x : Hops) → at_port node.1 port ≡ Some x → x.0 ≡ p

after-said : (s : Layered) (p degree : ℕ) (r : Result (Option ℕ) Refused) → s.degree ≡ degree
    → IsSaid s.last degree p (after s degree (next_from s p r))
after-said s p degree (Ok first) e = record {
  knows = refl;
  silent = λ late. sends-late p (layered_after s p first) late ∙ ap (λ (n : ℕ). nothing n) e;
  pulse = λ port x at. either-pulse (nat_lt p s.last && is_due (layered_after s p first).layer p) s.degree p port x at;
}
after-said s p degree (Err refused) e = record {
  knows = refl;
  silent = λ late. refl;
  pulse = λ port x at. let none : None ≡ Some x = sym (at_port-nothing degree port) ∙ at in absurd (cc);
}

pub said : (net : Net) (p v : ℕ) → IsSaid (count_of net - 1) (degree_of net v) p (node_at layering net p v)
said net zero v =
    let s : Layered = layered_first (own_of net v) in
    subst (λ (n : Layered × List (Option Hops)). IsSaid (count_of net - 1) (degree_of net v) zero n)
    (sym (node_at-none layering net v))
    (record {
      knows = refl;
      silent = λ late. sends-late 0 s late;
      pulse = λ port x at. either-pulse (nat_lt 0 s.last && is_due s.layer 0) s.degree 0 port x at;
    })
said net (suc p) v =
    let s : Layered = (node_at layering net p v).0 in
    let r : Result (Option ℕ) Refused = heard s.last (suc p) (inbox_from net (node_at layering net p) v) in
    let degree : ℕ = degree_of net v in
    let new : IsSaid s.last degree (suc p) (after s degree (next_from s (suc p) r)) =
    after-said s (suc p) degree r (node_at-ports layering net layering_ports p v).0 in
    subst (λ (n : Layered × List (Option Hops)). IsSaid (count_of net - 1) degree (suc p) n)
    (sym (node_at-more layering net p v))
    (subst (λ (last : ℕ). IsSaid last degree (suc p) (after s degree (next_from s (suc p) r))) (said net p v).knows new)

-- what comes at a pulse is the pulse before
pub comes : (net : Net) (p v k : ℕ) (x : Hops) → k < length (inbox_from net (node_at layering net p) v)
    → at_port (inbox_from net (node_at layering net p) v) k ≡ Some x → x.0 ≡ p
comes net p v k x below at =
    let w : ℕ = neighbour_of net v k in
    let in_row : k < degree_of net v = omega (arith, length-inbox net (node_at layering net p) v) in
    let sent : ℕ → Option Hops = λ u. at_port (node_at layering net p u).1 (port_to net u v) in
    (said net p w).pulse (port_to net w v) x (sym (get_or-map sent (neighbours net v) k 0 None in_row) ∙ at)

-- a distance that comes in time and is one less than the pulse breaks no rule
pub unbroken : (last p hops : ℕ) → p ≤ last → suc hops ≡ p → rule_broken last p hops ≡ None
unbroken last p hops early same = grind (arith, nat_tests)

accepted : (last p port : ℕ) (first : Option ℕ) (slots : List (Option Hops)) → p ≤ last
    → ((k : ℕ) (x : Hops) → k < length slots → at_port slots k ≡ Some x → suc x.0 ≡ p)
    → IsOk (fold_slots (and_heard last p) (Ok first) port slots)
accepted last p port first [] early each = refl
accepted last p port first (None ∷ slots) early each =
    accepted last p (port + 1) first slots early (λ k x below at. each (suc k) x (omega arith) at)
accepted last p port first (Some x ∷ slots) early each =
    let none : rule_broken last p x.0 ≡ None = unbroken last p x.0 early (each 0 x (omega arith) refl) in
    rw none (accepted last p (port + 1) (option_or first (Some port)) slots early
    (λ k x below at. each (suc k) x (omega arith) at))

next-ok : (s : Layered) (p : ℕ) (r : Result (Option ℕ) Refused) → IsOk r → IsOk (next_from s p r)
next-ok s p (Ok first) ok = refl
next-ok s p (Err refused) ok = ok

pub layering_is_program : IsProgram layering
layering_is_program = record {
  keeps_ports = layering_ports;
  accepts = λ net ok p v is_vertex below.
      let inbox : List (Option Hops) = inbox_from net (node_at layering net p) v in
      let s : Layered = (node_at layering net p v).0 in
      next-ok s (suc p) (heard s.last (suc p) inbox)
      (accepted s.last (suc p) 0 None inbox (omega (arith, below, (said net p v).knows))
      (λ k x low at. omega (arith, comes net p v k x low at)));
  silent = λ net ok v is_vertex. (said net (count_of net - 1) v).silent (omega arith);
}
