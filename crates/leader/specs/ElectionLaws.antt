-- The election keeps the laws of every program.
use Rattle.std.proofs.Common.{◌≡◌, ℕ, zero, suc, ◌+◌, ◌≤◌, List, [], ◌∷◌, length, refl, ap, sym, subst, ◌∙◌}
use Rattle.std.proofs.Common.{arith, Bool, true, false, cond}
use Rattle.std.specs.Prelude.{Option, Some, None, Result, Ok, Err, IsOk, IfOk, nat_lt, max}
use Rattle.std.proofs.lemmas.List.{length-replicate}
use Rattle.std.proofs.lemmas.Bool.Decides.{nat_tests}
use Rattle.interference.specs.Net.{Net, count_of, degree_of}
use Rattle.node_api.specs.Boxes.{nothing, fold_slots}
use Rattle.node_api.specs.Laws.{HasPorts, IsProgram, KeepsPorts}
use Rattle.node_api.specs.Run.{after, node_at, inbox_from}
use Rattle.node_api.specs.declared.program.Refused.{Refused}
use Rattle.node_api.proofs.Runs.{node_at-none, node_at-more, node_at-ports}
use Rattle.sync_rounds.specs.SpreadLaws.{either_length}
use Rattle.leader.specs.declared.candidate.Candidate.{Candidate}
use Rattle.leader.specs.Elector.{Elector}
use Rattle.leader.specs.Election.{and_heard, elector_after, election, heard, next_from, sends}

-- what is sent has a slot for each port
length-sends : (p : ℕ) (s : Elector) → length (sends p s) ≡ s.degree
length-sends p s = either_length (nat_lt p s.last) s.degree _ _

length-either : (b : Bool) (p : ℕ) (s : Elector) → length (cond b (sends p s) (nothing s.degree)) ≡ s.degree
length-either true p s = length-sends p s
length-either false p s = length-replicate s.degree _

next-shape : (s : Elector) (p : ℕ) (r : Result ℕ Refused) → IfOk (next_from s p r) (HasPorts election s.degree)
next-shape s p (Ok best) = (refl, length-either (nat_lt s.best best) p (elector_after s best))
next-shape s p (Err refused) = tt

-- a node keeps its ports
pub election_ports : KeepsPorts election
election_ports = record {
  made_ports = λ own. refl;
  greet_shape = λ s. (refl, length-sends 0 s);
  next_shape = λ s p inbox h. next-shape s p (heard s.best s.last p inbox);
}

-- nothing is sent at the last pulse
sends-late : (p : ℕ) (s : Elector) → s.last ≤ p → sends p s ≡ nothing s.degree
sends-late p s late = grind (arith, nat_tests)

either-late : (b : Bool) (p : ℕ) (s : Elector) → s.last ≤ p
    → cond b (sends p s) (nothing s.degree) ≡ nothing s.degree
either-late true p s late = sends-late p s late
either-late false p s late = refl

after-late : (s : Elector) (p degree : ℕ) (r : Result ℕ Refused) → s.degree ≡ degree → s.last ≤ p
    → (after s degree (next_from s p r)).1 ≡ nothing degree
after-late s p degree (Ok best) e late =
    either-late (nat_lt s.best best) p (elector_after s best) late
    ∙ ap (λ (n : ℕ). nothing n) e
after-late s p degree (Err refused) e late = refl

after-last : (s : Elector) (p degree : ℕ) (r : Result ℕ Refused)
    → (after s degree (next_from s p r)).0.last ≡ s.last
after-last s p degree (Ok best) = refl
after-last s p degree (Err refused) = refl

-- every node knows the last pulse
pub knows-last : (net : Net) (p v : ℕ) → (node_at election net p v).0.last ≡ count_of net
knows-last net zero v = ap (λ (n : Elector × List (Option Candidate)). n.0.last) (node_at-none election net v)
knows-last net (suc p) v =
    let s : Elector = (node_at election net p v).0 in
    let r : Result ℕ Refused = heard s.best s.last (suc p) (inbox_from net (node_at election net p) v) in
    ap (λ (n : Elector × List (Option Candidate)). n.0.last) (node_at-more election net p v)
    ∙ (after-last s (suc p) (degree_of net v) r ∙ knows-last net p v)

silent-at : (net : Net) (p v : ℕ) → count_of net ≤ p
    → (node_at election net p v).1 ≡ nothing (degree_of net v)
silent-at net zero v all =
    let s : Elector = (node_at election net zero v).0 in
    let out : (node_at election net zero v).1 ≡ sends 0 s =
    subst (λ (n : Elector × List (Option Candidate)). n.1 ≡ sends 0 n.0) (sym (node_at-none election net v)) refl in
    out ∙ (sends-late 0 s (omega (arith, knows-last net zero v))
    ∙ ap (λ (n : ℕ). nothing n) (node_at-ports election net election_ports zero v).0)
silent-at net (suc p) v all =
    let s : Elector = (node_at election net p v).0 in
    ap (λ (n : Elector × List (Option Candidate)). n.1) (node_at-more election net p v)
    ∙ after-late s (suc p) (degree_of net v) (heard s.best s.last (suc p) (inbox_from net (node_at election net p) v))
    (node_at-ports election net election_ports p v).0 (omega (arith, knows-last net p v))

-- up to the last pulse nothing is refused
accepted : (last p b port : ℕ) (slots : List (Option Candidate)) → p ≤ last
    → IsOk (fold_slots (and_heard last p) (Ok b) port slots)
accepted last p b port [] early = refl
accepted last p b port (None ∷ slots) early = accepted last p b (port + 1) slots early
accepted last p b port (Some x ∷ slots) early =
    let test : nat_lt last p ≡ false = grind (arith, nat_tests) in
    rw test (accepted last p (max b x.0) (port + 1) slots early)

next-ok : (s : Elector) (p : ℕ) (r : Result ℕ Refused) → IsOk r → IsOk (next_from s p r)
next-ok s p (Ok best) ok = refl
next-ok s p (Err refused) ok = ok

pub election_is_program : IsProgram election
election_is_program = record {
  keeps_ports = election_ports;
  accepts = λ net ok p v is_vertex below.
      let s : Elector = (node_at election net p v).0 in
      let inbox : List (Option Candidate) = inbox_from net (node_at election net p) v in
      next-ok s (suc p) (heard s.best s.last (suc p) inbox)
      (accepted s.last (suc p) s.best 0 inbox (omega (arith, below, knows-last net p v)));
  silent = λ net ok v is_vertex. silent-at net (count_of net) v (omega arith);
}
