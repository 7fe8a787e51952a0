-- The network of these tests, and what is put first in their links.
use Rattle.std.proofs.Common.{◌≡◌, ℕ, ◌≤◌, List, [], ◌∷◌, ◌++◌, Option, Some, refl, sym, ap, ◌∙◌, arith, subst, append_assoc}
use Rattle.std.specs.Prelude.{Result, Ok, Err, IfOk}
use Rattle.interference.specs.Net.{Net}
use Rattle.interference.specs.Making.{network_of}
use Rattle.node_api.specs.Program.{Program}
use Rattle.node_api.specs.Run.{node_at}
use Rattle.wires.specs.declared.wire.Wire.{Wire}
use Rattle.wires.specs.declared.wire.Wire.TheVariants.{Payload, Safe, Close}
use Rattle.wires.specs.Streams.{rounds, stream, Legal}
use Rattle.link_rule.specs.Sent.{sends}
use Rattle.wires.proofs.Wires.{begins_from, legal-front}
use Rattle.alpha_laws.proofs.Shown.{rounds_begin}
use Rattle.link_rule.specs.declared.name.LinkName.{LinkName}
use Rattle.link_rule.specs.Legal.{IsLegalOn, LegalFor, name_of}
use Rattle.checks.specs.SmallNets.{pair_net}
use Rattle.sync_rounds.specs.Spread.{spread}
use Rattle.sync_rounds.specs.declared.greatest.Best.{Best}

-- the network that `Network::new` makes
pub pair_made : network_of (1 ∷ 2 ∷ []) ((1, 2) ∷ []) [] ≡ pair_net
unfolding network_of
pair_made = refl

pub pair_is : {E : Type 0} (r : Result Net E) → IfOk r (λ net. net ≡ network_of (1 ∷ 2 ∷ []) ((1, 2) ∷ []) []) → IfOk r (λ net. net ≡ pair_net)
pair_is (Ok net) e = e ∙ pair_made
pair_is (Err x) e = e

-- what is put begins a legal list of the link
pub legal_begin : {S M E : Type 0} (program : Program S M E) (link : LinkName) (front rest whole put : List (Wire M)) (name : Option LinkName)
    → IsLegalOn program link whole → front ++ rest ≡ whole → put ≡ front → name ≡ Some link → LegalFor (IsLegalOn program) name put
legal_begin program link front rest whole put name legal e is named n at =
    let same : link ≡ n = cc in
    let here : IsLegalOn program link front = legal-front _ _ _ front rest (subst (λ l. IsLegalOn program link l) (sym e) legal) in
    subst (λ m. IsLegalOn program m put) same (subst (λ l. IsLegalOn program link l) (sym is) here)

-- For the last pulse 1 vertex 1 sends its identifier to vertex 2, and says that it is safe.
abbrev first_wires : List (Wire Best)
first_wires = Payload 0 (record { 0 = 1 }) ∷ Safe 0 ∷ []

-- a payload of pulse 0 and its safe begin every stream that has one
pub first_round : {M : Type 0} (top : ℕ) (sent other : ℕ → Option M) (x : M) → 1 ≤ top → sent 0 ≡ Some x → Legal top sent other (Payload 0 x ∷ Safe 0 ∷ [])
first_round {M} top sent other x le is = record {
  wires =
      let more = rounds_begin sent top 1 top le in
      let one : Payload 0 x ∷ Safe 0 ∷ [] ≡ rounds sent 1 = rw is refl in
      begins_from (Payload 0 x ∷ Safe 0 ∷ []) (more.0 ++ (Close ∷ [])) (stream sent top)
      (sym (append_assoc (Payload 0 x ∷ Safe 0 ∷ []) more.0 (Close ∷ [])) ∙ ap (λ l. (l ++ more.0) ++ (Close ∷ [])) one ∙ ap (λ l. l ++ (Close ∷ [])) more.1);
  acks = refl;
  close = λ xs ys e. absurd (none xs ys e);
}
  where
    none : (xs ys : List (Wire M)) → Payload 0 x ∷ Safe 0 ∷ [] ≡ xs ++ (Close ∷ ys) → ⊥
    none [] ys e = cc
    none (a ∷ []) ys e = cc
    none (a ∷ b ∷ []) ys e = cc
    none (a ∷ b ∷ c ∷ xs) ys e = cc

first_sent : sends (spread 1) pair_net 1 2 0 ≡ Some (record { 0 = 1 })
unfolding node_at
first_sent = refl

pub first_legal : IsLegalOn (spread 1) (name_of pair_net 1 0) first_wires
first_legal = first_round 1 (sends (spread 1) pair_net 1 2) (sends (spread 1) pair_net 2 1) (record { 0 = 1 }) (omega arith) first_sent

-- a beginning of them, under the link's name
pub first_front : (front rest put : List (Wire Best)) (name : Option LinkName) → front ++ rest ≡ first_wires → put ≡ front →
    name ≡ Some (name_of pair_net 1 0)
    → LegalFor (IsLegalOn (spread 1)) name put
first_front front rest put name = legal_begin (spread 1) (name_of pair_net 1 0) front rest first_wires put name first_legal
