-- The lists that a NetState keeps at the start.
use Rattle.std.proofs.Common.{◌≡◌, ℕ, suc, zero, ◌<◌, List, [], ◌∷◌, map, length, get_or, replicate, Ok, refl, sym, ap, ◌∙◌, arith, subst}
use Rattle.interference.specs.Net.{Net, IsNetwork, degree_of, vertices}
use Rattle.node_api.specs.Program.{Program, last_pulse_on}
use Rattle.alpha_core.specs.View.{Alpha, Node}
use Rattle.alpha_core.specs.Program.{start_node}
use Rattle.event_rule.specs.State.{Link, NetView, no_link, start, started_nodes, state_in}
use Rattle.event_rule.specs.Simulation.{IsNetState}

-- what a function gives has what it gives everywhere
each-map : {X Y : Type 0} (P : Y → Type 0) (f : X → Y) → ((x : X) → P (f x)) → (xs : List X) (k : ℕ) (d : Y) → k < length (map f xs) → P (get_or (map f xs) k d)
each-map P f each [] k d lt = absurd (omega arith)
each-map P f each (x ∷ xs) zero d lt = each x
each-map P f each (x ∷ xs) (suc k) d lt = each-map P f each xs k d (omega arith)

map-twice : {X Y Z : Type 0} (f : Y → Z) (g : X → Y) (xs : List X) → map f (map g xs) ≡ map (λ x. f (g x)) xs
map-twice f g [] = refl
map-twice f g (x ∷ xs) = ap (λ l. f (g x) ∷ l) (map-twice f g xs)

module _ {S M E : Type 0} (program : Program S M E) (net : Net) (ok : IsNetwork net) where
  abbrev no_links : List (List (Link M))
  no_links = map (λ v. replicate (degree_of net v) no_link) (vertices net)

  begins : state_in (started_nodes program net (vertices net)) no_links ≡ start program net
  begins = ap (λ (ns : List (Node S M)). record { nodes = ns; links = no_links })
      (map-twice (λ n. n.node) (λ v. record { last = last_pulse_on program net; node = start_node program net v }) (vertices net))

  keeps : IsNetState program net (started_nodes program net (vertices net)) no_links
  keeps = record {
    network = ok;
    reached = ([], ap (λ s. Ok s) (sym begins));
    lasts = each-map (λ n. n.last ≡ last_pulse_on program net) (λ v. record { last = last_pulse_on program net; node = start_node program net v })
        (λ v. refl) (vertices net);
  }

  module _ (net' : Net) (nodes : List (Alpha S M)) (links : List (List (Link M))) (net_is : net' ≡ net)
      (nodes_are : nodes ≡ started_nodes program net (vertices net)) (links_are : links ≡ no_links) where
    pub keeps_started : IsNetState program net' nodes links
    keeps_started =
        subst (λ n. IsNetState program n nodes links) (sym net_is)
        (subst (λ (ns : List (Alpha S M)). IsNetState program net ns links) (sym nodes_are)
        (subst (λ l. IsNetState program net (started_nodes program net (vertices net)) l) (sym links_are) keeps))

    pub view_started : ◌≡◌ {A = NetView S M} record { net = net'; state = state_in nodes links } record { net = net; state = start program net }
    view_started =
        ap (λ n. record { net = n; state = state_in nodes links }) net_is
        ∙ ap (λ (ns : List (Alpha S M)). record { net = net; state = state_in ns links }) nodes_are
        ∙ ap (λ (l : List (List (Link M))). record { net = net; state = state_in (started_nodes program net (vertices net)) l }) links_are
        ∙ ap (λ s. record { net = net; state = s }) begins
