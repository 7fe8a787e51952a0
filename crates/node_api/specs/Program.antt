-- What a node program is to contracts: the functions that say all of its states and messages.
use Rattle.std.specs.Prelude.{◌≡◌, ℕ, ◌+◌, ◌<◌, List, Option, Result, Ok, Err, MatchResult}
use Rattle.interference.specs.Net.{Net, bars_of, count_of, id_of, degree_of}
use Rattle.interference.specs.Net.{greatest_bars_of, greatest_degree_of, forest_count_of}
use Rattle.node_api.specs.Boxes.{nothing}

-- What every vertex knows of its network: n, Δ, the greatest number of bars of a vertex, and U.
pub record Sizes : Type 0 where
  pub nodes : ℕ
  pub greatest_degree : ℕ
  pub greatest_bars : ℕ
  pub forests : ℕ

abbrev pub sizes_of : Net → Sizes
sizes_of net =
    record {
      nodes = count_of net;
      greatest_degree = greatest_degree_of net;
      greatest_bars = greatest_bars_of net;
      forests = forest_count_of net;
    }

-- the greatest colour that a vertex may need: its neighbours and its bars are at most this many
abbrev pub span : Sizes → ℕ
span sizes = sizes.greatest_degree + sizes.greatest_bars

-- A vertex's own data: all that its first state may look at.
pub record Own : Type 0 where
  pub id : ℕ
  pub degree : ℕ
  -- the colours that are barred at it, ascending
  pub bars : List ℕ
  pub sizes : Sizes

abbrev pub own_of : Net → ℕ → Own
own_of net v = record { id = id_of net v; degree = degree_of net v; bars = bars_of net v; sizes = sizes_of net }

-- A program with states S, payloads M and refusals E. At a pulse above the last one `next` keeps the ports, and no law
-- says more of it.
pub record Program (S M E : Type 0) : Type 0 where
  -- the last pulse: it depends on the sizes of the network, and on how many times more the program repeats itself
  pub last : Sizes → ℕ → ℕ
  -- how many ports a node has
  pub ports : S → ℕ
  -- a node before `init`: it depends on its vertex's own data alone
  pub made : Own → S
  -- what `init` leaves, and what it sends at pulse 0
  pub greet : S → S × List (Option M)
  -- the next state and what it sends, or a refusal, by state, pulse and inbox
  pub next : S → ℕ → List (Option M) → Result (S × List (Option M)) E

-- the last pulse on a network
abbrev pub last_pulse_on : {S M E : Type 0} → Program S M E → Net → ℕ
last_pulse_on program net = program.last (sizes_of net) net.again

-- A node in this state, which has made pulse p, does nothing at any pulse before `until` while nothing comes.
abbrev pub RestsUntil : {S M E : Type 0} → Program S M E → S → ℕ → ℕ → Type 0
RestsUntil program s p until =
    (q : ℕ) → p < q → q < until → program.next s q (nothing (program.ports s)) ≡ Ok (s, nothing (program.ports s))

-- A call's result matches what `next` says: it is the refusal, or there is none and this is the node.
abbrev pub Matches : {A X E : Type 0} → Result A E → Result X E → X → Type 0
Matches result answer node = MatchResult result (λ _. answer ≡ Ok node) (λ refused. answer ≡ Err refused)
