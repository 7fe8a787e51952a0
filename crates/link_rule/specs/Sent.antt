-- What the synchronous run of a program sends over a link.
use Rattle.std.specs.Prelude.{ℕ, List, Option}
use Rattle.interference.specs.Net.{Net}
use Rattle.node_api.specs.Program.{Program, last_pulse_on}
use Rattle.node_api.specs.Run.{sent_at}
use Rattle.wires.specs.declared.wire.Wire.{Wire}
use Rattle.wires.specs.Streams.{Legal}

-- what v sends to w, by pulse; only the pulses below the last one count
abbrev pub sends : {S M E : Type 0} → Program S M E → Net → ℕ → ℕ → ℕ → Option M
sends program net v w p = sent_at program net p v w

-- a legal list of the link from v to w
abbrev pub IsLegal : {S M E : Type 0} → Program S M E → Net → ℕ → ℕ → List (Wire M) → Type 0
IsLegal program net v w ws = Legal (last_pulse_on program net) (sends program net v w) (sends program net w v) ws
