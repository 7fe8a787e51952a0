-- Legal lists of a link, by its name.
use Rattle.std.specs.Prelude.{◌≡◌, ℕ, List, Option, Some}
use Rattle.interference.specs.Net.{Net, neighbour_of}
use Rattle.wires.specs.declared.wire.Wire.{Wire}
use Rattle.link_rule.specs.Sent.{IsLegal}
use Rattle.node_api.specs.Program.{Program}
use Rattle.link_rule.specs.declared.name.LinkName.{LinkName}

-- the link out of a vertex by a port
abbrev pub name_of : Net → ℕ → ℕ → LinkName
name_of network vertex port = record { network = network; vertex = vertex; port = port }

-- the vertex to which the link of that name leads
abbrev pub target_of : LinkName → ℕ
target_of name = neighbour_of name.network name.vertex name.port

-- a legal list of the link of that name, in the synchronous run of a program
abbrev pub IsLegalOn : {S M E : Type 0} → Program S M E → LinkName → List (Wire M) → Type 0
IsLegalOn program name wires = IsLegal program name.network name.vertex (target_of name) wires

-- the wires are legal on the link of that name, if there is a name
abbrev pub LegalFor : {M : Type 0} → (LinkName → List (Wire M) → Type 0) → Option LinkName → List (Wire M) → Type 0
LegalFor legal name wires = (n : LinkName) → name ≡ Some n → legal n wires
