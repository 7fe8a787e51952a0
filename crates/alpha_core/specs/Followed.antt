-- Out-lists in which each payload is followed by a safe of its own, but for one payload if the node hasn't said safe.
use Rattle.std.specs.Prelude.{⊤, ◌≡◌, ◌≤◌, ℕ, ◌+◌, Bool, true, false, List, [], ◌∷◌, length}
use Rattle.wires.specs.declared.wire.Wire.{Wire}
use Rattle.alpha_core.specs.OutLists.{payloads_out, safes_out}
use Rattle.alpha_core.specs.View.{Port, none_waits}

-- how many payloads of an out-list can be without a safe
abbrev pub unsaid : Bool → ℕ
unsaid true = 0
unsaid false = 1

module _ {M : Type 0} where
  -- from each place on, there are no more payloads than safes and so many
  abbrev pub AreFollowed : ℕ → List (Wire M) → Type 0
  AreFollowed more [] = ⊤
  AreFollowed more (w ∷ out) = (payloads_out (w ∷ out) ≤ safes_out (w ∷ out) + more) × AreFollowed more out

  -- so is the out-list of each port
  abbrev pub AllFollowed : ℕ → List (Port M) → Type 0
  AllFollowed more [] = ⊤
  AllFollowed more (port ∷ ports) = AreFollowed more port.out × AllFollowed more ports

  -- each out-list has at most one payload
  abbrev pub AllFew : List (Port M) → Type 0
  AllFew [] = ⊤
  AllFew (port ∷ ports) = (payloads_out port.out ≤ 1) × AllFew ports

  -- What a node keeps of its ports, by whether it has said safe: their out-lists, and that none waits once it has.
  pub record AreSettled (said : Bool) (ports : List (Port M)) : Type 0 where
    pub followed : AllFollowed (unsaid said) ports
    pub waits : said ≡ true → none_waits ports ≡ true

  -- What a node keeps: its program and its outbox have its ports, its pulse is at most the last, and its ports are
  -- settled.
  pub record IsAlphaNode (of_program of_outbox pulse last : ℕ) (said : Bool) (ports : List (Port M)) : Type 0 where
    pub program_ports : of_program ≡ length ports
    pub outbox_ports : of_outbox ≡ length ports
    pub low : pulse ≤ last
    pub settled : AreSettled said ports
