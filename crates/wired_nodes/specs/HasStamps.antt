-- What a node with its ends keeps of its stamps.
use Rattle.std.specs.Prelude.{◌≡◌, ℕ, ◌≤◌, ◌+◌, ◌^◌, max, Bool, IsTrue, List, Option, Some, None}
use Rattle.interference.specs.Net.{Net}
use Rattle.wires.specs.declared.stamped.Stamped.{Stamped}
use Rattle.wires.specs.StampedWires.{last_stamp}
use Rattle.stamps.specs.Keeps.{KeepsStamps}
use Rattle.entries.specs.declared.rows.StampedEntry.{StampedEntry}
use Rattle.wired_nodes.specs.declared.aside.Aside.{Aside}
use Rattle.wired_nodes.specs.declared.aside.WhyAside.{WhyAside}
use Rattle.wired_nodes.specs.declared.aside.WhyAside.TheVariants.{Refused, StampFull}

-- The lists that the ends of a node of v put and took, by port, and its entries.
pub record HasStamps {M : Type 0} (net : Net) (v : ℕ) (transcript : Bool) (counter : ℕ)
    (puts takens : ℕ → List (Stamped M)) (entries : List (StampedEntry M)) : Type 0 where
  -- With a transcript, each entry has the stamp that the counter gives it, and each wire that was put that of its put.
  pub keeps : IsTrue transcript → KeepsStamps net v counter puts takens entries
  -- No end put a wire with a stamp above the counter.
  pub below : (i : ℕ) → last_stamp (puts i) ≤ counter

-- the stamp of a wire that was set aside since its take would have too great a stamp; 0 if there is none
abbrev pub stamp_of_why : WhyAside → ℕ
stamp_of_why Refused = 0
stamp_of_why (StampFull stamp) = stamp

abbrev pub aside_stamp : {M : Type 0} → Option (Aside M) → ℕ
aside_stamp None = 0
aside_stamp (Some aside) = stamp_of_why aside.why

-- A wire that was set aside since its take would have too great a stamp, the last that came by its port, came with that
-- stamp, and the stamp of its take would be 2^64 at least. The lists are those that the ends took, by port.
abbrev pub IsFullAside : {M : Type 0} → ℕ → (ℕ → List (Stamped M)) → Aside M → Type 0
IsFullAside counter takens aside = (stamp : ℕ) → aside.why ≡ StampFull stamp
    → (last_stamp (takens aside.port) ≡ stamp) × (2 ^ 64 ≤ max counter stamp + 1)
