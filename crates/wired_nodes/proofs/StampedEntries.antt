-- What stamped entries took, without stamps.
use Rattle.std.proofs.Common.{◌≡◌, ℕ, ◌==◌, List, [], ◌∷◌, ◌++◌, refl, ap, ⊎_elim}
use Rattle.std.proofs.lemmas.Bool.{cases_Bool}
use Rattle.entries.specs.declared.entry.Entry.{Entry}
use Rattle.entries.specs.declared.entry.Entry.TheVariants.{Pulse, Put, Take}
use Rattle.wired_nodes.specs.Written.{takes_in}
use Rattle.wires.specs.StampedWires.{wires_of}
use Rattle.entries.specs.declared.rows.StampedEntry.{StampedEntry}
use Rattle.entries.specs.Rows.{bare_of}
use Rattle.stamps.specs.Stamps.{taken_if, taken_in}

module _ {M : Type 0} where
  pub wires_taken : (entries : List (StampedEntry M)) (w : ℕ) → wires_of (taken_in entries w) ≡ takes_in (bare_of entries) w
  wires_taken [] w = refl
  wires_taken (e ∷ entries) w = first e.stamp e.entry (wires_taken entries w)
    where
      first : (s : ℕ) (entry : Entry M) → wires_of (taken_in entries w) ≡ takes_in (bare_of entries) w
          → wires_of (taken_if (λ from. from == w) s entry ++ taken_in entries w) ≡ takes_in (entry ∷ bare_of entries) w
      first s (Pulse p) rest = rest
      first s (Put to x) rest = rest
      first s (Take from x) rest = ⊎_elim (λ yes. rw yes (ap (λ l. x ∷ l) rest)) (λ no. rw no rest) (cases_Bool (from == w))
