-- What a node keeps of the two directions of a link, and that each of its events keeps it.
use Rattle.std.proofs.Common.{◌≡◌, ℕ, Bool, false, refl}
use Rattle.alpha_laws.specs.Position.{Position}

pub same_at : (m n : ℕ) (a b c d : Bool) → m ≡ n → a ≡ b → c ≡ d → ◌≡◌ {A = Position} record { safes = m; paid = a; closed = c } record {
  safes = n;
  paid = b;
  closed = d;
}
same_at m n a b c d e f g = rw (e, f, g) refl

abbrev pub entered_at : ℕ → Position
entered_at p = record { safes = p; paid = false; closed = false }
