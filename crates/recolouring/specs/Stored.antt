-- What a node has beside its first colour, as the tuple of its fields.
use Rattle.std.specs.Prelude.{ℕ, Bool, refl}
use Rattle.std.specs.Coded.{Coded, code_by, coded×, coded_ℕ, coded_bool}
use Rattle.std.specs.Ordering.{nat_cmp}
use Rattle.std.specs.FinSet as set
use Rattle.recolouring.specs.Knowing.{Recoloured}

abbrev Fields : Type 0
Fields = ℕ × (ℕ × (Bool × (ℕ × (ℕ × (set.FinSet nat_cmp × set.FinSet nat_cmp)))))

abbrev fields_of : Recoloured → Fields
fields_of s = (s.until, (s.greatest, (s.barring, (s.before, (s.colour, (s.chosen, s.barred))))))

abbrev recoloured_of : Fields → Recoloured
recoloured_of (until, (greatest, (barring, (before, (colour, (chosen, barred)))))) = record {
  until = until;
  greatest = greatest;
  barring = barring;
  chosen = chosen;
  barred = barred;
  before = before;
  colour = colour;
}

-- how it is stored
abbrev pub recoloured_code : Coded Recoloured
recoloured_code =
    code_by Fields
    (coded× coded_ℕ (coded× coded_ℕ (coded× coded_bool (coded× coded_ℕ (coded× coded_ℕ
    (coded× (set.code coded_ℕ) (set.code coded_ℕ)))))))
    fields_of recoloured_of (λ _. refl)
