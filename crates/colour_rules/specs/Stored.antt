-- A node as the tuple of its fields, by which proofs tell nodes apart.
use Rattle.std.specs.Prelude.{ℕ, List, refl}
use Rattle.std.specs.Coded.{Coded, code_by, coded×, coded_ℕ, coded_list}
use Rattle.std.specs.Ordering.{nat_cmp}
use Rattle.std.specs.FinSet as set
use Rattle.forests.specs.contracts.numbering.Role.{the_row}
use Rattle.forests.specs.declared.numbering.Role.{Role}
use Rattle.colour_rules.specs.Node.{Node}

abbrev Fields : Type 0
Fields =
    ℕ × ((ℕ × (ℕ × (ℕ × ℕ)))
    × (List Role × (List ℕ × (List ℕ × (ℕ × (ℕ × (set.FinSet nat_cmp × set.FinSet nat_cmp)))))))

abbrev fields_of : Node → Fields
fields_of node = (
  node.id,
  (
    (node.sizes.nodes, (node.sizes.greatest_degree, (node.sizes.greatest_bars, node.sizes.forests))),
    (node.roles, (node.colours, (node.before, (node.colour_before, (node.merged, (node.chosen, node.barred)))))),
  ),
)

abbrev node_of : Fields → Node
node_of (id, (sizes, (roles, (colours, (before, (colour_before, (merged, (chosen, barred)))))))) =
    record {
      id = id;
      sizes =
          record { nodes = sizes.0; greatest_degree = sizes.1.0; greatest_bars = sizes.1.1.0; forests = sizes.1.1.1 };
      roles = roles;
      colours = colours;
      before = before;
      colour_before = colour_before;
      merged = merged;
      chosen = chosen;
      barred = barred;
    }

-- how a node is stored
abbrev pub node_code : Coded Node
node_code =
    code_by Fields
    (coded× coded_ℕ (coded× (coded× coded_ℕ (coded× coded_ℕ (coded× coded_ℕ coded_ℕ)))
    (coded× (coded_list the_row.coded) (coded× (coded_list coded_ℕ) (coded× (coded_list coded_ℕ)
    (coded× coded_ℕ (coded× coded_ℕ (coded× (set.code coded_ℕ) (set.code coded_ℕ)))))))))
    fields_of node_of (λ _. refl)
