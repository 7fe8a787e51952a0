-- A network is one whatever its number says of how often a program repeats itself.
use Rattle.std.proofs.Common.{ℕ, List}
use Rattle.interference.specs.Net.{IsNetwork, Net, repeated}
use Rattle.interference.specs.Rows.{IsStored, net_from}

pub network_repeated : (again : ℕ) (net : Net) → IsNetwork net → IsNetwork (repeated again net)
network_repeated again net ok = record {
  sizes = ok.sizes;
  count = ok.count;
  identifiers = ok.identifiers;
  distinct = ok.distinct;
  degrees = ok.degrees;
  vertices = ok.vertices;
  ascending = ok.ascending;
  other = ok.other;
  symmetric = ok.symmetric;
  bar_lists = ok.bar_lists;
  few_bars = ok.few_bars;
  barred_colours = ok.barred_colours;
  ascending_bars = ok.ascending_bars;
}

-- the packed lists of the same network
pub stored_repeated : (again : ℕ) (ids starts ports backs bar_starts bars : List ℕ) (before degree forests most : ℕ)
    → IsStored ids starts ports backs bar_starts bars before degree forests most
    → IsStored ids starts ports backs bar_starts bars again degree forests most
stored_repeated again ids starts ports backs bar_starts bars before degree forests most stored = record {
  packed = record {
    neighbours = stored.packed.neighbours;
    limit = stored.packed.limit;
    barred = stored.packed.barred;
    network = network_repeated again (net_from ids starts ports bar_starts bars before) stored.packed.network;
  };
  backs_lead = record { size = stored.backs_lead.size; back = stored.backs_lead.back };
  degree_is = stored.degree_is;
  forests_are = stored.forests_are;
  most_is = stored.most_is;
}
