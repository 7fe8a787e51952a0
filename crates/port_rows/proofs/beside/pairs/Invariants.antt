use Rattle.std.proofs.Common.{◌≡◌, ◌+◌, ◌++◌, ◌≤◌, length, map, vec_len, vec_capacity}
use Rattle.std.specs.Vec.Iter.{into_iter_items, into_iter_len}
use Rattle.port_rows.proofs.beside.pairs.Given as goal

abbrev pub invariant-loop-left : goal.invariant-loop-left
invariant-loop-left g l = record {
  room : vec_len l.fn.lefts ≤ vec_capacity l.all;
  lefts : map (λ p. p.0) l.all.items ≡ l.yielded;
  rights : map (λ p. p.1) l.all.items ++ into_iter_items l.rights ≡ l.fn.rights.items;
  left : length l.yielded + into_iter_len l.rights ≡ vec_len l.fn.rights;
}
