use Rattle.std.proofs.Common.{map, refl, vec_len}
use Rattle.pool.proofs.Each.{all_below}
use Rattle.pool.proofs.order.by_number.Goals as goal

-- the numbers of the tasks are those below the count of the places
pub in_order-requires : goal.in_order-requires
in_order-requires g c =
    let places = c.args.places in
    record {
      right = places.right;
      numbers = all_below (map (λ b. g.T.Task.number_of b.value) c.args.tasks.items) (vec_len places.slots) (vec_len places.slots) refl c.requires.once;
    }
