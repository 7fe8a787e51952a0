-- The last stamp of what an end has put.
use Rattle.std.proofs.Common.{◌≡◌, List, [], ◌∷◌, ◌++◌, ap, refl, ◌∙◌}
use Rattle.wires.specs.declared.stamped.Stamped.{Stamped}
use Rattle.wires.specs.StampedWires.{last_stamp, wires_of}
use Rattle.wires.proofs.StampedWires.{last_more}

module _ {M : Type 0} where
  -- before the first put
  pub none_put : (xs : List (Stamped M)) → wires_of xs ≡ [] → last_stamp xs ≡ 0
  none_put [] e = refl
  none_put (x ∷ xs) e = cc

  -- after one more
  pub one_more : (xs ys : List (Stamped M)) (x : Stamped M) → ys ≡ xs ++ x ∷ [] → last_stamp ys ≡ x.stamp
  one_more xs ys x e = ap (λ l. last_stamp l) e ∙ last_more 0 xs x
