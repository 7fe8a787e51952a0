-- Links whose ends have met.
use Rattle.std.specs.Prelude.{◌≡◌, ◌-◌, List, ◌++◌, All, map, length, take}
use Rattle.crossbeam_queue.specs.Passes.{view}
use Rattle.wires.specs.declared.stamped.Stamped.{Stamped}
use Rattle.link_queue.specs.declared.met.Met.{Met}
use Rattle.link_queue.specs.Ends.{held_stamped}
use Rattle.outcomes.specs.Outcome.{History}

module _ {T : Type 0} where
  -- all that was put on a link whose ends have met, each wire with its stamp
  abbrev pub put_of : Met T → List (Stamped T)
  put_of met = (view met.pass).put

  -- what was taken from it: all that was put, but for what it holds
  abbrev pub taken_of : Met T → List (Stamped T)
  taken_of met = take (length (put_of met) - length (held_stamped met)) (put_of met)

  abbrev pub history_of_met : Met T → History T
  history_of_met met = record { put = put_of met; taken = taken_of met; held = held_stamped met }

  -- The links of a row, whose ends put these lists and took those: what was put on each is what was taken from it, and
  -- then what it holds.
  pub record AreMet (mets : List (Met T)) (puts takens : List (List (Stamped T))) : Type 0 where
    pub puts_are : map put_of mets ≡ puts
    pub takens_are : map taken_of mets ≡ takens
    pub splits : All (λ met. put_of met ≡ taken_of met ++ held_stamped met) mets

  -- The links of rows, whose ends put these lists and took those.
  pub record RowsAreMet (rows : List (List (Met T))) (puts takens : List (List (List (Stamped T)))) : Type 0 where
    pub puts_are : map (λ mets. map put_of mets) rows ≡ puts
    pub takens_are : map (λ mets. map taken_of mets) rows ≡ takens
    pub splits : All (λ mets. All (λ met. put_of met ≡ taken_of met ++ held_stamped met) mets) rows
