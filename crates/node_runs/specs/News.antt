-- Ends of a run at which nothing was put or taken.
use Rattle.std.specs.Prelude.{◌≡◌, ℕ, List, [], length, Some, slice_get}
use Rattle.atomic_table.specs.Seated.{TableId}
use Rattle.interference.specs.Net.{Net, IsVertex, back_port_of, degree_of, neighbour_of}
use Rattle.link_queue.specs.Ends.{put_list, put_name, take_name, taken_list}
use Rattle.wired_nodes.specs.Tables.{IsEndAt}
use Rattle.port_rows.specs.Rows.{HasShape, row_at}
use Rattle.node_runs.specs.declared.making.PortEnds.{PortEnds}

module _ {P T : Type 0} (net : Net) (tables : List (List TableId)) (links : List TableId) where
  -- the ends of v at port i: one that puts on the link out by the port, before its first put, and one that takes from
  -- the link that comes in there, before its first take; and the indexes of these links
  pub record AreNewAt (v i : ℕ) (ends : PortEnds P T) : Type 0 where
    pub put_place : IsEndAt net tables v i ends.put.pass.table_id (put_name ends.put)
    pub put_link : slice_get links ends.put_index ≡ Some ends.put.pass.table_id
    pub put : put_list ends.put ≡ []
    pub take_place : IsEndAt net tables (neighbour_of net v i) (back_port_of net v i) ends.take.pass.table_id
        (take_name ends.take)
    pub take_link : slice_get links ends.take_index ≡ Some ends.take.pass.table_id
    pub taken : taken_list ends.take ≡ []

  -- the new ends of v, by port
  pub record AreNewOf (v : ℕ) (row : List (PortEnds P T)) : Type 0 where
    pub long : length row ≡ degree_of net v
    pub each : (i : ℕ) (ends : PortEnds P T) → slice_get row i ≡ Some ends → AreNewAt v i ends

  -- All ends of a run, new: entry `v - 1` of the rows has those of v.
  pub record AreNewEnds (rows : List (List (PortEnds P T))) : Type 0 where
    pub shape : HasShape net rows
    pub each : (v : ℕ) → IsVertex net v → AreNewOf v (row_at rows v)
