-- What contracts see of a list in blocks.
use Rattle.std.specs.Prelude.{◌≡◌, ◌<◌, ◌+◌, ◌^◌, ℕ, List, length, vec_capacity}
use Rattle.std.specs.List.{All, flat_map}
use Rattle.std.specs.declared.vec.Vec.{Vec}

-- the items of blocks, in order
abbrev pub joined : {X A : Type 0} → List (Vec X A) → List X
joined = flat_map (λ block. block.items)

-- no block is empty
abbrev pub AreFilled : {X A : Type 0} → List (Vec X A) → Type 0
AreFilled = All (λ block. 0 < length block.items)

-- What a list in blocks keeps: no full block is empty, so an iterator never has to skip one; the items of the full
-- blocks are counted; and all places can be.
pub record AreBlocks {X A : Type 0} (full : List (Vec X A)) (full_len : ℕ) (last : Vec X A) : Type 0 where
  pub filled : AreFilled full
  pub counted : length (joined full) ≡ full_len
  pub countable : full_len + vec_capacity last < 2 ^ 64

-- The items in order, and how many more have room.
pub record ItemList (X : Type 0) : Type 0 where
  pub items : List X
  pub room : ℕ
