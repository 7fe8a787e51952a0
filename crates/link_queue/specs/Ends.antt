-- What a clause says of a link and its ends.
use Rattle.std.specs.Prelude.{◌≡◌, ℕ, List, [], ◌++◌, Option, Some}
use Rattle.crossbeam_queue.specs.Fifo.{Held}
use Rattle.crossbeam_queue.specs.Passes.{view, IsPassOf, ruled_capacity}
use Rattle.wires.specs.declared.stamped.Stamped.{Stamped}
use Rattle.wires.specs.declared.wire.Wire.{Wire}
use Rattle.link_rule.specs.declared.name.LinkName.{LinkName}
use Rattle.link_queue.specs.declared.ends.PutSide.{PutSide}
use Rattle.link_queue.specs.declared.ends.TakeSide.{TakeSide}
use Rattle.link_queue.specs.declared.met.Met.{Met}
use Rattle.link_queue.specs.declared.link.Link.{Link}
use Rattle.wires.specs.StampedWires.{wires_of}
use Rattle.link_queue.specs.Rule.{AreLastOf, MayFollow}

module _ {T : Type 0} where
  -- the link that an end is of, by its name
  abbrev pub put_name : PutSide T → Option LinkName
  put_name end = (view end.pass).name

  -- all that an end put, oldest first, each wire with its stamp; and without
  abbrev pub put_stamped : PutSide T → List (Stamped T)
  put_stamped end = (view end.pass).put

  abbrev pub put_list : PutSide T → List (Wire T)
  put_list end = wires_of (put_stamped end)

  abbrev pub take_name : TakeSide T → Option LinkName
  take_name end = (view end.pass).name

  -- all that an end took, oldest first, each wire with its stamp; and without
  abbrev pub taken_stamped : TakeSide T → List (Stamped T)
  taken_stamped end = (view end.pass).taken

  abbrev pub taken_list : TakeSide T → List (Wire T)
  taken_list end = wires_of (taken_stamped end)

  -- the wires put and not taken when the ends met, oldest first, each with its stamp
  abbrev pub held_stamped : Met T → List (Stamped T)
  held_stamped met = met.held.items

  -- Of a link whose ends met: its name, all that was put, and what was taken before. What was put is what was taken
  -- and then what is held.
  pub record HasMet (met : Met T) (name : Option LinkName) (put taken : List (Stamped T)) : Type 0 where
    pub of_link : (view met.pass).name ≡ name
    pub all_put : (view met.pass).put ≡ put
    pub in_order : put ≡ taken ++ held_stamped met

  -- What an end knows of the moment at which the queue was empty: what it took is legal. That there was such a moment
  -- is the queue's own promise.
  abbrev pub WasEmpty : (LinkName → List (Wire T) → Type 0) → Option LinkName → List (Wire T) → Type 0
  WasEmpty legal name taken = Held 0 (MayFollow legal name taken)

module _ {P T : Type 0} where
  abbrev pub link_capacity : Link P T → ℕ
  link_capacity link = ruled_capacity link.queue

  abbrev pub IsPutEndOf : Link P T → PutSide T → Type 0
  IsPutEndOf link end = IsPassOf link.queue end.pass

  abbrev pub IsTakeEndOf : Link P T → TakeSide T → Type 0
  IsTakeEndOf link end = IsPassOf link.queue end.pass

  -- the put end of a new link of that name, at which nothing was put
  pub record IsNewPutEnd (link : Link P T) (end : PutSide T) (name : LinkName) : Type 0 where
    pub of_link : IsPutEndOf link end
    pub named : put_name end ≡ Some name
    pub put : put_list end ≡ []

  -- the take end of a new link of that name, at which nothing was taken
  pub record IsNewTakeEnd (link : Link P T) (end : TakeSide T) (name : LinkName) : Type 0 where
    pub of_link : IsTakeEndOf link end
    pub named : take_name end ≡ Some name
    pub taken : taken_list end ≡ []

  -- What an end knows of the moment at which the queue was full: the last of the wires that it put were on it, as many
  -- as it can hold. That there was such a moment is the queue's own promise.
  abbrev pub WasFull : Link P T → List (Wire T) → Type 0
  WasFull link put = Held (link_capacity link) (AreLastOf put)

  -- an end that is of the same link, and still of it after a call
  abbrev pub StaysPutEnd : Link P T → PutSide T → PutSide T → Type 0
  StaysPutEnd link old new = IsPutEndOf link new × (put_name new ≡ put_name old)

  abbrev pub StaysTakeEnd : Link P T → TakeSide T → TakeSide T → Type 0
  StaysTakeEnd link old new = IsTakeEndOf link new × (take_name new ≡ take_name old)

  -- Ends that a refused meeting hands back: ends of the link, with the names and lists from before.
  pub record AreAsBefore (link : Link P T) (put_now put_before : PutSide T) (take_now take_before : TakeSide T)
      : Type 0 where
    pub put_end : StaysPutEnd link put_before put_now
    pub put : put_stamped put_now ≡ put_stamped put_before
    pub take_end : StaysTakeEnd link take_before take_now
    pub taken : taken_stamped take_now ≡ taken_stamped take_before
