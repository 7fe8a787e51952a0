-- The rule of a link.
use Rattle.std.specs.Prelude.{◌≡◌, ℕ, Bool, true, false, ◌||◌, List, ◌∷◌, [], ◌++◌, Option}
use mathlib.Core.Option as option
use lib.ListN.{get_elem?}
use Rattle.wires.specs.StampedWires.{StampsRise, wires_of}
use Rattle.wires.specs.declared.stamped.Stamped.{Stamped}
use Rattle.wires.specs.declared.wire.Wire.{Wire}
use Rattle.wires.specs.declared.wire.Wire.TheVariants.{Payload, Ack, Safe, Close}
use Rattle.link_rule.specs.declared.name.LinkName.{LinkName}
use Rattle.link_rule.specs.Legal.{LegalFor}
use Rattle.link_queue.specs.declared.view.EndView.{EndView}

module _ {T : Type 0} where
  abbrev pub end_view : Option LinkName → Bool → Bool → List (Stamped T) → List (Stamped T) → EndView T
  end_view name puts takes put taken = record { name = name; puts = puts; takes = takes; put = put; taken = taken }

  -- one pass at most puts, and knows the name and what was put; one at most takes, and knows the name and what was
  -- taken
  abbrev pub Knows : Option LinkName → ℕ → ℕ → List (Stamped T) → List (Stamped T) → ℕ → EndView T → Type 0
  Knows name putter taker put taken pass v =
      (v.puts ≡ true → (pass ≡ putter) × (v.name ≡ name) × (v.put ≡ put))
      × (v.takes ≡ true → (pass ≡ taker) × (v.name ≡ name) × (v.taken ≡ taken))

  -- Between any two steps: what was put is what was taken and then what is on the queue, it is legal on the link of
  -- that name, and its stamps rise; the views of all passes say so.
  pub record Linked (legal : LinkName → List (Wire T) → Type 0) (items : List (Stamped T)) (views : List (EndView T))
      : Type 0 where
    pub name : Option LinkName
    pub putter : ℕ
    pub taker : ℕ
    pub put : List (Stamped T)
    pub taken : List (Stamped T)
    pub in_order : put ≡ taken ++ items
    pub is_legal : LegalFor legal name (wires_of put)
    pub rises : StampsRise put
    pub known : (pass : ℕ) (v : EndView T) → get_elem? views pass ≡ option.some v
        → Knows name putter taker put taken pass v

  -- what a take says: the view has the wire at the end of what was taken, which is legal and whose stamps rise
  abbrev pub Taking : (LinkName → List (Wire T) → Type 0) → EndView T → Stamped T → EndView T → Type 0
  Taking legal v x w = (w ≡ end_view v.name v.puts v.takes v.put (v.taken ++ x ∷ []))
      × LegalFor legal v.name (wires_of (v.taken ++ x ∷ [])) × StampsRise (v.taken ++ x ∷ [])

  -- the wires of these items are the last of that list
  abbrev pub AreLastOf : List (Wire T) → List (Stamped T) → Type 0
  AreLastOf all items = (before : List (Wire T)) × (all ≡ before ++ wires_of items)

  -- what a view of both ends knows of the wires on the queue
  abbrev pub IsAllOf : (LinkName → List (Wire T) → Type 0) → EndView T → List (Stamped T) → Type 0
  IsAllOf legal v items = (v.put ≡ v.taken ++ items) × LegalFor legal v.name (wires_of v.put)

  -- what was taken and then the wires of these items is legal
  abbrev pub MayFollow :
      (LinkName → List (Wire T) → Type 0) → Option LinkName → List (Wire T) → List (Stamped T) → Type 0
  MayFollow legal name taken items = LegalFor legal name (taken ++ wires_of items)

  abbrev pub is_close : Wire T → Bool
  is_close (Payload q x) = false
  is_close (Ack q) = false
  is_close (Safe q) = false
  is_close Close = true

  -- whether a close is among the wires
  abbrev pub has_close : List (Wire T) → Bool
  has_close [] = false
  has_close (w ∷ ws) = is_close w || has_close ws
