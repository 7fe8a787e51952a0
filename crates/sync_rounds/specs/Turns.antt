-- What a vertex finds at its turn, and what it leaves to the next one.
use Rattle.std.specs.Prelude.{◌≡◌, ℕ, suc, List, [], Option}
use Rattle.interference.specs.Net.{Net, IsVertex}
use Rattle.node_api.specs.Boxes.{Mail, unread}
use Rattle.node_api.specs.Program.{Program}
use Rattle.node_api.specs.Run.{inbox_at, state_at}
use Rattle.sync_rounds.specs.Delivery.{Delivered}
use Rattle.sync_rounds.specs.Rests.{HasOutboxes, sent_by}

module _ {S M E : Type 0} (program : Program S M E) (net : Net) (p v : ℕ) where
  -- What the vertices before v sent at pulse p is in the inboxes of the next pulse, and all outboxes are empty.
  pub record AreServed (outboxes : List (List (Option M))) (inboxes : List (Mail M)) : Type 0 where
    pub outs : HasOutboxes net outboxes
    pub delivered : Delivered net (sent_by program net p) v [] inboxes

  -- Vertex v has made pulse p, and its inbox has what was sent to it then.
  pub record IsDue (state : S) (mail : Mail M) : Type 0 where
    pub vertex : IsVertex net v
    pub node : state ≡ state_at program net p v
    pub inbox : mail ≡ unread (inbox_at program net (suc p) v)
