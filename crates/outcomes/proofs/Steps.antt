-- One row: where it has the least stamp of those that are left, its event is possible, writes it down, and leads to a state
-- from which the others are left.
use Rattle.std.proofs.Common.{◌≡◌, ℕ, ◌+◌, ◌-◌, ◌<◌, ◌≤◌, List, [], ◌∷◌, ◌++◌, length, get_or, Some, Ok, Err, slice_get, refl, sym, ap, ◌∙◌}
use Rattle.std.proofs.Common.{append_assoc, arith, subst, ⊎_elim}
use Rattle.std.specs.Prelude.{Result, MatchResult, All}
use Rattle.std.proofs.lemmas.Bool.{cases_eq}
use Rattle.std.proofs.lemmas.List.{get_or-set_same, get_or-set_other, length-set}
use Rattle.interference.specs.Net.{Net, IsNetwork, IsVertex, count_of, degree_of, neighbours, neighbour_of, port_to, back_port_of}
use Rattle.interference.proofs.Neighbours.{at-back_port, port_to-is}
use Rattle.interference.proofs.Members.{place_of-is}
use Rattle.node_api.specs.Program.{Program, last_pulse_on}
use Rattle.wires.specs.declared.wire.Wire.{Wire}
use Rattle.alpha_core.specs.View.{Node, port_at}
use Rattle.alpha_core.specs.Alpha.{pulse, put_done, reaction}
use Rattle.alpha_core.specs.Program.{start_node}
use Rattle.entries.specs.declared.entry.Entry.{Entry}
use Rattle.entries.specs.declared.entry.Entry.TheVariants.{Pulse, Put, Take}
use Rattle.entries.specs.Rows.{stamped_row, vertex_row, without_stamp, bare_of}
use Rattle.wired_nodes.specs.Written.{Leads}
use Rattle.event_rule.specs.State.{Link, State, link_at, node_of, set_link, set_link_to, set_node}
use Rattle.event_rule.specs.Step.{after_put, after_take, else_old, step}
use Rattle.event_rule.proofs.LinkTable.{link_same, link_other, rows_kept, row_kept}
use Rattle.event_rule.proofs.NetKept.{port_is, vertex_is}
use Rattle.event_rule.proofs.Parts.{first-some}
use Rattle.entries.specs.declared.rows.Row.{Row}
use Rattle.event_rule.specs.Rows.{event_of, row_of}
use Rattle.event_rule.proofs.Writes.{row-is}
use Rattle.wires.specs.declared.stamped.Stamped.{Stamped}
use Rattle.wires.specs.StampedWires.{stamped, wires_of}
use Rattle.stamps.specs.Stamps.{Carries}
use Rattle.entries.specs.declared.rows.StampedRow.{StampedRow}
use Rattle.stamps.specs.Merged.{Precedes, entries_at, puts_at, takes_at}
use Rattle.stamps.proofs.Lists.{entry_here, entry_other, first_put, put_here, put_other, take_here, take_other}

-- the state has a node for each vertex, and a link for each of its ports
pub record IsTable {S M : Type 0} (net : Net) (state : State S M) : Type 0 where
  pub nodes : length state.nodes ≡ count_of net
  pub rows : length state.links ≡ count_of net
  pub row : (v : ℕ) → IsVertex net v → length (get_or state.links (v - 1) []) ≡ degree_of net v

-- A link, what is put on it and taken from it from now on, and what it is at the end. What it holds has stamps.
pub record Comes {M : Type 0} (link : Link M) (puts takes : List (Stamped M)) (end : Link M) : Type 0 where
  pub held : List (Stamped M)
  pub held_are : wires_of held ≡ link.held
  pub carried : Carries (held ++ puts) takes end.held
  pub taken : link.taken ++ wires_of takes ≡ end.taken

-- These rows are left in this state: they lead each node and each link to what it is at the end.
pub record Left {S M E : Type 0} (program : Program S M E) (net : Net) (nodes : ℕ → Node S M) (links : ℕ → ℕ → Link M) (rows : List (StampedRow M))
    (state : State S M) : Type 0 where
  pub table : IsTable net state
  pub leads : (v : ℕ) → IsVertex net v → Leads program net v (bare_of (entries_at rows v)) (node_of program net state v) (nodes v)
  pub comes : (v i : ℕ) → IsVertex net v → i < degree_of net v
      → Comes (link_at state.links v i) (puts_at rows v (neighbour_of net v i)) (takes_at rows (neighbour_of net v i) v) (links v i)

-- The event of the first row is made.
pub record Made {S M E : Type 0} (program : Program S M E) (net : Net) (nodes : ℕ → Node S M) (links : ℕ → ℕ → Link M) (row : Row M)
    (rows : List (StampedRow M)) (state : State S M) : Type 0 where
  pub next : State S M
  pub leads : step program net state (event_of net row) ≡ Ok next
  pub writes : row_of program net state (event_of net row) ≡ Some row
  pub left : Left program net nodes links rows next

pub matched : {A B : Type 0} (r : Result A B) (P : A → Type 0) → MatchResult r P (λ _. ⊥) → (x : A) × (r ≡ Ok x) × P x
matched (Ok x) P is = (x, refl, is)
matched (Err e) P is = absurd is

module _ {S M E : Type 0} (program : Program S M E) (net : Net) (ok : IsNetwork net) (nodes : ℕ → Node S M) (links : ℕ → ℕ → Link M) where
  -- ---- one node changes
  leads_on : (s v : ℕ) (e : Entry M) (rows : List (StampedRow M)) (state : State S M) (node : Node S M) (ls : List (List (Link M)))
      → IsVertex net v → Left program net nodes links (stamped_row s v e ∷ rows) state → Leads program net v (bare_of (entries_at rows v)) node (nodes v)
      → (u : ℕ) → IsVertex net u
      → Leads program net u (bare_of (entries_at rows u)) (node_of program net record { nodes = set_node state.nodes v node; links = ls } u) (nodes u)
  leads_on s v e rows state node ls vertex left new u vertex' = ⊎_elim
      (λ here.
      let at : get_or (set_node state.nodes v node) (v - 1) (start_node program net v) ≡ node =
      get_or-set_same state.nodes (v - 1) node (start_node program net v) (let n = left.table.nodes in omega (arith, n, vertex.0, vertex.1)) in
      let P : ℕ → Node S M → Type 0 = λ k n. Leads program net k (bare_of (entries_at rows k)) n (nodes k) in
      subst (λ k. P k (get_or (set_node state.nodes v node) (k - 1) (start_node program net k))) (sym here) (subst (λ n. P v n) (sym at) new))
      (λ ne.
      let at : get_or (set_node state.nodes v node) (u - 1) (start_node program net u) ≡ node_of program net state u =
      get_or-set_other state.nodes (v - 1) (u - 1) node (start_node program net u) (λ same. ne (omega (arith, same, vertex.0, vertex'.0))) in
      subst (λ n. Leads program net u (bare_of (entries_at rows u)) n (nodes u)) (sym at)
      (subst (λ l. Leads program net u (bare_of l) (node_of program net state u) (nodes u)) (entry_other s v u e rows ne) (left.leads u vertex')))
      (cases_eq u v)

  -- what the first row leads its node to
  leads_first : (s v : ℕ) (e : Entry M) (rows : List (StampedRow M)) (state : State S M) → IsVertex net v
      → Left program net nodes links (stamped_row s v e ∷ rows) state
      → Leads program net v (e ∷ bare_of (entries_at rows v)) (node_of program net state v) (nodes v)
  leads_first s v e rows state vertex left =
      subst (λ l. Leads program net v (bare_of l) (node_of program net state v) (nodes v)) (entry_here s v e rows) (left.leads v vertex)

  pulse_made : (s v p : ℕ) (rows : List (StampedRow M)) (state : State S M) → IsVertex net v
      → Left program net nodes links (stamped_row s v (Pulse p) ∷ rows) state → Made program net nodes links (vertex_row v (Pulse p)) rows state
  pulse_made s v p rows state vertex left =
      let node = node_of program net state v in
      let last = last_pulse_on program net in
      let here = leads_first s v (Pulse p) rows state vertex left in
      let got = matched (pulse program.next last node) (λ n. Leads program net v (bare_of (entries_at rows v)) n (nodes v)) here.1.1 in
      let inside = vertex_is net v vertex in
      let can = here.0 in
      let number : node.view.pulse + 1 ≡ p = let e = here.1.0 in omega (arith, e) in
      record {
        next = record { nodes = set_node state.nodes v got.0; links = state.links };
        leads = rw inside (rw can (ap (λ r. Ok record { nodes = set_node state.nodes v (else_old node r); links = state.links }) got.1));
        writes = ap (λ k. Some (vertex_row v (Pulse k))) number;
        left = record {
          table = record { nodes = length-set state.nodes (v - 1) got.0 ∙ left.table.nodes; rows = left.table.rows; row = left.table.row };
          leads = leads_on s v (Pulse p) rows state got.0 state.links vertex left got.2;
          comes = λ u j vertex' lt. left.comes u j vertex' lt;
        };
      }

  -- ---- one link changes
  table_on : (state : State S M) (ns : List (Node S M)) (v i : ℕ) (link : Link M) → IsTable net state → IsVertex net v → i < degree_of net v
      → length ns ≡ length state.nodes → IsTable net record { nodes = ns; links = set_link state.links v i link }
  table_on state ns v i link table vertex lt many =
      let rows : v - 1 < length state.links = let n = table.rows in omega (arith, n, vertex.0, vertex.1) in
      let row : i < length (get_or state.links (v - 1) []) = let n = table.row v vertex in omega (arith, n, lt) in
      record {
        nodes = many ∙ table.nodes;
        rows = rows_kept state.links v i link vertex.0 rows row ∙ table.rows;
        row = λ u vertex'. row_kept state.links v i link vertex.0 rows row (u - 1) ∙ table.row u vertex';
      }

  comes_on : (rows rows' : List (StampedRow M)) (state : State S M) (v i : ℕ) (link : Link M) → IsVertex net v → i < degree_of net v
      → Left program net nodes links rows' state
      → Comes link (puts_at rows v (neighbour_of net v i)) (takes_at rows (neighbour_of net v i) v) (links v i)
      → ((u j : ℕ) → IsVertex net u → j < degree_of net u → (u ≡ v → j ≡ i → ⊥)
      → puts_at rows' u (neighbour_of net u j) ≡ puts_at rows u (neighbour_of net u j))
      → ((u j : ℕ) → IsVertex net u → j < degree_of net u → (u ≡ v → j ≡ i → ⊥)
      → takes_at rows' (neighbour_of net u j) u ≡ takes_at rows (neighbour_of net u j) u)
      → (u j : ℕ) → IsVertex net u → j < degree_of net u
      → Comes (link_at (set_link state.links v i link) u j) (puts_at rows u (neighbour_of net u j)) (takes_at rows (neighbour_of net u j) u) (links u j)
  comes_on rows rows' state v i link vertex lt left new same_puts same_takes u j vertex' lt' =
      let in_rows : v - 1 < length state.links = let n = left.table.rows in omega (arith, n, vertex.0, vertex.1) in
      let in_row : i < length (get_or state.links (v - 1) []) = let n = left.table.row v vertex in omega (arith, n, lt) in
      let changed = set_link state.links v i link in
      let P : ℕ → ℕ → Link M → Type 0 = λ a b l. Comes l (puts_at rows a (neighbour_of net a b)) (takes_at rows (neighbour_of net a b) a) (links a b) in
      let other : (u ≡ v → j ≡ i → ⊥) → P u j (link_at changed u j) = λ apart.
      subst (λ l. P u j l) (sym (link_other state.links v i link vertex.0 in_rows in_row u j vertex'.0 apart))
      (subst (λ l. Comes (link_at state.links u j) l (takes_at rows (neighbour_of net u j) u) (links u j)) (same_puts u j vertex' lt' apart)
      (subst (λ l. Comes (link_at state.links u j) (puts_at rows' u (neighbour_of net u j)) l (links u j)) (same_takes u j vertex' lt' apart)
      (left.comes u j vertex' lt'))) in
      ⊎_elim
      (λ same. ⊎_elim
      (λ here.
      subst (λ a. P a j (link_at changed a j)) (sym same)
      (subst (λ b. P v b (link_at changed v b)) (sym here)
      (subst (λ l. P v i l) (sym (link_same state.links v i link vertex.0 in_rows in_row)) new)))
      (λ ne. other (λ a b. ne b))
      (cases_eq j i))
      (λ ne. other (λ a b. ne a))
      (cases_eq u v)

  put_made : (s v w : ℕ) (x : Wire M) (rows : List (StampedRow M)) (state : State S M) → IsVertex net v
      → Left program net nodes links (stamped_row s v (Put w x) ∷ rows) state
      → Made program net nodes links (vertex_row v (Put w x)) rows state
  put_made s v w x rows state vertex left =
      let node = node_of program net state v in
      let here = leads_first s v (Put w x) rows state vertex left in
      let i = port_to net v w in
      let lt = here.0 in
      let out = (port_at node.view i).out in
      let first = first-some out x here.1.0 in
      let to : neighbour_of net v i ≡ w = place_of-is w (neighbours net v) 0 lt in
      let inside = port_is net v i vertex lt in
      let link = link_at state.links v i in
      let new : Link M = record link { held = link.held ++ (x ∷ []) } in
      let old : Comes link (stamped s x ∷ puts_at rows v w) (takes_at rows w v) (links v i) =
      subst (λ l. Comes link l (takes_at rows w v) (links v i)) (put_here s v w x rows)
      (subst (λ k. Comes link (puts_at (stamped_row s v (Put w x) ∷ rows) v k) (takes_at rows k v) (links v i)) to (left.comes v i vertex lt)) in
      let here_now : Comes new (puts_at rows v (neighbour_of net v i)) (takes_at rows (neighbour_of net v i) v) (links v i) =
      subst (λ k. Comes new (puts_at rows v k) (takes_at rows k v) (links v i)) (sym to) record {
        held = old.held ++ (stamped s x ∷ []);
        held_are = wires_more old.held (stamped s x) ∙ ap (λ l. l ++ (x ∷ [])) old.held_are;
        carried = subst (λ l. Carries l (takes_at rows w v) (links v i).held) (sym (append_assoc old.held (stamped s x ∷ []) (puts_at rows v w))) old.carried;
        taken = old.taken;
      } in
      let changed : Node S M = record { state = node.state; view = put_done node.view i } in
      record {
        next = record { nodes = set_node state.nodes v changed; links = set_link state.links v i new };
        leads = rw inside (ap (λ l. after_put state v i node l) first.1);
        writes = row-is net v w lt (λ u y. Put u y) (slice_get out 0) x here.1.0;
        left = record {
          table = table_on state (set_node state.nodes v changed) v i new left.table vertex lt (length-set state.nodes (v - 1) changed);
          leads = leads_on s v (Put w x) rows state changed (set_link state.links v i new) vertex left here.1.1;
          comes = comes_on rows (stamped_row s v (Put w x) ∷ rows) state v i new vertex lt left here_now
              (λ u j vertex' lt' apart. put_other s v w u (neighbour_of net u j) x rows (λ a b. apart a (one_port u j vertex' lt' a b)))
              (λ u j vertex' lt' apart. refl);
        };
      }
    where
      wires_more : (xs : List (Stamped M)) (y : Stamped M) → wires_of (xs ++ (y ∷ [])) ≡ wires_of xs ++ (y.wire ∷ [])
      wires_more [] y = refl
      wires_more (z ∷ xs) y = ap (λ l. z.wire ∷ l) (wires_more xs y)

      one_port : (u j : ℕ) → IsVertex net u → j < degree_of net u → u ≡ v → neighbour_of net u j ≡ w → j ≡ port_to net v w
      one_port u j vertex' lt' same to = sym (port_to-is net ok u j vertex' lt') ∙ ap (λ k. port_to net u k) to ∙ ap (λ a. port_to net a w) same

  -- a link whose next wire is taken, by a row with the least stamp
  next_held : (s : ℕ) (x : Wire M) (link end : Link M) (puts takes : List (Stamped M)) →
      ((y : Stamped M) (more : List (Stamped M)) → puts ≡ y ∷ more → s ≤ y.stamp)
      → Comes link puts (stamped s x ∷ takes) end
      → (rest : List (Wire M)) × (link.held ≡ x ∷ rest) × Comes record { taken = link.taken ++ (x ∷ []); held = rest } puts takes end
  next_held s x link end puts takes least comes = by_held comes.held comes.held_are comes.carried
    where
      is_first : (held : List (Stamped M)) → wires_of held ≡ link.held → Carries (held ++ puts) (stamped s x ∷ takes) end.held → held ≡ [] → (y : Stamped M)
          (more : List (Stamped M)) → puts ≡ y ∷ more → ⊥
      is_first held are carried none y more is =
          let le = least y more is in
          let got = subst (λ l. Carries l (stamped s x ∷ takes) end.held) (ap (λ l. l ++ puts) none ∙ is) carried in
          let lt = got.1 in
          omega (arith, le, lt)

      no_put : (l : List (Stamped M)) → puts ≡ l → Carries puts (stamped s x ∷ takes) end.held →
          ((y : Stamped M) (more : List (Stamped M)) → puts ≡ y ∷ more → ⊥) → ⊥
      no_put [] is carried bad = subst (λ l. Carries l (stamped s x ∷ takes) end.held) is carried
      no_put (y ∷ more) is carried bad = bad y more is

      by_held : (held : List (Stamped M)) → wires_of held ≡ link.held → Carries (held ++ puts) (stamped s x ∷ takes) end.held
          → (rest : List (Wire M)) × (link.held ≡ x ∷ rest) × Comes record { taken = link.taken ++ (x ∷ []); held = rest } puts takes end
      by_held [] are carried = absurd (no_put puts refl carried (is_first [] are carried refl))
      by_held (y ∷ held) are carried = (
        wires_of held,
        sym are ∙ ap (λ z. z ∷ wires_of held) carried.0,
        record {
          held = held;
          held_are = refl;
          carried = carried.2;
          taken = append_assoc link.taken (x ∷ []) (wires_of takes) ∙ comes.taken;
        },
      )

  take_made : (s v w : ℕ) (x : Wire M) (rows : List (StampedRow M)) (state : State S M) → IsVertex net v → All (Precedes (stamped_row s v (Take w x))) rows
      → Left program net nodes links (stamped_row s v (Take w x) ∷ rows) state → Made program net nodes links (vertex_row v (Take w x)) rows state
  take_made s v w x rows state vertex least left =
      let node = node_of program net state v in
      let last = last_pulse_on program net in
      let here = leads_first s v (Take w x) rows state vertex left in
      let i = port_to net v w in
      let lt = here.0 in
      let got = matched (reaction last node.view i x)
      (λ view. Leads program net v (bare_of (entries_at rows v)) record node { view = view } (nodes v)) here.1 in
      let from : neighbour_of net v i ≡ w = place_of-is w (neighbours net v) 0 lt in
      let inside = port_is net v i vertex lt in
      let u = neighbour_of net v i in
      let k = back_port_of net v i in
      let vertex' = ok.vertices v i vertex lt in
      let lt' = ok.symmetric v i vertex lt in
      let back : neighbour_of net u k ≡ v = at-back_port net ok v i vertex lt in
      let link = link_at state.links u k in
      let old : Comes link (puts_at rows u v) (stamped s x ∷ takes_at rows v u) (links u k) =
      subst (λ l. Comes link (puts_at rows u v) l (links u k))
      (ap (λ a. takes_at (stamped_row s v (Take w x) ∷ rows) v a) from ∙ take_here s v w x rows ∙ ap (λ a. stamped s x ∷ takes_at rows v a) (sym from))
      (subst (λ a. Comes link (puts_at rows u a) (takes_at (stamped_row s v (Take w x) ∷ rows) a u) (links u k)) back (left.comes u k vertex' lt')) in
      let next = next_held s x link (links u k) (puts_at rows u v) (takes_at rows v u)
      (λ y more is. first_put (stamped_row s v (Take w x)) rows u v y more least is) old in
      let new : Link M = record { taken = link.taken ++ (x ∷ []); held = next.0 } in
      let here_now : Comes new (puts_at rows u (neighbour_of net u k)) (takes_at rows (neighbour_of net u k) u) (links u k) =
      subst (λ a. Comes new (puts_at rows u a) (takes_at rows a u) (links u k)) (sym back) next.2 in
      let changed : Node S M = record { state = node.state; view = got.0 } in
      record {
        next = record { nodes = set_node state.nodes v changed; links = set_link_to net state.links v i new };
        leads = rw inside (ap (λ l. after_take last net state v i node l) next.1 ∙ ap
            (λ r. Ok record {
              nodes = set_node state.nodes v record { state = node.state; view = else_old node.view r };
              links = set_link_to net state.links v i new;
            }) got.1);
        writes = row-is net v w lt (λ a y. Take a y) (slice_get link.held 0) x (ap (λ l. slice_get l 0) next.1);
        left = record {
          table = table_on state (set_node state.nodes v changed) u k new left.table vertex' lt' (length-set state.nodes (v - 1) changed);
          leads = leads_on s v (Take w x) rows state changed (set_link_to net state.links v i new) vertex left got.2;
          comes = comes_on rows (stamped_row s v (Take w x) ∷ rows) state u k new vertex' lt' left here_now
              (λ a j vertex'' lt'' apart. refl)
              (λ a j vertex'' lt'' apart. take_other s v w (neighbour_of net a j) a x rows (λ to from'.
              let same : a ≡ u = from' ∙ sym from in
              apart same (sym (port_to-is net ok a j vertex'' lt'') ∙ ap (λ b. port_to net a b) to ∙ ap (λ b. port_to net b v) same)));
        };
      }

  made_by : (s v : ℕ) (e : Entry M) (rows : List (StampedRow M)) (state : State S M) → IsVertex net v → All (Precedes (stamped_row s v e)) rows
      → Left program net nodes links (stamped_row s v e ∷ rows) state → Made program net nodes links (vertex_row v e) rows state
  made_by s v (Pulse p) rows state vertex least left = pulse_made s v p rows state vertex left
  made_by s v (Put w x) rows state vertex least left = put_made s v w x rows state vertex left
  made_by s v (Take w x) rows state vertex least left = take_made s v w x rows state vertex least left

  pub row_made : (row : StampedRow M) (rows : List (StampedRow M)) (state : State S M) → IsVertex net row.vertex → All (Precedes row) rows
      → Left program net nodes links (row ∷ rows) state → Made program net nodes links (without_stamp row) rows state
  row_made row rows state vertex least left = made_by row.stamp row.vertex row.entry rows state vertex least left
