-- A node that did nothing, and then nothing again.
use Rattle.std.proofs.Common.{◌≡◌, ◌⊎◌, ◌∙◌, ◌<◌, ◌+◌, ℕ, None, arith, map, slice_get, subst, sym, ⊎_elim}
use Rattle.std.proofs.lemmas.Bool.{cases_eq}
use Rattle.std.specs.declared.cmp.PartialEq as equality
use Rattle.node_api.specs.declared.program.NodeProgram as program
use Rattle.node_api.specs.declared.payload.PayloadText as text
use Rattle.alpha_core.specs.View.{port_at}
use Rattle.link_queue.specs.Ends.{put_list}
use Rattle.wired_nodes.specs.Node.{by_port}
use Rattle.wired_nodes.specs.Tables.{LinkWasFull}
use Rattle.wired_nodes.specs.Blocked.{IsUnmoved, PutBlocked}
use Rattle.wired_nodes.specs.declared.wiring.Wiring as wiring
use Rattle.wired_nodes.specs.declared.node.Node.{Node}

module _ {J P T : Type 0} {j : wiring.Ghosts J} {p : program.Ghosts P T} {t : text.Ghosts T} {q : equality.Ghosts T} where
  pub still_unmoved : (old via new : Node J P T j p t q) → IsUnmoved old via → IsUnmoved via new → IsUnmoved old new
  still_unmoved old via new a b = record {
    alpha = b.alpha ∙ a.alpha;
    aside = b.aside ∙ a.aside;
    puts = b.puts ∙ a.puts;
    takes = b.takes ∙ a.takes;
    entries = b.entries ∙ a.entries;
    counter = b.counter ∙ a.counter;
    room = λ has. b.room (a.room has);
  }

  -- what blocks the puts of a node is the same before and after it did nothing
  blocked-as : (old new : Node J P T j p t q) (port : ℕ) → new.vertex ≡ old.vertex → new.alpha ≡ old.alpha
      → map (λ e. put_list e.end) new.puts.items ≡ map (λ e. put_list e.end) old.puts.items → PutBlocked port new → PutBlocked port old
  blocked-as old new port vertex alpha puts blocked =
      subst
      (λ a. (slice_get (port_at a.node.view port).out 0 ≡ None)
      ⊎ LinkWasFull P j.tables old.vertex port (by_port (map (λ e. put_list e.end) old.puts.items) port)) alpha
      (subst (λ v. (slice_get (port_at new.alpha.node.view port).out 0 ≡ None)
      ⊎ LinkWasFull P j.tables v port (by_port (map (λ e. put_list e.end) old.puts.items) port)) vertex
      (subst (λ lists. (slice_get (port_at new.alpha.node.view port).out 0 ≡ None)
      ⊎ LinkWasFull P j.tables new.vertex port (by_port lists port)) puts blocked))

  pub blocked-before : (old new : Node J P T j p t q) (port : ℕ) → new.vertex ≡ old.vertex → IsUnmoved old new → PutBlocked port new → PutBlocked port old
  blocked-before old new port vertex same = blocked-as old new port vertex same.alpha same.puts

  pub blocked-after : (old new : Node J P T j p t q) (port : ℕ) → new.vertex ≡ old.vertex → IsUnmoved old new → PutBlocked port old → PutBlocked port new
  blocked-after old new port vertex same = blocked-as new old port (sym vertex) (sym same.alpha) (sym same.puts)

  -- a port more is blocked
  pub blocked-more : (node : Node J P T j p t q) (port : ℕ) → ((k : ℕ) → k < port → PutBlocked k node) → PutBlocked port node
      → (k : ℕ) → k < port + 1 → PutBlocked k node
  blocked-more node port before here k lt =
      ⊎_elim (λ is. subst (λ i. PutBlocked i node) (sym is) here) (λ ne. before k (omega (arith, lt, ne))) (cases_eq k port)
