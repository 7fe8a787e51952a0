-- The neighbour of a port has that port; so the text has the lines of the neighbours up to the port.
use Rattle.std.proofs.Common.{◌≡◌, ◌∙◌, ◌+◌, ◌<◌, ◌++◌, ℕ, List, Option, Some, ap, append-nil, flat_map, refl, subst, sym, take}
use Rattle.std.proofs.lemmas.List.{flat_map_more, take_more}
use Rattle.interference.specs.Net.{Net, IsNetwork, IsVertex, degree_of, neighbour_of, neighbours, port_to}
use Rattle.interference.proofs.Neighbours.{port_to-is}
use Rattle.node_api.specs.Boxes.{at_port}
use Rattle.node_api.specs.Run.{outbox_at}
use Rattle.program_texts.specs.PayloadTexts.{PayloadTexts, payload_texts}
use Rattle.play_runs.specs.PutsText.{put_text, puts_text}
use Rattle.play_runs.proofs.Quiet.{quiet_text}
use Rattle.play_runs.proofs.puts.push_puts.Goals as goal
use Rattle.play_runs.proofs.puts.push_puts.Goals.{in-Some+in_ok-push_row, in_default}

-- the lines of the neighbours up to a port, and what is put behind them
one_more : {M : Type 0} (payloads : PayloadTexts M) (net : Net) (p v port : ℕ) (out : List (Option M)) (front so_far next : List ℕ)
    → IsNetwork net → IsVertex net v → port < degree_of net v
    → so_far ≡ front ++ flat_map (λ w. put_text payloads p v w (at_port out (port_to net v w))) (take port (neighbours net v))
    → next ≡ so_far ++ put_text payloads p v (neighbour_of net v port) (at_port out port)
    → next ≡ front ++ flat_map (λ w. put_text payloads p v w (at_port out (port_to net v w))) (take (port + 1) (neighbours net v))
one_more payloads net p v port out front so_far next ok vertex below e is =
    let f : ℕ → List ℕ = λ w. put_text payloads p v w (at_port out (port_to net v w)) in
    let ws = neighbours net v in
    let w = neighbour_of net v port in
    is
    ∙ ap (λ k. so_far ++ put_text payloads p v w (at_port out k)) (sym (port_to-is net ok v port vertex below))
    ∙ ap (λ t. t ++ f w) e
    ∙ flat_map_more f front (take port ws) w
    ∙ ap (λ l. front ++ flat_map f l) (sym (take_more ws port 0 below))

pub returns-then-is_quiet : goal.returns-then-is_quiet
returns-then-is_quiet g c =
    let payloads = payload_texts g.P.Payload.PayloadText in
    let at = c.args.rounds.now in
    let text = c.args.text.now.items in
    sym (ap (λ out. text ++ puts_text payloads at.net at.pulse c.args.v out) (c.if-is_quiet.ensures.quiet.0 refl)
    ∙ ap (λ t. text ++ t) (quiet_text payloads at.net at.pulse c.args.v (degree_of at.net c.args.v)) ∙ append-nil text)

pub loop-port-preserved : goal.loop-port-preserved
loop-port-preserved g c =
    let payloads = payload_texts g.P.Payload.PayloadText in
    let at = c.args.rounds.now in
    let net = c.network-net.result.now in
    let v = c.args.v in
    let port = c.loop-port.port in
    let out = outbox_at g.P.NodeProgram.program at.net at.pulse v in
    let so_far = c.loop-port.text.items in
    let put : ℕ → ℕ → Option _ → List ℕ = λ p w sent. put_text payloads p v w sent in
    let ok = subst (λ (n : Net). IsNetwork n) c.network-net.ensures.net c.degree-port-end.ensures.network in
    let below = subst (λ (n : Net). port < degree_of n v) c.network-net.ensures.net
    (subst (λ (n : ℕ). port < n) c.degree-port-end.ensures.value c.loop-port-test.true) in
    one_more payloads at.net at.pulse v port out c.args.text.now.items so_far c.match-sent.text.items ok
    c.requires.vertex below c.loop-port.invariant
    (elim c.match-sent.branch [
      | in-Some+in_ok-push_row w ↦
          ap (λ t. t.items) w.text-is
          ∙ w.in_ok-push_row.ensures.text
          ∙ ap (λ p. so_far ++ put p w.neighbour.result (Some w.in-Some.payload)) w.pulse.ensures.pulse
          ∙ ap (λ k. so_far ++ put at.pulse k (Some w.in-Some.payload)) w.neighbour.ensures.value
          ∙ ap (λ (n : Net). so_far ++ put at.pulse (neighbour_of n v port) (Some w.in-Some.payload)) c.network-net.ensures.net
          ∙ ap (λ sent. so_far ++ put at.pulse (neighbour_of at.net v port) sent) (sym w.in-Some.is ∙ c.sent.ensures.payload)
      | in_default w ↦
          ap (λ t. t.items) w.text-is
          ∙ sym (append-nil so_far)
          ∙ ap (λ sent. so_far ++ put at.pulse (neighbour_of at.net v port) sent) (sym w.in_default.is ∙ c.sent.ensures.payload)
    ])
