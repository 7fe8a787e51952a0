-- An outbox with nothing in it has no lines.
use Rattle.std.proofs.Common.{◌≡◌, ◌∙◌, ◌++◌, ℕ, zero, suc, List, [], ◌∷◌, Option, None, ap, refl, get_or, replicate}
use Rattle.std.specs.List.{flat_map}
use Rattle.interference.specs.Net.{Net, neighbours, port_to}
use Rattle.node_api.specs.Boxes.{at_port, nothing}
use Rattle.program_texts.specs.PayloadTexts.{PayloadTexts}
use Rattle.play_runs.specs.PutsText.{put_text, puts_text}

none_at : {M : Type 0} (n i : ℕ) → get_or {A = Option M} (replicate n None) i None ≡ None
none_at zero i = refl
none_at (suc n) zero = refl
none_at (suc n) (suc i) = none_at n i

module _ {M : Type 0} (payloads : PayloadTexts M) (net : Net) (p v n : ℕ) where
  no_lines : (ws : List ℕ) → flat_map (λ w. put_text payloads p v w (at_port (nothing n) (port_to net v w))) ws ≡ []
  no_lines [] = refl
  no_lines (w ∷ ws) = ap (λ sent. put_text payloads p v w sent ++ flat_map
      (λ u. put_text payloads p v u (at_port (nothing n) (port_to net v u))) ws) (none_at n (port_to net v w)) ∙ no_lines ws

  pub quiet_text : puts_text payloads net p v (nothing n) ≡ []
  quiet_text = no_lines (neighbours net v)
