-- The text of the colours of a network is its plain answer.
use Rattle.std.proofs.Common.{◌≡◌, ◌≢◌, ◌≤◌, ℕ, List, subst}
use Rattle.interference.specs.Net.{Net, IsBarred, IsNetwork, IsEdge, span_of}
use Rattle.plan_answers.specs.Answers.{IsPlainAnswer, ReadsAs}
use Rattle.plan_answers.specs.Plans.{IsChannelPlan}
use Rattle.plan_answers.specs.Texts.{colours_text}
use Rattle.colour_laws.specs.Colours.{colours}

-- the text of the colours is a channel plan
pub plain : (input text : List ℕ) (net : Net) → ReadsAs input (λ read. IsNetwork read × (net ≡ read)) → text ≡ colours_text net
    → ((v w : ℕ) → IsEdge net v w → colours net v ≢ colours net w) → ((v : ℕ) → colours net v ≤ span_of net)
    → ((v : ℕ) → IsBarred net v (colours net v) → ⊥) → IsPlainAnswer input text
plain input text net (graph, reads, (ok, e)) is proper within unbarred =
    let plan : IsChannelPlan net text = record {
      colour = colours net;
      rows = is;
      differ = proper;
      within = λ v vertex. within v;
      unbarred = λ v vertex. unbarred v;
    } in
    let there = subst (λ n. (text ≡ colours_text n) × IsChannelPlan n text) e (is, plan) in
    (graph, reads, (ok, there.0, there.1))
