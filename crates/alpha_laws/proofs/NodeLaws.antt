-- The laws on one node, from the lemmas.
use Rattle.std.proofs.Common.{◌≡◌, suc, Option, Some, None, Ok, refl, ap, ◌∙◌, subst}
use Rattle.interference.specs.Net.{Net}
use Rattle.node_api.specs.Program.{Program, last_pulse_on}
use Rattle.node_api.specs.Run.{state_at}
use Rattle.alpha_core.specs.declared.refused.AlphaRefused.{AlphaRefused}
use Rattle.alpha_core.specs.View.{port_at, inbox_of}
use Rattle.alpha_core.specs.Table.{refusal_of}
use Rattle.alpha_core.specs.Alpha.{unless_refused, reacts, pulsed}
use Rattle.alpha_core.proofs.Cells.{taken-due}
use Rattle.alpha_laws.specs.Kept.{NodeKept}
use Rattle.alpha_laws.specs.Laws.{StartsKeep, PutsKeep, TakesKeep, PulsesKeep}
use Rattle.alpha_laws.proofs.Runs.{Runs}
use Rattle.alpha_laws.proofs.Local.{may_come}
use Rattle.alpha_laws.proofs.NodeTakes.{puts_kept, takes_node}
use Rattle.alpha_laws.proofs.NodePulses.{start_kept, pulse_node, inbox_is, can_below}

-- a reaction that isn't a refusal
reacted : {A : Type 0} (o : Option AlphaRefused) (x y : A) → unless_refused o x ≡ Ok y → (o ≡ None) × (x ≡ y)
reacted None x y e = (refl, cc)
reacted (Some refused) x y e = absurd cc

module _ {S M E : Type 0} (program : Program S M E) (net : Net) where
  pub starts_keep : Runs program net → StartsKeep program net
  starts_keep runs v vertex = start_kept program net v runs vertex

  pub puts_keep : PutsKeep program net
  puts_keep v i node sent sent' taken wire rest kept lt is more =
      puts_kept kept i wire rest sent' taken lt is more.others more.here (λ j. refl)

  pub takes_keep : TakesKeep program net
  takes_keep v i node sent taken taken' wire view kept lt legal is more =
      let last = last_pulse_on program net in
      let both = reacted (refusal_of last node.view.pulse node.view.said (port_at node.view i) wire) (reacts last node.view i wire) view is in
      let due = taken-due last node.view.pulse node.view.said (port_at node.view i) wire both.0 in
      subst (λ x. NodeKept program net v record { state = node.state; view = x } sent taken') both.1
      (takes_node kept i wire sent taken' lt due (may_come (kept.ports.each i lt) wire legal due) (λ j. refl) (λ j lt' ne. more.others j ne) more.here)

  pub pulses_keep : Runs program net → PulsesKeep program net
  pulses_keep runs v node sent taken kept vertex can =
      let last = last_pulse_on program net in
      let view = node.view in
      let low = can_below kept can in (
        _,
        ap (λ r. pulsed last node r)
            (ap (λ s. program.next s (suc view.pulse) (inbox_of view)) kept.state
            ∙ ap (λ l. program.next (state_at program net view.pulse v) (suc view.pulse) l) (inbox_is kept low.1)
            ∙ runs.accepted view.pulse v vertex low.0),
        pulse_node kept runs vertex can,
      )
