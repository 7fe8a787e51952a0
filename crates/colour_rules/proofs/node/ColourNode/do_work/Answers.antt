-- The plan: what came at Orient is an identifier from each port (hellos); the other phases have what they ask for from what was accepted (Bounds).
use Rattle.std.proofs.Common.{◌≡◌, ◌≢◌, [], length, ap, sym, subst, ◌∙◌, inl, inr}
use Rattle.std.specs.Prelude.{None}
use Rattle.std.specs.List.{All, AllPairs}
use Rattle.colour_rules.specs.declared.phase.Phase.{Phase}
use Rattle.colour_rules.specs.Node.{IsPhase}
use Rattle.colour_rules.specs.Refusals.{IsAccepted, first_refusal}
use Rattle.colour_rules.specs.Program.{work_of}
use Rattle.colour_rules.proofs.Bounds.{labels-within, chosen-within}
use Rattle.colour_rules.proofs.Hellos.{OnlyHellos, only_hellos, oriented-is}
use Rattle.colour_rules.proofs.Rooms.{idle-is}
use Rattle.colour_rules.proofs.node.ColourNode.do_work.Goals as goal
use Rattle.colour_rules.proofs.node.ColourNode.do_work.Goals.{In-Orient}

hellos : (c : In-Orient) → OnlyHellos c.args.self.now.id [] c.args.inbox.now.slots
hellos c = only_hellos c.args.self.now c.args.phase c.args.inbox.now.slots c.in-Orient.is c.requires.accepted.size c.requires.accepted.by_ports

pub orient-requires-clause-ports : goal.orient-requires-clause-ports
orient-requires-clause-ports c =
    let at = (goal.at.orient-requires-clause-ports c).In-Orient in
    ap length c.requires.came ∙ ((hellos at).size ∙ c.requires.accepted.size)

pub orient-requires-clause-distinct : goal.orient-requires-clause-distinct
orient-requires-clause-distinct c =
    let at = (goal.at.orient-requires-clause-distinct c).In-Orient in
    subst (AllPairs (λ x y. x ≢ y)) (sym c.requires.came) (hellos at).distinct

pub orient-requires-clause-others : goal.orient-requires-clause-others
orient-requires-clause-others c =
    let at = (goal.at.orient-requires-clause-others c).In-Orient in
    subst (All (λ id. id ≢ c.args.self.now.id)) (sym c.requires.came) (hellos at).others

pub seed-requires-clause-labels : goal.seed-requires-clause-labels
seed-requires-clause-labels c =
    labels-within c.args.self.now c.args.inbox.now.slots c.requires.accepted.size
    (subst (λ (phase : Phase). first_refusal c.args.self.now phase c.args.inbox.now.slots ≡ None) c.in-Seed.is c.requires.accepted.by_ports)

pub work-requires-clause-accepted : goal.work-requires-clause-accepted
work-requires-clause-accepted c =
    subst (λ (phase : Phase). IsAccepted c.args.self.now phase c.args.inbox.now.slots) c.in-Work.is c.requires.accepted

pub merge-requires-clause-real : goal.merge-requires-clause-real
merge-requires-clause-real c = subst (IsPhase c.args.self.now.sizes) c.in-Merge.is c.requires.accepted.real

pub merge-requires-clause-colours : goal.merge-requires-clause-colours
merge-requires-clause-colours c =
    chosen-within c.args.self.now c.in-Merge.forest c.in-Merge.step c.args.inbox.now.slots c.requires.accepted.size
    (subst (λ (phase : Phase). first_refusal c.args.self.now phase c.args.inbox.now.slots ≡ None) c.in-Merge.is c.requires.accepted.by_ports)

pub returns-in-Orient : goal.returns-in-Orient
returns-in-Orient c =
    record {
      node =
          let at = (goal.at.returns-in-Orient c).In-Orient in
          oriented-is c.args.self.now c.orient.new.self c.args.phase c.args.identifiers.now c.args.inbox.now.slots c.orient.new.out c.in-Orient.is
          c.requires.came (hellos at) c.orient.ensures.node c.orient.ensures.out;
    }

pub returns-in-Greet : goal.returns-in-Greet
returns-in-Greet c =
    record {
      node =
          let at = λ (phase : Phase). work_of c.args.self.now phase c.args.inbox.now.slots in
          idle-is c.args.self.now c.args.phase c.args.inbox.now.slots c.args.out.now
          (elim c.in-Greet.is [ inl greet ↦ ap at greet | inr halted ↦ ap at halted ])
          c.requires.out;
    }
