use Rattle.std.proofs.Common.{◌≡◌, Bool, List, refl, ap, subst, sym, ◌∙◌}
use Rattle.std.specs.Prelude.{if◌then◌else◌, false, IsTrue, Ok, Option}
use Rattle.node_api.specs.Boxes.{HasFrom, Mail, nothing}
use Rattle.node_api.proofs.Reading.{nothing-came}
use Rattle.colour_rules.specs.declared.payload.Payload.{Payload}
use Rattle.colour_rules.specs.Choice.{with_taken}
use Rattle.colour_rules.specs.Idle.{IsWaiting}
use Rattle.colour_rules.specs.Node.{Node, ports}
use Rattle.colour_rules.specs.Program.{next}
use Rattle.colour_rules.proofs.Idling.{hears, idle-waiting, waits-on}
use Rattle.colour_rules.proofs.Taking.{passed-fine}
use Rattle.colour_rules.proofs.node.ColourNode.hear.Goals as goal

pub returns-then-not-has_next-clause-heard : goal.returns-then-not-has_next-clause-heard
returns-then-not-has_next-clause-heard c true =
    let node = c.args.self.now in
    let slots : List (Option Payload) = c.args.inbox.now.slots in
    let covered = c.if-not-contains.ensures.0 refl in
    let quiet : HasFrom slots 0 → ⊥ = λ some. let e : IsTrue false = c.if-not-has_next.ensures.more.1
    (subst (λ (mail : Mail Payload). HasFrom mail.slots mail.cursor) (sym c.reader.ensures.unread) some) in absurd (cc) in
    let empty : slots ≡ nothing (ports node) = nothing-came slots quiet ∙ ap (λ n. nothing n) c.requires.inbox in
    ap (next node c.args.pulse) empty ∙ idle-waiting node c.args.idle c.requires.waits c.args.pulse covered.0 covered.1

pub returns-clause-heard : goal.returns-clause-heard
returns-clause-heard c true =
    let node = c.args.self.now in
    let slots = c.args.inbox.now.slots in
    let covered = c.if-not-contains.ensures.0 refl in
    let new : c.hear_all.new.self ≡ with_taken node slots =
    c.hear_all.ensures.node ∙ ap (λ (b : Bool). if b then with_taken node slots else node) true in
    hears node c.args.idle c.args.pulse slots c.requires.waits covered.0 covered.1
    (passed-fine node c.args.idle.forest slots c.requires.inbox (c.hear_all.ensures.accepted true))
    ∙ ap (λ (n : Node). Ok (n, nothing {M = Payload} (ports node))) (sym new)

pub returns-clause-waits : goal.returns-clause-waits
returns-clause-waits c =
    subst (λ (node : Node). IsWaiting node c.args.idle) (sym c.hear_all.ensures.node)
    (waits-on c.args.self.now c.args.idle c.args.inbox.now.slots c.hear_all.result c.requires.waits)
