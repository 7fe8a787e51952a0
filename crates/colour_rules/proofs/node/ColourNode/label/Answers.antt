use Rattle.std.proofs.Common.{◌≡◌, ap, length, subst, ◌∙◌}
use Rattle.std.specs.Prelude.{List, Option, slice_set, IsTrue, false}
use Rattle.node_api.specs.Boxes.{HasFrom, Mail}
use Rattle.colour_rules.specs.declared.payload.Payload.{Payload}
use Rattle.colour_rules.specs.Node.{Node}
use Rattle.colour_rules.specs.Program.{all_labelled, with_roles}
use Rattle.colour_rules.proofs.KeptPorts.{length-labelled}
use Rattle.colour_rules.proofs.Labelling.{labelled-start, labelled-read, labelled-all, labelled-in}
use Rattle.colour_rules.proofs.Looping.{has_moved, sender_within}
use Rattle.colour_rules.proofs.Reading.{read-less}
use Rattle.colour_rules.proofs.Valid.{IsValid, valid-seen, valid-roles, valid-inside}
use Rattle.colour_rules.proofs.Widths.{fits_wider}
use Rattle.colour_rules.proofs.node.ColourNode.label.Goals as goal
use Rattle.colour_rules.proofs.node.ColourNode.label.Goals.{After-loop-reader}

pub loop-reader-preserved : goal.loop-reader-preserved
loop-reader-preserved c =
    let old = c.args.self.now.roles in
    let slots = c.args.inbox.now.slots in
    let roles = c.loop-reader.self-inside.roles.items in
    let port = c.sender-port.result in
    let reads = c.next-payload.ensures.reads in
    record {
      same = reads.same ∙ c.loop-reader.invariant.same;
      room = c.loop-reader.invariant.room;
      node = ap (λ (node : Node). with_roles node (slice_set roles port c.role_after_seed.result)) c.loop-reader.invariant.node;
      roles =
          rw c.role_after_seed.ensures
          (labelled-read old slots roles c.loop-reader.reader c.next-payload.new.self c.next-payload.result port c.index.result.now
          c.loop-reader.invariant.roles c.loop-reader.invariant.same c.requires.ports reads c.sender-port.ensures.port c.index.ensures);
    }

-- once nothing is left to be read, every port is labelled
labelled_roles : (c : After-loop-reader) → c.loop-reader.self-inside.roles.items ≡ all_labelled c.args.self.now.roles c.args.inbox.now.slots
labelled_roles c =
    let cursor = c.loop-reader.reader.cursor in
    let end : HasFrom c.loop-reader.reader.slots cursor → ⊥ = λ h. let e : IsTrue false = c.loop-reader-test.ensures.more.1 h in absurd (cc) in
    labelled-all c.args.self.now.roles c.args.inbox.now.slots cursor c.loop-reader.self-inside.roles.items c.loop-reader.invariant.roles c.requires.ports
    (subst (λ (slots : List (Option Payload)). HasFrom slots cursor → ⊥) c.loop-reader.invariant.same end)

pub returns : goal.returns
returns c =
    record {
      node = c.loop-reader.invariant.node ∙ ap (with_roles c.args.self.now) (labelled_roles (goal.at.returns c).After-loop-reader);
    }

pub loop-reader-init : goal.loop-reader-init
loop-reader-init c =
    record {
      same = ap (λ (mail : Mail Payload). mail.slots) c.reader-reader.ensures.unread;
      room = c.self.invariant.1;
      node = ap (λ (node : Node). with_roles node c.self.inside.roles.items) c.self.view_is;
      roles =
          labelled-start c.args.self.now.roles c.self.inside.roles.items c.args.inbox.now.slots c.reader-reader.result.cursor
          (ap (λ (node : Node). node.roles) c.self.view_is) (ap (λ (mail : Mail Payload). mail.cursor) c.reader-reader.ensures.unread);
    }

pub invariant_of-self : goal.invariant_of-self
invariant_of-self c =
    let node = c.args.self.now in
    let slots = c.args.inbox.now.slots in
    let valid : IsValid node = valid-seen c.self.inside node c.self.view_is c.self.invariant in
    let all = labelled_roles (goal.at.invariant_of-self c).After-loop-reader in
    valid-inside c.loop-reader.self-inside _ (c.loop-reader.invariant.node ∙ ap (with_roles node) all)
    (valid-roles node (all_labelled node.roles slots) valid (length-labelled node.roles slots c.requires.ports)
    (labelled-in node.sizes.forests node.roles slots c.requires.ports valid.known c.requires.labels)) c.loop-reader.invariant.room

pub next-payload-requires : goal.next-payload-requires
next-payload-requires c = record { more = c.has_next.ensures.more.0 c.loop-reader-test.true }

pub sender-port-requires : goal.sender-port-requires
sender-port-requires c = record { read = has_moved _ _ c.next-payload.ensures.reads.later }

pub overflow_cast-port : goal.overflow_cast-port
overflow_cast-port c = fits_wider c.sender-port.result c.sender-port.type_inv

pub index-requires : goal.index-requires
index-requires c =
    let loop = c.loop-reader in
    let reads = c.next-payload.ensures.reads in
    sender_within _ _ _ _ _ _ c.sender-port.ensures.port reads.within (ap length loop.invariant.same ∙ c.requires.ports)
    loop.invariant.roles.size loop.self-inside.roles.ok.0

pub role_after_seed-requires : goal.role_after_seed-requires
role_after_seed-requires c = tt

pub index_mut-requires : goal.index_mut-requires
index_mut-requires c =
    let loop = c.loop-reader in
    let reads = c.next-payload.ensures.reads in
    sender_within _ _ _ _ _ _ c.sender-port.ensures.port reads.within (ap length loop.invariant.same ∙ c.requires.ports)
    loop.invariant.roles.size loop.self-inside.roles.ok.0

pub loop-reader-smaller : goal.loop-reader-smaller
loop-reader-smaller c = read-less c.loop-reader.reader c.next-payload.result c.next-payload.new.self c.next-payload.ensures.reads
