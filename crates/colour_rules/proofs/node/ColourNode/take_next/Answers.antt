use Rattle.std.proofs.Common.{ℕ, ◌≤◌, refl, subst, sym, arith}
use Rattle.node_api.specs.Program.{span}
use Rattle.node_api.specs.Boxes.{Reads}
use Rattle.colour_rules.specs.declared.payload.Payload.{Payload}
use Rattle.colour_rules.specs.declared.payload.Payload.TheVariants.{Chosen}
use Rattle.colour_rules.proofs.Taking.{passed-more}
use Rattle.colour_rules.proofs.node.ColourNode.take_next.Goals as goal

pub returns-in-Chosen : goal.returns-in-Chosen
returns-in-Chosen c =
    record {
      taken =
          let reads : Reads c.args.reader.now (Chosen c.in-Chosen.colour) c.next-payload.new.self =
          subst (λ (payload : Payload). Reads c.args.reader.now payload c.next-payload.new.self) c.in-Chosen.is c.next-payload.ensures.reads in
          let low : c.in-Chosen.colour ≤ span c.args.self.now.sizes = omega (arith, c.get.ensures.number, c.if-takes.ensures.low refl) in
          record {
            reads = subst (λ (n : ℕ). Reads c.args.reader.now (Chosen n) c.next-payload.new.self) (sym c.get-in-Chosen.ensures.number) reads;
            low = omega (arith, c.get-in-Chosen.ensures.number, low);
            passed = passed-more c.args.self.now c.args.forest c.args.reader.now.slots c.requires.ports c.args.reader.now c.next-payload.new.self
                c.sender-port.result c.in-Chosen.colour refl c.sender-port.ensures.port reads low (c.if-takes.ensures.merged refl) c.requires.passed;
          };
    }
