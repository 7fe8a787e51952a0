use Rattle.std.proofs.Common.{◌≡◌, ◌*◌, length, subst, arith}
use Rattle.std.specs.Vec.{with_items}
use Rattle.std.proofs.lemmas.List.{with_items_is}
use Rattle.interference.specs.Filling.{AreStarts}
use Rattle.interference.proofs.making.rows_of.Goals as goal

pub returns : goal.returns
returns c =
    let ports_is : (with_items c.in_ok-ports.ports c.fill.new.ports).items ≡ c.fill.new.ports = with_items_is c.in_ok-ports.ports _ (omega arith) in
    let backs_is : (with_items c.in_ok-backs.backs c.fill.new.backs).items ≡ c.fill.new.backs = with_items_is c.in_ok-backs.backs _ (omega arith) in
    let long : 2 * length c.args.edges.now ≡ length c.fill.new.ports = omega (arith, c.in_ok-ports.ensures.len) in
    rw (ports_is, backs_is) (record {
      fit = c.requires.fit;
      are = subst (AreStarts c.args.nodes c.args.edges.now c.args.starts.now) long c.requires.starts;
      placed = c.fill.ensures;
      long = omega (arith, c.in_ok-ports.ensures.len, c.in_ok-backs.ensures.len);
    })
