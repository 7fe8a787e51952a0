use Rattle.colour_rules.proofs.Turned.{seeded-all}
use Rattle.colour_rules.proofs.colours.InForests.seed.Goals as goal

pub returns-clause-colours : goal.returns-clause-colours
returns-clause-colours c = λ id. seeded-all id c.args.self.now.each.items
