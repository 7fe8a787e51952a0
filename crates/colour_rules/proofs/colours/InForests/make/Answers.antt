use Rattle.std.proofs.Common.{rules, ◌≡◌, false, List, replicate, ap, ◌∙◌}
use Rattle.colour_rules.specs.declared.colours.InForest.{InForest}
use Rattle.colour_rules.specs.InForests.{befores_of, colour_by, colours_by, blank}
use Rattle.colour_rules.proofs.Turned.{map-same}
use Rattle.colour_rules.proofs.colours.InForests.make.Goals as goal

pub returns-clause-colours : goal.returns-clause-colours
returns-clause-colours c =
    let items : c.in_ok-each.each.items ≡ replicate c.args.forests blank = search rules in
    λ id. ap (λ (each : List InForest). colours_by id false each) items ∙ map-same (colour_by id false) c.args.forests blank

pub returns-clause-before : goal.returns-clause-before
returns-clause-before c =
    let items : c.in_ok-each.each.items ≡ replicate c.args.forests blank = search rules in
    ap (λ (each : List InForest). befores_of each) items ∙ map-same (λ one. one.before) c.args.forests blank
