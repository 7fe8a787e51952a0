use Rattle.std.proofs.Common.{◌≡◌, ◌<◌, length, get_or, take, map, sym, ap, ◌∙◌, ◌++◌, ◌∷◌, [], arith}
use Rattle.std.proofs.lemmas.List.{take_more_set, map_more}
use Rattle.std.proofs.lemmas.List.Elements.{Contains-get_or}
use Rattle.forests.specs.Forests.{role_by}
use Rattle.forests.proofs.Roles.{role-is}
use Rattle.forests.proofs.numbering.number_with.Goals as goal

pub loop-port-preserved : goal.loop-port-preserved
loop-port-preserved c =
    let ids = c.args.ids.now in
    let port = c.loop-port.port in
    let here : port < length ids = c.loop-port-test.true in
    let role : c.role_among.result ≡ role_by c.args.own ids (get_or ids port 0) =
    role-is c.args.own ids (get_or ids port 0) _ c.role_among.result c.order_higher-count.ensures.ordered (Contains-get_or ids port 0 here)
    c.role_among.ensures.up c.role_among.ensures.unknown in
    take_more_set c.loop-port.roles port c.role_among.result (omega arith)
    ∙ (ap (λ rs. rs ++ c.role_among.result ∷ []) c.loop-port.invariant ∙ (ap (λ r. map (role_by c.args.own ids) (take port ids) ++ r ∷ []) role ∙
    sym (map_more (role_by c.args.own ids) ids port 0 here)))
