use Rattle.std.proofs.Common.{[], ◌∷◌, ◌++◌, map, replicate, sym, ap, ◌∙◌}
use Rattle.std.proofs.lemmas.List.{map-append}
use Rattle.std.specs.List.{range_with_len}
use Rattle.interference.specs.Net.{degree_of}
use Rattle.event_rule.specs.State.{no_link}
use Rattle.event_rule.proofs.Parts.{map-next}
use Rattle.event_machine.proofs.links.Links.new.Goals as goal

pub loop-i-preserved : goal.loop-i-preserved
loop-i-preserved g c =
    let net = c.args.net.now in
    let i = c.loop-i.i in
    ap (λ l. map (λ row. row.items) l) c.in_ok-push.ensures.items
    ∙ map-append (λ row. row.items) c.loop-i.rows.items (c.in_ok-row.row ∷ [])
    ∙ ap (λ l. l ++ (c.in_ok-row.row.items ∷ [])) c.loop-i.invariant
    ∙ ap (λ l. map (λ v. replicate (degree_of net v) no_link) (range_with_len 1 i) ++ (l ∷ []))
    (c.in_ok-row.ensures.row ∙ ap (λ n. replicate n no_link) c.degree.ensures.value)
    ∙ sym (map-next (λ v. replicate (degree_of net v) no_link) i)
