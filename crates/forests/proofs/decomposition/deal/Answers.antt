use Rattle.std.proofs.Common.{◌<◌, ◌++◌, ◌∷◌, [], ℕ, Vec, Global, length, get_or, map, ap, sym, ◌∙◌, arith}
use Rattle.std.proofs.lemmas.List.{map-set, length-map, get_or-map}
use Rattle.forests.proofs.Dealing.{dealt-more}
use Rattle.forests.proofs.decomposition.deal.Goals as goal

pub loop-forest-preserved : goal.loop-forest-preserved
loop-forest-preserved c =
    let i = c.loop-forest.forest in
    let lists = c.loop-forest.forests in
    let edges_of = λ (list : Vec (ℕ × ℕ × ℕ) Global). list.items in
    let parent = get_or c.args.parents.now i (0, 0) in
    let here : i < length c.args.parents.now = omega (arith, c.loop-forest-test.true) in
    let room : i < length lists = omega (arith, c.requires.room) in
    let long : i < length (map edges_of lists) = rw (length-map lists edges_of) room in
    let is = c.in_ok-push.ensures.items ∙ ap (λ edges. edges ++ (i, c.args.v, parent.1) ∷ [])
    (sym (get_or-map edges_of lists i c.index-forests-forest.result [] room)) in
    λ f below. ap (λ rows. get_or rows f []) (map-set edges_of lists i c.push.new.self)
    ∙ dealt-more c.args.v i c.args.parents.now (0, 0) here (map edges_of c.args.forests.now) (map edges_of lists) long c.push.new.self.items is f
    (c.loop-forest.invariant f below)
