use Rattle.std.proofs.Common.{◌≡◌, ◌≢◌, ℕ, suc, ◌+◌, ◌≤◌, true, false, subst, ap, sym, ◌∙◌, arith}
use Rattle.std.specs.Prelude.{◌==◌, Bool, map}
use Rattle.std.proofs.lemmas.Bool.Decides.{nat_tests}
use Rattle.node_api.specs.Program.{span}
use Rattle.forest_merge.specs.Free.{HasFree, least_free_colour}
use Rattle.colour_rules.specs.Node.{Node, steps}
use Rattle.colour_rules.specs.Choice.{free_for}
use Rattle.colour_rules.specs.Taken.{is_taken_in}
use Rattle.colour_rules.specs.Program.{silent, tells_chosen}
use Rattle.colour_rules.proofs.Choosing.{HasFree-low}
use Rattle.colour_rules.proofs.Steps.{silent-is, waits-is, turns-is, told-else, told-if}
use Rattle.colour_rules.proofs.node.ColourNode.merge.Goals as goal

-- the colour is chosen among those that the span says
chosen-is : (limit most colour : ℕ) (is_taken : ℕ → Bool) → limit ≡ most → colour ≡ least_free_colour limit is_taken →
    colour ≡ least_free_colour most is_taken
chosen-is limit most colour is_taken same free = free ∙ ap (λ (n : ℕ). least_free_colour n is_taken) same

pub least_free-self-inside-requires : goal.least_free-self-inside-requires
least_free-self-inside-requires c =
    subst (λ (limit : ℕ). HasFree limit (is_taken_in c.self.inside.taken)) (sym (c.span.ensures ∙ ap (λ (n : Node). span n.sizes) (sym c.self.view_is)))
    (HasFree-low (c.self.inside.greatest_degree + c.self.inside.greatest_bars) (is_taken_in c.self.inside.taken)
    (subst (λ (node : Node). free_for node ≤ span node.sizes) (sym (c.self.view_is ∙ c.gather.ensures.node))
    (c.requires.free (sym c.if-is_turn.ensures))))

pub returns-else-step-steps : goal.returns-else-step-steps
returns-else-step-steps c =
    record {
      node =
          let node = c.args.self.now in
          let colour : ℕ = c.least_free-self-inside.result in
          let here = c.self.view_is ∙ c.gather.ensures.node in
          let end : suc c.args.step ≡ steps node.sizes = (let e : suc c.args.step ≡ c.steps.result = omega (arith, c.if-step-steps.false) in e ∙
          (c.steps.ensures ∙ ap (λ (n : Node). steps n.sizes) here)) in
          let last : (suc c.args.step == steps node.sizes) ≡ true = grind (arith, nat_tests) in
          turns-is node c.args.forest c.args.step c.args.inbox.now.slots c.args.out.now _ here c.if-is_turn.ensures colour
          (chosen-is _ _ colour (is_taken_in c.self.inside.taken) (c.span.ensures ∙ ap (λ (n : Node). span n.sizes) (sym c.self.view_is))
          c.least_free-self-inside.ensures)
          (told-if (suc c.args.step == steps node.sizes) c.args.out.now (silent node.roles) (map (tells_chosen c.args.forest colour) node.roles) last
          (c.requires.out ∙ silent-is node));
    }

pub returns-else-is_turn : goal.returns-else-is_turn
returns-else-is_turn c =
    record {
      node =
          waits-is c.args.self.now c.args.forest c.args.step c.args.inbox.now.slots c.args.out.now c.gather.new.self c.gather.ensures.node c.if-is_turn.ensures
          c.requires.out;
    }

pub returns-then-step-steps : goal.returns-then-step-steps
returns-then-step-steps c =
    record {
      node =
          let node = c.args.self.now in
          let colour : ℕ = c.least_free-self-inside.result in
          let here = c.self.view_is ∙ c.gather.ensures.node in
          let same : c.steps.result ≡ steps node.sizes = c.steps.ensures ∙ ap (λ (n : Node). steps n.sizes) here in
          let differs : suc c.args.step ≢ c.steps.result = omega (arith, c.if-step-steps.true) in
          let apart : suc c.args.step ≢ steps node.sizes = (λ e. differs (e ∙ sym same)) in
          let more : (suc c.args.step == steps node.sizes) ≡ false = grind (arith, nat_tests) in
          turns-is node c.args.forest c.args.step c.args.inbox.now.slots c.tell_chosen.new.out _ here c.if-is_turn.ensures colour
          (chosen-is _ _ colour (is_taken_in c.self.inside.taken) (c.span.ensures ∙ ap (λ (n : Node). span n.sizes) (sym c.self.view_is))
          c.least_free-self-inside.ensures)
          (told-else (suc c.args.step == steps node.sizes) c.tell_chosen.new.out (silent node.roles) (map (tells_chosen c.args.forest colour) node.roles) more
          (c.tell_chosen.ensures ∙ ap (λ (n : Node). map (tells_chosen c.args.forest colour) n.roles) here));
    }
