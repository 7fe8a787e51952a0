use Rattle.std.proofs.Common.{◌≡◌, ◌+◌, ◌-◌, ◌*◌, ◌%◌, ◌<◌, ◌≤◌, ℕ, false, [], sym, ◌∙◌, arith, subst, ap}
use Rattle.interference.specs.Net.{Net, IsBarred, IsNetwork, IsVertex, bars_of, span_of}
use Rattle.node_api.specs.Program.{sizes_of}
use Rattle.node_api.specs.Run.{last_state}
use Rattle.recolouring.specs.Knowing.{has_bars, recolouring, rises}
use Rattle.recolouring.specs.Texts.{plan_of_passes}
use Rattle.recolouring.proofs.Passes.{at-end, end-is, end-of, entered, falls, first-old, inside-of, new, no_greater}
use Rattle.recolouring.proofs.Passes.{old, old-is, one-start, one-sweep, size}
use Rattle.recolouring.proofs.Plans as plans
use Rattle.recolouring.proofs.laws.rounds_end_with_a_plan_that_none_can_lower.Goals as goal

-- after the last pulse each node has the colour of the last sweep
ends : (net : Net) (ok : IsNetwork net) (v : ℕ) → IsVertex net v
    → (last_state recolouring net v).beside.colour ≡ new net ok (end-of net ok net.again) v
ends net ok v is_vertex = at-end net ok net.again v is_vertex

pub returns-clause-proper : goal.returns-clause-proper
returns-clause-proper c = λ net ok v w edge same.
    let k : ℕ = end-of net ok net.again in
    let before = entered net ok k in
    plans.proper net ok k before.0 before.1 before.2 before.3 v w edge.0 edge.1
    (sym (ends net ok v edge.0) ∙ (same ∙ ends net ok w (inside-of net ok v w edge.0 edge.1)))

pub returns-clause-unbarred : goal.returns-clause-unbarred
returns-clause-unbarred c = λ net ok v is_vertex barred.
    let k : ℕ = end-of net ok net.again in
    let before = entered net ok k in
    plans.unbarred net ok k before.0 before.1 before.2 before.3 v is_vertex
    (subst (IsBarred net v) (ends net ok v is_vertex) barred)

pub returns-clause-within : goal.returns-clause-within
returns-clause-within c = λ net ok v is_vertex.
    let k : ℕ = end-of net ok net.again in
    let before = entered net ok k in
    let most = plans.within net ok k before.0 before.1 before.2 before.3 (falls net ok net.again) v is_vertex in
    omega (arith, ends net ok v is_vertex, most)

pub returns-clause-lowest : goal.returns-clause-lowest
returns-clause-lowest c = λ net ok v colour is_vertex less unbarred_there.
    let k : ℕ = end-of net ok net.again in
    let before = entered net ok k in
    let there = plans.lowest net ok k before.0 before.1 before.2 before.3 (falls net ok net.again) v colour is_vertex
    (subst (λ (n : ℕ). colour < n) (ends net ok v is_vertex) less) unbarred_there in
    (there.0, there.1, ends net ok there.0 (inside-of net ok v there.0 is_vertex there.1) ∙ there.2)

pub returns-clause-no_more : goal.returns-clause-no_more
returns-clause-no_more c = λ net ok none third greatest most v is_vertex.
    let k : ℕ = end-of net ok net.again in
    let before = entered net ok k in
    let without : has_bars (sizes_of net) ≡ false = plans.no-bars-then net ok none v is_vertex in
    let here : k ≡ net.again = one-sweep net ok without net.again in
    let begins : (w : ℕ) → IsVertex net w → old net ok k w ≡ plan_of_passes net.again net w =
    λ w inside. ap (λ (n : ℕ). old net ok n w) (one-start net ok without net.again) ∙ old-is net ok net.again w inside in
    let fewer = plans.no_more net ok k before.0 before.1 before.2 before.3 (falls net ok net.again) none greatest
    (λ w inside. omega (arith, begins w inside, most w inside))
    (λ w. plans.from-greatest (has_bars (sizes_of net)) k (span_of net) (old net ok k w) without (ap (λ (n : ℕ). n % 3) here ∙ third))
    v is_vertex in
    omega (arith, ends net ok v is_vertex, begins v is_vertex, fewer)

pub returns-clause-no_greater : goal.returns-clause-no_greater
returns-clause-no_greater c = λ net ok greatest most v is_vertex.
    let bound = no_greater net ok greatest (net.again * size net ok) (size net ok - 1)
    (λ w inside. omega (arith, old-is net ok net.again w inside, most w inside)) v is_vertex in
    omega (arith, ends net ok v is_vertex, ap (λ (n : ℕ). new net ok n v) (end-is net ok net.again), bound)

pub returns-clause-never_more : goal.returns-clause-never_more
returns-clause-never_more c = λ net ok greatest most v is_vertex.
    let k : ℕ = end-of net ok net.again in
    let bound = no_greater net ok greatest 0 k (λ w inside. omega (arith, first-old net ok w inside, most w inside)) v is_vertex in
    let same : 0 + k ≡ k = omega arith in
    omega (arith, ends net ok v is_vertex, ap (λ (n : ℕ). new net ok n v) same, bound)
