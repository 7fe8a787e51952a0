-- What a run reports of its nodes' refusals says of them.
use Rattle.std.proofs.Common.{◌≡◌, List, [], ◌∷◌, map, Option, Some, None, Ok}
use Rattle.std.specs.Prelude.{All}
use Rattle.std.proofs.lemmas.List.Elements.{All-cons, All-nil}
use Rattle.wired_nodes.specs.declared.refused.TurnRefused.{TurnRefused}
use Rattle.wired_nodes.specs.declared.refused.TurnRefused.TheVariants.{Memory, StampFull}
use Rattle.node_runs.specs.Refusals.{fault_of_refusals}

module _ {A : Type 0} (done : A) where
  refused_first : (refusal : Option TurnRefused) (refusals : List (Option TurnRefused)) (x : A) → fault_of_refusals done (refusal ∷ refusals) ≡ Ok x
      → (refusal ≡ Some Memory → ⊥) × (fault_of_refusals done refusals ≡ Ok x)
  refused_first None refusals x e = (λ is. cc, e)
  refused_first (Some Memory) refusals x e = absurd cc
  refused_first (Some StampFull) refusals x e = (λ is. cc, e)

  -- nothing is reported only if no node remembers that memory was refused
  pub none_refused : {N : Type 0} (refusal_of : N → Option TurnRefused) (nodes : List N) (x : A)
      → fault_of_refusals done (map refusal_of nodes) ≡ Ok x → All (λ n. refusal_of n ≡ Some Memory → ⊥) nodes
  none_refused refusal_of [] x e = All-nil (λ n. refusal_of n ≡ Some Memory → ⊥)
  none_refused refusal_of (n ∷ nodes) x e =
      let first = refused_first (refusal_of n) (map refusal_of nodes) x e in
      All-cons (λ m. refusal_of m ≡ Some Memory → ⊥) n nodes first.0 (none_refused refusal_of nodes x first.1)
