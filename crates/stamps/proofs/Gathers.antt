-- The entries of one node more behind those of others.
use Rattle.std.proofs.Common.{◌≡◌, ℕ, suc, ◌+◌, ◌<◌, ◌≤◌, List, [], ◌∷◌, ◌++◌, map, take, length, get_or, sym, ap, ◌∙◌, append_assoc, arith}
use Rattle.std.proofs.lemmas.List.{append-nil, length-map, length-take-le, map-append}
use Rattle.std.proofs.Math.Seq.{take-suc}
use Rattle.entries.specs.declared.rows.StampedEntry.{StampedEntry}
use Rattle.stamps.specs.Gathered.{rows_from, with_vertex}

module _ {M : Type 0} where
  rows_behind : (v : ℕ) (lists : List (List (StampedEntry M))) (list : List (StampedEntry M))
      → rows_from v (lists ++ (list ∷ [])) ≡ rows_from v lists ++ with_vertex (v + length lists) list
  rows_behind v [] list = let e : v ≡ v + 0 = omega arith in append-nil (with_vertex v list) ∙ ap (λ k. with_vertex k list) e
  rows_behind v (first ∷ lists) list =
      let e : suc v + length lists ≡ v + suc (length lists) = omega arith in
      ap (λ l. with_vertex v first ++ l) (rows_behind (suc v) lists list ∙ ap (λ k. rows_from (suc v) lists ++ with_vertex k list) e)
      ∙ sym (append_assoc (with_vertex v first) (rows_from (suc v) lists) (with_vertex (v + suc (length lists)) list))

  pub list_more : {X : Type 0} (f : X → List (StampedEntry M)) (lists : List X) (i : ℕ) (list : X) → i < length lists → list ≡ get_or lists i list
      → rows_from 1 (map f (take i lists)) ++ with_vertex (i + 1) (f list) ≡ rows_from 1 (map f (take (i + 1) lists))
  list_more f lists i list lt is =
      let more : suc i ≡ i + 1 = omega arith in
      let le : i ≤ length lists = omega (arith, lt) in
      let n = length-take-le i lists le in
      let many : i + 1 ≡ 1 + length (map f (take i lists)) = omega (arith, n, length-map (take i lists) f) in
      ap (λ k. rows_from 1 (map f (take i lists)) ++ with_vertex k (f list)) many
      ∙ sym (rows_behind 1 (map f (take i lists)) (f list))
      ∙ ap (λ l. rows_from 1 l) (sym (map-append f (take i lists) (list ∷ [])) ∙ ap (λ l. map f l)
      (sym (take-suc lists i list lt ∙ ap (λ x. take i lists ++ (x ∷ [])) (sym is))) ∙ ap (λ k. map f (take k lists)) more)
