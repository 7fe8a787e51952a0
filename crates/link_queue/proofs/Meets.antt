-- What a view of both ends knows while the wires on the queue are taken, and once they all are.
use Rattle.std.proofs.Common.{◌≡◌, ◌<◌, ◌≤◌, ◌+◌, ℕ, true, List, [], ◌∷◌, ◌++◌, length, refl, sym, ap, ◌∙◌, append_assoc, append-nil, length-append, arith}
use Rattle.wires.specs.declared.stamped.Stamped.{Stamped}
use Rattle.link_queue.specs.declared.view.EndView.{EndView}
use Rattle.link_queue.specs.Rule.{end_view}

module _ {T : Type 0} where
  -- what a view is after v, once these wires were taken
  abbrev after : EndView T → List (Stamped T) → EndView T
  after v held = end_view v.name true true v.put (v.taken ++ held)

  -- before the first take no wire is held
  pub seen_first : (v : EndView T) (held : List (Stamped T)) → v.puts ≡ true → v.takes ≡ true → held ≡ []
      → v ≡ after v held
  seen_first v held puts takes none =
      let e : v.taken ≡ v.taken ++ held = sym (ap (λ l. v.taken ++ l) none ∙ append-nil v.taken) in
      λ i. end_view v.name (puts i) (takes i) v.put (e i)

  -- one more take
  pub seen_next : (v w u : EndView T) (held now : List (Stamped T)) (x y : Stamped T) → w ≡ after v held
      → u ≡ end_view w.name w.puts w.takes w.put (w.taken ++ x ∷ []) → y ≡ x → now ≡ held ++ y ∷ [] → u ≡ after v now
  seen_next v w u held now x y seen step same more =
      let e : now ≡ held ++ x ∷ [] = more ∙ ap (λ z. held ++ z ∷ []) same in
      step
      ∙ ap (λ (z : EndView T). end_view z.name z.puts z.takes z.put (z.taken ++ x ∷ [])) seen
      ∙ ap (end_view v.name true true v.put) (append_assoc v.taken held (x ∷ []) ∙ sym (ap (λ l. v.taken ++ l) e))

  -- what was put, of the view and of the items that are left
  order : (v w : EndView T) (held items : List (Stamped T)) → w ≡ after v held → w.put ≡ w.taken ++ items
      → v.put ≡ (v.taken ++ held) ++ items
  order v w held items seen all = sym (ap (λ u. u.put) seen) ∙ all ∙ ap (λ u. u.taken ++ items) seen

  -- and its length
  measured : (v : EndView T) (held items : List (Stamped T)) → v.put ≡ (v.taken ++ held) ++ items
      → length v.put ≡ length v.taken + length held + length items
  measured v held items e =
      ap length e ∙ length-append (v.taken ++ held) items ∙ ap (λ k. k + length items) (length-append v.taken held)

  -- while fewer are held than there were, the queue is not empty
  pub not_empty : (v w : EndView T) (held items : List (Stamped T)) (n i : ℕ) → w ≡ after v held
      → length v.put ≡ length v.taken + n → i ≡ length held → i < n → length items ≡ 0 → w.put ≡ w.taken ++ items → ⊥
  not_empty v w held items n i seen all count less none is =
      omega (arith, measured v held items (order v w held items seen is))

  empty : (l : List (Stamped T)) → length l ≡ 0 → l ≡ []
  empty [] is = refl
  empty (x ∷ xs) is = cc

  -- once as many are held as there were, nothing is left
  pub all_held : (v w : EndView T) (held items : List (Stamped T)) (n : ℕ) → w ≡ after v held
      → length v.put ≡ length v.taken + n → length held ≡ n → w.put ≡ w.taken ++ items → v.put ≡ v.taken ++ held
  all_held v w held items n seen all count is =
      let e = order v w held items seen is in
      let none : length items ≡ 0 = omega (arith, measured v held items e) in
      e ∙ ap (λ l. (v.taken ++ held) ++ l) (empty items none) ∙ append-nil (v.taken ++ held)

  -- as many are on the queue as were put and not taken
  pub left_over : (v w : EndView T) (items : List (Stamped T)) (n : ℕ) → w ≡ v → v.put ≡ v.taken ++ items
      → length items ≡ n → length w.put ≡ length w.taken + n
  left_over v w items n same is count =
      ap (λ u. length u.put) same ∙ ap length is ∙ length-append v.taken items
      ∙ (λ i. length (sym same i).taken + count i)

-- room for one more, while fewer are held than there is room for
pub room_left : (len i n room : ℕ) → len ≡ i → i < n → n ≤ room → len < room
room_left len i n room is less fits = omega arith

-- a count that has come to its end
pub same_count : (len i n size : ℕ) → len ≡ size → len ≡ i → i ≤ n → n ≤ i → size ≡ n
same_count len i n size whole is most least = omega arith
