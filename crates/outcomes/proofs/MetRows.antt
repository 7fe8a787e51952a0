-- A row of links whose ends have met, and one more.
use Rattle.std.proofs.Common.{◌≡◌, ◌-◌, List, [], ◌∷◌, ◌++◌, length, map, take, sym, ap, ◌∙◌, arith}
use Rattle.std.specs.Prelude.{All, Option}
use Rattle.std.proofs.lemmas.List.{length-append, map-append}
use Rattle.std.proofs.lemmas.List.Elements.{All-push, All-same}
use Rattle.wired_nodes.proofs.Lists.{take_front}
use Rattle.wires.specs.declared.stamped.Stamped.{Stamped}
use Rattle.link_rule.specs.declared.name.LinkName.{LinkName}
use Rattle.link_queue.specs.declared.met.Met.{Met}
use Rattle.link_queue.specs.Ends.{HasMet, held_stamped}
use Rattle.outcomes.specs.Meets.{AreMet, RowsAreMet, put_of, taken_of}

module _ {T : Type 0} where
  -- what was taken is what the end that takes says
  taken_is : (met : Met T) (name : Option LinkName) (put taken : List (Stamped T)) → HasMet met name put taken → taken_of met ≡ taken
  taken_is met name put taken has =
      let all : put_of met ≡ taken ++ held_stamped met = has.all_put ∙ has.in_order in
      let long : length (put_of met) - length (held_stamped met) ≡ length taken =
      omega (arith, ap (λ l. length l) all, length-append taken (held_stamped met)) in
      ap (λ n. take n (put_of met)) long ∙ ap (λ l. take (length taken) l) all ∙ take_front taken (held_stamped met)

  -- no link
  pub none_met : (mets : List (Met T)) → mets ≡ [] → AreMet mets [] []
  none_met mets none = record {
    puts_are = ap (map put_of) none;
    takens_are = ap (map taken_of) none;
    splits = All-same (λ m. put_of m ≡ taken_of m ++ held_stamped m) mets [] none (λ k m lt. absurd (omega arith));
  }

  -- and one more
  pub one_met : (mets new : List (Met T)) (puts takens puts' takens' : List (List (Stamped T))) (met : Met T) (name : Option LinkName)
      (put taken : List (Stamped T)) → new ≡ mets ++ met ∷ [] → puts' ≡ puts ++ put ∷ [] → takens' ≡ takens ++ taken ∷ []
      → HasMet met name put taken → AreMet mets puts takens → AreMet new puts' takens'
  one_met mets new puts takens puts' takens' met name put taken pushed more_puts more_takens has are =
      let mine = taken_is met name put taken has in
      let split : put_of met ≡ taken_of met ++ held_stamped met = has.all_put ∙ has.in_order ∙ ap (λ l. l ++ held_stamped met) (sym mine) in
      record {
        puts_are = ap (map put_of) pushed ∙ map-append put_of mets (met ∷ []) ∙ ap (λ l. l ++ put_of met ∷ []) are.puts_are
            ∙ ap (λ p. puts ++ p ∷ []) has.all_put ∙ sym more_puts;
        takens_are = ap (map taken_of) pushed ∙ map-append taken_of mets (met ∷ []) ∙ ap (λ l. l ++ taken_of met ∷ []) are.takens_are
            ∙ ap (λ p. takens ++ p ∷ []) mine ∙ sym more_takens;
        splits = All-same (λ m. put_of m ≡ taken_of m ++ held_stamped m) new (mets ++ met ∷ []) pushed
            (All-push (λ m. put_of m ≡ taken_of m ++ held_stamped m) mets met are.splits split);
      }

  pub one_row_met : (rows new : List (List (Met T))) (puts takens puts' takens' : List (List (List (Stamped T)))) (mets : List (Met T))
      (put taken : List (List (Stamped T))) → new ≡ rows ++ mets ∷ [] → puts' ≡ puts ++ put ∷ [] → takens' ≡ takens ++ taken ∷ []
      → AreMet mets put taken → RowsAreMet rows puts takens → RowsAreMet new puts' takens'
  one_row_met rows new puts takens puts' takens' mets put taken pushed more_puts more_takens met are = record {
    puts_are = ap (map (λ mets. map put_of mets)) pushed ∙ map-append (λ mets. map put_of mets) rows (mets ∷ [])
        ∙ ap (λ l. l ++ map put_of mets ∷ []) are.puts_are ∙ ap (λ p. puts ++ p ∷ []) met.puts_are ∙ sym more_puts;
    takens_are = ap (map (λ mets. map taken_of mets)) pushed ∙ map-append (λ mets. map taken_of mets) rows (mets ∷ [])
        ∙ ap (λ l. l ++ map taken_of mets ∷ []) are.takens_are ∙ ap (λ p. takens ++ p ∷ []) met.takens_are ∙ sym more_takens;
    splits = All-same (λ mets. All (λ m. put_of m ≡ taken_of m ++ held_stamped m) mets) new (rows ++ mets ∷ []) pushed
        (All-push (λ mets. All (λ m. put_of m ≡ taken_of m ++ held_stamped m) mets) rows mets are.splits met.splits);
  }
