use Rattle.recolouring.proofs.texts.RecoloursSequelTextColouring.rounds_end.Goals as goal

pub returns : goal.returns
returns c =
    let ends = c.rounds_end_with_a_plan_that_none_can_lower.ensures in
    record {
      law = λ net ok. record {
        proper = λ v w edge. ends.proper net ok v w edge;
        unbarred = λ v is_vertex. ends.unbarred net ok v is_vertex;
        within = λ v is_vertex. ends.within net ok v is_vertex;
        lowest = λ v colour is_vertex less. ends.lowest net ok v colour is_vertex less;
        no_more = λ none third greatest most. ends.no_more net ok none third greatest most;
        no_greater = λ greatest most. ends.no_greater net ok greatest most;
        never_more = λ greatest most. ends.never_more net ok greatest most;
      };
    }
