use Rattle.matching.proofs.texts.TurnsSequelTextColouring.rounds_end.Goals as goal

pub returns : goal.returns
returns c =
    let ends = c.rounds_end_with_a_maximal_matching.ensures in
    record {
      law = λ net ok. record {
        partners = λ v port is_vertex is. ends.partners net ok v port is_vertex is;
        maximal = λ v w edge. ends.maximal net ok v w edge;
      };
    }
