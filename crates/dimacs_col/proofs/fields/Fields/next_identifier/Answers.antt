use Rattle.std.proofs.Common.{◌∙◌, ap, sym}
use Rattle.std.specs.Option.{option_copied}
use Rattle.dimacs_col.proofs.FieldNumbers.{identifier-missing}
use Rattle.dimacs_col.proofs.fields.Fields.next_identifier.Goals as goal

pub returns-in-None-clause-first : goal.returns-in-None-clause-first
returns-in-None-clause-first c =
    sym (identifier-missing c.args.self.now 0 (sym c.next.ensures.first ∙ ap (λ o. option_copied o) c.in-None.is))
