use Rattle.std.proofs.Common.{◌≡◌, ◌∙◌, [], true, Some, None, Option, is_some, refl, sym, ap, subst, option_map}
use Rattle.clap.specs.Words.{App, fault_of, is_simple, kind_of, subcommand_of}
use Rattle.clap.specs.Walk.{texts}
use Rattle.clap.specs.Faults.{is_simple_and_free}
use Rattle.clap.specs.Kinds.{HasKind}
use Rattle.command_line.specs.Line.{line}
use Rattle.command_line.proofs.Declining.{declined}
use Rattle.command_line.proofs.Lines.{line_is_free, line_is_simple, line_wants_a_command}
use Rattle.command_line.proofs.declined.matches_of.Goals as goal

mapped : {X Y : Type 0} (f : X → Y) (o : Option X) → is_some o ≡ true → is_some (option_map f o) ≡ true
mapped f None h = h
mapped f (Some x) h = refl

pub returns-in-Ok-try_get_matches_from-clause-ok : goal.returns-in-Ok-try_get_matches_from-clause-ok
returns-in-Ok-try_get_matches_from-clause-ok c =
    let e = c.in-Ok-try_get_matches_from.ensures in
    let words = texts c.args.words.now in
    let shape = c.in-Ok.ensures.shape in
    let none : fault_of (line c.args.executable) words ≡ [] =
    ap (λ (a : App). fault_of a words) (sym shape) ∙ e.kinds (ap is_simple_and_free shape ∙ line_is_free c.args.executable) in
    let rows_are = (e.matches (ap is_simple shape ∙ line_is_simple c.args.executable)).1 ∙ ap (λ (a : App). subcommand_of a words) shape in
    let wanted = e.parsed.from.needs_subcommand ∙ ap (λ (a : App). a.top.subcommand_required) shape ∙ line_wants_a_command c.args.executable in
    let parsed = e.parsed.parsed (e.parsed.from.globals ∙ c.in-Ok.ensures.local) in
    let there = mapped _ _ (parsed.checked.subcommand wanted) in
    record { faultless = none; command = rows_are; one = there }

pub returns-in-Err-clause-err : goal.returns-in-Err-clause-err
returns-in-Err-clause-err c =
    let words = texts c.args.words.now in
    let shape = c.in-Ok.ensures.shape in
    let has = subst (λ (a : App). HasKind (fault_of a words) c.in-Err.error) shape
    (c.in-Err.ensures.kinds (ap is_simple_and_free shape ∙ line_is_free c.args.executable)) in
    declined c.args.executable words (kind_of c.in-Err.error) c.declined_by.result has c.declined_by.ensures
