-- The words of the edition with stamps.
use Rattle.std.proofs.Common.{◌≡◌, true, false, ap, sym}
use Rattle.std.specs.Prelude.{codes, if◌then◌else◌}
use Rattle.program_texts.specs.Texts.{ProgramTexts}
use Rattle.transcripts.specs.TranscriptText.{named_edition}
use Rattle.plan_runs.specs.Transcripts.{stamped_edition}

pub edition-named : {S : Type 0} (texts : ProgramTexts S) → texts.is_named ≡ true → named_edition texts.name ≡ stamped_edition texts
edition-named texts is = sym (ap (λ b. if b then named_edition texts.name else codes "2") is)

pub edition-plain : {S : Type 0} (texts : ProgramTexts S) → texts.is_named ≡ false → codes "2" ≡ stamped_edition texts
edition-plain texts is = sym (ap (λ b. if b then named_edition texts.name else codes "2") is)
